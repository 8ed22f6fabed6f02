-- Each number that is given leaves one fewer to come.
use Rattle.std.proofs.Common.{arith}
use Rattle.module.specs.GatherLaws.{gathers_in_start, may_spare, may_give, gathers_in_next}
use Rattle.module.proofs.numbers.gather.Goals as goal

pub loop-slots-init : goal.loop-slots-init
loop-slots-init c = gathers_in_start _ _ _ _ c.requires

pub spare-from-requires : goal.spare-from-requires
spare-from-requires c = may_spare _ _ _ _ c.requires _ _ c.loop-slots.invariant c.loop-slots-test.true

pub give-slots-requires : goal.give-slots-requires
give-slots-requires c = may_give _ _ _ _ c.requires _ _ c.loop-slots.invariant c.loop-slots-test.true _ c.spare-from.ensures

pub loop-slots-smaller : goal.loop-slots-smaller
loop-slots-smaller c = omega (arith, c.give-slots.ensures.takes, c.loop-slots-test.true)

pub loop-slots-preserved : goal.loop-slots-preserved
loop-slots-preserved c =
    gathers_in_next _ _ _ _ c.requires _ _ c.loop-slots.invariant c.loop-slots-test.true _ c.spare-from.ensures _ _ c.give-slots.ensures
