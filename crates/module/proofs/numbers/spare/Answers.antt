-- Where slots 0 to 2 are no such neighbour, slot 3 is one, since more are free than the slot itself holds.
use Rattle.std.proofs.Common.{arith, sym, ◌∙◌}
use Rattle.module.specs.GatherLaws.{is_spare_of, spare_last}
use Rattle.module.proofs.numbers.spare.Goals as goal

pub returns-then-is_spare : goal.returns-then-is_spare
returns-then-is_spare c = is_spare_of _ _ c.loop-j.j (omega (arith, c.loop-j-test.true)) (sym c.is_spare.ensures ∙ c.if-is_spare.true)

pub returns : goal.returns
returns c =
    let l = c.loop-j in
    spare_last _ _ c.requires (l.invariant 0 (omega arith)) (l.invariant 1 (omega arith)) (l.invariant 2 (omega arith))
