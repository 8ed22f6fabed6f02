-- The number i comes behind those below it.
use Rattle.std.proofs.Common.{arith, refl, ◌∙◌, length-set}
use Rattle.forms.specs.Lists.{below}
use Rattle.table.specs.ShiftLaws.{below_next}
use Rattle.module.proofs.start.number_entries.Goals as goal

pub loop-i-init : goal.loop-i-init
unfolding below
loop-i-init c = (c.requires, refl)

pub loop-i-preserved : goal.loop-i-preserved
loop-i-preserved c =
    let l = c.loop-i in
    (length-set l.numbers l.i _ ∙ l.invariant.0, below_next l.numbers l.i (omega (arith, l.invariant.0, c.loop-i-test.true)) l.invariant.1)
