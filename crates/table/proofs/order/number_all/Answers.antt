-- Each round writes one number more.
use Rattle.std.proofs.Common.{refl, arith, ◌∙◌, length-set}
use Rattle.forms.specs.Lists.{below}
use Rattle.table.specs.ShiftLaws.{below_next, below_end}
use Rattle.table.proofs.order.number_all.Goals as goal

pub loop-i-init : goal.loop-i-init
unfolding below
loop-i-init c = (c.told-order, refl)

pub loop-i-preserved : goal.loop-i-preserved
loop-i-preserved c =
    let l = c.loop-i in
    (length-set l.order l.i l.i ∙ l.invariant.0, below_next l.order l.i (omega (arith, l.invariant.0)) l.invariant.1)

pub returns : goal.returns
returns c = let l = c.loop-i in below_end l.order l.i 64 l.invariant.0 (omega arith) (omega arith) l.invariant.1
