-- The first i numbers are those below i.
use Rattle.std.proofs.Common.{◌≡◌, length, take}
use Rattle.forms.specs.Lists.{below}
use Rattle.table.proofs.order.number_all.Given as goal

abbrev pub invariant-loop-i : goal.invariant-loop-i
invariant-loop-i l = (length l.order ≡ 64) × (take l.i l.order ≡ below l.i)
