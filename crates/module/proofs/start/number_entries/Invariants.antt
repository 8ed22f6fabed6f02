-- The first i numbers are those below i.
use Rattle.std.proofs.Common.{◌≡◌, length, take}
use Rattle.forms.specs.Lists.{below}
use Rattle.module.proofs.start.number_entries.Given as goal

abbrev pub invariant-loop-i : goal.invariant-loop-i
invariant-loop-i l = (length l.numbers ≡ 256) × (take l.i l.numbers ≡ below l.i)
