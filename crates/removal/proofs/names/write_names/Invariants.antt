-- The numbers of the marked ones of the first i lines stand at the front, and the rest is as it was.
use Rattle.std.proofs.Common.{◌≤◌, length}
use Rattle.removal.specs.Names.{WritesTo}
use Rattle.removal.proofs.names.write_names.Given as goal

abbrev pub invariant-loop-i : goal.invariant-loop-i
invariant-loop-i l = record { writes : WritesTo l.base.0 l.fn.gone l.i l.at l.initial.out l.out; within : l.at ≤ length l.initial.out }
