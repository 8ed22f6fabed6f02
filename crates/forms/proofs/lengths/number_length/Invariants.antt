-- The digits of what is left and those already counted are those of the number; dividing by 10 takes one off.
use Rattle.std.proofs.Common.{◌+◌, ◌≡◌, length}
use Rattle.forms.specs.Decimal.{digits}
use Rattle.forms.proofs.lengths.number_length.Given as goal

abbrev pub invariant-loop-rest : goal.invariant-loop-rest
invariant-loop-rest l = l.count + length (digits l.rest) ≡ length (digits l.x) + 1

abbrev pub decreases-loop-rest : goal.decreases-loop-rest
decreases-loop-rest l = l.rest
