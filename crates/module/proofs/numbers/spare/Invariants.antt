-- No slot before j is a neighbour that holds a free number.
use Rattle.std.proofs.Common.{ℕ, ◌≡◌, ◌<◌, false}
use Rattle.module.specs.Gather.{spare_at}
use Rattle.module.proofs.numbers.spare.Given as goal

abbrev pub invariant-loop-j : goal.invariant-loop-j
invariant-loop-j l = (k : ℕ) → k < l.j → spare_at l.slots l.slot k ≡ false
