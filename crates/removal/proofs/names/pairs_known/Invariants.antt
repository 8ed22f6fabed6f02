-- All numbers before this one are known.
use Rattle.std.proofs.Common.{ℕ, ◌<◌, T}
use Rattle.removal.specs.Chains.{key_at}
use Rattle.removal.specs.Names.{known}
use Rattle.removal.proofs.names.pairs_known.Given as goal

abbrev pub invariant-loop-p : goal.invariant-loop-p
invariant-loop-p l = (n : ℕ) → n < l.p → T (known l.base.0 l.done.0 (key_at l.pairs 0 n))
