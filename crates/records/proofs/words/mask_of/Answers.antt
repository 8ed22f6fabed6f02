-- The number itself where it fits in eight bits, else 0.
use Rattle.std.proofs.Common.{ℕ, ◌<◌, ◌≡◌, cond, ltb, ◌∙◌, lt-ltb, le-ltb, arith}
use Rattle.std.specs.Prelude.{Result, Ok, Err}
use Rattle.std.specs.Result.{OkIff, result_unwrap_or}
use Rattle.history.specs.Words.{within}
use Rattle.records.proofs.words.mask_of.Goals as goal

narrow : {E : Type 0} (n : ℕ) (r : Result ℕ E) → OkIff r (n < 256) n → result_unwrap_or r 0 ≡ cond (ltb n 256) n 0
narrow n (Ok x) q = rw (lt-ltb n 256 q.0) q.1
narrow n (Err e) q = rw (le-ltb n 256 (omega (arith, q)))

pub returns : goal.returns
unfolding within
returns c = c.unwrap_or.ensures ∙ narrow c.args.n _ c.try_from.ensures
