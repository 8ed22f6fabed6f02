-- A number that fits a byte is itself, any other 0: the two cases of the definition.
use Rattle.std.proofs.Common.{◌≡◌, ℕ, ◌<◌, ◌≤◌, ◌∙◌, lt-ltb, le-ltb, arith, Result, Ok, Err}
use Rattle.std.specs.Result.{OkIff, result_unwrap_or}
use Rattle.history.specs.Words.{within}
use Rattle.table.proofs.rows.small_byte.Goals as goal

byte : {E : Type 0} (n : ℕ) (r : Result ℕ E) → OkIff r (n < 256) n → result_unwrap_or r 0 ≡ within 256 n
unfolding within
byte n (Ok x) e = rw (lt-ltb n 256 e.0) e.1
byte n (Err x) e = let h : 256 ≤ n = omega arith in rw (le-ltb n 256 h)

pub returns : goal.returns
returns c = c.unwrap_or.ensures ∙ byte c.args.n c.try_from.result c.try_from.ensures
