-- A whole session for callers in other languages.
use Rattle.std.specs.Prelude.{ℕ, ◌≡◌, Bool, true, false, List}
use Rattle.forms.specs.Decimal.{top}
use Rattle.stream.specs.declared.RunResult.{RunResult}
use Rattle.stream.specs.Model.{Runs}

-- How many bytes are written, or 2^64 − 1 where not all replies are.
abbrev pub whole_code : Bool → ℕ → ℕ
whole_code true n = n
whole_code false n = top

-- The input's session has run over the log buffer that was `old` and is `new`, and its replies stand in the buffer that was `out` and is
-- `page`.
pub record Plays (input old : List ℕ) (r : ℕ) (new out page : List ℕ) : Type 0 where
  pub ran : RunResult
  pub runs : Runs input old ran new out page
  pub code : r ≡ whole_code ran.whole ran.written
