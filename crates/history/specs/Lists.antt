-- Numbers written into the array of a reply's lists, as the writer writes bytes.
use Rattle.std.specs.Prelude.{ℕ, ◌+◌, ◌≤◌, List, length}
use Rattle.forms.specs.Write.{Wrote}
use Rattle.forms.specs.Limits.{live_limit}

-- The n numbers xs, which are few enough for a reply, stand in the array from `at` on; the others are as they were.
pub record Lists (old : List ℕ) (at : ℕ) (xs : List ℕ) (n : ℕ) (new : List ℕ) : Type 0 where
  pub few : n ≤ live_limit
  pub room : at + n ≤ length old
  pub wrote : Wrote old at xs (at + n) new
