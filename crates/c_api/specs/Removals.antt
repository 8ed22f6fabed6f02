-- What a report of the lines that fall gives over raw numbers.
use Rattle.std.specs.Prelude.{ℕ, ◌+◌, ◌≡◌, List, length, Option, Some, None, Result, Ok, Err}
use Rattle.forms.specs.Refusals.{number_of}
use Rattle.forms.specs.declared.Refusal.{Refusal}
use Rattle.recovery.specs.Removal.{Report, refused, named}
use Rattle.removal.specs.Model.{after}

-- A refusal's number, or 1,000 more than how many log numbers are named.
unfoldable pub removals_number : Result (Option ℕ) Refusal → ℕ
removals_number (Ok (Some k)) = k + 1000
removals_number (Ok None) = 16
removals_number (Err q) = number_of q

-- .. of the specification's report
unfoldable pub report_number : Report → ℕ
report_number (refused n) = n
report_number (named l) = length l + 1000

-- The report into numbers that were `old` and are `new`: a refused one leaves every number.
pub record RepliesRemovals (says : Report) (old : List ℕ) (r : ℕ) (new : List ℕ) : Type 0 where
  pub answer : r ≡ report_number says
  pub numbers : new ≡ after says old
