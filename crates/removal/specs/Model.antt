-- What the report promises, and what is known of a log that was read.
use Rattle.std.specs.Prelude.{◌≡◌, List, ◌++◌, ℕ, ◌+◌, ◌≤◌, T, length, drop, Option, Some, None, Result, Ok, Err}
use Rattle.forms.specs.Forms.{Did, Line}
use Rattle.forms.specs.Limits.{base_top}
use Rattle.forms.specs.Refusals.{number_of}
use Rattle.forms.specs.declared.Refusal.{Refusal}
use Rattle.rules.specs.Log.{dids}
use Rattle.recovery.specs.Removal.{Report, refused, named, Removed, is_line, pairs_of, report}
use Rattle.log_reader.specs.declared.Journal.{Journal as JournalRead}
use Rattle.removal.specs.Names.{is_marked, PairsKnown, LostKnown}
use Rattle.removal.specs.Slots.{StandsFrom}

-- ### The report

-- A refusal's number, or how many log numbers are named.
pub data Outcome : Type 0 where
  refusal : ℕ → Outcome
  count : ℕ → Outcome

-- what an answer means: the paper's number of each refusal
abbrev pub outcome_of : Result (Option ℕ) Refusal → Outcome
outcome_of (Ok (Some k)) = count k
outcome_of (Ok None) = refusal 16
outcome_of (Err r) = refusal (number_of r)

-- .. and what a report of the specification comes to
abbrev pub outcome : Report → Outcome
outcome (refused n) = refusal n
outcome (named l) = count (length l)

-- the lent numbers after a report: the log numbers at their front, and the rest as it was; a refusal changes nothing
abbrev pub after : Report → List ℕ → List ℕ
after (refused n) old = old
after (named l) old = l ++ drop (length l) old

pub record Says (says : Report) (old : List ℕ) (r : Result (Option ℕ) Refusal) (new : List ℕ) : Type 0 where
  pub answer : outcome_of r ≡ outcome says
  pub numbers : new ≡ after says old

-- The answer is that of the specification, and so are the numbers.
abbrev pub Reports : List ℕ → List ℕ → List ℕ → List ℕ → Result (Option ℕ) Refusal → List ℕ → Type 0
Reports log pairs lost old r new = Says (report log (pairs_of pairs) lost (length old)) old r new

-- ### The marks

-- lines of a log that was read: all numbers are known
pub record ReadsLines (s : List ℕ) (j : JournalRead) (pairs lost : List ℕ) : Type 0 where
  pub histories : ℕ
  pub lines : List Line
  pub stands : StandsFrom s j.head histories lines
  pub within : j.head ≤ length s
  pub few : length (dids lines) ≤ 2978
  pub low : j.base.0 ≤ base_top
  pub done : j.done.0 ≡ j.base.0 + length (dids lines)
  pub pairs_known : PairsKnown pairs j.base.0 j.done.0
  pub lost_known : LostKnown lost j.base.0 j.done.0

-- a line is marked exactly if it is removed
pub record MarksExactly (base : ℕ) (log : List Did) (pairs lost gone : List ℕ) : Type 0 where
  pub size : length gone ≡ 2978
  pub sound : (k : ℕ) → T (is_line base log k) → T (is_marked base gone k) → Removed base log (pairs_of pairs) lost k
  pub whole : (k : ℕ) → T (is_line base log k) → Removed base log (pairs_of pairs) lost k → T (is_marked base gone k)

-- .. whichever lines stand there
abbrev pub FallsIn : List ℕ → JournalRead → List ℕ → List ℕ → List ℕ → Type 0
FallsIn s j pairs lost gone =
    (n : ℕ) (lines : List Line) → StandsFrom s j.head n lines → j.done.0 ≡ j.base.0 + length (dids lines) →
    MarksExactly j.base.0 (dids lines) pairs lost gone
