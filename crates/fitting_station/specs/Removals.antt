-- What a report of the lines that fall gives its owner: "the report names the least such set, rising".
use Rattle.std.specs.Prelude.{ℕ, ◌≡◌, refl, List, length, Option, Some, None, Result, Ok, Err}
use Rattle.std.proofs.Common.{ap, ◌∙◌}
use Rattle.forms.specs.Refusals.{number_of}
use Rattle.recovery.specs.Removal.{Report, refused, named}
use Rattle.removal.specs.Model as model
use Rattle.removal.specs.Model.{Outcome, refusal, count, outcome_of, outcome, Says}
use Rattle.forms.specs.declared.Refusal.{Refusal}

-- 0, or a refusal's number
unfoldable pub removals_number : Result (Option ℕ) Refusal → ℕ
removals_number (Ok (Some k)) = 0
removals_number (Err q) = number_of q
removals_number (Ok None) = 16

-- .. of the specification's report
unfoldable pub report_number : Report → ℕ
report_number (refused n) = n
report_number (named l) = 0

-- how many log numbers are named, which a refusal leaves unsaid
unfoldable pub removals_named : Result (Option ℕ) Refusal → ℕ → ℕ
removals_named (Ok (Some k)) before = k
removals_named (Err q) before = before
removals_named (Ok None) before = before

-- .. of the specification's report
unfoldable pub report_named : Report → ℕ → ℕ
report_named (refused n) before = before
report_named (named l) before = length l

-- The report into numbers that were `old` and are `new`: the log numbers at their front, and those behind as they were; a refusal leaves
-- every number. How many are named was `before` and is `after`.
pub record RepliesRemovals (says : Report) (old : List ℕ) (before n after : ℕ) (new : List ℕ) : Type 0 where
  pub answer : n ≡ report_number says
  pub named : after ≡ report_named says before
  pub numbers : new ≡ model.after says old

-- ### Laws

-- the number of an outcome, and how many it names
abbrev code_of : Outcome → ℕ
code_of (refusal n) = n
code_of (count k) = 0

abbrev named_of : Outcome → ℕ → ℕ
named_of (refusal n) before = before
named_of (count k) before = k

-- The number and how many are named are those of the specification's report.
pub replies_removals : (says : Report) (old : List ℕ) (r : Result (Option ℕ) Refusal) (new : List ℕ) (before n after : ℕ) → Says says old r new →
    n ≡ removals_number r → after ≡ removals_named r before → RepliesRemovals says old before n after new
unfolding removals_number report_number removals_named report_named
replies_removals says old r new before n after S e f =
    record {
      answer = e ∙ number r ∙ ap code_of S.answer ∙ told says;
      named = f ∙ many r ∙ ap (λ (x : Outcome). named_of x before) S.answer ∙ long says;
      numbers = S.numbers;
    }
  where
    number : (x : Result (Option ℕ) Refusal) → removals_number x ≡ code_of (outcome_of x)
    number (Ok (Some k)) = refl
    number (Err q) = refl
    number (Ok None) = refl

    told : (x : Report) → code_of (outcome x) ≡ report_number x
    told (refused k) = refl
    told (named l) = refl

    many : (x : Result (Option ℕ) Refusal) → removals_named x before ≡ named_of (outcome_of x) before
    many (Ok (Some k)) = refl
    many (Err q) = refl
    many (Ok None) = refl

    long : (x : Report) → named_of (outcome x) before ≡ report_named x before
    long (refused k) = refl
    long (named l) = refl
