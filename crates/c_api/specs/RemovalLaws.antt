-- Laws of a report over raw numbers: they are no more than the room, and the number is that of the specification's report.
use Rattle.std.specs.Prelude.{ℕ, ◌+◌, ◌≤◌, ◌≡◌, refl, List, length, drop, Option, Some, None, Result, Ok, Err}
use Rattle.std.proofs.Common.{sym, ap, ◌∙◌, arith, length-append}
use Rattle.recovery.specs.Removal.{Report, refused, named}
use Rattle.removal.specs.Model.{Outcome, refusal, count, outcome_of, outcome, after, Says}
use Rattle.forms.specs.declared.Refusal.{Refusal}
use Rattle.c_api.specs.Removals.{removals_number, report_number, RepliesRemovals}

-- the number of an outcome
abbrev counted : Outcome → ℕ
counted (refusal n) = n
counted (count k) = k + 1000

counted-answer : (r : Result (Option ℕ) Refusal) → removals_number r ≡ counted (outcome_of r)
unfolding removals_number
counted-answer (Ok (Some k)) = refl
counted-answer (Ok None) = refl
counted-answer (Err q) = refl

counted-report : (says : Report) → counted (outcome says) ≡ report_number says
unfolding report_number
counted-report (refused n) = refl
counted-report (named l) = refl

-- how many are named is no more than the numbers that there are
pub removals_few : (says : Report) (old : List ℕ) (r : Result (Option ℕ) Refusal) (new : List ℕ) → Says says old r new → (k : ℕ) → r ≡ Ok (Some k) →
    k ≤ length new
removals_few says old r new S k e = go says S.numbers (sym (ap outcome_of e) ∙ S.answer)
  where
    go : (x : Report) → new ≡ after x old → count k ≡ outcome x → k ≤ length new
    go (refused n) f q = let z : ◌≡◌ {A = ℕ} 0 1 = cc in absurd (omega arith)
    go (named l) f q =
        let same : k ≡ length l = cc in omega (arith, same, ap length f, length-append l (drop (length l) old))

pub removals_number_lem : (says : Report) (old : List ℕ) (r : Result (Option ℕ) Refusal) (new : List ℕ) (n : ℕ) → Says says old r new → n ≡ removals_number r →
    RepliesRemovals says old n new
removals_number_lem says old r new n S e =
    record { answer = e ∙ counted-answer r ∙ ap counted S.answer ∙ counted-report says; numbers = S.numbers }
