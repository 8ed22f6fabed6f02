-- Refusals in their order, and the tests 2 to 5 that an operation, a did line and a keeper's line share.
use Rattle.std.specs.Prelude.{Bool, true, false, not, ◌||◌, List, [], ◌∷◌, map, ℕ, leb, ltb, eqb, length}
use Rattle.std.proofs.Math.Option.{Option, none, some}
use Rattle.forms.specs.Lists.{any}
use Rattle.forms.specs.Forms.{Update, Change}
use Rattle.forms.specs.declared.Refusal.{Refusal}
use Rattle.forms.specs.declared.Refusal.TheVariants.{WrongCount, NoSuchHistory, HistoryTwice, OperandRange}
use Rattle.forms.specs.Limits.{part_limit, update_limit}
use Rattle.rules.specs.Rules.{operand_fits, operand_fits_with, rule_of}

-- "Checked in the order 1, 14, then rising": the first test that holds gives the refusal.
unfoldable pub check : Bool → Refusal → Option Refusal → Option Refusal
check true r later = some r
check false r later = later

-- the checks of a first group, then those of a second
unfoldable pub and_then : Option Refusal → Option Refusal → Option Refusal
and_then (some r) later = some r
and_then none later = later

-- 2: "updates not 1 to 4"
unfoldable pub wrong_count : {A : Type 0} → List A → Bool
wrong_count xs = eqb (length xs) 0 || ltb update_limit (length xs)

-- 3: "no such history", in a site of n
unfoldable pub no_such_history : ℕ → List ℕ → Bool
no_such_history n hs = any (leb n) hs

-- 4: "a history twice"
unfoldable pub history_twice : List ℕ → Bool
history_twice [] = false
history_twice (h ∷ hs) = any (eqb h) hs || history_twice hs

-- 5: "operand out of range; unk with version not 0"
unfoldable pub update_misfits : Update → Bool
update_misfits u = not (operand_fits u.rule u.version u.operand)

-- .. of a line, where a profile has so many parts
unfoldable pub change_misfits_with : ℕ → Change → Bool
change_misfits_with parts x = not (operand_fits_with parts (rule_of x.rule) x.version x.operand)

abbrev pub change_misfits : Change → Bool
change_misfits = change_misfits_with part_limit

-- 2 to 5, of items that each have a history, in a site of n histories.
unfoldable pub form_refusal : {A : Type 0} → (A → ℕ) → (A → Bool) → ℕ → List A → Option Refusal
form_refusal history misfits n xs =
    check (wrong_count xs) WrongCount
    (check (no_such_history n (map history xs)) NoSuchHistory
    (check (history_twice (map history xs)) HistoryTwice
    (check (any misfits xs) OperandRange none)))

unfoldable pub updates_refusal : ℕ → List Update → Option Refusal
updates_refusal n us = form_refusal (λ (u : Update). u.history) update_misfits n us

unfoldable pub changes_refusal_with : ℕ → ℕ → List Change → Option Refusal
changes_refusal_with parts n xs = form_refusal (λ (x : Change). x.history) (change_misfits_with parts) n xs

abbrev pub changes_refusal : ℕ → List Change → Option Refusal
changes_refusal = changes_refusal_with part_limit

-- "pass 2 to 5"
abbrev pub passes : Option Refusal → Bool
passes none = true
passes (some r) = false
