-- `end` names lines by their ids. The ids of lost lines are distinct, so it says of each lost line whether it still waits.
use Rattle.std.specs.Prelude.{◌≡◌, ◌↔◌, Bool, List, ◌∷◌, ◌++◌, ℕ, T}
use mathlib.Core.List.{Memᴰ as Mem}
use Rattle.forms.specs.ListLaws.{Nodup}
use Rattle.forms.specs.Forms.{Did, Ended}
use Rattle.rules.specs.State.{State, ok}
use Rattle.rules.specs.Calls.{Call, Cut, End, step}
use Rattle.rule_laws.specs.Good.{did_ids}
use Rattle.rules.specs.Run.{run}
use Rattle.recovery.specs.Claim.{Start, counted, Fair, lost_by, HasRun, Asked}

-- Lines of a list with the same id are the same line.
abbrev pub OneEach : List Did → Type 0
OneEach l = (d e : Did) → Mem d l → Mem e l → d.id ≡ e.id → d ≡ e

-- No two lines that a fair cut loses have one id.
abbrev pub LostIdsClaim : Type 0
LostIdsClaim =
    (m : ℕ) (s : State) → Start m s → (xs : List Call) (k room : ℕ) (after : State) → Fair (counted m xs s) k room (run xs s) after →
    Nodup (did_ids (lost_by (run xs s) after))

-- Under the conditions of the recovery claim: the ids that `end` would reply are distinct, and the id of a lost line is among them just if
-- the line was chosen and has not run.
pub record NamesLost (lost : List Did) (chosen : Did → Bool) (final : State) (ids : List ℕ) : Type 0 where
  pub once : Nodup ids
  pub exact : (d : Did) → Mem d lost → Mem d.id ids ↔ (T (chosen d) × (HasRun final d → ⊥))

abbrev pub NamingClaim : Type 0
NamingClaim =
    (m : ℕ) (s : State) → Start m s → (xs : List Call) (k room : ℕ) (ys : List Call) (after : State) (chosen : Did → Bool) →
    Fair (counted m xs s) k room (run xs s) after →
    Asked m s (λ a. xs ++ Cut k room ∷ a) ys (lost_by (run xs s) after) chosen →
    (st : State) (ids : List ℕ) → step End (run (xs ++ Cut k room ∷ ys) s) ≡ ok st (Ended ids) →
    NamesLost (lost_by (run xs s) after) chosen (run (xs ++ Cut k room ∷ ys) s) ids
