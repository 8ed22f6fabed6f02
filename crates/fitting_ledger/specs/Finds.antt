-- The cut that leaves given places, as its owner gets it: "name the smallest number of kept bytes of the site's log".
use Rattle.std.specs.Prelude.{ℕ, ◌≡◌, List}
use Rattle.std.proofs.Math.Option.{Option, none, some}
use Rattle.forms.specs.Refusals.{number_of}
use Rattle.forms.specs.declared.Refusal.TheVariants.{OutOfTurn}
use Rattle.rules.specs.State.{State}
use Rattle.rules.specs.FindCut.{FoundCut, not_found, keep, find_cut}
use Rattle.site.specs.Model.{Lent}
use Rattle.fitting_ledger.specs.Model.{state_at}

-- 0, or a refusal's number
unfoldable pub find_number : FoundCut → ℕ
find_number (not_found q) = number_of q
find_number (keep k) = 0

-- the bytes kept, which a refusal leaves unsaid
unfoldable pub find_kept : FoundCut → ℕ → ℕ
find_kept (not_found q) before = before
find_kept (keep k) before = k

-- The cut of the state: 14 "before site".
unfoldable pub find_of : List ℕ → Option State → FoundCut
find_of asked none = not_found OutOfTurn
find_of asked (some st) = find_cut asked st

-- What is named: the number of kept bytes was `before` and is `after`.
pub record FindsCut (f : FoundCut) (r before after : ℕ) : Type 0 where
  pub answer : r ≡ find_number f
  pub kept : after ≡ find_kept f before

-- .. of the state that the counters and what is lent beside them are
abbrev pub FindsState : List ℕ → Lent → List ℕ → ℕ → ℕ → ℕ → Type 0
FindsState ws m asked r before after = FindsCut (find_of asked (state_at ws m)) r before after
