-- A restart of a slot: what it replies, in a number, and what it makes of the state.
use Rattle.std.specs.Prelude.{ℕ, ◌≡◌, List, []}
use Rattle.forms.specs.Refusals.{number_of}
use Rattle.forms.specs.declared.Refusal.{Refusal}
use Rattle.rules.specs.State.{Reply, refused, ok}
use Rattle.compact.specs.Module.{Module as ModuleState, Move, reply_of, next_of}
use Rattle.site.specs.Model.{Lent, lent}
use Rattle.module.specs.Model.{around}
use Rattle.fitting_module.specs.Words.{Words, module_at}
use Rattle.fitting_module.specs.Model.{state_at, ValidWords, ValidState, Same, UnusedLeft}

-- It is refused: the slot keeps the site that it had, or none, and nothing that is lent has changed.
pub record RestartsNot (ws : Words) (came : Lent) (q : Refusal) (n : ℕ) (after : Words) (new : Lent) : Type 0 where
  pub answer : n ≡ number_of q
  pub same : Same ws came after new

-- Slot i has the site that its log gives, and the module is `next`.
pub record RestartsAs (i : ℕ) (came : Lent) (next : ModuleState) (n : ℕ) (after : Words) (new : Lent) (logs books : ℕ → List ℕ)
    : Type 0 where
  pub answer : n ≡ 0
  pub state : state_at after (around i new logs books) ≡ next
  pub valid : ValidWords after (around i new logs books)
  pub unused : UnusedLeft i came (module_at after) new

abbrev pub RestartsBy : Reply → ModuleState → ℕ → Words → Lent → ℕ → Words → Lent → (ℕ → List ℕ) → (ℕ → List ℕ) → Type 0
RestartsBy (refused q) next i ws came n after new logs books = RestartsNot ws came q n after new
RestartsBy (ok st a) next i ws came n after new logs books = RestartsAs i came next n after new logs books

-- What is lent, with the log and the words of the site that the slot had.
abbrev pub before : List ℕ → List ℕ → Lent → Lent
before log book m = lent log m.rows m.order book []

-- The state is valid with the log and the words of the site that slot i had, whatever they are: it may be restarted from another buffer.
abbrev pub ValidBefore : Words → ℕ → Lent → Type 0
ValidBefore ws i m = (log : List ℕ) × (book : List ℕ) × ValidState ws i (before log book m)

-- "Restart takes the first K bytes", for slot i.
abbrev pub RestartsSlot : ℕ → Words → Lent → ℕ → ℕ → Words → Lent → Type 0
RestartsSlot i ws came k n after new =
    (log book : List ℕ) (logs books : ℕ → List ℕ) → ValidWords ws (around i (before log book came) logs books) →
    RestartsBy (reply_of (Move.Restart i came.log k) (state_at ws (around i (before log book came) logs books)))
    (next_of (Move.Restart i came.log k) (state_at ws (around i (before log book came) logs books))) i ws came n after new logs books
