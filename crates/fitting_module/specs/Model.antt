-- The state that a module's owner lends, as the specification has it: its invariant, and what a call makes of it.
use Rattle.std.specs.Prelude.{ℕ, ◌+◌, ◌*◌, ◌≤◌, ◌<◌, ◌≡◌, List, drop, get_or}
use Rattle.rules.specs.State.{Reply, refused, ok}
use Rattle.compact.specs.Module.{Module as ModuleState}
use Rattle.history.specs.Words.{width}
use Rattle.table.specs.Tables.{Frame}
use Rattle.site.specs.Model.{Lent}
use Rattle.module.specs.declared.Module.{Module}
use Rattle.module.specs.Parts.{part_room, part_of}
use Rattle.module.specs.Model.{slot_in, live_in, held_in, Memory, ValidModule, view_of, around}
use Rattle.fitting_module.specs.Words.{Words, module_at, words_in}

-- ### The state

-- The specification's module that the counters and all that is lent beside them are.
abbrev pub state_at : Words → Memory → ModuleState
state_at ws b = view_of (module_at ws) b

-- The invariant: the words are a module's counters, and that module is valid.
pub record ValidWords (ws : Words) (b : Memory) : Type 0 where
  pub words : words_in (module_at ws).slots ≡ ws
  pub valid : ValidModule (module_at ws) b

-- .. for a call that is lent slot i's log and words of histories: the other slots have some with which it is valid
abbrev pub ValidState : Words → ℕ → Lent → Type 0
ValidState ws i m = (logs : ℕ → List ℕ) × (books : ℕ → List ℕ) × ValidWords ws (around i m logs books)

-- ### What a call of slot i does

-- "A refusal returns its number only; site, log .. and all other lent buffers do not change."
pub record Same (ws : Words) (old : Lent) (after : Words) (new : Lent) : Type 0 where
  pub counters : after ≡ ws
  pub kept : new ≡ old

-- "An accepted call alters no byte of a lent buffer past those in use": of the log; of the table's rows, those of the slot's live entries;
-- of each part of the entries' numbers, those that are held; of the histories' words, those of the slot's histories.
pub record UnusedLeft (i : ℕ) (old : Lent) (m : Module) (new : Lent) : Type 0 where
  pub past : drop (slot_in m.slots i).site.used new.log ≡ drop (slot_in m.slots i).site.used old.log
  pub frame : Frame (part_of i (live_in m.slots i) new.order) old.rows new.rows
  pub past_numbers : (j p : ℕ) → j < 4 → held_in m.slots j ≤ p → p < part_room →
      get_or new.order (part_room * j + p) 0 ≡ get_or old.order (part_room * j + p) 0
  pub past_histories : drop (width * (slot_in m.slots i).site.count) new.book
      ≡ drop (width * (slot_in m.slots i).site.count) old.book

abbrev pub KeepsAs : Reply → ℕ → Words → Lent → Words → Lent → Type 0
KeepsAs (refused q) i ws old after new = Same ws old after new
KeepsAs (ok st a) i ws old after new = UnusedLeft i old (module_at after) new

-- The module, whose counters were `ws` and are `after`, becomes `next` by a call that is answered by this reply.
pub record Takes (i : ℕ) (ws : Words) (old : Lent) (reply : Reply) (next : ModuleState) (after : Words) (new : Lent) (b : Memory)
    : Type 0 where
  pub state : state_at after b ≡ next
  pub valid : ValidWords after b
  pub keeps : KeepsAs reply i ws old after new
