-- Calls of one slot of a module whose other slots are not opened, one after the other, without text.
use Rattle.std.specs.Prelude.{ℕ, ◌<◌, ◌≡◌, List, [], length}
use Rattle.std.proofs.Math.Option.{some}
use Rattle.rules.specs.State.{State, log_bytes}
use Rattle.rules.specs.Calls.{Call}
use Rattle.rules.specs.Run.{run}
use Rattle.compact.specs.Module.{Module as ModuleState, least, with_slot, made}
use Rattle.site.specs.Model.{Lent}
use Rattle.module.specs.declared.Module.{Module}
use Rattle.module.specs.Model.{Memory, ValidModule, view_of, around}
use Rattle.c_api.specs.Rounds.{written, rounds_calls}

-- Slot i has a site whose state is st and is promised 16; the others are not opened.
abbrev pub lone : ℕ → State → ModuleState
lone i st = with_slot i (record { site = some st; promise = least }) made

-- The module m over this memory is that.
pub record LoneAt (i : ℕ) (m : Module) (b : Memory) (st : State) : Type 0 where
  pub own : i < 4
  pub valid : ValidModule m b
  pub state : view_of m b ≡ lone i st

-- the others have no log and no words
abbrev pub nothing : ℕ → List ℕ
nothing j = []

abbrev pub Lone : ℕ → Module → Lent → State → Type 0
Lone i m w st = LoneAt i m (around i w nothing nothing) st

abbrev pub LoneIn : ℕ → Module → Lent → Type 0
LoneIn i m w = (st : State) × Lone i m w st

-- From the state st the calls cs of slot i lead to what they lead a site alone to: its state, and every byte of its log's buffer.
pub record ReachesFrom (i : ℕ) (st : State) (old : List ℕ) (cs : List Call) (b : Memory) (r : Module) (new : List ℕ) : Type 0 where
  pub at : LoneAt i r b (run cs st)
  pub bytes : new ≡ written cs st old

-- The calls cs of slot i take the module m, to which `old` was lent, to r, to which `new` is lent.
abbrev pub ReachesIn : ℕ → Module → Lent → List Call → Module → Lent → Type 0
ReachesIn i m old cs r new = (st : State) → Lone i m old st → ReachesFrom i st old.log cs (around i new nothing nothing) r new.log

-- What n rounds from the state st leave, over a buffer that was `old`: the bytes in use, and every byte.
pub record ServesFrom (st : State) (n : ℕ) (old : List ℕ) (r : ℕ) (new : List ℕ) : Type 0 where
  pub used : r ≡ length (log_bytes (run (rounds_calls n) st))
  pub bytes : new ≡ written (rounds_calls n) st old

abbrev pub Serves : ℕ → Module → Lent → ℕ → ℕ → List ℕ → Type 0
Serves i m old n r new = (st : State) → Lone i m old st → ServesFrom st n old.log r new
