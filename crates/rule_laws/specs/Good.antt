-- The invariant of states: what holds of every site that calls reach. Its laws are that opening and restart give it and every call keeps
-- it.
use Rattle.std.specs.Prelude.{◌≡◌, true, false, List, [], ◌∷◌, ◌++◌, map, ℕ, ◌+◌, ◌≤◌, ◌<◌, T, length}
use mathlib.Core.List.{Memᴰ as Mem}
use Rattle.std.proofs.Math.Option.{Option, none, some}
use Rattle.forms.specs.Decimal.{top}
use Rattle.forms.specs.Lists.{all, sum}
use Rattle.forms.specs.ListLaws.{Nodup}
use Rattle.forms.specs.Forms.{Base, Update, Did, Line, stable_line}
use Rattle.forms.specs.Writable.{WritableDid, WritableBase}
use Rattle.rules.specs.Book.{can_run}
use Rattle.rules.specs.Checks.{updates_refusal, changes_refusal}
use Rattle.rules.specs.Log.{StableAt, dids, mark, histories_fit, base_fits}
use Rattle.forms.specs.Limits.{live_limit, log_limit}
use Rattle.rules.specs.State.{Operation, State, log_bytes, start_of, done_in, live_done, live, line_bytes, lines_in, stable_to}
use Rattle.rules.specs.Calls.{may_run_now, blocked, holds_never, nothing_orders, writable_update}

-- A line that can stand in a log of n histories: it passes 2 to 5, and can be written.
pub record FormedDid (n : ℕ) (d : Did) : Type 0 where
  pub passes : changes_refusal n d.changes ≡ none
  pub writable : WritableDid d

-- Every line of a log ran where it stands: its places were next and its updates could run.
abbrev pub Ran : (σ : Base) → List Did → Type 0
Ran σ log = (a : List Did) (d : Did) (b : List Did) → log ≡ a ++ d ∷ b → T (can_run σ a d)

-- What a base line says that stands in a log of n histories.
pub record FitBase (n : ℕ) (b : Base) : Type 0 where
  pub fits : base_fits n b ≡ true
  pub writable : WritableBase b

-- .. if there is one
abbrev pub FitHead : ℕ → Option Base → Type 0
FitHead n none = Unit {0}
FitHead n (some b) = FitBase n b

-- What a stable line says where it stands, behind the lines a: it rises, is not above the did lines before it, and can be written.
pub record Risen (σ : Base) (a : List Line) (k : ℕ) : Type 0 where
  pub above : mark σ a < k
  pub within : k ≤ σ.up_to + length (dids a)
  pub writable : k ≤ top

-- Every stable line of a log stands where it may.
abbrev pub Rises : (σ : Base) → List Line → Type 0
Rises σ lines = (a : List Line) (k : ℕ) (b : List Line) → lines ≡ a ++ stable_line k ∷ b → Risen σ a k

-- Stable lines that stand behind no more than d did lines.
abbrev pub Below : ℕ → List StableAt → Type 0
Below d ss = (s : StableAt) → Mem s ss → s.behind ≤ d

-- An operation that passed 2 to 6, and can be written.
pub record FormedOperation (n : ℕ) (x : Operation) : Type 0 where
  pub passes : updates_refusal n x.updates ≡ none
  pub orders : nothing_orders x.updates ≡ false
  pub id : x.id ≤ top
  pub writable : (u : Update) → Mem u x.updates → T (writable_update u)

abbrev pub did_ids : List Did → List ℕ
did_ids ds = map (λ (d : Did). d.id) ds

abbrev pub operation_ids : List Operation → List ℕ
operation_ids xs = map (λ (x : Operation). x.id) xs

-- No operation, future or in progress, holds a never.
abbrev pub NoNever : State → Type 0
NoNever st = (x : Operation) → Mem x st.pending → T (holds_never (start_of st) st.log x) → ⊥

pub record Good (st : State) : Type 0 where
  pub histories : T (histories_fit st.histories)
  -- the log is one that restart accepts
  pub head : FitHead st.histories st.base
  pub formed : (d : Did) → Mem d st.log → FormedDid st.histories d
  pub ran : Ran (start_of st) st.log
  pub waiting_formed : (d : Did) → Mem d st.waiting → FormedDid st.histories d
  -- no waiting line can run: each call drains
  pub quiet : (d : Did) → Mem d st.waiting → T (can_run (start_of st) st.log d) → ⊥
  -- the printed log and the waiting lines fit the buffer
  pub fits : length (log_bytes st) + sum line_bytes st.waiting ≤ st.room
  pub room_limit : st.room ≤ log_limit
  -- the stable lines rise, and stand behind did lines of the log
  pub rises : Rises (start_of st) (lines_in st)
  pub below : Below (length st.log) st.stables
  -- what has left the table is not below the base, nor above the stable mark, and this not above the persistent mark
  pub base_below : (start_of st).up_to ≤ st.left_to
  pub left_below : st.left_to ≤ stable_to st
  pub stable_below : stable_to st ≤ st.persistent_to
  pub persistent_below : st.persistent_to ≤ done_in st
  -- "At most 64 operations are live"
  pub few : live st ≤ live_limit
  -- live ids are distinct
  pub ids : Nodup (did_ids (live_done st) ++ (did_ids st.waiting ++ operation_ids st.pending))
  pub idle : st.restoring ≡ true → st.pending ≡ []
  pub nobody_waits : st.restoring ≡ false → st.waiting ≡ []
  pub pending_formed : (x : Operation) → Mem x st.pending → FormedOperation st.histories x
  -- an operation in progress may still run
  pub running : (x : Operation) → Mem x st.pending → T x.running → T (all (may_run_now (start_of st) st.log) x.updates)
  -- a finish drops those that do, and no add brings one in
  pub no_never : NoNever st
  -- two operations in progress never conflict
  pub apart : (a : List Operation) (x : Operation) (b : List Operation) → st.pending ≡ a ++ x ∷ b → T x.running →
      (u : Update) → Mem u x.updates → T (blocked (a ++ b) u) → ⊥
