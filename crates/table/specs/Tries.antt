-- Trying the future operations once, oldest first: the specification's tries against cells, and the marks that answer "blocked".
use Rattle.std.specs.Prelude.{ℕ, ◌≡◌, Bool, false, cond, not, ◌&&◌, ◌||◌, List, [], ◌∷◌, ◌++◌, map, eqb, get_or}
use Rattle.forms.specs.Lists.{any, all}
use Rattle.forms.specs.Forms.{Update}
use Rattle.rules.specs.Rules.{strong}
use Rattle.rules.specs.Book.{Cell}
use Rattle.rules.specs.State.{Operation}
use Rattle.rules.specs.Calls.{blocked, made_ready}
use Rattle.history.specs.declared.Entry.{Entry}
use Rattle.history.specs.Entries.{operation_of, may_run_in}
use Rattle.table.specs.declared.Marks.{Marks}
use Rattle.history.specs.Lists.{Lists}
use Rattle.table.specs.declared.Table.{Table}
use Rattle.table.specs.Tables.{live_numbers, finished_rows, marks_in, queue_rows, Owns, Frame}
use Rattle.table.specs.Arrays.{Tabulates}

-- ### The specification's tries, against cells

-- "when each update may run and is not blocked"
unfoldable pub ready_in : (ℕ → Cell) → List Operation → Operation → Bool
ready_in cells others x = all (λ u. may_run_in cells u && not (blocked others u)) x.updates

-- one try: a future operation that is ready is in progress from then on
unfoldable pub attempt_in : (ℕ → Cell) → List Operation → Operation → Operation
attempt_in cells others x = record { id = x.id; updates = x.updates; running = x.running || ready_in cells others x }

-- "the future operations are tried once, oldest arrival first": behind those that were tried
unfoldable pub try_from_in : (ℕ → Cell) → List Operation → List Operation → List Operation
try_from_in cells tried [] = tried
try_from_in cells tried (x ∷ xs) = try_from_in cells (tried ++ (attempt_in cells (tried ++ xs) x ∷ [])) xs

abbrev pub try_all_in : (ℕ → Cell) → List Operation → List Operation
try_all_in cells xs = try_from_in cells [] xs

-- ### Marks

-- the lists that a function gives, one behind the other
unfoldable pub gather : {A B : Type 0} → (A → List B) → List A → List B
gather f [] = []
gather f (x ∷ xs) = f x ++ gather f xs

abbrev pub in_history : ℕ → Update → Bool
in_history h u = eqb u.history h

abbrev pub strong_in : ℕ → Update → Bool
strong_in h u = eqb u.history h && strong u.rule

-- the updates of an entry, and those of them that are in progress
abbrev pub entry_updates : Entry → List Update
entry_updates e = (operation_of e).updates

abbrev pub held : Operation → List Update
held x = cond x.running x.updates []

abbrev pub held_of : Entry → List Update
held_of e = held (operation_of e)

-- The marks say of each history whether one of these updates is in it, and whether a strong one is.
pub record MarksOf (m : Marks) (us : List Update) : Type 0 where
  pub each : Tabulates false m.any (λ (h : ℕ). any (in_history h) us)
  pub strongs : Tabulates false m.strong (λ (h : ℕ). any (strong_in h) us)

-- The marks m with those of more updates.
pub record More (r m : Marks) (us : List Update) : Type 0 where
  pub each : Tabulates false r.any (λ (h : ℕ). get_or m.any h false || any (in_history h) us)
  pub strongs : Tabulates false r.strong (λ (h : ℕ). get_or m.strong h false || any (strong_in h) us)

-- "A strong update is blocked by any in-progress update in its history, a weak one by a strong one there": not so, by the marks.
unfoldable pub free_by : Marks → Update → Bool
free_by m u = not (cond (strong u.rule) (get_or m.any u.history false) (get_or m.strong u.history false))

abbrev pub ready_by : (ℕ → Cell) → Marks → Update → Bool
ready_by cells m u = may_run_in cells u && free_by m u

-- a future operation that is ready, by the marks
unfoldable pub starts_by : (ℕ → Cell) → Marks → Operation → Bool
starts_by cells m x = not x.running && all (ready_by cells m) x.updates

-- ### One pass

abbrev pub operations_of : List Entry → List Operation
operations_of l = map operation_of l

-- What a pass over the future operations makes of a table, and the ids made ready, r of them, as a list from `at` on.
pub record Tries (cells : ℕ → Cell) (t : Table) (o old new lists : List ℕ) (at r : ℕ) (new_lists : List ℕ) : Type 0 where
  pub owns : Owns t o new
  pub frame : Frame (live_numbers t o) old new
  pub finished : finished_rows t o new ≡ finished_rows t o old
  pub noted : marks_in t o new ≡ marks_in t o old
  pub queue : operations_of (queue_rows t o new) ≡ try_all_in cells (operations_of (queue_rows t o old))
  pub ready : Lists lists at (made_ready (operations_of (queue_rows t o old)) (try_all_in cells (operations_of (queue_rows t o old)))) r new_lists
