-- The table of a site: its live entries as lists of rows, what its calls keep, and what they leave alone.
use Rattle.std.specs.Prelude.{ℕ, ◌+◌, ◌*◌, ◌≤◌, ◌<◌, ◌≡◌, Bool, cond, not, ◌&&◌, List, [], ◌∷◌, map, eqb, length, get_or, take, drop, Option, Some, None}
use Rattle.forms.specs.Limits.{live_limit}
use Rattle.rules.specs.Book.{Cell}
use Rattle.history.specs.declared.Item.{Item}
use Rattle.history.specs.declared.Entry.{Entry}
use Rattle.history.specs.Entries.{UsableEntry, items_of, can_run_in, did_of_entry}
use Rattle.table.specs.declared.Table.{Table}
use Rattle.table.specs.declared.EntryNumber.{EntryNumber}
use Rattle.table.specs.Rows.{row_width, row_at, mark_at, HasRow}
use Rattle.table.specs.Order.{tally}

-- ### What the table means

-- the rows of some entries
abbrev pub rows_of : List ℕ → List ℕ → List Entry
rows_of ws es = map (row_at ws) es

-- the rows of the entries from place `from` to place `to` of an order
abbrev pub rows_in : List ℕ → List ℕ → ℕ → ℕ → List Entry
rows_in o ws from to = rows_of ws (drop from (take to o))

-- how many entries are live
abbrev pub live_count : Table → ℕ
live_count t = t.finished + t.queue

-- The done operations that have not left the table, in log order.
abbrev pub finished_rows : Table → List ℕ → List ℕ → List Entry
finished_rows t o ws = rows_in o ws 0 t.finished

-- .. and the stable mark noted in the row of each: 02's "a report of a did line after it" covers the stable lines before that did line
abbrev pub marks_in : Table → List ℕ → List ℕ → List ℕ
marks_in t o ws = map (mark_at ws) (take t.finished o)

-- Those not done, in order of arrival, or waiting lines, in order of delivery.
abbrev pub queue_rows : Table → List ℕ → List ℕ → List Entry
queue_rows t o ws = rows_in o ws t.finished (live_count t)

-- the numbers of the live entries
abbrev pub live_numbers : Table → List ℕ → List ℕ
live_numbers t o = take (live_count t) o

-- Does the entry have this id?
abbrev pub has_id : ℕ → Entry → Bool
has_id i e = eqb e.id i

-- Does the entry have this id, and is it in progress (or future, as asked)?
unfoldable pub is_entry : ℕ → Bool → Entry → Bool
is_entry i running e = eqb e.id i && cond running e.running (not e.running)

abbrev pub id_of : Entry → ℕ
id_of e = e.id

-- Can the entry run, as a did line?
abbrev pub can_run_entry : (ℕ → Cell) → Entry → Bool
can_run_entry cells e = can_run_in cells (did_of_entry e)

-- The version of history h after some updates, each of which sets it to its own, v before them.
unfoldable pub version_by : ℕ → ℕ → List Item → ℕ
version_by h v [] = v
version_by h v (x ∷ xs) = version_by h (cond (eqb x.history h) x.version.0 v) xs

-- .. and after some done operations
unfoldable pub version_from : ℕ → ℕ → List Entry → ℕ
version_from h v [] = v
version_from h v (e ∷ es) = version_from h (version_by h v (items_of e)) es

-- The entry of an id among some entries.
unfoldable pub entry_of : List ℕ → ℕ → List ℕ → Option EntryNumber
entry_of ws id [] = None
entry_of ws id (e ∷ es) = cond (eqb (row_at ws e).id id) (Some (record { 0 = e })) (entry_of ws id es)

-- ### What is kept

-- An order has at most 64 numbers: those of the entries that a site may use. Its first n entries have rows in the words, and each can be
-- used.
pub record Usable (o ws : List ℕ) (n : ℕ) : Type 0 where
  pub long : length o ≤ live_limit
  pub few : n ≤ length o
  pub within : (i : ℕ) → i < n → HasRow ws (get_or o i 0)
  pub each : (i : ℕ) → i < n → UsableEntry (row_at ws (get_or o i 0))

-- No entry has two places in the order, each has a row in the words, and the live ones can be used.
pub record Owns (t : Table) (o ws : List ℕ) : Type 0 where
  pub usable : Usable o ws (live_count t)
  pub within : (i : ℕ) → i < length o → HasRow ws (get_or o i 0)
  pub once : (e : ℕ) → tally e o ≤ 1

-- Only words of these entries differ.
pub record Frame (live old new : List ℕ) : Type 0 where
  pub long : length new ≡ length old
  pub rest : (e j : ℕ) → j < row_width → tally e live ≡ 0 → get_or new (e * row_width + j) 0 ≡ get_or old (e * row_width + j) 0

-- What a call makes of a table: the rows of the done ones and of the others after it, and what it leaves alone.
pub record Becomes (o old : List ℕ) (t : Table) (p new : List ℕ) (finished queue : List Entry) : Type 0 where
  pub owns : Owns t p new
  pub same : (e : ℕ) → tally e p ≡ tally e o
  pub frame : Frame (live_numbers t p) old new
  pub finished_is : finished_rows t p new ≡ finished
  pub queue_is : queue_rows t p new ≡ queue
