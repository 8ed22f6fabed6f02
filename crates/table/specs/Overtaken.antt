-- Future operations that hold a never leave the table: which entries they are, and what their leaving changes.
use Rattle.std.specs.Prelude.{ℕ, ◌+◌, ◌-◌, ◌≤◌, ◌≡◌, Bool, true, false, not, List, [], ◌∷◌, map, get_or, take}
use Rattle.forms.specs.Lists.{keep, sum}
use Rattle.forms.specs.Write.{Wrote}
use Rattle.history.specs.declared.Entry.{Entry}
use Rattle.history.specs.Cells.{overtaken_in}
use Rattle.history.specs.Entries.{cells_of, operation_of}
use Rattle.history.specs.Lists.{Lists}
use Rattle.history.specs.Words.{histories_in, busy_in, entry_in, CountsMore}
use Rattle.table.specs.declared.Table.{Table}
use Rattle.table.specs.declared.Dropped.{Dropped}
use Rattle.table.specs.Order.{moved}
use Rattle.table.specs.Rows.{row_at}
use Rattle.table.specs.Tables.{live_count, finished_rows, queue_rows, id_of, Becomes}

-- 02 (b): "every future operation that holds a never", against the histories that stand in words
abbrev pub overtaken_entry : List ℕ → Entry → Bool
overtaken_entry book e = overtaken_in (cells_of (histories_in book)) (operation_of e)

-- those that stay
abbrev pub stays_entry : List ℕ → Entry → Bool
stays_entry book e = not (overtaken_entry book e)

-- the row of the entry at place i of those not done
abbrev pub row_in : Table → List ℕ → List ℕ → ℕ → Entry
row_in t o ws i = row_at ws (get_or o (t.finished + i) 0)

-- Each history's number of updates that are not persistent is no less than its number of updates of these entries.
abbrev pub Covers : List ℕ → List Entry → Type 0
Covers book es = (h : ℕ) → 1 ≤ sum (entry_in h) es → sum (entry_in h) es ≤ get_or (busy_in book) h 0

-- ### One operation

-- The entry e, at place i of those not done, leaves: its id stands behind those named from `at` on, its updates count no longer, and its
-- number is the first of the free ones.
pub record Leaves (e : Entry) (d : Dropped) (i : ℕ) (o book lists : List ℕ) (at : ℕ) (r : Dropped) (p book' lists' : List ℕ) : Type 0 where
  pub dropped : r ≡ record { table = record { finished = d.table.finished; queue = d.table.queue - 1 }; count = d.count + 1 }
  pub order : p ≡ moved (d.table.finished + i) (live_count d.table - 1) o
  pub counts : CountsMore (e ∷ []) book' book
  pub named : Wrote lists (at + d.count) (e.id ∷ []) (at + d.count + 1) lists'

-- Nothing has changed.
pub record Stays (d : Dropped) (o b l : List ℕ) (r : Dropped) (p c m : List ℕ) : Type 0 where
  pub dropped : r ≡ d
  pub order : p ≡ o
  pub book : c ≡ b
  pub lists : m ≡ l

-- An entry that was overtaken leaves, any other stays.
abbrev pub Examines : Bool → Entry → Dropped → ℕ → List ℕ → List ℕ → List ℕ → ℕ → Dropped → List ℕ → List ℕ → List ℕ → Type 0
Examines true e d i o book lists at r p book' lists' = Leaves e d i o book lists at r p book' lists'
Examines false e d i o book lists at r p book' lists' = Stays d o book lists r p book' lists'

-- ### All of them

-- Of those not done the overtaken ones leave and the others keep their order; the ids of those that leave, in their order, are a list from
-- `at` on; their updates count no longer, and nothing else changes in the book.
pub record Drops (t : Table) (o ws book lists : List ℕ) (at : ℕ) (r : Dropped) (p book' lists' : List ℕ) : Type 0 where
  pub becomes : Becomes o ws r.table p ws (finished_rows t o ws) (keep (stays_entry book) (queue_rows t o ws))
  pub done : take r.table.finished p ≡ take t.finished o
  pub named : Lists lists at (map id_of (keep (overtaken_entry book) (queue_rows t o ws))) r.count lists'
  pub counts : CountsMore (keep (overtaken_entry book) (queue_rows t o ws)) book' book
