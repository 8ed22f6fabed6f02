-- What a call makes of its table, from what each of its steps makes of it.
use Rattle.std.specs.Prelude.{ℕ, ◌+◌, ◌≤◌, ◌<◌, ◌≡◌, refl, List, [], length, get_or}
use Rattle.std.proofs.Common.{arith, sym, ap, ap₂, subst, ◌∙◌}
use Rattle.history.specs.declared.Entry.{Entry}
use Rattle.table.specs.declared.Table.{Table}
use Rattle.table.specs.Order.{tally}
use Rattle.history.specs.Entries.{UsableEntry}
use Rattle.table.specs.RangeLaws.{past_entry, range_none}
use Rattle.table.specs.Rows.{row_at}
use Rattle.table.specs.Tables.{rows_in, live_count, live_numbers, finished_rows, queue_rows, Usable, Owns, Frame, Becomes}
use Rattle.table.specs.TableLaws.{finished-length, queue-length, queue-at, queue_usable}
use Rattle.table.specs.StepLaws.{frame_then}
use Rattle.site.specs.ModelLaws.{KeepsTable}

-- no live operations
abbrev pub empty_table : Table
empty_table = record { finished = 0; queue = 0 }

-- ### Fewer entries

pub usable_fewer : (o ws : List ℕ) (n m : ℕ) → Usable o ws n → m ≤ n → Usable o ws m
usable_fewer o ws n m u le =
    record {
      long = u.long;
      few = omega (arith, u.few, le);
      within = λ i l. u.within i (omega (arith, l, le));
      each =
          λ i l. u.each i (omega (arith, l, le));
    }

pub owns_fewer : (t s : Table) (o ws : List ℕ) → Owns t o ws → live_count s ≤ live_count t → Owns s o ws
owns_fewer t s o ws u le =
    record { usable = usable_fewer o ws (live_count t) (live_count s) u.usable le; within = u.within; once = u.once }

-- .. in the same words, in which nothing was written
pub frame_same : (live ws : List ℕ) → Frame live ws ws
frame_same live ws = record { long = refl; rest = λ e j l z. refl }

pub keeps_fewer : (t s : Table) (o ws : List ℕ) → Owns t o ws → live_count s ≤ live_count t → KeepsTable o ws s o ws
keeps_fewer t s o ws u le = record { owns = owns_fewer t s o ws u le; same = λ e. refl; frame = frame_same (live_numbers s o) ws }

pub keeps_same : (t : Table) (o ws : List ℕ) → Owns t o ws → KeepsTable o ws t o ws
keeps_same t o ws u = keeps_fewer t t o ws u (omega arith)

-- ### One step, and the next

pub keeps_of : {o old : List ℕ} {t : Table} {p new : List ℕ} {f q : List Entry} → Becomes o old t p new f q → KeepsTable o old t p new
keeps_of b = record { owns = b.owns; same = b.same; frame = b.frame }

-- Two steps, where what is live after the first is live after the second too.
pub keeps_then : (a b : List ℕ) (t : Table) (o c : List ℕ) (s : Table) (p d : List ℕ) → KeepsTable a b t o c → KeepsTable o c s p d →
    ((e : ℕ) → tally e (live_numbers s p) ≡ 0 → tally e (live_numbers t o) ≡ 0) → KeepsTable a b s p d
keeps_then a b t o c s p d x y live =
    record {
      owns = y.owns;
      same = λ e. y.same e ∙ x.same e;
      frame = frame_then (live_numbers t o) (live_numbers s p) b c d live x.frame y.frame;
    }

-- ### Ranges of the order

-- an empty range
pub no_rows : (o ws : List ℕ) (n m : ℕ) → m ≡ n → rows_in o ws n m ≡ []
no_rows o ws n m e = ap (rows_in o ws n) e ∙ range_none o ws n

-- ### The laws as calls use them

-- the two lists of rows have as many as the table counts
pub live-length : (t : Table) (o ws : List ℕ) → Owns t o ws →
    length (finished_rows t o ws) + length (queue_rows t o ws) ≡ t.finished + t.queue
live-length t o ws own = ap₂ ◌+◌ (finished-length t o ws own) (queue-length t o ws own)

-- the table that a call hands back
pub becomes_as : {o old : List ℕ} {t s : Table} {p new : List ℕ} {f q : List Entry} → s ≡ t → Becomes o old t p new f q →
    Becomes o old s p new f q
becomes_as {o} {old} {t} {s} {p} {new} {f} {q} e b = subst (λ (z : Table). Becomes o old z p new f q) (sym e) b

-- one step, and then a pass over the future operations
pub keeps_tried : {o old : List ℕ} {t : Table} {p mid new : List ℕ} {f q : List Entry} → Becomes o old t p mid f q → Owns t p new →
    Frame (live_numbers t p) mid new → KeepsTable o old t p new
keeps_tried {o} {old} {t} {p} {mid} {new} b own frame =
    keeps_then o old t p mid t p new (keeps_of b) (record { owns = own; same = λ e. refl; frame = frame }) (λ e z. z)

-- An entry that is not done, at a place of the queue.
module _ (t : Table) (o ws : List ℕ) (own : Owns t o ws) (at : ℕ) (below : at < t.queue) where
  -- it stands in the order
  pub queue_placed : t.finished + at < length o
  queue_placed = omega (arith, below, own.usable.few, own.usable.long)

  -- .. and its row, as it is read
  module _ (e : Entry) (is : e ≡ row_at ws (get_or o (t.finished + at) 0)) where
    pub queue_read : e ≡ get_or (queue_rows t o ws) at past_entry
    queue_read = is ∙ sym (queue-at t o ws own at past_entry below)

    pub queue_fine : UsableEntry e
    queue_fine = subst UsableEntry (sym is) (queue_usable t o ws own at below)
