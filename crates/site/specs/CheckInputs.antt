-- What the checks of an operation or of a did line read of a state, and the order of those that both have.
use Rattle.std.specs.Prelude.{ℕ, ◌+◌, ◌<◌, ◌≡◌, Bool, false, ◌||◌, List, length, Result, MatchResult}
use Rattle.std.proofs.Math.Option.{Option, none, some}
use Rattle.forms.specs.Lists.{sum, any}
use Rattle.forms.specs.Forms.{Update, Did}
use Rattle.forms.specs.declared.Refusal.{Refusal}
use Rattle.forms.specs.declared.Refusal.TheVariants.{NothingOrders, IdPending, AlreadyDone, ReadOvertaken}
use Rattle.forms.specs.declared.Refusal.TheVariants.{HighestVersion, TableFull, NoRoom}
use Rattle.rules.specs.Book.{Cell, cell}
use Rattle.rules.specs.Checks.{check}
use Rattle.rules.specs.State.{Operation, State, log_bytes, start_of, line_bytes}
use Rattle.rules.specs.Calls.{nothing_orders, id_pending, id_done, table_full}
use Rattle.history.specs.declared.History.{History}
use Rattle.history.specs.declared.Entry.{Entry}
use Rattle.history.specs.Asking.{Enters, EntersDid}
use Rattle.history.specs.Cells.{already_done_in, read_overtaken_in, at_highest_in}
use Rattle.history.specs.Entries.{cells_of}
use Rattle.rules.specs.Within.{uses_all}
use Rattle.history.specs.Words.{histories_in}
use Rattle.site.specs.declared.Site.{Site}
use Rattle.site.specs.declared.seen.CheckInputs.{CheckInputs}
use Rattle.site.specs.Model.{Lent, view}

-- What was read is so in the state st, for the id i, and the histories hold its book; `used` says that the site may use no more entries.
pub record Sees (x : CheckInputs) (hs : List History) (i : ℕ) (used : Bool) (st : State) : Type 0 where
  pub restoring : x.restoring ≡ st.restoring
  pub count : x.count ≡ st.histories
  pub pending : x.pending ≡ id_pending i st
  pub done : x.done ≡ id_done i st
  pub full : x.full ≡ (used || table_full st)
  pub book : (h : ℕ) → h < x.count → cells_of hs h ≡ cell (start_of st) h st.log

-- What was read of a site is so in its state, for the id i; it may use the entries in the order.
abbrev pub SeesAll : CheckInputs → Site → Lent → ℕ → Type 0
SeesAll x s m i = Sees x (histories_in m.book) i (uses_all (length m.order) (view s m)) (view s m)

-- So many bytes of the log buffer are neither in use nor reserved.
abbrev pub LeavesLines : ℕ → State → Type 0
LeavesLines n st = length (log_bytes st) + sum line_bytes st.waiting + n ≡ st.room

-- The refusals 7 to 12 in their order, 17 after 9: an add has no 12, a redo no 9 and no 17.
unfoldable pub conflict_refusal : Bool → Bool → Bool → Bool → Bool → Bool → Option Refusal
conflict_refusal pending done overtaken highest full short =
    check pending IdPending
    (check done AlreadyDone
    (check overtaken ReadOvertaken (check highest HighestVersion (check full TableFull (check short NoRoom none)))))

-- The refusals 6 to 10 of an add of these updates, against the cells of the site's histories.
unfoldable pub entry_refusal : CheckInputs → (ℕ → Cell) → List Update → Option Refusal
entry_refusal x cells us =
    check (nothing_orders us) NothingOrders
    (conflict_refusal x.pending (x.done || any (already_done_in cells) us) (any (read_overtaken_in cells) us) (any (at_highest_in cells) us)
    x.full false)

-- the operation that an add brings
abbrev pub added_operation : ℕ → List Update → Operation
added_operation i us = record { id = i; updates = us; running = false }

-- What the checks of an add said is what the specification says, o; and an operation that passes has its entry.
abbrev pub Admits : ℕ → List Update → Option Refusal → Result Entry Refusal → Type 0
Admits i us o r = MatchResult r (λ e. (o ≡ none) × Enters (added_operation i us) e) (λ q. o ≡ some q)

-- A did line passes the checks, of which the specification says o: it has its entry, and its length is known.
pub record PassesLine (did : Did) (o : Option Refusal) (e : Entry) (n : ℕ) : Type 0 where
  pub free : o ≡ none
  pub enters : EntersDid did e
  pub size : n ≡ line_bytes did

-- What the checks of a redo said is what the specification says, o.
abbrev pub AdmitsLine : Did → Option Refusal → Result (Entry × ℕ) Refusal → Type 0
AdmitsLine did o r = MatchResult r (λ x. PassesLine did o x.0 x.1) (λ q. o ≡ some q)
