-- The module and what is lent to it as a module of the specification, the invariant of the two, and what a call promises.
use Rattle.std.specs.Prelude.{ℕ, ◌+◌, ◌*◌, ◌≤◌, ◌<◌, max, ◌≡◌, Bool, true, false, cond, List, [], ◌∷◌, eqb, length, drop, get_or}
use Rattle.std.proofs.Math.Option.{Option, none, some}
use Rattle.forms.specs.Forms.{Refused, Accepted, Answer}
use Rattle.forms.specs.Held.{replied}
use Rattle.forms.specs.declared.Refusal.{Refusal}
use Rattle.rules.specs.State.{State, Reply, refused, ok}
use Rattle.compact.specs.Module.{Slot as SlotState, Module as ModuleState, Move, slot_of, reply_of, next_of}
use Rattle.compact.specs.Fits.{Fits}
use Rattle.history.specs.Words.{width}
use Rattle.table.specs.Rows.{row_width}
use Rattle.table.specs.Tables.{live_count, Frame}
use Rattle.site.specs.declared.Site.{Site}
use Rattle.site.specs.Model.{Lent, lent, view, Valid, Says}
use Rattle.module.specs.declared.Slot.{Slot}
use Rattle.module.specs.declared.Module.{Module}
use Rattle.module.specs.declared.ModuleResult.{ModuleResult}
use Rattle.module.specs.Parts.{part_room, table_room, part_of, Shared}

-- ### Slots

-- what stands past the last slot
abbrev pub no_site : Site
no_site =
    record {
      count = 0;
      used = 0;
      head = 0;
      base = record { 0 = 0 };
      done = record { 0 = 0 };
      persistent = record { 0 = 0 };
      stable = record { 0 = 0 };
      left = record { 0 = 0 };
      restoring = false;
      reserved = 0;
      table = record { finished = 0; queue = 0 };
    }

abbrev pub no_slot : Slot
no_slot = record { site = no_site; opened = false; promise = 0; held = 0 }

abbrev pub slot_in : List Slot → ℕ → Slot
slot_in l j = get_or l j no_slot

-- how many operations of a slot are live, how many numbers it holds, and what it claims of the table
abbrev pub live_in : List Slot → ℕ → ℕ
live_in l j = live_count (slot_in l j).site.table

abbrev pub held_in : List Slot → ℕ → ℕ
held_in l j = (slot_in l j).held

abbrev pub claim_in : List Slot → ℕ → ℕ
claim_in l j = max (live_in l j) (slot_in l j).promise

-- ### What is lent

-- The rows of the table and the numbers of its entries, which all slots share, and of each slot the log and the words of the histories.
pub record Memory : Type 0 where
  pub rows : List ℕ
  pub numbers : List ℕ
  pub logs : ℕ → List ℕ
  pub books : ℕ → List ℕ

-- what the site of slot j is lent: of the numbers those of its live operations
abbrev pub lent_at : List Slot → Memory → ℕ → Lent
lent_at l b j = lent (b.logs j) b.rows (part_of j (live_in l j) b.numbers) (b.books j) []

-- ### The module as one of the specification

abbrev pub state_at : List Slot → Memory → ℕ → State
state_at l b j = view (slot_in l j).site (lent_at l b j)

-- a site that is opened, or none
abbrev pub site_if : Bool → State → Option State
site_if true st = some st
site_if false st = none

abbrev pub view_at : List Slot → Memory → ℕ → SlotState
view_at l b j = record { site = site_if (slot_in l j).opened (state_at l b j); promise = (slot_in l j).promise }

abbrev pub view_in : List Slot → Memory → ModuleState
view_in l b = view_at l b 0 ∷ view_at l b 1 ∷ view_at l b 2 ∷ view_at l b 3 ∷ []

abbrev pub view_of : Module → Memory → ModuleState
view_of m b = view_in m.slots b

-- The invariant: opening establishes it, and every call keeps it.
pub record ValidSlots (l : List Slot) (b : Memory) : Type 0 where
  pub size : length l ≡ 4
  -- "128 live entries"
  pub rows : length b.rows ≡ table_room * row_width
  -- each entry's number is held once, and those of a slot's live operations come first
  pub shared : Shared (held_in l) b.numbers
  pub few : (j : ℕ) → j < 4 → live_in l j ≤ held_in l j
  -- each site that is opened is valid with what it is lent; nothing is live in a slot that is not opened
  pub each : (j : ℕ) → j < 4 → (slot_in l j).opened ≡ true → Valid (slot_in l j).site (lent_at l b j)
  pub none : (j : ℕ) → j < 4 → (slot_in l j).opened ≡ false → live_in l j ≡ 0
  -- what the slots claim fits the table
  pub fits : Fits (view_in l b)

abbrev pub ValidModule : Module → Memory → Type 0
ValidModule m b = ValidSlots m.slots b

-- ### What a call is lent

-- one slot's log, or words, and those of the others
unfoldable pub put : ℕ → List ℕ → (ℕ → List ℕ) → ℕ → List ℕ
put i x f j = cond (eqb j i) x (f j)

-- What a call of slot i is lent (its `order` has the numbers of all entries), and what its owner keeps for the other slots.
abbrev pub around : ℕ → Lent → (ℕ → List ℕ) → (ℕ → List ℕ) → Memory
around i w logs books = record { rows = w.rows; numbers = w.order; logs = put i w.log logs; books = put i w.book books }

-- The module is valid with this, whatever logs and words the other slots have.
abbrev pub ValidWith : Module → ℕ → Lent → Type 0
ValidWith m i w = (logs : ℕ → List ℕ) × (books : ℕ → List ℕ) × ValidModule m (around i w logs books)

-- .. whatever the rows of the table and the numbers of its entries are, where these are not lent
abbrev pub ValidSome : Module → ℕ → List ℕ → List ℕ → Type 0
ValidSome m i log book =
    (rows : List ℕ) × (numbers : List ℕ) × (logs : ℕ → List ℕ) × (books : ℕ → List ℕ) ×
    ValidModule m (around i (lent log rows numbers book []) logs books)

-- ### What a call promises

-- "A refusal returns its number only; site, log .. and all other lent buffers do not change."
pub record RefusedIn (m : Module) (old : Lent) (q : Refusal) (r : ModuleResult) (new : Lent) : Type 0 where
  pub answer : Says (replied r.reply new.lists) (Refused q)
  pub same : r.after ≡ m
  pub kept : new ≡ old

-- The module after a call of slot i is `next` of the specification. Of the neighbours nothing has changed, since their logs and words are
-- not lent; "An accepted call alters no byte of a lent buffer past those in use, or handed out, after it": of the log, of the rows those of
-- the slot's live operations, of each part of the numbers those that are held, of the words those of the site's histories, of the lists
-- those that the reply counts.
pub record AcceptedIn (i : ℕ) (old : Lent) (next : ModuleState) (a : Answer) (r : ModuleResult) (new : Lent) (c : Memory) : Type 0 where
  pub answer : Says (replied r.reply new.lists) (Accepted a)
  pub valid : ValidModule r.after c
  pub state : view_of r.after c ≡ next
  pub past : drop (slot_in r.after.slots i).site.used new.log ≡ drop (slot_in r.after.slots i).site.used old.log
  pub frame : Frame (part_of i (live_in r.after.slots i) new.order) old.rows new.rows
  pub past_numbers : (j p : ℕ) → j < 4 → held_in r.after.slots j ≤ p → p < part_room →
      get_or new.order (part_room * j + p) 0 ≡ get_or old.order (part_room * j + p) 0
  pub past_histories : drop (width * (slot_in r.after.slots i).site.count) new.book
      ≡ drop (width * (slot_in r.after.slots i).site.count) old.book
  pub past_lists : drop (r.reply.first + r.reply.second) new.lists ≡ drop (r.reply.first + r.reply.second) old.lists

-- A call of the module m, to which `came` was lent and is `new` after it, does what the specification replies; slot i's own log and words
-- before it are those of `old`, the rows and numbers the same.
abbrev pub DoesFrom : Module → Move → Lent → Lent → (ℕ → List ℕ) → (ℕ → List ℕ) → Reply → ModuleResult → Lent → Type 0
DoesFrom m x old came logs books (refused q) r new = RefusedIn m came q r new
DoesFrom m x old came logs books (ok st a) r new =
    AcceptedIn (slot_of x) came (next_of x (view_of m (around (slot_of x) old logs books))) a r new (around (slot_of x) new logs books)

abbrev pub DoesIn : Module → Move → Lent → (ℕ → List ℕ) → (ℕ → List ℕ) → Reply → ModuleResult → Lent → Type 0
DoesIn m x old logs books y r new = DoesFrom m x old old logs books y r new

-- .. whatever logs and words the other slots have with which it is valid
abbrev pub Moves : Module → Move → Lent → ModuleResult → Lent → Type 0
Moves m x old r new =
    (logs books : ℕ → List ℕ) → ValidModule m (around (slot_of x) old logs books) →
    DoesIn m x old logs books (reply_of x (view_of m (around (slot_of x) old logs books))) r new

-- .. and, of a restart, which replaces the slot's site, whatever log and words that site has
abbrev pub MovesAnew : Module → Move → Lent → ModuleResult → Lent → Type 0
MovesAnew m x came r new =
    (log book : List ℕ) (logs books : ℕ → List ℕ) →
    ValidModule m (around (slot_of x) (lent log came.rows came.order book came.lists) logs books) →
    DoesFrom m x (lent log came.rows came.order book came.lists) came logs books
    (reply_of x (view_of m (around (slot_of x) (lent log came.rows came.order book came.lists) logs books))) r new

abbrev pub ValidAnew : Module → ℕ → Lent → Type 0
ValidAnew m i came = (log : List ℕ) × (book : List ℕ) × ValidWith m i (lent log came.rows came.order book [])
