-- The site and what is lent to it as a state of the specification, the invariant of the two, and what a call promises.
use Rattle.std.specs.Prelude.{ℕ, ◌+◌, ◌*◌, ◌≤◌, ◌≡◌, List, [], length, drop}
use Rattle.forms.specs.Lists.{below}
use Rattle.forms.specs.Forms.{Outcome, Refused, Accepted, Answer}
use Rattle.forms.specs.Held.{Numbers, Replied, replied, outcome_of}
use Rattle.forms.specs.Limits.{live_limit}
use Rattle.forms.specs.declared.Refusal.{Refusal}
use Rattle.rules.specs.State.{State, Reply, refused, ok}
use Rattle.rules.specs.Calls.{Call, step}
use Rattle.rules.specs.Within.{step_within}
use Rattle.history.specs.Words.{width, histories_in, persisted_in, stabilised_in, busy_in}
use Rattle.table.specs.declared.Table.{Table}
use Rattle.table.specs.Order.{tally}
use Rattle.table.specs.Tables.{live_numbers, finished_rows, marks_in, queue_rows, Owns, Frame}
use Rattle.site.specs.declared.Site.{Site}
use Rattle.site.specs.declared.CallResult.{CallResult}
use Rattle.site.specs.Representation.{Representation, state_of, Sound}

-- ### What is lent

-- What is lent to a call of a site: the buffer of its log, the rows of its table, the order of its entries, the words of its histories, and
-- those of the lists of its reply.
pub record Lent : Type 0 where
  pub log : List ℕ
  pub rows : List ℕ
  pub order : List ℕ
  pub book : List ℕ
  pub lists : List ℕ

abbrev pub lent : List ℕ → List ℕ → List ℕ → List ℕ → List ℕ → Lent
lent log rows order book lists = record { log = log; rows = rows; order = order; book = book; lists = lists }

-- What was lent, in a `requires`: the lists of a reply do not matter there.
abbrev pub received : List ℕ → List ℕ → List ℕ → List ℕ → Lent
received log rows order book = lent log rows order book []

-- The site with the histories and the rows that stand in what is lent.
abbrev pub represented : Site → Lent → Representation
represented s m =
    record {
      count = s.count;
      used = s.used;
      head = s.head;
      base = s.base;
      done = s.done;
      persistent = s.persistent;
      stable = s.stable;
      left = s.left;
      restoring = s.restoring;
      reserved = s.reserved;
      histories = histories_in m.book;
      persisted = persisted_in m.book;
      stabilised = stabilised_in m.book;
      busy = busy_in m.book;
      queue = queue_rows s.table m.order m.rows;
      finished = finished_rows s.table m.order m.rows;
      marks = marks_in s.table m.order m.rows;
    }

-- The state that a site and what is lent to it are.
abbrev pub view : Site → Lent → State
view s m = state_of (represented s m) m.log

-- The invariant of a site and what is lent to it: opening and restart establish it, and every call keeps it. It does not look at the lists
-- of a reply, so that `received` leaves them out.
pub record ValidSite (w : Representation) (t : Table) (log order rows : List ℕ) : Type 0 where
  pub sound : Sound w log
  -- each entry has one place in the order and a row of its own
  pub owns : Owns t order rows

abbrev pub Valid : Site → Lent → Type 0
Valid s m = ValidSite (represented s m) s.table m.log m.order m.rows

-- A site is valid with this log, and with some rows, order and histories: all that calls ask which only read its log.
abbrev pub ValidLog : Site → List ℕ → Type 0
ValidLog s log = (rows : List ℕ) × (order : List ℕ) × (book : List ℕ) × Valid s (lent log rows order book [])

-- ### What a call promises

-- the numbers of a reply are at most 64, so that it can be printed
pub record Few (n : Numbers) : Type 0 where
  pub few : n.count ≤ live_limit
  pub within : n.count ≤ length n.values

pub record Printable (r : Replied) : Type 0 where
  pub first : Few r.first
  pub second : Few r.second

-- "A refusal returns its number only": its lists are empty.
abbrev pub NumberOnly : Outcome → Replied → Type 0
NumberOnly (Refused q) r = (r.first.count ≡ 0) × (r.second.count ≡ 0)
NumberOnly (Accepted a) r = Unit {0}

-- A reply says this, and can be printed.
pub record Says (r : Replied) (o : Outcome) : Type 0 where
  pub outcome : outcome_of r ≡ o
  pub printable : Printable r
  pub number_only : NumberOnly o r

-- "A refusal returns its number only; site, log .. and all other lent buffers do not change."
pub record RefusedAs (s : Site) (old : Lent) (q : Refusal) (r : CallResult) (new : Lent) : Type 0 where
  pub answer : Says (replied r.reply new.lists) (Refused q)
  pub site : r.site ≡ s
  pub kept : new ≡ old

-- "An accepted call alters no byte of a lent buffer past those in use, or handed out, after it": of the log's buffer; of the table's rows,
-- those of the entries that are live; of the histories' numbers, those of the site's histories; of the lists' numbers, those that the reply
-- counts. In the order each number is in use, live or free: it has the same numbers as `numbers`, in another order. They are those of the
-- entries that the site may use; where it shares the table, the rows of all others are as they were.
pub record AcceptedAs (numbers : List ℕ) (old : Lent) (st : State) (a : Answer) (r : CallResult) (new : Lent) : Type 0 where
  pub answer : Says (replied r.reply new.lists) (Accepted a)
  pub valid : Valid r.site new
  pub state : view r.site new ≡ st
  pub past : drop r.site.used new.log ≡ drop r.site.used old.log
  pub frame : Frame (live_numbers r.site.table new.order) old.rows new.rows
  pub same : (e : ℕ) → tally e new.order ≡ tally e numbers
  pub past_histories : drop (width * r.site.count) new.book ≡ drop (width * r.site.count) old.book
  pub past_lists : drop (r.reply.first + r.reply.second) new.lists ≡ drop (r.reply.first + r.reply.second) old.lists

-- A call of the site s, to which `old` was lent and is `new` after it, does what the specification replies; the entries have these numbers.
abbrev pub DoesWith : List ℕ → Site → Lent → Reply → CallResult → Lent → Type 0
DoesWith numbers s old (refused q) r new = RefusedAs s old q r new
DoesWith numbers s old (ok st a) r new = AcceptedAs numbers old st a r new

-- .. a call of a site that is open: its entries keep their numbers
abbrev pub Does : Site → Lent → Reply → CallResult → Lent → Type 0
Does s old x r new = DoesWith old.order s old x r new

-- .. opening and restart of a site alone: whatever the order was before, its 64 entries are numbered from 0 on
abbrev pub Opens : Site → Lent → Reply → CallResult → Lent → Type 0
Opens s old x r new = DoesWith (below live_limit) s old x r new

-- .. of this call, as a site alone does it; those that take no entries have no 10
abbrev pub Steps : Site → Lent → Call → CallResult → Lent → Type 0
Steps s old c r new = Does s old (step c (view s old)) r new

-- .. of a call that takes entries: the site may use those in the order, and meets 10 where they do not suffice. With 64 it is `Steps`.
abbrev pub StepsWithin : Site → Lent → Call → CallResult → Lent → Type 0
StepsWithin s old c r new = Does s old (step_within (length old.order) c (view s old)) r new
