-- The site with the rows of its table, and the bytes of its log, as a state of the specification; and the invariant of the two.
use Rattle.std.specs.Prelude.{ℕ, ◌-◌, ◌≤◌, ◌<◌, ◌≡◌, Bool, true, false, List, [], map, length, take, drop, get_or}
use Rattle.std.proofs.Math.Option.{Option, none}
use Rattle.forms.specs.Lists.{sum}
use Rattle.forms.specs.Forms.{Base, Did, Line}
use Rattle.forms.specs.Limits.{history_limit}
use Rattle.forms.specs.declared.LogNumber.{LogNumber}
use Rattle.rules.specs.Book.{cell}
use Rattle.rules.specs.Log.{Journal, journal, no_journal, dids, stables_of, head_text, read_log}
use Rattle.rules.specs.State.{Operation, State, log_bytes, start_of, done_in, lines_in, stable_to, version_at, live_done, line_bytes}
use Rattle.rule_laws.specs.CoverLaws.{marks_before}
use Rattle.rules.specs.Poll.{busy as busy_in}
use Rattle.rule_laws.specs.Good.{Good}
use Rattle.history.specs.declared.History.{History}
use Rattle.history.specs.declared.Entry.{Entry}
use Rattle.history.specs.Entries.{cells_of, operation_of, did_of_entry}

-- A site, and the rows of its table: those not done (or waiting), and those done that have not left it, with the mark noted in each.
pub record Representation : Type 0 where
  pub count : ℕ
  pub used : ℕ
  pub head : ℕ
  pub base : LogNumber
  pub done : LogNumber
  pub persistent : LogNumber
  pub stable : LogNumber
  pub left : LogNumber
  pub restoring : Bool
  pub reserved : ℕ
  pub histories : List History
  pub persisted : List ℕ
  pub stabilised : List ℕ
  pub busy : List ℕ
  pub queue : List Entry
  pub finished : List Entry
  pub marks : List ℕ

-- ### The site as a state

-- what stands in the queue: operations that are not done, or lines that wait
abbrev pub pending_in : Bool → Representation → List Operation
pending_in true s = []
pending_in false s = map operation_of s.queue

abbrev pub waiting_in : Bool → Representation → List Did
waiting_in true s = map did_of_entry s.queue
waiting_in false s = []

abbrev pub lines_of_journal : Journal → List Line
lines_of_journal (journal n β lines) = lines
lines_of_journal no_journal = []

abbrev pub base_of_journal : Journal → Option Base
base_of_journal (journal n β lines) = β
base_of_journal no_journal = none

-- the lines that the bytes in use say
abbrev pub lines_read : Representation → List ℕ → List Line
lines_read s bytes = lines_of_journal (read_log (take s.used bytes))

-- the base line that they say, if there is one
abbrev pub base_read : Representation → List ℕ → Option Base
base_read s bytes = base_of_journal (read_log (take s.used bytes))

-- The state that a site and the bytes of its log buffer are: the log is read off the bytes in use.
abbrev pub state_of : Representation → List ℕ → State
state_of s bytes =
    record {
      histories = s.count;
      room = length bytes;
      base = base_read s bytes;
      log = dids (lines_read s bytes);
      stables = stables_of (lines_read s bytes);
      pending = pending_in s.restoring s;
      waiting = waiting_in s.restoring s;
      persistent_to = s.persistent.0;
      left_to = s.left.0;
      restoring = s.restoring;
    }

-- ### The invariant

-- The site carries the parts of the state st, whose log stands in the first bytes of the buffer.
pub record Carries (s : Representation) (bytes : List ℕ) (st : State) : Type 0 where
  pub within : s.used ≤ length bytes
  pub text : take s.used bytes ≡ log_bytes st
  pub count : s.count ≡ st.histories
  pub room : length bytes ≡ st.room
  -- the bytes of the site line and the base line, and the operations that this stands for
  pub head : s.head ≡ length (head_text st.histories st.base)
  pub base : s.base.0 ≡ (start_of st).up_to
  pub done : s.done.0 ≡ done_in st
  pub persistent : s.persistent.0 ≡ st.persistent_to
  pub stable : s.stable.0 ≡ stable_to st
  pub left : s.left.0 ≡ st.left_to
  -- the stable lines are listed in the order in which they stand
  pub stables : stables_of (lines_in st) ≡ st.stables
  pub restoring : s.restoring ≡ st.restoring
  pub pending : pending_in s.restoring s ≡ st.pending
  pub waiting : waiting_in s.restoring s ≡ st.waiting
  pub reserved : s.reserved ≡ sum line_bytes st.waiting
  pub histories_long : length s.histories ≡ history_limit
  pub book : (h : ℕ) → h < s.count → cells_of s.histories h ≡ cell (start_of st) h st.log
  pub persisted_long : length s.persisted ≡ history_limit
  pub persisted : (h : ℕ) → h < s.count → get_or s.persisted h 0 ≡ version_at st.persistent_to h st
  pub stabilised_long : length s.stabilised ≡ history_limit
  pub stabilised : (h : ℕ) → h < s.count → get_or s.stabilised h 0 ≡ version_at (stable_to st) h st
  -- "for every history the number of its future, in-progress and volatile updates"
  pub busy : (h : ℕ) → h < s.count → get_or s.busy h 0 ≡ busy_in st h
  -- done operations that have not left the table, in log order, and the stable mark when the line of each was written
  pub finished : map did_of_entry s.finished ≡ live_done st
  pub marks : s.marks ≡ drop (st.left_to - (start_of st).up_to) (marks_before (start_of st).up_to (lines_in st))

-- The site holds the state st: it carries its parts, and st is one that calls reach.
pub record Represents (s : Representation) (bytes : List ℕ) (st : State) : Type 0 where
  pub carries : Carries s bytes st
  pub good : Good st

-- The invariant of a site and its log buffer: opening and restart establish it, and every call keeps it.
unfoldable pub Sound : Representation → List ℕ → Type 0
Sound s bytes = Represents s bytes (state_of s bytes)
