-- A call that leaves the log as it is: the queue, the numbers of updates that are not persistent, the restoring flag and the reserved bytes
-- change.
use Rattle.std.specs.Prelude.{ℕ, ◌<◌, ◌≡◌, refl, Bool, List, get_or}
use Rattle.forms.specs.Lists.{sum}
use Rattle.forms.specs.Forms.{Did}
use Rattle.rules.specs.Poll.{busy}
use Rattle.rules.specs.State.{Operation, State, log_bytes, version_at, live_done, line_bytes}
use Rattle.history.specs.declared.Entry.{Entry}
use Rattle.site.specs.Representation.{Representation, pending_in, waiting_in, Carries}

-- the site with another queue, and other numbers of updates that are future, in progress or volatile
abbrev pub with_queue : List Entry → Bool → ℕ → List ℕ → Representation → Representation
with_queue q restoring reserved busy s =
    record {
      count = s.count;
      used = s.used;
      head = s.head;
      base = s.base;
      done = s.done;
      persistent = s.persistent;
      stable = s.stable;
      left = s.left;
      restoring = restoring;
      reserved = reserved;
      histories = s.histories;
      persisted = s.persisted;
      stabilised = s.stabilised;
      busy = busy;
      queue = q;
      finished = s.finished;
      marks = s.marks;
    }

-- the state with other operations that are not done, and other lines that wait
abbrev pub with_open : List Operation → List Did → Bool → State → State
with_open pending waiting restoring st =
    record {
      histories = st.histories;
      room = st.room;
      base = st.base;
      log = st.log;
      stables = st.stables;
      pending = pending;
      waiting = waiting;
      persistent_to = st.persistent_to;
      left_to = st.left_to;
      restoring = restoring;
    }

pub carries_queue : (s : Representation) (bytes : List ℕ) (st : State) → Carries s bytes st →
    (q : List Entry) (restoring : Bool) (reserved : ℕ) (numbers : List ℕ)
    (pending : List Operation) (waiting : List Did) → pending_in restoring (with_queue q restoring reserved numbers s) ≡ pending →
    waiting_in restoring (with_queue q restoring reserved numbers s) ≡ waiting → reserved ≡ sum line_bytes waiting →
    ((h : ℕ) → h < s.count → get_or numbers h 0 ≡ busy (with_open pending waiting restoring st) h) →
    Carries (with_queue q restoring reserved numbers s) bytes (with_open pending waiting restoring st)
unfolding log_bytes version_at live_done
carries_queue s bytes st c q restoring reserved numbers pending waiting p w n b =
    record {
      within = c.within;
      text = c.text;
      count = c.count;
      room = c.room;
      head = c.head;
      base = c.base;
      done = c.done;
      persistent = c.persistent;
      stable = c.stable;
      left = c.left;
      stables = c.stables;
      restoring = refl;
      pending = p;
      waiting = w;
      reserved = n;
      histories_long = c.histories_long;
      book = c.book;
      persisted_long = c.persisted_long;
      persisted = c.persisted;
      stabilised_long = c.stabilised_long;
      stabilised = c.stabilised;
      busy = b;
      finished = c.finished;
      marks = c.marks;
    }
