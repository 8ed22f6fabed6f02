-- (k) of document 02: "keep for every history the number of its future, in-progress and volatile updates", and the poll that reads it.
use Rattle.std.specs.Prelude.{Bool, cond, ℕ, ◌+◌, ◌-◌, List, leb, eqb, drop}
use Rattle.forms.specs.Lists.{sum}
use Rattle.forms.specs.Forms.{Update, Change, Did}
use Rattle.forms.specs.declared.Refusal.{Refusal}
use Rattle.forms.specs.declared.Refusal.TheVariants.{NoSuchHistory}
use Rattle.rules.specs.State.{Operation, State, start_of, dry}

-- one for an update in history h, 0 for any other
abbrev pub tell : Bool → ℕ
tell b = cond b 1 0

-- how many updates in history h an operation asks for
unfoldable pub asks_in : ℕ → Operation → ℕ
asks_in h x = sum (λ (u : Update). tell (eqb u.history h)) x.updates

-- how many updates in history h a did line has
unfoldable pub changes_in : ℕ → Did → ℕ
changes_in h d = sum (λ (x : Change). tell (eqb x.history h)) d.changes

-- the volatile operations: done and not persistent
abbrev pub volatile : State → List Did
volatile st = drop (st.persistent_to - (start_of st).up_to) st.log

-- "for every history the number of its future, in-progress and volatile updates"
unfoldable pub busy : State → ℕ → ℕ
busy st h = sum (asks_in h) st.pending + sum (changes_in h) (volatile st)

-- what a poll of a history says
pub data Polled : Type 0 where
  PollRefused : Refusal → Polled
  PollDry PollBusy : Polled

-- "says dry exactly when a walk over the entries would; a history that is not there is refused 3"
unfoldable pub poll : ℕ → State → Polled
poll h st = cond (leb st.histories h) (PollRefused NoSuchHistory) (cond (dry st h) PollDry PollBusy)
