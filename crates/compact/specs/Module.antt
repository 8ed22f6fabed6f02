-- Request (m) of document 02, "Four modules, one table": the compact module, each rule with the paper's sentence.
use Rattle.std.specs.Prelude.{Bool, true, false, cond, not, ◌||◌, List, [], ◌∷◌, ℕ, zero, suc, ◌+◌, ◌-◌, max, leb, ltb}
use Rattle.std.proofs.Math.Option.{Option, none, some}
use Rattle.forms.specs.Decimal.Step.{got, bad}
use Rattle.forms.specs.Lists.{sum}
use Rattle.forms.specs.Reading.{read_did}
use Rattle.forms.specs.declared.Refusal.TheVariants.{Unreadable, OutOfTurn}
use Rattle.rules.specs.Checks.{check}
use Rattle.rules.specs.State.{State, Reply, refused, ok, live}
use Rattle.rules.specs.Calls.{unless, open_site, restart, Call, Add, Finish, Withdraw, Persistent, Stable, Show, Cut, Changeover, Redo, End}
use Rattle.rules.specs.Calls.{writable, step}
use Rattle.rules.specs.When.{lastly, step_when}
pub use Rattle.rules.specs.Within.{kept_live}

-- ### The module

-- "carries up to four sites on 128 live entries"
abbrev pub slot_limit : ℕ
slot_limit = 4

abbrev pub entry_limit : ℕ
entry_limit = 128

-- "Each site, opened or not yet, is promised 16"
abbrev pub least : ℕ
least = 16

-- A place for a site, which may be opened or not yet, and what it is promised.
pub record Slot : Type 0 where
  pub site : Option State
  pub promise : ℕ

abbrev pub unopened : Slot
unopened = record { site = none; promise = least }

-- four of them
abbrev pub Module : Type 0
Module = List Slot

-- The slot with a number, with another in its place, and all others.
unfoldable pub slot_at : ℕ → Module → Slot
slot_at i [] = unopened
slot_at zero (s ∷ m) = s
slot_at (suc i) (s ∷ m) = slot_at i m

unfoldable pub with_slot : ℕ → Slot → Module → Module
with_slot i x [] = []
with_slot zero x (s ∷ m) = x ∷ m
with_slot (suc i) x (s ∷ m) = s ∷ with_slot i x m

unfoldable pub others : ℕ → Module → Module
others i [] = []
others zero (s ∷ m) = m
others (suc i) (s ∷ m) = s ∷ others i m

-- ### Entries

abbrev pub live_in : Option State → ℕ
live_in none = 0
live_in (some st) = live st

abbrev pub restoring_in : Option State → Bool
restoring_in none = false
restoring_in (some st) = st.restoring

abbrev pub opened_in : Option State → Bool
opened_in none = false
opened_in (some st) = true

unfoldable pub live_of : Slot → ℕ
live_of s = live_in s.site

-- "what the others still lack of their promise"
unfoldable pub lacks : Slot → ℕ
lacks s = s.promise - live_of s

-- "the free entries"
unfoldable pub free : Module → ℕ
free m = entry_limit - sum live_of m

-- "An add or redo is refused 10 exactly when the site has 64, or when the free entries do not exceed what the others still lack of their
-- promise." (The 64 stands in 01's own test.)
unfoldable pub taken : ℕ → Module → Bool
taken i m = leb (free m) (sum lacks (others i m))

-- "A cut or restart is refused 10 .. when the entries free once its own are given back do not cover its kept live lines and what the others
-- lack."
unfoldable pub uncovered : ℕ → ℕ → Module → Bool
uncovered i kept m = ltb (free m + live_of (slot_at i m)) (kept + sum lacks (others i m))

-- Does a call of slot i meet 10 from outside?
unfoldable pub meets_ten : ℕ → Call → State → Module → Bool
meets_ten i (Add n us) st m = taken i m
meets_ten i (Finish n) st m = false
meets_ten i (Withdraw n) st m = false
meets_ten i (Persistent n) st m = false
meets_ten i (Stable n) st m = false
meets_ten i (Show h) st m = false
meets_ten i (Cut k room) st m = uncovered i (kept_live (step (Cut k room) st)) m
meets_ten i (Changeover n room) st m = uncovered i (kept_live (step (Changeover n room) st)) m
meets_ten i (Redo line) st m = taken i m
meets_ten i End st m = false

-- the calls that restart the site of a slot
abbrev pub restarts_site : Call → Bool
restarts_site (Add n us) = false
restarts_site (Finish n) = false
restarts_site (Withdraw n) = false
restarts_site (Persistent n) = false
restarts_site (Stable n) = false
restarts_site (Show h) = false
restarts_site (Cut k room) = true
restarts_site (Changeover n room) = true
restarts_site (Redo line) = false
restarts_site End = false

-- ### The promise

-- "Until its restoring ends, a cut or restarted site is promised as many as it had live, if more than 16; over further cuts the largest
-- number holds."
unfoldable pub promised_again : Slot → ℕ
promised_again s = max (max least (live_of s)) (cond (restoring_in s.site) s.promise least)

-- after an accepted call
abbrev pub promise_after : Call → Slot → ℕ
promise_after (Add n us) s = s.promise
promise_after (Finish n) s = s.promise
promise_after (Withdraw n) s = s.promise
promise_after (Persistent n) s = s.promise
promise_after (Stable n) s = s.promise
promise_after (Show h) s = s.promise
promise_after (Cut k room) s = promised_again s
promise_after (Changeover n room) s = promised_again s
promise_after (Redo line) s = s.promise
promise_after End s = least

-- ### Calls of the module

pub data Move : Type 0 where
  -- a call of the site in a slot
  At : ℕ → Call → Move
  -- the number of histories and the length of the lent log buffer
  Open : ℕ → ℕ → ℕ → Move
  -- the lent log buffer and the bytes kept
  Restart : ℕ → List ℕ → ℕ → Move

abbrev pub slot_of : Move → ℕ
slot_of (At i c) = i
slot_of (Open i n room) = i
slot_of (Restart i buffer k) = i

-- 1 is checked before 14.
unfoldable pub readable : Call → Bool
readable (Add n us) = writable (Add n us)
readable (Finish n) = writable (Finish n)
readable (Withdraw n) = writable (Withdraw n)
readable (Persistent n) = writable (Persistent n)
readable (Stable n) = writable (Stable n)
readable (Show h) = writable (Show h)
readable (Cut k room) = writable (Cut k room)
readable (Changeover n room) = writable (Changeover n room)
readable (Redo line) = elim (read_did line) [ got d rest ↦ true | bad ↦ false ]
readable End = true

-- 14: a slot above 3, and one that is not opened
abbrev pub call_at : Option State → ℕ → Call → Module → Reply
call_at none i c m = unless (check (not (readable c)) Unreadable none) (refused OutOfTurn)
call_at (some st) i c m = step_when (meets_ten i c st m) c st

unfoldable pub reply_of : Move → Module → Reply
reply_of (At i c) m = call_at (slot_at i m).site i c m
reply_of (Open i n room) m = unless (check (ltb 3 i || opened_in (slot_at i m).site) OutOfTurn none) (open_site n room)
reply_of (Restart i buffer k) m =
    unless (check (ltb 3 i) OutOfTurn none)
    (lastly (uncovered i (kept_live (restart buffer k)) m) (restart buffer k))

unfoldable pub promise_of : Move → Slot → ℕ
promise_of (At i c) s = promise_after c s
promise_of (Open i n room) s = least
promise_of (Restart i buffer k) s = promised_again s

-- "A refusal .. site, log, keeper and all other lent buffers do not change"
abbrev pub settle_in : ℕ → Reply → ℕ → Module → Module
settle_in i (refused r) p m = m
settle_in i (ok after answer) p m = with_slot i (record { site = some after; promise = p }) m

unfoldable pub next_of : Move → Module → Module
next_of x m = settle_in (slot_of x) (reply_of x m) (promise_of x (slot_at (slot_of x) m)) m

unfoldable pub run_all : List Move → Module → Module
run_all [] m = m
run_all (x ∷ xs) m = run_all xs (next_of x m)

-- A module as it is made.
abbrev pub made : Module
made = unopened ∷ unopened ∷ unopened ∷ unopened ∷ []
