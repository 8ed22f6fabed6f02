-- Request (m): what is claimed of the module beyond the rules. "So a module's neighbours can fill the rest and its profiles still return
-- after a cut as before."
use Rattle.std.specs.Prelude.{◌≡◌, Bool, true, not, cond, List, [], ◌∷◌, ◌++◌, ℕ, T, eqb}
use Rattle.std.proofs.Math.Option.{Option, none, some}
use Rattle.forms.specs.Lists.{all}
use Rattle.forms.specs.Forms.{Did}
use Rattle.forms.specs.Limits.{log_limit}
use Rattle.rules.specs.State.{State, ok}
use Rattle.rules.specs.Calls.{opened, Call, Cut}
use Rattle.recovery.specs.Claim.{Start, Fair, lost_by, Recovered}
use Rattle.recovery.specs.Arrival.{every, SameWork, AllThree}
use Rattle.recovery.specs.Host.{Host, run_in, counted_in, came_in, FairIn, AskedIn}
use Rattle.compact.specs.Module.{Module, slot_at, Move, At, Open, Restart, reply_of, next_of}
use Rattle.compact.specs.Fits.{Fits}

-- ### A slot's site in the module

-- the site of a slot that is opened (of another nothing is said)
abbrev pub site_or : Option State → State
site_or none = opened 1 log_limit
site_or (some st) = st

-- the call of slot i's site that a call of the module is
abbrev pub own_of : ℕ → Move → Option Call
own_of i (At j c) = cond (eqb j i) (some c) none
own_of i (Open j n room) = none
own_of i (Restart j buffer k) = none

abbrev pub in_slot : ℕ → Host
in_slot i = record { World = Module; Move = Move; next = next_of; site = λ m. site_or (slot_at i m).site; own = own_of i; reply = reply_of }

-- A restart of the slot begins another list.
abbrev pub goes_on : ℕ → Move → Bool
goes_on i (At j c) = true
goes_on i (Open j n room) = true
goes_on i (Restart j buffer k) = not (eqb j i)

-- ### A fair cut

-- A cut of slot i's site that is fair for the site alone is accepted by the module, and does the same: it is never refused 10.
abbrev pub FairCutAccepted : Type 0
FairCutAccepted =
    (i counts : ℕ) (start : Module) → Fits start → (site : State) → (slot_at i start).site ≡ some site → Start counts site →
    (xs : List Move) → T (all (goes_on i) xs) → (k room : ℕ) (after : State) →
    (f : Fair (counted_in (in_slot i) counts xs start) k room (site_or (slot_at i (run_in (in_slot i) xs start)).site) after) →
    reply_of (At i (Cut k room)) (run_in (in_slot i) xs start) ≡ ok after f.answer

-- ### Recovery, for each slot, with any neighbours

-- A list of the module's calls as the recovery promise asks it of slot i; of the other slots' calls nothing is asked.
pub record SlotList (i : ℕ) (chosen : Did → Bool) : Type 0 where
  pub counts : ℕ
  pub start : Module
  pub fits : Fits start
  pub site : State
  pub is_open : (slot_at i start).site ≡ some site
  -- "a site just opened, or restarted"
  pub begins : Start counts site
  pub xs : List Move
  -- the picked cut
  pub x : Move
  pub k : ℕ
  pub room : ℕ
  pub ys : List Move
  pub after : State
  pub on : T (all (goes_on i) (xs ++ x ∷ ys))
  pub fair : FairIn (in_slot i) (counted_in (in_slot i) counts xs start) k room x (run_in (in_slot i) xs start) after
  pub asked : AskedIn (in_slot i) counts start (λ a. xs ++ x ∷ a) ys
      (lost_by (site_or (slot_at i (run_in (in_slot i) xs start)).site) after) chosen

-- slot i's site just before the picked cut, and at the end
abbrev pub before_cut : {i : ℕ} {chosen : Did → Bool} → SlotList i chosen → State
before_cut {i} l = site_or (slot_at i (run_in (in_slot i) l.xs l.start)).site

abbrev pub at_end : {i : ℕ} {chosen : Did → Bool} → SlotList i chosen → State
at_end {i} l = site_or (slot_at i (run_in (in_slot i) (l.xs ++ l.x ∷ l.ys) l.start)).site

-- Demand 3 for every slot.
abbrev pub SlotClaim : Type 0
SlotClaim =
    (i : ℕ) (chosen : Did → Bool) (l : SlotList i chosen) →
    Recovered (before_cut l) l.after (lost_by (before_cut l) l.after) chosen (came_in (in_slot i) [] (l.xs ++ l.x ∷ l.ys) l.start)
    (at_end l)

-- (n): "It is to hold .. for the compact module and with further cuts between."
abbrev pub SlotArrival : Type 0
SlotArrival = (i : ℕ) (l : SlotList i every) → SameWork (before_cut l).log (at_end l).log

-- Two deliveries of all lost lines, at whatever slots of whatever modules, after equal logs.
abbrev pub SlotOrders : Type 0
SlotOrders =
    (i j : ℕ) (l : SlotList i every) (k : SlotList j every) → (before_cut l).log ≡ (before_cut k).log →
    AllThree (before_cut l).log (at_end l).log (at_end k).log
