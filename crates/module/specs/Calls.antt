-- What the parts of a module's call do: the slot's site put back, and numbers given back where the call was refused.
use Rattle.std.specs.Prelude.{ℕ, ◌+◌, ◌*◌, ◌≤◌, ◌<◌, ◌≡◌, Bool, true, false, List, ◌++◌, length, take, drop, set}
use Rattle.forms.specs.Forms.{Refused}
use Rattle.forms.specs.Held.{replied}
use Rattle.forms.specs.declared.Refusal.{Refusal}
use Rattle.forms.specs.declared.ReplyForm.{ReplyForm}
use Rattle.site.specs.declared.Site.{Site}
use Rattle.site.specs.declared.CallResult.{CallResult}
use Rattle.site.specs.Model.{Says}
use Rattle.module.specs.declared.Slot.{Slot}
use Rattle.module.specs.declared.Module.{Module}
use Rattle.module.specs.declared.ModuleResult.{ModuleResult}
use Rattle.module.specs.declared.Loan.{Loan}
use Rattle.module.specs.Four.{four}
use Rattle.module.specs.Parts.{part_room, table_room, part_of}
use Rattle.module.specs.Model.{live_in, held_in, claim_in}
use Rattle.module.specs.Gather.{Gathered}

-- what the slots claim fits the table
pub record Claims (l : List Slot) (i : ℕ) : Type 0 where
  pub size : length l ≡ 4
  pub own : i < 4
  pub few : (j : ℕ) → j < 4 → live_in l j ≤ part_room
  pub fit : four (claim_in l) ≤ table_room

-- Is it the form of a refusal?
unfoldable pub refuses : ReplyForm → Bool
refuses (ReplyForm.Refused q) = true
refuses ReplyForm.Opened = false
refuses ReplyForm.Added = false
refuses (ReplyForm.Finished n k) = false
refuses ReplyForm.Withdrawn = false
refuses ReplyForm.Persisted = false
refuses ReplyForm.Stabilised = false
refuses (ReplyForm.Shows s) = false
refuses (ReplyForm.Restarted lines used) = false
refuses (ReplyForm.Redone ran examined) = false
refuses ReplyForm.Ended = false

-- a slot whose site is s, opened, promised p
abbrev pub slot_with : Site → ℕ → ℕ → Slot
slot_with s p h = record { site = s; opened = true; promise = p; held = h }

-- The module with the site that a call of slot i handed back, and its reply.
abbrev pub answered : List Slot → ℕ → CallResult → ℕ → ModuleResult
answered l i r p = record { after = record { slots = set l i (slot_with r.site p (held_in l i)) }; reply = r.reply }

-- Free numbers are lent to slot i until it holds n, and its part as it was is kept.
pub record Lends (l : List Slot) (ns : List ℕ) (i n : ℕ) (loan : Loan) (ms : List ℕ) : Type 0 where
  pub gathered : Gathered l ns i n loan.slots ms
  pub saved : loan.saved ≡ part_of i part_room ns

-- After a call: a refused one leaves the module, and the part as it was; an accepted one the slots with the numbers that were lent.
pub record GivesBack (m : Module) (i : ℕ) (loan : Loan) (r : CallResult) (ns : List ℕ) (x : ModuleResult) (ms : List ℕ) : Type 0 where
  pub result : x ≡ record { after = m; reply = r.reply }
  pub numbers : ms ≡ take (part_room * i) ns ++ (loan.saved ++ drop (part_room * i + part_room) ns)

pub record KeepsLoan (i : ℕ) (loan : Loan) (r : CallResult) (p : ℕ) (ns : List ℕ) (x : ModuleResult) (ms : List ℕ) : Type 0 where
  pub result : x ≡ answered loan.slots i r p
  pub numbers : ms ≡ ns

abbrev pub SettlesAs : Bool → Module → ℕ → Loan → CallResult → ℕ → List ℕ → ModuleResult → List ℕ → Type 0
SettlesAs true m i loan r p ns x ms = GivesBack m i loan r ns x ms
SettlesAs false m i loan r p ns x ms = KeepsLoan i loan r p ns x ms

abbrev pub Settles : Module → ℕ → Loan → CallResult → ℕ → List ℕ → ModuleResult → List ℕ → Type 0
Settles m i loan r p ns x ms = SettlesAs (refuses r.reply.form) m i loan r p ns x ms

-- A call that is refused before it comes to a site.
pub record Turns (m : Module) (q : Refusal) (x : ModuleResult) : Type 0 where
  pub same : x.after ≡ m
  pub answer : (ns : List ℕ) → Says (replied x.reply ns) (Refused q)

-- After a call of a slot to which nothing was lent: a refused one leaves the module.
abbrev pub ConcludesAs : Bool → Module → ℕ → CallResult → ℕ → ModuleResult → Type 0
ConcludesAs true m i r p x = x ≡ record { after = m; reply = r.reply }
ConcludesAs false m i r p x = x ≡ answered m.slots i r p

abbrev pub Concludes : Module → ℕ → CallResult → ℕ → ModuleResult → Type 0
Concludes m i r p x = ConcludesAs (refuses r.reply.form) m i r p x
