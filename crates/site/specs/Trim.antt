-- What is held of a line's updates, as a list, for every value that the code can have.
use Rattle.std.specs.Prelude.{ℕ, ◌≡◌, Bool, List, length}
pub use Rattle.forms.specs.Lists.{padded}
use Rattle.forms.specs.Forms.{Update, Change, Did}
use Rattle.forms.specs.Held.{as_update, as_asked, as_change, as_done, no_update, no_change, first_four}
use Rattle.forms.specs.Writable.{WritableUpdate, WritableChange, WritableDid, Each}
use Rattle.forms.specs.Limits.{update_limit}
use Rattle.forms.specs.declared.Asked.{Asked}
use Rattle.forms.specs.declared.Done.{Done}
use Rattle.forms.specs.Held.{AskedHeld}
use Rattle.forms.specs.Held.{DoneHeld}
use Rattle.forms.specs.declared.DidLine.{DidLine}
use Rattle.rules.specs.State.{State, Reply}
use Rattle.rules.specs.Calls.{unless, redo_refusal, redo_refusal_when, delivered}
use Rattle.rules.specs.Within.{uses_all}
use Rattle.site.specs.declared.Site.{Site}
use Rattle.site.specs.declared.CallResult.{CallResult}
use Rattle.site.specs.Model.{Lent, view, Does}

-- The updates that are held: as many as are counted, of which the first four are known.
abbrev pub updates_held : AskedHeld → List Update
updates_held h = padded no_update h.count (first_four as_update (as_asked no_update) h.first)

abbrev pub changes_held : DoneHeld → List Change
changes_held h = padded no_change h.count (first_four as_change (as_done no_change) h.first)

-- The did line that is held.
abbrev pub did_held : DidLine → Did
did_held d = record { id = d.id; changes = changes_held d.held }

-- The reply to a redo of a did line: it is refused, or delivered.
abbrev pub redo_of : Did → State → Reply
redo_of did st = unless (redo_refusal did st) (delivered did st)

-- .. with 10 where `full` says so, and so of a site that may use n entries
abbrev pub redo_full : Bool → Did → State → Reply
redo_full full did st = unless (redo_refusal_when full did st) (delivered did st)

abbrev pub redo_within : ℕ → Did → State → Reply
redo_within n did st = redo_full (uses_all n st) did st

-- A call of the site s, which may use the entries in the order, does what the specification replies to a redo of the did line that is held.
abbrev pub Redoes : Site → Lent → DidLine → CallResult → Lent → Type 0
Redoes s old d r new = Does s old (redo_within (length old.order) (did_held d) (view s old)) r new

-- ### What can be written

-- Four places, of which as many as count can be written, whatever stands there.
pub record Bounded {A B : Type 0} (g : B → A) (d : B) (blank : A) (W : A → Type 0) (places : List B) : Type 0 where
  pub long : length places ≡ update_limit
  pub each : (n : ℕ) → Each W (padded blank n (first_four g d places))

abbrev pub BoundedUpdates : List Asked → Type 0
BoundedUpdates places = Bounded as_update (as_asked no_update) no_update WritableUpdate places

abbrev pub BoundedChanges : List Done → Type 0
BoundedChanges places = Bounded as_change (as_done no_change) no_change WritableChange places

-- .. so that the did line that is held can be written
pub record BoundedDid (d : DidLine) : Type 0 where
  pub long : length d.held.first ≡ update_limit
  pub writable : WritableDid (did_held d)
