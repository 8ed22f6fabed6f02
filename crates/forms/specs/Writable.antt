-- What can be written: "Numbers are decimal, at most 2^64 − 1".
use Rattle.std.specs.Prelude.{List, ◌≤◌}
use mathlib.Core.List.{Memᴰ as Mem}
use Rattle.forms.specs.Decimal.{top}
use Rattle.forms.specs.Forms.{Update, Change, Did, Line, did_line, stable_line, BaseCell, Base}
use Rattle.forms.specs.Forms.{Command, SiteOf, Add, Finish, Withdraw, Persistent, Stable, Show, Cut, Redo, End}

pub record WritableUpdate (u : Update) : Type 0 where
  pub history : u.history ≤ top
  pub version : u.version ≤ top
  pub operand : u.operand ≤ top

pub record WritableChange (x : Change) : Type 0 where
  pub history : x.history ≤ top
  pub version : x.version ≤ top
  pub place : x.place ≤ top
  pub operand : x.operand ≤ top

-- every element of a list can be written
abbrev pub Each : {A : Type 0} → (A → Type 0) → List A → Type 0
Each {A} P xs = (x : A) → Mem x xs → P x

pub record WritableDid (d : Did) : Type 0 where
  pub id : d.id ≤ top
  pub changes : Each WritableChange d.changes

-- the numbers of a history in a base line
pub record WritableBaseCell (x : BaseCell) : Type 0 where
  pub history : x.history ≤ top
  pub version : x.version ≤ top
  pub place : x.place ≤ top
  pub profile : x.profile ≤ top

-- the numbers of a base line
pub record WritableBase (b : Base) : Type 0 where
  pub up_to : b.up_to ≤ top
  pub cells : Each WritableBaseCell b.cells

-- the numbers of a line of a log
abbrev pub WritableLine : Line → Type 0
WritableLine (did_line d) = WritableDid d
WritableLine (stable_line n) = n ≤ top

abbrev pub WritableCommand : Command → Type 0
WritableCommand (SiteOf n) = n ≤ top
WritableCommand (Add i us) = (i ≤ top) × Each WritableUpdate us
WritableCommand (Finish i) = i ≤ top
WritableCommand (Withdraw i) = i ≤ top
WritableCommand (Persistent n) = n ≤ top
WritableCommand (Stable n) = n ≤ top
WritableCommand (Show h) = h ≤ top
WritableCommand (Cut k) = k ≤ top
WritableCommand (Redo d) = WritableDid d
WritableCommand End = Unit {0}
