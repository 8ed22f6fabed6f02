-- The calls with refusal 10 from outside: a site that shares its table (request (m) of 02). `full` says that "10 is met here", beside the
-- site's own 64.
use Rattle.std.specs.Prelude.{Bool, false, not, ◌||◌, List, ℕ, take}
use Rattle.std.proofs.Math.Option.{none}
use Rattle.forms.specs.Decimal.{Step}
use Rattle.forms.specs.Decimal.Step.{got, bad}
use Rattle.forms.specs.Forms.{Update, Did}
use Rattle.forms.specs.Reading.{read_did}
use Rattle.forms.specs.declared.Refusal.TheVariants.{Unreadable, TableFull}
use Rattle.rules.specs.Checks.{check}
use Rattle.rules.specs.Log.{read_log}
use Rattle.rules.specs.State.{State, Reply, refused, ok, log_bytes}
use Rattle.rules.specs.Calls.{unless, table_full, add_refusal_when, added, finish, withdraw, persistent, stable, show, restart_as}
use Rattle.rules.specs.Calls.{cut_refusal, redo_refusal_when}
use Rattle.rules.specs.Calls.{delivered, end, Call, Add, Finish, Withdraw, Persistent, Stable, Show, Cut, Changeover, Redo, End}
use Rattle.rules.specs.Calls.{writable}
use Rattle.rules.specs.Trim.{trim_text, trim_refusal}

unfoldable pub add_when : Bool → ℕ → List Update → State → Reply
add_when full i us st = unless (add_refusal_when full i us st) (added i us st)

unfoldable pub redo_read_when : Bool → Step Did → State → Reply
redo_read_when full bad st = refused Unreadable
redo_read_when full (got d rest) st = unless (redo_refusal_when full d st) (delivered d st)

unfoldable pub redo_when : Bool → List ℕ → State → Reply
redo_when full line st = redo_read_when full (read_did line) st

-- "A cut or restart is refused 10, checked after 15": the last check of all.
unfoldable pub lastly : Bool → Reply → Reply
lastly full (refused r) = refused r
lastly full (ok st answer) = unless (check full TableFull none) (ok st answer)

unfoldable pub cut_when : Bool → ℕ → ℕ → State → Reply
cut_when full k room st =
    unless (cut_refusal k room st)
    (lastly full (restart_as room (read_log (take k (log_bytes st)))))

-- A changeover is a restart.
unfoldable pub changeover_when : Bool → ℕ → ℕ → State → Reply
changeover_when full n room st =
    unless (trim_refusal n room st)
    (lastly full (restart_as room (read_log (trim_text n st))))

unfoldable pub perform_when : Bool → Call → State → Reply
perform_when full (Add i us) st = add_when full i us st
perform_when full (Finish i) st = finish i st
perform_when full (Withdraw i) st = withdraw i st
perform_when full (Persistent n) st = persistent n st
perform_when full (Stable n) st = stable n st
perform_when full (Show h) st = show h st
perform_when full (Cut k room) st = cut_when full k room st
perform_when full (Changeover n room) st = changeover_when full n room st
perform_when full (Redo line) st = redo_when full line st
perform_when full End st = end st

-- One call of a site with 10 from outside. `step` is this with `false`, see WhenLaws.
unfoldable pub step_when : Bool → Call → State → Reply
step_when full c st = unless (check (not (writable c)) Unreadable none) (perform_when full c st)

-- the test of 10 that a call comes to: "An add or redo is refused 10 exactly when the site has 64, or" from outside; a cut or changeover
-- from outside only
abbrev pub meets : Bool → Call → State → Bool
meets full (Add i us) st = full || table_full st
meets full (Finish i) st = false
meets full (Withdraw i) st = false
meets full (Persistent n) st = false
meets full (Stable n) st = false
meets full (Show h) st = false
meets full (Cut k room) st = full
meets full (Changeover n room) st = full
meets full (Redo line) st = full || table_full st
meets full End st = false
