-- A site that may use n entries (request (m) of 02): the calls that take entries meet 10 where these do not suffice. Alone a site may use
-- 64.
use Rattle.std.specs.Prelude.{Bool, false, List, ℕ, leb, ltb}
use Rattle.rules.specs.Log.{Journal}
use Rattle.rules.specs.State.{State, Reply, refused, ok, live}
use Rattle.rules.specs.Calls.{restart_as, restart, Call, Add, Finish, Withdraw, Persistent, Stable, Show, Cut, Changeover, Redo, End}
use Rattle.rules.specs.Calls.{step}
use Rattle.rules.specs.When.{lastly, step_when}

-- the kept live lines of a cut or restart: those that are live after it
abbrev pub kept_live : Reply → ℕ
kept_live (refused r) = 0
kept_live (ok after answer) = live after

-- 10 of an add or redo: all that the site may use are live.
abbrev pub uses_all : ℕ → State → Bool
uses_all n st = leb n (live st)

-- 10 of a cut or restart: its kept live lines are more than the site may use.
abbrev pub keeps_more : ℕ → Reply → Bool
keeps_more n x = ltb n (kept_live x)

-- Does a call meet 10 where the site may use n entries?
abbrev pub ten_within : ℕ → Call → State → Bool
ten_within n (Add i us) st = uses_all n st
ten_within n (Finish i) st = false
ten_within n (Withdraw i) st = false
ten_within n (Persistent i) st = false
ten_within n (Stable i) st = false
ten_within n (Show h) st = false
ten_within n (Cut k room) st = keeps_more n (step (Cut k room) st)
ten_within n (Changeover i room) st = keeps_more n (step (Changeover i room) st)
ten_within n (Redo line) st = uses_all n st
ten_within n End st = false

-- One call of a site that may use n entries.
unfoldable pub step_within : ℕ → Call → State → Reply
step_within n c st = step_when (ten_within n c st) c st

-- .. and a restart: "refused 10, checked after 15"
abbrev pub reply_within : ℕ → Reply → Reply
reply_within n x = lastly (keeps_more n x) x

abbrev pub restored_within : ℕ → ℕ → Journal → Reply
restored_within n room j = reply_within n (restart_as room j)

abbrev pub restart_within : ℕ → List ℕ → ℕ → Reply
restart_within n buffer k = reply_within n (restart buffer k)
