-- A session ("A session, whole"): from the text of a whole input to the text of all replies.
use Rattle.std.specs.Prelude.{List, [], ◌∷◌, ◌++◌, ℕ}
use Rattle.std.proofs.Math.Option.{Option, none, some}
use Rattle.forms.specs.Decimal.{Step}
use Rattle.forms.specs.Decimal.Step.{got, bad}
use Rattle.forms.specs.Forms.{Command, Outcome, Refused, Accepted, outcome_text, did_text}
use Rattle.forms.specs.Reading.{read_command}
use Rattle.forms.specs.declared.Refusal.TheVariants.{Unreadable, OutOfTurn}
use Rattle.rules.specs.Log.{ended, lines_of, rest_of}
use Rattle.forms.specs.Limits.{log_limit}
use Rattle.rules.specs.State.{State, Reply, refused, ok}
use Rattle.rules.specs.Calls.{open_site, Call, step}

-- The session's state: none "before site".
abbrev pub Session : Type 0
Session = Option State

-- what a line does: the reply, and the session after it
pub record Turn : Type 0 where
  pub reply : Outcome
  pub after : Session

unfoldable pub turn_of : Reply → Session → Turn
turn_of (refused r) before = record { reply = Refused r; after = before }
turn_of (ok st a) before = record { reply = Accepted a; after = some st }

-- 14: "before site, or site twice"; room is the length of the session's log buffer
unfoldable pub opening : ℕ → ℕ → Session → Turn
opening room n none = turn_of (open_site n room) none
opening room n (some st) = turn_of (refused OutOfTurn) (some st)

unfoldable pub calling : Call → Session → Turn
calling c none = turn_of (refused OutOfTurn) none
calling c (some st) = turn_of (step c st) (some st)

unfoldable pub obey : ℕ → Command → Session → Turn
obey room (Command.SiteOf n) s = opening room n s
obey room (Command.Add i us) s = calling (Call.Add i us) s
obey room (Command.Finish i) s = calling (Call.Finish i) s
obey room (Command.Withdraw i) s = calling (Call.Withdraw i) s
obey room (Command.Persistent n) s = calling (Call.Persistent n) s
obey room (Command.Stable n) s = calling (Call.Stable n) s
obey room (Command.Show h) s = calling (Call.Show h) s
obey room (Command.Cut k) s = calling (Call.Cut k room) s
obey room (Command.Redo d) s = calling (Call.Redo (did_text d)) s
obey room Command.End s = calling Call.End s

-- 1: "unreadable line, or above 1,024 bytes without its end"
unfoldable pub on_command : ℕ → Step Command → Session → Turn
on_command room bad s = turn_of (refused Unreadable) s
on_command room (got c rest) s = obey room c s

-- "reads one form a line and prints one reply a line"
unfoldable pub turn : ℕ → List ℕ → Session → Turn
turn room line s = on_command room (read_command line) s

-- the replies to some lines, and the session after them
unfoldable pub replies : ℕ → List (List ℕ) → Session → List ℕ
replies room [] s = []
replies room (l ∷ ls) s = ended (outcome_text (turn room l s).reply) ++ replies room ls (turn room l s).after

unfoldable pub after_lines : ℕ → List (List ℕ) → Session → Session
after_lines room [] s = s
after_lines room (l ∷ ls) s = after_lines room ls (turn room l s).after

-- "Unended rest of input: 1."
unfoldable pub rest_reply : List ℕ → List ℕ
rest_reply [] = []
rest_reply (b ∷ bs) = ended (outcome_text (Refused Unreadable))

-- A whole input, from a session with no site, over a log buffer of `room` bytes.
unfoldable pub session_in : ℕ → List ℕ → List ℕ
session_in room input = replies room (lines_of input) none ++ rest_reply (rest_of input)

-- "its log buffer has 65,536 bytes"
unfoldable pub session : List ℕ → List ℕ
session input = session_in log_limit input
