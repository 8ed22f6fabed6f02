-- A line of a session, for a slot: which call of the module it is, and what its reply is.
use Rattle.std.specs.Prelude.{ℕ, ◌-◌, ◌≡◌, Bool, true, false, List, leb, length, take, drop}
use Rattle.std.specs.Prelude.{Option as Answer, Some, None}
use Rattle.std.proofs.Math.Option.{Option, none, some}
use Rattle.forms.specs.Decimal.{Step}
use Rattle.forms.specs.Decimal.Step.{got, bad}
use Rattle.forms.specs.Forms.{Command, outcome_text, did_text}
use Rattle.forms.specs.Limits.{reply_limit}
use Rattle.forms.specs.Reading.{read_command}
use Rattle.forms.specs.declared.reader.CommandForm.{CommandForm}
use Rattle.forms.specs.declared.Refusal.TheVariants.{Unreadable}
use Rattle.rules.specs.State.{Reply, refused, ok}
use Rattle.rules.specs.Log.{ended}
use Rattle.rules.specs.Calls.{Call}
use Rattle.compact.specs.Module.{Module as ModuleState, Move, reply_of, next_of}
use Rattle.site.specs.Model.{Lent}
use Rattle.site.specs.Trim.{updates_held}
use Rattle.stream.specs.Model.{Fronts}
use Rattle.module.specs.declared.Module.{Module}
use Rattle.module.specs.declared.ModuleResult.{ModuleResult}
use Rattle.module.specs.Model.{ValidModule, view_of, around, RefusedIn, AcceptedIn}
use Rattle.module.specs.Replies.{outcome_from}
use Rattle.fitting_module.specs.Words.{Words}
use Rattle.fitting_module.specs.Model.{state_at, ValidWords, Same, Takes}

-- ### The call that a line is

-- What a form asks of slot i, whose log buffer has `room` bytes.
abbrev pub move_of : ℕ → ℕ → Command → Move
move_of i room (Command.SiteOf n) = Move.Open i n room
move_of i room (Command.Add id us) = Move.At i (Call.Add id us)
move_of i room (Command.Finish id) = Move.At i (Call.Finish id)
move_of i room (Command.Withdraw id) = Move.At i (Call.Withdraw id)
move_of i room (Command.Persistent n) = Move.At i (Call.Persistent n)
move_of i room (Command.Stable n) = Move.At i (Call.Stable n)
move_of i room (Command.Show h) = Move.At i (Call.Show h)
move_of i room (Command.Cut k) = Move.At i (Call.Cut k room)
move_of i room (Command.Redo d) = Move.At i (Call.Redo (did_text d))
move_of i room Command.End = Move.At i Call.End

-- none for a line that is not readable
abbrev pub move_in : ℕ → ℕ → Step Command → Option Move
move_in i room bad = none
move_in i room (got c rest) = some (move_of i room c)

unfoldable pub line_move : ℕ → ℕ → List ℕ → Option Move
line_move i room line = move_in i room (read_command line)

-- 1: "unreadable line, or above 1,024 bytes without its end"; it comes before 14.
unfoldable pub line_reply : Option Move → ModuleState → Reply
line_reply none m = refused Unreadable
line_reply (some x) m = reply_of x m

unfoldable pub line_next : Option Move → ModuleState → ModuleState
line_next none m = m
line_next (some x) m = next_of x m

-- ### What a line does

-- The call is made, and its reply, with its end, of n bytes, stands at the front of the buffer that was `out` and is `page`: whatever logs
-- and words the other slots have with which the state is valid.
pub record Answers (i : ℕ) (ws : Words) (old : Lent) (x : Option Move) (n : ℕ) (after : Words) (new : Lent) (out page : List ℕ)
    (logs books : ℕ → List ℕ) : Type 0 where
  pub takes : Takes i ws old (line_reply x (state_at ws (around i old logs books))) (line_next x (state_at ws (around i old logs books))) after
      new (around i new logs books)
  pub reply : Fronts (ended (outcome_text (outcome_from (line_reply x (state_at ws (around i old logs books)))))) out page n

-- There may be too little room for the reply: the answer is the room needed, which is more, and nothing has happened.
pub record AnswersNot (ws : Words) (old : Lent) (n : ℕ) (after : Words) (new : Lent) (out page : List ℕ) : Type 0 where
  pub answer : n ≡ reply_limit
  pub same : Same ws old after new
  pub unwritten : page ≡ out

abbrev pub AnswersIf : Bool → ℕ → Words → Lent → Option Move → ℕ → Words → Lent → List ℕ → List ℕ → Type 0
AnswersIf true i ws old x n after new out page =
    (logs books : ℕ → List ℕ) → ValidWords ws (around i old logs books) → Answers i ws old x n after new out page logs books
AnswersIf false i ws old x n after new out page = AnswersNot ws old n after new out page

-- A line of slot i: its call is made where `out` has room for the longest reply, and only there.
abbrev pub AnswersLine : ℕ → Words → Lent → List ℕ → ℕ → Words → Lent → List ℕ → List ℕ → Type 0
AnswersLine i ws old line n after new out page =
    AnswersIf (leb reply_limit (length out)) i ws old (line_move i (length old.log) line) n after new out page

-- ### The form that was read

-- the did line of a redo: what stands between "(redo " and the last bracket
abbrev pub did_in : List ℕ → List ℕ
did_in line = take (length line - 1 - 6) (drop 6 line)

-- The call of a form that was read, for every value that the code can have.
unfoldable pub form_move : ℕ → ℕ → List ℕ → Answer CommandForm → Option Move
form_move i room line None = none
form_move i room line (Some (CommandForm.SiteOf n)) = some (Move.Open i n room)
form_move i room line (Some (CommandForm.Add id asked)) = some (Move.At i (Call.Add id (updates_held asked)))
form_move i room line (Some (CommandForm.Finish id)) = some (Move.At i (Call.Finish id))
form_move i room line (Some (CommandForm.Withdraw id)) = some (Move.At i (Call.Withdraw id))
form_move i room line (Some (CommandForm.Persistent n)) = some (Move.At i (Call.Persistent n))
form_move i room line (Some (CommandForm.Stable n)) = some (Move.At i (Call.Stable n))
form_move i room line (Some (CommandForm.Show h)) = some (Move.At i (Call.Show h))
form_move i room line (Some (CommandForm.Cut k)) = some (Move.At i (Call.Cut k room))
form_move i room line (Some (CommandForm.Redo d)) = some (Move.At i (Call.Redo (did_in line)))
form_move i room line (Some CommandForm.End) = some (Move.At i Call.End)

-- The module m, to which `old` was lent and is `new` after it, does what the specification replies to the call of slot i.
abbrev pub DoesCall : ℕ → Module → Lent → (ℕ → List ℕ) → (ℕ → List ℕ) → Reply → ModuleState → ModuleResult → Lent → Type 0
DoesCall i m old logs books (refused q) next r new = RefusedIn m old q r new
DoesCall i m old logs books (ok st a) next r new = AcceptedIn i old next a r new (around i new logs books)

abbrev pub Obeys : ℕ → Module → Option Move → Lent → ModuleResult → Lent → Type 0
Obeys i m x old r new =
    (logs books : ℕ → List ℕ) → ValidModule m (around i old logs books) →
    DoesCall i m old logs books (line_reply x (view_of m (around i old logs books))) (line_next x (view_of m (around i old logs books))) r new

-- .. of the form that was read
abbrev pub ObeysForm : ℕ → Module → Lent → List ℕ → Answer CommandForm → ModuleResult → Lent → Type 0
ObeysForm i m old line c r new = Obeys i m (form_move i (length old.log) line c) old r new
