-- What a line's reading gives is what the line asks for: a call with what is held of its updates or of its did line is the call with them.
use Rattle.std.specs.Prelude.{ℕ, ◌≤◌, ◌≡◌, refl, List, [], ◌++◌, length, Option as Held}
use Rattle.std.proofs.Common.{arith, sym, ap, subst, ◌∙◌, length-append}
use Rattle.std.proofs.Math.Option.{Option, none, some}
use Rattle.forms.specs.Decimal.{Step}
use Rattle.forms.specs.Decimal.Step.{got, bad}
use Rattle.forms.specs.Words.{bytes}
use Rattle.forms.specs.Forms.{Command, SiteOf, Add, Finish, Withdraw, Persistent, Stable, Show, Cut, Redo, End}
use Rattle.forms.specs.Forms.{Did, did_text, redo_text, command_text}
use Rattle.forms.specs.Reading.{read_did, read_command}
use Rattle.forms.specs.Writable.{WritableCommand}
use Rattle.forms.specs.Held.{held_did}
use Rattle.forms.specs.DidLaws.{read_did-written}
use Rattle.forms.specs.CommandLaws.{command_read}
use Rattle.rules.specs.State.{State, Reply}
use Rattle.rules.specs.Calls.{Call, writable, perform, step, redo, redo_read}
use Rattle.rules.specs.Session.{Turn, turn_of, opening, calling, obey, on_command, turn}
use Rattle.forms.specs.declared.reader.CommandForm.{CommandForm}
use Rattle.forms.specs.Read.{command_answer}
use Rattle.forms.specs.Limits.{line_limit}
use Rattle.site.specs.Model.{Lent}
use Rattle.site.specs.ModelLaws.{step_performs}
use Rattle.site.specs.Trim.{did_held, redo_of}
use Rattle.site.specs.TrimLaws.{updates_writable, add-held, redo-held}
use Rattle.session.specs.declared.Session.{Session}
use Rattle.session.specs.declared.LineResult.{LineResult}
use Rattle.session.specs.Model.{session_view, Turns, TurnsLine, site_reply, closed_reply, obeyed, TurnsForm}

-- the did line of a redo is shorter than its line
redo-short : (d : Did) → length (command_text (Redo d)) ≤ line_limit → length (did_text d) ≤ line_limit
unfolding command_text redo_text
redo-short d h = omega (arith, h, length-append (bytes "(redo ") (did_text d ++ bytes ")"), length-append (did_text d) (bytes ")"))

-- A redo of a did line that is read back from its text is the redo of what is held of it.
redo-step : (d : Did) (st : State) → read_did (did_text d) ≡ got d [] → step (Call.Redo (did_text d)) st ≡ redo_of (did_held (held_did d)) st
unfolding writable perform redo redo_read
redo-step d st e =
    step_performs (Call.Redo (did_text d)) st refl ∙ ap (λ (z : Step Did). redo_read z st) e ∙ sym (redo-held d st)

-- What is obeyed is the form that was read.
obeys : (room : ℕ) (c : Command) (rest : List ℕ) (s : Option State) → WritableCommand c → length (command_text c) ≤ line_limit →
    obey room c s ≡ obeyed room (command_answer (got c rest)) s
unfolding obey opening calling obeyed site_reply closed_reply command_answer
obeys room (SiteOf n) rest none w h = refl
obeys room (SiteOf n) rest (some st) w h = refl
obeys room (Add i us) rest none w h = refl
obeys room (Add i us) rest (some st) w h =
    ap (λ (y : Reply). turn_of y (some st)) (sym (add-held i us st w.0 (updates_writable us w.1)))
obeys room (Finish i) rest none w h = refl
obeys room (Finish i) rest (some st) w h = refl
obeys room (Withdraw i) rest none w h = refl
obeys room (Withdraw i) rest (some st) w h = refl
obeys room (Persistent n) rest none w h = refl
obeys room (Persistent n) rest (some st) w h = refl
obeys room (Stable n) rest none w h = refl
obeys room (Stable n) rest (some st) w h = refl
obeys room (Show n) rest none w h = refl
obeys room (Show n) rest (some st) w h = refl
obeys room (Cut k) rest none w h = refl
obeys room (Cut k) rest (some st) w h = refl
obeys room (Redo d) rest none w h = refl
obeys room (Redo d) rest (some st) w h = ap (λ (y : Reply). turn_of y (some st)) (redo-step d st (read_did-written d w (redo-short d h)))
obeys room End rest none w h = refl
obeys room End rest (some st) w h = refl

-- 1: what is not readable is refused, with a site and before
unread : (room : ℕ) (s : Option State) → on_command room bad s ≡ obeyed room (command_answer bad) s
unfolding on_command obeyed command_answer
unread room s = refl

-- A line's turn is that of the form that was read.
turn_is : (room : ℕ) (line : List ℕ) (s : Option State) → turn room line s ≡ obeyed room (command_answer (read_command line)) s
unfolding turn on_command
turn_is room line s = go (read_command line) refl
  where
    go : (x : Step Command) → read_command line ≡ x → on_command room x s ≡ obeyed room (command_answer x) s
    go (got c rest) e =
        let r = command_read line c rest e in
        obeys room c rest s r.2 (subst (λ (l : List ℕ). length l ≤ line_limit) r.0 r.3)
    go bad e = unread room s

-- What is done for the form that was read is done for the line.
pub turns_by : (line : List ℕ) (c : Held CommandForm) → c ≡ command_answer (read_command line) →
    (s : Session) (old : Lent) (r : LineResult) (new : Lent) →
    TurnsForm s old c r new → TurnsLine s old line r new
turns_by line c e s old r new h =
    subst (λ (t : Turn). Turns s old t r new) (sym (turn_is (length old.log) line (session_view s old)))
    (subst (λ (x : Held CommandForm). TurnsForm s old x r new) e h)
