-- The session and the bytes of its log buffer as the specification has them, and what a line does.
use Rattle.std.specs.Prelude.{ℕ, ◌+◌, ◌*◌, ◌≤◌, ◌≡◌, Bool, true, false, ◌&&◌, List, [], leb, length, drop, Option as Held, Some, None}
use Rattle.std.proofs.Math.Option.{Option, none, some}
use Rattle.forms.specs.Limits.{live_limit, reply_limit}
use Rattle.forms.specs.Forms.{Outcome, Refused, Accepted, outcome_text}
use Rattle.forms.specs.Held.{Replied, replied, outcome_of}
use Rattle.forms.specs.declared.Refusal.{Refusal}
use Rattle.forms.specs.declared.Refusal.TheVariants.{Unreadable, OutOfTurn}
use Rattle.forms.specs.declared.ReplyLine.{ReplyLine}
use Rattle.rules.specs.State.{State, Reply, refused}
use Rattle.rules.specs.Calls.{open_site, Call, step}
use Rattle.rules.specs.Session.{Turn, turn_of, turn}
use Rattle.history.specs.Words.{width}
use Rattle.forms.specs.declared.reader.CommandForm.{CommandForm}
use Rattle.site.specs.declared.Site.{Site}
use Rattle.site.specs.declared.CallResult.{CallResult}
use Rattle.table.specs.Tables.{live_numbers, Frame}
use Rattle.site.specs.Model.{Lent, received, view, Valid, Says, Does}
use Rattle.site.specs.Trim.{updates_held, did_held, redo_of}
use Rattle.forms.specs.Write.{Writes, with_end}
use Rattle.session.specs.declared.Session.{Session}
use Rattle.session.specs.declared.LineResult.{LineResult}
use Rattle.session.specs.declared.Answered.{Answered}

-- ### The session as a state

-- The specification's session that the site held, if any, and what is lent to it are: none "before site".
abbrev pub view_of : Held Site → Lent → Option State
view_of (Some s) bytes = some (view s bytes)
view_of None bytes = none

-- .. that of the session
abbrev pub session_view : Session → Lent → Option State
session_view s bytes = view_of s.site bytes

-- The invariant: a site that is open is valid.
pub record ValidOpened (held : Held Site) (log rows order book : List ℕ) : Type 0 where
  pub site : (s : Site) → held ≡ Some s → Valid s (received log rows order book)

abbrev pub ValidSession : Session → Lent → Type 0
ValidSession s m = ValidOpened s.site m.log m.rows m.order m.book

-- how many bytes of the log buffer, and how many words of the histories, are in use
abbrev pub used_of : Held Site → ℕ
used_of (Some s) = s.used
used_of None = 0

abbrev pub words_used : Held Site → ℕ
words_used (Some s) = width * s.count
words_used None = 0

-- .. and which entries of the table
abbrev pub live_of : Held Site → List ℕ → List ℕ
live_of (Some s) order = live_numbers s.table order
live_of None order = []

-- ### What a line does

-- "A refusal returns its number only": nothing else has changed.
pub record Unchanged (s : Session) (old : Lent) (r : LineResult) (new : Lent) : Type 0 where
  pub session : r.session ≡ s
  pub kept : new ≡ old

-- "An accepted call alters no byte of a lent buffer past those in use, or handed out, after it": of the log's buffer, of the table's rows,
-- of the histories' numbers, and of the lists' numbers past those that the reply counts.
pub record UnusedKept (old : Lent) (r : LineResult) (new : Lent) : Type 0 where
  pub past : drop (used_of r.session.site) new.log ≡ drop (used_of r.session.site) old.log
  pub frame : Frame (live_of r.session.site new.order) old.rows new.rows
  pub past_histories : drop (words_used r.session.site) new.book ≡ drop (words_used r.session.site) old.book
  pub past_lists : drop (r.reply.first + r.reply.second) new.lists ≡ drop (r.reply.first + r.reply.second) old.lists

abbrev pub Keeps : Outcome → Session → Lent → LineResult → Lent → Type 0
Keeps (Refused q) s old r new = Unchanged s old r new
Keeps (Accepted a) s old r new = UnusedKept old r new

-- The session s, to which `old` was lent and is `new` after it, takes the turn t of the specification.
pub record Turns (s : Session) (old : Lent) (t : Turn) (r : LineResult) (new : Lent) : Type 0 where
  pub answer : Says (replied r.reply new.lists) t.reply
  pub after : session_view r.session new ≡ t.after
  pub valid : ValidSession r.session new
  pub keeps : Keeps t.reply s old r new

-- .. the turn of a line of the input
abbrev pub TurnsLine : Session → Lent → List ℕ → LineResult → Lent → Type 0
TurnsLine s old line r new = Turns s old (turn (length old.log) line (session_view s old)) r new

-- The line is refused with q, and the session is as it was.
pub record Refuses (s : Session) (q : Refusal) (r : LineResult) : Type 0 where
  pub answer : (ns : List ℕ) → Says (replied r.reply ns) (Refused q)
  pub session : r.session ≡ s

-- what a call of the site hands back, as a turn
abbrev pub turned_of : CallResult → LineResult
turned_of c = record { session = record { site = Some c.site }; reply = c.reply }

-- A session that has no site yet.
pub record Starts (s : Session) (bytes : Lent) : Type 0 where
  pub view : session_view s bytes ≡ none
  pub valid : ValidSession s bytes

-- The reply with its end is written at a position of the buffer that was `out` and is `written`, if it fits there. It has at most 2,741
-- bytes.
pub record WritesTurn (r : Replied) (out : List ℕ) (at : ℕ) (n : Held ℕ) (written : List ℕ) : Type 0 where
  pub text : Writes out at (with_end (outcome_text (outcome_of r))) n written
  pub short : length (outcome_text (outcome_of r)) + 1 ≤ reply_limit

-- Do the lists that a reply counts stand in the numbers lent for them, at most 64 each? Those of every turn do.
unfoldable pub lists_fit : ReplyLine → List ℕ → Bool
lists_fit r ns = leb r.first live_limit && leb r.second live_limit && leb (r.first + r.second) (length ns)

-- .. and where they do not, nothing is written.
abbrev pub WritesReply : Bool → Replied → List ℕ → ℕ → Held ℕ → List ℕ → Type 0
WritesReply true r out at n written = WritesTurn r out at n written
WritesReply false r out at n written = (n ≡ None) × (written ≡ out)

-- The turn t is taken, and its reply with its end stands at the front of the buffer that was `out` and is `written`, if it fits there.
pub record Answers (s : Session) (old : Lent) (t : Turn) (r : Answered) (new : Lent) (out written : List ℕ) : Type 0 where
  pub turned : LineResult
  pub session : r.session ≡ turned.session
  pub turns : Turns s old t turned new
  pub text : Writes out 0 (with_end (outcome_text t.reply)) r.next written

-- .. the turn of a line of the input
abbrev pub AnswersLine : Session → Lent → List ℕ → Answered → Lent → List ℕ → List ℕ → Type 0
AnswersLine s old line r new out written = Answers s old (turn (length old.log) line (session_view s old)) r new out written

-- ### The forms of a line

-- The reply of an open site to a form that was read, for every value that the code can have: 14 ("site twice"), or that of the call.
unfoldable pub site_reply : ℕ → CommandForm → State → Reply
site_reply room (CommandForm.SiteOf n) st = refused OutOfTurn
site_reply room (CommandForm.Add i a) st = step (Call.Add i (updates_held a)) st
site_reply room (CommandForm.Finish i) st = step (Call.Finish i) st
site_reply room (CommandForm.Withdraw i) st = step (Call.Withdraw i) st
site_reply room (CommandForm.Persistent n) st = step (Call.Persistent n) st
site_reply room (CommandForm.Stable n) st = step (Call.Stable n) st
site_reply room (CommandForm.Show h) st = step (Call.Show h) st
site_reply room (CommandForm.Cut k) st = step (Call.Cut k room) st
site_reply room (CommandForm.Redo d) st = redo_of (did_held d) st
site_reply room CommandForm.End st = step Call.End st

-- The reply to a form "before site": that of opening, or 14.
unfoldable pub closed_reply : ℕ → CommandForm → Reply
closed_reply room (CommandForm.SiteOf n) = open_site n room
closed_reply room (CommandForm.Add i a) = refused OutOfTurn
closed_reply room (CommandForm.Finish i) = refused OutOfTurn
closed_reply room (CommandForm.Withdraw i) = refused OutOfTurn
closed_reply room (CommandForm.Persistent n) = refused OutOfTurn
closed_reply room (CommandForm.Stable n) = refused OutOfTurn
closed_reply room (CommandForm.Show h) = refused OutOfTurn
closed_reply room (CommandForm.Cut k) = refused OutOfTurn
closed_reply room (CommandForm.Redo d) = refused OutOfTurn
closed_reply room CommandForm.End = refused OutOfTurn

-- The reply to a form.
abbrev pub form_reply : ℕ → CommandForm → Option State → Reply
form_reply room f none = closed_reply room f
form_reply room f (some st) = site_reply room f st

-- The turn of the form that was read: 1 where none was.
unfoldable pub obeyed : ℕ → Held CommandForm → Option State → Turn
obeyed room None s = turn_of (refused Unreadable) s
obeyed room (Some f) s = turn_of (form_reply room f s) s

-- The session takes the turn of the form that was read.
abbrev pub TurnsForm : Session → Lent → Held CommandForm → LineResult → Lent → Type 0
TurnsForm s old c r new = Turns s old (obeyed (length old.log) c (session_view s old)) r new

-- The open site does what it is asked for.
abbrev pub DoesForm : Site → Lent → CommandForm → CallResult → Lent → Type 0
DoesForm s old f r new = Does s old (site_reply (length old.log) f (view s old)) r new

-- The session, which is not open, takes the turn of opening a site of n histories.
abbrev pub OpensLine : Session → ℕ → (List ℕ → Lent) → (List ℕ → Lent) → LineResult → Type 0
OpensLine s n old new r = (ns : List ℕ) → Turns s (old ns) (turn_of (open_site n (length (old []).log)) none) r (new ns)
