-- The state that a library's owner lends, as the specification has it: its invariant, and what a call makes of it.
use Rattle.std.specs.Prelude.{ℕ, ◌≡◌, Bool, true, false, List, eqb, leb, length, drop, Option as Held}
use Rattle.std.proofs.Math.Option.{Option, none, some}
use Rattle.forms.specs.Forms.{Outcome, Refused, Accepted, outcome_text}
use Rattle.forms.specs.Limits.{reply_limit}
use Rattle.forms.specs.Refusals.{number_of}
use Rattle.forms.specs.declared.Refusal.{Refusal}
use Rattle.rules.specs.State.{State, Reply, refused, ok}
use Rattle.rules.specs.Log.{ended}
use Rattle.rules.specs.Session.{Turn}
use Rattle.table.specs.Tables.{Frame}
use Rattle.site.specs.declared.Site.{Site}
use Rattle.site.specs.Model.{Lent}
use Rattle.session.specs.declared.Session.{Session}
use Rattle.session.specs.Model.{session_view, ValidOpened, words_used, live_of}
use Rattle.stream.specs.Logging.{overlaid}
use Rattle.stream.specs.Model.{Fronts}
use Rattle.fitting_ledger.specs.Counters.{site_if, session_at, words_again}

-- ### The state

-- The specification's session that the counters and what is lent beside them are: none "before site".
abbrev pub state_at : List ℕ → Lent → Option State
state_at ws m = session_view (session_at ws) m

-- The invariant: the words are counters, of a site that is open or not, and a site that is open is valid.
pub record ValidWords (ws : List ℕ) (site : Held Site) (log rows order book : List ℕ) : Type 0 where
  pub words : words_again ws ≡ ws
  pub session : ValidOpened site log rows order book

abbrev pub ValidState : List ℕ → Lent → Type 0
ValidState ws m = ValidWords ws (session_at ws).site m.log m.rows m.order m.book

-- ### What a call does

-- "A refusal returns its number only; site, log .. and all other lent buffers do not change."
pub record Same (ws : List ℕ) (old : Lent) (after : List ℕ) (new : Lent) : Type 0 where
  pub counters : after ≡ ws
  pub kept : new ≡ old

-- "An accepted call alters no byte of a lent buffer past those in use": of the table's rows, those of the entries that are live after it;
-- of the histories' numbers, those of the site's histories. (Of the log's buffer, see `log` below.)
pub record UnusedLeft (old : Lent) (s : Session) (new : Lent) : Type 0 where
  pub frame : Frame (live_of s.site new.order) old.rows new.rows
  pub past_histories : drop (words_used s.site) new.book ≡ drop (words_used s.site) old.book

abbrev pub KeepsAs : Outcome → List ℕ → Lent → List ℕ → Lent → Type 0
KeepsAs (Refused q) ws old after new = Same ws old after new
KeepsAs (Accepted a) ws old after new = UnusedLeft old (session_at after) new

-- The state, whose counters were `ws` and are `after`, takes the turn t of the specification.
pub record Takes (ws : List ℕ) (old : Lent) (t : Turn) (after : List ℕ) (new : Lent) : Type 0 where
  pub state : state_at after new ≡ t.after
  pub valid : ValidState after new
  -- the log buffer, to its last byte
  pub log : new.log ≡ overlaid t.after old.log
  pub keeps : KeepsAs t.reply ws old after new

-- ### A line

-- The turn is taken, and its reply, with its end, of n bytes, stands at the front of the buffer that was `out` and is `page`.
pub record Answers (ws : List ℕ) (old : Lent) (t : Turn) (n : ℕ) (after : List ℕ) (new : Lent) (out page : List ℕ) : Type 0 where
  pub takes : Takes ws old t after new
  pub reply : Fronts (ended (outcome_text t.reply)) out page n

-- There may be too little room for the reply: the answer is the room needed, which is more, and nothing has happened.
pub record AnswersNot (ws : List ℕ) (old : Lent) (n : ℕ) (after : List ℕ) (new : Lent) (out page : List ℕ) : Type 0 where
  pub answer : n ≡ reply_limit
  pub same : Same ws old after new
  pub unwritten : page ≡ out

abbrev pub AnswersIf : Bool → List ℕ → Lent → Turn → ℕ → List ℕ → Lent → List ℕ → List ℕ → Type 0
AnswersIf true ws old t n after new out page = Answers ws old t n after new out page
AnswersIf false ws old t n after new out page = AnswersNot ws old n after new out page

-- The turn is taken where `out` has room for the longest reply, and only there.
abbrev pub AnswersIfRoom : List ℕ → Lent → Turn → ℕ → List ℕ → Lent → List ℕ → List ℕ → Type 0
AnswersIfRoom ws old t n after new out page = AnswersIf (leb reply_limit (length out)) ws old t n after new out page

-- ### A beginning

-- the session with the site that was handed back: open if the number is 0
abbrev pub begun_as : ℕ → Site → Session
begun_as n s = record { site = site_if (eqb n 0) s }

-- It is refused: the state is "before site", and nothing that is lent beside the counters has changed.
pub record BeginsNot (old : Lent) (q : Refusal) (n : ℕ) (after : List ℕ) (new : Lent) : Type 0 where
  pub answer : n ≡ number_of q
  pub state : state_at after new ≡ none
  pub valid : ValidState after new
  pub kept : new ≡ old

-- The site is open.
pub record BeginsWith (old : Lent) (st : State) (n : ℕ) (after : List ℕ) (new : Lent) : Type 0 where
  pub answer : n ≡ 0
  pub state : state_at after new ≡ some st
  pub valid : ValidState after new
  -- the log buffer, to its last byte
  pub log : new.log ≡ overlaid (some st) old.log
  pub unused : UnusedLeft old (session_at after) new

-- The state, whatever its counters were, begins as the specification replies.
abbrev pub Begins : Lent → Reply → ℕ → List ℕ → Lent → Type 0
Begins old (refused q) n after new = BeginsNot old q n after new
Begins old (ok st a) n after new = BeginsWith old st n after new
