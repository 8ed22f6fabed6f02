-- A stream as the specification's progress, and what feeding it a chunk promises.
use Rattle.std.specs.Prelude.{ℕ, ◌+◌, ◌≤◌, ◌<◌, ◌≡◌, Bool, true, false, List, [], ◌++◌, length, take, drop, Option as Held}
use Rattle.std.proofs.Math.Option.{none}
use Rattle.forms.specs.Limits.{reply_limit}
use Rattle.rules.specs.Log.{lines_from, lines_of}
use Rattle.rules.specs.Session.{after_lines, session_in}
use Rattle.site.specs.declared.Site.{Site}
use Rattle.site.specs.Model.{Lent}
use Rattle.session.specs.declared.PartialLine.{PartialLine}
use Rattle.session.specs.Model.{session_view, ValidOpened, ValidSession}
use Rattle.session.specs.Feeding.{Progress, at_start, fed, UsablePartial, Begins}
use Rattle.stream.specs.Logging.{logged}
use Rattle.stream.specs.declared.Stream.{Stream}
use Rattle.stream.specs.declared.FeedResult.{FeedResult}
use Rattle.stream.specs.declared.RunResult.{RunResult}
use Rattle.stream.specs.declared.SessionRun.{SessionRun}

-- ### The stream

-- The invariant of a stream and what is lent to it.
pub record ValidParts (site : Held Site) (log rows order book : List ℕ) (partial : Held PartialLine) : Type 0 where
  pub session : ValidOpened site log rows order book
  pub begun : UsablePartial partial

abbrev pub ValidStream : Stream → Lent → Type 0
ValidStream s m = ValidParts s.session.site m.log m.rows m.order m.book s.begun

-- The specification's progress that a stream is, whose unended line is `line`, with nothing replied yet.
abbrev pub standing : Stream → List ℕ → Lent → Progress
standing s line bytes = record { begun = line; session = session_view s.session bytes; replied = [] }

-- A stream "before site", with nothing read.
pub record StartsStream (s : Stream) (bytes : Lent) : Type 0 where
  pub valid : ValidStream s bytes
  pub begun : Begins s.begun []
  pub is : standing s [] bytes ≡ at_start

-- ### One chunk

-- The text, of n bytes, stands at the front of the buffer that was `out` and is `page`, and the rest of that buffer is as it was.
pub record Fronts (text out page : List ℕ) (n : ℕ) : Type 0 where
  pub count : n ≡ length text
  pub bytes : page ≡ text ++ drop n out

-- The stream has come to the progress g, and its replies, of n bytes, are written.
pub record Progressed (g : Progress) (s : Stream) (bytes : Lent) (out page : List ℕ) (n : ℕ) : Type 0 where
  pub begun : Begins s.begun g.begun
  pub session : session_view s.session bytes ≡ g.session
  pub replies : Fronts g.replied out page n

-- The stream s, to which `old` was lent and is `new`, is fed the first bytes of the chunk: all of them, or a line is left for whose
-- reply `out` may have no room.
pub record Feeds (s : Stream) (old : Lent) (chunk : List ℕ) (r : FeedResult) (new : Lent) (out page : List ℕ) : Type 0 where
  pub within : r.used ≤ length chunk
  pub stops : r.used < length chunk → length out < r.written + reply_limit
  pub fits : r.written ≤ length out
  pub room : length new.log ≡ length old.log
  pub valid : ValidStream r.stream new
  -- the log buffer, to its last byte
  pub log : (line : List ℕ) → Begins s.begun line →
      new.log ≡ logged (length old.log) (lines_from line (take r.used chunk)) (session_view s.session old) old.log
  pub does : (line : List ℕ) → Begins s.begun line →
      Progressed (fed (length old.log) (take r.used chunk) (standing s line old)) r.stream new out page r.written

-- ### A whole input

-- All replies of the session are written.
pub record RunsWhole (input old : List ℕ) (r : RunResult) (out page : List ℕ) : Type 0 where
  pub used : r.used ≡ length input
  pub replies : Fronts (session_in (length old) input) out page r.written

-- `out` is too short, or nearly: the replies to the lines that were taken are written.
pub record RunsPart (input old : List ℕ) (r : RunResult) (out page : List ℕ) : Type 0 where
  pub within : r.used ≤ length input
  pub short : length out < length (session_in (length old) input) + reply_limit
  pub replies : Fronts (fed (length old) (take r.used input) at_start).replied out page r.written

abbrev pub RunsIf : Bool → List ℕ → List ℕ → RunResult → List ℕ → List ℕ → Type 0
RunsIf true input old r out page = RunsWhole input old r out page
RunsIf false input old r out page = RunsPart input old r out page

-- The input's session over the log buffer that was `old` and is `new`.
pub record Runs (input old : List ℕ) (r : RunResult) (new out page : List ℕ) : Type 0 where
  pub room : length new ≡ length old
  -- the log buffer, to its last byte
  pub log : new ≡ logged (length old) (lines_of (take r.used input)) none old
  pub replies : RunsIf r.whole input old r out page

-- What is said of the run alone.
abbrev pub ran_of : SessionRun → RunResult
ran_of r = record { whole = r.whole; used = r.used; written = r.written }

-- The same, with the session after the lines that were taken: it is valid, and the specification's.
pub record RunsSession (input : List ℕ) (old : Lent) (r : SessionRun) (new : Lent) (out page : List ℕ) : Type 0 where
  pub runs : Runs input old.log (ran_of r) new.log out page
  pub valid : ValidSession r.session new
  pub session : session_view r.session new ≡ after_lines (length old.log) (lines_of (take r.used input)) none
