-- The recovery claim at the printed page: an examination paper as an input text, and the last line that the session prints for it. Proved
-- in PageLaws.
use Rattle.std.specs.Prelude.{◌≡◌, Bool, List, [], ◌∷◌, ◌++◌, ℕ, ◌<◌, T}
use Rattle.std.proofs.Math.Option.{none}
use mathlib.Core.List.{Memᴰ as Mem}
use Rattle.forms.specs.Decimal.{Step}
use Rattle.forms.specs.Decimal.Step.{got, bad}
use Rattle.forms.specs.Forms.{Command, Did, Answer, Shown, Ended, did_text, command_text, answer_text}
use Rattle.forms.specs.Reading.{read_command}
use Rattle.rules.specs.Book.{Cell, blank_base, cell}
use Rattle.rules.specs.Log.{ended, lines_of, rest_of, histories_fit}
use Rattle.forms.specs.Limits.{log_limit}
use Rattle.rules.specs.State.{State, ok, stable_to, version_at}
use Rattle.rules.specs.Calls.{opened, open_site, Call}
use Rattle.rule_laws.specs.Good.{did_ids}
use Rattle.rules.specs.Run.{run}
use Rattle.rules.specs.Session.{replies, session_in}
use Rattle.recovery.specs.Claim.{counted, Fair, lost_by, came, Asked, Recovered}

-- ### The calls of a text

-- The call of the site that a form is, in a session whose log buffer has `room` bytes: after a cut the log stands in a buffer of that
-- length again. `(site N)` is no call of the site: once the site is open it is refused 14 and changes nothing.
unfoldable pub call_of : ℕ → Command → List Call
call_of room (Command.SiteOf n) = []
call_of room (Command.Add i us) = Call.Add i us ∷ []
call_of room (Command.Finish i) = Call.Finish i ∷ []
call_of room (Command.Withdraw i) = Call.Withdraw i ∷ []
call_of room (Command.Persistent n) = Call.Persistent n ∷ []
call_of room (Command.Stable n) = Call.Stable n ∷ []
call_of room (Command.Show h) = Call.Show h ∷ []
call_of room (Command.Cut k) = Call.Cut k room ∷ []
call_of room (Command.Redo d) = Call.Redo (did_text d) ∷ []
call_of room Command.End = Call.End ∷ []

-- An unreadable line is no call: it is refused 1 and changes nothing.
unfoldable pub call_read : ℕ → Step Command → List Call
call_read room bad = []
call_read room (got c rest) = call_of room c

-- "reads one form a line": the calls that some lines are, in their order. The lines may be any bytes.
unfoldable pub calls_of : ℕ → List (List ℕ) → List Call
calls_of room [] = []
calls_of room (l ∷ ls) = call_read room (read_command l) ++ calls_of room ls

-- ### The paper

-- The text's lines are these, each with its end, and nothing stands behind the last.
pub record Text (input : List ℕ) (lines : List (List ℕ)) : Type 0 where
  pub whole : lines_of input ≡ lines
  pub rest : rest_of input ≡ []

-- `(site N)` and any lines
abbrev pub fitting : ℕ → List (List ℕ) → List (List ℕ)
fitting n first = command_text (Command.SiteOf n) ∷ first

-- `(site N)` and any lines, the supply cut `(cut K)`, and any lines
abbrev pub cut_fitting : ℕ → List (List ℕ) → ℕ → List (List ℕ) → List (List ℕ)
cut_fitting n first k later = fitting n first ++ command_text (Command.Cut k) ∷ later

-- some lines, and `(show H)` as the last
abbrev pub asking : List (List ℕ) → ℕ → List (List ℕ)
asking lines h = lines ++ command_text (Command.Show h) ∷ []

-- ### The marking sheet

-- The line that `(show H)` prints of a site if the book holds the cell c for H: "history, version, persistent, stable, place, profile".
-- Version, place and profile are the book's; persistent and stable version are by the site's own marks, and are not claimed: a cut loses a
-- stable line that is not covered, and the stable mark falls to the last one kept ((g)).
unfoldable pub sheet : ℕ → Cell → State → List ℕ
sheet h c site =
    ended (answer_text
    (Shown h c.version (version_at site.persistent_to h site) (version_at (stable_to site) h site) c.place c.profile))

-- For every text with these lines and then `(show H)` the session prints the replies to these lines, and then the marking sheet: it is the
-- last line.
abbrev pub Prints : ℕ → List (List ℕ) → ℕ → Cell → State → Type 0
Prints room lines h c site =
    (input : List ℕ) → Text input (asking lines h) → session_in room input ≡ replies room lines none ++ sheet h c site

-- For every text with these lines and then `(end)` the session prints the replies to these lines, and then the ids of the lines that still
-- wait.
abbrev pub PrintsWaiting : ℕ → List (List ℕ) → List ℕ → Type 0
PrintsWaiting room lines ids =
    (input : List ℕ) → Text input (lines ++ command_text Command.End ∷ []) →
    session_in room input ≡ replies room lines none ++ ended (answer_text (Ended ids))

-- ### The claim at the page

-- What holds of the paper. The picked cut took the site from `before` to `after`, and the last line finds it at `final`; `came` are the
-- lines that came.
pub record MarkedPaper
    (room n : ℕ) (first : List (List ℕ)) (k : ℕ) (later : List (List ℕ)) (before after : State) (chosen : Did → Bool)
    (came : List (List ℕ)) (final : State) :
    Type 0 where
  -- the recovery claim of the paper's calls, all of it: what has run, the log's bytes, who waits, and what the book was fed
  pub recovered : Recovered before after (lost_by before after) chosen came final
  -- "At the end `show` of each history gives the book's profile, version and place": the last line is the marking sheet. The book starts
  -- from nothing: a session has no word for a trim, so its log has no base line
  pub prints : (h : ℕ) → h < n → Prints room (cut_fitting n first k later) h (cell blank_base h (after.log ++ recovered.fed)) final
  -- "if every lost line was chosen, also those just before the picked cut": what `(show H)` prints in the place of the cut
  pub prints_first : ((d : Did) → Mem d (lost_by before after) → T (chosen d)) → (h : ℕ) → h < n →
      Prints room (fitting n first) h (cell blank_base h before.log) before
      × Prints room (cut_fitting n first k later) h (cell blank_base h before.log) final
  -- "`end` would name the other chosen lines in the order in which each first came after the last accepted cut."
  pub prints_others : PrintsWaiting room (cut_fitting n first k later) (did_ids recovered.others)

-- The claim at the page: for every site that `(site N)` opens, any lines before the picked cut and any lines behind it, where their calls
-- are as the recovery claim asks (the cut fair; behind it each accepted cut fair, each accepted redo a chosen line, no end accepted, and
-- each chosen line comes).
abbrev pub PageClaim : Type 0
PageClaim =
    (room n : ℕ) (s : State) (answer : Answer) → open_site n room ≡ ok s answer →
    (first : List (List ℕ)) (k : ℕ) (later : List (List ℕ)) (after : State) (chosen : Did → Bool) →
    Fair (counted 0 (calls_of room first) s) k room (run (calls_of room first) s) after →
    Asked 0 s (λ a. calls_of room first ++ Call.Cut k room ∷ a) (calls_of room later) (lost_by (run (calls_of room first) s) after) chosen →
    MarkedPaper room n first k later (run (calls_of room first) s) after chosen
    (came (calls_of room first ++ Call.Cut k room ∷ calls_of room later) s)
    (run (calls_of room first ++ Call.Cut k room ∷ calls_of room later) s)

-- The same of the session program: "its log buffer has 65,536 bytes", and `(site N)` with N from 1 to 16 opens the site.
abbrev pub ProgramClaim : Type 0
ProgramClaim =
    (n : ℕ) → T (histories_fit n) → (first : List (List ℕ)) (k : ℕ) (later : List (List ℕ)) (after : State) (chosen : Did → Bool) →
    Fair (counted 0 (calls_of log_limit first) (opened n log_limit)) k log_limit (run (calls_of log_limit first) (opened n log_limit)) after →
    Asked 0 (opened n log_limit) (λ a. calls_of log_limit first ++ Call.Cut k log_limit ∷ a) (calls_of log_limit later)
    (lost_by (run (calls_of log_limit first) (opened n log_limit)) after) chosen →
    MarkedPaper log_limit n first k later (run (calls_of log_limit first) (opened n log_limit)) after chosen
    (came (calls_of log_limit first ++ Call.Cut k log_limit ∷ calls_of log_limit later) (opened n log_limit))
    (run (calls_of log_limit first ++ Call.Cut k log_limit ∷ calls_of log_limit later) (opened n log_limit))
