-- A whole session for callers in other languages, and polls of its site's histories at its end.
use Rattle.std.specs.Prelude.{ℕ, ◌≡◌, cond, List, map, length, Some}
use Rattle.std.proofs.Math.Option.{Option, none, some}
use Rattle.forms.specs.Refusals.{number_of}
use Rattle.forms.specs.declared.Refusal.TheVariants.{OutOfTurn}
use Rattle.rules.specs.Log.{lines_of}
use Rattle.rules.specs.State.{State}
use Rattle.rules.specs.Session.{after_lines}
use Rattle.rules.specs.Poll.{poll}
use Rattle.site.specs.declared.Site.{Site}
use Rattle.site.specs.Model.{lent}
use Rattle.site.specs.Polls.{ValidWith}
use Rattle.session.specs.declared.Session.{Session}
use Rattle.session.specs.Model.{ValidSession, session_view}
unfoldable pub use Rattle.session.specs.Polls.{polled_number}
use Rattle.c_api.specs.Play.{Plays}

-- The poll of a history of a session's site: 14 "before site".
unfoldable pub session_poll : Option State → ℕ → ℕ
session_poll none h = number_of OutOfTurn
session_poll (some st) h = polled_number (poll h st)

-- A session whose site, once it is open, is valid with these numbers of its histories.
abbrev pub OpenWith : Session → List ℕ → Type 0
OpenWith s book = (x : Site) → s.site ≡ Some x → ValidWith x book

-- What holds of the specification's session, whatever is lent to the code's session beside the numbers of the histories: only they
-- are read.
abbrev pub WithBook : Session → List ℕ → (Option State → Type 0) → Type 0
WithBook s book P =
    (log rows order lists : List ℕ) → ValidSession s (lent log rows order book lists) →
    P (session_view s (lent log rows order book lists))

-- The session of an input has run over the log buffer that was `old` and is `new`, and its replies stand in the buffer that was `out`
-- and is `page`. Each number of `histories` is then, in `polls`, what the poll of that history gives; if not all replies are written,
-- they are as they were.
pub record PlaysPolls (input old : List ℕ) (r : ℕ) (new out page histories polls : List ℕ) : Type 0 where
  pub plays : Plays input old r new out page
  pub polled : polls ≡ cond plays.ran.whole (map (session_poll (after_lines (length old) (lines_of input) none)) histories) histories
