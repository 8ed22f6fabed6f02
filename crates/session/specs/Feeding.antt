-- Input in chunks: what stands of a session between two of them.
use Rattle.std.specs.Prelude.{ℕ, ◌≤◌, ◌<◌, ◌≡◌, List, [], ◌∷◌, ◌++◌, length, take, Option as Held, Some, None}
use Rattle.std.proofs.Math.Option.{Option, none}
use Rattle.forms.specs.Limits.{line_limit}
use Rattle.rules.specs.State.{State}
use Rattle.rules.specs.Log.{lines_from, rest_from}
use Rattle.rules.specs.Session.{replies, after_lines}
use Rattle.session.specs.declared.PartialLine.{PartialLine}

-- ### By the specification

-- What a session has come to: the unended line so far, the session, and what it has replied.
pub record Progress : Type 0 where
  pub begun : List ℕ
  pub session : Option State
  pub replied : List ℕ

-- "before site", with nothing read
unfoldable pub at_start : Progress
at_start = record { begun = []; session = none; replied = [] }

-- One chunk more: its whole lines are replied to, and its unended rest is kept.
unfoldable pub fed : ℕ → List ℕ → Progress → Progress
fed room chunk g =
    record {
      begun = rest_from g.begun chunk;
      session = after_lines room (lines_from g.begun chunk) g.session;
      replied = g.replied ++ replies room (lines_from g.begun chunk) g.session;
    }

-- chunks, one after the other
unfoldable pub fed_all : ℕ → List (List ℕ) → Progress → Progress
fed_all room [] g = g
fed_all room (c ∷ cs) g = fed_all room cs (fed room c g)

unfoldable pub joined : List (List ℕ) → List ℕ
joined [] = []
joined (c ∷ cs) = c ++ joined cs

-- ### In the code

-- b holds the unended line: its bytes.
pub record HoldsLine (b : PartialLine) (line : List ℕ) : Type 0 where
  pub few : b.len ≤ line_limit
  pub long : length b.bytes ≡ line_limit
  pub is : take b.len b.bytes ≡ line

-- What is held of an unended line: its bytes, or that it is above 1,024 bytes.
abbrev pub Begins : Held PartialLine → List ℕ → Type 0
Begins (Some b) line = HoldsLine b line
Begins None line = line_limit < length line

-- What the code asks of a line that is held.
pub record Usable (b : PartialLine) : Type 0 where
  pub few : b.len ≤ line_limit
  pub long : length b.bytes ≡ line_limit

-- .. and of what is held of any line.
pub record UsablePartial (begun : Held PartialLine) : Type 0 where
  pub held : (b : PartialLine) → begun ≡ Some b → Usable b
