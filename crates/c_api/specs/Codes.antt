-- Answers as plain numbers, for callers in other languages.
use Rattle.std.specs.Prelude.{ℕ, ◌+◌, ◌≡◌, List, Option as Place, Some, None, Result, Ok, Err}
use Rattle.std.proofs.Math.Option.{none}
use Rattle.forms.specs.Decimal.{top}
use Rattle.forms.specs.Forms.{outcome_text}
use Rattle.rules.specs.State.{Reply}
use Rattle.rules.specs.Log.{ended}
use Rattle.rules.specs.Session.{turn_of}
use Rattle.forms.specs.Refusals.{number_of}
use Rattle.forms.specs.declared.Refusal.{Refusal}
use Rattle.forms.specs.Write.{Writes}

-- Where a text ends in a buffer, or 2^64 − 1 where it does not fit.
abbrev pub code_of : Place ℕ → ℕ
code_of (Some n) = n
code_of None = top

-- A refusal's number, or 1,000 more than what is told.
unfoldable pub replied_number : Result ℕ Refusal → ℕ
replied_number (Ok n) = n + 1000
replied_number (Err q) = number_of q

-- The text stands at the front of the buffer that was `old` and is `new`, if it fits there: else nothing in it has changed.
pub record PutsText (text old : List ℕ) (r : ℕ) (new : List ℕ) : Type 0 where
  pub written : Place ℕ
  pub code : r ≡ code_of written
  pub stands : Writes old 0 text written new

-- What a reply is printed as, with its end.
abbrev pub reply_text : Reply → List ℕ
reply_text reply = ended (outcome_text (turn_of reply none).reply)
