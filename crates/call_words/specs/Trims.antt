-- What a trim gives its owner: "copies the log into a fresh lent buffer and replies the bytes used".
use Rattle.std.specs.Prelude.{ℕ, ◌≡◌, refl, List, Result}
use Rattle.std.proofs.Common.{ap, ◌∙◌}
use Rattle.std.proofs.Math.Option.{Option, none, some}
use Rattle.forms.specs.Refusals.{number_of}
use Rattle.forms.specs.declared.Refusal.{Refusal}
use Rattle.forms.specs.declared.Refusal.TheVariants.{OutOfTurn}
use Rattle.rules.specs.State.{State}
use Rattle.rules.specs.Trim.{Trimmed, not_trimmed, trimmed, trim}
use Rattle.trim.specs.Model.{reply_of, fresh_after, Copies}
use Rattle.call_words.specs.Said.{said_number, said_value}

-- 0, or a refusal's number
unfoldable pub trim_number : Trimmed → ℕ
trim_number (not_trimmed q) = number_of q
trim_number (trimmed bytes used) = 0

-- the bytes used, which a refusal leaves unsaid
unfoldable pub trim_used : Trimmed → ℕ → ℕ
trim_used (not_trimmed q) before = before
trim_used (trimmed bytes used) before = used

-- The trim of the state: 14 "before site".
unfoldable pub trim_of : ℕ → List ℕ → Option State → Trimmed
trim_of n fresh none = not_trimmed OutOfTurn
trim_of n fresh (some st) = trim n fresh st

-- The trim t into the fresh buffer that was `old` and is `new`: a refused one leaves every byte. The number of bytes used was `before` and
-- is `after`.
pub record Trims (t : Trimmed) (old : List ℕ) (r : ℕ) (new : List ℕ) (before after : ℕ) : Type 0 where
  pub answer : r ≡ trim_number t
  pub bytes : new ≡ fresh_after t old
  pub used : after ≡ trim_used t before

-- The number and the bytes used of a copy are those of the specification's trim.
pub trims : (t : Trimmed) (old : List ℕ) (c : Result ℕ Refusal) (new : List ℕ) (r before after : ℕ) → Copies t old c new → r ≡ said_number c
    → after ≡ said_value c before → Trims t old r new before after
unfolding said_number trim_number said_value trim_used
trims t old c new r before after h e f =
    record {
      answer = e ∙ ap said_number h.reply ∙ number t;
      bytes = h.bytes;
      used = f ∙ ap (λ (x : Result ℕ Refusal). said_value x before) h.reply ∙ used t;
    }
  where
    number : (v : Trimmed) → said_number (reply_of v) ≡ trim_number v
    number (not_trimmed q) = refl
    number (trimmed bytes n) = refl

    used : (v : Trimmed) → said_value (reply_of v) before ≡ trim_used v before
    used (not_trimmed q) = refl
    used (trimmed bytes n) = refl
