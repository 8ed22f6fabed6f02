-- What a trim gives over raw bytes: "copies the log into a fresh lent buffer and replies the bytes used".
use Rattle.std.specs.Prelude.{ℕ, ◌+◌, ◌≡◌, List}
use Rattle.forms.specs.Refusals.{number_of}
use Rattle.rules.specs.State.{Reply, refused, ok}
use Rattle.rules.specs.Trim.{Trimmed, not_trimmed, trimmed, trim}
use Rattle.trim.specs.Model.{fresh_after}

-- A refusal's number, or 1,000 more than the bytes used.
unfoldable pub trim_number : Trimmed → ℕ
trim_number (not_trimmed q) = number_of q
trim_number (trimmed bytes used) = used + 1000

-- The trim of the site that a restart gives, or the restart's refusal.
unfoldable pub trim_after : ℕ → List ℕ → Reply → Trimmed
trim_after n fresh (refused q) = not_trimmed q
trim_after n fresh (ok st a) = trim n fresh st

-- The trim t into the fresh buffer that was `old` and is `new`: a refused one leaves every byte.
pub record Trims (t : Trimmed) (old : List ℕ) (r : ℕ) (new : List ℕ) : Type 0 where
  pub answer : r ≡ trim_number t
  pub bytes : new ≡ fresh_after t old
