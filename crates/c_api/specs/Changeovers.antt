-- What the changeover of an older log gives over raw bytes.
use Rattle.std.specs.Prelude.{ℕ, ◌+◌, ◌≡◌, List}
use Rattle.forms.specs.Refusals.{number_of}
use Rattle.rules.specs.OldLog.{Upgrade, not_upgraded, upgraded}
use Rattle.older_log.specs.Model.{bytes_after}

-- A refusal's number, or 1,000 more than the bytes in use.
unfoldable pub upgrade_number : Upgrade → ℕ
upgrade_number (not_upgraded r) = number_of r
upgrade_number (upgraded bytes used) = used + 1000

-- The changeover u of the buffer that was `old` and is `new`: a refused one leaves every byte.
pub record ChangesOver (u : Upgrade) (old : List ℕ) (n : ℕ) (new : List ℕ) : Type 0 where
  pub answer : n ≡ upgrade_number u
  pub bytes : new ≡ bytes_after u old
