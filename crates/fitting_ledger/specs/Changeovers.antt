-- What the changeover of an older log gives its owner.
use Rattle.std.specs.Prelude.{ℕ, ◌≡◌, List}
use Rattle.forms.specs.Refusals.{number_of}
use Rattle.rules.specs.OldLog.{Upgrade, not_upgraded, upgraded}
use Rattle.older_log.specs.Model.{bytes_after}

-- 0, or the number of the refusal
unfoldable pub upgrade_number : Upgrade → ℕ
upgrade_number (not_upgraded r) = number_of r
upgrade_number (upgraded bytes used) = 0

-- the bytes in use, which a refusal leaves unsaid
unfoldable pub upgrade_used : Upgrade → ℕ → ℕ
upgrade_used (not_upgraded r) before = before
upgrade_used (upgraded bytes used) before = used

-- The changeover u of the buffer that was `old` and is `new`; the number of bytes in use was `before` and is `after`.
pub record ChangesOver (u : Upgrade) (old : List ℕ) (n : ℕ) (new : List ℕ) (before after : ℕ) : Type 0 where
  pub answer : n ≡ upgrade_number u
  pub bytes : new ≡ bytes_after u old
  pub used : after ≡ upgrade_used u before
