-- How many bytes of a log buffer are in use.
use Rattle.std.specs.Prelude.{ℕ, ◌≡◌, length}
use Rattle.std.proofs.Common.{sym, ap, ◌∙◌, length-take-le}
use Rattle.std.proofs.Math.Option.{Option, none, some}
use Rattle.rules.specs.State.{State, log_bytes}
use Rattle.site.specs.declared.Site.{Site}
use Rattle.site.specs.Representation.{Sound}
use Rattle.site.specs.Model.{Lent, view, Valid}

-- none without a site
unfoldable pub used_by : Option State → ℕ
used_by none = 0
used_by (some st) = length (log_bytes st)

-- Those of a valid site are its log's.
pub site_used : (s : Site) (m : Lent) → Valid s m → s.used ≡ length (log_bytes (view s m))
unfolding Sound
site_used s m v = sym (length-take-le s.used m.log v.sound.carries.within) ∙ ap length v.sound.carries.text
