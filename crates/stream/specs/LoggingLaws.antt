-- What a turn leaves in the log buffer.
use Rattle.std.specs.Prelude.{ℕ, ◌≡◌, refl, List, [], ◌∷◌, ◌++◌, length, drop, Option as Held, Some, None}
use Rattle.std.proofs.Common.{sym, ap, ap₂, ◌∙◌, take-append-drop, length-take-le}
use Rattle.std.proofs.Math.Option.{Option}
use Rattle.forms.specs.Forms.{Outcome, Refused, Accepted}
use Rattle.rules.specs.State.{State, log_bytes}
use Rattle.rules.specs.Session.{Turn, turn, after_lines}
use Rattle.site.specs.declared.Site.{Site}
use Rattle.site.specs.Representation.{Sound}
use Rattle.site.specs.Model.{Lent, view, Valid}
use Rattle.session.specs.declared.Session.{Session}
use Rattle.session.specs.declared.LineResult.{LineResult}
use Rattle.session.specs.Model.{view_of, session_view, ValidOpened, ValidSession, used_of, Keeps, Turns}
use Rattle.stream.specs.Logging.{overlaid, logged}

-- A valid site's log stands at the front, and behind it are the bytes of a buffer that is the same from there on.
pub over-site : (s : Site) (m : Lent) (other : List ℕ) → Valid s m → drop s.used m.log ≡ drop s.used other →
    m.log ≡ log_bytes (view s m) ++ drop (length (log_bytes (view s m))) other
unfolding Sound
over-site s m other v e =
    sym (take-append-drop s.used m.log)
    ∙ ap₂ (λ (a b : List ℕ). a ++ b) v.sound.carries.text (e ∙ ap (λ (k : ℕ). drop k other) size)
  where
    size : s.used ≡ length (log_bytes (view s m))
    size = sym (length-take-le s.used m.log v.sound.carries.within) ∙ ap length v.sound.carries.text

over-view : (o : Held Site) (m : Lent) (other : List ℕ) → ValidOpened o m.log m.rows m.order m.book →
    drop (used_of o) m.log ≡ drop (used_of o) other →
    m.log ≡ overlaid (view_of o m) other
unfolding overlaid
over-view (Some s) m other v e = over-site s m other (v.site s refl) e
over-view None m other v e = e

-- The buffer after a turn.
pub turn_logs : (s : Session) (old : Lent) (t : Turn) (r : LineResult) (new : Lent) → ValidSession s old → Turns s old t r new →
    new.log ≡ overlaid t.after old.log
turn_logs s old t r new v h = by_reply t.reply h.keeps ∙ ap (λ (x : Option State). overlaid x old.log) h.after
  where
    by_reply : (o : Outcome) → Keeps o s old r new → new.log ≡ overlaid (session_view r.session new) old.log
    by_reply (Refused q) k =
        over-view r.session.site new old.log h.valid (ap (λ (l : Lent). drop (used_of r.session.site) l.log) k.kept)
    by_reply (Accepted a) k = over-view r.session.site new old.log h.valid k.past

-- Lines in two parts.
pub logged-append : (room : ℕ) (a b : List (List ℕ)) (s : Option State) (bytes : List ℕ) →
    logged room (a ++ b) s bytes ≡ logged room b (after_lines room a s) (logged room a s bytes)
unfolding logged after_lines
logged-append room [] b s bytes = refl
logged-append room (l ∷ a) b s bytes = logged-append room a b (turn room l s).after (overlaid (turn room l s).after bytes)
