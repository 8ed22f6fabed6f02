-- A line that came in parts: what is held of it, and its turn.
use Rattle.std.specs.Prelude.{ℕ, ◌<◌, ◌≡◌, refl, List, [], length, take, replicate, Option as Held, Some, None}
use Rattle.std.proofs.Common.{arith, sym, ap, subst, ◌∙◌}
use Rattle.std.proofs.lemmas.List.{length-replicate}
use Rattle.std.proofs.lemmas.Option.{none-some, same_Some}
use Rattle.forms.specs.Limits.{line_limit}
use Rattle.forms.specs.declared.Refusal.TheVariants.{Unreadable}
use Rattle.rules.specs.Session.{turn}
use Rattle.session.specs.declared.PartialLine.{PartialLine}
use Rattle.session.specs.declared.Session.{Session}
use Rattle.session.specs.declared.LineResult.{LineResult}
use Rattle.site.specs.Model.{Lent}
use Rattle.session.specs.Model.{session_view, ValidSession, Refuses, Turns}
use Rattle.session.specs.Feeding.{HoldsLine, Begins, Usable, UsablePartial}
use Rattle.session.specs.TurnLaws.{turn-over, turn_refused}

-- ### What is held

-- a line that is held so
pub record SomeLine (begun : Held PartialLine) : Type 0 where
  pub line : List ℕ
  pub begins : Begins begun line

pub some-line : (begun : Held PartialLine) → UsablePartial begun → SomeLine begun
some-line (Some b) u =
    record {
      line = take b.len b.bytes;
      begins = record { few = (u.held b refl).few; long = (u.held b refl).long; is = refl };
    }
some-line None u =
    record {
      line = replicate 1025 0;
      begins = let m : length (replicate {A = ℕ} 1025 0) ≡ 1025 = length-replicate {A = ℕ} 1025 0 in omega (arith, m);
    }

pub usable : (begun : Held PartialLine) (line : List ℕ) → Begins begun line → UsablePartial begun
usable (Some b) line h =
    record { held = λ x e. subst (λ (y : PartialLine). Usable y) (same_Some b x e) (record { few = h.few; long = h.long }) }
usable None line h = record { held = λ x e. absurd (none-some x e) }

-- ### Its turn

-- 1: "above 1,024 bytes without its end"
pub turns_over : (s : Session) (old : Lent) (line : List ℕ) (r : LineResult) → ValidSession s old → line_limit < length line →
    Refuses s Unreadable r →
    Turns s old (turn (length old.log) line (session_view s old)) r old
turns_over s old line r v h q =
    turn_refused s old (turn (length old.log) line (session_view s old)) Unreadable r v
    (turn-over (length old.log) line (session_view s old) h) q

-- nothing has begun
pub none_held : (b : PartialLine) (line : List ℕ) → HoldsLine b line → b.len ≡ 0 → line ≡ []
none_held b line h z = sym h.is ∙ ap (λ (k : ℕ). take k b.bytes) z

pub turns_as : (s : Session) (old : Lent) (r : LineResult) (new : Lent) (line other : List ℕ) → other ≡ line →
    Turns s old (turn (length old.log) other (session_view s old)) r new →
    Turns s old (turn (length old.log) line (session_view s old)) r new
turns_as s old r new line other e h = subst (λ (l : List ℕ). Turns s old (turn (length old.log) l (session_view s old)) r new) e h
