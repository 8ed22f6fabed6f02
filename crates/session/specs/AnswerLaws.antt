-- A session at its start, and a turn with its reply written.
use Rattle.std.specs.Prelude.{ℕ, ◌≡◌, refl, List, Option as Held, None}
use Rattle.std.proofs.Common.{sym, ap, subst, ◌∙◌}
use Rattle.std.proofs.lemmas.Option.{none-some}
use Rattle.forms.specs.Forms.{Outcome, outcome_text}
use Rattle.forms.specs.Held.{replied, outcome_of}
use Rattle.rules.specs.Session.{Turn}
use Rattle.site.specs.declared.Site.{Site}
use Rattle.site.specs.Model.{Lent}
use Rattle.forms.specs.Write.{Writes, with_end}
use Rattle.session.specs.declared.Session.{Session}
use Rattle.session.specs.declared.LineResult.{LineResult}
use Rattle.session.specs.Model.{view_of, Turns, Starts, Answers}

-- A session without a site is "before site".
pub starts : (s : Session) → s.site ≡ None → (bytes : Lent) → Starts s bytes
starts s e bytes =
    record {
      view = ap (λ (h : Held Site). view_of h bytes) e;
      valid = record { site = λ x h. absurd (none-some x (sym e ∙ h)) };
    }

-- What is written of a turn's reply is the specification's reply.
pub answers-turn : (s : Session) (old : Lent) (t : Turn) (r : LineResult) (new : Lent) (n : Held ℕ) (out written : List ℕ) →
    Turns s old t r new → Writes out 0 (with_end (outcome_text (outcome_of (replied r.reply new.lists)))) n written →
    Answers s old t (record { session = r.session; next = n }) new out written
answers-turn s old t r new n out written h w =
    record {
      turned = r;
      session = refl;
      turns = h;
      text = subst (λ (o : Outcome). Writes out 0 (with_end (outcome_text o)) n written) h.answer.outcome w;
    }
