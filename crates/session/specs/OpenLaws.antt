-- Opening as a turn of the session.
use Rattle.std.specs.Prelude.{ℕ, ◌≤◌, ◌<◌, ◌≡◌, refl, Option as Held, None}
use Rattle.std.proofs.Common.{arith, sym, ap, subst}
use Rattle.std.proofs.Math.Option.{none, some}
use Rattle.rules.specs.State.{Reply, refused, ok}
use Rattle.rule_laws.specs.LogLaws.{histories_least}
use Rattle.rules.specs.Session.{turn_of}
use Rattle.site.specs.declared.Site.{Site}
use Rattle.site.specs.declared.CallResult.{CallResult}
use Rattle.site.specs.Representation.{Sound}
use Rattle.site.specs.Model.{Lent, Opens}
use Rattle.site.specs.OpenLaws.{blank_site}
use Rattle.session.specs.declared.Session.{Session}
use Rattle.session.specs.declared.LineResult.{LineResult}
use Rattle.session.specs.Model.{view_of, Turns, turned_of}
use Rattle.session.specs.AnswerLaws.{starts}
use Rattle.session.specs.TurnLaws.{opened_valid}

no_history_lem : (n : ℕ) → n ≡ 0 → 1 ≤ n → ⊥
no_history_lem n p q = omega (arith, p, q)

-- A site that was opened has a history; the one that a refused opening hands back has none, and leaves the session as it was.
pub opens_not : (s : Session) (old : Lent) (reply : Reply) (r : CallResult) (new : Lent) → s.site ≡ None →
    Opens blank_site old reply r new → r.site.count ≡ 0 → Turns s old (turn_of reply none) (record { session = s; reply = r.reply }) new
unfolding turn_of Sound
opens_not s old (refused q) r new e d none_there =
    record {
      answer = d.answer;
      after = ap (λ (h : Held Site). view_of h new) e;
      valid = (starts s e new).valid;
      keeps = record { session = refl; kept = d.kept };
    }
opens_not s old (ok st a) r new e d none_there = absurd (no_history_lem r.site.count none_there (least r new d))
  where
    least : (c : CallResult) (bytes : Lent) → Opens blank_site old (ok st a) c bytes → 1 ≤ c.site.count
    least c bytes x = histories_least c.site.count x.valid.sound.good.histories

-- An accepted one opens it.
pub opens : (s : Session) (old : Lent) (reply : Reply) (r : CallResult) (new : Lent) (t : LineResult) → Opens blank_site old reply r new →
    0 < r.site.count → t ≡ turned_of r → Turns s old (turn_of reply none) t new
unfolding turn_of
opens s old (refused q) r new t d some-there same = absurd (no_history_lem r.site.count (ap (λ x. x.count) d.site) some-there)
opens s old (ok st a) r new t d some-there same =
    subst (λ (x : LineResult). Turns s old (turn_of (ok st a) none) x new) (sym same)
    (record {
      answer = d.answer;
      after = ap some d.state;
      valid = opened_valid r.site new d.valid;
      keeps = record { past = d.past; frame = d.frame; past_histories = d.past_histories; past_lists = d.past_lists };
    })
