-- The reply of a restart, written.
use Rattle.std.specs.Prelude.{ℕ, ◌≡◌, List, [], take, Option as Place}
use Rattle.std.proofs.Common.{sym, ap, ap₂, subst, ◌∙◌}
use Rattle.std.proofs.Math.Option.{none}
use Rattle.std.proofs.Math.Seq.{take-nil, drop-nil}
use Rattle.forms.specs.Forms.{Outcome, outcome_text}
use Rattle.forms.specs.Held.{replied, outcome_with, outcome_of, numbers_of}
use Rattle.forms.specs.declared.ReplyLine.{ReplyLine}
use Rattle.rules.specs.State.{Reply, refused, ok}
use Rattle.rules.specs.Log.{ended}
use Rattle.rules.specs.Session.{turn_of}
use Rattle.site.specs.declared.Site.{Site}
use Rattle.site.specs.declared.CallResult.{CallResult}
use Rattle.site.specs.Model.{Lent, lent, Says, Opens}
use Rattle.forms.specs.Write.{Writes, with_end}
use Rattle.c_api.specs.Codes.{code_of, PutsText, reply_text}

-- The reply of a call is the specification's.
does_says : (s : Site) (old : Lent) (reply : Reply) (r : CallResult) (new : Lent) → Opens s old reply r new →
    Says (replied r.reply new.lists) (turn_of reply none).reply
unfolding turn_of
does_says s old (refused q) r new d = d.answer
does_says s old (ok st a) r new d = d.answer

-- A reply whose lists are empty is what its form says.
unlisted : (r : ReplyLine) → outcome_of (replied r []) ≡ outcome_with r.form [] []
unfolding outcome_of numbers_of
unlisted r = ap₂ (λ (xs ys : List ℕ). outcome_with r.form xs ys) (take-nil r.first)
    (ap (λ (l : List ℕ). take r.second l) (drop-nil r.first) ∙ take-nil r.second)

-- What is written of it is the specification's reply.
pub puts_reply : (s : Site) (old : Lent) (reply : Reply) (r : CallResult) (log rows order book out written : List ℕ) (w : Place ℕ) (n : ℕ) →
    Opens s old reply r (lent log rows order book []) →
    Writes out 0 (with_end (outcome_text (outcome_with r.reply.form [] []))) w written →
    n ≡ code_of w →
    PutsText (reply_text reply) out n written
unfolding ended
puts_reply s old reply r log rows order book out written w n d text e =
    record {
      written = w;
      code = e;
      stands = subst (λ (o : Outcome). Writes out 0 (with_end (outcome_text o)) w written)
          (sym (unlisted r.reply) ∙ (does_says s old reply r (lent log rows order book []) d).outcome) text;
    }
