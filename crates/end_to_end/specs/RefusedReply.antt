-- "A refusal returns its number only": what a refused call of the code's site hands back, by its contract.
use Rattle.std.specs.Prelude.{ℕ, ◌≡◌, List}
use Rattle.std.proofs.Common.{arith, ap}
use Rattle.forms.specs.Forms.{Refused, Accepted, Answer}
use Rattle.forms.specs.Held.{Replied, outcome_with, outcome_of}
use Rattle.forms.specs.declared.Refusal.{Refusal}
use Rattle.forms.specs.declared.ReplyForm.{ReplyForm}
use Rattle.rules.specs.State.{refused}
use Rattle.site.specs.declared.Site.{Site}
use Rattle.site.specs.declared.CallResult.{CallResult}
use Rattle.site.specs.Model.{Lent, Says, Does}

-- The form of the reply is the refusal with this number, and it counts no number of a list; site and all that is lent are the very ones
-- that came in.
pub record NumberOnly (s : Site) (old : Lent) (q : Refusal) (r : CallResult) (new : Lent) : Type 0 where
  pub form : r.reply.form ≡ ReplyForm.Refused q
  pub first : r.reply.first ≡ 0
  pub second : r.reply.second ≡ 0
  pub site : r.site ≡ s
  pub kept : new ≡ old

no_refusal : (a : Answer) (q : Refusal) {C : Type 0} → Accepted a ≡ Refused q → C
no_refusal a q e = let z : ◌≡◌ {A = ℕ} 0 1 = cc in absurd (omega arith)

same_refusal : (p q : Refusal) → Refused p ≡ Refused q → p ≡ q
same_refusal p q e = cc

refused_form : (f : ReplyForm) (xs ys : List ℕ) (q : Refusal) → outcome_with f xs ys ≡ Refused q → f ≡ ReplyForm.Refused q
unfolding outcome_with
refused_form (ReplyForm.Refused p) xs ys q e = ap ReplyForm.Refused (same_refusal p q e)
refused_form ReplyForm.Opened xs ys q e = no_refusal _ q e
refused_form ReplyForm.Added xs ys q e = no_refusal _ q e
refused_form (ReplyForm.Finished n ready) xs ys q e = no_refusal _ q e
refused_form ReplyForm.Withdrawn xs ys q e = no_refusal _ q e
refused_form ReplyForm.Persisted xs ys q e = no_refusal _ q e
refused_form ReplyForm.Stabilised xs ys q e = no_refusal _ q e
refused_form (ReplyForm.Shows s) xs ys q e = no_refusal _ q e
refused_form (ReplyForm.Restarted lines used) xs ys q e = no_refusal _ q e
refused_form (ReplyForm.Redone ran examined) xs ys q e = no_refusal _ q e
refused_form ReplyForm.Ended xs ys q e = no_refusal _ q e

says_refused : (r : Replied) (q : Refusal) → Says r (Refused q) → r.form ≡ ReplyForm.Refused q
unfolding outcome_of
says_refused r q s = refused_form r.form _ _ q s.outcome

-- Every call that the specification refuses replies the number only.
pub refused_number : (s : Site) (old : Lent) (q : Refusal) (r : CallResult) (new : Lent) → Does s old (refused q) r new →
    NumberOnly s old q r new
refused_number s old q r new d =
    record {
      form = says_refused _ q d.answer;
      first = d.answer.number_only.0;
      second = d.answer.number_only.1;
      site = d.site;
      kept = d.kept;
    }
