-- A refusal is one, and no other form is.
use Rattle.std.proofs.Common.{◌≡◌, refl, sym, ap, false}
use Rattle.forms.specs.declared.Refusal.{Refusal}
use Rattle.forms.specs.declared.ReplyForm.{ReplyForm}
use Rattle.module.specs.Calls.{refuses}
use Rattle.module.proofs.is_refused.Goals as goal

accepted : (f : ReplyForm) → ((q : Refusal) → f ≡ ReplyForm.Refused q → ⊥) → false ≡ refuses f
unfolding refuses
accepted (ReplyForm.Refused q) other = absurd (other q refl)
accepted ReplyForm.Opened other = refl
accepted ReplyForm.Added other = refl
accepted (ReplyForm.Finished n k) other = refl
accepted ReplyForm.Withdrawn other = refl
accepted ReplyForm.Persisted other = refl
accepted ReplyForm.Stabilised other = refl
accepted (ReplyForm.Shows s) other = refl
accepted (ReplyForm.Restarted lines used) other = refl
accepted (ReplyForm.Redone ran examined) other = refl
accepted ReplyForm.Ended other = refl

pub returns-in-Refused : goal.returns-in-Refused
unfolding refuses
returns-in-Refused c = sym (ap refuses c.in-Refused.is)

pub returns-in_default : goal.returns-in_default
returns-in_default c = accepted c.args.form c.in_default.not-Refused
