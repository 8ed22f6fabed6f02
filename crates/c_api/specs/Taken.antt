-- A site that is taken up from the first bytes of a log: it is valid, and in the state that the restart gives.
use Rattle.std.specs.Prelude.{ℕ, ◌≡◌, refl, List, [], Result, Ok, Err}
use Rattle.std.proofs.Common.{sym, ap, ◌∙◌, arith}
use Rattle.forms.specs.Forms.{Refused, Accepted, Answer}
use Rattle.forms.specs.Held.{outcome_with, outcome_of, replied}
use Rattle.forms.specs.declared.Refusal.{Refusal}
use Rattle.forms.specs.declared.ReplyForm.{ReplyForm}
use Rattle.forms.specs.declared.ReplyLine.{ReplyLine}
use Rattle.rules.specs.State.{State, Reply, refused, ok}
use Rattle.site.specs.declared.Site.{Site}
use Rattle.site.specs.declared.CallResult.{CallResult}
use Rattle.site.specs.Model.{Lent, lent, view, Valid, Opens}

-- The site is valid with the log, and is this state.
pub record UpAs (s : Site) (log : List ℕ) (st : State) : Type 0 where
  pub rows : List ℕ
  pub order : List ℕ
  pub book : List ℕ
  pub valid : Valid s (lent log rows order book [])
  pub state : view s (lent log rows order book []) ≡ st

-- .. some state
pub record SomeUp (s : Site) (log : List ℕ) : Type 0 where
  pub after : State
  pub up : UpAs s log after

-- The site that a restart gives, in the state that it says.
pub record TakenUp (reply : Reply) (log : List ℕ) (s : Site) : Type 0 where
  pub after : State
  pub answer : Answer
  pub is : reply ≡ ok after answer
  pub up : UpAs s log after

-- What a restart gives: its refusal, or a site.
abbrev pub TakesUp : Reply → List ℕ → Result Site Refusal → Type 0
TakesUp reply log (Err q) = reply ≡ refused q
TakesUp reply log (Ok s) = TakenUp reply log s

-- ### Behind a restart

-- A refusal's form says the refusal, whatever the lists are.
pub form_says : (r : ReplyLine) (ns : List ℕ) (q : Refusal) → r.form ≡ ReplyForm.Refused q → outcome_of (replied r ns) ≡ Refused q
unfolding outcome_of outcome_with
form_says r ns q e =
    ap (λ (f : ReplyForm). outcome_of (replied (record { form = f; first = r.first; second = r.second }) ns)) e

-- no form but that of a refusal says a refusal
abbrev pub NoRefusal : ReplyForm → Type 0
NoRefusal f = (xs ys : List ℕ) (q : Refusal) → outcome_with f xs ys ≡ Refused q → ⊥

-- the forms but `Refused`
pub accepted_form : (f : ReplyForm) → ((q : Refusal) → f ≡ ReplyForm.Refused q → ⊥) → NoRefusal f
unfolding outcome_with
accepted_form (ReplyForm.Refused q) o xs ys r e = o q refl
accepted_form ReplyForm.Opened o xs ys r e = let z : ◌≡◌ {A = ℕ} 0 1 = cc in omega arith
accepted_form ReplyForm.Added o xs ys r e = let z : ◌≡◌ {A = ℕ} 0 1 = cc in omega arith
accepted_form (ReplyForm.Finished n k) o xs ys r e = let z : ◌≡◌ {A = ℕ} 0 1 = cc in omega arith
accepted_form ReplyForm.Withdrawn o xs ys r e = let z : ◌≡◌ {A = ℕ} 0 1 = cc in omega arith
accepted_form ReplyForm.Persisted o xs ys r e = let z : ◌≡◌ {A = ℕ} 0 1 = cc in omega arith
accepted_form ReplyForm.Stabilised o xs ys r e = let z : ◌≡◌ {A = ℕ} 0 1 = cc in omega arith
accepted_form (ReplyForm.Shows s) o xs ys r e = let z : ◌≡◌ {A = ℕ} 0 1 = cc in omega arith
accepted_form (ReplyForm.Restarted lines used) o xs ys r e = let z : ◌≡◌ {A = ℕ} 0 1 = cc in omega arith
accepted_form (ReplyForm.Redone ran examined) o xs ys r e = let z : ◌≡◌ {A = ℕ} 0 1 = cc in omega arith
accepted_form ReplyForm.Ended o xs ys r e = let z : ◌≡◌ {A = ℕ} 0 1 = cc in omega arith

-- A restart is refused as its reply says.
pub up_refused : (s : Site) (old : Lent) (c : CallResult) (new : Lent) (reply : Reply) (q : Refusal) → Opens s old reply c new →
    c.reply.form ≡ ReplyForm.Refused q → reply ≡ refused q
up_refused s old c new (refused x) q d e =
    let z : Refused q ≡ Refused x = sym (form_says c.reply new.lists q e) ∙ d.answer.outcome in
    let same : x ≡ q = cc in ap refused same
up_refused s old c new (ok st a) q d e =
    let z : Refused q ≡ Accepted a = sym (form_says c.reply new.lists q e) ∙ d.answer.outcome in
    let k : ◌≡◌ {A = ℕ} 0 1 = cc in
    absurd (omega arith)

-- One that is not refused gives a valid site, in the state that it says.
pub up_taken : (s : Site) (old : Lent) (c : CallResult) (log rows order book : List ℕ) (reply : Reply) →
    Opens s old reply c (lent log rows order book []) → NoRefusal c.reply.form → TakenUp reply log c.site
unfolding outcome_of
up_taken s old c log rows order book (refused x) d no_one = absurd (no_one _ _ x d.answer.outcome)
up_taken s old c log rows order book (ok st a) d no_one =
    record {
      after = st;
      answer = a;
      is = refl;
      up = record { rows = rows; order = order; book = book; valid = d.valid; state = d.state };
    }
