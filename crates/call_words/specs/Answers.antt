-- A reply in numbers: 0 or the refusal's number, and the answer.
use Rattle.std.specs.Prelude.{ℕ, ◌+◌, ◌≡◌, cond, List, [], ◌∷◌, eqb, drop}
use Rattle.forms.specs.Forms.{Outcome, Refused, Accepted, Answer}
use Rattle.forms.specs.Held.{replied}
use Rattle.forms.specs.Refusals.{number_of}
use Rattle.forms.specs.declared.Refusal.{Refusal}
use Rattle.forms.specs.declared.ReplyForm.{ReplyForm}
use Rattle.forms.specs.declared.ReplyLine.{ReplyLine}
use Rattle.site.specs.Model.{Says}

-- ### The number

-- 0 for a reply that accepts, and a refusal's number
unfoldable pub outcome_number : Outcome → ℕ
outcome_number (Refused q) = number_of q
outcome_number (Accepted a) = 0

unfoldable pub form_number : ReplyForm → ℕ
form_number (ReplyForm.Refused q) = number_of q
form_number ReplyForm.Opened = 0
form_number ReplyForm.Added = 0
form_number (ReplyForm.Finished n k) = 0
form_number ReplyForm.Withdrawn = 0
form_number ReplyForm.Persisted = 0
form_number ReplyForm.Stabilised = 0
form_number (ReplyForm.Shows s) = 0
form_number (ReplyForm.Restarted lines used) = 0
form_number (ReplyForm.Redone ran examined) = 0
form_number ReplyForm.Ended = 0

-- ### The answer

-- a reply's single numbers, in their printed order, and 0 behind them; behind a finish's log number stands how many ids of its second list,
-- the first ones, were overtaken
unfoldable pub single_words : ReplyForm → List ℕ
single_words (ReplyForm.Refused q) = 0 ∷ 0 ∷ 0 ∷ 0 ∷ 0 ∷ 0 ∷ []
single_words ReplyForm.Opened = 0 ∷ 0 ∷ 0 ∷ 0 ∷ 0 ∷ 0 ∷ []
single_words ReplyForm.Added = 0 ∷ 0 ∷ 0 ∷ 0 ∷ 0 ∷ 0 ∷ []
single_words (ReplyForm.Finished n k) = n.0 ∷ k ∷ 0 ∷ 0 ∷ 0 ∷ 0 ∷ []
single_words ReplyForm.Withdrawn = 0 ∷ 0 ∷ 0 ∷ 0 ∷ 0 ∷ 0 ∷ []
single_words ReplyForm.Persisted = 0 ∷ 0 ∷ 0 ∷ 0 ∷ 0 ∷ 0 ∷ []
single_words ReplyForm.Stabilised = 0 ∷ 0 ∷ 0 ∷ 0 ∷ 0 ∷ 0 ∷ []
single_words (ReplyForm.Shows s) =
    s.history ∷ s.version.0 ∷ s.persistent.0 ∷ s.stable.0 ∷ s.place.0 ∷ s.profile ∷ []
single_words (ReplyForm.Restarted lines used) = lines ∷ used ∷ 0 ∷ 0 ∷ 0 ∷ 0 ∷ []
single_words (ReplyForm.Redone ran examined) = ran ∷ examined ∷ 0 ∷ 0 ∷ 0 ∷ 0 ∷ []
single_words ReplyForm.Ended = 0 ∷ 0 ∷ 0 ∷ 0 ∷ 0 ∷ 0 ∷ []

-- how many numbers the two lists have, and the single numbers
abbrev pub answer_words : ReplyLine → List ℕ
answer_words r = r.first ∷ r.second ∷ single_words r.form

-- ### What is said

-- A refusal is its number, and the answer is as it was.
pub record SaysNot (q : Refusal) (n : ℕ) (old new : List ℕ) : Type 0 where
  pub number : n ≡ number_of q
  pub kept : new ≡ old

-- The reply a of the specification, in words; its lists stand at the front of `numbers`, the second behind the first, and what stands
-- behind them is as it was in `before`.
pub record SaysIn (a : Answer) (n : ℕ) (before numbers new : List ℕ) : Type 0 where
  pub number : n ≡ 0
  pub reply : ReplyLine
  pub says : Says (replied reply numbers) (Accepted a)
  pub words : new ≡ answer_words reply
  pub past : drop (reply.first + reply.second) numbers ≡ drop (reply.first + reply.second) before

abbrev pub SaysAs : Outcome → ℕ → List ℕ → List ℕ → List ℕ → List ℕ → Type 0
SaysAs (Refused q) n before numbers old new = SaysNot q n old new
SaysAs (Accepted a) n before numbers old new = SaysIn a n before numbers new

-- A reply is put away: its number, and the answer where it is accepted.
pub record PutsAnswer (r : ReplyLine) (n : ℕ) (head said : List ℕ) : Type 0 where
  pub number : n ≡ form_number r.form
  pub answer : said ≡ cond (eqb n 0) (answer_words r) head
