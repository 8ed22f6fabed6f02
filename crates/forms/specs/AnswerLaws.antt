-- What a caller learns from an answer: the answer says what the line reads as.
use Rattle.std.specs.Prelude.{◌≡◌, refl, ℕ, List, [], Option, Some, None}
use Rattle.std.proofs.Common.{ap, sym, ◌∙◌}
use Rattle.forms.specs.Decimal.{Step}
use Rattle.forms.specs.Decimal.Step.{got, bad}
use Rattle.forms.specs.Forms.{Did}
use Rattle.forms.specs.Reading.{read_did}
use Rattle.forms.specs.Held.{held_did}
use Rattle.forms.specs.DidLaws.{read_did_read}
use Rattle.forms.specs.Read.{did_answer}
use Rattle.forms.specs.declared.DidLine.{DidLine}

-- The line reads as d, and q holds d.
pub record DidSaid (l : List ℕ) (q : DidLine) : Type 0 where
  pub d : Did
  pub read : read_did l ≡ got d []
  pub holds : q ≡ held_did d

pub did_said : (l : List ℕ) (r : Option DidLine) {q : DidLine} → r ≡ did_answer (read_did l) → r ≡ Some q → DidSaid l q
unfolding did_answer
did_said l r {q} e k = go (read_did l) refl (sym k ∙ e)
  where
    go : (x : Step Did) → read_did l ≡ x → Some q ≡ did_answer x → DidSaid l q
    go (got d rest) p f =
        record {
          d = d;
          read = p ∙ ap (λ (m : List ℕ). got d m) (read_did_read l d rest p).1;
          holds = cc;
        }
    go bad p f = absurd (cc)

pub did_unsaid : (l : List ℕ) (r : Option DidLine) → r ≡ did_answer (read_did l) → r ≡ None → read_did l ≡ bad
unfolding did_answer
did_unsaid l r e k = go (read_did l) refl (sym k ∙ e)
  where
    go : (x : Step Did) → read_did l ≡ x → None ≡ did_answer x → read_did l ≡ bad
    go (got d rest) p f = absurd (cc)
    go bad p f = p
