-- Laws of reading at a position of a list of bytes.
use Rattle.std.specs.Prelude.{ℕ, zero, suc, ◌+◌, ◌-◌, ◌*◌, ◌≤◌, ◌<◌, ◌≡◌, refl, List, [], ◌∷◌, Bool, true, false, cond, ◌⊎◌, length, drop, get_or, T, eqb}
use Rattle.std.proofs.Math.Path.{ap}
use Rattle.std.proofs.Common.{sym, ◌∙◌, arith, add-one, drop_of_length-le, drop-cons}
use Rattle.std.proofs.Math.Logic.{⊎_elim}
use borrow.Author.Tests.{lt-leb, eq-eqb, ne_eqb}
use Rattle.forms.specs.Decimal.{is_digit, first_is_digit, top, number, more, Step}
use Rattle.forms.specs.Decimal.Step.{got, bad}
use Rattle.forms.specs.Words.{word}
use Rattle.forms.specs.Plain.{is_letter, first_is_letter}
use Rattle.forms.specs.Lists.{all}
use Rattle.forms.specs.ListLaws.{T_true, and_left, and_right}
use Rattle.forms.specs.Names.{name, name_stop, name-goes_on, name_none, name-step, name_unlike}
use Rattle.forms.specs.DecimalLaws.{more_digit, more_stop}

-- What stands at a position before the end.
pub at-cons : (s : List ℕ) (at : ℕ) → at < length s → drop at s ≡ get_or s at 0 ∷ drop (at + 1) s
at-cons s at h = rw (add-one) (drop-cons s at 0 h)

pub number-end : (s : List ℕ) (at : ℕ) → length s ≤ at → number (drop at s) ≡ bad
unfolding number
number-end s at h = rw (drop_of_length-le s h)

same : (t : Bool) → ◌≡◌ {A = Step ℕ} (cond t bad bad) bad
same true = refl
same false = refl

module _ (s : List ℕ) (at : ℕ) (within : at < length s) where
  pub number_none : is_digit (get_or s at 0) ≡ false → number (drop at s) ≡ bad
  unfolding number
  number_none e = rw (at-cons s at within, e)

  pub number-first : is_digit (get_or s at 0) ≡ true → number (drop at s) ≡ more (get_or s at 0 - 48) (drop (at + 1) s)
  unfolding number
  number-first e = rw (at-cons s at within, e)

  pub more_none : (v : ℕ) → is_digit (get_or s at 0) ≡ false → more v (drop at s) ≡ got v (drop at s)
  more_none v e = more_stop v (drop at s) (ap first_is_digit (at-cons s at within) ∙ e)

  pub more-next : (v : ℕ) → is_digit (get_or s at 0) ≡ true → 0 < v → v * 10 + (get_or s at 0 - 48) ≤ top
      → more v (drop at s) ≡ more (v * 10 + (get_or s at 0 - 48)) (drop (at + 1) s)
  more-next v e hv ht = ap (more v) (at-cons s at within) ∙ more_digit v (get_or s at 0) (drop (at + 1) s) e hv ht

  pub more_refused : (v : ℕ) → is_digit (get_or s at 0) ≡ true → (v ≡ 0) ⊎ (top < v * 10 + (get_or s at 0 - 48)) → more v (drop at s) ≡ bad
  unfolding more
  more_refused v e w = ap (more v) (at-cons s at within) ∙
      ⊎_elim
      (λ (z : v ≡ 0). rw (e, eq-eqb v 0 z))
      (λ (h : top < v * 10 + (get_or s at 0 - 48)). rw (e, lt-leb (v * 10 + (get_or s at 0 - 48)) top h) (same (eqb v 0)))
      w

pub more-end : (s : List ℕ) (at : ℕ) → length s ≤ at → (v : ℕ) → more v (drop at s) ≡ got v (drop at s)
more-end s at h v = more_stop v (drop at s) (ap first_is_digit (drop_of_length-le s h))

-- A bracket or a space at a position.
module _ (m : ℕ) (s : List ℕ) (at : ℕ) where
  pub mark-end : length s ≤ at → word (m ∷ []) (drop at s) ≡ bad
  unfolding word
  mark-end h = rw (drop_of_length-le s h)

  module _ (within : at < length s) where
    pub mark-other : (get_or s at 0 ≡ m → ⊥) → word (m ∷ []) (drop at s) ≡ bad
    unfolding word
    mark-other h = rw (at-cons s at within, ne_eqb m (get_or s at 0) (λ e. h (sym e)))

    pub mark-here : get_or s at 0 ≡ m → word (m ∷ []) (drop at s) ≡ got tt (drop (at + 1) s)
    unfolding word
    mark-here h = rw (at-cons s at within, eq-eqb m (get_or s at 0) (sym h))

-- Letters at positions.
pub letter_here : (s : List ℕ) (at : ℕ) → at < length s → first_is_letter (drop at s) ≡ is_letter (get_or s at 0)
letter_here s at h = ap first_is_letter (at-cons s at h)

pub letter_past : (s : List ℕ) (at : ℕ) → length s ≤ at → first_is_letter (drop at s) ≡ false
letter_past s at h = ap first_is_letter (drop_of_length-le s h)

-- each byte of a word is a letter
letter_of : (w : List ℕ) (i : ℕ) → T (all is_letter w) → i < length w → is_letter (get_or w i 0) ≡ true
letter_of [] i t h = absurd (omega arith)
letter_of (x ∷ w) zero t h = T_true (is_letter x) (and_left (is_letter x) (all is_letter w) t)
letter_of (x ∷ w) (suc i) t h = letter_of w i (and_right (is_letter x) (all is_letter w) t) (omega arith)

-- A word at a position: i letters of w were read.
pub name-whole : (w s : List ℕ) (i next : ℕ) → length w ≤ i → first_is_letter (drop next s) ≡ false
    → name (drop i w) (drop next s) ≡ got tt (drop next s)
name-whole w s i next h e = ap (λ (x : List ℕ). name x (drop next s)) (drop_of_length-le w h) ∙ name_stop (drop next s) e

pub name_longer : (w s : List ℕ) (i next : ℕ) → length w ≤ i → first_is_letter (drop next s) ≡ true → name (drop i w) (drop next s) ≡ bad
name_longer w s i next h e = ap (λ (x : List ℕ). name x (drop next s)) (drop_of_length-le w h) ∙ name-goes_on (drop next s) e

module _ (w s : List ℕ) (i next : ℕ) (more : i < length w) where
  at_letter : name (drop i w) (drop next s) ≡ name (get_or w i 0 ∷ drop (i + 1) w) (drop next s)
  at_letter = ap (λ (x : List ℕ). name x (drop next s)) (at-cons w i more)

  pub name-end : first_is_letter (drop next s) ≡ false → name (drop i w) (drop next s) ≡ bad
  name-end e = at_letter ∙ name_none (get_or w i 0) (drop (i + 1) w) (drop next s) e

  module _ (within : next < length s) where
    at_byte : name (drop i w) (drop next s) ≡ name (get_or w i 0 ∷ drop (i + 1) w) (get_or s next 0 ∷ drop (next + 1) s)
    at_byte = at_letter ∙ ap (name (get_or w i 0 ∷ drop (i + 1) w)) (at-cons s next within)

    pub name-other : (get_or s next 0 ≡ get_or w i 0 → ⊥) → name (drop i w) (drop next s) ≡ bad
    name-other h =
        at_byte ∙ name_unlike (get_or w i 0) (drop (i + 1) w) (get_or s next 0) (drop (next + 1) s)
        (ne_eqb (get_or w i 0) (get_or s next 0) (λ e. h (sym e)))

    pub name-next : T (all is_letter w) → get_or s next 0 ≡ get_or w i 0
        → name (drop i w) (drop next s) ≡ name (drop (i + 1) w) (drop (next + 1) s)
    name-next t h =
        let letter : is_letter (get_or s next 0) ≡ true = ap is_letter h ∙ letter_of w i t more in
        at_byte ∙ name-step (get_or w i 0) (drop (i + 1) w) (get_or s next 0) (drop (next + 1) s) letter
        ∙ (rw (eq-eqb (get_or w i 0) (get_or s next 0) (sym h)))
