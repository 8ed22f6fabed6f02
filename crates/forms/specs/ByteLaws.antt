-- Laws of single bytes: which are digits, and which are letters.
use Rattle.std.specs.Prelude.{ℕ, ◌-◌, ◌≤◌, ◌<◌, ◌≡◌, refl, Bool, true, false, ◌&&◌, leb, Some, None}
use Rattle.std.proofs.Common.{arith, le-leb}
use Rattle.std.proofs.lemmas.Bool.{lt-leb}
use Rattle.forms.specs.Decimal.{is_digit}
use Rattle.forms.specs.DecimalLaws.{digit_range}
use Rattle.forms.specs.Plain.{is_letter}
use Rattle.forms.specs.Read.{digit_of}

-- a byte in a range, below it and above it
in_range : (lo hi b : ℕ) → lo ≤ b → b ≤ hi → (leb lo b && leb b hi) ≡ true
in_range lo hi b h k = rw (le-leb lo b h, le-leb b hi k)

below_range : (lo hi b : ℕ) → b < lo → (leb lo b && leb b hi) ≡ false
below_range lo hi b h = rw (lt-leb lo b h)

and-false : (t : Bool) → (t && false) ≡ false
and-false true = refl
and-false false = refl

above_range : (lo hi b : ℕ) → hi < b → (leb lo b && leb b hi) ≡ false
above_range lo hi b h = rw (lt-leb b hi h) (and-false (leb lo b))

pub digit_here : (b : ℕ) → 48 ≤ b → b ≤ 57 → digit_of b ≡ Some (b - 48)
unfolding digit_of
digit_here b h k = rw (in_range 48 57 b h k)

pub digit_below : (b : ℕ) → b < 48 → digit_of b ≡ None
unfolding digit_of
digit_below b h = rw (below_range 48 57 b h)

pub digit_above : (b : ℕ) → 57 < b → digit_of b ≡ None
unfolding digit_of
digit_above b h = rw (above_range 48 57 b h)

pub letter_in : (b : ℕ) → 97 ≤ b → b ≤ 122 → is_letter b ≡ true
letter_in b h k = in_range 97 122 b h k

pub letter_below : (b : ℕ) → b < 97 → is_letter b ≡ false
letter_below b h = below_range 97 122 b h

pub letter_above : (b : ℕ) → 122 < b → is_letter b ≡ false
letter_above b h = above_range 97 122 b h

-- the byte b is a digit whose value is d
pub record DigitOf (b d : ℕ) : Type 0 where
  pub is : is_digit b ≡ true
  pub low : 48 ≤ b
  pub high : b ≤ 57
  pub value : d ≡ b - 48

digit_of_lem : (b d : ℕ) → is_digit b ≡ true → d ≡ b - 48 → DigitOf b d
digit_of_lem b d q e = record { is = q; low = (digit_range b q).0; high = (digit_range b q).1; value = e }

-- only a digit is read as one
pub read_digit : (b d : ℕ) → digit_of b ≡ Some d → DigitOf b d
unfolding digit_of
read_digit b d e = go (is_digit b) refl
  where
    go : (t : Bool) → is_digit b ≡ t → DigitOf b d
    go true q = let p : Some (b - 48) ≡ Some d = rw q at e in digit_of_lem b d q (cc)
    go false q = let p : None ≡ Some d = rw q at e in let z : ◌≡◌ {A = ℕ} 0 1 = cc in absurd (omega arith)

pub no_digit : (b : ℕ) → digit_of b ≡ None → is_digit b ≡ false
unfolding digit_of
no_digit b e = go (is_digit b) refl
  where
    go : (t : Bool) → is_digit b ≡ t → is_digit b ≡ false
    go true q = let p : Some (b - 48) ≡ None = rw q at e in let z : ◌≡◌ {A = ℕ} 0 1 = cc in absurd (omega arith)
    go false q = q
