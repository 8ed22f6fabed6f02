-- Laws of decimal numbers.
use Rattle.std.specs.Prelude.{ℕ, zero, suc, ◌+◌, ◌-◌, ◌*◌, ◌/◌, ◌%◌, ◌^◌, ◌≤◌, ◌<◌, ◌≡◌, refl, List, [], ◌∷◌, ◌++◌, Bool, true, false, cond, ◌&&◌, ◌≢◌, ◌⊎◌, ltb, leb, eqb, length}
use Rattle.std.proofs.Common.{ap, ap₂, sym, ◌∙◌, append_assoc, inl, inr, ⊎_elim, arith, length-append, ltb-true, ltb-false, leb-true, lt-ltb, le-ltb, le-leb, ne_eqb}
use Rattle.std.proofs.lemmas.Bool.{eqb-false}
use Rattle.forms.specs.Decimal.{digits_within, digits, two_digits, Step, is_digit, first_is_digit, top, more, number}
use Rattle.forms.specs.Decimal.Step.{got, bad}

pub lt-or_ge : (a b : ℕ) → (a < b) ⊎ (b ≤ a)
lt-or_ge a b = go (ltb a b) refl
  where
    go : (t : Bool) → ltb a b ≡ t → (a < b) ⊎ (b ≤ a)
    go true e = inl (ltb-true a b e)
    go false e = inr (ltb-false a b e)

within_small : (k n : ℕ) → n < 10 → digits_within k n ≡ (48 + n) ∷ []
unfolding digits_within
within_small zero n h = ap (λ (m : ℕ). (48 + m) ∷ []) (omega arith)
within_small (suc k) n h = rw (lt-ltb n 10 h, digits_within)

within_large : (k n : ℕ) → 10 ≤ n → digits_within (suc k) n ≡ digits_within k (n / 10) ++ ((48 + n % 10) ∷ [])
unfolding digits_within
within_large k n h = rw (le-ltb n 10 h, digits_within)

-- Steps enough are enough.
digits_fuel : (k j n : ℕ) → n ≤ k → n ≤ j → digits_within k n ≡ digits_within j n
digits_fuel zero j n hk hj = within_small zero n (omega arith) ∙ sym (within_small j n (omega arith))
digits_fuel (suc k) zero n hk hj = within_small (suc k) n (omega arith) ∙ sym (within_small zero n (omega arith))
digits_fuel (suc k) (suc j) n hk hj =
    ⊎_elim
    (λ (h : n < 10). within_small (suc k) n h ∙ sym (within_small (suc j) n h))
    (λ (h : 10 ≤ n).
    within_large k n h
    ∙ ap (λ (l : List ℕ). l ++ ((48 + n % 10) ∷ [])) (digits_fuel k j (n / 10) (omega arith) (omega arith))
    ∙ sym (within_large j n h))
    (lt-or_ge n 10)

-- A number below 10 is one digit; any other has the last digit behind those of a tenth of it.
pub digits_small : (n : ℕ) → n < 10 → digits n ≡ (48 + n) ∷ []
unfolding digits
digits_small n h = within_small n n h

pub digits_large : (n : ℕ) → 10 ≤ n → digits n ≡ digits (n / 10) ++ ((48 + n % 10) ∷ [])
unfolding digits
digits_large (suc n) h =
    within_large n (suc n) h
    ∙ ap (λ (l : List ℕ). l ++ ((48 + suc n % 10) ∷ [])) (digits_fuel n (suc n / 10) (suc n / 10) (omega arith) (omega arith))
digits_large zero h = absurd (let z : 10 ≤ 0 = h in omega arith)

pub length_small : (n : ℕ) → n < 10 → length (digits n) ≡ 1
length_small n h = ap length (digits_small n h)

pub length_large : (n : ℕ) → 10 ≤ n → length (digits n) ≡ length (digits (n / 10)) + 1
length_large n h = ap length (digits_large n h) ∙ length-append (digits (n / 10)) ((48 + n % 10) ∷ [])

-- Two digits, and two behind those of n / 100.
pub digits-two : (n : ℕ) → 10 ≤ n → n < 100 → digits n ≡ two_digits n
digits-two n h k = digits_large n h ∙ ap (λ (l : List ℕ). l ++ ((48 + n % 10) ∷ [])) (digits_small (n / 10) (omega arith))

pub digits_more : (n : ℕ) → 100 ≤ n → digits n ≡ digits (n / 100) ++ two_digits (n % 100)
digits_more n h =
    digits_large n (omega arith)
    ∙ ap (λ (l : List ℕ). l ++ ((48 + n % 10) ∷ [])) (digits_large (n / 10) (omega arith))
    ∙ append_assoc (digits (n / 10 / 10)) ((48 + n / 10 % 10) ∷ []) ((48 + n % 10) ∷ [])
    ∙ ap (λ (m : ℕ). digits m ++ ((48 + n / 10 % 10) ∷ (48 + n % 10) ∷ [])) (omega arith)
    ∙ ap₂ (λ (a b : ℕ). digits (n / 100) ++ ((48 + a) ∷ (48 + b) ∷ [])) (omega arith) (omega arith)

pub length_two : (n : ℕ) → 10 ≤ n → n < 100 → length (digits n) ≡ 2
length_two n h k = ap length (digits-two n h k)

pub length_more : (n : ℕ) → 100 ≤ n → length (digits n) ≡ length (digits (n / 100)) + 2
length_more n h = ap length (digits_more n h) ∙ length-append (digits (n / 100)) (two_digits (n % 100))

-- Another digit behind those of v.
pub digits_snoc : (v d : ℕ) → 0 < v → d < 10 → digits (v * 10 + d) ≡ digits v ++ ((48 + d) ∷ [])
digits_snoc v d hv hd =
    digits_large (v * 10 + d) (omega arith)
    ∙ ap₂ (λ (a b : ℕ). digits a ++ ((48 + b) ∷ [])) (omega arith) (omega arith)

digit_true : (b : ℕ) → 48 ≤ b → b ≤ 57 → is_digit b ≡ true
digit_true b h k = rw (le-leb 48 b h, le-leb b 57 k)

pub and-true : (s t : Bool) → (s && t) ≡ true → (s ≡ true) × (t ≡ true)
and-true true true e = (refl, refl)
and-true true false e = (refl, e)
and-true false true e = (e, refl)
and-true false false e = (e, e)

pub digit_range : (b : ℕ) → is_digit b ≡ true → (48 ≤ b) × (b ≤ 57)
digit_range b e =
    let p : (leb 48 b ≡ true) × (leb b 57 ≡ true) = and-true (leb 48 b) (leb b 57) e in
    (leb-true 48 b p.0, leb-true b 57 p.1)

-- How reading goes on: past a digit, and no further before anything else.
pub more_digit : (v b : ℕ) (l : List ℕ) → is_digit b ≡ true → 0 < v → v * 10 + (b - 48) ≤ top → more v (b ∷ l) ≡ more (v * 10 + (b - 48)) l
unfolding more
more_digit v b l e hv ht = rw (e, ne_eqb v 0 (omega arith), le-leb (v * 10 + (b - 48)) top ht)

pub more_stop : (v : ℕ) (l : List ℕ) → first_is_digit l ≡ false → more v l ≡ got v l
unfolding more
more_stop v [] e = refl
more_stop v (b ∷ l) e = rw e

number_small : (n : ℕ) (rest : List ℕ) → n < 10 → number (digits n ++ rest) ≡ more n rest
unfolding number
number_small n rest h = rw (digits_small n h, digit_true (48 + n) (omega arith) (omega arith)) (ap (λ (m : ℕ). more m rest) (omega arith))

number_digits : (k n : ℕ) (rest : List ℕ) → n ≤ k → n ≤ top → number (digits n ++ rest) ≡ more n rest
number_digits zero n rest hk ht = number_small n rest (omega arith)
number_digits (suc k) n rest hk ht =
    ⊎_elim
    (λ (h : n < 10). number_small n rest h)
    (λ (h : 10 ≤ n).
    ap number (ap (λ (l : List ℕ). l ++ rest) (digits_large n h) ∙ append_assoc (digits (n / 10)) ((48 + n % 10) ∷ []) rest)
    ∙ number_digits k (n / 10) ((48 + n % 10) ∷ rest) (omega arith) (omega arith)
    ∙ more_digit (n / 10) (48 + n % 10) rest (digit_true (48 + n % 10) (omega arith) (omega arith)) (omega arith) (omega arith)
    ∙ ap (λ (m : ℕ). more m rest) (omega arith))
    (lt-or_ge n 10)

-- What is written is read back.
pub number-written : (n : ℕ) (rest : List ℕ) → n ≤ top → first_is_digit rest ≡ false → number (digits n ++ rest) ≡ got n rest
number-written n rest ht e = number_digits n n rest (omega arith) ht ∙ more_stop n rest e

-- What is read is what would be written.
pub record Written (n : ℕ) (rest l : List ℕ) : Type 0 where
  pub same : l ≡ digits n ++ rest
  pub small : n ≤ top
  pub ends : first_is_digit rest ≡ false

more-cases : (t z u : Bool) (x y : Step ℕ) (n : ℕ) (rest : List ℕ) → cond t (cond z bad (cond u x bad)) y ≡ got n rest
    → ((t ≡ false) × (y ≡ got n rest)) ⊎ ((t ≡ true) × (z ≡ false) × (u ≡ true) × (x ≡ got n rest))
more-cases false z u x y n rest h = inl (refl, h)
more-cases true true u x y n rest h = let z : ◌≡◌ {A = ℕ} 0 1 = cc in absurd (omega arith)
more-cases true false true x y n rest h = inr (refl, refl, refl, h)
more-cases true false false x y n rest h = let z : ◌≡◌ {A = ℕ} 0 1 = cc in absurd (omega arith)

digits_on : (v b : ℕ) (l : List ℕ) → 0 < v → is_digit b ≡ true → digits (v * 10 + (b - 48)) ++ l ≡ digits v ++ (b ∷ l)
digits_on v b l hv e =
    let r : (48 ≤ b) × (b ≤ 57) = digit_range b e in
    ap (λ (x : List ℕ). x ++ l) (digits_snoc v (b - 48) hv (omega arith))
    ∙ append_assoc (digits v) ((48 + (b - 48)) ∷ []) l
    ∙ ap (λ (x : ℕ). digits v ++ (x ∷ l)) (omega arith)

more_read : (l : List ℕ) (v n : ℕ) (rest : List ℕ) → v ≤ top → more v l ≡ got n rest → Written n rest (digits v ++ l)
unfolding more
more_read [] v n rest hv h =
    let e : v ≡ n = cc in
    let r : [] ≡ rest = cc in
    record { same = cc; small = omega arith; ends = ap first_is_digit (sym r) }
more_read (b ∷ l) v n rest hv h =
    ⊎_elim
    (λ w.
    let e : v ≡ n = cc in
    let r : b ∷ l ≡ rest = cc in
    record { same = cc; small = omega arith; ends = ap first_is_digit (sym r) ∙ w.0 })
    (λ w.
    let p : v ≢ 0 = eqb-false v 0 w.1 in
    let m = more_read l (v * 10 + (b - 48)) n rest (leb-true _ _ w.2) w.3 in
    record { same = sym (digits_on v b l (omega arith) w.0) ∙ m.same; small = m.small; ends = m.ends })
    (more-cases (is_digit b) (eqb v 0) (leb (v * 10 + (b - 48)) top) (more (v * 10 + (b - 48)) l) (got v (b ∷ l)) n rest h)

pub number_read : (l : List ℕ) (n : ℕ) (rest : List ℕ) → number l ≡ got n rest → Written n rest l
unfolding number
number_read [] n rest h = let z : ◌≡◌ {A = ℕ} 0 1 = cc in absurd (omega arith)
number_read (b ∷ l) n rest h = go (is_digit b) refl
  where
    go : (t : Bool) → is_digit b ≡ t → Written n rest (b ∷ l)
    go true e =
        let r : (48 ≤ b) × (b ≤ 57) = digit_range b e in
        let m = more_read l (b - 48) n rest (omega arith) (rw e at h) in
        let d : digits (b - 48) ≡ b ∷ [] = digits_small (b - 48) (omega arith) ∙ ap (λ (x : ℕ). x ∷ []) (omega arith) in
        record { same = ap (λ (x : List ℕ). x ++ l) (sym d) ∙ m.same; small = m.small; ends = m.ends }
    go false e = let z : bad ≡ got n rest = rw e at h in let y : ◌≡◌ {A = ℕ} 0 1 = cc in absurd (omega arith)

-- A number has at least one digit, and at most k + 1 below the power k + 1 of ten; so at most 20.
pub digits-some : (n : ℕ) → 0 < length (digits n)
digits-some n =
    ⊎_elim
    (λ (h : n < 10). rw (digits_small n h) (omega arith))
    (λ (h : 10 ≤ n). rw (digits_large n h, length-append) (omega arith))
    (lt-or_ge n 10)

pub digits_few : (k n : ℕ) → n < 10 ^ suc k → length (digits n) ≤ suc k
digits_few zero n h = rw (digits_small n h) (omega arith)
digits_few (suc k) n h =
    ⊎_elim
    (λ (g : n < 10). rw (digits_small n g) (omega arith))
    (λ (g : 10 ≤ n). rw (digits_large n g, length-append) (let i = digits_few k (n / 10) (omega arith) in omega arith))
    (lt-or_ge n 10)

pub digits-at_most : (n : ℕ) → n ≤ top → length (digits n) ≤ 20
digits-at_most n h = digits_few 19 n (omega arith)

digits_65536 : digits 65536 ≡ 54 ∷ 53 ∷ 53 ∷ 51 ∷ 54 ∷ []
unfolding digits digits_within
digits_65536 = refl

digits-top : length (digits 18446744073709551615) ≡ 20
unfolding digits digits_within
digits-top = refl

number_5 : number (54 ∷ 53 ∷ 53 ∷ 51 ∷ 54 ∷ 41 ∷ []) ≡ got 65536 (41 ∷ [])
unfolding number more
number_5 = refl
