-- Four numbers, one for each slot of the module, and their sum.
use Rattle.std.specs.Prelude.{ℕ, zero, suc, ◌+◌, ◌≤◌, ◌<◌, ◌≡◌, refl, Bool, true, false, cond, eqb}
use Rattle.std.proofs.Common.{arith, sym, ap, ◌∙◌, eq-eqb, ne_eqb}
use Rattle.forms.specs.ListLaws.{false_T}

pub true_false : true ≡ false → ⊥
true_false e = false_T true e tt

-- the sum over the four slots
unfoldable pub four : (ℕ → ℕ) → ℕ
four f = f 0 + f 1 + f 2 + f 3

-- One slot differs.
pub four-one : (f g : ℕ → ℕ) (i : ℕ) → i < 4 → ((j : ℕ) → j < 4 → (j ≡ i → ⊥) → f j ≡ g j) → four f + g i ≡ four g + f i
unfolding four
four-one f g zero lt same = omega (
  arith,
  same 1 (omega arith) (λ e. omega (arith, e)),
  same 2 (omega arith)
      (λ e. omega (arith, e)),
  same 3 (omega arith) (λ e. omega (arith, e)),
)
four-one f g (suc zero) lt same = omega (
  arith,
  same 0 (omega arith) (λ e. omega (arith, e)),
  same 2 (omega arith)
      (λ e. omega (arith, e)),
  same 3 (omega arith) (λ e. omega (arith, e)),
)
four-one f g (suc (suc zero)) lt same = omega (
  arith,
  same 0 (omega arith) (λ e. omega (arith, e)),
  same 1 (omega arith)
      (λ e. omega (arith, e)),
  same 3 (omega arith) (λ e. omega (arith, e)),
)
four-one f g (suc (suc (suc zero))) lt same = omega (
  arith,
  same 0 (omega arith) (λ e. omega (arith, e)),
  same 1 (omega arith)
      (λ e. omega (arith, e)),
  same 2 (omega arith) (λ e. omega (arith, e)),
)
four-one f g (suc (suc (suc (suc i)))) lt same = absurd (omega (arith, lt))

-- one slot's part of the sum
pub four-least : (f : ℕ → ℕ) (i : ℕ) → i < 4 → f i ≤ four f
unfolding four
four-least f zero lt = omega arith
four-least f (suc zero) lt = omega arith
four-least f (suc (suc zero)) lt = omega arith
four-least f (suc (suc (suc zero))) lt = omega arith
four-least f (suc (suc (suc (suc i)))) lt = absurd (omega (arith, lt))

-- .. and that of two
pub four-two : (f : ℕ → ℕ) (i j : ℕ) → i < 4 → j < 4 → (j ≡ i → ⊥) → f i + f j ≤ four f
four-two f i j li lj ne =
    let g : ℕ → ℕ = λ (k : ℕ). cond (eqb k i) 0 (f k) in
    omega (
      arith,
      four-one f g i li (λ k lk out. sym (ap (λ (b : Bool). cond b 0 (f k)) (ne_eqb k i out))),
      four-least g j lj,
      ap (λ (b : Bool). cond b 0 (f j)) (ne_eqb j i ne),
      ap (λ (b : Bool). cond b 0 (f i)) (eq-eqb i i refl),
    )

-- Two slots differ.
pub four_pair : (f g : ℕ → ℕ) (i j : ℕ) → i < 4 → j < 4 → (j ≡ i → ⊥) →
    ((n : ℕ) → n < 4 → (n ≡ i → ⊥) → (n ≡ j → ⊥) → f n ≡ g n) → four f + (g i + g j) ≡ four g + (f i + f j)
four_pair f g i j li lj ne same =
    let m : ℕ → ℕ = λ (k : ℕ). cond (eqb k i) (f k) (g k) in
    let at_i : m i ≡ f i = ap (λ (b : Bool). cond b (f i) (g i)) (eq-eqb i i refl) in
    let at_j : m j ≡ g j = ap (λ (b : Bool). cond b (f j) (g j)) (ne_eqb j i ne) in
    omega (
      arith,
      four-one m g i li (λ k lk out. ap (λ (b : Bool). cond b (f k) (g k)) (ne_eqb k i out)),
      four-one f m j lj (λ k lk out. others k lk out (eqb k i) refl),
      at_i,
      at_j,
    )
  where
    others : (k : ℕ) → k < 4 → (k ≡ j → ⊥) → (b : Bool) → eqb k i ≡ b → f k ≡ cond (eqb k i) (f k) (g k)
    others k lk out true q = sym (ap (λ (b : Bool). cond b (f k) (g k)) q)
    others k lk out false q =
        same k lk (λ e. true_false (sym (eq-eqb k i e) ∙ q)) out ∙ sym (ap (λ (b : Bool). cond b (f k) (g k)) q)

-- Each slot's part is at most another's.
pub four_mono : (f g : ℕ → ℕ) → ((j : ℕ) → j < 4 → f j ≤ g j) → four f ≤ four g
unfolding four
four_mono f g le = omega (arith, le 0 (omega arith), le 1 (omega arith), le 2 (omega arith), le 3 (omega arith))

-- All slots but one are at most another's.
pub four-rest : (f g : ℕ → ℕ) (i : ℕ) → i < 4 → ((j : ℕ) → j < 4 → f j ≤ g j) → four f + g i ≤ four g + f i
four-rest f g i li le =
    let h : ℕ → ℕ = λ (j : ℕ). cond (eqb j i) (g j) (f j) in
    omega (
      arith,
      four-one h f i li (λ j lj out. ap (λ (b : Bool). cond b (g j) (f j)) (ne_eqb j i out)),
      ap (λ (b : Bool). cond b (g i) (f i)) (eq-eqb i i refl),
      four_mono h g (λ j lj. most j lj (eqb j i)),
    )
  where
    most : (j : ℕ) → j < 4 → (b : Bool) → cond b (g j) (f j) ≤ g j
    most j lj true = omega arith
    most j lj false = le j lj
