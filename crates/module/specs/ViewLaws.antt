-- The four slots as a list: the slot of a number, the list with another slot in its place, and sums over it.
use Rattle.std.specs.Prelude.{ℕ, zero, suc, ◌+◌, ◌<◌, ◌≡◌, refl, [], ◌∷◌}
use Rattle.std.proofs.Common.{arith, ap}
use Rattle.forms.specs.Lists.{sum}
use Rattle.compact.specs.Module.{Slot, Module, unopened, slot_at, with_slot, others}
use Rattle.compact.proofs.Fits.{sum_slots}
use Rattle.module.specs.Four.{four}

abbrev pub list_of : (ℕ → Slot) → Module
list_of f = f 0 ∷ f 1 ∷ f 2 ∷ f 3 ∷ []

pub slot_at_lem : (f : ℕ → Slot) (i : ℕ) → i < 4 → slot_at i (list_of f) ≡ f i
unfolding slot_at
slot_at_lem f zero lt = refl
slot_at_lem f (suc zero) lt = refl
slot_at_lem f (suc (suc zero)) lt = refl
slot_at_lem f (suc (suc (suc zero))) lt = refl
slot_at_lem f (suc (suc (suc (suc i)))) lt = absurd (omega (arith, lt))

pub slot_past : (f : ℕ → Slot) (i : ℕ) → 3 < i → slot_at i (list_of f) ≡ unopened
unfolding slot_at
slot_past f zero lt = absurd (omega (arith, lt))
slot_past f (suc zero) lt = absurd (omega (arith, lt))
slot_past f (suc (suc zero)) lt = absurd (omega (arith, lt))
slot_past f (suc (suc (suc zero))) lt = absurd (omega (arith, lt))
slot_past f (suc (suc (suc (suc i)))) lt = refl

-- One slot is x, and the others are the same.
pub list_with : (f g : ℕ → Slot) (i : ℕ) (x : Slot) → i < 4 → ((j : ℕ) → j < 4 → (j ≡ i → ⊥) → f j ≡ g j) → f i ≡ x →
    list_of f ≡ with_slot i x (list_of g)
unfolding with_slot
list_with f g zero x lt same e =
    let a : f 1 ≡ g 1 = same 1 (omega arith) (λ q. omega (arith, q)) in
    let b : f 2 ≡ g 2 = same 2 (omega arith) (λ q. omega (arith, q)) in
    let c : f 3 ≡ g 3 = same 3 (omega arith) (λ q. omega (arith, q)) in
    λ t. e t ∷ a t ∷ b t ∷ c t ∷ []
list_with f g (suc zero) x lt same e =
    let a : f 0 ≡ g 0 = same 0 (omega arith) (λ q. omega (arith, q)) in
    let b : f 2 ≡ g 2 = same 2 (omega arith) (λ q. omega (arith, q)) in
    let c : f 3 ≡ g 3 = same 3 (omega arith) (λ q. omega (arith, q)) in
    λ t. a t ∷ e t ∷ b t ∷ c t ∷ []
list_with f g (suc (suc zero)) x lt same e =
    let a : f 0 ≡ g 0 = same 0 (omega arith) (λ q. omega (arith, q)) in
    let b : f 1 ≡ g 1 = same 1 (omega arith) (λ q. omega (arith, q)) in
    let c : f 3 ≡ g 3 = same 3 (omega arith) (λ q. omega (arith, q)) in
    λ t. a t ∷ b t ∷ e t ∷ c t ∷ []
list_with f g (suc (suc (suc zero))) x lt same e =
    let a : f 0 ≡ g 0 = same 0 (omega arith) (λ q. omega (arith, q)) in
    let b : f 1 ≡ g 1 = same 1 (omega arith) (λ q. omega (arith, q)) in
    let c : f 2 ≡ g 2 = same 2 (omega arith) (λ q. omega (arith, q)) in
    λ t. a t ∷ b t ∷ c t ∷ e t ∷ []
list_with f g (suc (suc (suc (suc i)))) x lt same e = absurd (omega (arith, lt))

-- sums over the list
pub sum_list : (F : Slot → ℕ) (f : ℕ → Slot) → sum F (list_of f) ≡ four (λ (j : ℕ). F (f j))
unfolding four
sum_list F f = omega arith

pub sum-others : (F : Slot → ℕ) (f : ℕ → Slot) (i : ℕ) → i < 4 → sum F (others i (list_of f)) + F (f i) ≡ four (λ (j : ℕ). F (f j))
sum-others F f i lt = omega (arith, sum_slots F i (list_of f) (omega (arith, lt)), ap F (slot_at_lem f i lt), sum_list F f)
