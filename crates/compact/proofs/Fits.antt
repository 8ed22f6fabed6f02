-- The invariant of modules: what the sites have and are promised fits the table. Its laws: every call keeps it, and what follows for
-- refusal 10.
use Rattle.std.specs.Prelude.{◌≡◌, refl, ◌⊎◌, false, [], ◌∷◌, ℕ, zero, suc, ◌+◌, ◌≤◌, ◌<◌, T, length}
use Rattle.std.proofs.Common.{sym, ap, ◌∙◌, subst, inl, inr, not-suc-le-zero, le_of_suc-le-suc}
use mathlib.Core.List.Memᴰ
use mathlib.Core.List.Memᴰ.{head as here}
use mathlib.Core.List.Memᴰ.{tail as there}
use mathlib.Core.List.{Memᴰ as Mem}
use Rattle.std.proofs.Math.Option.{some}
use native.Mathlib.Omega.{arith}
use Rattle.std.proofs.Math.Dec.{leb→le, ltb→lt}
use Rattle.forms.specs.Lists.{sum}
use Rattle.rules.specs.State.{State}
use Rattle.rule_laws.specs.CheckLaws.{not-lt, not-le}
use Rattle.compact.specs.Module.{slot_limit, entry_limit, Slot, unopened, Module, slot_at, with_slot, others, live_of}
use Rattle.compact.specs.Module.{lacks, free, taken, uncovered, made}
use Rattle.compact.specs.Fits.{claims, GoodSlot, Fits}

-- ### Slots in a list

pub sum_slots : (f : Slot → ℕ) (i : ℕ) (m : Module) → i < length m → sum f m ≡ f (slot_at i m) + sum f (others i m)
unfolding slot_at others
sum_slots f i [] lt = absurd (not-suc-le-zero lt)
sum_slots f zero (s ∷ m) lt = refl
sum_slots f (suc i) (s ∷ m) lt = let e = sum_slots f i m (le_of_suc-le-suc lt) in omega arith

pub at_with : (i : ℕ) (x : Slot) (m : Module) → i < length m → slot_at i (with_slot i x m) ≡ x
unfolding slot_at with_slot
at_with i x [] lt = absurd (not-suc-le-zero lt)
at_with zero x (s ∷ m) lt = refl
at_with (suc i) x (s ∷ m) lt = at_with i x m (le_of_suc-le-suc lt)

pub others_with : (i : ℕ) (x : Slot) (m : Module) → others i (with_slot i x m) ≡ others i m
unfolding others with_slot
others_with i x [] = refl
others_with zero x (s ∷ m) = refl
others_with (suc i) x (s ∷ m) = ap {B = Module} (λ l. s ∷ l) (others_with i x m)

pub length_with : (i : ℕ) (x : Slot) (m : Module) → length (with_slot i x m) ≡ length m
unfolding with_slot
length_with i x [] = refl
length_with zero x (s ∷ m) = refl
length_with (suc i) x (s ∷ m) = let e = length_with i x m in omega arith

pub at_other : (i j : ℕ) (x : Slot) (m : Module) → (j ≡ i → ⊥) → slot_at i (with_slot j x m) ≡ slot_at i m
unfolding slot_at with_slot
at_other i j x [] out = refl
at_other zero zero x (s ∷ m) out = absurd (out refl)
at_other zero (suc j) x (s ∷ m) out = refl
at_other (suc i) zero x (s ∷ m) out = refl
at_other (suc i) (suc j) x (s ∷ m) out = at_other i j x m (λ e. out (ap suc e))

pub mem_slot : (i : ℕ) (m : Module) → i < length m → Mem (slot_at i m) m
unfolding slot_at
mem_slot i [] lt = absurd (not-suc-le-zero lt)
mem_slot zero (s ∷ m) lt = here refl
mem_slot (suc i) (s ∷ m) lt = there (mem_slot i m (le_of_suc-le-suc lt))

pub mem_with : {y : Slot} (i : ℕ) (x : Slot) (m : Module) → Mem y (with_slot i x m) → (y ≡ x) ⊎ Mem y m
unfolding with_slot
mem_with i x [] k = inr k
mem_with {y} zero x (s ∷ m) k = go (Memᴰ.cases_cons k)
  where
    go : (y ≡ x) ⊎ Mem y m → (y ≡ x) ⊎ Mem y (s ∷ m)
    go (inl e) = inl e
    go (inr q) = inr (there q)
mem_with {y} (suc i) x (s ∷ m) k = go (Memᴰ.cases_cons k) (λ q. mem_with i x m q)
  where
    up : (y ≡ x) ⊎ Mem y m → (y ≡ x) ⊎ Mem y (s ∷ m)
    up (inl e) = inl e
    up (inr q) = inr (there q)

    go : (y ≡ s) ⊎ Mem y (with_slot i x m) → (Mem y (with_slot i x m) → (y ≡ x) ⊎ Mem y m) → (y ≡ x) ⊎ Mem y (s ∷ m)
    go (inl e) below = inr (here e)
    go (inr q) below = up (below q)

-- A slot that is opened is one of the list.
pub opened-below : (i : ℕ) (m : Module) (st : State) → (slot_at i m).site ≡ some st → i < length m
unfolding slot_at
opened-below i [] st e = absurd (let z : ◌≡◌ {A = ℕ} 0 1 = cc in omega arith)
opened-below zero (s ∷ m) st e = omega arith
opened-below (suc i) (s ∷ m) st e = let le = opened-below i m st e in omega arith

pub fits-made : Fits made
unfolding claims live_of
fits-made = record { four = refl; slots = λ s k. fresh s k; enough = omega arith }
  where
    same : (s : Slot) → s ≡ unopened → GoodSlot s
    same s e = subst GoodSlot (sym e) (record {
      good = λ st p. absurd (let z : ◌≡◌ {A = ℕ} 0 1 = cc in omega arith);
      promised = omega arith;
      may_use = omega arith;
      ended = λ p. refl;
    })

    fresh : (s : Slot) → Mem s made → GoodSlot s
    fresh s k = go (Memᴰ.cases_cons k)
      where
        four : (s ≡ unopened) ⊎ Mem s [] → GoodSlot s
        four (inl e) = same s e
        four (inr q) = absurd (Memᴰ.not-nil q)

        three : (s ≡ unopened) ⊎ Mem s (unopened ∷ []) → GoodSlot s
        three (inl e) = same s e
        three (inr q) = four (Memᴰ.cases_cons q)

        two : (s ≡ unopened) ⊎ Mem s (unopened ∷ unopened ∷ []) → GoodSlot s
        two (inl e) = same s e
        two (inr q) = three (Memᴰ.cases_cons q)

        go : (s ≡ unopened) ⊎ Mem s (unopened ∷ unopened ∷ unopened ∷ []) → GoodSlot s
        go (inl e) = same s e
        go (inr q) = two (Memᴰ.cases_cons q)

-- what is claimed is what is live and what is lacking
pub claims_are : (m : Module) → sum claims m ≡ sum live_of m + sum lacks m
unfolding claims lacks
claims_are [] = refl
claims_are (s ∷ m) = let e = claims_are m in omega arith

module _ (i : ℕ) (m : Module) (F : Fits m) (lt : i < slot_limit) where
  inside : i < length m
  inside = omega (arith, F.four)

  pub mine : GoodSlot (slot_at i m)
  mine = F.slots (slot_at i m) (mem_slot i m inside)

  -- The sum, this slot's part and the others'.
  pub parted : claims (slot_at i m) + sum claims (others i m) ≤ entry_limit
  parted = omega (arith, F.enough, sum_slots claims i m inside)

  -- 10 from outside: the others' claims and what this site has leave no entry.
  pub taken_is : T (taken i m) → entry_limit ≤ live_of (slot_at i m) + sum claims (others i m)
  unfolding taken free
  taken_is t =
      omega (arith, leb→le (free m) (sum lacks (others i m)) t, claims_are (others i m), sum_slots live_of i m inside)

  pub not_taken_lem : taken i m ≡ false → live_of (slot_at i m) + sum claims (others i m) < entry_limit
  unfolding taken free
  not_taken_lem e = omega (arith, not-le (free m) (sum lacks (others i m)) e, claims_are (others i m), sum_slots live_of i m inside)

  live-fits : live_of (slot_at i m) + sum live_of (others i m) ≤ entry_limit
  unfolding claims
  live-fits = omega (arith, parted, claims_are (others i m))

  pub uncovered_is : (kept : ℕ) → T (uncovered i kept m) → entry_limit < kept + sum claims (others i m)
  unfolding uncovered free
  uncovered_is kept t =
      omega (
        arith,
        ltb→lt (free m + live_of (slot_at i m)) (kept + sum lacks (others i m)) t,
        claims_are (others i m),
        sum_slots live_of i m inside,
        live-fits,
      )

  pub covered : (kept : ℕ) → uncovered i kept m ≡ false → kept + sum claims (others i m) ≤ entry_limit
  unfolding uncovered free
  covered kept e =
      omega (
        arith,
        not-lt (free m + live_of (slot_at i m)) (kept + sum lacks (others i m)) e,
        claims_are (others i m),
        sum_slots live_of i m inside,
        live-fits,
      )

  -- A slot replaced by one whose claim fits.
  pub fits_with : (x : Slot) → GoodSlot x → claims x + sum claims (others i m) ≤ entry_limit → Fits (with_slot i x m)
  fits_with x g le =
      record {
        four = length_with i x m ∙ F.four;
        slots = λ s k. go s (mem_with i x m k);
        enough =
            omega (
              arith,
              sum_slots claims i (with_slot i x m) (omega (arith, length_with i x m, F.four)),
              ap claims (at_with i x m inside),
              ap (sum claims) (others_with i x m),
            );
      }
    where
      go : (s : Slot) → (s ≡ x) ⊎ Mem s m → GoodSlot s
      go s (inl e) = subst GoodSlot (sym e) g
      go s (inr k) = F.slots s k
