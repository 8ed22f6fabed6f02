-- What loops over the first elements of an array meet: one element more, the element that decides, and stores.
use Rattle.std.specs.Prelude.{ℕ, zero, suc, ◌+◌, ◌≤◌, ◌<◌, ◌≡◌, refl, ◌⊎◌, Bool, cond, ◌&&◌, ◌||◌, length, get_or, take, drop, set}
use Rattle.std.proofs.Common.{add-one, drop-cons, arith, sym, ap, ◌∙◌, inl, inr, length-take, drop_of_length-le, take-suc, length-take-le, take-suc-set}
use Rattle.std.proofs.Math.Bool.{or-false, or_assoc}
use Rattle.std.specs.List.{list_all, list_any, range_with_len}
use mathlib.Core.List.{List, [], ◌∷◌, ◌++◌}
use mathlib.Core.List.Memᴰ
use mathlib.Core.List.Memᴰ.{head as here}
use mathlib.Core.List.Memᴰ.{tail as there}
use mathlib.Core.List.{Memᴰ as Mem}
use Rattle.std.proofs.lemmas.List.{drop-append-le}
use Rattle.forms.specs.Lists.{any, all, keep, below}
use Rattle.forms.specs.ListLaws.{keep_append}

-- ### The part of an array that counts

module _ {A : Type 0} (l : List A) (d : A) where
  pub take_next : (i : ℕ) → i < length l → take (i + 1) l ≡ take i l ++ (get_or l i d ∷ [])
  take_next i h = rw (add-one) (take-suc l i d h)

  -- of the part that begins at an index, one element more
  pub slice_next : (from i : ℕ) → from ≤ i → i < length l → drop from (take (i + 1) l) ≡ drop from (take i l) ++ (get_or l i d ∷ [])
  slice_next from i h g =
      ap (drop from) (take_next i g) ∙ drop-append-le from (take i l) (get_or l i d ∷ []) (omega (arith, length-take-le i l (omega arith)))

module _ {A : Type 0} where
  -- one more at the end
  pub take_push : (l : List A) (n : ℕ) (a : A) → n < length l → take (n + 1) (set l n a) ≡ take n l ++ (a ∷ [])
  take_push l n a h = rw add-one (take-suc-set l n a h)

  pub mem-set : {x : A} (l : List A) (i : ℕ) (a : A) → Mem x (set l i a) → (x ≡ a) ⊎ Mem x l
  mem-set [] i a m = inr m
  mem-set {x} (y ∷ l) zero a m = go (Memᴰ.cases_cons m)
    where
      go : (x ≡ a) ⊎ Mem x l → (x ≡ a) ⊎ Mem x (y ∷ l)
      go (inl e) = inl e
      go (inr k) = inr (there k)
  mem-set {x} (y ∷ l) (suc i) a m = go (Memᴰ.cases_cons m) (λ k. mem-set l i a k)
    where
      up : (x ≡ a) ⊎ Mem x l → (x ≡ a) ⊎ Mem x (y ∷ l)
      up (inl e) = inl e
      up (inr k) = inr (there k)

      go : (x ≡ y) ⊎ Mem x (set l i a) → (Mem x (set l i a) → (x ≡ a) ⊎ Mem x l) → (x ≡ a) ⊎ Mem x (y ∷ l)
      go (inl e) below = inr (here e)
      go (inr k) below = up (below k)

  pub take_none : (n : ℕ) (l : List A) → n ≡ 0 → take n l ≡ []
  take_none n l e = ap (λ (k : ℕ). take k l) e ∙ nothing l
    where
      nothing : (l : List A) → take 0 l ≡ []
      nothing [] = refl
      nothing (x ∷ l) = refl

  -- behind the first n of n there is nothing
  pub drop_past : (n : ℕ) (l : List A) → drop n (take n l) ≡ []
  drop_past n l = let h : length (take n l) ≤ n = omega (arith, length-take n l) in drop_of_length-le (take n l) h

-- ### Tests over the elements passed so far

module _ {A : Type 0} (p : A → Bool) where
  pub any_append : (a b : List A) → any p (a ++ b) ≡ (any p a || any p b)
  any_append [] b = refl
  any_append (x ∷ a) b = ap (λ (t : Bool). p x || t) (any_append a b) ∙ sym (or_assoc (p x) (any p a) (any p b))

  pub any_snoc : (l : List A) (a : A) → any p (l ++ (a ∷ [])) ≡ (any p l || p a)
  any_snoc l a = any_append l (a ∷ []) ∙ ap (λ (t : Bool). any p l || t) (or-false (p a))

-- A test of the elements from a on, n of them, by their places.
module _ {A : Type 0} (p : A → Bool) (d : A) (l : List A) where
  pub all_places : (a n : ℕ) → a + n ≤ length l → list_all (λ (j : ℕ). p (get_or l j d)) (range_with_len a n) ≡ all p (take n (drop a l))
  all_places a zero h = refl
  all_places a (suc n) h =
      ap (λ (t : Bool). p (get_or l a d) && t) (all_places (a + 1) n (omega arith))
      ∙ ap (λ (k : ℕ). p (get_or l a d) && all p (take n (drop k l))) (add-one a)
      ∙ sym (ap (λ (r : List A). all p (take (suc n) r)) (drop-cons l a d (omega arith)))

  pub any_places : (a n : ℕ) → a + n ≤ length l → list_any (λ (j : ℕ). p (get_or l j d)) (range_with_len a n) ≡ any p (take n (drop a l))
  any_places a zero h = refl
  any_places a (suc n) h =
      ap (λ (t : Bool). p (get_or l a d) || t) (any_places (a + 1) n (omega arith))
      ∙ ap (λ (k : ℕ). p (get_or l a d) || any p (take n (drop k l))) (add-one a)
      ∙ sym (ap (λ (r : List A). any p (take (suc n) r)) (drop-cons l a d (omega arith)))

module _ {A : Type 0} (p : A → Bool) (l : List A) (d : A) where
  pub any-more : (i : ℕ) → i < length l → any p (take (i + 1) l) ≡ (any p (take i l) || p (get_or l i d))
  any-more i h = ap (any p) (take_next l d i h) ∙ any_snoc p (take i l) (get_or l i d)

-- ### Numbers that pass a test, rising

pub below_next : (p : ℕ → Bool) (h : ℕ) (b : Bool) → p h ≡ b → keep p (below (h + 1)) ≡ keep p (below h) ++ cond b (h ∷ []) []
unfolding below
below_next p h b e =
    ap (λ (n : ℕ). keep p (below n)) (add-one h)
    ∙ keep_append p (below h) (h ∷ [])
    ∙ ap (λ (t : Bool). keep p (below h) ++ cond t (h ∷ []) []) e
