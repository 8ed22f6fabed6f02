-- Tests over lists, and over the part of an array that counts.
use Rattle.std.specs.Prelude.{ℕ, zero, suc, ◌+◌, ◌≤◌, ◌<◌, ◌≡◌, refl, Bool, true, false, ◌&&◌, ◌||◌, not, eqb, ltb, List, [], ◌∷◌, ◌++◌, map, ◌⊎◌, length, get_or, take, drop}
use Rattle.std.proofs.Common.{sym, ap, ap₂, subst, ◌∙◌, inl, inr, arith, eq-eqb, ne_eqb, eqb-true, ltb-true, lt-ltb, add-one, length-take, take-suc, take-take, get_or-take, length-take-le}
use Rattle.std.proofs.Math.Bool.{or-true}
use borrow.Author.Tests.{eqb-false, ltb-false}
use mathlib.Core.List.Memᴰ
use mathlib.Core.List.Memᴰ.{head as here}
use mathlib.Core.List.Memᴰ.{tail as there}
use mathlib.Core.List.{Memᴰ as Mem}
use Rattle.std.proofs.Math.ListN.{get_or-map, get_or-eq_default}
use Rattle.std.proofs.Math.Seq.{split_at}
use Rattle.std.specs.List.{list_any, list_all}
use Rattle.forms.specs.Lists.{all, any}
use Rattle.forms.specs.Held.{first_four}
use Rattle.forms.specs.Limits.{update_limit}

pub eqb_iff : (a b x y : ℕ) → (a ≡ b → x ≡ y) → (x ≡ y → a ≡ b) → eqb a b ≡ eqb x y
eqb_iff a b x y f g = go (eqb a b) refl
  where
    go : (t : Bool) → eqb a b ≡ t → eqb a b ≡ eqb x y
    go true e = e ∙ sym (eq-eqb x y (f (eqb-true a b e)))
    go false e = e ∙ sym (ne_eqb x y (λ q. eqb-false a b e (g q)))

pub ltb_iff : (a b x y : ℕ) → (a < b → x < y) → (x < y → a < b) → ltb a b ≡ ltb x y
ltb_iff a b x y f g = go (ltb a b) refl
  where
    go : (t : Bool) → ltb a b ≡ t → ltb a b ≡ ltb x y
    go true e = e ∙ sym (lt-ltb x y (f (ltb-true a b e)))
    go false e = e ∙ sym (other (ltb x y) refl)
      where
        other : (s : Bool) → ltb x y ≡ s → ltb x y ≡ false
        other true q = absurd (omega (arith, g (ltb-true x y q), ltb-false a b e))
        other false q = q

pub and_true_parts : (a b : Bool) → (a && b) ≡ true → (a ≡ true) × (b ≡ true)
and_true_parts true b e = (refl, e)
and_true_parts false b e = ((cc), (cc))

-- ### The elements of an array before an index, at it and behind it

module _ {A : Type 0} (l : List A) (d : A) where
  pub take_split : (i n : ℕ) → i < n → n ≤ length l → take n l ≡ take i l ++ get_or l i d ∷ drop (suc i) (take n l)
  take_split i n p q =
      let h : i < length (take n l) = omega (arith, length-take n l) in
      split_at (take n l) i d h
      ∙ ap₂ (λ (x : List A) (y : A). x ++ y ∷ drop (suc i) (take n l)) (take-take i n l (omega arith)) (get_or-take n l i d p)

-- ### Some element passes a test

pub or_false_parts : (a b : Bool) → (a || b) ≡ false → (a ≡ false) × (b ≡ false)
or_false_parts true b e = ((cc), (cc))
or_false_parts false b e = (refl, e)

module _ {A : Type 0} (p : A → Bool) where
  pub any_snoc : (l : List A) (a : A) → any p l ≡ false → p a ≡ false → any p (l ++ (a ∷ [])) ≡ false
  any_snoc [] a e h = simp h
  any_snoc (x ∷ xs) a e h = let q = or_false_parts (p x) (any p xs) e in rw (q.0, any_snoc xs a q.1 h)

  pub any_mid : (l : List A) (a : A) (r : List A) → p a ≡ true → any p (l ++ a ∷ r) ≡ true
  any_mid [] a r h = simp h
  any_mid (x ∷ xs) a r h = rw (any_mid xs a r h) (or-true (p x))

module _ {A : Type 0} (p : A → Bool) (l : List A) (d : A) where
  pub any_next : (i : ℕ) → i < length l → any p (take i l) ≡ false → p (get_or l i d) ≡ false → any p (take (i + 1) l) ≡ false
  any_next i h e q = rw (add-one, take-suc l i d h) (any_snoc p (take i l) (get_or l i d) e q)

  pub any_hit : (i n : ℕ) → i < n → n ≤ length l → p (get_or l i d) ≡ true → any p (take n l) ≡ true
  any_hit i n h g q = rw (take_split l d i n h g) (any_mid p (take i l) (get_or l i d) (drop (suc i) (take n l)) q)

-- ### What the library's methods answer

module _ {A : Type 0} (p : A → Bool) where
  pub list_any_is : (l : List A) → list_any p l ≡ any p l
  list_any_is [] = refl
  list_any_is (x ∷ xs) = ap (◌||◌ (p x)) (list_any_is xs)

  pub list_all_is : (l : List A) → list_all p l ≡ all p l
  list_all_is [] = refl
  list_all_is (x ∷ xs) = ap (◌&&◌ (p x)) (list_all_is xs)

-- ### Tests and lists that go through a function

module _ {A B : Type 0} (f : A → B) (p : B → Bool) where
  pub any-map : (l : List A) → any p (map f l) ≡ any (λ (x : A). p (f x)) l
  any-map [] = refl
  any-map (x ∷ xs) = ap (λ (b : Bool). p (f x) || b) (any-map xs)

  pub all_map : (l : List A) → all p (map f l) ≡ all (λ (x : A). p (f x)) l
  all_map [] = refl
  all_map (x ∷ xs) = ap (λ (b : Bool). p (f x) && b) (all_map xs)

pub map-map : {A B C : Type 0} (f : A → B) (g : B → C) (l : List A) → map g (map f l) ≡ map (λ (x : A). g (f x)) l
map-map f g [] = refl
map-map f g (x ∷ xs) = ap (λ (r : List _). g (f x) ∷ r) (map-map f g xs)

module _ {A : Type 0} (p : A → Bool) where
  -- all pass where none fails
  pub none_fails : (l : List A) → not (any (λ (x : A). not (p x)) l) ≡ all p l
  none_fails [] = refl
  none_fails (x ∷ xs) = go (p x) (none_fails xs)
    where
      go : (b : Bool) → not (any (λ (y : A). not (p y)) xs) ≡ all p xs → not (not b || any (λ (y : A). not (p y)) xs) ≡ (b && all p xs)
      go true e = e
      go false e = refl

-- Tests and functions that agree on the elements of a list agree on the list.
module _ {A : Type 0} where
  pub all_agree : (p q : A → Bool) (l : List A) → ((x : A) → Mem x l → p x ≡ q x) → all p l ≡ all q l
  all_agree p q [] h = refl
  all_agree p q (x ∷ xs) h = ap₂ ◌&&◌ (h x (here refl)) (all_agree p q xs (λ y m. h y (there m)))

  pub any_agree : (p q : A → Bool) (l : List A) → ((x : A) → Mem x l → p x ≡ q x) → any p l ≡ any q l
  any_agree p q [] h = refl
  any_agree p q (x ∷ xs) h = ap₂ ◌||◌ (h x (here refl)) (any_agree p q xs (λ y m. h y (there m)))

  pub map_agree : {B : Type 0} (f g : A → B) (l : List A) → ((x : A) → Mem x l → f x ≡ g x) → map f l ≡ map g l
  map_agree f g [] h = refl
  map_agree {B} f g (x ∷ xs) h = ap₂ (λ (y : B) (r : List B). y ∷ r) (h x (here refl)) (map_agree f g xs (λ y m. h y (there m)))

-- ### Lists of at most four elements, held in an array of four

module _ {A B : Type 0} (f : A → B) (d : A) where
  pub four-held : (l : List A) → length l ≤ update_limit → take (length l) (first_four f d l) ≡ map f l
  four-held [] h = refl
  four-held (a ∷ []) h = refl
  four-held (a ∷ b ∷ []) h = refl
  four-held (a ∷ b ∷ c ∷ []) h = refl
  four-held (a ∷ b ∷ c ∷ e ∷ []) h = refl
  four-held (a ∷ b ∷ c ∷ e ∷ x ∷ l) h = absurd (omega arith)

-- the part of an array of four that counts, by its length
pub length_part : {A : Type 0} (n : ℕ) (l : List A) → length l ≡ update_limit → n ≤ update_limit → length (take n l) ≡ n
length_part n l e h = length-take-le n l (omega arith)

-- an element of the part that counts, and what stands behind it
module _ {A : Type 0} (n : ℕ) (l : List A) (i : ℕ) (d : A) where
  pub part_in : i < n → get_or l i d ≡ get_or (take n l) i d
  part_in h = sym (get_or-take n l i d h)

  pub part_out : n ≤ i → d ≡ get_or (take n l) i d
  part_out h = sym (get_or-eq_default (take n l) d {n = i} (omega (arith, length-take n l)))

module _ {A : Type 0} where
  pub four_eq : {a a' b b' c c' e e' : A} → a ≡ a' → b ≡ b' → c ≡ c' → e ≡ e' →
      ◌≡◌ {A = List A} (a ∷ b ∷ c ∷ e ∷ []) (a' ∷ b' ∷ c' ∷ e' ∷ [])
  four_eq p q r s = ap₂ (λ (f g : List A). f ++ g) (ap₂ (λ (x y : A). x ∷ y ∷ []) p q) (ap₂ (λ (x y : A). x ∷ y ∷ []) r s)

-- a list of four, element by element
pub four_is : {A : Type 0} (l : List A) (d : A) → length l ≡ update_limit → {p q r s : A} → get_or l 0 d ≡ p → get_or l 1 d ≡ q →
    get_or l 2 d ≡ r → get_or l 3 d ≡ s → l ≡ p ∷ q ∷ r ∷ s ∷ []
four_is [] d h e f g k = absurd (omega arith)
four_is (x ∷ []) d h e f g k = absurd (omega arith)
four_is (x ∷ y ∷ []) d h e f g k = absurd (omega arith)
four_is (x ∷ y ∷ z ∷ []) d h e f g k = absurd (omega arith)
four_is (x ∷ y ∷ z ∷ w ∷ []) d h e f g k = four_eq e f g k
four_is (x ∷ y ∷ z ∷ w ∷ v ∷ l) d h e f g k = absurd (omega arith)

pub four-map : {A B C : Type 0} (f : A → B) (g : B → C) (d : A) (l : List A) →
    first_four (λ (x : A). g (f x)) d l ≡ first_four g (f d) (map f l)
four-map {A} {B} {C} f g d l = four_eq (one 0) (one 1) (one 2) (one 3)
  where
    one : (i : ℕ) → g (f (get_or l i d)) ≡ g (get_or (map f l) i (f d))
    one i = ap g (sym (get_or-map f l i d))

pub four-at : {A B : Type 0} (f : A → B) (d : A) (l : List A) (i : ℕ) (e : B) → i < update_limit →
    get_or (first_four f d l) i e ≡ f (get_or l i d)
four-at f d l zero e h = refl
four-at f d l (suc zero) e h = refl
four-at f d l (suc (suc zero)) e h = refl
four-at f d l (suc (suc (suc zero))) e h = refl
four-at f d l (suc (suc (suc (suc i)))) e h = absurd (omega arith)

-- ### What holds of every element

module _ {A : Type 0} where
  pub all_get : (p : A → Bool) (l : List A) (d : A) (i : ℕ) → i < length l → all p l ≡ true → p (get_or l i d) ≡ true
  all_get p [] d i h e = absurd (omega arith)
  all_get p (x ∷ xs) d zero h e = (and_true_parts (p x) (all p xs) e).0
  all_get p (x ∷ xs) d (suc i) h e = all_get p xs d i (omega arith) (and_true_parts (p x) (all p xs) e).1

  pub any_get : (p : A → Bool) (l : List A) (d : A) (i : ℕ) → i < length l → any p l ≡ false → p (get_or l i d) ≡ false
  any_get p [] d i h e = absurd (omega arith)
  any_get p (x ∷ xs) d zero h e = (or_false_parts (p x) (any p xs) e).0
  any_get p (x ∷ xs) d (suc i) h e = any_get p xs d i (omega arith) (or_false_parts (p x) (any p xs) e).1

  pub mem_each : (P : A → Type 0) (l : List A) (d : A) → ((i : ℕ) → i < length l → P (get_or l i d)) → (x : A) → Mem x l → P x
  mem_each P [] d h x m = absurd (Memᴰ.not-nil m)
  mem_each P (y ∷ l) d h x m = cases (Memᴰ.cases_cons m) (mem_each P l d (λ i lt. h (suc i) (omega arith)) x)
    where
      cases : (x ≡ y) ⊎ Mem x l → (Mem x l → P x) → P x
      cases (inl e) below = subst P (sym e) (h 0 (omega arith))
      cases (inr k) below = below k

pub map_same : {A : Type 0} (f : A → A) (l : List A) → ((x : A) → f x ≡ x) → map f l ≡ l
map_same f [] h = refl
map_same {A} f (x ∷ xs) h = ap₂ (λ (y : A) (r : List A). y ∷ r) (h x) (map_same f xs h)
