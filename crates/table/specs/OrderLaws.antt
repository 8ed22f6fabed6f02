-- Laws of lists of entry numbers: how often a number stands in them, and what a change of places leaves as it was.
use Prim.Native.Nat.{ℕ, zero, suc, ◌+◌, ◌-◌, ◌≤◌, ◌<◌}
use Rattle.std.proofs.Common.{add-one, ◌∙◌, eqb-true, eq-eqb, ltb-true, ltb-false, lt-ltb, le-ltb, length-drop, take-append-drop, take_at, drop_at, length-take-le, get_or-append-add, take-take}
use native.Mathlib.Omega.{arith}
use Rattle.std.proofs.Math.Path.{◌≡◌, refl, sym, ap, ap₂}
use Rattle.std.specs.Prelude.{Bool, ltb}
use Rattle.std.proofs.Math.Bool.{true, false, cond}
use mathlib.Core.List.{List, [], ◌∷◌, ◌++◌, map, append_assoc}
use Rattle.std.proofs.lemmas.Bool.{eqb-false}
use Rattle.std.proofs.Math.Arith.{lt_of_le-ne}
use Rattle.std.proofs.Math.Dec.{eqb}
use Rattle.std.proofs.Math.ListN.{length, get_or, take, drop, length-append, get_or-append}
use Rattle.std.proofs.Math.Seq.{append_snoc}
use Rattle.std.proofs.lemmas.List.{take-append-le, drop-append-le}
use Rattle.forms.specs.Lists.{below}
use Rattle.table.specs.Lists.{omit}
use Rattle.table.specs.Order.{tally, moved, turned}

-- ### How often a number stands in a list

module _ (e : ℕ) where
  pub tally-append : (a b : List ℕ) → tally e (a ++ b) ≡ tally e a + tally e b
  unfolding tally
  tally-append [] b = omega arith
  tally-append (x ∷ a) b = omega (arith, tally-append a b)

  -- a list that begins with it
  pub tally_head : (l : List ℕ) → tally e (e ∷ l) ≡ 1 + tally e l
  unfolding tally
  tally_head l = ap (λ (t : Bool). cond t 1 0 + tally e l) (eq-eqb e e refl)

  -- the list of it alone
  pub tally-one : tally e (e ∷ []) ≡ 1
  unfolding tally
  tally-one = tally_head []

  -- one number more in front, or behind
  pub tally-cons : (x : ℕ) (l : List ℕ) → tally e (x ∷ l) ≡ tally e (x ∷ []) + tally e l
  unfolding tally
  tally-cons x l = omega arith

  pub tally_snoc : (l : List ℕ) (x : ℕ) → tally e (l ++ (x ∷ [])) ≡ tally e l + tally e (x ∷ [])
  tally_snoc l x = tally-append l (x ∷ [])

  pub tally-parts : (k : ℕ) (l : List ℕ) → tally e l ≡ tally e (take k l) + tally e (drop k l)
  tally-parts k l = ap (tally e) (sym (take-append-drop k l)) ∙ tally-append (take k l) (drop k l)

  pub tally-omit : (k : ℕ) (l : List ℕ) → k < length l → tally e l ≡ tally e (omit k l) + tally e (get_or l k 0 ∷ [])
  unfolding tally omit
  tally-omit k [] h = absurd (omega arith)
  tally-omit zero (x ∷ l) h = omega arith
  tally-omit (suc k) (x ∷ l) h = omega (arith, tally-omit k l (omega arith))

  -- another number alone
  pub tally-other : (x : ℕ) → (x ≡ e → ⊥) → tally e (x ∷ []) ≡ 0
  unfolding tally
  tally-other x ne = go (eqb x e) refl
    where
      go : (b : Bool) → eqb x e ≡ b → cond (eqb x e) 1 0 + 0 ≡ 0
      go true q = absurd (ne (eqb-true x e q))
      go false q = ap (λ (t : Bool). cond t 1 0 + 0) q

  -- No number is lost or doubled by a change of places.
  pub tally-moved : (i j : ℕ) (l : List ℕ) → i < length l → tally e (moved i j l) ≡ tally e l
  unfolding moved
  tally-moved i j l h =
      let w = omit i l in
      let x = get_or l i 0 in
      omega (arith, tally-append (take j w) (x ∷ drop j w), tally-cons x (drop j w), tally-parts j w, tally-omit i l h)

  pub tally-turned : (k n : ℕ) (l : List ℕ) → k ≤ n → tally e (turned k n l) ≡ tally e l
  unfolding turned
  tally-turned k n l h =
      let a = take n l in
      omega (
        arith,
        tally-append (drop k a) (take k l ++ drop n l),
        tally-append (take k l) (drop n l),
        ap (tally e) (take-take k n l h),
        tally-parts k a,
        tally-parts n l,
      )

-- the number at k stands in the list
pub tally-at : (k : ℕ) (l : List ℕ) → k < length l → 1 ≤ tally (get_or l k 0) l
tally-at k l h = let e = get_or l k 0 in omega (arith, tally-omit e k l h, tally-one e)

-- Where a number stands in a list.
pub record Stands (e : ℕ) (l : List ℕ) : Type 0 where
  pub place : ℕ
  pub low : place < length l
  pub is : get_or l place 0 ≡ e

-- a number that stands in the list has a place
pub stands : (e : ℕ) (l : List ℕ) → 1 ≤ tally e l → Stands e l
unfolding tally
stands e [] h = absurd (omega arith)
stands e (x ∷ l) h = go (eqb x e) refl (λ m. stands e l m)
  where
    go : (b : Bool) → eqb x e ≡ b → (1 ≤ tally e l → Stands e l) → Stands e (x ∷ l)
    go true q f = record { place = 0; low = omega arith; is = eqb-true x e q }
    go false q f =
        let t : tally e (x ∷ l) ≡ 0 + tally e l = ap (λ (b : Bool). cond b 1 0 + tally e l) q in
        let s = f (omega (arith, t, h)) in
        record { place = suc s.place; low = omega (arith, s.low); is = s.is }

-- ### Lengths

pub length-omit : {A : Type 0} (k : ℕ) (l : List A) → k < length l → length (omit k l) + 1 ≡ length l
unfolding omit
length-omit k [] h = absurd (omega arith)
length-omit zero (x ∷ l) h = omega arith
length-omit (suc k) (x ∷ l) h = omega (arith, length-omit k l (omega arith))

pub length_moved : (i j : ℕ) (l : List ℕ) → i < length l → length (moved i j l) ≡ length l
unfolding moved
length_moved i j l h =
    let w = omit i l in
    let x = get_or l i 0 in
    let parts = ap (λ (k : List ℕ). length k) (take-append-drop j w) in
    omega (arith, length-append (take j w) (x ∷ drop j w), length-append (take j w) (drop j w), parts, length-omit i l h)

pub length-turned : (k n : ℕ) (l : List ℕ) → k ≤ n → n ≤ length l → length (turned k n l) ≡ length l
unfolding turned
length-turned k n l h g =
    let a = take n l in
    omega (
      arith,
      length-append (drop k a) (take k l ++ drop n l),
      length-append (take k l) (drop n l),
      length-take-le n l g,
      length-take-le k l (omega arith),
      length-drop k a,
      length-drop n l,
    )

-- Lists in which each number stands as often are of the same length.
pub same_length : (a b : List ℕ) → ((e : ℕ) → tally e a ≡ tally e b) → length a ≡ length b
unfolding tally
same_length [] b same = none b same
  where
    none : (b : List ℕ) → ((e : ℕ) → tally e [] ≡ tally e b) → 0 ≡ length b
    none [] same = refl
    none (x ∷ b) same = absurd (omega (arith, same x, tally_head x b))
same_length (x ∷ a) b same =
    let s = stands x b (omega (arith, same x, tally_head x a)) in
    let k = s.place in
    let rest : (e : ℕ) → tally e a ≡ tally e (omit k b) =
    λ e. omega (arith, same e, tally-cons e x a, tally-omit e k b s.low, ap (λ (y : ℕ). tally e (y ∷ [])) s.is) in
    omega (arith, same_length a (omit k b) rest, length-omit k b s.low)

-- ### Lists in parts

module _ {A : Type 0} where
  -- the list without its element at k, as what stands before it and what stands behind it
  pub omit-parts : (k : ℕ) (l : List A) → omit k l ≡ take k l ++ drop (k + 1) l
  unfolding omit
  omit-parts k l = go k l ∙ ap (λ (m : ℕ). take k l ++ drop m l) (sym (add-one k))
    where
      nothing : (k : ℕ) → ◌≡◌ {A = List A} [] (take k [] ++ drop (suc k) [])
      nothing zero = refl
      nothing (suc k) = refl

      go : (k : ℕ) (l : List A) → omit k l ≡ take k l ++ drop (suc k) l
      go k [] = nothing k
      go zero (x ∷ l) = refl
      go (suc k) (x ∷ l) = ap (λ (r : List A). x ∷ r) (go k l)

  -- an element of the second of two parts, and one of the first
  pub omit-second : (a b : List A) (n i : ℕ) → length a ≡ n → omit (n + i) (a ++ b) ≡ a ++ omit i b
  unfolding omit
  omit-second a b n i e = ap (λ (k : ℕ). omit (k + i) (a ++ b)) (sym e) ∙ go a
    where
      go : (a : List A) → omit (length a + i) (a ++ b) ≡ a ++ omit i b
      go [] = ap (λ (k : ℕ). omit k b) (let z : 0 + i ≡ i = omega arith in z)
      go (x ∷ a) =
          ap (λ (k : ℕ). omit k (x ∷ (a ++ b))) (let z : suc (length a) + i ≡ suc (length a + i) = omega arith in z)
          ∙ ap (λ (r : List A). x ∷ r) (go a)

  pub omit-first : (a b : List A) (i : ℕ) → i < length a → omit i (a ++ b) ≡ omit i a ++ b
  unfolding omit
  omit-first [] b i h = absurd (omega arith)
  omit-first (x ∷ a) b zero h = refl
  omit-first (x ∷ a) b (suc i) h = ap (λ (r : List A). x ∷ r) (omit-first a b i (omega arith))

  pub get_d_second : (a b : List A) (n i : ℕ) (d : A) → length a ≡ n → get_or (a ++ b) (n + i) d ≡ get_or b i d
  get_d_second a b n i d e = ap (λ (k : ℕ). get_or (a ++ b) (k + i) d) (sym e) ∙ get_or-append-add a b i d

  -- the first m elements, of which the first n
  pub take-parts : (l : List A) (n m : ℕ) → n ≤ m → take n l ++ drop n (take m l) ≡ take m l
  take-parts l n m h = ap (λ (a : List A). a ++ drop n (take m l)) (sym (take-take n m l h)) ∙ take-append-drop n (take m l)

  pub length_part : (l : List A) (n m : ℕ) → m ≤ length l → length (drop n (take m l)) ≡ m - n
  length_part l n m h = length-drop n (take m l) ∙ ap (λ (k : ℕ). k - n) (length-take-le m l h)

module _ {A B : Type 0} (f : A → B) where
  pub map-take : (k : ℕ) (l : List A) → map f (take k l) ≡ take k (map f l)
  map-take zero l = refl
  map-take (suc k) [] = refl
  map-take (suc k) (x ∷ l) = ap (λ (r : List B). f x ∷ r) (map-take k l)

  pub map-drop : (k : ℕ) (l : List A) → map f (drop k l) ≡ drop k (map f l)
  map-drop zero l = refl
  map-drop (suc k) [] = refl
  map-drop (suc k) (x ∷ l) = map-drop k l

-- A number of the second of three parts goes to the end of the first, or to the beginning of the third.
module _ (a b c : List ℕ) (n i : ℕ) (long : length a ≡ n) (h : i < length b) where
  abbrev rest : List ℕ
  rest = take i b ++ drop (i + 1) b

  -- the list without it, and the number
  without : omit (n + i) (a ++ (b ++ c)) ≡ a ++ (rest ++ c)
  without =
      omit-second a (b ++ c) n i long
      ∙ ap (λ (r : List ℕ). a ++ r) (omit-first b c i h)
      ∙ ap (λ (r : List ℕ). a ++ (r ++ c)) (omit-parts i b)

  taken : get_or (a ++ (b ++ c)) (n + i) 0 ≡ get_or b i 0
  taken = get_d_second a (b ++ c) n i 0 long ∙ get_or-append b c 0 i h

  pub moved-forward : moved (n + i) n (a ++ (b ++ c)) ≡ (a ++ (get_or b i 0 ∷ [])) ++ (rest ++ c)
  unfolding moved
  moved-forward =
      ap₂ (λ (w : List ℕ) (x : ℕ). take n w ++ (x ∷ drop n w)) without taken
      ∙ ap₂ (λ (u v : List ℕ). u ++ (get_or b i 0 ∷ v)) (take_at a (rest ++ c) n long) (drop_at a (rest ++ c) n long)
      ∙ sym (append_snoc a (get_or b i 0) (rest ++ c))

  pub moved_back : (m : ℕ) → n + length b ≡ m + 1 → moved (n + i) m (a ++ (b ++ c)) ≡ a ++ (rest ++ (get_or b i 0 ∷ c))
  unfolding moved
  moved_back m e =
      let few : length (a ++ rest) ≡ m =
      omega (arith, length-append a rest, long, e, length-omit i b h, ap (λ (l : List ℕ). length l) (omit-parts i b)) in
      ap₂ (λ (w : List ℕ) (x : ℕ). take m w ++ (x ∷ drop m w)) (without ∙ sym (append_assoc a rest c)) taken
      ∙ ap₂ (λ (u v : List ℕ). u ++ (get_or b i 0 ∷ v)) (take_at (a ++ rest) c m few) (drop_at (a ++ rest) c m few)
      ∙ append_assoc a rest (get_or b i 0 ∷ c)

-- The first k numbers of three parts go behind the second.
pub turned-parts : (a b c : List ℕ) (k n : ℕ) → k ≤ length a → length a + length b ≡ n
    → turned k n (a ++ (b ++ c)) ≡ drop k a ++ (b ++ (take k a ++ c))
unfolding turned
turned-parts a b c k n h e =
    let long : length (a ++ b) ≡ n = length-append a b ∙ e in
    let q : a ++ (b ++ c) ≡ (a ++ b) ++ c = sym (append_assoc a b c) in
    ap₂ (λ (u v : List ℕ). drop k u ++ (take k (a ++ (b ++ c)) ++ v)) (ap (take n) q ∙ take_at (a ++ b) c n long)
    (ap (drop n) q ∙ drop_at (a ++ b) c n long)
    ∙ ap₂ (λ (u v : List ℕ). u ++ (v ++ c)) (drop-append-le k a b h) (take-append-le k a (b ++ c) h)
    ∙ append_assoc (drop k a) b (take k a ++ c)

-- ### The numbers below n

abbrev bit : Bool → ℕ
bit b = cond b 1 0

-- each stands there once
pub tally-below : (e n : ℕ) → tally e (below n) ≡ cond (ltb e n) 1 0
unfolding below tally
tally-below e zero = sym (ap bit (le-ltb e 0 (omega arith)))
tally-below e (suc n) = tally_snoc e (below n) n ∙ go (ltb e n) refl (eqb n e) refl (tally-below e n)
  where
    one : (c : Bool) → eqb n e ≡ c → tally e (n ∷ []) ≡ cond c 1 0 + 0
    one c q = ap (λ (b : Bool). cond b 1 0 + 0) q

    last : (b : Bool) → ltb e (suc n) ≡ b → bit (ltb e (suc n)) ≡ bit b
    last b q = ap bit q

    go : (b : Bool) → ltb e n ≡ b → (c : Bool) → eqb n e ≡ c → tally e (below n) ≡ cond (ltb e n) 1 0
        → tally e (below n) + tally e (n ∷ []) ≡ cond (ltb e (suc n)) 1 0
    go true p true q h = absurd (omega (arith, ltb-true e n p, eqb-true n e q))
    go true p false q h = omega (arith, h, ap bit p, one false q, last true (lt-ltb e (suc n) (omega (arith, ltb-true e n p))))
    go false p true q h = omega (arith, h, ap bit p, one true q, last true (lt-ltb e (suc n) (omega (arith, eqb-true n e q))))
    go false p false q h =
        let ne : suc n ≤ e = lt_of_le-ne (ltb-false e n p) (eqb-false n e q) in
        omega (arith, h, ap bit p, one false q, last false (le-ltb e (suc n) ne))
