-- Lists: membership, lists without repeats, prefixes, sums, and the tests `all`, `any`, `keep` of the model.
use Rattle.std.specs.Prelude.{◌≡◌, refl, ◌⊎◌, Bool, true, false, cond, ◌&&◌, ◌||◌, ℕ, zero, suc, ◌+◌, ◌≤◌, ◌<◌, T, length, drop}
use Rattle.std.proofs.Common.{sym, ap, ap₂, ◌∙◌, subst, inl, inr, arith, not-suc-le-zero, le_of_suc-le-suc, length-append}
use mathlib.Core.List.{List, [], ◌∷◌, ◌++◌, append_assoc, append-nil, head-eq_of_cons-eq, tail-eq_of_cons-eq}
use mathlib.Core.List.Memᴰ
use mathlib.Core.List.Memᴰ.{head as here}
use mathlib.Core.List.Memᴰ.{tail as there}
use mathlib.Core.List.{Memᴰ as Mem}
use Rattle.forms.specs.Lists.{all, any, keep, sum}

module _ {A : Type 0} where
  -- ### Prefixes

  abbrev pub Prefix : List A → List A → Type 0
  Prefix p x = (r : List A) × (x ≡ p ++ r)

  -- A prefix of Y ++ d ∷ Z is a prefix of Y, or has d after Y.
  pub mid : (P r Y : List A) (d : A) (Z : List A) → P ++ r ≡ Y ++ d ∷ Z → ((t : List A) × (Y ≡ P ++ t)) ⊎ ((t : List A) × (P ≡ Y ++ d ∷ t))
  mid [] r Y d Z e = inl (Y, refl)
  mid (x ∷ P) r [] d Z e = inr (P, ap (λ (z : A). z ∷ P) (head-eq_of_cons-eq e))
  mid (x ∷ P) r (y ∷ Y) d Z e = step (mid P r Y d Z (tail-eq_of_cons-eq e))
    where
      step : ((t : List A) × (Y ≡ P ++ t)) ⊎ ((t : List A) × (P ≡ Y ++ d ∷ t))
          → ((t : List A) × (y ∷ Y ≡ x ∷ P ++ t)) ⊎ ((t : List A) × (x ∷ P ≡ y ∷ Y ++ d ∷ t))
      step (inl q) = inl (q.0, ap₂ (λ (z : A) (l : List A). z ∷ l) (sym (head-eq_of_cons-eq e)) q.1)
      step (inr q) = inr (q.0, ap₂ (λ (z : A) (l : List A). z ∷ l) (head-eq_of_cons-eq e) q.1)

  -- ### Membership

  pub mem_split : {x : A} {l : List A} → Mem x l → (a : List A) × (b : List A) × (l ≡ a ++ x ∷ b)
  mem_split {x} (here {x = y} {xs = ys} e) = ([], ys, ap (λ (z : A). z ∷ ys) (sym e))
  mem_split {x} (there {x = y} {xs = ys} m) = let q = mem_split m in (y ∷ q.0, q.1, ap {B = List A} (λ l. y ∷ l) q.2)

  pub mem_mid : {x d : A} (a b : List A) → Mem x (a ++ d ∷ b) → (x ≡ d) ⊎ Mem x (a ++ b)
  mem_mid {x} {d} a b m = first (Memᴰ.append_cases a m)
    where
      second : (x ≡ d) ⊎ Mem x b → (x ≡ d) ⊎ Mem x (a ++ b)
      second (inl e) = inl e
      second (inr k) = inr (Memᴰ.append_right a k)

      first : Mem x a ⊎ Mem x (d ∷ b) → (x ≡ d) ⊎ Mem x (a ++ b)
      first (inl k) = inr (Memᴰ.append_left b k)
      first (inr k) = second (Memᴰ.cases_cons k)

  pub mem-at : (d : A) (a b : List A) → Mem d (a ++ d ∷ b)
  mem-at d a b = Memᴰ.append_right a (here refl)

  pub mem_widen : {x : A} (d : A) (a b : List A) → Mem x (a ++ b) → Mem x (a ++ d ∷ b)
  mem_widen {x} d a b m = first (Memᴰ.append_cases a m)
    where
      first : Mem x a ⊎ Mem x b → Mem x (a ++ d ∷ b)
      first (inl k) = Memᴰ.append_left (d ∷ b) k
      first (inr k) = Memᴰ.append_right a (there k)

  pub mem_along : {x : A} {l k : List A} → l ≡ k → Mem x l → Mem x k
  mem_along {x} e m = subst (λ (z : List A). Mem x z) e m

  pub mem_snoc : {x d : A} (a : List A) → Mem x (a ++ d ∷ []) → (x ≡ d) ⊎ Mem x a
  mem_snoc {x} {d} a m = fix (mem_mid a [] m)
    where
      fix : (x ≡ d) ⊎ Mem x (a ++ []) → (x ≡ d) ⊎ Mem x a
      fix (inl e) = inl e
      fix (inr k) = inr (mem_along (append-nil a) k)

  -- ### Lists without repeats

  abbrev pub Nodup : List A → Type 0
  Nodup [] = Unit {0}
  Nodup (x ∷ l) = (Mem x l → ⊥) × Nodup l

  pub nodup_mid : (a : List A) (d : A) (b : List A) → Nodup (a ++ d ∷ b) → (Mem d (a ++ b) → ⊥) × Nodup (a ++ b)
  nodup_mid [] d b h = h
  nodup_mid (x ∷ a) d b h = go (nodup_mid a d b h.1)
    where
      go : (Mem d (a ++ b) → ⊥) × Nodup (a ++ b) → (Mem d (x ∷ a ++ b) → ⊥) × Nodup (x ∷ a ++ b)
      go below = (λ m. cases (Memᴰ.cases_cons m), (λ m. h.0 (mem_widen d a b m), below.1))
        where
          cases : (d ≡ x) ⊎ Mem d (a ++ b) → ⊥
          cases (inl e) = h.0 (Memᴰ.cast (sym e) (mem-at d a b))
          cases (inr m) = below.0 m

  pub nodup_right : (a b : List A) → Nodup (a ++ b) → Nodup b
  nodup_right [] b h = h
  nodup_right (x ∷ a) b h = nodup_right a b h.1

  pub nodup_left : (a b : List A) → Nodup (a ++ b) → Nodup a
  nodup_left [] b h = tt
  nodup_left (x ∷ a) b h = (λ m. h.0 (Memᴰ.append_left b m), nodup_left a b h.1)

  pub nodup_apart : {x : A} (a : List A) {b : List A} → Nodup (a ++ b) → Mem x a → Mem x b → ⊥
  nodup_apart [] h m k = Memᴰ.not-nil m
  nodup_apart {x} (y ∷ a) {b} h m k = cases (Memᴰ.cases_cons m) (λ m'. nodup_apart a h.1 m' k)
    where
      cases : (x ≡ y) ⊎ Mem x a → (Mem x a → ⊥) → ⊥
      cases (inl e) below = h.0 (Memᴰ.append_right a (Memᴰ.cast (sym e) k))
      cases (inr m') below = below m'

  pub nodup_append : (a b : List A) → Nodup a → Nodup b → ((x : A) → Mem x a → Mem x b → ⊥) → Nodup (a ++ b)
  nodup_append [] b ha hb apart = hb
  nodup_append (x ∷ a) b ha hb apart = (λ m. cases (Memᴰ.append_cases a m), nodup_append a b ha.1 hb (λ y m k. apart y (there m) k))
    where
      cases : Mem x a ⊎ Mem x b → ⊥
      cases (inl m) = ha.0 m
      cases (inr m) = apart x (here refl) m

  pub nodup_snoc : (a : List A) (d : A) → Nodup a → (Mem d a → ⊥) → Nodup (a ++ d ∷ [])
  nodup_snoc a d h fresh = nodup_append a (d ∷ []) h (Memᴰ.not-nil, tt) (λ x m k. cases x m (Memᴰ.cases_cons k))
    where
      cases : (x : A) → Mem x a → (x ≡ d) ⊎ Mem x [] → ⊥
      cases x m (inl e) = fresh (Memᴰ.cast (sym e) m)
      cases x m (inr k) = Memᴰ.not-nil k

  -- ### Prefixes of one list

  pub length_zero : (t : List A) → length t ≡ 0 → t ≡ []
  length_zero [] e = refl
  length_zero (x ∷ t) e = absurd (omega arith)

  module _ (P X Y : List A) (d : A) (Z : List A) (front : Prefix P X) (cut : X ≡ Y ++ d ∷ Z) where
    cases : ((t : List A) × (Y ≡ P ++ t)) ⊎ ((t : List A) × (P ≡ Y ++ d ∷ t))
    cases = mid P front.0 Y d Z (sym front.1 ∙ cut)

    pub prefix_same : length P ≡ length Y → P ≡ Y
    prefix_same e = go cases
      where
        go : ((t : List A) × (Y ≡ P ++ t)) ⊎ ((t : List A) × (P ≡ Y ++ d ∷ t)) → P ≡ Y
        go (inl (t, q)) =
            sym (q ∙ ap {B = List A} (λ l. P ++ l) (length_zero t (omega (arith, length-append P t, ap length q))) ∙ append-nil P)
        go (inr (t, q)) = absurd (omega (arith, length-append Y (d ∷ t), ap length q))

    pub prefix_past : length Y < length P → Mem d P
    prefix_past lt = go cases
      where
        go : ((t : List A) × (Y ≡ P ++ t)) ⊎ ((t : List A) × (P ≡ Y ++ d ∷ t)) → Mem d P
        go (inl (t, q)) = absurd (omega (arith, length-append P t, ap length q))
        go (inr (t, q)) = mem_along (sym q) (mem-at d Y t)

    pub prefix_full : Nodup X → (Mem d P → ⊥) → ((e : A) → Mem e Y → Mem e P) → P ≡ Y
    prefix_full once out inside = go cases
      where
        none : (t : List A) → Y ≡ P ++ t → P ≡ Y
        none [] q = sym (q ∙ append-nil P)
        none (x ∷ t) q =
            absurd (nodup_apart P (subst Nodup q (nodup_left Y (d ∷ Z) (subst Nodup cut once)))
            (inside x (mem_along (sym q) (mem-at x P t))) (here refl))

        go : ((t : List A) × (Y ≡ P ++ t)) ⊎ ((t : List A) × (P ≡ Y ++ d ∷ t)) → P ≡ Y
        go (inl (t, q)) = none t q
        go (inr (t, q)) = absurd (out (mem_along (sym q) (mem-at d Y t)))

    pub prefix_has : Nodup X → Mem d P → (e : A) → Mem e Y → Mem e P
    prefix_has once m e k = go cases
      where
        go : ((t : List A) × (Y ≡ P ++ t)) ⊎ ((t : List A) × (P ≡ Y ++ d ∷ t)) → Mem e P
        go (inl (t, q)) = absurd (nodup_apart Y (subst Nodup cut once) (mem_along (sym q) (Memᴰ.append_left t m)) (here refl))
        go (inr (t, q)) = mem_along (sym q) (Memᴰ.append_left (d ∷ t) k)

  -- ### Sums

  pub sum_mid : (f : A → ℕ) (a : List A) (d : A) (b : List A) → sum f (a ++ d ∷ b) ≡ f d + sum f (a ++ b)
  sum_mid f [] d b = refl
  sum_mid f (x ∷ a) d b = let e = sum_mid f a d b in omega arith

  pub sum-append : (f : A → ℕ) (a b : List A) → sum f (a ++ b) ≡ sum f a + sum f b
  sum-append f [] b = omega arith
  sum-append f (x ∷ a) b = let e = sum-append f a b in omega arith

  -- Some members of a list, each once, weigh no more than the list.
  pub sum-sub : (f : A → ℕ) (xs l : List A) → Nodup xs → ((x : A) → Mem x xs → Mem x l) → sum f xs ≤ sum f l
  sum-sub f [] l h into = omega arith
  sum-sub f (x ∷ xs) l h into =
      let q = mem_split (into x (here refl)) in
      last q.0 q.1 q.2
      (λ a b e. sum-sub f xs (a ++ b) h.1 (λ y m. inside a b e y m (mem_mid a b (mem_along e (into y (there m))))))
    where
      inside : (a b : List A) → l ≡ a ++ x ∷ b → (y : A) → Mem y xs → (y ≡ x) ⊎ Mem y (a ++ b) → Mem y (a ++ b)
      inside a b e y m (inl p) = absurd (h.0 (Memᴰ.cast (sym p) m))
      inside a b e y m (inr k) = k

      last : (a b : List A) → l ≡ a ++ x ∷ b → ((a b : List A) → l ≡ a ++ x ∷ b → sum f xs ≤ sum f (a ++ b)) → f x + sum f xs ≤ sum f l
      last a b e below = let g : sum f xs ≤ sum f (a ++ b) = below a b e in omega (arith, sum_mid f a x b, ap (sum f) e)

  pub sum_one : (l : List A) → sum (λ (x : A). 1) l ≡ length l
  sum_one [] = refl
  sum_one (x ∷ l) = let e = sum_one l in omega arith

-- ### Tests

pub T_true : (b : Bool) → T b → b ≡ true
T_true true t = refl
T_true false t = absurd t

pub true_T : (b : Bool) → b ≡ true → T b
true_T b e = subst T (sym e) tt

pub false_T : (b : Bool) → b ≡ false → T b → ⊥
false_T b e t = subst T e t

pub T_false : (b : Bool) → (T b → ⊥) → b ≡ false
T_false true h = absurd (h tt)
T_false false h = refl

pub and_intro : (a b : Bool) → T a → T b → T (a && b)
and_intro true b s t = t
and_intro false b s t = s

pub and_left : (a b : Bool) → T (a && b) → T a
and_left true b t = tt
and_left false b t = t

pub and_right : (a b : Bool) → T (a && b) → T b
and_right true b t = t
and_right false b t = absurd t

pub or_cases : (a b : Bool) → T (a || b) → T a ⊎ T b
or_cases true b t = inl tt
or_cases false b t = inr t

pub or_left : (a b : Bool) → T a → T (a || b)
or_left true b t = tt
or_left false b t = absurd t

pub or_right : (a b : Bool) → T b → T (a || b)
or_right true b t = tt
or_right false b t = t

module _ {A : Type 0} (f : A → Bool) where
  pub all-at : (l : List A) → T (all f l) → (x : A) → Mem x l → T (f x)
  all-at [] t x m = absurd (Memᴰ.not-nil m)
  all-at (y ∷ l) t x m = cases (Memᴰ.cases_cons m) (λ k. all-at l (and_right (f y) (all f l) t) x k)
    where
      cases : (x ≡ y) ⊎ Mem x l → (Mem x l → T (f x)) → T (f x)
      cases (inl e) below = subst (λ (z : A). T (f z)) (sym e) (and_left (f y) (all f l) t)
      cases (inr k) below = below k

  pub all_of : (l : List A) → ((x : A) → Mem x l → T (f x)) → T (all f l)
  all_of [] h = tt
  all_of (y ∷ l) h = and_intro (f y) (all f l) (h y (here refl)) (all_of l (λ x m. h x (there m)))

  pub any_at : (l : List A) → T (any f l) → (x : A) × Mem x l × T (f x)
  any_at [] t = absurd t
  any_at (y ∷ l) t = cases (or_cases (f y) (any f l) t) (λ k. any_at l k)
    where
      up : (x : A) × Mem x l × T (f x) → (x : A) × Mem x (y ∷ l) × T (f x)
      up q = (q.0, there q.1, q.2)

      cases : T (f y) ⊎ T (any f l) → (T (any f l) → (x : A) × Mem x l × T (f x)) → (x : A) × Mem x (y ∷ l) × T (f x)
      cases (inl k) below = (y, here refl, k)
      cases (inr k) below = up (below k)

  pub any_of : {x : A} {l : List A} → Mem x l → T (f x) → T (any f l)
  any_of (here {x = y} {xs = l} e) t = or_left (f y) (any f l) (subst (λ (z : A). T (f z)) e t)
  any_of (there {x = y} {xs = l} m) t = or_right (f y) (any f l) (any_of m t)

  pub keep_append : (a b : List A) → keep f (a ++ b) ≡ keep f a ++ keep f b
  keep_append [] b = refl
  keep_append (x ∷ a) b = go (f x) (keep_append a b)
    where
      go : (t : Bool) → keep f (a ++ b) ≡ keep f a ++ keep f b
          → cond t (x ∷ keep f (a ++ b)) (keep f (a ++ b)) ≡ cond t (x ∷ keep f a) (keep f a) ++ keep f b
      go true e = ap {B = List A} (λ l. x ∷ l) e
      go false e = e

  pub keep_all : (l : List A) → ((x : A) → Mem x l → T (f x)) → keep f l ≡ l
  keep_all [] h = refl
  keep_all (x ∷ l) h = rw (T_true (f x) (h x (here refl))) (ap {B = List A} (λ k. x ∷ k) (keep_all l (λ y m. h y (there m))))

  pub keep_none : (l : List A) → ((x : A) → Mem x l → T (f x) → ⊥) → keep f l ≡ []
  keep_none [] h = refl
  keep_none (x ∷ l) h = rw (T_false (f x) (h x (here refl))) (keep_none l (λ y m. h y (there m)))

  pub mem-keep : {x : A} {l : List A} → Mem x l → T (f x) → Mem x (keep f l)
  mem-keep {x} (here {x = y} {xs = l} e) t = rw (T_true (f y) (subst (λ (z : A). T (f z)) e t)) (here e)
  mem-keep {x} (there {x = y} {xs = l} m) t = go (f y) (mem-keep m t)
    where
      go : (b : Bool) → Mem x (keep f l) → Mem x (cond b (y ∷ keep f l) (keep f l))
      go true k = there k
      go false k = k

  pub mem_of_keep : {x : A} (l : List A) → Mem x (keep f l) → Mem x l × T (f x)
  mem_of_keep [] m = absurd (Memᴰ.not-nil m)
  mem_of_keep {x} (y ∷ l) m = go (f y) refl m (λ k. mem_of_keep l k)
    where
      up : Mem x l × T (f x) → Mem x (y ∷ l) × T (f x)
      up q = (there q.0, q.1)

      cases : T (f y) → (x ≡ y) ⊎ Mem x (keep f l) → (Mem x (keep f l) → Mem x l × T (f x)) → Mem x (y ∷ l) × T (f x)
      cases t (inl e) below = (here e, subst (λ (z : A). T (f z)) (sym e) t)
      cases t (inr k) below = up (below k)

      go : (b : Bool) → f y ≡ b → Mem x (cond b (y ∷ keep f l) (keep f l)) → (Mem x (keep f l) → Mem x l × T (f x))
          → Mem x (y ∷ l) × T (f x)
      go true e k below = cases (true_T (f y) e) (Memᴰ.cases_cons k) below
      go false e k below = up (below k)

  pub nodup_keep : (l : List A) → Nodup l → Nodup (keep f l)
  nodup_keep [] h = tt
  nodup_keep (x ∷ l) h = go (f x) (nodup_keep l h.1)
    where
      go : (b : Bool) → Nodup (keep f l) → Nodup (cond b (x ∷ keep f l) (keep f l))
      go true k = (λ m. h.0 (mem_of_keep l m).0, k)
      go false k = k

module _ {A : Type 0} where
  pub mem_of_drop : {x : A} (s : ℕ) (l : List A) → Mem x (drop s l) → Mem x l
  mem_of_drop zero l m = m
  mem_of_drop (suc s) [] m = m
  mem_of_drop (suc s) (y ∷ l) m = there (mem_of_drop s l m)

  -- What is left past more is left past less.
  pub mem-drop_less : {x : A} (s t : ℕ) → s ≤ t → (l : List A) → Mem x (drop t l) → Mem x (drop s l)
  mem-drop_less zero t le l m = mem_of_drop t l m
  mem-drop_less (suc s) zero le l m = absurd (not-suc-le-zero le)
  mem-drop_less (suc s) (suc t) le [] m = m
  mem-drop_less (suc s) (suc t) le (y ∷ l) m = mem-drop_less s t (le_of_suc-le-suc le) l m

  -- Two lists that begin a third one: the shorter begins the longer.
  pub append_split : (k r p s : List A) → k ++ r ≡ p ++ s → length k ≤ length p → (t : List A) × (p ≡ k ++ t) × (r ≡ t ++ s)
  append_split [] r p s e le = (p, refl, e)
  append_split (x ∷ k) r [] s e le = absurd (not-suc-le-zero le)
  append_split (x ∷ k) r (y ∷ p) s e le = go (append_split k r p s (tail-eq_of_cons-eq e) (le_of_suc-le-suc le))
    where
      go : (t : List A) × (p ≡ k ++ t) × (r ≡ t ++ s) → (t : List A) × (y ∷ p ≡ x ∷ k ++ t) × (r ≡ t ++ s)
      go (t, q, z) = (t, ap₂ (λ (u : A) (v : List A). u ∷ v) (sym (head-eq_of_cons-eq e)) q, z)

  pub nodup_insert : (a : List A) (d : A) (b : List A) → Nodup (a ++ b) → (Mem d (a ++ b) → ⊥) → Nodup (a ++ d ∷ b)
  nodup_insert [] d b h out = (out, h)
  nodup_insert (x ∷ a) d b h out = (λ m. cases (mem_mid a b m), nodup_insert a d b h.1 (λ m. out (there m)))
    where
      cases : (x ≡ d) ⊎ Mem x (a ++ b) → ⊥
      cases (inl e) = out (here (sym e))
      cases (inr m) = h.0 m

  -- An element may be moved to the front part.
  pub nodup_move : (a b : List A) (d : A) (c : List A) → Nodup (a ++ (b ++ d ∷ c)) → Nodup ((a ++ d ∷ []) ++ (b ++ c))
  nodup_move a b d c h =
      let q = nodup_mid (a ++ b) d c (rw append_assoc h) in
      rw append_assoc (nodup_insert a d (b ++ c) (rw append_assoc at q.1) (λ m. q.0 (rw append_assoc m)))

  pub nodup_sub : (x y z : List A) → Nodup (x ++ y) → Nodup z → ((e : A) → Mem e z → Mem e y) → Nodup (x ++ z)
  nodup_sub x y z h k into = nodup_append x z (nodup_left x y h) k (λ e m q. nodup_apart x h m (into e q))

  pub length-keep : (f : A → Bool) (l : List A) → length (keep f l) ≤ length l
  length-keep f [] = omega arith
  length-keep f (x ∷ l) = go (f x) (length-keep f l)
    where
      go : (b : Bool) → length (keep f l) ≤ length l → length (cond b (x ∷ keep f l) (keep f l)) ≤ suc (length l)
      go true h = omega arith
      go false h = omega arith

  pub length-keep_less : (f : A → Bool) {x : A} {l : List A} → Mem x l → (T (f x) → ⊥) → suc (length (keep f l)) ≤ length l
  length-keep_less f (here {x = y} {xs = l} e) out = rw (T_false (f y) (λ t. out (subst (λ (z : A). T (f z)) (sym e) t)))
      (let h = length-keep f l in omega arith)
  length-keep_less f (there {x = y} {xs = l} m) out = go (f y) (length-keep_less f m out)
    where
      go : (b : Bool) → suc (length (keep f l)) ≤ length l → suc (length (cond b (y ∷ keep f l) (keep f l))) ≤ suc (length l)
      go true h = omega arith
      go false h = omega arith
