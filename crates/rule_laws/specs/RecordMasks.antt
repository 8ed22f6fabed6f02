-- Masks of 8 bits and the sites that they stand for (02, (e)): a mask's ones are its sites, `and` is what two have in common, `or` with one
-- bit is one site more.
use Rattle.std.specs.Prelude.{◌≡◌, refl, Bool, true, false, cond, not, ◌&&◌, ◌||◌, ◌⊎◌, List, [], ◌∷◌, ◌++◌, ℕ, zero, suc, ◌/◌, ◌%◌, ◌^◌, ◌<◌, T, ltb, eqb, length}
use Rattle.std.proofs.Common.{sym, ap, ◌∙◌, inl, inr, arith, eqb→eq, ltb-true, eq-eqb, ne_eqb}
use mathlib.Core.List.Memᴰ
use mathlib.Core.List.{Memᴰ as Mem}
use Rattle.std.proofs.Math.Dec.{eqb_refl}
use Rattle.std.specs.Int.Bits.{bit_and, bit_or, and_zero_l, and_zero_r, and_self, or_zero_l, or_zero_r, or_self}
use Rattle.std.proofs.lemmas.Nat.{and_shr, or_shr, and_mod, or_mod, and_le_l}
use Rattle.std.specs.Int.Count.{ones_in, ones}
use Rattle.forms.specs.Lists.{all, any, keep, sum, below}
use Rattle.forms.specs.ListLaws.{T_true, T_false, true_T, false_T, all-at, any_at, any_of, mem-at, mem_snoc, mem-keep, mem_of_keep}
use Rattle.forms.specs.ListLaws.{keep_all, length-keep_less}
use Rattle.rule_laws.specs.CheckLaws.{not-lt}
use Rattle.rules.specs.Keeper.{same_bytes}
use Rattle.rules.proofs.Examples.{same_bytes_lem}
use Rattle.rules.specs.Records.{is_in, sites_of, with_site, full_not_sent}
use Rattle.rule_laws.specs.RecordLaws.{keep_agree}

-- whether a site's bit is set
abbrev pub has : ℕ → ℕ → Bool
has m s = eqb (m / (2 ^ s) % 2) 1

-- ### Bits

low_and : (p q : ℕ) → p < 2 → q < 2 → eqb (bit_and p q) 1 ≡ (eqb p 1 && eqb q 1)
low_and zero q h k = ap (λ (n : ℕ). eqb n 1) (and_zero_l q)
low_and (suc zero) zero h k = ap (λ (n : ℕ). eqb n 1) (and_zero_r 1)
low_and (suc zero) (suc zero) h k = ap (λ (n : ℕ). eqb n 1) (and_self 1)
low_and (suc zero) (suc (suc q)) h k = absurd (omega arith)
low_and (suc (suc p)) q h k = absurd (omega arith)

low_or : (p q : ℕ) → p < 2 → q < 2 → eqb (bit_or p q) 1 ≡ (eqb p 1 || eqb q 1)
low_or zero q h k = ap (λ (n : ℕ). eqb n 1) (or_zero_l q)
low_or (suc zero) zero h k = ap (λ (n : ℕ). eqb n 1) (or_zero_r 1)
low_or (suc zero) (suc zero) h k = ap (λ (n : ℕ). eqb n 1) (or_self 1)
low_or (suc zero) (suc (suc q)) h k = absurd (omega arith)
low_or (suc (suc p)) q h k = absurd (omega arith)

pub and-has : (a b s : ℕ) → has (bit_and a b) s ≡ (has a s && has b s)
and-has a b s =
    ap (λ (n : ℕ). eqb (n % 2) 1) (and_shr a b s)
    ∙ ap (λ (n : ℕ). eqb n 1) (and_mod (a / (2 ^ s)) (b / (2 ^ s)) 1)
    ∙ low_and (a / (2 ^ s) % 2) (b / (2 ^ s) % 2) (omega arith) (omega arith)

pub or-has : (a b s : ℕ) → has (bit_or a b) s ≡ (has a s || has b s)
or-has a b s =
    ap (λ (n : ℕ). eqb (n % 2) 1) (or_shr a b s)
    ∙ ap (λ (n : ℕ). eqb n 1) (or_mod (a / (2 ^ s)) (b / (2 ^ s)) 1)
    ∙ low_or (a / (2 ^ s) % 2) (b / (2 ^ s) % 2) (omega arith) (omega arith)

-- ### Lists

mem_below : (n k : ℕ) → k < n → Mem k (below n)
unfolding below
mem_below zero k h = absurd (omega arith)
mem_below (suc n) k h = go (ltb k n) refl (mem_below n k)
  where
    go : (b : Bool) → ltb k n ≡ b → (k < n → Mem k (below n)) → Mem k (below n ++ (n ∷ []))
    go true e rest = Memᴰ.append_left (n ∷ []) (rest (ltb-true k n e))
    go false e rest = let le = not-lt k n e in let z : k ≡ n = omega arith in Memᴰ.cast z (mem-at n (below n) [])

below-lt : (n k : ℕ) → Mem k (below n) → k < n
unfolding below
below-lt zero k m = absurd (Memᴰ.not-nil m)
below-lt (suc n) k m = go (mem_snoc (below n) m) (below-lt n k)
  where
    go : (k ≡ n) ⊎ Mem k (below n) → (Mem k (below n) → k < n) → k < suc n
    go (inl e) rest = omega arith
    go (inr q) rest = let h = rest q in omega arith

module _ {A : Type 0} (f g : A → Bool) where
  keep-keep : (l : List A) → keep g (keep f l) ≡ keep (λ x. f x && g x) l
  keep-keep [] = refl
  keep-keep (x ∷ l) = go (f x) (keep-keep l)
    where
      go : (b : Bool) → keep g (keep f l) ≡ keep (λ y. f y && g y) l
          → keep g (cond b (x ∷ keep f l) (keep f l)) ≡ cond (b && g x) (x ∷ keep (λ y. f y && g y) l) (keep (λ y. f y && g y) l)
      go true e = rw e
      go false e = e

-- ### Masks

-- whether a site is one of a mask's
pub mask_site : (m s : ℕ) → s < 8 → is_in s (sites_of m) ≡ has m s
unfolding sites_of
mask_site m s h = go (has m s) refl
  where
    along : (x : ℕ) → s ≡ x → T (has m x) → T (has m s)
    along x p t = rw p t

    go : (b : Bool) → has m s ≡ b → is_in s (keep (has m) (below 8)) ≡ b
    go true e = T_true _ (any_of (eqb s) (mem-keep (has m) (mem_below 8 s h) (true_T _ e)) (eqb_refl s))
    go false e =
        T_false (is_in s (keep (has m) (below 8)))
        (λ t. let q = any_at (eqb s) (keep (has m) (below 8)) t in
        false_T (has m s) e (along q.0 (eqb→eq s q.0 q.2) (mem_of_keep (has m) (below 8) q.1).1))

-- The sites that two masks have in common.
pub mask_common : (a b : ℕ) → keep (λ s. is_in s (sites_of b)) (sites_of a) ≡ sites_of (bit_and a b)
unfolding sites_of
mask_common a b =
    keep-keep (has a) (λ (s : ℕ). is_in s (keep (has b) (below 8))) (below 8)
    ∙ keep_agree (λ (s : ℕ). has a s && is_in s (keep (has b) (below 8))) (has (bit_and a b)) (below 8)
    (λ s m. ap (λ (x : Bool). has a s && x) (mask_site b s (below-lt 8 s m)) ∙ sym (and-has a b s))

-- what holds of each number below a limit, by a table
by_table : (n : ℕ) (f : ℕ → Bool) → T (all f (below n)) → (m : ℕ) → m < n → T (f m)
by_table n f t m h = all-at f (below n) t m (mem_below n m h)

-- whether a mask has as many ones as sites
abbrev ones_agree : ℕ → Bool
ones_agree m = eqb (ones m) (length (sites_of m))

ones_table : T (all ones_agree (below 256))
ones_table = unfold below ones ones_in sites_of in tt

-- "Ones of the mask": how many sites it has.
pub mask_ones : (m : ℕ) → m < 256 → length (sites_of m) ≡ ones m
mask_ones m h = sym (eqb→eq (ones m) (length (sites_of m)) (by_table 256 ones_agree ones_table m h))

-- "Ones of the mask of full and persistent copies": how many full copies have reported.
pub mask_reports : (full reported : ℕ) → full < 256
    → length (keep (λ s. is_in s (sites_of reported)) (sites_of full)) ≡ ones (bit_and full reported)
mask_reports full reported h =
    ap length (mask_common full reported)
    ∙ mask_ones (bit_and full reported) (let le = and_le_l full reported in omega arith)

unfoldable alike : Bool → Bool → Bool
alike true b = b
alike false b = not b

alike_is : (a b : Bool) → T (alike a b) → a ≡ b
unfolding alike
alike_is true true t = refl
alike_is true false t = absurd t
alike_is false true t = absurd t
alike_is false false t = refl

-- whether site x has the bit of site s just if it is that site
abbrev one_bit : ℕ → ℕ → Bool
one_bit s x = alike (has (2 ^ s) x) (eqb x s)

pow_table : T (all (λ (s : ℕ). all (one_bit s) (below 8)) (below 8))
unfolding alike
pow_table = unfold below in tt

-- the sites of a mask, and one more
abbrev one_more : ℕ → ℕ → List ℕ
one_more m s = keep (λ x. has m x || eqb x s) (below 8)

abbrev adds_site : ℕ → ℕ → Bool
adds_site m s = same_bytes (with_site s (sites_of m)) (one_more m s)

with_table : T (all (λ (m : ℕ). all (adds_site m) (below 8)) (below 256))
with_table = unfold below same_bytes with_site sites_of in tt

-- One bit more is one site more.
pub mask_report : (m s : ℕ) → m < 256 → s < 8 → with_site s (sites_of m) ≡ sites_of (bit_or m (2 ^ s))
unfolding sites_of
mask_report m s h k =
    let row = by_table 256 (λ (y : ℕ). all (adds_site y) (below 8)) with_table m h in
    let bits = by_table 8 (λ (y : ℕ). all (one_bit y) (below 8)) pow_table s k in
    same_bytes_lem (with_site s (sites_of m)) (one_more m s) (by_table 8 (adds_site m) row s k)
    ∙ keep_agree (λ (x : ℕ). has m x || eqb x s) (has (bit_or m (2 ^ s))) (below 8)
    (λ x q.
    ap (λ (b : Bool). has m x || b) (sym (alike_is (has (2 ^ s) x) (eqb x s) (all-at (one_bit s) (below 8) bits x q)))
    ∙ sym (or-has m (2 ^ s) x))

-- A site's bit is a mask.
pub bit_small : (s : ℕ) → s < 8 → 2 ^ s < 256
bit_small s h = ltb-true (2 ^ s) 256 (T_true _ (by_table 8 (λ (x : ℕ). ltb (2 ^ x) 256) (unfold below in tt) s h))

-- Sites of a mask are 0 to 7.
pub site_low : (m s : ℕ) → is_in s (sites_of m) ≡ true → s < 8
unfolding sites_of
site_low m s e =
    let q = any_at (eqb s) (keep (has m) (below 8)) (true_T _ e) in
    let low = below-lt 8 q.0 (mem_of_keep (has m) (below 8) q.1).0 in
    let same : s ≡ q.0 = eqb→eq s q.0 q.2 in
    omega (arith, low, same)

-- ### A full copy at a site that the operation was not sent to

-- a mask from its sites
abbrev mask_of : List ℕ → ℕ
mask_of xs = sum (λ s. 2 ^ s) xs

mask_table : T (all (λ (m : ℕ). eqb (mask_of (sites_of m)) m) (below 256))
mask_table = unfold below sites_of in tt

-- Masks of the same sites are the same.
mask_same : (a b : ℕ) → a < 256 → b < 256 → sites_of a ≡ sites_of b → a ≡ b
mask_same a b h k e =
    let back : (m : ℕ) → m < 256 → mask_of (sites_of m) ≡ m =
    λ m l. eqb→eq (mask_of (sites_of m)) m (by_table 256 (λ (x : ℕ). eqb (mask_of (sites_of x)) x) mask_table m l)
    in
    sym (back a h) ∙ ap mask_of e ∙ back b k

module _ {A : Type 0} (f : A → Bool) where
  -- all are kept, where none fails the test
  kept_whole : (l : List A) → any (λ x. not (f x)) l ≡ false → keep f l ≡ l
  kept_whole l e = keep_all f l (λ x m. holds x m (f x) refl)
    where
      holds : (x : A) → Mem x l → (b : Bool) → f x ≡ b → T (f x)
      holds x m true p = true_T _ p
      holds x m false p = absurd (false_T _ e (any_of (λ (y : A). not (f y)) m (true_T _ (ap not p))))

  -- one is not kept, where one fails it
  kept_less : (l : List A) → any (λ x. not (f x)) l ≡ true → keep f l ≡ l → ⊥
  kept_less l e same =
      let q = any_at (λ (x : A). not (f x)) l (true_T _ e) in
      let less = length-keep_less f q.1 (λ t. false_T (not (f q.0)) (ap not (T_true (f q.0) t)) q.2) in
      omega (arith, less, ap length same)

-- 19 for masks: `and` takes a full copy away.
pub mask_outside : (sent full : ℕ) → full < 256 → full_not_sent (sites_of sent) (sites_of full) ≡ not (eqb (bit_and full sent) full)
unfolding full_not_sent
mask_outside sent full h = go (any (λ (s : ℕ). not (is_in s (sites_of sent))) (sites_of full)) refl
  where
    go : (b : Bool) → any (λ (s : ℕ). not (is_in s (sites_of sent))) (sites_of full) ≡ b → b ≡ not (eqb (bit_and full sent) full)
    go true e =
        sym (ap not (ne_eqb (bit_and full sent) full
        (λ same. kept_less (λ (s : ℕ). is_in s (sites_of sent)) (sites_of full) e (mask_common full sent ∙ ap sites_of same))))
    go false e =
        let common : sites_of (bit_and full sent) ≡ sites_of full =
        sym (mask_common full sent) ∙ kept_whole (λ (s : ℕ). is_in s (sites_of sent)) (sites_of full) e
        in
        let small : bit_and full sent < 256 = let le = and_le_l full sent in omega arith in
        sym (ap not (eq-eqb (bit_and full sent) full (mask_same (bit_and full sent) full small h common)))
