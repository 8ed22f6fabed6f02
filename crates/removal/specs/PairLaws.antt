-- Where pairs stand in numbers, and that the next one with a key is somewhere.
use Rattle.std.specs.Prelude.{◌≡◌, refl, ◌⊎◌, List, [], ◌∷◌, ℕ, zero, suc, ◌+◌, ◌*◌, ◌<◌, ◌≤◌, length, get_or}
use Rattle.std.proofs.Common.{sym, ap, ◌∙◌, subst, inl, inr, ⊎_elim, eq-or-lt_of_le, not-suc-le-zero, arith}
use mathlib.Core.List.Memᴰ
use mathlib.Core.List.Memᴰ.{head as head_of}
use mathlib.Core.List.Memᴰ.{tail as Tail-of}
use mathlib.Core.List.{Memᴰ as Mem}
use Rattle.recovery.specs.Removal.{Pair, pairs_of}
use Rattle.removal.specs.Chains.{count_of, key_at, Found}
use Rattle.removal.specs.ChainLaws.{same_or, less_or}

-- ### Lists

-- where an element stands
pub record At (l : List ℕ) (x : ℕ) : Type 0 where
  pub place : ℕ
  pub within : place < length l
  pub is : get_or l place 0 ≡ x

pub mem-place : (x : ℕ) (l : List ℕ) → Mem x l → At l x
mem-place x [] m = absurd (Memᴰ.not-nil m)
mem-place x (y ∷ l) m = go (Memᴰ.cases_cons m) (λ k. mem-place x l k)
  where
    go : (x ≡ y) ⊎ Mem x l → (Mem x l → At l x) → At (y ∷ l) x
    go (inl e) below = record { place = 0; within = omega arith; is = sym e }
    go (inr k) below = let q = below k in record { place = suc q.place; within = omega (arith, q.within); is = q.is }

pub place-mem : (l : List ℕ) (p : ℕ) → p < length l → Mem (get_or l p 0) l
place-mem [] p lt = absurd (not-suc-le-zero lt)
place-mem (y ∷ l) zero lt = head_of refl
place-mem (y ∷ l) (suc p) lt = Tail-of (place-mem l p (omega arith))

-- ### Pairs

-- pair p of some numbers
abbrev pub pair_at : List ℕ → ℕ → Pair
pair_at ws p = record { line = key_at ws 0 p; transaction = key_at ws 1 p }

-- where a pair stands
pub record PairAt (ws : List ℕ) (x : Pair) : Type 0 where
  pub place : ℕ
  pub within : place < count_of ws
  pub line : key_at ws 0 place ≡ x.line
  pub transaction : key_at ws 1 place ≡ x.transaction

key_later : (ws : List ℕ) (k t c p : ℕ) → key_at (k ∷ t ∷ ws) c (suc p) ≡ key_at ws c p
key_later ws k t c p = ap (λ (i : ℕ). get_or (k ∷ t ∷ ws) i 0) (let e : 2 * suc p + c ≡ suc (suc (2 * p + c)) = omega arith in e)

pub pair_place : (ws : List ℕ) (x : Pair) → Mem x (pairs_of ws) → PairAt ws x
unfolding pairs_of
pair_place [] x m = absurd (Memᴰ.not-nil m)
pair_place (k ∷ []) x m = absurd (Memᴰ.not-nil m)
pair_place (k ∷ t ∷ ws) x m = go (Memᴰ.cases_cons m) (λ i. pair_place ws x i)
  where
    go : (x ≡ record { line = k; transaction = t }) ⊎ Mem x (pairs_of ws) → (Mem x (pairs_of ws) → PairAt ws x) → PairAt (k ∷ t ∷ ws) x
    go (inl e) below =
        record {
          place = 0;
          within = omega arith;
          line = sym (ap (λ (y : Pair). y.line) e);
          transaction = sym (ap (λ (y : Pair). y.transaction) e);
        }
    go (inr i) below =
        let q = below i in
        record {
          place = suc q.place;
          within = omega (arith, q.within);
          line = key_later ws k t 0 q.place ∙ q.line;
          transaction = key_later ws k t 1 q.place ∙ q.transaction;
        }

pub place_pair : (ws : List ℕ) (p : ℕ) → p < count_of ws → Mem (pair_at ws p) (pairs_of ws)
unfolding pairs_of
place_pair [] p lt = absurd (omega arith)
place_pair (k ∷ []) p lt = absurd (omega arith)
place_pair (k ∷ t ∷ ws) zero lt = head_of refl
place_pair (k ∷ t ∷ ws) (suc p) lt =
    Tail-of (subst (λ (y : Pair). Mem y (pairs_of ws)) (sym same) (place_pair ws p (omega arith)))
  where
    same : pair_at (k ∷ t ∷ ws) (suc p) ≡ pair_at ws p
    same = λ i. record { line = key_later ws k t 0 p i; transaction = key_later ws k t 1 p i }

-- ### The next pair with a key is somewhere

pub record Next (ws : List ℕ) (c key from : ℕ) : Type 0 where
  pub at : ℕ
  pub found : Found ws c key from at

found_some : (ws : List ℕ) (c key fuel from : ℕ) → from ≤ count_of ws → count_of ws ≤ from + fuel → Next ws c key from
found_some ws c key zero from a b =
    record {
      at = from;
      found = record { low = omega arith; within = a; passed = λ s x y e. omega (arith, x, y); here = λ l. absurd (omega (arith, l, b)) };
    }
found_some ws c key (suc fuel) from a b = ⊎_elim
    (λ l. ⊎_elim
    (λ e. record {
      at = from;
      found = record { low = omega arith; within = a; passed = λ s x y e'. omega (arith, x, y); here = λ z. e };
    })
    (λ ne. let q = found_some ws c key fuel (suc from) l (omega (arith, b)) in record {
      at = q.at;
      found = record {
        low = omega (arith, q.found.low);
        within = q.found.within;
        passed = λ s x y e. ⊎_elim (λ z. ne (ap (key_at ws c) z ∙ e)) (λ z. q.found.passed s z y e) (eq-or-lt_of_le x);
        here = q.found.here;
      };
    })
    (same_or (key_at ws c from) key))
    (λ l. record {
      at = from;
      found = record { low = omega arith; within = a; passed = λ s x y e. omega (arith, x, y); here = λ z. absurd (omega (arith, z, l)) };
    })
    (less_or from (count_of ws))

pub next_of : (ws : List ℕ) (c key from : ℕ) → from ≤ count_of ws → Next ws c key from
next_of ws c key from a = found_some ws c key (count_of ws) from a (omega arith)

-- one with the key bounds it
pub next_most : (ws : List ℕ) (c key from r q : ℕ) → Found ws c key from r → from ≤ q → key_at ws c q ≡ key → r ≤ q
next_most ws c key from r q F a e = ⊎_elim (λ l. absurd (F.passed q a l e)) (λ l. l) (less_or q r)
