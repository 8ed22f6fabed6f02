-- Live ids: how the ids of done, waiting and pending operations change, and stay distinct.
use Rattle.std.specs.Prelude.{◌≡◌, ◌⊎◌, Bool, true, false, cond, List, [], ◌∷◌, ◌++◌, map, ℕ, zero, suc, ◌≤◌, eqb, length, drop}
use Rattle.std.proofs.Common.{sym, ap, ◌∙◌, inl, inr, append_assoc, append-nil, zero-le, not-suc-le-zero, le_of_suc-le-suc}
use mathlib.Core.List.Memᴰ
use Rattle.std.proofs.lemmas.List.{map-append, drop-append-le}
use mathlib.Core.List.{Memᴰ as Mem}
use Rattle.std.proofs.Math.Dec.{eqb_refl}
use Rattle.forms.specs.Lists.{any, keep}
use Rattle.forms.specs.ListLaws.{Nodup, nodup_right, nodup_insert, nodup_sub, false_T, any_of, mem_of_keep}
use Rattle.forms.specs.Forms.{Did}
use Rattle.rules.specs.State.{Operation, State, live_done}
use Rattle.rules.specs.Calls.{id_pending, id_done}
use Rattle.rule_laws.specs.Good.{did_ids, operation_ids}
use Rattle.rule_laws.specs.CheckLaws.{or_false_left, or_false_right}

module _ {A : Type 0} (id : A → ℕ) where
  -- An id that the test finds nowhere is not among the ids.
  pub id_fresh : (i : ℕ) (l : List A) → any (λ (x : A). eqb (id x) i) l ≡ false → Mem i (map id l) → ⊥
  id_fresh i l e m = go (Memᴰ.of_map id l m)
    where
      go : (x : A) × Mem x l × (id x ≡ i) → ⊥
      go (x, k, p) = false_T (any (λ (y : A). eqb (id y) i) l) e (any_of (λ (y : A). eqb (id y) i) k (rw p (eqb_refl i)))

  pub ids-keep_in : (f : A → Bool) (xs : List A) (i : ℕ) → Mem i (map id (keep f xs)) → Mem i (map id xs)
  ids-keep_in f xs i m = go (Memᴰ.of_map id (keep f xs) m)
    where
      go : (x : A) × Mem x (keep f xs) × (id x ≡ i) → Mem i (map id xs)
      go (x, k, e) = Memᴰ.cast (sym e) (Memᴰ.map id (mem_of_keep f xs k).0)

  pub ids-keep : (f : A → Bool) (xs : List A) → Nodup (map id xs) → Nodup (map id (keep f xs))
  ids-keep f [] h = tt
  ids-keep f (x ∷ xs) h = go (f x) (ids-keep f xs h.1)
    where
      go : (b : Bool) → Nodup (map id (keep f xs)) → Nodup (map id (cond b (x ∷ keep f xs) (keep f xs)))
      go true k = (λ m. h.0 (ids-keep_in f xs (id x) m), k)
      go false k = k

  -- Fewer done operations are live once a mark rises.
  pub ids-later : (s t : ℕ) → s ≤ t → (l : List A) (b : List ℕ) → Nodup (map id (drop s l) ++ b) → Nodup (map id (drop t l) ++ b)
  ids-later zero zero le l b h = h
  ids-later zero (suc t) le [] b h = h
  ids-later zero (suc t) le (x ∷ l) b h = ids-later zero t zero-le l b h.1
  ids-later (suc s) zero le l b h = absurd (not-suc-le-zero le)
  ids-later (suc s) (suc t) le [] b h = h
  ids-later (suc s) (suc t) le (x ∷ l) b h = ids-later s t (le_of_suc-le-suc le) l b h

  -- The live ids after one more line in the log.
  pub ids_snoc : (s : ℕ) (l : List A) (x : A) → s ≤ length l → map id (drop s (l ++ x ∷ [])) ≡ map id (drop s l) ++ id x ∷ []
  ids_snoc s l x le = ap (map id) (drop-append-le s l (x ∷ []) le) ∙ map-append id (drop s l) (x ∷ [])

-- Two parts of the live ids stay where the third is thinned.
pub ids-without : (D W : List ℕ) (f : Operation → Bool) (xs : List Operation) → Nodup (D ++ (W ++ operation_ids xs)) →
    Nodup (D ++ (W ++ operation_ids (keep f xs)))
ids-without D W f xs h =
    let id : Operation → ℕ = λ x. x.id in
    rw append_assoc at
    (nodup_sub (D ++ W) (map id xs) (map id (keep f xs)) (rw append_assoc h)
    (ids-keep id f xs (nodup_right W (map id xs) (nodup_right D (W ++ map id xs) h)))
    (ids-keep_in id f xs))

-- ### A new id

-- An id that is none of the live ones.
pub record Fresh (i : ℕ) (D W C : List ℕ) : Type 0 where
  pub done : Mem i D → ⊥
  pub waits : Mem i W → ⊥
  pub pends : Mem i C → ⊥

fresh_out : (i : ℕ) (D W C : List ℕ) → Fresh i D W C → Mem i (D ++ (W ++ C)) → ⊥
fresh_out i D W C F m = go (Memᴰ.append_cases D m)
  where
    later : Mem i W ⊎ Mem i C → ⊥
    later (inl k) = F.waits k
    later (inr k) = F.pends k

    go : Mem i D ⊎ Mem i (W ++ C) → ⊥
    go (inl k) = F.done k
    go (inr k) = later (Memᴰ.append_cases W k)

pub ids_wait : (i : ℕ) (D W C : List ℕ) → Fresh i D W C → Nodup (D ++ (W ++ C)) → Nodup (D ++ ((W ++ i ∷ []) ++ C))
ids_wait i D W C F h =
    rw (append_assoc W (i ∷ []) C, ← append_assoc D W (i ∷ C))
    (nodup_insert (D ++ W) i C (rw append_assoc h) (λ m. fresh_out i D W C F (rw append_assoc at m)))

pub ids_pend : (i : ℕ) (D W C : List ℕ) → Fresh i D W C → Nodup (D ++ (W ++ C)) → Nodup (D ++ (W ++ (C ++ i ∷ [])))
ids_pend i D W C F h =
    rw (← append_assoc W C (i ∷ []), ← append_assoc D (W ++ C) (i ∷ []))
    (nodup_insert (D ++ (W ++ C)) i [] (rw append-nil h) (λ m. fresh_out i D W C F (rw append-nil at m)))

pub ids_do : (i : ℕ) (D W C : List ℕ) → Fresh i D W C → Nodup (D ++ (W ++ C)) → Nodup ((D ++ i ∷ []) ++ (W ++ C))
ids_do i D W C F h = rw (append_assoc D (i ∷ []) (W ++ C)) (nodup_insert D i (W ++ C) h (λ m. fresh_out i D W C F m))

-- 7 and 8 find no live operation with the id.
pub fresh_tested : (i : ℕ) (st : State) → id_pending i st ≡ false → id_done i st ≡ false →
    Fresh i (did_ids (live_done st)) (did_ids st.waiting) (operation_ids st.pending)
unfolding id_pending id_done
fresh_tested i st p q =
    let pends = any (λ (x : Operation). eqb x.id i) st.pending in
    let waits = any (λ (d : Did). eqb d.id i) st.waiting in
    record {
      done = id_fresh (λ (d : Did). d.id) i (live_done st) q;
      waits = id_fresh (λ (d : Did). d.id) i st.waiting (or_false_right pends waits p);
      pends = id_fresh (λ (x : Operation). x.id) i st.pending (or_false_left pends waits p);
    }
