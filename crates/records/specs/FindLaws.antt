-- Where a record stands: the search over the records finds the first, the one that the specification finds, changes and drops.
use Prim.Native.Nat.{ℕ, zero, suc, ◌<◌}
use Rattle.std.proofs.Common.{arith, sym, ap, ◌∙◌, length-take-le, take_all}
use Rattle.std.proofs.Math.Path.{◌≡◌, refl, subst}
use Rattle.std.specs.Prelude.{Bool, ◌||◌, length, get_or, set, take, drop, Option, Some, None, option_map, MatchOption}
use Rattle.std.proofs.Math.Bool.{true, false, cond}
use mathlib.Core.List.{List, [], ◌∷◌, ◌++◌}
use Rattle.std.proofs.Math.Option.{none, some}
use Rattle.std.proofs.Math.Seq.{split_at}
use Rattle.forms.specs.Lists.{any, find}
use Rattle.rules.specs.Records.{change_first, drop_first}
use Rattle.history.specs.Tests.{or_false_parts}
use Rattle.records.specs.Model.{place_of}
use Rattle.records.specs.NumberLaws.{omitted}

module _ {A : Type 0} (p : A → Bool) where
  -- ### The search

  place_mid : (l : List A) (a : A) (r : List A) → any p l ≡ false → p a ≡ true → place_of p (l ++ a ∷ r) ≡ Some (length l)
  unfolding place_of
  place_mid [] a r e h = rw h
  place_mid (x ∷ l) a r e h = let q = or_false_parts (p x) (any p l) e in rw (q.0, place_mid l a r q.1 h)

  -- none before it has passed
  pub place_hit : (l : List A) (d : A) (i : ℕ) → i < length l → any p (take i l) ≡ false → p (get_or l i d) ≡ true → place_of p l ≡ Some i
  place_hit l d i h e q =
      ap (place_of p) (split_at l i d h)
      ∙ place_mid (take i l) (get_or l i d) (drop (suc i) l) e q
      ∙ ap Some (length-take-le i l (omega arith))

  -- none has passed
  pub place_end : (l : List A) → any p l ≡ false → place_of p l ≡ None
  unfolding place_of
  place_end [] e = refl
  place_end (x ∷ l) e = let q = or_false_parts (p x) (any p l) e in rw (q.0, place_end l q.1)

  -- none before an index
  any_before : (l : List A) (d : A) (i : ℕ) → ((k : ℕ) → k < i → p (get_or l k d) ≡ false) → any p (take i l) ≡ false
  any_before l d zero h = refl
  any_before [] d (suc i) h = refl
  any_before (x ∷ l) d (suc i) h = rw (h 0 (omega arith)) (any_before l d i (λ k lt. h (suc k) (omega arith)))

  -- where a search by index finds the first, or none
  pub place-searched : (l : List A) (d : A) (r : Option ℕ)
      → MatchOption r ((k : ℕ) → k < length l → p (get_or l k d) ≡ false)
      (λ i. (i < length l) × (p (get_or l i d) ≡ true) × ((k : ℕ) → k < i → p (get_or l k d) ≡ false))
      → r ≡ place_of p l
  place-searched l d None m = sym (place_end l (ap (any p) (sym (take_all (length l) l (omega arith))) ∙ any_before l d (length l) m))
  place-searched l d (Some i) m = sym (place_hit l d i m.0 (any_before l d i m.2) m.1)

  -- ### What is found

  -- The element at i is the first that passes.
  pub record First (d : A) (l : List A) (i : ℕ) : Type 0 where
    pub inside : i < length l
    pub some_one : any p l ≡ true
    pub found : find p l ≡ some (get_or l i d)
    pub changed : (g : A → A) → change_first p g l ≡ set l i (g (get_or l i d))
    pub dropped : drop_first p l ≡ omitted i l

  pub place_at_lem : (d : A) (l : List A) (i : ℕ) → place_of p l ≡ Some i → First d l i
  unfolding place_of
  place_at_lem d [] i e = absurd (let z : ◌≡◌ {A = ℕ} 0 1 = cc in omega arith)
  place_at_lem d (x ∷ l) i e = go (p x) refl (place_of p l) e (λ k q. place_at_lem d l k q)
    where
      go : (b : Bool) → p x ≡ b → (f : Option ℕ) → cond b (Some 0) (option_map suc f) ≡ Some i → ((k : ℕ) → f ≡ Some k → First d l k) → First d (x ∷ l) i
      go true h f q below =
          let z : 0 ≡ i = cc in
          subst (λ (n : ℕ). First d (x ∷ l) n) z
          (record {
            inside = omega arith;
            some_one = rw h;
            found = rw h;
            changed = λ g. rw h;
            dropped = rw h;
          })
      go false h None q below = absurd (let z : ◌≡◌ {A = ℕ} 0 1 = cc in omega arith)
      go false h (Some k) q below =
          let z : suc k ≡ i = cc in
          let b = below k refl in
          subst (λ (n : ℕ). First d (x ∷ l) n) z
          (record {
            inside = omega (arith, b.inside);
            some_one = rw h b.some_one;
            found = rw h b.found;
            changed = λ g. rw h (ap {B = List A} (λ m. x ∷ m) (b.changed g));
            dropped = rw h (ap {B = List A} (λ m. x ∷ m) b.dropped);
          })

  pub place_none : (l : List A) → place_of p l ≡ None → (find p l ≡ none) × (any p l ≡ false)
  unfolding place_of
  place_none [] e = (refl, refl)
  place_none (x ∷ l) e = go (p x) (place_of p l) e (λ q. place_none l q)
    where
      go : (b : Bool) (f : Option ℕ) → cond b (Some 0) (option_map suc f) ≡ None → (f ≡ None → (find p l ≡ none) × (any p l ≡ false))
          → (cond b (some x) (find p l) ≡ none) × ((b || any p l) ≡ false)
      go true f q below = absurd (let z : ◌≡◌ {A = ℕ} 0 1 = cc in omega arith)
      go false (Some k) q below = absurd (let z : ◌≡◌ {A = ℕ} 0 1 = cc in omega arith)
      go false None q below = below refl
