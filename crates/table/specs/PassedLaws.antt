-- Laws of ranges that meet, and of tests over the elements passed so far.
use Rattle.std.specs.Prelude.{ℕ, suc, ◌+◌, ◌-◌, ◌≤◌, ◌<◌, ◌≡◌, refl, Bool, true, false, cond, ◌&&◌, ◌||◌, List, [], ◌∷◌, ◌++◌, length, get_or, take, drop, Option, Some, None, option_map}
use Rattle.std.proofs.Common.{arith, sym, ap, ap₂, ◌∙◌, length-take-le, take-append-drop, take-take}
use Rattle.std.proofs.Math.Bool.{or-true, and-false, and_assoc}
use Rattle.std.proofs.lemmas.List.{map-append, drop-append-le}
use Rattle.forms.specs.Lists.{any, all}
use Rattle.history.specs.declared.Entry.{Entry}
use Rattle.history.specs.Tests.{take_split}
use Rattle.table.specs.Lists.{first_at}
use Rattle.table.specs.Rows.{row_at}
use Rattle.table.specs.Tables.{rows_of, rows_in}
use Rattle.table.specs.LoopLaws.{take_next, any_append}
use Rattle.table.specs.RangeLaws.{range_none, range_next, range_long, range_split}

-- ### The elements of a list passed so far

module _ {A : Type 0} (p : A → Bool) where
  pub all_append : (a b : List A) → all p (a ++ b) ≡ (all p a && all p b)
  all_append [] b = refl
  all_append (x ∷ a) b = ap (λ (t : Bool). p x && t) (all_append a b) ∙ sym (and_assoc (p x) (all p a) (all p b))

  none_parts : (b : Bool) (f : Option ℕ) → cond b (Some 0) (option_map suc f) ≡ None → (b ≡ false) × (f ≡ None)
  none_parts true f e = absurd (cc)
  none_parts false (Some k) e = absurd (cc)
  none_parts false None e = (refl, refl)

  -- where none of the first elements passes
  pub first_snoc : (l : List A) (a : A) → first_at p l ≡ None → p a ≡ false → first_at p (l ++ (a ∷ [])) ≡ None
  unfolding first_at
  first_snoc [] a e h = rw h
  first_snoc (x ∷ l) a e h =
      let q = none_parts (p x) (first_at p l) e in
      rw (q.0, first_snoc l a q.1 h)

  pub first_mid : (l : List A) (a : A) (r : List A) → first_at p l ≡ None → p a ≡ true → first_at p (l ++ a ∷ r) ≡ Some (length l)
  unfolding first_at
  first_mid [] a r e h = rw h
  first_mid (x ∷ l) a r e h =
      let q = none_parts (p x) (first_at p l) e in
      rw (q.0, first_mid l a r q.1 h)

  pub first_none : first_at p [] ≡ None
  unfolding first_at
  first_none = refl

module _ {A : Type 0} (p : A → Bool) (l : List A) (d : A) where
  pub all-next : (i : ℕ) → i < length l → all p (take i l) ≡ true → p (get_or l i d) ≡ true → all p (take (i + 1) l) ≡ true
  all-next i h e q =
      ap (all p) (take_next l d i h) ∙ all_append p (take i l) (get_or l i d ∷ []) ∙ ap₂ (λ (s t : Bool). s && (t && true)) e q

  pub all_miss : (i n : ℕ) → i < n → n ≤ length l → p (get_or l i d) ≡ false → all p (take n l) ≡ false
  all_miss i n h g q =
      ap (all p) (take_split l d i n h g)
      ∙ all_append p (take i l) (get_or l i d ∷ drop (suc i) (take n l))
      ∙ ap (λ (t : Bool). all p (take i l) && (t && all p (drop (suc i) (take n l)))) q
      ∙ and-false (all p (take i l))

-- ### Ranges that meet

module _ (o ws : List ℕ) where
  pub range_join : (from mid to : ℕ) → from ≤ mid → mid ≤ to → to ≤ length o →
      rows_in o ws from to ≡ rows_in o ws from mid ++ rows_in o ws mid to
  range_join from mid to h l g =
      ap (rows_of ws)
      (ap (drop from) (sym (take-append-drop mid (take to o)) ∙ ap (λ (x : List ℕ). x ++ drop mid (take to o)) (take-take mid to o l))
      ∙ drop-append-le from (take mid o) (drop mid (take to o)) (omega (arith, length-take-le mid o (omega arith))))
      ∙ map-append (row_at ws) (drop from (take mid o)) (drop mid (take to o))

module _ (p : Entry → Bool) (o ws : List ℕ) where
  any_join : (from mid to : ℕ) → from ≤ mid → mid ≤ to → to ≤ length o →
      any p (rows_in o ws from to) ≡ (any p (rows_in o ws from mid) || any p (rows_in o ws mid to))
  any_join from mid to h l g = ap (any p) (range_join o ws from mid to h l g) ∙ any_append p (rows_in o ws from mid) (rows_in o ws mid to)

  -- none in the first range: the second has the answer
  pub none_join : (from mid to : ℕ) → from ≤ mid → mid ≤ to → to ≤ length o → any p (rows_in o ws from mid) ≡ false →
      (b : Bool) → any p (rows_in o ws mid to) ≡ b → any p (rows_in o ws from to) ≡ b
  none_join from mid to h l g e b q = any_join from mid to h l g ∙ ap (λ (x : Bool). x || any p (rows_in o ws mid to)) e ∙ q

  -- one in a range within
  pub some_join : (from at end to : ℕ) → from ≤ at → at ≤ end → end ≤ to → to ≤ length o → any p (rows_in o ws at end) ≡ true →
      any p (rows_in o ws from to) ≡ true
  some_join from at end to h l k g q =
      any_join from at to h (omega arith) g
      ∙ ap (◌||◌ (any p (rows_in o ws from at))) (any_join at end to l k g ∙ ap (λ (x : Bool). x || any p (rows_in o ws end to)) q)
      ∙ or-true (any p (rows_in o ws from at))

-- ### The entries of a range passed so far

module _ (p : Entry → Bool) (o ws : List ℕ) (from : ℕ) where
  pub first-start : first_at p (rows_in o ws from from) ≡ None
  first-start = ap (first_at p) (range_none o ws from) ∙ first_none p

  pub first_next : (i : ℕ) → from ≤ i → i < length o → first_at p (rows_in o ws from i) ≡ None → p (row_at ws (get_or o i 0)) ≡ false
      → first_at p (rows_in o ws from (i + 1)) ≡ None
  first_next i h g e q = ap (first_at p) (range_next o ws from i h g) ∙ first_snoc p (rows_in o ws from i) (row_at ws (get_or o i 0)) e q

  pub first_hit : (i to : ℕ) → from ≤ i → i < to → to ≤ length o → first_at p (rows_in o ws from i) ≡ None
      → p (row_at ws (get_or o i 0)) ≡ true → first_at p (rows_in o ws from to) ≡ Some (i - from)
  first_hit i to h l g e q =
      ap (first_at p) (range_split o ws from i to h l g)
      ∙ first_mid p (rows_in o ws from i) (row_at ws (get_or o i 0)) (rows_in o ws (suc i) to) e q
      ∙ ap Some (range_long o ws from i h (omega arith))
