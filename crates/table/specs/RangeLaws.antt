-- Laws of the rows from one place of an order to another: one more at the end, the row at a place, and what tests of a slice answer.
use Rattle.std.specs.Prelude.{ℕ, zero, suc, ◌+◌, ◌-◌, ◌≤◌, ◌<◌, ◌≡◌, refl, Bool, true, false, ◌||◌, List, [], ◌∷◌, ◌++◌, map, length, get_or, take, drop, cond, Option, Some, None, option_map}
use Rattle.std.proofs.Common.{arith, sym, ap, subst, ◌∙◌, length-take, length-drop, get_or-drop, get_or-take, length-take-le, take-take, take_all}
use Rattle.std.specs.List.{list_any, position_from}
use Rattle.std.proofs.lemmas.Slice.{between_is}
use Rattle.std.proofs.Math.Bool.{or-true}
use Rattle.std.proofs.lemmas.List.{map-append, length-map, drop-append-le}
use mathlib.Core.List.{Memᴰ as Mem}
use Rattle.forms.specs.Lists.{any}
use Rattle.history.specs.declared.Entry.{Entry}
use Rattle.history.specs.Entries.{UsableEntry}
use Rattle.history.specs.Tests.{take_split, mem_each}
use Rattle.table.specs.Lists.{first_at}
use Rattle.table.specs.Rows.{row_at}
use Rattle.table.specs.Tables.{rows_of, rows_in, Usable}
use Rattle.table.specs.LoopLaws.{slice_next, drop_past}

-- what stands past the end of a list of entries
abbrev pub past_entry : Entry
past_entry = record { id = 0; running = false; count = 0; items = [] }

module _ {A B : Type 0} (f : A → B) where
  pub map_at : (l : List A) (k : ℕ) (d : A) (e : B) → k < length l → get_or (map f l) k e ≡ f (get_or l k d)
  map_at [] k d e h = absurd (omega arith)
  map_at (x ∷ l) zero d e h = refl
  map_at (x ∷ l) (suc k) d e h = map_at l k d e (omega arith)

  pub map-take : (n : ℕ) (l : List A) → take n (map f l) ≡ map f (take n l)
  map-take zero [] = refl
  map-take zero (x ∷ l) = refl
  map-take (suc n) [] = refl
  map-take (suc n) (x ∷ l) = ap (λ (r : List B). f x ∷ r) (map-take n l)

  pub map-drop : (n : ℕ) (l : List A) → drop n (map f l) ≡ map f (drop n l)
  map-drop zero l = refl
  map-drop (suc n) [] = refl
  map-drop (suc n) (x ∷ l) = map-drop n l

module _ (o ws : List ℕ) where
  pub range_none : (from : ℕ) → rows_in o ws from from ≡ []
  range_none from = ap (rows_of ws) (drop_past from o)

  -- one more at the end
  pub range_next : (from i : ℕ) → from ≤ i → i < length o → rows_in o ws from (i + 1) ≡ rows_in o ws from i ++ (row_at ws (get_or o i 0) ∷ [])
  range_next from i h g = ap (rows_of ws) (slice_next o 0 from i h g) ∙ map-append (row_at ws) (drop from (take i o)) (get_or o i 0 ∷ [])

  pub range_long : (from to : ℕ) → from ≤ to → to ≤ length o → length (rows_in o ws from to) ≡ to - from
  range_long from to h g =
      omega (arith, length-map (drop from (take to o)) (row_at ws), length-drop from (take to o), length-take-le to o g)

  -- the row at a place
  pub range_at : (from to k : ℕ) → from + k < to → to ≤ length o → get_or (rows_in o ws from to) k past_entry ≡ row_at ws (get_or o (from + k) 0)
  range_at from to k h g =
      map_at (row_at ws) (drop from (take to o)) k 0 past_entry (omega (arith, length-drop from (take to o), length-take-le to o g))
      ∙ ap (row_at ws) (get_or-drop from (take to o) k 0 ∙ get_or-take to o (from + k) 0 h)

  -- a range around the row at a place
  pub range_split : (from i to : ℕ) → from ≤ i → i < to → to ≤ length o
      → rows_in o ws from to ≡ rows_in o ws from i ++ row_at ws (get_or o i 0) ∷ rows_in o ws (suc i) to
  range_split from i to h l g =
      ap (rows_of ws)
      (ap (drop from) (take_split o 0 i to l g)
      ∙ drop-append-le from (take i o) (get_or o i 0 ∷ drop (suc i) (take to o)) (omega (arith, length-take-le i o (omega arith))))
      ∙ map-append (row_at ws) (drop from (take i o)) (get_or o i 0 ∷ drop (suc i) (take to o))

  -- a range within the first n
  pub range_part : (from to n : ℕ) → to ≤ n → rows_in o ws from to ≡ drop from (take to (rows_in o ws 0 n))
  range_part from to n h =
      sym (ap (drop from) (map-take (row_at ws) to (take n o) ∙ ap (rows_of ws) (take-take to n o h)) ∙ map-drop (row_at ws) from (take to o))

-- The places of the slice of an order from one place to another.
module _ (o : List ℕ) (from to : ℕ) (h : to ≤ length o) where
  pub slice_long : length (take (to - from) (drop from o)) ≡ to - from
  slice_long = omega (arith, length-take (to - from) (drop from o), length-drop from o)

  module _ (k : ℕ) (lt : k < length (take (to - from) (drop from o))) where
    pub slice_place : from + k < to
    slice_place = omega (arith, slice_long)

    pub slice_at : get_or (take (to - from) (drop from o)) k 0 ≡ get_or o (from + k) 0
    slice_at = get_or-take (to - from) (drop from o) k 0 (omega (arith, slice_long)) ∙ get_or-drop from o k 0

-- the slice itself, and what a test answers for its rows
pub slice_is : (o : List ℕ) (from to : ℕ) → take (to - from) (drop from o) ≡ drop from (take to o)
slice_is o from to = between_is o from to

module _ {A B : Type 0} (f : A → B) (p : B → Bool) where
  pub any_of : (l : List A) → list_any (λ (x : A). p (f x)) l ≡ any p (map f l)
  any_of [] = refl
  any_of (x ∷ l) = ap (λ (t : Bool). p (f x) || t) (any_of l)

  counted : (i : ℕ) (l : List A) → position_from (λ (x : A). p (f x)) i l ≡ option_map (λ (k : ℕ). i + k) (first_at p (map f l))
  unfolding first_at
  counted i [] = refl
  counted i (x ∷ l) = go (p (f x)) (first_at p (map f l)) (counted (i + 1) l)
    where
      go : (b : Bool) (r : Option ℕ) → position_from (λ (y : A). p (f y)) (i + 1) l ≡ option_map (λ (k : ℕ). i + 1 + k) r
          → cond b (Some i) (position_from (λ (y : A). p (f y)) (i + 1) l) ≡ option_map (λ (k : ℕ). i + k) (cond b (Some 0) (option_map suc r))
      go true r e = let z : i ≡ i + 0 = omega arith in ap Some z
      go false None e = e
      go false (Some k) e = let z : i + 1 + k ≡ i + suc k = omega arith in e ∙ ap Some z

  pub first_of : (l : List A) → position_from (λ (x : A). p (f x)) 0 l ≡ first_at p (map f l)
  first_of l = counted 0 l ∙ go (first_at p (map f l))
    where
      go : (r : Option ℕ) → option_map (λ (k : ℕ). 0 + k) r ≡ r
      go None = refl
      go (Some k) = let z : 0 + k ≡ k = omega arith in ap Some z

-- The entries of a range can be used.
pub usable_range : (o ws : List ℕ) (from to : ℕ) → Usable o ws to → from ≤ to → (e : Entry) → Mem e (rows_in o ws from to) → UsableEntry e
usable_range o ws from to u h =
    mem_each UsableEntry (rows_in o ws from to) past_entry
    (λ k l. let n : from + k < to = omega (arith, range_long o ws from to h u.few) in
    subst UsableEntry (sym (range_at o ws from to k n u.few)) (u.each (from + k) n))

-- ### Tests over the rows of some entries

module _ (p : Entry → Bool) (ws : List ℕ) where
  -- one that passes decides
  pub any_at : (l : List ℕ) (k : ℕ) → k < length l → p (row_at ws (get_or l k 0)) ≡ true → any p (rows_of ws l) ≡ true
  any_at [] k h e = absurd (omega arith)
  any_at (x ∷ l) zero h e = ap (λ (t : Bool). t || any p (rows_of ws l)) e
  any_at (x ∷ l) (suc k) h e =
      ap (λ (t : Bool). p (row_at ws x) || t) (any_at l k (omega arith) e) ∙ or-true (p (row_at ws x))

  -- none of the first four passes: the others decide
  pub past_four : (l : List ℕ) → 4 ≤ length l → p (row_at ws (get_or l 0 0)) ≡ false → p (row_at ws (get_or l 1 0)) ≡ false
      → p (row_at ws (get_or l 2 0)) ≡ false → p (row_at ws (get_or l 3 0)) ≡ false
      → any p (rows_of ws l) ≡ any p (rows_of ws (take (length l - 4) (drop 4 l)))
  past_four [] h e f g q = absurd (omega arith)
  past_four (a ∷ []) h e f g q = absurd (omega arith)
  past_four (a ∷ b ∷ []) h e f g q = absurd (omega arith)
  past_four (a ∷ b ∷ c ∷ []) h e f g q = absurd (omega arith)
  past_four (a ∷ b ∷ c ∷ d ∷ l) h e f g q =
      rw (e, f, g, q)
      (ap (λ (r : List ℕ). any p (rows_of ws r)) (sym (take_all (length (a ∷ b ∷ c ∷ d ∷ l) - 4) l (omega arith))))
