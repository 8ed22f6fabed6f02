-- Records in numbers: what a record that is written, and a gap that is closed, make of the records that stand there.
use Rattle.std.specs.Prelude.{ℕ, suc, ◌+◌, ◌*◌, ◌-◌, ◌≤◌, ◌<◌, ◌≡◌, Bool, true, false, ltb, eqb, set, take}
use native.Mathlib.Omega.{arith}
use Rattle.std.proofs.Math.Path.{refl, ap, subst}
use Rattle.std.proofs.Common.{sym, ap₂, ◌∙◌, length-append, length-drop, get_or-drop, get_or-append-add, ltb-true, ltb-false}
use mathlib.Core.List.{List, [], ◌∷◌, ◌++◌, map, map-append}
use Rattle.std.proofs.Math.ListN.{length, get_or, drop, get_or-append}
use Rattle.std.proofs.Math.Seq.{get_or-take, length-take-le, drop-append-add}
use Rattle.forms.specs.Lists.{below}
use Rattle.forms.specs.Write.{placed}
use Rattle.rules.specs.Records as book
use Rattle.rules.specs.Records.{is_for}
use Rattle.history.specs.Words.{within}
use Rattle.history.specs.WordLaws.{within_of, made_long, made_at, made_is, made-set}
use Rattle.records.specs.declared.Records.{Records}
use Rattle.records.specs.declared.words.Record.{Record}
use Rattle.records.specs.Model.{width, record_from, record_of, numbers_of, records_view, GapClosed}

-- ### The records that stand in numbers

-- what fills the places past the records
abbrev pub no_record : book.Record
no_record = record { id = 0; sent = []; full = []; reported = []; threshold = 0 }

-- record i, as the specification has it
abbrev pub entry_in : List ℕ → ℕ → book.Record
entry_in ws i = record_of (record_from ws i)

pub view_long : (s : Records) (ws : List ℕ) → length (records_view s ws) ≡ s.count
unfolding records_view
view_long s ws = made_long (entry_in ws) s.count

pub view_at_lem : (s : Records) (ws : List ℕ) (i : ℕ) → i < s.count → get_or (records_view s ws) i no_record ≡ entry_in ws i
unfolding records_view
view_at_lem s ws i h = made_at (entry_in ws) s.count i no_record h

-- whether record i is that of an operation, by its id as it was read
pub view_for : (s : Records) (ws : List ℕ) (i id n : ℕ) → i < s.count → n ≡ (record_from ws i).id
    → is_for id (get_or (records_view s ws) i no_record) ≡ eqb n id
unfolding record_of
view_for s ws i id n h e = ap (is_for id) (view_at_lem s ws i h) ∙ ap (λ (k : ℕ). eqb k id) (sym e)

-- The view is a list that has these records.
pub view_is : (s : Records) (ws : List ℕ) (l : List book.Record) → length l ≡ s.count
    → ((i : ℕ) → i < s.count → entry_in ws i ≡ get_or l i no_record) → records_view s ws ≡ l
unfolding records_view
view_is s ws l long same = made_is (entry_in ws) s.count no_record l long same

-- record i of numbers that have the same five there as others have at record j
pub from-same : (old new : List ℕ) (i j : ℕ)
    → ((f : ℕ) → f < width → get_or new (width * i + f) 0 ≡ get_or old (width * j + f) 0) → record_from new i ≡ record_from old j
unfolding record_from
from-same old new i j s =
    let first : get_or new (width * i) 0 ≡ get_or old (width * j) 0 =
    let a : width * i ≡ width * i + 0 = omega arith in
    let b : width * j + 0 ≡ width * j = omega arith in
    ap (λ (k : ℕ). get_or new k 0) a ∙ s 0 (omega arith) ∙ ap (λ (k : ℕ). get_or old k 0) b
    in
    rw (first, s 1 (omega arith), s 2 (omega arith), s 3 (omega arith), s 4 (omega arith))

-- ### Writing a record

-- Numbers written at a position: those before, those there, those behind.
module _ (ws : List ℕ) (at : ℕ) (xs : List ℕ) (fits : at + length xs ≤ length ws) where
  pub placed-before : (k : ℕ) → k < at → get_or (placed ws at xs) k 0 ≡ get_or ws k 0
  unfolding placed
  placed-before k h =
      get_or-append (take at ws) _ 0 k (omega (arith, length-take-le at ws (omega arith))) ∙ get_or-take at ws k 0 h

  pub placed-there : (k : ℕ) → get_or (placed ws at xs) (at + k) 0 ≡ get_or (xs ++ drop (at + length xs) ws) k 0
  unfolding placed
  placed-there k =
      subst (λ (n : ℕ). get_or (take at ws ++ (xs ++ drop (at + length xs) ws)) (n + k) 0 ≡ get_or (xs ++ drop (at + length xs) ws) k 0)
      (length-take-le at ws (omega arith)) (get_or-append-add (take at ws) (xs ++ drop (at + length xs) ws) k 0)

  pub placed_past : drop (at + length xs) (placed ws at xs) ≡ drop (at + length xs) ws
  unfolding placed
  placed_past =
      subst (λ (n : ℕ). drop (n + length xs) (take at ws ++ (xs ++ drop (at + length xs) ws)) ≡ drop (at + length xs) ws)
      (length-take-le at ws (omega arith))
      (drop-append-add (take at ws) (xs ++ drop (at + length xs) ws) (length xs) ∙ behind xs (drop (at + length xs) ws))
    where
      behind : (x y : List ℕ) → drop (length x) (x ++ y) ≡ y
      behind [] y = refl
      behind (a ∷ x) y = behind x y

  pub placed-behind : (k : ℕ) → at + length xs ≤ k → get_or (placed ws at xs) k 0 ≡ get_or ws k 0
  placed-behind k h =
      let e : k ≡ at + length xs + (k - (at + length xs)) = omega arith in
      ap (λ (n : ℕ). get_or (placed ws at xs) n 0) e
      ∙ sym (get_or-drop (at + length xs) (placed ws at xs) (k - (at + length xs)) 0)
      ∙ ap (λ (l : List ℕ). get_or l (k - (at + length xs)) 0) placed_past
      ∙ get_or-drop (at + length xs) ws (k - (at + length xs)) 0
      ∙ ap (λ (n : ℕ). get_or ws n 0) (sym e)

-- The masks of a record are numbers of 8 bits.
pub record Masked (r : Record) : Type 0 where
  pub sent : r.sent < 256
  pub full : r.full < 256
  pub reported : r.reported < 256

module _ (ws : List ℕ) (i : ℕ) (r : Record) (fits : width * i + width ≤ length ws) where
  abbrev written : List ℕ
  written = placed ws (width * i) (numbers_of r)

  -- the record that was written
  pub put-here : Masked r → record_from written i ≡ r
  unfolding record_from
  put-here small =
      let at : (k : ℕ) → get_or written (width * i + k) 0 ≡ get_or (numbers_of r ++ drop (width * i + width) ws) k 0 =
      placed-there ws (width * i) (numbers_of r) fits
      in
      let first : get_or written (width * i) 0 ≡ r.id =
      let z : width * i ≡ width * i + 0 = omega arith in
      ap (λ (k : ℕ). get_or written k 0) z ∙ at 0
      in
      λ t. record {
        id = first t;
        sent = (ap (within 256) (at 1) ∙ within_of 256 r.sent small.sent) t;
        full = (ap (within 256) (at 2) ∙ within_of 256 r.full small.full) t;
        reported = (ap (within 256) (at 3) ∙ within_of 256 r.reported small.reported) t;
        threshold = at 4 t;
      }

  -- the others
  pub put-beside : (j : ℕ) → (j ≡ i → ⊥) → record_from written j ≡ record_from ws j
  put-beside j other = from-same ws written j j (λ f l. go f l (ltb j i) (ltb i j) refl refl)
    where
      go : (f : ℕ) → f < width → (a b : Bool) → ltb j i ≡ a → ltb i j ≡ b → get_or written (width * j + f) 0 ≡ get_or ws (width * j + f) 0
      go f l true b p q =
          let h : j < i = ltb-true j i p in placed-before ws (width * i) (numbers_of r) fits (width * j + f) (omega (arith, h, l))
      go f l false true p q =
          let h : i < j = ltb-true i j q in placed-behind ws (width * i) (numbers_of r) fits (width * j + f) (omega (arith, h))
      go f l false false p q = absurd (other (omega (arith, ltb-false j i p, ltb-false i j q)))

-- A record in the place of another.
pub view-put : (s : Records) (ws : List ℕ) (i : ℕ) (r : Record) → width * i + width ≤ length ws → Masked r → i < s.count
    → records_view s (placed ws (width * i) (numbers_of r)) ≡ set (records_view s ws) i (record_of r)
unfolding records_view
view-put s ws i r fits small h =
    made-set (entry_in (placed ws (width * i) (numbers_of r))) (entry_in ws) s.count i (record_of r) no_record h
    (ap record_of (put-here ws i r fits small)) (λ j l ne. ap record_of (put-beside ws i r fits j ne))

-- A record behind the others.
pub view_push : (n : ℕ) (ws : List ℕ) (r : Record) → width * n + width ≤ length ws → Masked r
    → records_view (record { count = n + 1 }) (placed ws (width * n) (numbers_of r))
    ≡ records_view (record { count = n }) ws ++ (record_of r ∷ [])
unfolding records_view below
view_push n ws r fits small =
    let new = placed ws (width * n) (numbers_of r) in
    let more : n + 1 ≡ suc n = omega arith in
    ap (λ (k : ℕ). map (entry_in new) (below k)) more
    ∙ snoc new
    ∙ ap₂ (λ (l : List book.Record) (x : book.Record). l ++ (x ∷ []))
    (made_is (entry_in new) n no_record (map (entry_in ws) (below n)) (made_long (entry_in ws) n)
    (λ i h. ap record_of (put-beside ws n r fits i (λ e. omega (arith, e, h))) ∙ sym (made_at (entry_in ws) n i no_record h)))
    (ap record_of (put-here ws n r fits small))
  where
    snoc : (new : List ℕ) → map (entry_in new) (below (suc n)) ≡ map (entry_in new) (below n) ++ (entry_in new n ∷ [])
    snoc new = map-append (entry_in new) (below n) (n ∷ [])

-- ### Closing a gap

-- A list without its element at i.
abbrev pub omitted : {A : Type 0} → ℕ → List A → List A
omitted i l = take i l ++ drop (suc i) l

module _ {A : Type 0} (l : List A) (d : A) (i : ℕ) (inside : i < length l) where
  omitted_long : suc (length (omitted i l)) ≡ length l
  omitted_long =
      omega (arith, inside, length-append (take i l) (drop (suc i) l), length-take-le i l (omega (arith, inside)), length-drop (suc i) l)

  omitted-before : (k : ℕ) → k < i → get_or (omitted i l) k d ≡ get_or l k d
  omitted-before k h =
      get_or-append (take i l) (drop (suc i) l) d k (omega (arith, h, length-take-le i l (omega (arith, inside))))
      ∙ get_or-take i l k d h

  omitted-behind : (k : ℕ) → i ≤ k → get_or (omitted i l) k d ≡ get_or l (k + 1) d
  omitted-behind k h =
      let e : k ≡ i + (k - i) = omega (arith, h) in
      let z : suc i + (k - i) ≡ k + 1 = omega (arith, h) in
      ap (λ (n : ℕ). get_or (omitted i l) n d) e
      ∙ subst (λ (n : ℕ). get_or (omitted i l) (n + (k - i)) d ≡ get_or (drop (suc i) l) (k - i) d)
      (length-take-le i l (omega (arith, inside))) (get_or-append-add (take i l) (drop (suc i) l) (k - i) d)
      ∙ get_or-drop (suc i) l (k - i) d
      ∙ ap (λ (n : ℕ). get_or l n d) z

-- The records without one of them: those behind it moved up.
pub view-closed : (s : Records) (i last : ℕ) (old new : List ℕ) → i < s.count → last + 1 ≡ s.count
    → GapClosed (width * i) (width * last) old new → records_view (record { count = last }) new ≡ omitted i (records_view s old)
view-closed s i last old new h e g =
    let rs = records_view s old in
    let long : length rs ≡ s.count = view_long s old in
    let inside : i < length rs = omega (arith, h, long) in
    view_is (record { count = last }) new (omitted i rs) (omega (arith, omitted_long rs no_record i inside, e, long))
    (λ k l. go k l (ltb k i) refl)
  where
    go : (k : ℕ) → k < last → (b : Bool) → ltb k i ≡ b → entry_in new k ≡ get_or (omitted i (records_view s old)) k no_record
    go k l true q =
        let lt : k < i = ltb-true k i q in
        ap record_of (from-same old new k k (λ f m. g.before (width * k + f) (omega (arith, lt, m))))
        ∙ sym (view_at_lem s old k (omega (arith, lt, h)))
        ∙ sym (omitted-before (records_view s old) no_record i (omega (arith, h, view_long s old)) k lt)
    go k l false q =
        let le : i ≤ k = ltb-false k i q in
        ap record_of (from-same old new k (k + 1)
        (λ f m.
        let z : width * k + f + width ≡ width * (k + 1) + f = omega arith in
        g.moved (width * k + f) (omega (arith, le)) (omega (arith, l, m)) ∙ ap (λ (n : ℕ). get_or old n 0) z))
        ∙ sym (view_at_lem s old (k + 1) (omega (arith, l, e)))
        ∙ sym (omitted-behind (records_view s old) no_record i (omega (arith, h, view_long s old)) k le)
