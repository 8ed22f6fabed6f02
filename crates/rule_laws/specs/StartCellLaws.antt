-- Where the book of a log starts: numbers that can be written, and the cells of a base line by their histories.
use Rattle.std.specs.Prelude.{◌≡◌, ◌⊎◌, Bool, false, cond, eqb, leb}
use Rattle.std.proofs.Math.Path.{refl, ap, subst}
use Rattle.std.proofs.Common.{sym, ◌∙◌, inl, inr, not-suc-le-zero, le_of_suc-le-suc, leb→le, length-append}
use Rattle.std.proofs.Math.Bool.{true}
use Rattle.std.proofs.Math.Option.{Option, none, some}
use mathlib.Core.List.{List, [], ◌∷◌, ◌++◌, map, map-append}
use mathlib.Core.List.Memᴰ
use mathlib.Core.List.Memᴰ.{head as here}
use mathlib.Core.List.Memᴰ.{tail as there}
use mathlib.Core.List.{Memᴰ as Mem}
use Prim.Native.Nat.{ℕ, zero, suc, ◌+◌, ◌≤◌, ◌<◌}
use native.Mathlib.Omega.{arith}
use Rattle.std.proofs.Math.Dec.{T, eqb_refl, nleb→lt, not_T}
use Rattle.std.proofs.Math.ListN.{length, length-map, get_or}
use Rattle.forms.specs.Decimal.{top}
use Rattle.forms.specs.Lists.{below}
use Rattle.forms.specs.ListLaws.{mem_snoc, true_T, false_T, and_intro, and_left, and_right}
use Rattle.forms.specs.Forms.{BaseCell, Base, Change, Did}
use Rattle.forms.specs.Writable.{Each, WritableChange, WritableDid}
use Rattle.forms.specs.declared.DoneRule.{DoneRule}
use Rattle.forms.specs.declared.DoneRule.TheVariants.{DidInc, DidSet, DidNot}
use Rattle.forms.specs.Limits.{part_limit}
use Rattle.rule_laws.specs.PartLaws.{replaced_low}
use Rattle.rules.specs.Book.{Cell, no_base_cell, base_of, start_cell, entered_with, enter_with, enter_all_with, cell_from_with, entered, enter}
use Rattle.rules.specs.Book.{enter_all, cell_from}
use Rattle.rules.specs.Log.{in_order}
use Rattle.rule_laws.specs.Good.{FitHead}
use Rattle.rule_laws.specs.HeadLaws.{base_cell_at_lem}

-- ### Small numbers

-- a cell that can be written
pub record Small (c : Cell) : Type 0 where
  pub version : c.version ≤ top
  pub profile : c.profile ≤ top

entered_small : (r : DoneRule) (v o : ℕ) (c : Cell) → v ≤ top → o ≤ top → Small c → Small (entered r v o c)
unfolding entered_with
entered_small DidInc v o c p q s = record { version = p; profile = let low = replaced_low part_limit c.profile o in omega arith }
entered_small DidSet v o c p q s = record { version = p; profile = q }
entered_small DidNot v o c p q s = record { version = s.version; profile = s.profile }

enter_small : (h : ℕ) (x : Change) (c : Cell) → WritableChange x → Small c → Small (enter h x c)
unfolding enter_with
enter_small h x c w s = go (eqb x.history h)
  where
    go : (b : Bool) → Small (cond b (entered x.rule x.version x.operand c) c)
    go true = entered_small x.rule x.version x.operand c w.version w.operand s
    go false = s

enter_all_small : (h : ℕ) (xs : List Change) (c : Cell) → Each WritableChange xs → Small c → Small (enter_all h xs c)
unfolding enter_all_with
enter_all_small h [] c w s = s
enter_all_small h (x ∷ xs) c w s = enter_all_small h xs (enter h x c) (λ y m. w y (there m)) (enter_small h x c (w x (here refl)) s)

pub from_small : (h : ℕ) (c : Cell) (log : List Did) → Each WritableDid log → Small c → Small (cell_from h c log)
unfolding cell_from_with
from_small h c [] w s = s
from_small h c (d ∷ ds) w s =
    from_small h (enter_all h d.changes c) ds (λ e m. w e (there m)) (enter_all_small h d.changes c (w d (here refl)).changes s)

-- ### The cells of a base line

module _ {A : Type 0} (d : A) where
  get_d_left : (xs ys : List A) (h : ℕ) → h < length xs → get_or (xs ++ ys) h d ≡ get_or xs h d
  get_d_left [] ys h lt = absurd (not-suc-le-zero lt)
  get_d_left (x ∷ xs) ys zero lt = refl
  get_d_left (x ∷ xs) ys (suc h) lt = get_d_left xs ys h (le_of_suc-le-suc lt)

  get_d_last : (xs : List A) (y : A) → get_or (xs ++ y ∷ []) (length xs) d ≡ y
  get_d_last [] y = refl
  get_d_last (x ∷ xs) y = get_d_last xs y

pub length-below : (n : ℕ) → length (below n) ≡ n
unfolding below
length-below zero = refl
length-below (suc n) = let e = length-below n in omega (arith, length-append (below n) (n ∷ []))

pub mem_below : (n h : ℕ) → Mem h (below n) → h < n
unfolding below
mem_below zero h m = absurd (Memᴰ.not-nil m)
mem_below (suc n) h m = go (mem_snoc (below n) m) (λ k. mem_below n h k)
  where
    go : (h ≡ n) ⊎ Mem h (below n) → (Mem h (below n) → h < n) → h < suc n
    go (inl e) before = omega arith
    go (inr k) before = let lt = before k in omega arith

-- A list made by index has at an index what is made of it.
module _ {A : Type 0} (d : A) (f : ℕ → A) where
  pub below_at : (n h : ℕ) → h < n → get_or (map f (below n)) h d ≡ f h
  unfolding below
  below_at zero h lt = absurd (not-suc-le-zero lt)
  below_at (suc n) h lt =
      ap (λ (l : List A). get_or l h d) (map-append f (below n) (n ∷ [])) ∙ go (leb (suc h) n) refl (λ k. below_at n h k)
    where
      len : length (map f (below n)) ≡ n
      len = length-map (below n) f ∙ length-below n

      go : (b : Bool) → leb (suc h) n ≡ b → (h < n → get_or (map f (below n)) h d ≡ f h) → get_or (map f (below n) ++ f n ∷ []) h d ≡ f h
      go true e before =
          let lt' : h < n = leb→le (suc h) n (true_T (leb (suc h) n) e) in
          get_d_left d (map f (below n)) (f n ∷ []) h (omega (arith, len)) ∙ before lt'
      go false e before =
          let ge : n < suc h = nleb→lt (suc h) n (not_T (leb (suc h) n) (λ t. false_T (leb (suc h) n) e t)) in
          let same : h ≡ length (map f (below n)) = omega (arith, len) in
          let is : h ≡ n = omega arith in
          ap (λ (i : ℕ). get_or (map f (below n) ++ f n ∷ []) i d) same ∙ get_d_last d (map f (below n)) (f n) ∙ ap f (sym is)

module _ (f : ℕ → BaseCell) where
  pub get_d_below : (n h : ℕ) → h < n → get_or (map f (below n)) h no_base_cell ≡ f h
  get_d_below n h lt = below_at no_base_cell f n h lt

  order_snoc : (j : ℕ) (xs : List BaseCell) (x : BaseCell) → T (in_order j xs) → x.history ≡ j + length xs → T (in_order j (xs ++ x ∷ []))
  unfolding in_order
  order_snoc j [] x t e =
      and_intro (eqb x.history j) true
      (subst (λ (k : ℕ). T (eqb x.history k)) (let z : x.history ≡ j = omega arith in z) (eqb_refl x.history)) tt
  order_snoc j (y ∷ xs) x t e =
      and_intro (eqb y.history j) (in_order (j + 1) (xs ++ x ∷ [])) (and_left (eqb y.history j) (in_order (j + 1) xs) t)
      (order_snoc (j + 1) xs x (and_right (eqb y.history j) (in_order (j + 1) xs) t) (omega arith))

  pub order_below : ((h : ℕ) → (f h).history ≡ h) → (n : ℕ) → T (in_order 0 (map f (below n)))
  unfolding below in_order
  order_below own zero = tt
  order_below own (suc n) =
      subst (λ (l : List BaseCell). T (in_order 0 l)) (sym (map-append f (below n) (n ∷ [])))
      (order_snoc 0 (map f (below n)) (f n) (order_below own n) (omega (arith, own n, length-map (below n) f, length-below n)))

-- ### Where the book of the copy starts

blank_small : Small (record { profile = 0; version = 0; place = 0 })
blank_small = record { version = omega arith; profile = omega arith }

pub start_small : (n : ℕ) (β : Option Base) → FitHead n β → (h : ℕ) → Small (start_cell (base_of β) h)
unfolding start_cell
start_small n none F h = blank_small
start_small n (some b) F h = go (base_cell_at_lem b.cells h)
  where
    go : (get_or b.cells h no_base_cell ≡ no_base_cell) ⊎ Mem (get_or b.cells h no_base_cell) b.cells →
        Small (record {
          profile = (get_or b.cells h no_base_cell).profile;
          version = (get_or b.cells h no_base_cell).version;
          place = (get_or
              b.cells h no_base_cell).place;
        })
    go (inl e) =
        let p : (get_or b.cells h no_base_cell).profile ≡ 0 = ap (λ (x : BaseCell). x.profile) e in
        let v : (get_or b.cells h no_base_cell).version ≡ 0 = ap (λ (x : BaseCell). x.version) e in
        record { version = omega arith; profile = omega arith }
    go (inr m) = let w = F.writable.cells (get_or b.cells h no_base_cell) m in record { version = w.version; profile = w.profile }
