-- Laws of lists of numbers in a reply's array: a list that grows, and the numbers that pass a test.
use Rattle.std.specs.Prelude.{ℕ, ◌+◌, ◌≤◌, ◌<◌, ◌≡◌, Bool, true, false, List, [], ◌∷◌, ◌++◌, map, length, get_or}
use Rattle.std.proofs.Common.{arith, sym, ap, subst, ◌∙◌, append-nil}
use Rattle.std.proofs.lemmas.List.{map-append}
use Rattle.forms.specs.Lists.{keep, below}
use Rattle.forms.specs.Write.{Wrote}
use Rattle.forms.specs.WriteLaws.{wrote_none, wrote_more}
use Rattle.table.specs.Lists.{IsNumbers}
use Rattle.table.specs.Rows.{row_at}
use Rattle.table.specs.Tables.{rows_in, id_of}
use Rattle.table.specs.LoopLaws.{below_next}
use Rattle.table.specs.RangeLaws.{range_none, range_next}

-- a list of numbers that grows
pub numbers-next : (old : List ℕ) (at n : ℕ) (ws : List ℕ) (x : ℕ) (l k vs : List ℕ) → IsNumbers old at n ws l
    → Wrote ws (at + n) (x ∷ []) (at + n + 1) vs
    → at + n < 68 → k ≡ l ++ (x ∷ []) → IsNumbers old at (n + 1) vs k
numbers-next old at n ws x l k vs a w room e =
    let more : Wrote old at (l ++ (x ∷ [])) (at + n + 1) vs =
    wrote_more old at l (x ∷ []) (at + n) (at + n + 1) ws vs (omega (arith, a.long, a.wrote.behind, room)) a.wrote w in
    record {
      long = a.long;
      wrote = subst (λ (z : List ℕ). Wrote old at z (at + (n + 1)) vs) (sym e)
          (record { behind = omega (arith, more.behind); bytes = more.bytes });
    }

pub no_numbers : (ws : List ℕ) (at : ℕ) → length ws ≡ 68 → IsNumbers ws at 0 ws []
no_numbers ws at l = record { long = l; wrote = wrote_none ws at }

-- the numbers below h that pass a test
pub record KeptBelow (p : ℕ → Bool) (h : ℕ) (old : List ℕ) (at n : ℕ) (ws : List ℕ) : Type 0 where
  pub few : n ≤ h
  pub is : IsNumbers old at n ws (keep p (below h))

module _ (p : ℕ → Bool) (old : List ℕ) (at n : ℕ) (ws : List ℕ) (h : ℕ) (a : KeptBelow p h old at n ws) where
  pub kept_yes : {m : ℕ} {us vs : List ℕ} → Wrote ws (at + n) (h ∷ []) (at + n + 1) vs → at + n < 68 → us ≡ vs → m ≡ n + 1 → p h ≡ true
      → KeptBelow p (h + 1) old at m us
  kept_yes {m} {us} {vs} w room f g e =
      subst (λ (k : ℕ). KeptBelow p (h + 1) old at k us) (sym g)
      (subst (KeptBelow p (h + 1) old at (n + 1)) (sym f)
      (record {
        few = omega (arith, a.few);
        is = numbers-next old at n ws h (keep p (below h)) (keep p (below (h + 1))) vs a.is w room (below_next p h true e);
      }))

  pub kept_no : {m : ℕ} {us : List ℕ} → us ≡ ws → m ≡ n → p h ≡ false → KeptBelow p (h + 1) old at m us
  kept_no {m} {us} f g e =
      subst (λ (k : ℕ). KeptBelow p (h + 1) old at k us) (sym g)
      (subst (KeptBelow p (h + 1) old at n) (sym f)
      (record {
        few = omega (arith, a.few);
        is = subst (IsNumbers old at n ws) (sym (append-nil (keep p (below h))) ∙ sym (below_next p h false e)) a.is;
      }))

pub kept_none : (p : ℕ → Bool) (ws : List ℕ) (at : ℕ) → length ws ≡ 68 → KeptBelow p 0 ws at 0 ws
unfolding below
kept_none p ws at l = record { few = omega arith; is = no_numbers ws at l }

-- ### The ids of the entries of a range

module _ (o ws : List ℕ) (from : ℕ) where
  pub ids-start : (old : List ℕ) (at : ℕ) → length old ≡ 68 → IsNumbers old at 0 old (map id_of (rows_in o ws from from))
  ids-start old at l = subst (IsNumbers old at 0 old) (ap (map id_of) (sym (range_none o ws from))) (no_numbers old at l)

  pub ids_next : (k : ℕ) (old : List ℕ) (at : ℕ) (ls vs : List ℕ) (x : ℕ) → from + k < length o
      → IsNumbers old at k ls (map id_of (rows_in o ws from (from + k))) → x ≡ (row_at ws (get_or o (from + k) 0)).id
      → Wrote ls (at + k) (x ∷ []) (at + k + 1) vs → at + k < 68
      → IsNumbers old at (k + 1) vs (map id_of (rows_in o ws from (from + k + 1)))
  ids_next k old at ls vs x l a e w room =
      numbers-next old at k ls x (map id_of (rows_in o ws from (from + k))) (map id_of (rows_in o ws from (from + k + 1))) vs a w room
      (ap (map id_of) (range_next o ws from (from + k) (omega arith) l)
      ∙ map-append id_of (rows_in o ws from (from + k)) (row_at ws (get_or o (from + k) 0) ∷ [])
      ∙ ap (λ (y : ℕ). map id_of (rows_in o ws from (from + k)) ++ (y ∷ [])) (sym e))
