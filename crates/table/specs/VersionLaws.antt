-- Laws of the versions after done operations: one update more, one operation more.
use Rattle.std.specs.Prelude.{ℕ, ◌+◌, ◌≤◌, ◌<◌, ◌≡◌, refl, cond, List, [], ◌∷◌, ◌++◌, eqb, length, get_or, take, set}
use Rattle.std.proofs.Common.{arith, sym, ◌∙◌}
use Rattle.std.proofs.Math.Path.{ap}
use Rattle.forms.specs.Limits.{history_limit}
use Rattle.history.specs.declared.Item.{Item}
use Rattle.history.specs.declared.Entry.{Entry}
use Rattle.history.specs.Entries.{no_item, items_of, UsableEntry}
use Rattle.table.specs.Arrays.{Tabulates}
use Rattle.table.specs.Rows.{row_at}
use Rattle.table.specs.Tables.{rows_in, version_by, version_from}
use Rattle.table.specs.LoopLaws.{take_next, take_none}
use Rattle.table.specs.ArrayLaws.{says_like, says_store}
use Rattle.table.specs.RangeLaws.{range_none, range_next}

-- ### The updates of one operation

by_snoc : (h v : ℕ) (l : List Item) (x : Item) → version_by h v (l ++ (x ∷ [])) ≡ cond (eqb x.history h) x.version.0 (version_by h v l)
unfolding version_by
by_snoc h v [] x = refl
by_snoc h v (y ∷ l) x = by_snoc h (cond (eqb y.history h) y.version.0 v) l x

pub stamp_start : (t : List ℕ) (e : Entry) → length t ≡ history_limit →
    Tabulates 0 t (λ (h : ℕ). version_by h (get_or t h 0) (take 0 e.items))
unfolding version_by
stamp_start t e n = record { long = n; each = λ h k. ap (version_by h (get_or t h 0)) (sym (take_none 0 e.items refl)) }

pub stamp_next : (r r₀ : List ℕ) (e : Entry) (j : ℕ) (x : Item) → UsableEntry e → j < e.count → x ≡ get_or e.items j no_item
    → Tabulates 0 r (λ (h : ℕ). version_by h (get_or r₀ h 0) (take j e.items))
    → Tabulates 0 (set r x.history x.version.0) (λ (h : ℕ). version_by h (get_or r₀ h 0) (take (j + 1) e.items))
stamp_next r r₀ e j x u lt q s =
    let low : x.history < history_limit = omega (arith, (u.each j lt).history, ap (λ (y : Item). y.history) q) in
    says_like 0 _ _ _ (says_store 0 r _ x.history x.version.0 s low)
    (λ h k. sym (ap (version_by h (get_or r₀ h 0)) (take_next e.items no_item j (omega (arith, u.few, u.long))
    ∙ ap (λ (y : Item). take j e.items ++ (y ∷ [])) (sym q))
    ∙ by_snoc h (get_or r₀ h 0) (take j e.items) x))

pub stamp_end : (r : List ℕ) (f : ℕ → ℕ) (e : Entry) (j : ℕ) → j ≡ e.count
    → Tabulates 0 r (λ (h : ℕ). version_by h (f h) (take j e.items))
    → Tabulates 0 r (λ (h : ℕ). version_from h (f h) (e ∷ []))
unfolding version_from
stamp_end r f e j q s = says_like 0 r _ _ s (λ h k. ap (λ (n : ℕ). version_by h (f h) (take n e.items)) q)

-- ### The operations of a range

from_snoc : (h v : ℕ) (l : List Entry) (e : Entry) → version_from h v (l ++ (e ∷ [])) ≡ version_from h (version_from h v l) (e ∷ [])
unfolding version_from
from_snoc h v [] e = refl
from_snoc h v (x ∷ l) e = from_snoc h (version_by h v (items_of x)) l e

module _ (o ws : List ℕ) (from : ℕ) where
  pub advance_start : (t : List ℕ) → length t ≡ history_limit → Tabulates 0 t (λ (h : ℕ). version_from h (get_or t h 0) (rows_in o ws from from))
  unfolding version_from
  advance_start t n = record { long = n; each = λ h k. ap (version_from h (get_or t h 0)) (sym (range_none o ws from)) }

  pub advance_next : (r t : List ℕ) (f : ℕ → ℕ) (i : ℕ) → from ≤ i → i < length o
      → Tabulates 0 t (λ (h : ℕ). version_from h (f h) (rows_in o ws from i))
      → Tabulates 0 r (λ (h : ℕ). version_from h (get_or t h 0) (row_at ws (get_or o i 0) ∷ []))
      → Tabulates 0 r (λ (h : ℕ). version_from h (f h) (rows_in o ws from (i + 1)))
  advance_next r t f i h n a b =
      let e = row_at ws (get_or o i 0) in
      says_like 0 r _ _ b
      (λ k lt. ap (λ (v : ℕ). version_from k v (e ∷ [])) (a.each k lt)
      ∙ sym (from_snoc k (f k) (rows_in o ws from i) e)
      ∙ ap (version_from k (f k)) (sym (range_next o ws from i h n)))
