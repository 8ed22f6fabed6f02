-- Laws of entries against the specification's operations and did lines: their histories, and whether a line can run.
use Rattle.std.specs.Prelude.{ℕ, zero, suc, ◌≤◌, ◌<◌, ◌≡◌, refl, ◌⊎◌, Bool, List, [], ◌∷◌, map, length, get_or, take}
use Rattle.std.proofs.Common.{arith, ◌∙◌, inl, inr}
use Rattle.std.proofs.Math.Path.{sym, ap}
use mathlib.Core.List.Memᴰ
use mathlib.Core.List.{Memᴰ as Mem}
use Rattle.forms.specs.Forms.{Base, Update, Change, Did}
use Rattle.forms.specs.Limits.{history_limit}
use Rattle.rules.specs.Rules.{may_run}
use Rattle.rules.specs.Book.{Cell, runs_at, can_run, can_run_with}
use Rattle.history.specs.declared.History.{History}
use Rattle.history.specs.declared.Item.{Item}
use Rattle.history.specs.declared.Entry.{Entry}
use Rattle.history.specs.Entries.{no_history, cell_of, cells_of, no_item, item_update, item_change, operation_of, did_of_entry, can_run_in}
use Rattle.history.specs.Entries.{may_run_in, UsableEntry}
use Rattle.history.specs.AtLog.{HoldsBook}
use Rattle.history.specs.Tests.{all_agree}
use Rattle.table.specs.Tables.{can_run_entry}
use Rattle.table.specs.Tries.{entry_updates}

-- what is made of the items of a usable entry keeps their histories
item_low : {B : Type 0} (f : Item → B) (history : B → ℕ) → ((x : Item) → history (f x) ≡ x.history) → (e : Entry) → UsableEntry e
    → (b : B) → Mem b (map f (take e.count e.items)) → history b < history_limit
item_low {B} f history same e w b m = go e.count e.items (omega (arith, w.few, w.long)) (λ i h. (w.each i h).history) m
  where
    go : (n : ℕ) (l : List Item) → n ≤ length l → ((i : ℕ) → i < n → (get_or l i no_item).history < history_limit) → Mem b (map f (take n l))
        → history b < history_limit
    go zero [] q h k = absurd (Memᴰ.not-nil k)
    go zero (x ∷ l) q h k = absurd (Memᴰ.not-nil k)
    go (suc n) [] q h k = absurd (let z : suc n ≤ 0 = q in omega arith)
    go (suc n) (x ∷ l) q h k = cases (Memᴰ.cases_cons k) (λ r. go n l (omega arith) (λ i p. h (suc i) (omega arith)) r)
      where
        cases : (b ≡ f x) ⊎ Mem b (map f (take n l)) → (Mem b (map f (take n l)) → history b < history_limit) → history b < history_limit
        cases (inl e) below = let z : history b ≡ x.history = ap history e ∙ same x in omega (arith, h 0 (omega arith))
        cases (inr r) below = below r

pub usable_history : (e : Entry) → UsableEntry e → (u : Update) → Mem u (entry_updates e) → u.history < history_limit
unfolding operation_of
usable_history e w u m = item_low item_update (λ (v : Update). v.history) (λ x. refl) e w u m

-- An entry can run against the cells of the first n histories where it can against the log that they stand for.
pub can_run_is : (σ : Base) (n : ℕ) (log : List Did) (hs : List History) (e : Entry) → HoldsBook σ n hs log
    → ((x : Change) → Mem x (did_of_entry e).changes → x.history < n) → can_run_entry (cells_of hs) e ≡ can_run σ log (did_of_entry e)
unfolding can_run_in can_run_with
can_run_is σ n log hs e same low =
    all_agree _ _ (did_of_entry e).changes (λ x m. ap (λ (c : Cell). runs_at c x) (same x.history (low x m)))

-- What is found for an item and its history, as they were read, holds of the item against the cells of the histories.
module _ (hs : List History) (y : Item) {h : History} {b : Bool} where
  pub runs_read : {x : Item} → x ≡ y → h ≡ get_or hs x.history no_history → b ≡ runs_at (cell_of h) (item_change x)
      → runs_at (cells_of hs y.history) (item_change y) ≡ b
  runs_read {x} e f g =
      sym
      (g ∙ ap (λ (k : History). runs_at (cell_of k) (item_change x)) f ∙ ap (λ (z : Item). runs_at (cells_of hs z.history) (item_change z)) e)

  pub may_read : {x : Item} → x ≡ y → h ≡ get_or hs x.history no_history → b ≡ may_run x.rule h.version.0 x.version.0
      → may_run_in (cells_of hs) (item_update y) ≡ b
  unfolding may_run_in
  may_read {x} e f g =
      sym
      (g
      ∙ ap (λ (k : History). may_run x.rule k.version.0 x.version.0) f
      ∙ ap (λ (z : Item). may_run z.rule (cells_of hs z.history).version z.version.0) e)
