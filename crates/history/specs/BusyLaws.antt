-- Counting an entry's updates item by item in the words of a book.
use Rattle.std.specs.Prelude.{ℕ, zero, suc, ◌+◌, ◌-◌, ◌*◌, ◌≤◌, ◌<◌, ◌≡◌, refl, Bool, true, false, cond, List, [], ◌∷◌, ◌++◌, map, eqb, length, get_or, set, take}
use Rattle.std.proofs.Common.{arith, sym, ap, ap₂, ◌∙◌, eqb-true, add-one, length-set, length-take, take-suc, take_all, subst, get_or-set_same, get_or-set_other}
use Rattle.std.proofs.lemmas.Bool.{eqb-false}
use Rattle.std.proofs.Math.Dec.{eqb_refl}
use Rattle.forms.specs.Lists.{sum}
use Rattle.forms.specs.ListLaws.{T_true, sum-append}
use Rattle.forms.specs.Forms.{Update, Change}
use Rattle.forms.specs.Limits.{history_limit, update_limit}
use Rattle.rules.specs.Poll.{tell, asks_in, changes_in}
use Rattle.history.specs.declared.Item.{Item}
use Rattle.history.specs.declared.Entry.{Entry}
use Rattle.history.specs.Entries.{no_item, items_of, item_update, item_change, operation_of, did_of_entry, UsableEntry, InFirst}
use Rattle.history.specs.Tests.{part_in}
use Rattle.history.specs.Words.{width, book_length, items_in, entry_in, AllInFirst, PastKept, CountsMore}
use Rattle.history.specs.WordLaws.{column_in, column_same, histories_same, past_set}

items_snoc : (h : ℕ) (xs : List Item) (x : Item) → items_in h (xs ++ (x ∷ [])) ≡ items_in h xs + cond (eqb x.history h) 1 0
unfolding items_in
items_snoc h [] x = omega arith
items_snoc h (y ∷ xs) x = omega (arith, items_snoc h xs x)

-- one more of the items
items-next : (h : ℕ) (xs : List Item) (i : ℕ) → i < length xs →
    items_in h (take (i + 1) xs) ≡ items_in h (take i xs) + cond (eqb (get_or xs i no_item).history h) 1 0
items-next h xs i lt = rw (add-one i, take-suc xs i no_item lt) (items_snoc h (take i xs) (get_or xs i no_item))

-- The first i items counted: each history has its number of them more in `high` than in `low`, and nothing else differs.
pub record Counted (xs : List Item) (i : ℕ) (low high : List ℕ) : Type 0 where
  pub long : length low ≡ book_length
  pub wide : length high ≡ book_length
  pub numbers : (h : ℕ) → h < history_limit → get_or high (width * h + 5) 0 ≡ get_or low (width * h + 5) 0 + items_in h (take i xs)
  pub rest : (g h : ℕ) → g < width → (g ≡ 5 → ⊥) → get_or high (width * h + g) 0 ≡ get_or low (width * h + g) 0
  pub past : (n : ℕ) → ((j : ℕ) → j < i → (get_or xs j no_item).history < n) → PastKept n low high

pub counted_none : (xs : List Item) (ws : List ℕ) → length ws ≡ book_length → Counted xs 0 ws ws
unfolding items_in
counted_none xs ws long =
    record { long = long; wide = long; numbers = λ h l. omega arith; rest = λ g h l ne. refl; past = λ n into. refl }

-- a number of one history stored
module _ (ws : List ℕ) (k v : ℕ) (low : k < history_limit) (long : length ws ≡ book_length) where
  pub stored_here : (h : ℕ) → k ≡ h → get_or (set ws (width * k + 5) v) (width * h + 5) 0 ≡ v
  stored_here h e =
      ap (λ (n : ℕ). get_or (set ws (width * k + 5) v) (width * n + 5) 0) (sym e)
      ∙ get_or-set_same ws (width * k + 5) v 0 (omega (arith, long, low))

  pub stored_other : (g h : ℕ) → g < width → ((g ≡ 5) → (h ≡ k) → ⊥) →
      get_or (set ws (width * k + 5) v) (width * h + g) 0 ≡ get_or ws (width * h + g) 0
  stored_other g h l ne =
      get_or-set_other ws (width * k + 5) (width * h + g) v 0
      (λ (e : width * h + g ≡ width * k + 5). ne (omega (arith, e, l)) (omega (arith, e, l)))

module _ (xs : List Item) (i : ℕ) (low high : List ℕ) (s : Counted xs i low high) (lt : i < length xs)
    (few : (get_or xs i no_item).history < history_limit) where
  abbrev k : ℕ
  k = (get_or xs i no_item).history

  -- the item counted where the numbers are higher
  pub counted_up : Counted xs (i + 1) low (set high (width * k + 5) (get_or high (width * k + 5) 0 + 1))
  counted_up =
      record {
        long = s.long;
        wide = length-set high (width * k + 5) (get_or high (width * k + 5) 0 + 1) ∙ s.wide;
        numbers = λ h l. go h l (eqb k h) refl;
        rest = λ g h l ne. stored_other high k _ few s.wide g h l (λ e _. ne e) ∙ s.rest g h l ne;
        past = λ n into. past_set n low high (width * k + 5) _ (omega (arith, into i (omega arith)))
            (s.past n (λ j l. into j (omega (arith, l))));
      }
    where
      go : (h : ℕ) → h < history_limit → (b : Bool) → eqb k h ≡ b →
          get_or (set high (width * k + 5) (get_or high (width * k + 5) 0 + 1)) (width * h + 5) 0
          ≡ get_or low (width * h + 5) 0 + items_in h (take (i + 1) xs)
      go h l true e =
          let q : k ≡ h = eqb-true k h e in
          let at : get_or high (width * k + 5) 0 ≡ get_or high (width * h + 5) 0 = ap (λ (n : ℕ). get_or high (width * n + 5) 0) q in
          let one : ◌≡◌ {A = ℕ} (cond (eqb k h) 1 0) 1 = ap (λ (b : Bool). cond b 1 0) e in
          omega (
            arith,
            stored_here high k (get_or high (width * k + 5) 0 + 1) few s.wide h q,
            at,
            s.numbers h l,
            items-next h xs i lt,
            one,
          )
      go h l false e =
          let none : ◌≡◌ {A = ℕ} (cond (eqb k h) 1 0) 0 = ap (λ (b : Bool). cond b 1 0) e in
          omega (
            arith,
            stored_other high k (get_or high (width * k + 5) 0 + 1) few s.wide 5 h (omega arith) (λ _ q. eqb-false k h e (sym q)),
            s.numbers h l,
            items-next h xs i lt,
            none,
          )

  -- .. where they are lower
  pub counted_down : 1 ≤ get_or low (width * k + 5) 0 → Counted xs (i + 1) (set low (width * k + 5) (get_or low (width * k + 5) 0 - 1)) high
  counted_down some =
      record {
        long = length-set low (width * k + 5) (get_or low (width * k + 5) 0 - 1) ∙ s.long;
        wide = s.wide;
        numbers = λ h l. go h l (eqb k h) refl;
        rest = λ g h l ne. s.rest g h l ne ∙ sym (stored_other low k _ few s.long g h l (λ e _. ne e));
        past = λ n into. s.past n (λ j l. into j (omega (arith, l)))
            ∙ sym (past_set n low low (width * k + 5) _ (omega (arith, into i (omega arith))) refl);
      }
    where
      go : (h : ℕ) → h < history_limit → (b : Bool) → eqb k h ≡ b →
          get_or high (width * h + 5) 0
          ≡ get_or (set low (width * k + 5) (get_or low (width * k + 5) 0 - 1)) (width * h + 5) 0 + items_in h (take (i + 1) xs)
      go h l true e =
          let q : k ≡ h = eqb-true k h e in
          let at : get_or low (width * k + 5) 0 ≡ get_or low (width * h + 5) 0 = ap (λ (n : ℕ). get_or low (width * n + 5) 0) q in
          let one : ◌≡◌ {A = ℕ} (cond (eqb k h) 1 0) 1 = ap (λ (b : Bool). cond b 1 0) e in
          omega (
            arith,
            stored_here low k (get_or low (width * k + 5) 0 - 1) few s.long h q,
            at,
            some,
            s.numbers h l,
            items-next h xs i lt,
            one,
          )
      go h l false e =
          let none : ◌≡◌ {A = ℕ} (cond (eqb k h) 1 0) 0 = ap (λ (b : Bool). cond b 1 0) e in
          omega (
            arith,
            stored_other low k (get_or low (width * k + 5) 0 - 1) few s.long 5 h (omega arith) (λ _ q. eqb-false k h e (sym q)),
            s.numbers h l,
            items-next h xs i lt,
            none,
          )

-- what a prefix has, all have
items-part : (h : ℕ) (xs : List Item) (i n : ℕ) → i ≤ n → items_in h (take i xs) ≤ items_in h (take n xs)
unfolding items_in
items-part h xs zero n le = omega arith
items-part h [] (suc i) n le = omega arith
items-part h (x ∷ xs) (suc i) zero le = absurd (omega arith)
items-part h (x ∷ xs) (suc i) (suc n) le = omega (arith, items-part h xs i n (omega arith))

-- the next item is among those counted in all
pub items-some : (xs : List Item) (i n : ℕ) → i < n → i < length xs →
    items_in (get_or xs i no_item).history (take i xs) + 1 ≤ items_in (get_or xs i no_item).history (take n xs)
items-some xs i n l lt =
    let k = (get_or xs i no_item).history in
    let one : ◌≡◌ {A = ℕ} (cond (eqb k k) 1 0) 1 = ap (λ (b : Bool). cond b 1 0) (T_true (eqb k k) (eqb_refl k)) in
    omega (arith, items-part k xs (i + 1) n (omega arith), items-next k xs i lt, one)

-- .. of all
pub items-one : (xs : List Item) (i : ℕ) → i < length xs →
    items_in (get_or xs i no_item).history (take i xs) + 1 ≤ items_in (get_or xs i no_item).history xs
items-one xs i lt =
    let k = (get_or xs i no_item).history in
    let q : items_in k (take (length xs) xs) ≡ items_in k xs = ap (items_in k) (take_all (length xs) xs (omega arith)) in
    omega (arith, items-some xs i (length xs) lt lt, q)

-- a history that has one of the first k items is among the first n, when their histories are
items_low : (n h : ℕ) (xs : List Item) (k : ℕ) → ((j : ℕ) → j < k → (get_or xs j no_item).history < n) → 1 ≤ items_in h (take k xs) → h < n
unfolding items_in
items_low n h xs zero low l = absurd (let z : 1 ≤ 0 = l in omega arith)
items_low n h [] (suc k) low l = absurd (let z : 1 ≤ 0 = l in omega arith)
items_low n h (x ∷ xs) (suc k) low l =
    by (eqb x.history h) refl (items_low n h xs k (λ j lt. low (suc j) (omega (arith, lt)))) l
  where
    by : (b : Bool) → eqb x.history h ≡ b → (1 ≤ items_in h (take k xs) → h < n) → 1 ≤ cond b 1 0 + items_in h (take k xs) → h < n
    by true e rest l = omega (arith, eqb-true x.history h e, low 0 (omega arith))
    by false e rest l = rest (omega (arith, l))

-- the histories of an entry's updates, by index and by number
in_first : (n : ℕ) (e : Entry) → UsableEntry e → AllInFirst n (e ∷ []) → InFirst n e
in_first n e u into j l = into (get_or e.items j no_item).history
    (omega (arith, items-some e.items j e.count l (omega (arith, u.few, u.long))))

pub all_in_first : (n : ℕ) (e : Entry) → InFirst n e → AllInFirst n (e ∷ [])
all_in_first n e within h some = items_low n h e.items e.count within (omega (arith, some))

-- All items counted.
pub counted-all : (e : Entry) (i : ℕ) (low high : List ℕ) → UsableEntry e → length (items_of e) ≤ i → i ≤ e.count →
    Counted (items_of e) i low high → CountsMore (e ∷ []) low high
counted-all e i low high u z le s =
    record {
      numbers = λ h l.
          let n : items_in h (take i (items_of e)) ≡ entry_in h e = ap (items_in h) (take_all i (items_of e) z) in
          omega (arith, column_in 5 high h l, column_in 5 low h l, s.numbers h l, n);
      others = λ g l ne. column_same g low high (λ h _. s.rest g h l ne);
      histories = histories_same low high (λ h f _ l. s.rest f h (omega (arith, l)) (λ (q : f ≡ 5). omega (arith, q, l)));
      past = λ n into.
          s.past n (λ j l.
          let lt : j < e.count = omega (arith, l, le) in
          subst (λ (x : Item). x.history < n) (part_in e.count e.items j no_item lt) (in_first n e u into j lt));
    }

-- ### Entries one after the other

-- no entries
pub counts_none : (ws : List ℕ) → CountsMore [] ws ws
counts_none ws = record { numbers = λ h l. omega arith; others = λ g l ne. refl; histories = refl; past = λ n into. refl }

-- two lists of entries, those behind counted where the numbers are lower
pub counts_then : (es fs : List Entry) (low mid high : List ℕ) → CountsMore fs low mid → CountsMore es mid high →
    CountsMore (es ++ fs) low high
counts_then es fs low mid high a b =
    record {
      numbers = λ h l. omega (arith, a.numbers h l, b.numbers h l, sum-append (entry_in h) es fs);
      others = λ g l ne. b.others g l ne ∙ a.others g l ne;
      histories = b.histories ∙ a.histories;
      past = λ n into.
          b.past n (λ h l. into h (omega (arith, l, sum-append (entry_in h) es fs)))
          ∙ a.past n (λ h l. into h (omega (arith, l, sum-append (entry_in h) es fs)));
    }

-- ### In the specification

-- The items of an entry count as the updates of its operation, and as those of its did line.
pub items-asked : (h : ℕ) (e : Entry) → entry_in h e ≡ asks_in h (operation_of e)
unfolding items_in asks_in operation_of
items-asked h e = go (items_of e)
  where
    go : (xs : List Item) → items_in h xs ≡ sum (λ (u : Update). tell (eqb u.history h)) (map item_update xs)
    go [] = refl
    go (x ∷ xs) = ap (λ (n : ℕ). cond (eqb x.history h) 1 0 + n) (go xs)

pub items-changed : (h : ℕ) (e : Entry) → entry_in h e ≡ changes_in h (did_of_entry e)
unfolding items_in changes_in did_of_entry
items-changed h e = go (items_of e)
  where
    go : (xs : List Item) → items_in h xs ≡ sum (λ (x : Change). tell (eqb x.history h)) (map item_change xs)
    go [] = refl
    go (x ∷ xs) = ap (λ (n : ℕ). cond (eqb x.history h) 1 0 + n) (go xs)

pub lines-changed : (h : ℕ) (es : List Entry) → sum (entry_in h) es ≡ sum (changes_in h) (map did_of_entry es)
lines-changed h [] = refl
lines-changed h (e ∷ es) = ap₂ ◌+◌ (items-changed h e) (lines-changed h es)

-- An entry has at most four updates.
pub entry_few : (h : ℕ) (e : Entry) → UsableEntry e → entry_in h e ≤ update_limit
unfolding items_in
entry_few h e u = omega (arith, few (items_of e), length-take e.count e.items, u.few)
  where
    few : (xs : List Item) → items_in h xs ≤ length xs
    few [] = omega arith
    few (x ∷ xs) = by (eqb x.history h) (few xs)
      where
        by : (b : Bool) → items_in h xs ≤ length xs → cond b 1 0 + items_in h xs ≤ length (x ∷ xs)
        by true l = omega (arith, l)
        by false l = omega (arith, l)
