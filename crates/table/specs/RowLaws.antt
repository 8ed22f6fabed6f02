-- Laws of rows in words: reading one, writing one, and what stays as it was.
use Rattle.std.specs.Prelude.{ℕ, zero, suc, ◌+◌, ◌-◌, ◌*◌, ◌≤◌, ◌<◌, ◌≡◌, ◌⊎◌, Bool, true, false, List, [], ◌∷◌, map, ltb, length, get_or, set}
use Rattle.std.proofs.Common.{arith, sym, ap, ap₂, ◌∙◌, inl, inr, ltb-true, ltb-false, length-set, ext_get_or, get_or-set_same}
use Rattle.std.proofs.Math.Path.{refl}
use Rattle.std.proofs.Math.Arith.{lt_of_le-ne}
use Rattle.std.proofs.Math.Dec.{eqb}
use Rattle.forms.specs.Held.{first_four}
use Rattle.forms.specs.Limits.{update_limit}
use Rattle.forms.specs.declared.Rule.{Rule}
use Rattle.forms.specs.declared.Rule.TheVariants.{Inc, Set, Not, Unk}
use Rattle.history.specs.declared.Item.{Item}
use Rattle.history.specs.declared.Entry.{Entry}
use Rattle.history.specs.Entries.{no_item}
use Rattle.history.specs.Tests.{four_eq, four-at}
use Rattle.history.specs.Words.{within, UnchangedOutside}
use Rattle.history.specs.WordLaws.{within_of, Same, kept_same, kept_wide, kept_then, kept_set}
use Rattle.table.specs.Rows.{row_width, rule_number, rule_named, item_at, PutItem, entry_from, begun, row_at, PutRow}
use Rattle.table.specs.Order.{tally}
use Rattle.table.specs.OrderLaws.{tally_head, tally-at}

-- ### Items and entries, read field by field

pub item_read : (ws : List ℕ) (at : ℕ) {r : Rule} {h : ℕ} → r ≡ rule_named (get_or ws at 0) → h ≡ within 256 (get_or ws (at + 1) 0)
    → record {
      rule = r;
      history = h;
      version = record { 0 = get_or ws (at + 2) 0 };
      place = record { 0 = get_or ws (at + 3) 0 };
      operand = get_or ws (at + 4) 0;
    } ≡ item_at ws at
unfolding item_at
item_read ws at e f = rw (e, f)

pub entry_read : (ws : List ℕ) (at : ℕ) {a b c d : Item} → a ≡ item_at ws (at + 3) → b ≡ item_at ws (at + 8) → c ≡ item_at ws (at + 13)
    → d ≡ item_at ws (at + 18)
    → record { id = get_or ws at 0; running = eqb (get_or ws (at + 1) 0) 1; count = get_or ws (at + 2) 0; items = a ∷ b ∷ c ∷ d ∷ [] }
    ≡ entry_from ws at
unfolding entry_from
entry_read ws at e f g h = rw (e, f, g, h)

-- words of a row, as fields of it
module _ (ws : List ℕ) (e : ℕ) where
  pub row_id : get_or ws (e * row_width) 0 ≡ (row_at ws e).id
  unfolding entry_from
  row_id = refl

  pub row_running : eqb (get_or ws (e * row_width + 1) 0) 1 ≡ (row_at ws e).running
  unfolding entry_from
  row_running = refl

  pub row_count : get_or ws (e * row_width + 2) 0 ≡ (row_at ws e).count
  unfolding entry_from
  row_count = refl

pub row-item : (ws : List ℕ) (e j : ℕ) → j < update_limit → item_at ws (e * row_width + 3 + j * 5) ≡ get_or (row_at ws e).items j no_item
unfolding entry_from
row-item ws e zero h = ap (item_at ws) (omega arith)
row-item ws e (suc zero) h = ap (item_at ws) (omega arith)
row-item ws e (suc (suc zero)) h = ap (item_at ws) (omega arith)
row-item ws e (suc (suc (suc zero))) h = ap (item_at ws) (omega arith)
row-item ws e (suc (suc (suc (suc j)))) h = absurd (omega arith)

-- ### What stays as it was

module _ (old new : List ℕ) where
  item-same : (at : ℕ) → Same at 5 old new → item_at new at ≡ item_at old at
  unfolding item_at
  item-same at s =
      rw (
        s at (omega arith) (omega arith),
        s (at + 1) (omega arith) (omega arith),
        s (at + 2) (omega arith) (omega arith),
        s (at + 3) (omega arith) (omega arith),
        s (at + 4) (omega arith) (omega arith),
      )

  pub entry-same : (at : ℕ) → Same at 23 old new → entry_from new at ≡ entry_from old at
  unfolding entry_from
  entry-same at s =
      rw (
        s at (omega arith) (omega arith),
        s (at + 1) (omega arith) (omega arith),
        s (at + 2) (omega arith) (omega arith),
        item-same (at + 3) (λ k l m. s k (omega arith) (omega arith)),
        item-same (at + 8) (λ k l m. s k (omega arith) (omega arith)),
        item-same (at + 13) (λ k l m. s k (omega arith) (omega arith)),
        item-same (at + 18) (λ k l m. s k (omega arith) (omega arith)),
      )

-- ### Stores one behind the other

-- what is stored from `at + k` on
abbrev pub puts : List ℕ → ℕ → ℕ → List ℕ → List ℕ
puts ws at k [] = ws
puts ws at k (v ∷ vs) = puts (set ws (at + k) v) at (suc k) vs

pub puts-kept : (ws : List ℕ) (at k : ℕ) (vs : List ℕ) → UnchangedOutside (at + k) (length vs) ws (puts ws at k vs)
puts-kept ws at k [] = record { before = λ j l. refl; behind = λ j l. refl }
puts-kept ws at k (v ∷ vs) =
    kept_then (kept_wide (at + k) (suc (length vs)) (kept_set ws (at + k) v) (omega arith) (omega arith))
    (kept_wide (at + k) (suc (length vs)) (puts-kept (set ws (at + k) v) at (suc k) vs) (omega arith) (omega arith))

-- the store at `at + j`
pub puts-at : (ws : List ℕ) (at k : ℕ) (vs : List ℕ) (j : ℕ) → at + k + length vs ≤ length ws → j < length vs
    → get_or (puts ws at k vs) (at + (k + j)) 0 ≡ get_or vs j 0
puts-at ws at k [] j h l = absurd (let z : suc j ≤ 0 = l in omega arith)
puts-at ws at k (v ∷ vs) zero h l =
    let e : at + (k + 0) ≡ at + k = omega arith in
    ap (λ (m : ℕ). get_or (puts (set ws (at + k) v) at (suc k) vs) m 0) e
    ∙ (puts-kept (set ws (at + k) v) at (suc k) vs).before (at + k) (omega arith)
    ∙ get_or-set_same ws (at + k) v 0 (omega arith)
puts-at ws at k (v ∷ vs) (suc j) h l =
    let e : at + (k + suc j) ≡ at + (suc k + j) = omega arith in
    ap (λ (m : ℕ). get_or (puts (set ws (at + k) v) at (suc k) vs) m 0) e
    ∙ puts-at (set ws (at + k) v) at (suc k) vs j (omega (arith, length-set ws (at + k) v)) (omega arith)

pub puts_long : (ws : List ℕ) (at k : ℕ) (vs : List ℕ) → length (puts ws at k vs) ≡ length ws
puts_long ws at k [] = refl
puts_long ws at k (v ∷ vs) = puts_long (set ws (at + k) v) at (suc k) vs ∙ length-set ws (at + k) v

-- A store at `at` and those behind it.
module _ (ws : List ℕ) (at v : ℕ) (vs : List ℕ) (room : at + suc (length vs) ≤ length ws) where
  pub stores_first : get_or (puts (set ws at v) at 1 vs) at 0 ≡ v
  stores_first = (puts-kept (set ws at v) at 1 vs).before at (omega arith) ∙ get_or-set_same ws at v 0 (omega arith)

  pub stores_at : (j : ℕ) → j < length vs → get_or (puts (set ws at v) at 1 vs) (at + (1 + j)) 0 ≡ get_or vs j 0
  stores_at j l = puts-at (set ws at v) at 1 vs j (omega (arith, length-set ws at v)) l

  pub stores_kept : UnchangedOutside at (suc (length vs)) ws (puts (set ws at v) at 1 vs)
  stores_kept =
      kept_then (kept_wide at (suc (length vs)) (kept_set ws at v) (omega arith) (omega arith))
      (kept_wide at (suc (length vs)) (puts-kept (set ws at v) at 1 vs) (omega arith) (omega arith))

-- ### Writing an item and an entry

named_number : (r : Rule) → rule_named (rule_number r) ≡ r
unfolding rule_named rule_number
named_number Inc = refl
named_number Set = refl
named_number Not = refl
named_number Unk = refl

-- the item of five words
item_is : (ws : List ℕ) (at : ℕ) (x : Item) → x.history < 256 → get_or ws at 0 ≡ rule_number x.rule
    → get_or ws (at + 1) 0 ≡ x.history → get_or ws (at + 2) 0 ≡ x.version.0 → get_or ws (at + 3) 0 ≡ x.place.0
    → get_or ws (at + 4) 0 ≡ x.operand
    → item_at ws at ≡ x
unfolding item_at
item_is ws at x low r h v p o =
    λ i. record {
      rule = (ap rule_named r ∙ named_number x.rule) i;
      history = (ap (within 256) h ∙ within_of 256 x.history low) i;
      version = record { 0 = v i };
      place = record { 0 = p i };
      operand = o i;
    }

-- The five stores of an item.
pub item-put : (ws : List ℕ) (at : ℕ) (x : Item) (r : ℕ) → at + 5 ≤ length ws → x.history < 256
    → r ≡ rule_number x.rule
    → PutItem at x ws (puts (set ws at r) at 1 (x.history ∷ x.version.0 ∷ x.place.0 ∷ x.operand ∷ []))
item-put ws at x r room low e =
    let vs : List ℕ = x.history ∷ x.version.0 ∷ x.place.0 ∷ x.operand ∷ [] in
    let s = stores_at ws at r vs room in
    record {
      item =
          item_is _ at x low (stores_first ws at r vs room ∙ e) (s 0 (omega arith)) (s 1 (omega arith)) (s 2 (omega arith))
          (s 3 (omega arith));
      rest = stores_kept ws at r vs room;
      long = puts_long (set ws at r) at 1 vs ∙ length-set ws at r;
    }

-- a list of four, element by element
pub four-whole : {A : Type 0} (d : A) (l : List A) → length l ≡ update_limit → get_or l 0 d ∷ get_or l 1 d ∷ get_or l 2 d ∷ get_or l 3 d ∷ [] ≡ l
four-whole {A} d l n = ext_get_or d (first_four (λ (x : A). x) d l) l (sym n) (λ i h. four-at (λ (x : A). x) d l i d h)

-- The stores of an entry: its first three words, and then its items.
module _ (ws : List ℕ) (at : ℕ) (e : Entry) (b : ℕ) (room : at + row_width ≤ length ws) (long : length e.items ≡ update_limit)
    (bit : eqb b 1 ≡ e.running) (w x y z : List ℕ)
    (one : PutItem (at + 3) (get_or e.items 0 no_item) (puts (set ws at e.id) at 1 (b ∷ e.count ∷ [])) w)
    (two : PutItem (at + 8) (get_or e.items 1 no_item) w x) (three : PutItem (at + 13) (get_or e.items 2 no_item) x y)
    (four : PutItem (at + 18) (get_or e.items 3 no_item) y z) where
  -- the words that change behind each part
  behind-two : UnchangedOutside (at + 13) 10 x z
  behind-two =
      kept_then (kept_wide (at + 13) 10 three.rest (omega arith) (omega arith))
      (kept_wide (at + 13) 10 four.rest (omega arith) (omega arith))

  behind-one : UnchangedOutside (at + 8) 15 w z
  behind-one =
      kept_then (kept_wide (at + 8) 15 two.rest (omega arith) (omega arith))
      (kept_wide (at + 8) 15 behind-two (omega arith) (omega arith))

  behind-start : UnchangedOutside (at + 3) 20 (puts (set ws at e.id) at 1 (b ∷ e.count ∷ [])) z
  behind-start =
      kept_then (kept_wide (at + 3) 20 one.rest (omega arith) (omega arith))
      (kept_wide (at + 3) 20 behind-one (omega arith) (omega arith))

  entry-rest : UnchangedOutside at 23 ws z
  entry-rest =
      kept_then (kept_wide at 23 (stores_kept ws at e.id (b ∷ e.count ∷ []) (omega arith)) (omega arith) (omega arith))
      (kept_wide at 23 behind-start (omega arith) (omega arith))

  entry-written : entry_from z at ≡ e
  unfolding entry_from
  entry-written =
      let s = stores_at ws at e.id (b ∷ e.count ∷ []) (omega arith) in
      let first = item-same w z (at + 3) (kept_same (at + 3) 5 behind-one (inl (omega arith))) ∙ one.item in
      let second = item-same x z (at + 8) (kept_same (at + 8) 5 behind-two (inl (omega arith))) ∙ two.item in
      let third = item-same y z (at + 13) (kept_same (at + 13) 5 four.rest (inl (omega arith))) ∙ three.item in
      λ i. record {
        id = (behind-start.before at (omega arith) ∙ stores_first ws at e.id (b ∷ e.count ∷ []) (omega arith)) i;
        running = (ap (λ (n : ℕ). eqb n 1) (behind-start.before (at + 1) (omega arith) ∙ s 0 (omega arith)) ∙ bit) i;
        count = (behind-start.before (at + 2) (omega arith) ∙ s 1 (omega arith)) i;
        items = (four_eq first second third four.item ∙ four-whole no_item e.items long) i;
      }

  pub row_written : (i : ℕ) → at ≡ i * row_width → PutRow i e ws z
  row_written i q = record {
    row = ap (entry_from z) (sym q) ∙ entry-written;
    noted = entry-rest.behind (i * row_width + 23) (omega (arith, q));
    rest = kept_wide (i * row_width) row_width entry-rest (omega (arith, q)) (omega (arith, q));
    long =
        four.long ∙ three.long ∙ two.long ∙ one.long ∙ puts_long (set ws at e.id) at 1 (b ∷ e.count ∷ [])
        ∙ length-set ws at e.id;
  }

-- the words of two entries
abbrev pub Apart : ℕ → ℕ → Type 0
Apart e i = (i * row_width + row_width ≤ e * row_width) ⊎ (e * row_width + row_width ≤ i * row_width)

pub apart : (e i : ℕ) → (i ≡ e → ⊥) → Apart e i
apart e i ne = go (ltb i e) refl
  where
    go : (b : Bool) → ltb i e ≡ b → Apart e i
    go true t = inl (omega (arith, ltb-true i e t))
    go false t = let l : suc e ≤ i = lt_of_le-ne (ltb-false i e t) (λ x. ne (sym x)) in inr (omega (arith, l))

-- word j of entry i is as it was
abbrev pub WordKept : List ℕ → List ℕ → ℕ → ℕ → Type 0
WordKept old new i j = get_or new (i * row_width + j) 0 ≡ get_or old (i * row_width + j) 0

-- a word of another entry
pub word_kept : (e : ℕ) (old new : List ℕ) → UnchangedOutside (e * row_width) row_width old new → (i j : ℕ) → (i ≡ e → ⊥) → j < row_width
    → WordKept old new i j
word_kept e old new q i j ne l = go (apart e i ne)
  where
    go : Apart e i → WordKept old new i j
    go (inl h) = q.before (i * row_width + j) (omega arith)
    go (inr h) = q.behind (i * row_width + j) (omega arith)

-- a row of which no word differs
pub row_same : (old new : List ℕ) (i : ℕ) → ((j : ℕ) → j < row_width → WordKept old new i j) → row_at new i ≡ row_at old i
row_same old new i s =
    entry-same old new (i * row_width)
    (λ k l m.
    let j = k - i * row_width in
    let d : k ≡ i * row_width + j = omega arith in
    ap (λ (n : ℕ). get_or new n 0) d ∙ s j (omega arith) ∙ ap (λ (n : ℕ). get_or old n 0) (sym d))

-- what is the same of each number of a list
pub each_same : {A : Type 0} (f g : ℕ → A) (es : List ℕ) → ((i : ℕ) → 1 ≤ tally i es → g i ≡ f i) → map g es ≡ map f es
unfolding tally
each_same f g [] h = refl
each_same {A} f g (x ∷ es) h =
    ap₂ (λ (r : A) (rs : List A). r ∷ rs) (h x (omega (arith, tally_head x es))) (each_same f g es (λ i l. h i (omega arith)))

-- rows of which no word differs
pub rows_same : (old new : List ℕ) (es : List ℕ) → ((i : ℕ) → 1 ≤ tally i es → row_at new i ≡ row_at old i)
    → map (row_at new) es ≡ map (row_at old) es
rows_same old new es h = each_same (row_at old) (row_at new) es h

module _ (e : ℕ) (r : Entry) (old new : List ℕ) (put : PutRow e r old new) where
  -- a row but that of e
  pub row_other : (i : ℕ) → (i ≡ e → ⊥) → row_at new i ≡ row_at old i
  row_other i ne = row_same old new i (λ j l. word_kept e old new put.rest i j ne l)

  -- rows of which none is that of e
  pub rows_other : (es : List ℕ) → tally e es ≡ 0 → map (row_at new) es ≡ map (row_at old) es
  rows_other es z = rows_same old new es (λ i l. row_other i (λ q. omega (arith, ap (λ (k : ℕ). tally k es) q)))

-- rows of which one is that of e
pub rows-set : (r : Entry) (old new : List ℕ) (es : List ℕ) (k : ℕ) → PutRow (get_or es k 0) r old new → k < length es
    → tally (get_or es k 0) es ≤ 1 → map (row_at new) es ≡ set (map (row_at old) es) k r
unfolding tally
rows-set r old new [] k put h one = absurd (omega arith)
rows-set r old new (x ∷ es) zero put h one =
    ap₂ (λ (y : Entry) (ys : List Entry). y ∷ ys) put.row (rows_other x r old new put es (omega (arith, one, tally_head x es)))
rows-set r old new (x ∷ es) (suc k) put h one =
    let e = get_or es k 0 in
    let l : 1 ≤ tally e es = tally-at k es (omega arith) in
    ap₂ (λ (y : Entry) (ys : List Entry). y ∷ ys)
    (row_other e r old new put x
    (λ q. omega (arith, one, l, tally_head x es, ap (λ (i : ℕ). tally i (x ∷ es)) q, ap (λ (i : ℕ). tally i es) q)))
    (rows-set r old new es k put (omega arith) (omega (arith, one)))

-- ### Starting

-- The store that sets an entry in progress.
started : (ws : List ℕ) (at : ℕ) → at + row_width ≤ length ws → entry_from (set ws (at + 1) 1) at ≡ begun (entry_from ws at)
unfolding entry_from
started ws at room =
    let q = kept_set ws (at + 1) 1 in
    let item : (k : ℕ) → at + 2 ≤ k → item_at (set ws (at + 1) 1) k ≡ item_at ws k =
    λ k h. item-same ws (set ws (at + 1) 1) k (kept_same k 5 q (inr (omega arith))) in
    λ i. record {
      id = q.before at (omega arith) i;
      running = ap (λ (n : ℕ). eqb n 1) (get_or-set_same ws (at + 1) 1 0 (omega arith)) i;
      count = q.behind (at + 2) (omega arith) i;
      items =
          item (at + 3) (omega arith) i
          ∷ item (at + 8) (omega arith) i
          ∷ item (at + 13) (omega arith) i
          ∷ item (at + 18) (omega arith) i
          ∷ [];
    }

pub start-put : (ws : List ℕ) (e : ℕ) → e * row_width + row_width ≤ length ws
    → PutRow e (begun (row_at ws e)) ws (set ws (e * row_width + 1) 1)
start-put ws e room = record {
  row = started ws (e * row_width) room;
  noted = (kept_set ws (e * row_width + 1) 1).behind (e * row_width + 23) (omega arith);
  rest = kept_wide (e * row_width) row_width (kept_set ws (e * row_width + 1) 1) (omega arith) (omega arith);
  long = length-set ws (e * row_width + 1) 1;
}
