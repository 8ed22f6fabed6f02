-- Rows in words: how the entries of the table stand in the numbers that are lent to it, 24 for each.
use Rattle.std.specs.Prelude.{ℕ, ◌+◌, ◌*◌, ◌≤◌, ◌≡◌, true, cond, List, [], ◌∷◌, eqb, length, get_or}
use Rattle.forms.specs.declared.Rule.{Rule}
use Rattle.forms.specs.declared.Rule.TheVariants.{Inc, Set, Not, Unk}
use Rattle.history.specs.declared.Item.{Item}
use Rattle.history.specs.declared.Entry.{Entry}
use Rattle.history.specs.Words.{within, UnchangedOutside}

-- How many words a row has.
abbrev pub row_width : ℕ
row_width = 24

-- the number of a rule, and the rule of a number
unfoldable pub rule_number : Rule → ℕ
rule_number Inc = 0
rule_number Set = 1
rule_number Not = 2
rule_number Unk = 3

unfoldable pub rule_named : ℕ → Rule
rule_named n = cond (eqb n 0) Inc (cond (eqb n 1) Set (cond (eqb n 2) Not Unk))

-- the item whose five words begin at `at`
unfoldable pub item_at : List ℕ → ℕ → Item
item_at ws at =
    record {
      rule = rule_named (get_or ws at 0);
      history = within 256 (get_or ws (at + 1) 0);
      version = record { 0 = get_or ws (at + 2) 0 };
      place = record { 0 = get_or ws (at + 3) 0 };
      operand = get_or ws (at + 4) 0;
    }

-- The item's five words begin at `at` now; the other words are as they were.
pub record PutItem (at : ℕ) (x : Item) (old new : List ℕ) : Type 0 where
  pub item : item_at new at ≡ x
  pub rest : UnchangedOutside at 5 old new
  pub long : length new ≡ length old

-- the entry whose words begin at `at`
unfoldable pub entry_from : List ℕ → ℕ → Entry
entry_from ws at =
    record {
      id = get_or ws at 0;
      running = eqb (get_or ws (at + 1) 0) 1;
      count = get_or ws (at + 2) 0;
      items = item_at ws (at + 3) ∷ item_at ws (at + 8) ∷ item_at ws (at + 13) ∷ item_at ws (at + 18) ∷ [];
    }

-- the row of entry e
abbrev pub row_at : List ℕ → ℕ → Entry
row_at ws e = entry_from ws (e * row_width)

-- the stable mark noted in the row of entry e, behind the entry's words
abbrev pub mark_at : List ℕ → ℕ → ℕ
mark_at ws e = get_or ws (e * row_width + 23) 0

-- the entry in progress
abbrev pub begun : Entry → Entry
begun e = record { id = e.id; running = true; count = e.count; items = e.items }

-- Entry e has a row in these words.
abbrev pub HasRow : List ℕ → ℕ → Type 0
HasRow ws e = e * row_width + row_width ≤ length ws

-- Entry e has the row r now; the mark noted there, and all other words, are as they were.
pub record PutRow (e : ℕ) (r : Entry) (old new : List ℕ) : Type 0 where
  pub row : row_at new e ≡ r
  pub noted : mark_at new e ≡ mark_at old e
  pub rest : UnchangedOutside (e * row_width) row_width old new
  pub long : length new ≡ length old

-- The mark m is noted in the row of entry e now; all other words are as they were.
pub record PutMark (e m : ℕ) (old new : List ℕ) : Type 0 where
  pub mark : mark_at new e ≡ m
  pub rest : UnchangedOutside (e * row_width + 23) 1 old new
  pub long : length new ≡ length old

-- Entry e has the row r and the mark m now; all other words are as they were.
pub record PutNoted (e : ℕ) (r : Entry) (m : ℕ) (old new : List ℕ) : Type 0 where
  pub between : List ℕ
  pub row : PutRow e r old between
  pub mark : PutMark e m between new
