-- Three rows and an order of two live entries, computed: the ids and versions of a range, and the entry of an id, that of a free one not.
use Rattle.std.specs.Prelude.{ℕ, ◌≡◌, refl, List, [], ◌∷◌, ◌++◌, map, take, replicate, Some, None}
use Rattle.forms.specs.Lists.{sum}
use Rattle.history.specs.Words.{within, items_in, entry_in}
use Rattle.table.specs.Lists.{first_at}
use Rattle.table.specs.Rows.{rule_named, item_at, entry_from}
use Rattle.table.specs.Tables.{rows_in, id_of, has_id, entry_of, version_by, version_from}

-- a row with one update: history 1 set at this version
abbrev one_row : ℕ → ℕ → List ℕ
one_row id version = id ∷ 0 ∷ 1 ∷ 1 ∷ 1 ∷ version ∷ 1 ∷ 0 ∷ replicate 16 0

abbrev words : List ℕ
words = one_row 7 4 ++ (one_row 9 6 ++ one_row 5 8)

-- entries 2 and 0 are live, entry 1 is free
abbrev order : List ℕ
order = 2 ∷ 0 ∷ 1 ∷ []

pub ids_example : map id_of (rows_in order words 0 2) ≡ 5 ∷ 7 ∷ []
unfolding entry_from
ids_example = refl

pub second_example : first_at (has_id 7) (rows_in order words 0 2) ≡ Some 1
unfolding entry_from first_at
second_example = refl

pub live_example : entry_of words 5 (take 2 order) ≡ Some (record { 0 = 2 })
unfolding entry_from entry_of
live_example = refl

-- "none exactly if it is not live": the row of the free entry still has the id
pub freed_example : entry_of words 9 (take 2 order) ≡ None
unfolding entry_from entry_of
freed_example = refl

-- both are in history 1
pub counted_example : sum (entry_in 1) (rows_in order words 0 2) ≡ 2
unfolding entry_from item_at within rule_named items_in
counted_example = refl

pub uncounted_example : sum (entry_in 2) (rows_in order words 0 2) ≡ 0
unfolding entry_from item_at within rule_named items_in
uncounted_example = refl

-- each operation sets the version to its own, the later one last
pub versions_example : version_from 1 3 (rows_in order words 0 2) ≡ 4
unfolding entry_from item_at within rule_named version_by version_from
versions_example = refl
