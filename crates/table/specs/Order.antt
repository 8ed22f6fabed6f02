-- Lists of entry numbers: how often a number stands in one, and what a change of places makes of it.
use Rattle.std.specs.Prelude.{ℕ, ◌+◌, List, [], ◌∷◌, ◌++◌, cond, eqb, get_or, take, drop}
use Rattle.table.specs.Lists.{omit}

-- How often a number stands in a list.
unfoldable pub tally : ℕ → List ℕ → ℕ
tally e [] = 0
tally e (x ∷ xs) = cond (eqb x e) 1 0 + tally e xs

-- The list with x at place j, those from j on behind it.
abbrev pub insert : {A : Type 0} → ℕ → A → List A → List A
insert j x l = take j l ++ (x ∷ drop j l)

-- The list with its number at i taken out and put in again at place j.
unfoldable pub moved : ℕ → ℕ → List ℕ → List ℕ
moved i j l = insert j (get_or l i 0) (omit i l)

-- The list in which, of the first n numbers, the first k stand behind the others.
unfoldable pub turned : ℕ → ℕ → List ℕ → List ℕ
turned k n l = drop k (take n l) ++ (take k l ++ drop n l)
