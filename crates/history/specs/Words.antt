-- Histories in words: how the histories of a site, and their persistent and stable versions, stand in the numbers that are lent to it.
use Rattle.std.specs.Prelude.{ℕ, ◌+◌, ◌*◌, ◌≤◌, ◌<◌, ◌≡◌, cond, List, [], ◌∷◌, map, ltb, eqb, get_or, set, drop}
use Rattle.forms.specs.Lists.{below, sum}
use Rattle.forms.specs.Limits.{history_limit}
use Rattle.history.specs.declared.History.{History}
use Rattle.history.specs.declared.Item.{Item}
use Rattle.history.specs.declared.Entry.{Entry}
use Rattle.history.specs.Entries.{items_of, InFirst}
use Rattle.history.specs.Cells.{Applies}

-- a number below a limit, and 0 for any other
unfoldable pub within : ℕ → ℕ → ℕ
within limit n = cond (ltb n limit) n 0

-- Outside the n words that begin at `at`, the words are as they were.
pub record UnchangedOutside (at n : ℕ) (old new : List ℕ) : Type 0 where
  pub before : (k : ℕ) → k < at → get_or new k 0 ≡ get_or old k 0
  pub behind : (k : ℕ) → at + n ≤ k → get_or new k 0 ≡ get_or old k 0

-- ### What the words mean

-- How many numbers a history has: its profile, version and place, its persistent and its stable version, and how many of its updates are
-- future, in progress or volatile. Those of history i begin at `width * i`.
abbrev pub width : ℕ
width = 6

-- how many words all histories have
abbrev pub book_length : ℕ
book_length = 96

-- history i: its profile, its version and its place
unfoldable pub history_from : List ℕ → ℕ → History
history_from ws i =
    record {
      profile = get_or ws (width * i) 0;
      version = record { 0 = get_or ws (width * i + 1) 0 };
      place = record { 0 = get_or ws (width * i + 2) 0 };
    }

-- The histories that stand in words.
unfoldable pub histories_in : List ℕ → List History
histories_in ws = map (history_from ws) (below history_limit)

-- Number f of each history.
unfoldable pub column_from : ℕ → List ℕ → List ℕ
column_from f ws = map (λ (i : ℕ). get_or ws (width * i + f) 0) (below history_limit)

-- each history's persistent and stable version
abbrev pub persisted_in : List ℕ → List ℕ
persisted_in ws = column_from 3 ws

abbrev pub stabilised_in : List ℕ → List ℕ
stabilised_in ws = column_from 4 ws

-- how many updates of each history are future, in progress or volatile
abbrev pub busy_in : List ℕ → List ℕ
busy_in ws = column_from 5 ws

-- ### What is written

-- The words past those of the first n histories are as they were.
abbrev pub PastKept : ℕ → List ℕ → List ℕ → Type 0
PastKept n old new = drop (width * n) new ≡ drop (width * n) old

-- The persistent and stable versions, and the numbers of updates that are not persistent, are as they were.
pub record MarksKept (old new : List ℕ) : Type 0 where
  pub persisted : persisted_in new ≡ persisted_in old
  pub stabilised : stabilised_in new ≡ stabilised_in old
  pub busy : busy_in new ≡ busy_in old

-- History i is h now; the other histories, and the numbers that are not its profile, version and place, are as they were.
pub record PutHistory (i : ℕ) (h : History) (old new : List ℕ) : Type 0 where
  pub histories : histories_in new ≡ set (histories_in old) i h
  pub marks : MarksKept old new
  pub past : (n : ℕ) → i < n → PastKept n old new

-- Number f of each of the first n histories is that of the row now; their other numbers, and the words past them, are as they were.
pub record PutColumn (f n : ℕ) (row old new : List ℕ) : Type 0 where
  pub numbers : (h : ℕ) → h < n → get_or (column_from f new) h 0 ≡ get_or row h 0
  pub others : (g : ℕ) → g < width → (g ≡ f → ⊥) → column_from g new ≡ column_from g old
  pub histories : 3 ≤ f → histories_in new ≡ histories_in old
  pub past : PastKept n old new

-- The words of the first n histories have these values now; the words past them are as they were.
pub record PutFirst (n : ℕ) (f : ℕ → ℕ) (old new : List ℕ) : Type 0 where
  pub words : (k : ℕ) → k < width * n → get_or new k 0 ≡ f k
  pub past : PastKept n old new

-- .. 0, and those of another book
abbrev pub Cleared : ℕ → List ℕ → List ℕ → Type 0
Cleared n old new = PutFirst n (λ (k : ℕ). 0) old new

abbrev pub Copied : ℕ → List ℕ → List ℕ → List ℕ → Type 0
Copied n from old new = PutFirst n (λ (k : ℕ). get_or from k 0) old new

-- The histories after the changes of a line are what the book makes of them; the persistent and stable versions are as they were, and so
-- are the words past the first n histories, if the line's are among these.
pub record AppliesIn (e : Entry) (old new : List ℕ) : Type 0 where
  pub applies : Applies (histories_in old) e (histories_in new)
  pub marks : MarksKept old new
  pub past : (n : ℕ) → InFirst n e → PastKept n old new

-- ### Updates that are future, in progress or volatile

-- how many of some items are in history h
unfoldable pub items_in : ℕ → List Item → ℕ
items_in h [] = 0
items_in h (x ∷ xs) = cond (eqb x.history h) 1 0 + items_in h xs

-- how many updates in history h an entry has
abbrev pub entry_in : ℕ → Entry → ℕ
entry_in h e = items_in h (items_of e)

-- All updates of the entries are in the first n histories.
abbrev pub AllInFirst : ℕ → List Entry → Type 0
AllInFirst n es = (h : ℕ) → 1 ≤ sum (entry_in h) es → h < n

-- Each history has its number of updates of the entries more in `high` than in `low`; nothing else differs.
pub record CountsMore (es : List Entry) (low high : List ℕ) : Type 0 where
  pub numbers : (h : ℕ) → h < history_limit → get_or (busy_in high) h 0 ≡ get_or (busy_in low) h 0 + sum (entry_in h) es
  pub others : (g : ℕ) → g < width → (g ≡ 5 → ⊥) → column_from g high ≡ column_from g low
  pub histories : histories_in high ≡ histories_in low
  pub past : (n : ℕ) → AllInFirst n es → PastKept n low high
