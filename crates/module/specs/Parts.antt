-- The numbers of the table's entries in one list: slot j's part of it has 64 places, from place 64 · j on. The first of them are the
-- numbers that the slot holds: those of its live operations, and behind them free ones.
use Rattle.std.specs.Prelude.{ℕ, ◌+◌, ◌*◌, ◌≤◌, ◌<◌, ◌≡◌, ◌⊎◌, List, length, get_or, take, drop}
use Rattle.forms.specs.Lists.{below}
use Rattle.table.specs.Order.{tally}
use Rattle.module.specs.Four.{four}

-- the places of a slot's part: it "may use 64"
abbrev pub part_room : ℕ
part_room = 64

-- how many entries the table has
abbrev pub table_room : ℕ
table_room = 128

-- the first n numbers of slot j's part
abbrev pub part_of : ℕ → ℕ → List ℕ → List ℕ
part_of j n ns = take n (drop (part_room * j) ns)

-- Where slot j holds h j numbers, each of the numbers 0 .. 127 is held once.
pub record Shared (h : ℕ → ℕ) (ns : List ℕ) : Type 0 where
  pub long : length ns ≡ 4 * part_room
  pub few : (j : ℕ) → j < 4 → h j ≤ part_room
  pub all : four h ≡ table_room
  pub each : (e : ℕ) → four (λ (j : ℕ). tally e (part_of j (h j) ns)) ≡ tally e (below table_room)

-- Slot i has been given free numbers of its neighbours: it holds k i where it held h i. A neighbour keeps those of its live operations, and
-- no place differs but those that slot i holds now and did not hold.
pub record Gathers (i : ℕ) (live h k : ℕ → ℕ) (old new : List ℕ) : Type 0 where
  pub shared : Shared k new
  pub more : h i ≤ k i
  pub stays : (j : ℕ) → j < 4 → live j ≤ k j
  pub kept : (p : ℕ) → (p < part_room * i + h i) ⊎ (part_room * i + k i ≤ p) → get_or new p 0 ≡ get_or old p 0
