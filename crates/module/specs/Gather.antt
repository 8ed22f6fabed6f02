-- Free numbers that go from slot to slot: what the code asks for, and what it does.
use Rattle.std.specs.Prelude.{ℕ, ◌+◌, ◌*◌, ◌≤◌, ◌<◌, ◌≡◌, Bool, not, ◌&&◌, List, eqb, ltb, length, get_or, set}
use Rattle.module.specs.declared.Slot.{Slot}
use Rattle.module.specs.Four.{four}
use Rattle.module.specs.Parts.{part_room, table_room, Shared, Gathers}
use Rattle.module.specs.Model.{slot_in, live_in, held_in}

-- the slot holding n numbers
abbrev pub with_held : ℕ → Slot → Slot
with_held n s = record { site = s.site; opened = s.opened; promise = s.promise; held = n }

-- The table has more entries than slot i holds and its neighbours have live: so a neighbour holds a free one.
pub record MaySpare (l : List Slot) (i : ℕ) : Type 0 where
  pub size : length l ≡ 4
  pub own : i < 4
  pub few : (j : ℕ) → j < 4 → live_in l j ≤ held_in l j
  pub most : (j : ℕ) → j < 4 → held_in l j ≤ part_room
  pub all : four (held_in l) ≡ table_room
  pub enough : held_in l i + four (live_in l) < table_room + live_in l i

-- Is slot j a neighbour of slot i that holds a free number?
abbrev pub spare_at : List Slot → ℕ → ℕ → Bool
spare_at l i j = not (eqb j i) && ltb (live_in l j) (held_in l j)

pub record IsSpare (l : List Slot) (i j : ℕ) : Type 0 where
  pub within : j < 4
  pub other : j ≡ i → ⊥
  pub free : live_in l j < held_in l j

pub record MayGive (l : List Slot) (ns : List ℕ) (i j : ℕ) : Type 0 where
  pub size : length l ≡ 4
  pub own : i < 4
  pub within : j < 4
  pub other : j ≡ i → ⊥
  pub long : length ns ≡ 4 * part_room
  pub few : held_in l j ≤ part_room
  pub some : 1 ≤ held_in l j
  pub room : held_in l i < part_room

-- Slot i has one number more, which was the last of slot j's.
pub record Gives (l : List Slot) (ns : List ℕ) (i j : ℕ) (k : List Slot) (ms : List ℕ) : Type 0 where
  pub size : length k ≡ 4
  pub slots : (n : ℕ) → slot_in k n ≡ with_held (held_in k n) (slot_in l n)
  pub gives : held_in k j + 1 ≡ held_in l j
  pub takes : held_in k i ≡ held_in l i + 1
  pub rest : (n : ℕ) → n < 4 → (n ≡ i → ⊥) → (n ≡ j → ⊥) → held_in k n ≡ held_in l n
  pub numbers : ms ≡ set ns (part_room * i + held_in l i) (get_or ns (part_room * j + held_in k j) 0)

pub record MayGather (l : List Slot) (ns : List ℕ) (i n : ℕ) : Type 0 where
  pub size : length l ≡ 4
  pub own : i < 4
  pub few : (j : ℕ) → j < 4 → live_in l j ≤ held_in l j
  pub shared : Shared (held_in l) ns
  pub most : n ≤ part_room
  pub enough : n + four (live_in l) ≤ table_room + live_in l i

-- The slots differ in the numbers that they hold, which slot i was given.
pub record GathersIn (l : List Slot) (ns : List ℕ) (i : ℕ) (k : List Slot) (ms : List ℕ) : Type 0 where
  pub size : length k ≡ 4
  pub slots : (j : ℕ) → slot_in k j ≡ with_held (held_in k j) (slot_in l j)
  pub gathers : Gathers i (live_in l) (held_in l) (held_in k) ns ms

pub record Gathered (l : List Slot) (ns : List ℕ) (i n : ℕ) (k : List Slot) (ms : List ℕ) : Type 0 where
  pub into : GathersIn l ns i k ms
  pub reached : n ≤ held_in k i
