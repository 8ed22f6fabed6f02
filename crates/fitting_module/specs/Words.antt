-- A module's counters: fifteen words for each slot.
use Rattle.std.specs.Prelude.{ℕ, List, [], ◌∷◌, get_or}
use Rattle.module.specs.declared.Slot.{Slot}
use Rattle.module.specs.declared.Module.{Module}
use Rattle.module.specs.Model.{slot_in}
use Rattle.call_words.specs.Counters.{open_at, site_at, site_words}

-- how many words a slot has
abbrev pub slot_words : ℕ
slot_words = 15

-- The slot whose counters are the words: behind those of its site, how many entries it is promised, and how many entry numbers it holds.
unfoldable pub slot_at : List ℕ → Slot
slot_at ws = record { site = site_at ws; opened = open_at ws; promise = get_or ws 13 0; held = get_or ws 14 0 }

-- The counters of a slot.
unfoldable pub words_of : Slot → List ℕ
words_of s = site_words s.opened s.site (s.promise ∷ s.held ∷ [])

-- The counters of the four slots.
pub record Words : Type 0 where
  pub first : List ℕ
  pub second : List ℕ
  pub third : List ℕ
  pub fourth : List ℕ

abbrev pub words : List ℕ → List ℕ → List ℕ → List ℕ → Words
words a b c d = record { first = a; second = b; third = c; fourth = d }

-- The module whose counters they are, and the counters of a module.
abbrev pub module_at : Words → Module
module_at w = record { slots = slot_at w.first ∷ slot_at w.second ∷ slot_at w.third ∷ slot_at w.fourth ∷ [] }

abbrev pub words_in : List Slot → Words
words_in l = words (words_of (slot_in l 0)) (words_of (slot_in l 1)) (words_of (slot_in l 2)) (words_of (slot_in l 3))
