-- Counters that were written are read as they were.
use Rattle.std.proofs.Common.{arith, ◌∙◌}
use Rattle.std.specs.Prelude.{◌≡◌, refl, List, [], ◌∷◌, length}
use Rattle.module.specs.declared.Slot.{Slot}
use Rattle.module.specs.declared.Module.{Module}
use Rattle.module.specs.Model.{slot_in}
use Rattle.call_words.specs.Counters.{open_words, site_words_lem, site_words}
use Rattle.fitting_module.specs.Words.{slot_at, words_of, module_at, words_in}

-- The slot of a slot's counters is that slot.
pub slot_words_lem : (s : Slot) → slot_at (words_of s) ≡ s
unfolding slot_at words_of site_words
slot_words_lem s =
    let rest = s.promise ∷ s.held ∷ [] in
    λ i. record {
      site = site_words_lem s.opened s.site rest i;
      opened = open_words s.opened s.site rest i;
      promise = s.promise;
      held = s.held;
    }

-- four slots, one by one
four_slots : (l : List Slot) → length l ≡ 4 → (slot_in l 0 ∷ slot_in l 1 ∷ slot_in l 2 ∷ slot_in l 3 ∷ []) ≡ l
four_slots [] e = absurd (omega (arith, e))
four_slots (a ∷ []) e = absurd (omega (arith, e))
four_slots (a ∷ b ∷ []) e = absurd (omega (arith, e))
four_slots (a ∷ b ∷ c ∷ []) e = absurd (omega (arith, e))
four_slots (a ∷ b ∷ c ∷ d ∷ []) e = refl
four_slots (a ∷ b ∷ c ∷ d ∷ x ∷ l) e = absurd (omega (arith, e))

-- The module of a module's counters is that module.
pub module_words : (m : Module) → length m.slots ≡ 4 → module_at (words_in m.slots) ≡ m
module_words m e =
    let l = m.slots in
    (λ i. record {
      slots = slot_words_lem (slot_in l 0) i ∷ slot_words_lem (slot_in l 1) i ∷ slot_words_lem (slot_in l 2) i ∷ slot_words_lem (slot_in l 3) i ∷ [];
    })
    ∙ (λ i. record { slots = four_slots l e i })
