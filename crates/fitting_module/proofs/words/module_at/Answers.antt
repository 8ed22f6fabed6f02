-- Each slot is read from its own array.
use Rattle.std.proofs.Common.{[], ◌∷◌}
use Rattle.fitting_module.proofs.words.module_at.Goals as goal

pub returns : goal.returns
returns c = λ i.
    record { slots = c.slot_at.ensures i ∷ c.slot_at-2.ensures i ∷ c.slot_at-3.ensures i ∷ c.slot_at-4.ensures i ∷ [] }
