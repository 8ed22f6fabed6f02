-- The module and what is lent to it are as they were.
use Rattle.std.proofs.Common.{refl}
use Rattle.fitting_module.proofs.lines.refused.Goals as goal

pub returns : goal.returns
returns c = λ m.
    record { answer = c.refusal.ensures m.lists; same = refl; kept = refl }
