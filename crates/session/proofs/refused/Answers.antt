-- `session::refused` meets its contract: the site and what is lent to it are as they were. Assumes nothing.
use mathlib.Core.Path.{refl}
use Rattle.session.proofs.refused.Goals as goal

pub returns : goal.returns
returns c = λ m.
    record { answer = c.refusal.ensures m.lists; site = refl; kept = refl }
