-- The site is the one that came, and the reply is that of the refusal.
use Rattle.std.specs.Prelude.{refl}
use Rattle.site.proofs.Site.refuse.Goals as goal

pub returns : goal.returns
returns c = λ old. record { answer = c.refusal.ensures old.lists; site = refl; kept = refl }
