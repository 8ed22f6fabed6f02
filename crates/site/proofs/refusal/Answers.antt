-- A bare reply of the refusal's form says the refusal, by the contract of the bare reply.
use Rattle.forms.specs.Held.{outcome_with}
use Rattle.site.proofs.refusal.Goals as goal

pub returns : goal.returns
unfolding outcome_with
returns c = c.bare.ensures.says
