-- A law of decimal numbers.
use Rattle.forms.specs.DecimalLaws.{digits-at_most}
use Rattle.forms.proofs.bounds.bound_digits.Goals as goal

pub returns : goal.returns
returns c = digits-at_most c.args.n c.bound_number.ensures
