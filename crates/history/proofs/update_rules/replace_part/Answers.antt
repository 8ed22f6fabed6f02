-- The part that the operand names is cleared by the mask and set by the shifted byte: the law over the part.
use Rattle.history.proofs.Parts.{replaces}
use Rattle.history.proofs.update_rules.replace_part.Goals as goal

pub returns : goal.returns
returns c = replaces c.args.profile c.args.operand c.requires
