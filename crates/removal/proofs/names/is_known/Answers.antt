-- Above the base it is known if it is not above the last; else it is not.
use Rattle.std.proofs.Common.{◌∙◌, le-ltb}
use Rattle.removal.specs.NameLaws.{known-above, known-below}
use Rattle.removal.proofs.names.is_known.Goals as goal

pub returns-then-base-k : goal.returns-then-base-k
returns-then-base-k c = known-above c.args.base.0 c.args.done.0 c.args.k.0 c.if-base-k.true

pub returns-else-base-k : goal.returns-else-base-k
returns-else-base-k c = le-ltb _ _ c.if-base-k.false ∙ known-below c.args.base.0 c.args.done.0 c.args.k.0 c.if-base-k.false
