-- Before the end of those chained the link is read, and behind it the next pair follows.
use Rattle.std.proofs.Common.{◌∙◌}
use Rattle.removal.specs.ChainLaws.{after_links, after_walks_on}
use Rattle.removal.proofs.chains.after.Goals as goal

pub returns-then-p-lt-CHAINED : goal.returns-then-p-lt-CHAINED
returns-then-p-lt-CHAINED c = c.from.ensures ∙ after_links c.args.chains.now c.args.p c.if-p-lt-CHAINED.true

pub returns-else-p-lt-CHAINED : goal.returns-else-p-lt-CHAINED
returns-else-p-lt-CHAINED c = after_walks_on c.args.chains.now c.args.p c.if-p-lt-CHAINED.false
