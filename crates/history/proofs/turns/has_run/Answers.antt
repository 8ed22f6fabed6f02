-- Of an ordered strong update the comparison of versions decides; any other has not run by the definition.
use Rattle.std.proofs.Common.{sym, ◌∙◌}
use Rattle.history.specs.Entries.{cell_of}
use Rattle.history.specs.CellLaws.{ran-ordered, ran_unordered}
use Rattle.history.proofs.turns.has_run.Goals as goal

pub returns-then-orders : goal.returns-then-orders
returns-then-orders c = ran-ordered (cell_of c.args.h) c.args.x (sym c.orders.ensures ∙ c.if-orders.true)

pub returns-else-orders : goal.returns-else-orders
returns-else-orders c = c.if-orders.false ∙ ran_unordered (cell_of c.args.h) c.args.x (sym c.orders.ensures ∙ c.if-orders.false)
