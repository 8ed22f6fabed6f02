-- A strong update is never an overtaken reader; of a weak one the comparison of versions decides.
use Rattle.std.proofs.Common.{not, sym, ap, ◌∙◌}
use Rattle.history.specs.Entries.{cell_of}
use Rattle.history.specs.CellLaws.{overtaken-strong, overtaken_weak}
use Rattle.history.proofs.turns.is_overtaken.Goals as goal

pub returns-then-not-is_strong : goal.returns-then-not-is_strong
returns-then-not-is_strong c = overtaken_weak (cell_of c.args.h) c.args.x (sym c.is_strong.ensures ∙ c.if-not-is_strong.true)

pub returns-else-not-is_strong : goal.returns-else-not-is_strong
returns-else-not-is_strong c = ap not c.if-not-is_strong.false ∙ overtaken-strong (cell_of c.args.h) c.args.x (sym c.is_strong.ensures ∙ c.if-not-is_strong.false)
