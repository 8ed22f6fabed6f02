-- What is in progress is not overtaken; of another entry `never_at` has the answer.
use Rattle.std.proofs.Common.{sym, ◌∙◌}
use Rattle.history.specs.Cells.{overtaken_in}
use Rattle.history.specs.Entries.{operation_of}
use Rattle.table.proofs.overtaken.overtaken_at.Goals as goal

pub returns-then-not-runs_at : goal.returns-then-not-runs_at
unfolding overtaken_in operation_of
returns-then-not-runs_at c = rw (sym c.runs_at.ensures ∙ c.if-not-runs_at.true) c.never_at.ensures

pub returns-else-not-runs_at : goal.returns-else-not-runs_at
unfolding overtaken_in operation_of
returns-else-not-runs_at c = rw (c.if-not-runs_at.false, sym c.runs_at.ensures ∙ c.if-not-runs_at.false)
