-- What is in progress does not start; of another entry `all_ready` has the answer.
use Rattle.std.proofs.Common.{sym, ◌∙◌}
use Rattle.history.specs.Entries.{operation_of}
use Rattle.table.specs.Tries.{starts_by}
use Rattle.table.proofs.tries.may_start.Goals as goal

pub returns-then-not-runs_at : goal.returns-then-not-runs_at
unfolding starts_by operation_of
returns-then-not-runs_at c = rw (sym c.runs_at.ensures ∙ c.if-not-runs_at.true) c.all_ready.ensures

pub returns-else-not-runs_at : goal.returns-else-not-runs_at
unfolding starts_by operation_of
returns-else-not-runs_at c = rw (c.if-not-runs_at.false, sym c.runs_at.ensures ∙ c.if-not-runs_at.false)
