-- An entry that is not in progress holds no update, so the marks stay; the other case is `marked`.
use Rattle.std.proofs.Common.{sym, ◌∙◌}
use Rattle.history.specs.Entries.{operation_of}
use Rattle.table.specs.MarkLaws.{more_none}
use Rattle.table.proofs.blocking.marked_by.Goals as goal

pub returns-then-runs_at : goal.returns-then-runs_at
unfolding operation_of
returns-then-runs_at c = rw (sym c.runs_at.ensures ∙ c.if-runs_at.true) c.marked.ensures

pub returns-else-runs_at : goal.returns-else-runs_at
unfolding operation_of
returns-else-runs_at c =
    rw (sym c.runs_at.ensures ∙ c.if-runs_at.false) (more_none c.args.m c.requires.any_len.0 c.requires.any_len.1)
