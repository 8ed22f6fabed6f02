-- Whether the update may run, and then what the marks say of it.
use Rattle.std.proofs.Common.{refl, ◌∙◌}
use Rattle.history.specs.Words.{histories_in}
use Rattle.table.specs.EntryLaws.{may_read}
use Rattle.table.proofs.tries.is_ready.Goals as goal

pub returns-then-may_run : goal.returns-then-may_run
returns-then-may_run c =
    rw (may_read (histories_in c.args.book.now) c.args.x refl c.history_at.ensures c.may_run.ensures ∙ c.if-may_run.true) c.is_free.ensures

pub returns-else-may_run : goal.returns-else-may_run
returns-else-may_run c =
    rw (may_read (histories_in c.args.book.now) c.args.x refl c.history_at.ensures c.may_run.ensures ∙ c.if-may_run.false) c.if-may_run.false
