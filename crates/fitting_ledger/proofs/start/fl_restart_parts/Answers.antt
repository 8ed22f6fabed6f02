-- The contract of restart says what was handed back; `begin` puts its counters away.
use Rattle.std.proofs.Common.{[]}
use Rattle.rules.specs.Calls.{restart}
use Rattle.site.specs.Model.{lent}
use Rattle.fitting_ledger.specs.BeginLaws.{begins}
use Rattle.fitting_ledger.proofs.start.fl_restart_parts.Goals as goal

pub returns : goal.returns
returns c =
    let a = c.args in
    let o = c.restart-c in
    begins (lent a.log.now a.rows.now a.order.now a.book.now []) (restart a.log.now a.kept) o.result _ _ _
    (o.ensures []) c.begin.ensures.0 c.begin.ensures.1
