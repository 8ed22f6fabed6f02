-- The contract of opening says what was handed back; `begin` puts its counters away.
use Rattle.std.proofs.Common.{[], length}
use Rattle.rules.specs.Calls.{open_site}
use Rattle.site.specs.Model.{lent}
use Rattle.fitting_ledger.specs.BeginLaws.{begins}
use Rattle.fitting_ledger.proofs.start.fl_start_parts.Goals as goal

pub returns : goal.returns
returns c =
    let a = c.args in
    let o = c.open-c in
    begins (lent a.log.now a.rows.now a.order.now a.book.now []) (open_site a.histories (length a.log.now)) o.result _ _ _
    (o.ensures []) c.begin.ensures.0 c.begin.ensures.1
