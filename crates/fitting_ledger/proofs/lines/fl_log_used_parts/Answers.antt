-- A valid site's bytes in use are its log's.
use Rattle.std.proofs.Common.{ap, ◌∙◌, []}
use Rattle.site.specs.Model.{lent}
use Rattle.session.specs.Model.{used_of}
use Rattle.fitting_ledger.specs.TakeLaws.{used_is}
use Rattle.fitting_ledger.proofs.lines.fl_log_used_parts.Goals as goal

pub returns-in-Some : goal.returns-in-Some
returns-in-Some c =
    let a = c.args in
    ap used_of c.in-Some.ensures ∙ used_is a.counters.now (lent a.log.now a.rows.now a.order.now a.book.now []) c.requires

pub returns-in-None : goal.returns-in-None
returns-in-None c =
    let a = c.args in
    ap used_of c.in-None.ensures ∙ used_is a.counters.now (lent a.log.now a.rows.now a.order.now a.book.now []) c.requires
