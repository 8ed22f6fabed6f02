-- The open site's trim is the specification's, whatever rows, order and histories it is valid with; without a site it is 14.
use Rattle.std.proofs.Common.{sym, []}
use Rattle.forms.specs.Refusals.{number_of}
use Rattle.site.specs.Model.{lent}
use Rattle.fitting_ledger.specs.TrimLaws.{trims_opened, trims_before}
use Rattle.fitting_ledger.proofs.trims.fl_trim_parts.Goals as goal

pub trim-copied-requires : goal.trim-copied-requires
trim-copied-requires c =
    let a = c.args in
    (a.rows.now, a.order.now, a.book.now, c.requires.session.site c.in-Some.site (sym c.in-Some.ensures))

pub returns : goal.returns
returns c =
    let a = c.args in
    let t = c.trim-copied in
    trims_opened a.counters.now (lent a.log.now a.rows.now a.order.now a.book.now []) a.n a.fresh.now c.in-Some.site t.result
    t.new.fresh c.put_said.result a.used.now c.put_said.new.value (sym c.in-Some.ensures)
    (t.ensures a.rows.now a.order.now a.book.now (c.requires.session.site c.in-Some.site (sym c.in-Some.ensures)))
    c.put_said.ensures.0 c.put_said.ensures.1

pub returns-in_default : goal.returns-in_default
unfolding number_of
returns-in_default c =
    let a = c.args in
    trims_before a.counters.now (lent a.log.now a.rows.now a.order.now a.book.now []) a.n a.fresh.now a.used.now (sym c.in_default.ensures)
