-- The open site's answer is the specification's, whatever rows, order and histories it is valid with; without a site it is 14.
use Rattle.std.proofs.Common.{sym, []}
use Rattle.forms.specs.Refusals.{number_of}
use Rattle.site.specs.Model.{lent}
use Rattle.fitting_ledger.specs.FindLaws.{finds_opened, finds_before}
use Rattle.fitting_ledger.proofs.finds.fl_find_cut_parts.Goals as goal

pub find_cut-found-requires : goal.find_cut-found-requires
find_cut-found-requires c =
    let a = c.args in
    (a.rows.now, a.order.now, a.book.now, c.requires.session.site c.in-Some.site (sym c.in-Some.ensures))

pub returns : goal.returns
returns c =
    let a = c.args in
    let f = c.find_cut-found in
    finds_opened a.counters.now (lent a.log.now a.rows.now a.order.now a.book.now []) a.places.now c.in-Some.site f.result
    c.put_said.result a.kept.now c.put_said.new.value (sym c.in-Some.ensures)
    (f.ensures a.rows.now a.order.now a.book.now (c.requires.session.site c.in-Some.site (sym c.in-Some.ensures)))
    c.put_said.ensures.0 c.put_said.ensures.1

pub returns-in_default : goal.returns-in_default
unfolding number_of
returns-in_default c =
    let a = c.args in
    finds_before a.counters.now (lent a.log.now a.rows.now a.order.now a.book.now []) a.places.now a.kept.now (sym c.in_default.ensures)
