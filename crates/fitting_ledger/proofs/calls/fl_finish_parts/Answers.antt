-- The open site's finish keeps its own contract, and what it hands back is put away; without a site it is 14.
use Rattle.std.proofs.Common.{sym}
use Rattle.forms.specs.Refusals.{number_of}
use Rattle.rules.specs.Calls.{Call}
use Rattle.site.specs.Model.{lent}
use Rattle.fitting_ledger.specs.CallLaws.{performs, performs_not}
use Rattle.fitting_ledger.proofs.calls.fl_finish_parts.Goals as goal

pub finish-r-requires : goal.finish-r-requires
finish-r-requires c = c.requires.session.site c.in-Some.site (sym c.in-Some.ensures)

pub returns : goal.returns
returns c =
    let a = c.args in
    let r = c.finish-r in
    let p = c.put_call in
    performs c.in-Some.site a.counters.now (lent a.log.now a.rows.now a.order.now a.book.now a.numbers.now) (Call.Finish a.id) r.result
    (lent r.new.log r.new.rows r.new.order r.new.book r.new.lists) p.result p.new.counters a.answer.now p.new.answer
    (sym c.in-Some.ensures) c.requires r.ensures p.ensures

pub returns-in_default : goal.returns-in_default
unfolding number_of
returns-in_default c =
    let a = c.args in
    performs_not a.counters.now (lent a.log.now a.rows.now a.order.now a.book.now a.numbers.now) (Call.Finish a.id) a.answer.now (sym c.in_default.ensures) c.requires
