-- The open site's persistent keeps its own contract, and what it hands back is put away; without a site it is 14.
use Rattle.std.proofs.Common.{sym}
use Rattle.forms.specs.Refusals.{number_of}
use Rattle.rules.specs.Calls.{Call}
use Rattle.site.specs.Model.{lent}
use Rattle.fitting_ledger.specs.CallLaws.{performs, performs_not}
use Rattle.fitting_ledger.proofs.calls.fl_persistent_parts.Goals as goal

pub persistent-r-requires : goal.persistent-r-requires
persistent-r-requires c = c.requires.session.site c.in-Some.site (sym c.in-Some.ensures)

pub returns : goal.returns
returns c =
    let a = c.args in
    let r = c.persistent-r in
    let p = c.put_call in
    performs c.in-Some.site a.counters.now (lent a.log.now a.rows.now a.order.now a.book.now a.numbers.now) (Call.Persistent a.n) r.result
    (lent a.log.now a.rows.now r.new.order r.new.book r.new.lists) p.result p.new.counters a.answer.now p.new.answer
    (sym c.in-Some.ensures) c.requires r.ensures p.ensures

pub returns-in_default : goal.returns-in_default
unfolding number_of
returns-in_default c =
    let a = c.args in
    performs_not a.counters.now (lent a.log.now a.rows.now a.order.now a.book.now a.numbers.now) (Call.Persistent a.n) a.answer.now (sym c.in_default.ensures) c.requires
