-- The open site's cut keeps its own contract, and what it hands back is put away; without a site it is 14.
use Rattle.std.proofs.Common.{sym, [], length}
use borrow.Author.Rules.{rules}
use Rattle.forms.specs.Refusals.{number_of}
use Rattle.rules.specs.Calls.{Call}
use Rattle.site.specs.Model.{lent}
use Rattle.fitting_ledger.specs.CallLaws.{performs_alone, performs_not}
use Rattle.fitting_ledger.proofs.plain_calls.fl_cut_parts.Goals as goal

pub cut-r-requires : goal.cut-r-requires
cut-r-requires c = c.requires.session.site c.in-Some.site (sym c.in-Some.ensures)

pub returns : goal.returns
returns c =
    let a = c.args in
    let r = c.cut-r in
    let p = c.put_call in
    performs_alone c.in-Some.site a.counters.now (lent a.log.now a.rows.now a.order.now a.book.now []) (Call.Cut a.k (length a.log.now)) r.result
    (lent a.log.now r.new.rows a.order.now r.new.book []) p.result p.new.counters a.answer.now p.new.answer
    (search rules) (sym c.in-Some.ensures) c.requires (r.ensures []) p.ensures

pub returns-in_default : goal.returns-in_default
unfolding number_of
returns-in_default c =
    let a = c.args in
    performs_not a.counters.now (lent a.log.now a.rows.now a.order.now a.book.now []) (Call.Cut a.k (length a.log.now)) a.answer.now (sym c.in_default.ensures) c.requires
