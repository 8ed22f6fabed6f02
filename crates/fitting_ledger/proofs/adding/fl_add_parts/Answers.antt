-- The rules' numbers are asked first: 1. Then the open site's add keeps its own contract, and what it hands back is put away.
use Rattle.std.proofs.Common.{sym, refl}
use borrow.Author.Rules.{rules}
use Rattle.forms.specs.Refusals.{number_of}
use Rattle.rules.specs.Calls.{Call}
use Rattle.site.specs.Model.{lent}
use Rattle.site.specs.Trim.{updates_held}
use Rattle.call_words.specs.Adding.{held_in}
use Rattle.fitting_ledger.specs.CallLaws.{performs_alone, performs_not}
use Rattle.fitting_ledger.specs.AddingLaws.{performs_add, performs_unread}
use Rattle.fitting_ledger.proofs.adding.fl_add_parts.Goals as goal

pub add-r-requires : goal.add-r-requires
add-r-requires c = c.requires.session.site c.in-Some.site (sym c.in-Some.ensures)

pub returns-then-not-rules_known : goal.returns-then-not-rules_known
unfolding number_of
returns-then-not-rules_known c =
    let a = c.args in
    performs_unread a.counters.now (lent a.log.now a.rows.now a.order.now a.book.now a.numbers.now) a.id a.count a.updates.now a.answer.now
    c.if-not-rules_known.ensures c.requires

pub returns-in_default : goal.returns-in_default
unfolding number_of
returns-in_default c =
    let a = c.args in
    let old = lent a.log.now a.rows.now a.order.now a.book.now a.numbers.now in
    performs_add a.counters.now old a.id a.count a.updates.now (held_in a.count a.updates.now) _ a.counters.now old a.answer.now a.answer.now
    c.if-not-rules_known.ensures refl
    (performs_not a.counters.now old (Call.Add a.id (updates_held (held_in a.count a.updates.now))) a.answer.now
    (sym c.in_default.ensures) c.requires)

pub returns : goal.returns
returns c =
    let a = c.args in
    let h = c.held_in-asked in
    let r = c.add-r in
    let p = c.put_call in
    let old = lent a.log.now a.rows.now a.order.now a.book.now a.numbers.now in
    let new = lent a.log.now r.new.rows a.order.now r.new.book r.new.lists in
    performs_add a.counters.now old a.id a.count a.updates.now h.result p.result p.new.counters new a.answer.now p.new.answer
    c.if-not-rules_known.ensures h.ensures
    (performs_alone c.in-Some.site a.counters.now old (Call.Add a.id (updates_held h.result)) r.result new p.result p.new.counters
    a.answer.now p.new.answer (search rules) (sym c.in-Some.ensures) c.requires r.ensures p.ensures)
