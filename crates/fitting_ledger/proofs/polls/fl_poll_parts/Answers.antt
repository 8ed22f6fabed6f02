-- The open site's poll is the specification's, whatever log, rows and order it is valid with; without a site it is 14.
use Rattle.std.proofs.Common.{sym, []}
use Rattle.forms.specs.Refusals.{number_of}
use Rattle.site.specs.Model.{lent}
use Rattle.site.specs.Polls.{polled_of}
use Rattle.fitting_ledger.specs.Polls.{poll-opened, poll-before}
use Rattle.fitting_ledger.proofs.polls.fl_poll_parts.Goals as goal

pub poll-requires : goal.poll-requires
poll-requires c =
    let a = c.args in
    (a.log.now, a.rows.now, a.order.now, c.requires.session.site c.in-Some.site (sym c.in-Some.ensures))

pub returns : goal.returns
returns c =
    let a = c.args in
    let p = c.poll in
    poll-opened a.counters.now (lent a.log.now a.rows.now a.order.now a.book.now []) a.history c.in-Some.site c.poll_number.result
    (polled_of p.result) (sym c.in-Some.ensures) c.poll_number.ensures
    (p.ensures a.log.now a.rows.now a.order.now (c.requires.session.site c.in-Some.site (sym c.in-Some.ensures)))

pub returns-in_default : goal.returns-in_default
unfolding number_of
returns-in_default c =
    let a = c.args in
    poll-before a.counters.now (lent a.log.now a.rows.now a.order.now a.book.now []) a.history (sym c.in_default.ensures)
