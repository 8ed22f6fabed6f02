-- The session at the run's end is valid and the specification's, so each poll is that of the state that the input leads to.
use Rattle.std.proofs.Common.{ℕ, ◌*◌, List, replicate}
use borrow.Author.Tests.{not-true, not-false}
use Rattle.history.specs.Words.{width}
use Rattle.table.specs.Rows.{row_width}
use Rattle.site.specs.Model.{Lent, lent}
use Rattle.c_api.specs.PollCallLaws.{polls-whole, polls-part}
use Rattle.c_api.proofs.polls.session_polls.Goals as goal

-- what is lent at first: the log buffer and tables of zeros
abbrev blank : List ℕ → Lent
blank log = lent log (replicate (64 * row_width) 0) (replicate 64 0) (replicate (16 * width) 0) (replicate 68 0)

pub poll_each-requires : goal.poll_each-requires
poll_each-requires c =
    let r = c.run_session-r in
    λ x o. (r.new.log, r.new.rows, r.new.order, r.ensures.valid.site x o)

pub returns-then-not-r : goal.returns-then-not-r
returns-then-not-r c =
    let a = c.args in
    let r = c.run_session-r in
    let new = lent r.new.log r.new.rows r.new.order r.new.book r.new.lists in
    polls-part a.input.now (blank a.log.now) r.result new a.out.now r.new.out a.histories.now r.ensures (not-true _ c.if-not-r.true)

pub returns : goal.returns
returns c =
    let a = c.args in
    let r = c.run_session-r in
    let new = lent r.new.log r.new.rows r.new.order r.new.book r.new.lists in
    let p = c.poll_each in
    polls-whole a.input.now (blank a.log.now) r.result new a.out.now r.new.out a.histories.now r.ensures p.new.histories
    (not-false _ c.if-not-r.false) (p.ensures new.log new.rows new.order new.lists r.ensures.valid)
