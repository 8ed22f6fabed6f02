-- The session that the counters are takes its turn, and its counters are put away; there is room for its reply, since that was asked first.
use Rattle.std.proofs.Common.{arith, [], replicate}
use Rattle.site.specs.Model.{lent}
use Rattle.fitting_ledger.specs.CounterLaws.{session_valid}
use Rattle.fitting_ledger.specs.TakeLaws.{answers-line, answers-short}
use Rattle.fitting_ledger.proofs.lines.fl_line_parts.Goals as goal

pub returns-then-out-lt-REPLY_BYTES : goal.returns-then-out-lt-REPLY_BYTES
returns-then-out-lt-REPLY_BYTES c =
    let a = c.args in
    answers-short a.counters.now (lent a.log.now a.rows.now a.order.now a.book.now []) _ a.out.now c.if-out-lt-REPLY_BYTES.true

pub turn-t-requires : goal.turn-t-requires
turn-t-requires c =
    let a = c.args in
    let s = c.session_at-s in
    session_valid s.result a.counters.now (lent a.log.now a.rows.now a.order.now a.book.now []) s.ensures c.requires

pub returns : goal.returns
returns c =
    let a = c.args in
    let s = c.session_at-s in
    let t = c.turn-t in
    let p = c.put_session in
    let w = c.put_reply in
    let old = lent a.log.now a.rows.now a.order.now a.book.now (replicate 68 0) in
    let new = lent t.new.log t.new.rows t.new.order t.new.book t.new.lists in
    answers-line s.result a.counters.now old a.line.now t.result new p.new.words a.out.now w.new.out w.result
    s.ensures (omega (arith, c.if-out-lt-REPLY_BYTES.false)) c.requires t.ensures p.ensures w.ensures
