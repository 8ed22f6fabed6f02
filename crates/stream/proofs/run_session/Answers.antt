-- The replies to the whole lines come from `feed`, and so does the session after them; where all bytes are used, `finish` adds the reply to
-- the unended rest.
use mathlib.Core.Path.{◌≡◌}
use lib.ListN.{length}
use Rattle.site.specs.Model.{lent}
use Rattle.stream.specs.RunLaws.{session-after, run_stops, run-whole, run_short}
use borrow.Author.Rules.{rules}
use Rattle.stream.proofs.run_session.Goals as goal

pub feed-f-requires : goal.feed-f-requires
feed-f-requires c =
    let a = c.args in
    (c.start-start.ensures (lent a.log.now a.rows.now a.order.now a.book.now a.lists.now)).valid

pub returns-then-f-input : goal.returns-then-f-input
returns-then-f-input c =
    let f = c.feed-f in
    let s = c.start-start in
    let a = c.args in
    let old = lent a.log.now a.rows.now a.order.now a.book.now a.lists.now in
    let new = lent f.new.log f.new.rows f.new.order f.new.book f.new.lists in
    let page = f.new.out in
    record {
      runs = run_stops a.input.now old s.result f.result new a.out.now page (s.ensures old) f.ensures c.if-f-input.true;
      valid = f.ensures.valid.session;
      session = session-after a.input.now old s.result f.result new a.out.now page (s.ensures old) f.ensures;
    }

pub returns-in-Some : goal.returns-in-Some
returns-in-Some c =
    let f = c.feed-f in
    let s = c.start-start in
    let a = c.args in
    let old = lent a.log.now a.rows.now a.order.now a.book.now a.lists.now in
    let new = lent f.new.log f.new.rows f.new.order f.new.book f.new.lists in
    let page = f.new.out in
    let all = c.if-f-input.false in
    let z = c.finish in
    record {
      runs = run-whole a.input.now old s.result f.result new a.out.now page (s.ensures old) f.ensures
          all z.result _ z.ensures c.in-Some.written c.in-Some.is;
      valid = f.ensures.valid.session;
      session = session-after a.input.now old s.result f.result new a.out.now page (s.ensures old) f.ensures;
    }

pub returns-in-None : goal.returns-in-None
returns-in-None c =
    let f = c.feed-f in
    let a = c.args in
    let long : length f.new.out ≡ length a.out.now = search (rules, f.auto) in
    let s = c.start-start in
    let old = lent a.log.now a.rows.now a.order.now a.book.now a.lists.now in
    let new = lent f.new.log f.new.rows f.new.order f.new.book f.new.lists in
    let page = f.new.out in
    let all = c.if-f-input.false in
    let z = c.finish in
    record {
      runs = run_short a.input.now old s.result f.result new a.out.now page (s.ensures old) f.ensures
          all z.result _ z.ensures c.in-None.is long;
      valid = f.ensures.valid.session;
      session = session-after a.input.now old s.result f.result new a.out.now page (s.ensures old) f.ensures;
    }
