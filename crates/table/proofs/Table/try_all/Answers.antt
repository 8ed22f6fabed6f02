-- Each round tries one entry, against the marks of all that are in progress, and writes no other row.
use Rattle.std.proofs.Common.{◌≡◌, ◌+◌, ◌-◌, ◌<◌, arith, ap, sym, ◌∙◌, get_or, take, drop}
use Rattle.history.specs.Entries.{cells_of}
use Rattle.history.specs.Words.{histories_in}
use Rattle.table.specs.Rows.{row_at}
use Rattle.table.specs.RangeLaws.{slice_long, slice_place, slice_at}
use Rattle.table.specs.RoundLaws.{passing_none, passing_yes, passing_no, passing_at, passing_all}
use Rattle.table.proofs.Table.try_all.Goals as goal
use Rattle.table.proofs.Table.try_all.Goals.{then-may_start, else-may_start}

pub loop-e-init : goal.loop-e-init
loop-e-init c =
    let a = c.args in
    let z : a.self.finished + 0 ≡ a.self.finished = omega arith in
    rw z (
      omega arith,
      passing_none _ a.self a.order.now a.rows.now c.in_progress-m.result a.lists.now a.at c.requires.0 c.in_progress-m.ensures c.told-lists,
    )

pub may_start-requires : goal.may_start-requires
may_start-requires c =
    let l = c.loop-e in
    let o = c.args.order.now in
    let from = c.args.self.finished in
    let to = from + c.args.self.queue in
    let few = c.requires.0.usable.few in
    let u = l.invariant.1.usable in
    let lt = c.loop-e-test.true in
    let p = slice_place o from to few l.e-index lt in
    rw (slice_at o from to few l.e-index lt) (u.within (from + l.e-index) p, u.each (from + l.e-index) p)

pub marked-m-requires-clause-has_row : goal.marked-m-requires-clause-has_row
marked-m-requires-clause-has_row c =
    let l = c.loop-e in
    let o = c.args.order.now in
    let from = c.args.self.finished in
    let to = from + c.args.self.queue in
    let few = c.requires.0.usable.few in
    let u = l.invariant.1.usable in
    let lt = c.loop-e-test.true in
    let p = slice_place o from to few l.e-index lt in
    rw (slice_at o from to few l.e-index lt) (u.within (from + l.e-index) p, u.each (from + l.e-index) p)

pub marked-m-requires-clause-any_len : goal.marked-m-requires-clause-any_len
marked-m-requires-clause-any_len c =
    let marks = c.loop-e.invariant.1.tried.marks in
    (marks.each.long, marks.strongs.long)

pub overflow_add-at : goal.overflow_add-at
overflow_add-at c =
    let a = c.args in
    let lt = c.loop-e-test.true in
    omega (arith, c.loop-e.invariant.0, c.requires.1, slice_long a.order.now a.self.finished (a.self.finished + a.self.queue) c.requires.0.usable.few)

pub push_number-requires : goal.push_number-requires
push_number-requires c =
    let a = c.args in
    let lt = c.loop-e-test.true in
    omega (arith, c.loop-e.invariant.0, c.requires.1, slice_long a.order.now a.self.finished (a.self.finished + a.self.queue) c.requires.0.usable.few)

pub overflow_add-ready : goal.overflow_add-ready
overflow_add-ready c =
    let a = c.args in
    let lt = c.loop-e-test.true in
    omega (arith, c.loop-e.invariant.0, c.requires.1, slice_long a.order.now a.self.finished (a.self.finished + a.self.queue) c.requires.0.usable.few)

pub loop-e-preserved : goal.loop-e-preserved
loop-e-preserved c =
    let a = c.args in
    let l = c.loop-e in
    let cells = cells_of (histories_in a.book.now) in
    let o = a.order.now in
    let old = a.rows.now in
    let from = a.self.finished in
    let to = from + a.self.queue in
    let first = a.lists.now in
    let few = c.requires.0.usable.few in
    let lt = c.loop-e-test.true in
    let k = l.e-index in
    let p : from + k < to = slice_place o from to few k lt in
    let e = row_at l.rows (get_or (take (to - from) (drop from o)) k 0) in
    let read : e ≡ row_at l.rows (get_or o (from + k) 0) = ap (row_at l.rows) (slice_at o from to few k lt) in
    let z : from + (k + 1) ≡ from + k + 1 = omega arith in
    rw z
    (elim c.if-may_start.branch [
      | then-may_start w ↦
          let next =
          passing_at cells o old _ _ from _ _ _ first a.at (l.ready + 1) _ _ _ (from + k + 1) w.m-is w.rows-is w.ready-is w.lists-is
          (passing_yes cells o old l.rows from _ l.m first a.at l.ready l.lists (from + k) e read l.invariant.1 (omega arith) p
          w.marked-m.result _ _
          (sym c.may_start.ensures ∙ w.if-may_start.true) w.marked-m.ensures
          (rw (slice_at o from to few k lt) at w.start_row.ensures) w.id_at.result w.id_at.ensures w.push_number.ensures
          (omega (arith, l.invariant.0, c.requires.1)))
          in
          (omega (arith, l.invariant.0, w.ready-is), next)
      | else-may_start w ↦
          let next =
          passing_at cells o old l.rows _ from _ l.m _ first a.at l.ready _ l.lists _ (from + k + 1) w.m-is w.rows-is w.ready-is w.lists-is
          (passing_no cells o old l.rows from _ l.m first a.at l.ready l.lists (from + k) e read l.invariant.1 (omega arith) p
          (sym c.may_start.ensures ∙ w.if-may_start.false))
          in
          (omega (arith, l.invariant.0, w.ready-is), next)
    ])

pub returns : goal.returns
returns c =
    let a = c.args in
    let l = c.loop-e in
    passing_all _ a.self a.order.now a.rows.now l.rows l.m a.lists.now a.at _ _ (a.self.finished + l.e-index) c.requires.1
    (omega (arith, slice_long a.order.now a.self.finished (a.self.finished + a.self.queue) c.requires.0.usable.few))
    l.invariant.1
