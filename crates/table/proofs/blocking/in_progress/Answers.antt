-- Each round adds the marks of one entry.
use Rattle.std.proofs.Common.{◌≡◌, ◌+◌, arith}
use Rattle.table.specs.Tries.{held_of}
use Rattle.table.specs.MarkLaws.{marked_start, marked_next}
use Rattle.table.specs.RangeLaws.{slice_long, slice_place, slice_at}
use Rattle.table.proofs.blocking.in_progress.Goals as goal

pub loop-e-init : goal.loop-e-init
loop-e-init c =
    let z : c.args.from + 0 ≡ c.args.from = omega arith in
    rw z (marked_start held_of c.args.order.now c.args.rows.now c.args.from)

pub marked_by-m-requires-clause-any_len : goal.marked_by-m-requires-clause-any_len
marked_by-m-requires-clause-any_len c = (c.loop-e.invariant.each.long, c.loop-e.invariant.strongs.long)

pub loop-e-preserved : goal.loop-e-preserved
loop-e-preserved c =
    let a = c.args in
    let o = a.order.now in
    let few = c.requires.0.few in
    let k = c.loop-e.e-index in
    let lt = c.loop-e-test.true in
    let z : a.from + (k + 1) ≡ a.from + k + 1 = omega arith in
    rw z
    (marked_next held_of o a.rows.now c.loop-e.m c.marked_by-m.result a.from (a.from + k) (omega arith)
    (omega (arith, few, slice_place o a.from a.to few k lt)) c.loop-e.invariant
    (rw (slice_at o a.from a.to few k lt) at c.marked_by-m.ensures))

pub returns : goal.returns
returns c =
    let a = c.args in
    let e : a.from + c.loop-e.e-index ≡ a.to = omega (arith, slice_long a.order.now a.from a.to c.requires.0.few) in
    rw e at c.loop-e.invariant
