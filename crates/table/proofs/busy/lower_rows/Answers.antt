-- The updates of the next operation are still counted; they are counted no longer after its round.
use Rattle.std.proofs.Common.{◌≡◌, ◌+◌, arith, sym, ap, subst, ◌∙◌}
use Rattle.history.specs.Entries.{UsableEntry}
use Rattle.table.specs.Rows.{row_at}
use Rattle.table.specs.BusyLaws.{lowered_start, lowered_next, lowered_some}
use Rattle.table.specs.RangeLaws.{slice_long, slice_place, slice_at}
use Rattle.table.proofs.busy.lower_rows.Goals as goal

pub loop-e-init : goal.loop-e-init
loop-e-init c =
    let z : c.args.from + 0 ≡ c.args.from = omega arith in
    rw z (lowered_start c.args.order.now c.args.rows.now c.args.from c.args.book.now)

pub lower-requires : goal.lower-requires
lower-requires c =
    let a = c.args in
    let o = a.order.now in
    let u = c.requires.usable.0 in
    let k = c.loop-e.e-index in
    let lt = c.loop-e-test.true in
    let p = slice_place o a.from a.to u.few k lt in
    let read = c.row_at.ensures ∙ ap (row_at a.rows.now) (slice_at o a.from a.to u.few k lt) in
    let usable = subst UsableEntry (sym read) (u.each (a.from + k) p) in (
      usable,
      lowered_some o a.rows.now a.from (a.from + k) (omega arith) _ read c.loop-e.book a.book.now c.loop-e.invariant
          a.to p u.few usable c.requires.by_index,
    )

pub loop-e-preserved : goal.loop-e-preserved
loop-e-preserved c =
    let a = c.args in
    let o = a.order.now in
    let u = c.requires.usable.0 in
    let k = c.loop-e.e-index in
    let lt = c.loop-e-test.true in
    let read = c.row_at.ensures ∙ ap (row_at a.rows.now) (slice_at o a.from a.to u.few k lt) in
    let z : a.from + (k + 1) ≡ a.from + k + 1 = omega arith in
    rw z
    (lowered_next o a.rows.now a.from (a.from + k) (omega arith) _ read c.loop-e.book a.book.now c.loop-e.invariant _
    (omega (arith, u.few, slice_place o a.from a.to u.few k lt)) c.lower.ensures)

pub returns : goal.returns
returns c =
    let a = c.args in
    let e : a.from + c.loop-e.e-index ≡ a.to = omega (arith, c.requires.usable.1, slice_long a.order.now a.from a.to c.requires.usable.0.few) in
    rw e at c.loop-e.invariant
