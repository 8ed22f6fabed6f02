-- Each round adds the id of one entry.
use Rattle.std.proofs.Common.{◌≡◌, ◌+◌, ◌-◌, arith}
use Rattle.table.specs.NumberLaws.{ids-start, ids_next}
use Rattle.table.specs.RangeLaws.{slice_long, slice_place, slice_at}
use Rattle.table.proofs.search.ids.Goals as goal

pub loop-k-init : goal.loop-k-init
loop-k-init c =
    let z : c.args.from + 0 ≡ c.args.from = omega arith in
    rw z (ids-start c.args.order.now c.args.rows.now c.args.from c.args.lists.now c.args.at c.told-lists)

pub loop-k-preserved : goal.loop-k-preserved
loop-k-preserved c =
    let a = c.args in
    let o = a.order.now in
    let few = c.requires.0.few in
    let k = c.loop-k.k in
    let lt = c.loop-k-test.true in
    let z : a.from + (k + 1) ≡ a.from + k + 1 = omega arith in
    rw z
    (ids_next o a.rows.now a.from k a.lists.now a.at c.loop-k.lists _ _
    (omega (arith, few, slice_place o a.from a.to few k lt)) c.loop-k.invariant
    (rw (slice_at o a.from a.to few k lt) at c.id_at.ensures) c.push_number.ensures (omega arith))

pub returns : goal.returns
returns c =
    let a = c.args in
    let e : c.loop-k.k ≡ a.to - a.from = omega (arith, slice_long a.order.now a.from a.to c.requires.0.few) in
    let f : a.from + (a.to - a.from) ≡ a.to = omega (arith, c.requires.1) in
    let k = rw f at (rw e at c.loop-k.invariant) in
    record { few = omega arith; room = omega (arith, k.long); wrote = k.wrote }
