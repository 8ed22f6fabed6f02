-- Each round adds one operation.
use Rattle.std.proofs.Common.{rules, ◌≡◌, ℕ, ◌+◌, arith, get_or}
use Rattle.table.specs.VersionLaws.{advance_start, advance_next}
use Rattle.table.specs.RangeLaws.{slice_long, slice_place, slice_at}
use Rattle.table.proofs.versions.advance.Goals as goal

pub loop-e-init : goal.loop-e-init
loop-e-init c =
    let z : c.args.from + 0 ≡ c.args.from = omega arith in
    rw z (advance_start c.args.order.now c.args.rows.now c.args.from c.args.versions (search rules))

pub loop-e-preserved : goal.loop-e-preserved
loop-e-preserved c =
    let a = c.args in
    let o = a.order.now in
    let few = c.requires.0.few in
    let k = c.loop-e.e-index in
    let lt = c.loop-e-test.true in
    let z : a.from + (k + 1) ≡ a.from + k + 1 = omega arith in
    rw z
    (advance_next o a.rows.now a.from _ c.loop-e.versions (λ (h : ℕ). get_or a.versions h 0) (a.from + k) (omega arith)
    (omega (arith, few, slice_place o a.from a.to few k lt)) c.loop-e.invariant
    (rw (slice_at o a.from a.to few k lt) at c.stamp.ensures))

pub returns : goal.returns
returns c =
    let a = c.args in
    let e : a.from + c.loop-e.e-index ≡ a.to = omega (arith, c.requires.1, slice_long a.order.now a.from a.to c.requires.0.few) in
    rw e at c.loop-e.invariant
