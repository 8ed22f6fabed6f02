-- Each round sets the version of one history.
use Rattle.std.proofs.Common.{ℕ, arith, get_or}
use Rattle.table.specs.Rows.{row_at}
use Rattle.table.specs.VersionLaws.{stamp_start, stamp_next, stamp_end}
use Rattle.table.proofs.versions.stamp.Goals as goal

pub loop-j-init : goal.loop-j-init
loop-j-init c = stamp_start c.args.versions.now (row_at c.args.rows.now c.args.e) c.told-versions

pub loop-j-preserved : goal.loop-j-preserved
loop-j-preserved c =
    let l = c.loop-j in
    stamp_next l.versions c.args.versions.now (row_at c.args.rows.now c.args.e) l.j c.item_in-x.result c.requires.1
    (omega (arith, c.count_at-j-end.ensures)) c.item_in-x.ensures l.invariant

pub returns : goal.returns
returns c =
    let l = c.loop-j in
    stamp_end l.versions (λ (h : ℕ). get_or c.args.versions.now h 0) (row_at c.args.rows.now c.args.e) l.j
    (omega (arith, c.count_at-j-end.ensures)) l.invariant
