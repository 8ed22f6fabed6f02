-- Each round sets the marks of one update.
use Rattle.std.proofs.Common.{arith, ap, Bool, false, ◌||◌, get_or}
use Rattle.table.specs.Rows.{row_at}
use Rattle.table.specs.MarkLaws.{marking_start, marking_next, marking_end}
use Rattle.table.proofs.blocking.marked.Goals as goal

pub loop-j-init : goal.loop-j-init
loop-j-init c = marking_start (row_at c.args.rows.now c.args.e) c.args.m c.requires.any_len.0 c.requires.any_len.1

pub loop-j-preserved : goal.loop-j-preserved
loop-j-preserved c =
    let l = c.loop-j in
    let x = c.item_in-x in
    marking_next l.j (row_at c.args.rows.now c.args.e) _ l.m _ x.result c.requires.has_row.1
    (omega (arith, c.count_at-j-end.ensures)) x.ensures l.invariant
    (ap (λ (b : Bool). get_or l.m.strong x.result.history false || b) c.is_strong.ensures)

pub returns : goal.returns
returns c = marking_end c.loop-j.j (row_at c.args.rows.now c.args.e) _ _ (omega (arith, c.count_at-j-end.ensures)) c.loop-j.invariant
