-- Each round adds one update; at the end they are all.
use Rattle.std.proofs.Common.{List, map, refl, ap, ◌∙◌, take_all}
use Rattle.history.specs.declared.Item.{Item}
use Rattle.history.specs.Entries.{cell_of, cells_of, items_of, item_update, operation_of}
use Rattle.history.specs.Cells.{findings_in}
use Rattle.history.specs.CellLaws.{findings_next}
use Rattle.history.specs.Words.{histories_in}
use Rattle.history.proofs.turns.findings.Goals as goal

pub loop-x-init : goal.loop-x-init
unfolding findings_in
loop-x-init c = refl

pub loop-x-preserved : goal.loop-x-preserved
loop-x-preserved c =
    let l = c.loop-x in
    c.found-f.ensures
    ∙ findings_next (cells_of (histories_in c.args.book.now)) (items_of c.args.e) l.x-index (cell_of c.history_at.result) l.f
    c.loop-x-test.true (ap cell_of c.history_at.ensures) l.invariant

pub returns : goal.returns
unfolding operation_of
returns c =
    let l = c.loop-x in
    let xs = items_of c.args.e in
    l.invariant
    ∙ ap (λ (ys : List Item). findings_in (cells_of (histories_in c.args.book.now)) (map item_update ys)) (take_all l.x-index xs c.loop-x-test.false)
