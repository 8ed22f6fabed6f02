-- Three words and four items, each read from its place in the row.
use Rattle.std.proofs.Common.{◌*◌}
use Rattle.table.specs.Rows.{row_width}
use Rattle.table.specs.RowLaws.{entry_read}
use Rattle.table.proofs.rows.row_at.Goals as goal

pub returns : goal.returns
returns c =
    entry_read c.args.words.now (c.args.e * row_width)
    c.item_at.ensures c.item_at-2.ensures c.item_at-3.ensures c.item_at-4.ensures
