-- The word is that of the row's field.
use Rattle.table.specs.RowLaws.{row_count}
use Rattle.table.proofs.rows.count_at.Goals as goal

pub returns : goal.returns
returns c = row_count _ _
