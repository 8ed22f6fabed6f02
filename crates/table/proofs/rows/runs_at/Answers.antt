-- The word is that of the row's field.
use Rattle.table.specs.RowLaws.{row_running}
use Rattle.table.proofs.rows.runs_at.Goals as goal

pub returns : goal.returns
returns c = row_running _ _
