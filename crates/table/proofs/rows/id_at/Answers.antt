-- The row begins with the id.
use Rattle.table.specs.RowLaws.{row_id}
use Rattle.table.proofs.rows.id_at.Goals as goal

pub returns : goal.returns
returns c = row_id _ _
