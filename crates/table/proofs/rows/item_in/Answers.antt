-- The words of item j begin at the row's word 3 + j * 5.
use Rattle.std.proofs.Common.{◌∙◌}
use Rattle.table.specs.RowLaws.{row-item}
use Rattle.table.proofs.rows.item_in.Goals as goal

pub returns : goal.returns
returns c = c.item_at.ensures ∙ row-item c.args.words.now c.args.e c.args.j c.requires.1
