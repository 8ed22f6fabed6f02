-- Each field is read from its own word; what does not fit its field is read as 0.
use Rattle.table.specs.RowLaws.{item_read}
use Rattle.table.proofs.rows.item_at.Goals as goal

pub returns : goal.returns
returns c = item_read c.args.words.now c.args.at c.rule_named.ensures c.small_byte.ensures
