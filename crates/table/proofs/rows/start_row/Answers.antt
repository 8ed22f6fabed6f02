-- One store into the row's second word: the row's other words, and all others, are as they were.
use Rattle.table.specs.RowLaws.{start-put}
use Rattle.table.proofs.rows.start_row.Goals as goal

pub returns : goal.returns
returns c = start-put c.args.words.now c.args.e c.requires
