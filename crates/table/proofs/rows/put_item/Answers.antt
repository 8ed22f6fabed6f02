-- Five stores, one behind the other: each word is then read back as its field.
use Rattle.std.proofs.Common.{rules, ◌<◌}
use Rattle.table.specs.RowLaws.{item-put}
use Rattle.table.proofs.rows.put_item.Goals as goal

pub returns : goal.returns
returns c =
    let low : c.args.x.history < 256 = search rules in
    item-put c.args.words.now c.args.at c.args.x _ c.requires low c.rule_number.ensures
