-- Three stores and four items, one behind the other; a later one leaves what an earlier one wrote.
use Rattle.std.proofs.Common.{rules, ◌≡◌, ◌*◌, Bool, true, false, eqb, length, refl}
use mir.Val.{bool_byte}
use Rattle.table.specs.Rows.{row_width}
use Rattle.table.specs.RowLaws.{row_written}
use Rattle.table.proofs.rows.put_row.Goals as goal

-- the word of a truth value says it
bit : (b : Bool) → eqb (bool_byte b) 1 ≡ b
bit true = refl
bit false = refl

pub returns : goal.returns
returns c =
    let long : length c.args.r.items ≡ 4 = search rules in
    row_written c.args.words.now (c.args.e * row_width) c.args.r _ c.requires long (bit c.args.r.running) _ _ _ _
    c.put_item.ensures c.put_item-2.ensures c.put_item-3.ensures c.put_item-4.ensures c.args.e refl
