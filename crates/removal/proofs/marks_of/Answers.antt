-- The slots of the log's lines are those that the walk asks for; its marks are then exact.
use Rattle.std.proofs.Common.{◌≡◌, length, rules}
use Rattle.removal.specs.ReportLaws.{marks_placed, marks_fall}
use Rattle.removal.proofs.marks_of.Goals as goal

pub mark-requires : goal.mark-requires
mark-requires c =
    let long : length c.read_slots.new.slots ≡ 23824 = let a = c.blank_slots-slots.ensures in let k = c.read_slots.auto in search rules in
    marks_placed c.args.s.now c.args.j c.args.pairs.now c.args.lost.now c.read_slots.new.slots c.requires long
    (c.read_slots.ensures c.requires.histories c.requires.lines c.requires.stands)

pub returns : goal.returns
returns c =
    let long : length c.read_slots.new.slots ≡ 23824 = let a = c.blank_slots-slots.ensures in let k = c.read_slots.auto in search rules in
    marks_fall c.args.s.now c.args.j c.args.pairs.now c.args.lost.now c.read_slots.new.slots c.mark.result c.requires long
    c.read_slots.ensures c.mark.ensures
