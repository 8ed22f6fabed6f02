-- The numbers between move up by one, and the number itself goes into its place.
use Rattle.table.specs.ShiftLaws.{back_copied}
use Rattle.table.proofs.order.move_back.Goals as goal

pub returns : goal.returns
returns c =
    let a = c.args in
    back_copied a.from a.to a.order.now c.copy_within.new.self c.requires.0 c.requires.1 c.copy_within.ensures.len
    c.copy_within.ensures.after
