-- The numbers between move on by one, and the number itself goes into its place.
use Rattle.table.specs.ShiftLaws.{forward_copied}
use Rattle.table.proofs.order.move_forward.Goals as goal

pub returns : goal.returns
returns c =
    let a = c.args in
    forward_copied a.from a.to a.order.now c.copy_within.new.self c.requires.0 c.requires.1 c.copy_within.ensures.len
    c.copy_within.ensures.after
