-- The first k numbers are put aside, those from k to n move to the front, and those that were put aside go behind them.
use Rattle.std.proofs.Common.{ℕ, ◌≡◌, List, ap, length, length-take-le, take_at, arith, ◌∙◌}
use Rattle.table.specs.ShiftLaws.{turned_copied}
use Rattle.table.proofs.order.turn.Goals as goal

pub returns : goal.returns
returns c =
    let a = c.args in
    let first = c.copy_from_slice in
    let long : length first.new.self ≡ a.k =
    ap (λ (l : List ℕ). length l) first.ensures.after ∙ length-take-le a.k a.order.now (omega (arith, c.requires)) in
    turned_copied a.k a.n a.order.now c.copy_within.new.self c.copy_from_slice-2.new.self c.requires.0 c.requires.1
    c.copy_within.ensures.after
    (c.copy_from_slice-2.ensures.after ∙ take_at first.new.self _ a.k long ∙ first.ensures.after)
