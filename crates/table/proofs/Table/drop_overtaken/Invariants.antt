-- Of the entries examined so far those that were overtaken have left, and the others stand before the next.
use Rattle.std.proofs.Common.{◌≤◌, ◌-◌}
use Rattle.table.specs.OvertakenLaws.{Dropping}
use Rattle.table.proofs.Table.drop_overtaken.Given as goal

abbrev pub invariant-loop-seen : goal.invariant-loop-seen
invariant-loop-seen l =
    (l.d.count ≤ l.seen)
    × Dropping l.fn.self l.initial.order l.rows l.initial.book l.initial.lists l.at l.d l.order l.book l.lists (l.seen - l.d.count)
