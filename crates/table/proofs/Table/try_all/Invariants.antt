-- After the entries passed so far the pass is as far as the specification's.
use Rattle.std.proofs.Common.{◌+◌, ◌≤◌}
use Rattle.history.specs.Entries.{cells_of}
use Rattle.history.specs.Words.{histories_in}
use Rattle.table.specs.RoundLaws.{Passing}
use Rattle.table.proofs.Table.try_all.Given as goal

abbrev pub invariant-loop-e : goal.invariant-loop-e
invariant-loop-e l =
    (l.ready ≤ l.e-index)
    × Passing (cells_of (histories_in l.book)) l.order l.initial.rows l.rows l.from l.to l.m l.initial.lists l.at l.ready l.lists
    (l.from + l.e-index)
