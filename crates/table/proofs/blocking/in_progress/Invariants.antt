-- The marks are those of the updates in progress among the entries passed so far.
use Rattle.std.proofs.Common.{◌+◌}
use Rattle.table.specs.Tables.{rows_in}
use Rattle.table.specs.Tries.{MarksOf, gather, held_of}
use Rattle.table.proofs.blocking.in_progress.Given as goal

abbrev pub invariant-loop-e : goal.invariant-loop-e
invariant-loop-e l = MarksOf l.m (gather held_of (rows_in l.order l.rows l.from (l.from + l.e-index)))
