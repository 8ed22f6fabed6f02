-- The numbers are lower by the updates of the operations passed so far.
use Rattle.std.proofs.Common.{◌+◌}
use Rattle.history.specs.Words.{CountsMore}
use Rattle.table.specs.Tables.{rows_in}
use Rattle.table.proofs.busy.lower_rows.Given as goal

abbrev pub invariant-loop-e : goal.invariant-loop-e
invariant-loop-e l = CountsMore (rows_in l.order l.rows l.from (l.from + l.e-index)) l.book l.initial.book
