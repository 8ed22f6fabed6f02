-- The marks are those of the first j updates.
use Rattle.table.specs.Rows.{row_at}
use Rattle.table.specs.MarkLaws.{Marking}
use Rattle.table.proofs.blocking.marked.Given as goal

abbrev pub invariant-loop-j : goal.invariant-loop-j
invariant-loop-j l = Marking l.j (row_at l.rows l.e) l.fn.m l.m
