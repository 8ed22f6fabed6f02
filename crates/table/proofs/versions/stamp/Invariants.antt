-- The versions are those after the first j updates.
use Rattle.std.proofs.Common.{ℕ, take, get_or}
use Rattle.table.specs.Arrays.{Tabulates}
use Rattle.table.specs.Rows.{row_at}
use Rattle.table.specs.Tables.{version_by}
use Rattle.table.proofs.versions.stamp.Given as goal

abbrev pub invariant-loop-j : goal.invariant-loop-j
invariant-loop-j l =
    Tabulates 0 l.versions (λ (h : ℕ). version_by h (get_or l.initial.versions h 0) (take l.j (row_at l.rows l.e).items))
