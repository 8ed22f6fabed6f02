-- The versions are those after the operations of the entries passed so far.
use Rattle.std.proofs.Common.{ℕ, ◌+◌, get_or}
use Rattle.table.specs.Arrays.{Tabulates}
use Rattle.table.specs.Tables.{rows_in, version_from}
use Rattle.table.proofs.versions.advance.Given as goal

abbrev pub invariant-loop-e : goal.invariant-loop-e
invariant-loop-e l =
    Tabulates 0 l.versions
    (λ (h : ℕ). version_from h (get_or l.initial.versions h 0) (rows_in l.order l.rows l.from (l.from + l.e-index)))
