-- What was found is what the definition finds in the first updates.
use Rattle.std.proofs.Common.{◌≡◌}
use Rattle.history.specs.Entries.{cells_of}
use Rattle.history.specs.Cells.{findings_in}
use Rattle.history.specs.CellLaws.{updates_to}
use Rattle.history.specs.Words.{histories_in}
use Rattle.history.proofs.turns.findings.Given as goal

abbrev pub invariant-loop-x : goal.invariant-loop-x
invariant-loop-x l = l.f ≡ findings_in (cells_of (histories_in l.book)) (updates_to l.x-index l.x-items)
