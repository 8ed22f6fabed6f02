-- Each item before the next one runs.
use Rattle.std.proofs.Common.{◌≡◌, ℕ, ◌<◌, get_or, true}
use Rattle.history.specs.Entries.{cells_of, no_item}
use Rattle.history.specs.Words.{histories_in}
use Rattle.history.specs.CellLaws.{runs}
use Rattle.history.proofs.turns.can_run.Given as goal

abbrev pub invariant-loop-x : goal.invariant-loop-x
invariant-loop-x l = (k : ℕ) → k < l.x-index → runs (cells_of (histories_in l.book)) (get_or l.x-items k no_item) ≡ true
