-- The first items are counted.
use Rattle.history.specs.BusyLaws.{Counted}
use Rattle.history.proofs.busy.lower.Given as goal

abbrev pub invariant-loop-x : goal.invariant-loop-x
invariant-loop-x l = Counted l.x-items l.x-index l.book l.fn.book
