-- The loop's invariant: the stream is valid for what it is lent, and `at` is within the chunk.
use Rattle.std.proofs.Common.{[], length, ◌-◌, ◌≤◌}
use Rattle.site.specs.Model.{lent}
use Rattle.stream.specs.Model.{ValidStream}
use Rattle.ledger.proofs.answer.Given as goal

abbrev pub invariant-loop-at : goal.invariant-loop-at
invariant-loop-at g l = (l.at ≤ length l.chunk) × ValidStream l.stream (lent l.log l.rows l.order l.book [])

abbrev pub decreases-loop-at : goal.decreases-loop-at
decreases-loop-at g l = length l.chunk - l.at
