-- The loop's invariant: the stream is valid for what it is lent.
use Rattle.std.proofs.Common.{[]}
use Rattle.site.specs.Model.{lent}
use Rattle.stream.specs.Model.{ValidStream}
use Rattle.ledger.proofs.serve.Given as goal

abbrev pub invariant-loop : goal.invariant-loop
invariant-loop g l = ValidStream l.stream (lent l.log l.rows l.order l.book [])
