-- The measure of the cycle: by_history has 2 for each line not yet removed and by_transaction one more, so each call has less. The loops'
-- invariants: what is newly marked takes only marked lines with it, and fell with the line that was asked for.
use Rattle.std.proofs.Common.{◌+◌, ◌-◌, ◌*◌}
use Rattle.std.specs.Prelude.{unwrap_or}
use Rattle.removal.specs.Chains.{count_of}
use Rattle.removal.specs.Fall.{net_of, left, SlotsTo, PairsBefore}
use Rattle.removal.proofs.fall.+by_history_by_transaction.Given as goal

abbrev pub decreases-by_history : goal.decreases-by_history
decreases-by_history l = 2 * left l.gone.now

abbrev pub decreases-by_transaction : goal.decreases-by_transaction
decreases-by_transaction l = 2 * left l.gone.now + 1

abbrev pub invariant-by_history-loop-u : goal.invariant-by_history-loop-u
invariant-by_history-loop-u l = SlotsTo (net_of l.links) l.i l.initial.gone l.gone l.u

abbrev pub invariant-by_transaction-loop-next : goal.invariant-by_transaction-loop-next
invariant-by_transaction-loop-next l = PairsBefore (net_of l.links) l.i l.initial.gone l.gone l.next

abbrev pub decreases-by_transaction-loop-next : goal.decreases-by_transaction-loop-next
decreases-by_transaction-loop-next l = count_of l.links.pairs.now - unwrap_or l.next (count_of l.links.pairs.now)
