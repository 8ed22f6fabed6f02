-- No pair from the first position to q has the key, and q is on the chain of its bucket or behind those chained.
use Rattle.std.proofs.Common.{◌-◌}
use Rattle.removal.specs.Chains.{count_of, FindsTo}
use Rattle.removal.proofs.chains.find.Given as goal

abbrev pub invariant-loop-q : goal.invariant-loop-q
invariant-loop-q l = FindsTo l.words l.c l.key l.from l.q

abbrev pub decreases-loop-q : goal.decreases-loop-q
decreases-loop-q l = count_of l.words - l.q
