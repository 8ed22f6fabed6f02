-- The pairs from p on are chained; at 0 all are.
use Rattle.removal.specs.Chains.{ChainedFrom}
use Rattle.removal.proofs.chains.chain.Given as goal

abbrev pub invariant-loop-p : goal.invariant-loop-p
invariant-loop-p l = ChainedFrom l.words l.c l.p l.chains
