-- The lines lost so far are marked, what is marked takes only marked lines with it, and fell with them.
use Rattle.removal.specs.Fall.{net, MarksTo}
use Rattle.removal.proofs.fall.mark.Given as goal

abbrev pub invariant-loop-k : goal.invariant-loop-k
invariant-loop-k l = MarksTo (net l.slots l.pairs l.base.0) l.lost l.gone l.k-index
