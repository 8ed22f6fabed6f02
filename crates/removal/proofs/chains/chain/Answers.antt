-- One pair more is chained.
use Rattle.removal.specs.ChainLaws.{chained_next}
use Rattle.removal.proofs.chains.chain.Goals as goal

pub loop-p-preserved : goal.loop-p-preserved
loop-p-preserved c = chained_next c.args.words.now c.args.c c.loop-p.p c.loop-p.chains c.loop-p.invariant c.loop-p-test.true
