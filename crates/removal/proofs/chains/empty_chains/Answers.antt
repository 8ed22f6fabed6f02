-- Each bucket begins at m.
use Rattle.removal.specs.ChainLaws.{filled}
use Rattle.removal.proofs.chains.empty_chains.Goals as goal

pub returns : goal.returns
returns c = filled c.args.m
