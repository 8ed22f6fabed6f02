-- No pair before the beginning of the key's bucket has the key.
use Rattle.std.proofs.Common.{ℕ, subst}
use Rattle.removal.specs.Chains.{FoundIf}
use Rattle.removal.specs.ChainLaws.{found_first_if}
use Rattle.removal.proofs.chains.first.Goals as goal

pub returns : goal.returns
returns c =
    found_first_if c.args.words.now c.args.c c.args.key c.find.result c.args.chains.now c.requires.0
    (subst (λ (x : ℕ). FoundIf c.args.words.now c.args.c c.args.key x c.find.result) c.from.ensures c.find.ensures)
