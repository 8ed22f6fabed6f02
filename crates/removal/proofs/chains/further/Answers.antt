-- No pair between p and where the chain leads from it has its key.
use Rattle.std.proofs.Common.{ℕ, sym, subst}
use Rattle.removal.specs.Chains.{Starts, FoundIf, key_at}
use Rattle.removal.specs.ChainLaws.{starts_further, found_further_if}
use Rattle.removal.proofs.chains.further.Goals as goal

pub find-requires : goal.find-requires
find-requires c = (
  c.requires.0,
  c.requires.1,
  subst (λ (x : ℕ). Starts c.args.words.now c.args.c (key_at c.args.words.now c.args.c c.args.p) x) (sym c.after.ensures)
      (starts_further c.args.words.now c.args.c c.args.p c.args.chains.now c.requires.0 c.requires.2),
)

pub returns : goal.returns
returns c =
    found_further_if c.args.words.now c.args.c c.args.p c.find.result c.args.chains.now c.requires.0 c.requires.2
    (subst (λ (x : ℕ). FoundIf c.args.words.now c.args.c (key_at c.args.words.now c.args.c c.args.p) x c.find.result)
    c.after.ensures c.find.ensures)
