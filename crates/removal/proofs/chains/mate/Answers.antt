-- The next pair behind p with its transaction, or else the first one with it, which there is.
use Rattle.std.proofs.Common.{ℕ, arith, subst}
use Rattle.std.specs.Prelude.{Option}
use Rattle.removal.specs.Chains.{count_of, key_at, FoundIf}
use Rattle.removal.specs.ChainLaws.{ring_next, ring_again, found_some}
use Rattle.removal.proofs.chains.mate.Goals as goal

pub unwrap-requires : goal.unwrap-requires
unwrap-requires c = found_some c.args.pairs.now 1 c.args.p c.first.result c.requires.1 c.first.ensures

pub returns-in-Some : goal.returns-in-Some
returns-in-Some c =
    ring_next c.args.pairs.now c.args.p c.in-Some.q c.in-Some.ensures.0 c.in-Some.ensures.1

pub returns-in-None : goal.returns-in-None
returns-in-None c =
    let a = c.args in
    ring_again a.pairs.now a.p (count_of a.pairs.now) c.unwrap.result c.requires.1 c.in-None.ensures (omega arith)
    (subst (λ (o : Option ℕ). FoundIf a.pairs.now 1 (key_at a.pairs.now 1 a.p) 0 o) c.unwrap.ensures c.first.ensures).0
