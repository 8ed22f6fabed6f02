-- At a number that is not known, not all are.
use Rattle.removal.specs.NameLaws.{known-not}
use Rattle.removal.proofs.names.pairs_known.Goals as goal

pub returns-then-not-is_known : goal.returns-then-not-is_known
returns-then-not-is_known c =
    let a = c.args in
    λ all. known-not a.base.0 a.done.0 a.pairs.now c.loop-p.p c.is_known.result c.is_known.ensures c.if-not-is_known.true
    (all c.loop-p.p c.loop-p-test.true)
