-- What a lost line takes with it is marked with it.
use Rattle.removal.specs.Fall.{net}
use Rattle.removal.specs.FallLaws.{marks_none, marks_next, marks_done}
use Rattle.removal.proofs.fall.mark.Goals as goal

pub loop-k-init : goal.loop-k-init
loop-k-init c =
    marks_none (net c.args.slots.now c.args.pairs.now c.args.base.0) c.args.lost.now c.no_marks-gone.result c.no_marks-gone.ensures

pub loop-k-preserved : goal.loop-k-preserved
loop-k-preserved c = marks_next _ _ _ _ c.loop-k.k-index c.loop-k.invariant c.loop-k-test.true c.by_history.ensures

pub returns : goal.returns
returns c = marks_done _ _ _ _ c.loop-k.invariant c.loop-k-test.false
