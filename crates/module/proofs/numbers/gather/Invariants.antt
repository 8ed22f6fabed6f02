-- The slot has been given free numbers of its neighbours, and nothing else has changed.
use Rattle.std.proofs.Common.{◌-◌}
use Rattle.module.specs.Model.{held_in}
use Rattle.module.specs.Gather.{GathersIn}
use Rattle.module.proofs.numbers.gather.Given as goal

abbrev pub invariant-loop-slots : goal.invariant-loop-slots
invariant-loop-slots l = GathersIn l.fn.slots l.fn.numbers l.slot l.slots l.numbers

abbrev pub decreases-loop-slots : goal.decreases-loop-slots
decreases-loop-slots l = l.n - held_in l.slots l.slot
