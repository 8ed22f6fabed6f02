-- The list has those of the histories below h that pass the test.
use Rattle.std.proofs.Common.{◌≤◌}
use Rattle.table.specs.Arrays.{singled}
use Rattle.table.specs.NumberLaws.{KeptBelow}
use Rattle.table.proofs.versions.name_histories.Given as goal

abbrev pub invariant-loop-h : goal.invariant-loop-h
invariant-loop-h l = (l.count ≤ l.h) × KeptBelow (singled l.naming l.before l.after) l.h l.initial.lists l.at l.count l.lists
