-- The loop's invariant: the records are valid.
use Rattle.records.specs.Model.{ValidRecords}
use Rattle.station.proofs.modules.two_modules.Given as goal

abbrev pub invariant-loop-id : goal.invariant-loop-id
invariant-loop-id g l = ValidRecords l.s l.words
