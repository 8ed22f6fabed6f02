-- The numbers 0 .. 127 stand in the parts of slots 0 and 1.
use Rattle.module.specs.Start.{starts_as}
use Rattle.module.proofs.Module.new.Goals as goal

pub returns : goal.returns
returns c = starts_as c.blank.result _ c.blank.ensures c.number_entries.ensures.0 c.number_entries.ensures.1
