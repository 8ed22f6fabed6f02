-- A new module is valid with any rows, and its four slots are put away as they are.
use Rattle.std.proofs.Common.{rules}
use Rattle.fitting_module.specs.Starts.{made_size}
use Rattle.fitting_module.specs.Starts.{starts}
use Rattle.fitting_module.proofs.start.fm_start_parts.Goals as goal

pub put_module-requires : goal.put_module-requires
put_module-requires c = made_size c.new.result _ c.new.ensures c.args.rows.now (search rules)

pub returns : goal.returns
returns c = starts c.new.result _ c.args.rows.now _ c.new.ensures (search rules) c.put_module.ensures
