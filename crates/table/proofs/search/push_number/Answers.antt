-- One store into the array is a list of one number written there.
use Rattle.std.proofs.Common.{arith}
use Rattle.forms.specs.WriteLaws.{wrote_one}
use Rattle.table.proofs.search.push_number.Goals as goal

pub returns : goal.returns
returns c = wrote_one c.args.lists.now c.args.at c.args.x (omega arith)
