-- No record is among the first none of any numbers.
use Rattle.std.proofs.Common.{refl, arith}
use Rattle.forms.specs.Lists.{below}
use Rattle.records.specs.Model.{records_view}
use Rattle.records.proofs.Records.empty.Goals as goal

pub returns : goal.returns
unfolding records_view below
returns c = record { valid = λ ws long. record { few = omega arith; long = long }; none = λ ws. refl }
