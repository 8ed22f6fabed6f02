-- The first number of a record is its id.
use Rattle.std.proofs.Common.{refl}
use Rattle.records.specs.Model.{record_from}
use Rattle.records.proofs.words.id_at.Goals as goal

pub returns : goal.returns
unfolding record_from
returns c = refl
