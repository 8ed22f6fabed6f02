-- Both counts are 0, so both lists are empty, whatever numbers were lent: what the form says with empty lists is said.
use Rattle.std.specs.Prelude.{refl, []}
use Rattle.site.specs.ModelLaws.{means_none, says_lists, alone_none}
use Rattle.site.proofs.bare.Goals as goal

pub returns-clause-line : goal.returns-clause-line
returns-clause-line c = refl

pub returns-clause-says : goal.returns-clause-says
returns-clause-says c = λ ns. says_lists _ [] [] (means_none ns) (means_none ns) (alone_none _ ns ns)
