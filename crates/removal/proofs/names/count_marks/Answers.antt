-- The chain counts the marks.
use Rattle.std.proofs.Common.{◌≡◌, ◌∙◌, eqb, not, take, rules}
use Rattle.std.specs.List.{count_by}
use Rattle.removal.specs.NameLaws.{names_count}
use Rattle.removal.proofs.names.count_marks.Goals as goal

pub returns : goal.returns
returns c =
    let marks : c.count.result ≡ count_by (λ x. not (eqb x 0)) (take c.args.n c.args.gone.now) = search rules in
    λ base. marks ∙ names_count base c.args.gone.now c.args.n c.requires
