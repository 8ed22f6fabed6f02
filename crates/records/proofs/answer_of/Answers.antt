-- Each branch is one case of `answer_by`.
use Rattle.std.proofs.Common.{sym, ap, ◌∙◌}
use Rattle.records.specs.Model.{answer_by}
use Rattle.records.proofs.answer_of.Goals as goal

pub returns-then-is_persistent : goal.returns-then-is_persistent
unfolding answer_by
returns-then-is_persistent c = ap answer_by (sym c.if-is_persistent.true ∙ c.is_persistent.ensures)

pub returns-else-is_persistent : goal.returns-else-is_persistent
unfolding answer_by
returns-else-is_persistent c = ap answer_by (sym c.if-is_persistent.false ∙ c.is_persistent.ensures)
