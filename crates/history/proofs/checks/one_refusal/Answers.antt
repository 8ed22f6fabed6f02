-- 3 before 5, each by its test of the update.
use Rattle.std.proofs.Common.{sym, ◌∙◌}
use Rattle.history.specs.AskingLaws.{one_absent, one_misfits, one_passes}
use Rattle.history.proofs.checks.one_refusal.Goals as goal

pub returns-then-n-a : goal.returns-then-n-a
returns-then-n-a c = one_absent c.args.n c.args.a c.if-n-a.true

pub returns-then-not-operand_fits : goal.returns-then-not-operand_fits
returns-then-not-operand_fits c =
    one_misfits c.args.n c.args.a c.if-n-a.false (sym c.operand_fits.ensures ∙ c.if-not-operand_fits.true)

pub returns : goal.returns
returns c = one_passes c.args.n c.args.a c.if-n-a.false (sym c.operand_fits.ensures ∙ c.if-not-operand_fits.false)
