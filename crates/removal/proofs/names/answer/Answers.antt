-- The count is that of the numbers; they do not fit, or are written.
use Rattle.std.proofs.Common.{arith}
use Rattle.removal.specs.Names.{names}
use Rattle.removal.specs.NameLaws.{answers-nothing, answers-names}
use Rattle.removal.proofs.names.answer.Goals as goal

pub returns-then-out-count : goal.returns-then-out-count
returns-then-out-count c =
    let a = c.args in
    answers-nothing (names a.base.0 a.gone.now a.n) a.out.now (omega (arith, c.count_marks-count.ensures a.base.0, c.if-out-count.true))

pub returns : goal.returns
returns c =
    let a = c.args in
    let k = c.count_marks-count in
    answers-names (names a.base.0 a.gone.now a.n) a.out.now c.write_names.new.out k.result
    (omega (arith, k.ensures a.base.0, c.if-out-count.false)) (k.ensures a.base.0) c.write_names.ensures
