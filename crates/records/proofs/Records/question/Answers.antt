-- The place that is found is that of the record the specification finds; where there is none it is 19.
use Rattle.std.proofs.Common.{◌≡◌, sym, ap, ◌∙◌, arith}
use Rattle.std.specs.Prelude.{Some, None, Ok}
use Rattle.std.proofs.lemmas.Result.{err_from_is_err_and}
use Rattle.records.specs.Model.{answer_in}
use Rattle.records.specs.CallLaws.{question_gone, question-found, found-fits}
use Rattle.records.proofs.Records.question.Goals as goal

pub returns-in_err-i : goal.returns-in_err-i
unfolding answer_in
returns-in_err-i c =
    let a = c.args in
    let gone : c.find.result ≡ None = grind arith in
    let p = err_from_is_err_and c.from_residual.result c.from_residual.ensures.1 in
    rw (question_gone a.self a.words.now c.requires a.id (sym c.find.ensures ∙ gone), p.1, p.2) (grind arith)

pub record_at-requires : goal.record_at-requires
record_at-requires c =
    let a = c.args in
    let here : c.find.result ≡ Some c.in_ok-i.i = grind arith in
    found-fits a.self a.words.now c.requires a.id c.in_ok-i.i (sym c.find.ensures ∙ here)

pub returns : goal.returns
returns c =
    let a = c.args in
    let here : c.find.result ≡ Some c.in_ok-i.i = grind arith in
    ap Ok c.answer_of.ensures
    ∙ question-found a.self a.words.now c.requires a.id c.in_ok-i.i (sym c.find.ensures ∙ here) c.record_at.result c.record_at.ensures
