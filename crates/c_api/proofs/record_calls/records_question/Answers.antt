-- Numbers that are no records get a number of their own; otherwise they are valid, and the question's contract gives the reply.
use Rattle.std.proofs.Common.{sym, Ok, Err}
use Rattle.rules.specs.Records.{question}
use Rattle.c_api.specs.RecordCalls.{records_in, answered_number}
use Rattle.c_api.specs.RecordCallLaws.{are_valid, asked, asked-not}
use Rattle.c_api.proofs.record_calls.records_question.Goals as goal

pub returns-then-not-are_records : goal.returns-then-not-are_records
returns-then-not-are_records c =
    let a = c.args in
    asked-not a.count a.words.now (question a.id (records_in a.count a.words.now)) (sym c.if-not-are_records.ensures)

pub question-requires : goal.question-requires
question-requires c = are_valid c.args.count c.args.words.now (sym c.if-not-are_records.ensures)

pub answer_number-requires : goal.answer_number-requires
answer_number-requires c = (are_valid c.args.count c.args.words.now (sym c.if-not-are_records.ensures)).few

pub returns-in-Ok : goal.returns-in-Ok
unfolding answered_number
returns-in-Ok c =
    let a = c.args in
    asked a.id a.count a.words.now (Ok c.in-Ok.a) c.answer_number.result (sym c.if-not-are_records.ensures)
    c.in-Ok.ensures c.answer_number.ensures

pub returns-in-Err : goal.returns-in-Err
unfolding answered_number
returns-in-Err c =
    let a = c.args in
    asked a.id a.count a.words.now (Err c.in-Err.q) c.from.result (sym c.if-not-are_records.ensures)
    c.in-Err.ensures c.from.ensures
