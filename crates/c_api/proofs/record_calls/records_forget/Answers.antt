-- Numbers that are no records get a number of their own; otherwise they are valid, and the call's contract gives the reply.
use Rattle.std.proofs.Common.{sym}
use Rattle.rules.specs.Records.{forget_record}
use Rattle.c_api.specs.RecordCalls.{records_in}
use Rattle.c_api.specs.RecordCallLaws.{are_valid, replies-not, left_few, replies_does}
use Rattle.c_api.proofs.record_calls.records_forget.Goals as goal

pub returns-then-not-are_records : goal.returns-then-not-are_records
returns-then-not-are_records c =
    let a = c.args in
    replies-not a.count a.words.now (forget_record a.id (records_in a.count a.words.now)) (sym c.if-not-are_records.ensures)

pub forget-r-requires : goal.forget-r-requires
forget-r-requires c = are_valid c.args.count c.args.words.now (sym c.if-not-are_records.ensures)

pub result_number-requires : goal.result_number-requires
result_number-requires c =
    let a = c.args in
    left_few a.count a.words.now (sym c.if-not-are_records.ensures) c.forget-r.result c.forget-r.new.words
    (forget_record a.id (records_in a.count a.words.now)) c.forget-r.ensures

pub returns : goal.returns
returns c =
    let a = c.args in
    replies_does a.count a.words.now (sym c.if-not-are_records.ensures) c.forget-r.result c.forget-r.new.words
    (forget_record a.id (records_in a.count a.words.now)) c.forget-r.ensures
    c.result_number.result c.result_number.ensures
