-- No check refuses it: then the record is written behind the others. Else the records are as they were.
use Rattle.std.proofs.Common.{rules, ◌<◌}
use Rattle.std.proofs.lemmas.Result.{err_from_is_err_and}
use Rattle.records.specs.CallLaws.{records_not, records_fits, records_as}
use Rattle.records.proofs.Records.record.Goals as goal

pub returns-in_err-check_new : goal.returns-in_err-check_new
returns-in_err-check_new c =
    let a = c.args in
    let p = err_from_is_err_and c.from_residual.result c.from_residual.ensures.1 in
    rw (p.1, p.2)
    (records_not a.self a.words.now c.requires a.id a.sent a.full a.threshold c.check_new.result c.check_new.ensures
    c.in_err-check_new.field-0.0 c.in_err-check_new.was)

pub put_record-requires : goal.put_record-requires
put_record-requires c =
    let a = c.args in
    records_fits a.self a.words.now c.requires a.id a.sent a.full a.threshold c.check_new.result c.check_new.ensures c.in_ok-check_new.was

pub returns : goal.returns
returns c =
    let a = c.args in
    let sent-small : a.sent < 256 = search rules in
    let full-small : a.full < 256 = search rules in
    records_as a.self a.words.now c.requires a.id a.sent a.full a.threshold c.check_new.result c.check_new.ensures c.in_ok-check_new.was
    c.put_record.new.words sent-small full-small c.put_record.ensures
