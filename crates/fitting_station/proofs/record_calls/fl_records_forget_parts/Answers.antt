-- The contract of the records' own call, with their number in the lent number.
use Rattle.fitting_station.specs.RecordCallLaws.{performs}
use Rattle.fitting_station.proofs.record_calls.fl_records_forget_parts.Goals as goal

pub returns : goal.returns
returns c =
    performs _ _ _ c.forget-r.result _ c.forget-r.ensures c.put_records.result c.put_records.new.count c.put_records.ensures.0
    c.put_records.ensures.1
