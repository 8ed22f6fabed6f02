-- No records are valid in every array that is as long as its type says.
use Rattle.fitting_station.specs.RecordCallLaws.{starts}
use Rattle.fitting_station.proofs.record_calls.fl_records_start_parts.Goals as goal

pub returns : goal.returns
returns c = starts c.empty.result _ c.empty.ensures c.told-words
