-- The array is as long as its type says, so that all that is asked is how many records there would be.
use Rattle.fitting_station.specs.RecordCallLaws.{resumes, resumes_not}
use Rattle.fitting_station.proofs.record_calls.fl_records_resume_parts.Goals as goal

pub returns-then-kept-gt-LIMIT : goal.returns-then-kept-gt-LIMIT
returns-then-kept-gt-LIMIT c = resumes_not _ _ c.told-words c.if-kept-gt-LIMIT.true

pub returns : goal.returns
returns c = resumes _ _ c.told-words c.if-kept-gt-LIMIT.false
