-- The answer is the specification's, and so is its number.
use Rattle.std.proofs.Common.{ap, ◌∙◌}
use Rattle.fitting_station.specs.RecordCalls.{answer_code}
use Rattle.fitting_station.proofs.record_calls.fl_records_question_parts.Goals as goal

pub returns : goal.returns
returns c = c.answer_number.ensures ∙ ap answer_code c.question.ensures
