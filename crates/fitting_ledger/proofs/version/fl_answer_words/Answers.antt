-- Two counts and six single numbers, of which a reply has fewer or none.
use Rattle.call_words.specs.AnswerLaws.{answer_long}
use Rattle.fitting_ledger.proofs.version.fl_answer_words.Goals as goal

pub returns : goal.returns
returns c = answer_long
