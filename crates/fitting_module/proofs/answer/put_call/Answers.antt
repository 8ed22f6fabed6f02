-- The counters are put away first, then the reply.
use Rattle.fitting_module.proofs.answer.put_call.Goals as goal

pub returns : goal.returns
returns c = record { counters = c.put_module.ensures; reply = c.put_answer.ensures }
