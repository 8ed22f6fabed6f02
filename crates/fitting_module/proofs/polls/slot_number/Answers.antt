-- A slot without a site gives 14; the other arm is the number of its site's poll.
use Rattle.std.proofs.Common.{ap, sym, ◌∙◌, Option}
use Rattle.module.specs.Polls.{slot_polled}
use Rattle.site.specs.declared.poll.PollAnswer.{PollAnswer}
use Rattle.session.specs.Polls.{polled_number}
use Rattle.forms.specs.Refusals.{number_of}
use Rattle.fitting_module.proofs.polls.slot_number.Goals as goal

pub returns-in-None : goal.returns-in-None
unfolding slot_polled polled_number number_of
returns-in-None c = sym (ap (λ (x : Option PollAnswer). polled_number (slot_polled x)) c.in-None.is)

pub returns-in-Some : goal.returns-in-Some
unfolding slot_polled
returns-in-Some c = c.poll_number.ensures ∙ sym (ap (λ (x : Option PollAnswer). polled_number (slot_polled x)) c.in-Some.is)
