-- Each number becomes its poll, and at the end all have.
use Rattle.std.proofs.Common.{arith}
use Rattle.c_api.specs.PollCallLaws.{mapped_none, mapped_next, mapped_all}
use Rattle.c_api.proofs.polls.poll_each.Goals as goal

pub loop-i-init : goal.loop-i-init
loop-i-init c = λ log rows order lists v. mapped_none _ _

pub loop-i-preserved : goal.loop-i-preserved
loop-i-preserved c = λ log rows order lists v.
    let l = c.loop-i in
    mapped_next _ l.i _ l.histories _ (l.invariant log rows order lists v) (omega arith) (c.session_poll.ensures log rows order lists v)

pub returns : goal.returns
returns c = λ log rows order lists v.
    let l = c.loop-i in
    mapped_all _ l.i _ l.histories (l.invariant log rows order lists v) (omega arith)
