-- The site's poll, where it is open; before that no history is there to be polled.
use Rattle.site.specs.Model.{lent}
use Rattle.site.specs.Polls.{polled_of}
use Rattle.c_api.specs.PollCallLaws.{poll-opened, poll-before}
use Rattle.c_api.proofs.polls.session_poll.Goals as goal

pub poll-requires : goal.poll-requires
poll-requires c = c.requires c.in-Some.site c.in-Some.is

pub returns-in-Some : goal.returns-in-Some
returns-in-Some c = λ log rows order lists v.
    let a = c.args in
    let asked = c.poll in
    poll-opened a.session c.in-Some.site (lent log rows order a.book.now lists) a.h c.poll_number.result (polled_of asked.result)
    c.in-Some.is c.poll_number.ensures (asked.ensures log rows order (v.site c.in-Some.site c.in-Some.is))

pub returns-in-None : goal.returns-in-None
returns-in-None c = λ log rows order lists v.
    let a = c.args in
    poll-before a.session (lent log rows order a.book.now lists) a.h c.in-None.is
