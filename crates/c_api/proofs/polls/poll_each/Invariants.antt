-- The loop's invariant: the first i numbers are the polls of what they were, and the others are as they were.
use Rattle.std.proofs.Common.{ℕ, List}
use Rattle.site.specs.Model.{lent}
use Rattle.session.specs.Model.{ValidSession, session_view}
use Rattle.c_api.specs.Polls.{session_poll}
use Rattle.c_api.specs.PollCallLaws.{MappedTo}
use Rattle.c_api.proofs.polls.poll_each.Given as goal

abbrev pub invariant-loop-i : goal.invariant-loop-i
invariant-loop-i l =
    (log rows order lists : List ℕ) → ValidSession l.session (lent log rows order l.book lists) →
    MappedTo (session_poll (session_view l.session (lent log rows order l.book lists))) l.i l.fn.histories l.histories
