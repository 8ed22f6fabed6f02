-- The loop's invariant: the lines before `at` are answered and their replies written, as the session of the rules does; the rest of the
-- chunk is kept, or left where fewer bytes are free than the longest reply has.
use Rattle.std.proofs.Common.{◌-◌, length}
use Rattle.site.specs.Model.{lent}
use Rattle.stream.specs.FeedLaws.{Along}
use Rattle.stream.proofs.Stream.feed.Given as goal

abbrev pub invariant-loop-e : goal.invariant-loop-e
invariant-loop-e l =
    Along l.fn.self (lent l.fn.log l.fn.rows l.fn.order l.fn.book l.fn.lists) l.chunk
    (record { stream = record { session = l.session; begun = l.begun }; used = l.at; written = l.n })
    (lent l.log l.rows l.order l.book l.lists) l.fn.out l.out

abbrev pub decreases-loop-e : goal.decreases-loop-e
decreases-loop-e l = length l.chunk - l.at
