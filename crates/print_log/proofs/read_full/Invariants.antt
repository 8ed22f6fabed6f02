-- The loop's invariant: what is read lies within the buffer. Each read that the loop goes on after gives at least one byte.
use Rattle.std.proofs.Common.{length, ◌-◌, ◌≤◌}
use Rattle.print_log.proofs.read_full.Given as goal

abbrev pub invariant-loop-done : goal.invariant-loop-done
invariant-loop-done g l = l.done ≤ length l.buf

abbrev pub decreases-loop-done : goal.decreases-loop-done
decreases-loop-done g l = length l.initial.buf - l.done
