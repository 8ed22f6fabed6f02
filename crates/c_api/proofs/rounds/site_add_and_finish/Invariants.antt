-- The loop's invariant: the site is what the rounds below `id` reach from the one that was opened.
use Rattle.std.proofs.Common.{◌≡◌, length}
use Rattle.site.specs.Model.{lent}
use Rattle.c_api.specs.Rounds.{Reaches, rounds_calls}
use Rattle.c_api.proofs.rounds.site_add_and_finish.Given as goal

abbrev pub invariant-loop-id : goal.invariant-loop-id
invariant-loop-id l = record {
  reaches : Reaches l.initial.site (lent l.initial.log l.initial.rows l.initial.order l.initial.book l.initial.lists) (rounds_calls l.id)
      l.site (lent l.log l.rows l.order l.book l.lists);
  room : length l.log ≡ length l.initial.log;
}
