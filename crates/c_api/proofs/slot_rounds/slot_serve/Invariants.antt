-- The loop's invariant: slot and log are what the rounds below `id` make of a site alone.
use Rattle.std.proofs.Common.{◌≡◌, [], length}
use Rattle.rules.specs.State.{State}
use Rattle.site.specs.Model.{lent}
use Rattle.module.specs.Model.{around}
use Rattle.c_api.specs.Rounds.{rounds_calls}
use Rattle.c_api.specs.SlotRounds.{nothing, Lone, ReachesFrom}
use Rattle.c_api.proofs.slot_rounds.slot_serve.Given as goal

abbrev pub invariant-loop-id : goal.invariant-loop-id
invariant-loop-id l = record {
  reaches : (st : State) → Lone l.slot l.fn.first (lent l.fn.log l.fn.rows l.fn.numbers l.fn.book []) st →
      ReachesFrom l.slot st l.fn.log (rounds_calls l.id) (around l.slot (lent l.log l.rows l.numbers l.book []) nothing nothing) l.m l.log;
  room : length l.log ≡ length l.fn.log;
  roomRows : length l.rows ≡ length l.fn.rows;
  roomNumbers : length l.numbers ≡ length l.fn.numbers;
}
