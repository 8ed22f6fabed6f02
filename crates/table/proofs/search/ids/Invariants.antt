-- The list has the ids of the entries passed so far, in their order.
use Rattle.std.proofs.Common.{◌+◌, map}
use Rattle.table.specs.Lists.{IsNumbers}
use Rattle.table.specs.Tables.{id_of, rows_in}
use Rattle.table.proofs.search.ids.Given as goal

abbrev pub invariant-loop-k : goal.invariant-loop-k
invariant-loop-k l = IsNumbers l.initial.lists l.at l.k l.lists (map id_of (rows_in l.order l.rows l.from (l.from + l.k)))
