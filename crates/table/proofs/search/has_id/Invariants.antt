-- Each entry that is left has a row, and those left decide.
use Rattle.std.proofs.Common.{◌≡◌, ℕ, ◌<◌, length, get_or}
use Rattle.forms.specs.Lists.{any}
use Rattle.table.specs.Rows.{HasRow}
use Rattle.table.specs.Tables.{rows_of, rows_in, has_id}
use Rattle.table.proofs.search.has_id.Given as goal

abbrev pub invariant-loop-rest : goal.invariant-loop-rest
invariant-loop-rest l =
    ((k : ℕ) → k < length l.rest → HasRow l.rows (get_or l.rest k 0))
    × (any (has_id l.id) (rows_of l.rows l.rest) ≡ any (has_id l.id) (rows_in l.order l.rows l.from l.to))

abbrev pub decreases-loop-rest : goal.decreases-loop-rest
decreases-loop-rest l = length l.rest
