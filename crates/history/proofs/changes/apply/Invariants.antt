-- The first updates have been entered, one after the other, and no number that they do not name has changed.
use Rattle.std.proofs.Common.{ℕ, ◌<◌, get_or}
use Rattle.history.specs.Entries.{no_item}
use Rattle.history.specs.Words.{histories_in, MarksKept, PastKept}
use Rattle.history.specs.CellLaws.{Entered}
use Rattle.history.proofs.changes.apply.Given as goal

abbrev pub invariant-loop-x : goal.invariant-loop-x
invariant-loop-x l = record {
  entered : Entered (histories_in l.fn.book) (histories_in l.book) l.x-items l.x-index;
  marks : MarksKept l.fn.book l.book;
  past : (m : ℕ) → ((j : ℕ) → j < l.x-index → (get_or l.x-items j no_item).history < m) → PastKept m l.fn.book l.book;
}
