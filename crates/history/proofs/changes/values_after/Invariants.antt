-- The first values stand behind `at`, and the numbers past them are as they came.
use Rattle.std.proofs.Common.{◌≡◌, ◌+◌, length, take}
use Rattle.forms.specs.Write.{Wrote}
use Rattle.history.specs.Entries.{cells_of, operation_of}
use Rattle.history.specs.Cells.{values_in}
use Rattle.history.specs.Words.{histories_in}
use Rattle.history.proofs.changes.values_after.Given as goal

abbrev pub invariant-loop-i : goal.invariant-loop-i
invariant-loop-i l = record {
  long : length l.lists ≡ length l.fn.lists;
  wrote : Wrote l.fn.lists l.fn.at (take l.i (values_in (cells_of (histories_in l.fn.book)) (operation_of l.fn.e).updates)) (l.fn.at + l.i) l.lists;
}
