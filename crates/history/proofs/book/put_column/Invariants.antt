-- Of the first i histories the number in question is the column's, and every other number is as it came.
use Rattle.history.specs.WordLaws.{Stored}
use Rattle.history.proofs.book.put_column.Given as goal

abbrev pub invariant-loop-i : goal.invariant-loop-i
invariant-loop-i l = Stored l.f l.i l.fn.column l.fn.words l.words
