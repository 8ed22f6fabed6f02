-- One more is counted with each item, and none of the numbers was so high that it overflows.
use Rattle.std.proofs.Common.{get_or, arith, length-take}
use Rattle.history.specs.Entries.{no_item, items_of}
use Rattle.history.specs.EntryLaws.{usable_at}
use Rattle.history.specs.WordLaws.{column_in}
use Rattle.history.specs.BusyLaws.{counted_none, counted_up, counted-all, items-one}
use Rattle.history.proofs.busy.raise.Goals as goal

pub loop-x-init : goal.loop-x-init
loop-x-init c = counted_none (items_of c.args.e) c.args.book.now c.told-book

pub overflow_add-book-in-loop-x : goal.overflow_add-book-in-loop-x
overflow_add-book-in-loop-x c =
    let l = c.loop-x in
    let xs = items_of c.args.e in
    let k = (get_or xs l.x-index no_item).history in
    let low = (usable_at c.args.e c.requires.0 l.x-index).history in
    let some = items-one xs l.x-index c.loop-x-test.true in
    omega (arith, l.invariant.numbers k low, some, c.requires.1 k (omega (arith, some)), column_in 5 c.args.book.now k low)

pub loop-x-preserved : goal.loop-x-preserved
loop-x-preserved c =
    let l = c.loop-x in
    counted_up (items_of c.args.e) l.x-index c.args.book.now l.book l.invariant c.loop-x-test.true
    (usable_at c.args.e c.requires.0 l.x-index).history

pub returns : goal.returns
returns c =
    let e = c.args.e in
    let l = c.loop-x in
    counted-all e l.x-index c.args.book.now l.book c.requires.0 c.loop-x-test.false (omega (arith, length-take e.count e.items)) l.invariant
