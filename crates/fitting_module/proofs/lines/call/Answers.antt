-- Each form asks for the call that its arm makes, and that call keeps its own contract; an unreadable line makes none.
use Rattle.std.proofs.Common.{length}
use Rattle.fitting_module.specs.LineLaws.{moves_obeys, formed}
use Rattle.fitting_module.specs.Lines.{did_in, form_move}
use Rattle.site.specs.Trim.{updates_held}
use Rattle.site.specs.Model.{lent}
use Rattle.compact.specs.Module.{Move}
use Rattle.rules.specs.Calls.{Call}
use Rattle.fitting_module.proofs.lines.call.Goals as goal

pub redo-requires : goal.redo-requires
redo-requires c = record { valid_with = c.requires.valid_with; in_bounds = c.requires.in_bounds _ c.in-Redo.is }

pub returns-in-SiteOf : goal.returns-in-SiteOf
unfolding form_move
returns-in-SiteOf c =
    let a = c.args in
    formed a.slot a.m (lent c.args.log.now c.args.rows.now c.args.numbers.now c.args.book.now c.args.lists.now) a.line.now a.c _ _ _ c.in-SiteOf.is
    (moves_obeys a.m (Move.Open a.slot c.in-SiteOf.n (length a.log.now)) (lent c.args.log.now c.args.rows.now c.args.numbers.now c.args.book.now c.args.lists.now) _ _ (c.open.ensures a.rows.now a.numbers.now a.lists.now))

pub returns-in-Add : goal.returns-in-Add
unfolding form_move
returns-in-Add c =
    let a = c.args in
    formed a.slot a.m (lent c.args.log.now c.args.rows.now c.args.numbers.now c.args.book.now c.args.lists.now) a.line.now a.c _ _ _ c.in-Add.is
    (moves_obeys a.m (Move.At a.slot (Call.Add c.in-Add.i (updates_held c.in-Add.asked))) (lent c.args.log.now c.args.rows.now c.args.numbers.now c.args.book.now c.args.lists.now) _ _ c.add.ensures)

pub returns-in-Finish : goal.returns-in-Finish
unfolding form_move
returns-in-Finish c =
    let a = c.args in
    formed a.slot a.m (lent c.args.log.now c.args.rows.now c.args.numbers.now c.args.book.now c.args.lists.now) a.line.now a.c _ _ _ c.in-Finish.is
    (moves_obeys a.m (Move.At a.slot (Call.Finish c.in-Finish.i)) (lent c.args.log.now c.args.rows.now c.args.numbers.now c.args.book.now c.args.lists.now) _ _ c.finish.ensures)

pub returns-in-Withdraw : goal.returns-in-Withdraw
unfolding form_move
returns-in-Withdraw c =
    let a = c.args in
    formed a.slot a.m (lent c.args.log.now c.args.rows.now c.args.numbers.now c.args.book.now c.args.lists.now) a.line.now a.c _ _ _ c.in-Withdraw.is
    (moves_obeys a.m (Move.At a.slot (Call.Withdraw c.in-Withdraw.i)) (lent c.args.log.now c.args.rows.now c.args.numbers.now c.args.book.now c.args.lists.now) _ _ c.withdraw.ensures)

pub returns-in-Persistent : goal.returns-in-Persistent
unfolding form_move
returns-in-Persistent c =
    let a = c.args in
    formed a.slot a.m (lent c.args.log.now c.args.rows.now c.args.numbers.now c.args.book.now c.args.lists.now) a.line.now a.c _ _ _ c.in-Persistent.is
    (moves_obeys a.m (Move.At a.slot (Call.Persistent c.in-Persistent.n)) (lent c.args.log.now c.args.rows.now c.args.numbers.now c.args.book.now c.args.lists.now) _ _ c.persistent.ensures)

pub returns-in-Stable : goal.returns-in-Stable
unfolding form_move
returns-in-Stable c =
    let a = c.args in
    formed a.slot a.m (lent c.args.log.now c.args.rows.now c.args.numbers.now c.args.book.now c.args.lists.now) a.line.now a.c _ _ _ c.in-Stable.is
    (moves_obeys a.m (Move.At a.slot (Call.Stable c.in-Stable.n)) (lent c.args.log.now c.args.rows.now c.args.numbers.now c.args.book.now c.args.lists.now) _ _ c.stable.ensures)

pub returns-in-Show : goal.returns-in-Show
unfolding form_move
returns-in-Show c =
    let a = c.args in
    formed a.slot a.m (lent c.args.log.now c.args.rows.now c.args.numbers.now c.args.book.now c.args.lists.now) a.line.now a.c _ _ _ c.in-Show.is
    (moves_obeys a.m (Move.At a.slot (Call.Show c.in-Show.h)) (lent c.args.log.now c.args.rows.now c.args.numbers.now c.args.book.now c.args.lists.now) _ _ (c.show.ensures a.lists.now))

pub returns-in-Cut : goal.returns-in-Cut
unfolding form_move
returns-in-Cut c =
    let a = c.args in
    formed a.slot a.m (lent c.args.log.now c.args.rows.now c.args.numbers.now c.args.book.now c.args.lists.now) a.line.now a.c _ _ _ c.in-Cut.is
    (moves_obeys a.m (Move.At a.slot (Call.Cut c.in-Cut.k (length a.log.now))) (lent c.args.log.now c.args.rows.now c.args.numbers.now c.args.book.now c.args.lists.now) _ _ (c.cut.ensures a.lists.now))

pub returns-in-Redo : goal.returns-in-Redo
unfolding form_move
returns-in-Redo c =
    let a = c.args in
    formed a.slot a.m (lent c.args.log.now c.args.rows.now c.args.numbers.now c.args.book.now c.args.lists.now) a.line.now a.c _ _ _ c.in-Redo.is
    (moves_obeys a.m (Move.At a.slot (Call.Redo (did_in a.line.now))) (lent c.args.log.now c.args.rows.now c.args.numbers.now c.args.book.now c.args.lists.now) _ _ (c.redo.ensures a.lists.now))

pub returns-in-End : goal.returns-in-End
unfolding form_move
returns-in-End c =
    let a = c.args in
    formed a.slot a.m (lent c.args.log.now c.args.rows.now c.args.numbers.now c.args.book.now c.args.lists.now) a.line.now a.c _ _ _ c.in-End.is
    (moves_obeys a.m (Move.At a.slot (Call.End)) (lent c.args.log.now c.args.rows.now c.args.numbers.now c.args.book.now c.args.lists.now) _ _ c.end.ensures)
