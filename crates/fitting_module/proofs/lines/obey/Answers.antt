-- What the reader gives is the line that it read, so the call of the form is the call of the line; a redo has a bracket behind its did line.
use Rattle.std.proofs.Common.{Some, None}
use Rattle.fitting_module.specs.Lines.{form_move}
use Rattle.fitting_module.specs.LineLaws.{unread_obeys}
use Rattle.fitting_module.specs.FormLaws.{redo_long, obeys_line}
use Rattle.site.specs.Model.{lent}
use Rattle.fitting_module.proofs.lines.obey.Goals as goal

pub call-requires : goal.call-requires
call-requires c =
    record { valid_with = c.requires; in_bounds = redo_long c.args.line.now c.in-Some.c c.in-Some.ensures }

pub returns-in_default : goal.returns-in_default
unfolding form_move
returns-in_default c =
    let a = c.args in
    let old = lent a.log.now a.rows.now a.numbers.now a.book.now a.lists.now in
    obeys_line a.slot a.m old a.line.now None _ _ c.in_default.ensures
    (unread_obeys a.slot a.m old c.refused.result (c.refused.ensures old))

pub returns : goal.returns
returns c =
    let a = c.args in
    obeys_line a.slot a.m (lent a.log.now a.rows.now a.numbers.now a.book.now a.lists.now) a.line.now (Some c.in-Some.c) _ _
    c.in-Some.ensures c.call.ensures
