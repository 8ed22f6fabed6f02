-- The bytes held and these are the whole line, where they fit; where they do not, the line is longer than 1,024 bytes and so unreadable.
use Rattle.std.proofs.Common.{arith}
use Rattle.site.specs.Model.{lent}
use Rattle.stream.specs.LineLaws.{some-line, turns_over}
use Rattle.stream.proofs.take_begun.Goals as goal

pub shared_ref_as_front-turn : goal.shared_ref_as_front-turn
shared_ref_as_front-turn c =
    let l = some-line c.args.begun c.requires.usable_partial in
    let x = c.in-Some.ensures l.line l.begins in
    omega (arith, x.few)

pub returns-in-None : goal.returns-in-None
returns-in-None c =
    let m = lent c.args.log.now c.args.rows.now c.args.order.now c.args.book.now c.args.lists.now in
    λ line h. turns_over c.args.session m _ _ c.requires.valid_session (c.in-None.ensures line h) c.refuse.ensures
