-- The calls of a round are those of the operation, and behind every 32nd the marks; the two cases are the two `return`s.
use Prim.Native.Nat.{◌%◌}
use borrow.Author.Tests.{eq-eqb, ne_eqb}
use Rattle.site.specs.Model.{lent}
use Rattle.c_api.specs.RoundsLaws.{marked_reach, unmarked_reach}
use Rattle.c_api.proofs.rounds.round.Goals as goal

pub returns-then-id-eq31 : goal.returns-then-id-eq31
returns-then-id-eq31 c =
    let o = c.one_operation-worked in
    let k = c.mark in
    let m = lent c.args.log.now c.args.rows.now c.args.order.now c.args.book.now c.args.lists.now in
    let mid = lent o.new.log o.new.rows o.new.order o.new.book o.new.lists in
    let new = lent k.new.log o.new.rows k.new.order k.new.book k.new.lists in
    marked_reach c.args.site m c.args.id o.result mid k.result new _
    (eq-eqb (c.args.id % 32) 31 c.if-id-eq31.true) o.ensures k.ensures

pub returns : goal.returns
returns c =
    let o = c.one_operation-worked in
    let m = lent c.args.log.now c.args.rows.now c.args.order.now c.args.book.now c.args.lists.now in
    unmarked_reach c.args.site m c.args.id o.result
    (lent o.new.log o.new.rows o.new.order o.new.book o.new.lists) _ (ne_eqb (c.args.id % 32) 31 c.if-id-eq31.false) o.ensures
