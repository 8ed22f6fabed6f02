-- The calls of a round are those of the operation, and behind every 32nd the marks; the two cases are the two `return`s.
use Prim.Native.Nat.{◌%◌}
use borrow.Author.Tests.{eq-eqb, ne_eqb}
use Rattle.rules.specs.Run.{run}
use Rattle.site.specs.Model.{lent}
use Rattle.c_api.specs.Rounds.{work_calls}
use Rattle.c_api.specs.SlotRoundsLaws.{slot_marked, slot_unmarked}
use Rattle.c_api.proofs.slot_rounds.slot_round.Goals as goal

pub slot_mark-requires : goal.slot_mark-requires
slot_mark-requires c =
    let z = c.slot_operation-worked.ensures c.requires.lone_in.0 c.requires.lone_in.1 in
    (run (work_calls c.args.id) c.requires.lone_in.0, z.at)

pub returns-then-id-eq31 : goal.returns-then-id-eq31
returns-then-id-eq31 c =
    let a = c.args in
    let o = c.slot_operation-worked in
    let k = c.slot_mark in
    let mid = lent o.new.log o.new.rows o.new.numbers o.new.book o.new.lists in
    let new = lent k.new.log o.new.rows k.new.numbers k.new.book k.new.lists in
    slot_marked a.slot a.m (lent c.args.log.now c.args.rows.now c.args.numbers.now c.args.book.now c.args.lists.now) a.id o.result mid k.result new _ (eq-eqb (a.id % 32) 31 c.if-id-eq31.true) o.ensures k.ensures

pub returns : goal.returns
returns c =
    let a = c.args in
    let o = c.slot_operation-worked in
    let mid = lent o.new.log o.new.rows o.new.numbers o.new.book o.new.lists in
    slot_unmarked a.slot a.m (lent c.args.log.now c.args.rows.now c.args.numbers.now c.args.book.now c.args.lists.now) a.id o.result mid _ (ne_eqb (a.id % 32) 31 c.if-id-eq31.false) o.ensures
