-- Two calls one behind the other, each by its contract: what the first reaches is what the second starts from.
use mathlib.Core.Path.{refl}
use Rattle.rules.specs.Calls.{Call}
use Rattle.site.specs.Model.{lent}
use Rattle.c_api.specs.SlotRounds.{nothing}
use Rattle.c_api.specs.SlotRoundsLaws.{slot_call, slot_two}
use Rattle.c_api.proofs.slot_rounds.slot_mark.Goals as goal

pub stable-s-requires : goal.stable-s-requires
stable-s-requires c =
    let p = c.persistent-p in
    let mid = lent c.args.log.now c.args.rows.now p.new.numbers p.new.book p.new.lists in
    let there = slot_call c.args.slot c.args.m (lent c.args.log.now c.args.rows.now c.args.numbers.now c.args.book.now c.args.lists.now) (Call.Persistent c.args.n) p.result mid refl p.ensures c.requires.0 c.requires.1 in
    (nothing, nothing, there.at.valid)

pub returns : goal.returns
returns c =
    let a = c.args in
    let p = c.persistent-p in
    let q = c.stable-s in
    let mid = lent a.log.now a.rows.now p.new.numbers p.new.book p.new.lists in
    let new = lent q.new.log a.rows.now p.new.numbers q.new.book q.new.lists in
    slot_two a.slot a.m (lent c.args.log.now c.args.rows.now c.args.numbers.now c.args.book.now c.args.lists.now) (Call.Persistent a.n) p.result mid (Call.Stable a.n) q.result new refl refl p.ensures q.ensures
