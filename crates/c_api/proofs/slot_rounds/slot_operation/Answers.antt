-- Two calls one behind the other, each by its contract: what the first reaches is what the second starts from.
use Prim.Native.Nat.{◌+◌, ◌%◌, ◌/◌}
use mathlib.Core.Path.{refl}
use mathlib.Core.List.{[], ◌∷◌}
use Rattle.rules.specs.Calls.{Call}
use Rattle.site.specs.Model.{lent}
use Rattle.site.specs.Trim.{updates_held}
use Rattle.c_api.specs.Rounds.{inc_of}
use Rattle.c_api.specs.SlotRounds.{nothing}
use Rattle.c_api.specs.SlotRoundsLaws.{slot_call, slot_two, slot_adds}
use Rattle.c_api.proofs.slot_rounds.slot_operation.Goals as goal

pub finish-f-requires : goal.finish-f-requires
finish-f-requires c =
    let add = c.add-a in
    let mid = lent c.args.log.now add.new.rows add.new.numbers add.new.book add.new.lists in
    let there = slot_call c.args.slot c.args.m (lent c.args.log.now c.args.rows.now c.args.numbers.now c.args.book.now c.args.lists.now) (Call.Add c.args.id (updates_held c.asked_inc-asked.result)) add.result mid refl add.ensures c.requires.0 c.requires.1 in
    (nothing, nothing, there.at.valid)

pub returns : goal.returns
returns c =
    let a = c.args in
    let asked = c.asked_inc-asked in
    let add = c.add-a in
    let finish = c.finish-f in
    let mid = lent a.log.now add.new.rows add.new.numbers add.new.book add.new.lists in
    let new = lent finish.new.log finish.new.rows finish.new.numbers finish.new.book finish.new.lists in
    slot_two a.slot a.m (lent c.args.log.now c.args.rows.now c.args.numbers.now c.args.book.now c.args.lists.now) (Call.Add a.id (inc_of (a.id % 4) (a.id / 4 + 1) ∷ [])) add.result mid (Call.Finish a.id) finish.result new refl refl
    (slot_adds a.slot a.m (lent c.args.log.now c.args.rows.now c.args.numbers.now c.args.book.now c.args.lists.now) a.id (updates_held asked.result) (inc_of (a.id % 4) (a.id / 4 + 1) ∷ []) add.result mid asked.ensures add.ensures)
    finish.ensures
