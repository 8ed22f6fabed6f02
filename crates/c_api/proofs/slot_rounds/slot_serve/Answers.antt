-- Round after round.
use Rattle.std.proofs.Common.{◌≡◌, refl, ◌∙◌, arith, rules, length}
use Rattle.rules.specs.Run.{run}
use Rattle.site.specs.Model.{lent}
use Rattle.c_api.specs.Rounds.{rounds_calls}
use Rattle.c_api.specs.SlotRoundsLaws.{slot_none, slot_more, slot_served}
use Rattle.c_api.proofs.slot_rounds.slot_serve.Goals as goal

pub loop-id-init : goal.loop-id-init
loop-id-init c =
    let a = c.args in
    record { reaches = λ st L. slot_none a.slot st a.log.now a.first _ L; room = refl; roomRows = refl; roomNumbers = refl }

pub slot_round-m-requires : goal.slot_round-m-requires
slot_round-m-requires c =
    let l = c.loop-id in
    record {
      lone_in = (run (rounds_calls l.id) c.requires.0, (l.invariant.reaches c.requires.0 c.requires.1).at);
      id_bound = omega arith;
    }

pub loop-id-preserved : goal.loop-id-preserved
loop-id-preserved c =
    let a = c.args in
    let l = c.loop-id in
    let r = c.slot_round-m in
    let eg : length r.new.log ≡ length l.log = search rules in
    let er : length r.new.rows ≡ length l.rows = search rules in
    let en : length r.new.numbers ≡ length l.numbers = search rules in
    let mid = lent l.log l.rows l.numbers l.book l.lists in
    let new = lent r.new.log r.new.rows r.new.numbers r.new.book r.new.lists in
    record {
      reaches = λ st L. slot_more a.slot st a.log.now l.id _ l.m mid r.result new (omega arith) (l.invariant.reaches st L) r.ensures;
      room = eg ∙ l.invariant.room;
      roomRows = er ∙ l.invariant.roomRows;
      roomNumbers = en ∙ l.invariant.roomNumbers;
    }

pub bounds-m-slot : goal.bounds-m-slot
bounds-m-slot c = c.requires.1.own

pub returns : goal.returns
returns c = λ st L.
    let a = c.args in
    let l = c.loop-id in
    slot_served a.slot st a.n l.id a.log.now _ l.m l.log (omega arith) (l.invariant.reaches st L)
