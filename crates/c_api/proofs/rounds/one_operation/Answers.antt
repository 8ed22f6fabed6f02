-- Two calls one behind the other, each by its contract: what the first reaches is what the second starts from.
use Rattle.rules.specs.Calls.{Call}
use Rattle.site.specs.Model.{lent}
use Rattle.site.specs.ModelLaws.{steps_alone}
use Rattle.site.specs.Trim.{updates_held}
use Rattle.c_api.specs.RoundsLaws.{call_reaches, two_reach, adds_updates}
use Rattle.c_api.proofs.rounds.one_operation.Goals as goal

pub finish-f-requires : goal.finish-f-requires
finish-f-requires c =
    let asked = c.asked_inc-asked in
    let add = c.add-a in
    let m = lent c.args.log.now c.args.rows.now c.args.order.now c.args.book.now c.args.lists.now in
    let mid = lent c.args.log.now add.new.rows c.args.order.now add.new.book add.new.lists in
    let valid = (call_reaches c.args.site m (Call.Add c.args.id (updates_held asked.result)) add.result mid c.requires
    (steps_alone c.args.site m (Call.Add c.args.id (updates_held asked.result)) add.result mid c.told-order add.ensures)).valid in
    valid

pub returns : goal.returns
returns c =
    let asked = c.asked_inc-asked in
    let add = c.add-a in
    let finish = c.finish-f in
    let m = lent c.args.log.now c.args.rows.now c.args.order.now c.args.book.now c.args.lists.now in
    let mid = lent c.args.log.now add.new.rows c.args.order.now add.new.book add.new.lists in
    two_reach c.args.site m _ add.result mid (Call.Finish c.args.id) finish.result
    (lent finish.new.log finish.new.rows finish.new.order finish.new.book finish.new.lists) c.requires
    (adds_updates c.args.site m c.args.id (updates_held asked.result) _ add.result mid asked.ensures
    (steps_alone c.args.site m (Call.Add c.args.id (updates_held asked.result)) add.result mid c.told-order add.ensures)) finish.ensures
