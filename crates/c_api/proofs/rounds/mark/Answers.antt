-- Two calls one behind the other, each by its contract: what the first reaches is what the second starts from.
use Rattle.rules.specs.Calls.{Call}
use Rattle.site.specs.Model.{lent}
use Rattle.c_api.specs.RoundsLaws.{call_reaches, two_reach}
use Rattle.c_api.proofs.rounds.mark.Goals as goal

pub stable-s-requires : goal.stable-s-requires
stable-s-requires c =
    let m = lent c.args.log.now c.args.rows.now c.args.order.now c.args.book.now c.args.lists.now in
    let p = c.persistent-p in
    let mid = lent c.args.log.now c.args.rows.now p.new.order p.new.book p.new.lists in
    let valid = (call_reaches c.args.site m (Call.Persistent c.args.n) p.result mid c.requires p.ensures).valid in
    valid

pub returns : goal.returns
returns c =
    let m = lent c.args.log.now c.args.rows.now c.args.order.now c.args.book.now c.args.lists.now in
    let p = c.persistent-p in
    let mid = lent c.args.log.now c.args.rows.now p.new.order p.new.book p.new.lists in
    let s = c.stable-s in
    two_reach c.args.site m (Call.Persistent c.args.n) p.result mid (Call.Stable c.args.n) s.result
    (lent s.new.log c.args.rows.now p.new.order s.new.book s.new.lists) c.requires p.ensures s.ensures
