-- The report keeps its own contract, and its answer is put into numbers as the definitions say.
use Rattle.std.proofs.Common.{length}
use Rattle.recovery.specs.Removal.{pairs_of, report}
use Rattle.fitting_station.specs.Removals.{replies_removals}
use Rattle.fitting_station.proofs.removals.fl_removals.Goals as goal

pub returns : goal.returns
returns c =
    let a = c.args in
    let u = c.report-r in
    replies_removals (report a.log.now (pairs_of a.pairs.now) a.lost.now (length a.out.now)) a.out.now u.result
    u.new.out a.count.now c.put_named.result c.put_named.new.named u.ensures c.put_named.ensures.0
    c.put_named.ensures.1
