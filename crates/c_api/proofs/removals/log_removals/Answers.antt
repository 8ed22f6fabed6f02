-- The report keeps its own contract, and it names no more lines than there is room, so that the number is in range.
use lib.ListN.{length}
use Rattle.recovery.specs.Removal.{pairs_of, report}
use Rattle.c_api.specs.RemovalLaws.{removals_few, removals_number_lem}
use Rattle.std.proofs.Common.{arith}
use Rattle.c_api.proofs.removals.log_removals.Goals as goal

pub removals_number-requires : goal.removals_number-requires
removals_number-requires c = λ k e.
    let a = c.args in
    let u = c.report in
    let f = removals_few (report a.log.now (pairs_of a.pairs.now) a.lost.now (length a.out.now)) a.out.now u.result u.new.out u.ensures k e in
    let h = u.auto in
    omega (arith, f, h)

pub returns : goal.returns
returns c =
    let a = c.args in
    let u = c.report in
    removals_number_lem (report a.log.now (pairs_of a.pairs.now) a.lost.now (length a.out.now)) a.out.now u.result u.new.out c.removals_number.result u.ensures
    c.removals_number.ensures
