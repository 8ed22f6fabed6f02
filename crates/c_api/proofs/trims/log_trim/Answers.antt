-- A site that is taken up is valid, and its trim is then the specification's.
use Rattle.rules.specs.Calls.{restart}
use Rattle.c_api.specs.TrimLaws.{trim_refused, trim_few, trim_taken}
use Rattle.c_api.proofs.trims.log_trim.Goals as goal

pub trim-requires : goal.trim-requires
trim-requires c = let U = c.in-Ok.ensures.up in (U.rows, U.order, U.book, U.valid)

pub replied_number-requires : goal.replied_number-requires
replied_number-requires c =
    let a = c.args in
    let t = c.trim in
    trim_few (restart a.log.now a.kept) a.log.now c.in-Ok.site c.in-Ok.ensures a.n a.fresh.now t.result t.new.fresh t.ensures

pub returns-in-Ok : goal.returns-in-Ok
returns-in-Ok c =
    let a = c.args in
    let t = c.trim in
    trim_taken (restart a.log.now a.kept) a.log.now c.in-Ok.site c.in-Ok.ensures a.n a.fresh.now t.result t.new.fresh t.ensures
    c.replied_number.result c.replied_number.ensures

pub returns-in-Err : goal.returns-in-Err
returns-in-Err c =
    let a = c.args in
    trim_refused (restart a.log.now a.kept) c.in-Err.q a.n a.fresh.now c.from.result c.in-Err.ensures c.from.ensures
