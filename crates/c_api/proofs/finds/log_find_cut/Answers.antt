-- A site that is taken up is valid, and the number is then that of the specification's state.
use Rattle.rules.specs.Calls.{restart}
use Rattle.c_api.specs.Finds.{find_refused, find_taken}
use Rattle.c_api.proofs.finds.log_find_cut.Goals as goal

pub cut_number-requires : goal.cut_number-requires
cut_number-requires c = let U = c.in-Ok.ensures.up in (U.rows, U.order, U.book, U.valid)

pub returns-in-Ok : goal.returns-in-Ok
returns-in-Ok c =
    let a = c.args in
    find_taken a.places.now c.cut_number.result (restart a.log.now a.kept) a.log.now c.in-Ok.site c.in-Ok.ensures c.cut_number.ensures

pub returns-in-Err : goal.returns-in-Err
returns-in-Err c =
    let a = c.args in
    find_refused a.places.now c.from.result (restart a.log.now a.kept) c.in-Err.q c.in-Err.ensures c.from.ensures
