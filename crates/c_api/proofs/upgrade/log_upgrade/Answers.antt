-- The changeover keeps its own contract, and its bytes in use are few, so that the number is in range.
use Rattle.rules.specs.OldLog.{upgrade}
use Rattle.c_api.specs.ChangeoverLaws.{upgraded_few, changes_over_lem}
use Rattle.c_api.proofs.upgrade.log_upgrade.Goals as goal

pub replied_number-requires : goal.replied_number-requires
replied_number-requires c =
    let a = c.args in
    let u = c.upgrade in
    upgraded_few a.log.now a.kept u.result u.new.log u.ensures

pub returns : goal.returns
returns c =
    let a = c.args in
    let u = c.upgrade in
    changes_over_lem (upgrade a.log.now a.kept) a.log.now u.result u.new.log c.replied_number.result u.ensures c.replied_number.ensures
