-- What is said of the changeover is what the specification says: the bytes in use where it is accepted, and only there.
use Rattle.rules.specs.OldLog.{upgrade}
use Rattle.fitting_ledger.specs.ChangeoverLaws.{changes_over}
use Rattle.fitting_ledger.proofs.upgrade.fl_upgrade.Goals as goal

pub returns : goal.returns
returns c =
    let a = c.args in
    let u = c.upgrade in
    let p = c.put_said in
    changes_over (upgrade a.log.now a.kept) a.log.now u.result u.new.log p.result a.used.now p.new.value u.ensures p.ensures.0 p.ensures.1
