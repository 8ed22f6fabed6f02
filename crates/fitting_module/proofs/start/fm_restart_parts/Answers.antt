-- The slot's restart keeps its contract whatever site it had, and the module that it hands back is put away.
use Rattle.std.proofs.Common.{[]}
use Rattle.fitting_module.specs.RestartLaws.{before_valid, restart_size, restarts}
use Rattle.fitting_module.specs.Words.{words}
use Rattle.site.specs.Model.{lent}
use Rattle.fitting_module.proofs.start.fm_restart_parts.Goals as goal

pub restart-r-requires : goal.restart-r-requires
restart-r-requires c =
    let m = c.module_at-m in
    before_valid c.args.slot m.result (words c.args.first.now c.args.second.now c.args.third.now c.args.fourth.now) (lent c.args.log.now c.args.rows.now c.args.numbers.now c.args.book.now []) m.ensures c.requires

pub put_module-requires : goal.put_module-requires
put_module-requires c =
    let m = c.module_at-m in
    restart_size c.args.slot (words c.args.first.now c.args.second.now c.args.third.now c.args.fourth.now) (lent c.args.log.now c.args.rows.now c.args.numbers.now c.args.book.now []) c.args.kept c.restart-r.result (lent c.args.log.now c.restart-r.new.rows c.restart-r.new.numbers c.restart-r.new.book []) m.result
    (before_valid c.args.slot m.result (words c.args.first.now c.args.second.now c.args.third.now c.args.fourth.now) (lent c.args.log.now c.args.rows.now c.args.numbers.now c.args.book.now []) m.ensures c.requires) (c.restart-r.ensures [])

pub returns : goal.returns
returns c =
    let m = c.module_at-m in
    let r = c.restart-r in
    restarts c.args.slot (words c.args.first.now c.args.second.now c.args.third.now c.args.fourth.now) (lent c.args.log.now c.args.rows.now c.args.numbers.now c.args.book.now []) c.args.kept r.result (lent c.args.log.now c.restart-r.new.rows c.restart-r.new.numbers c.restart-r.new.book []) m.result _ c.reply_number.result m.ensures (r.ensures [])
    c.put_module.ensures c.reply_number.ensures
