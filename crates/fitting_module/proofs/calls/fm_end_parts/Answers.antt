-- The module's end keeps its own contract, and what it hands back is put away.
use Rattle.rules.specs.Calls.{Call}
use Rattle.site.specs.Model.{lent}
use Rattle.fitting_module.specs.Words.{words}
use Rattle.fitting_module.specs.LineLaws.{module_valid}
use Rattle.fitting_module.specs.CallLaws.{call_size, performs_call}
use Rattle.fitting_module.proofs.calls.fm_end_parts.Goals as goal

pub end-r-requires : goal.end-r-requires
end-r-requires c =
    let m = c.module_at-m in
    module_valid c.args.slot m.result (words c.args.first.now c.args.second.now c.args.third.now c.args.fourth.now) (lent c.args.log.now c.args.rows.now c.args.numbers.now c.args.book.now c.args.lists.now) m.ensures c.requires

pub put_call-requires : goal.put_call-requires
put_call-requires c =
    let m = c.module_at-m in
    let r = c.end-r in
    call_size c.args.slot m.result (words c.args.first.now c.args.second.now c.args.third.now c.args.fourth.now) (lent c.args.log.now c.args.rows.now c.args.numbers.now c.args.book.now c.args.lists.now) Call.End r.result (lent c.args.log.now c.args.rows.now c.args.numbers.now c.args.book.now c.end-r.new.lists) m.ensures r.ensures c.requires

pub returns : goal.returns
returns c =
    let m = c.module_at-m in
    let r = c.end-r in
    let p = c.put_call in
    performs_call c.args.slot m.result (words c.args.first.now c.args.second.now c.args.third.now c.args.fourth.now) (lent c.args.log.now c.args.rows.now c.args.numbers.now c.args.book.now c.args.lists.now) Call.End r.result (lent c.args.log.now c.args.rows.now c.args.numbers.now c.args.book.now c.end-r.new.lists) m.ensures r.ensures
    p.result (words p.new.first p.new.second p.new.third p.new.fourth) c.args.answer.now p.new.answer p.ensures
