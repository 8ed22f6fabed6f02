-- The rules' numbers are asked first: 1. Then the module's add keeps its own contract, and what it hands back is put away.
use Rattle.std.proofs.Common.{sym, ◌∙◌}
use Rattle.forms.specs.Refusals.{number_of}
use Rattle.rules.specs.Calls.{Call}
use Rattle.site.specs.Model.{lent}
use Rattle.site.specs.Trim.{updates_held}
use Rattle.fitting_module.specs.Words.{words}
use Rattle.fitting_module.specs.LineLaws.{module_valid}
use Rattle.fitting_module.specs.CallLaws.{call_size, performs_call, performs_add, performs_unread}
use Rattle.fitting_module.proofs.adding.fm_add_parts.Goals as goal

pub add-r-requires : goal.add-r-requires
add-r-requires c =
    let m = c.module_at-m in
    module_valid c.args.slot m.result (words c.args.first.now c.args.second.now c.args.third.now c.args.fourth.now) (lent c.args.log.now c.args.rows.now c.args.numbers.now c.args.book.now c.args.lists.now) m.ensures c.requires

pub put_call-requires : goal.put_call-requires
put_call-requires c =
    let m = c.module_at-m in
    let h = c.held_in-asked in
    let r = c.add-r in
    call_size c.args.slot m.result (words c.args.first.now c.args.second.now c.args.third.now c.args.fourth.now) (lent c.args.log.now c.args.rows.now c.args.numbers.now c.args.book.now c.args.lists.now) (Call.Add c.args.id (updates_held h.result)) r.result (lent c.args.log.now c.add-r.new.rows c.add-r.new.numbers c.add-r.new.book c.add-r.new.lists) m.ensures r.ensures c.requires

pub returns : goal.returns
returns c =
    let m = c.module_at-m in
    let h = c.held_in-asked in
    let r = c.add-r in
    let p = c.put_call in
    let after = words p.new.first p.new.second p.new.third p.new.fourth in
    performs_add c.args.slot (words c.args.first.now c.args.second.now c.args.third.now c.args.fourth.now) (lent c.args.log.now c.args.rows.now c.args.numbers.now c.args.book.now c.args.lists.now) c.args.id c.args.count c.args.updates.now h.result p.result after (lent c.args.log.now c.add-r.new.rows c.add-r.new.numbers c.add-r.new.book c.add-r.new.lists) c.args.answer.now p.new.answer
    (sym c.if-not-rules_known.false ∙ c.rules_known.ensures) h.ensures
    (performs_call c.args.slot m.result (words c.args.first.now c.args.second.now c.args.third.now c.args.fourth.now) (lent c.args.log.now c.args.rows.now c.args.numbers.now c.args.book.now c.args.lists.now) (Call.Add c.args.id (updates_held h.result)) r.result (lent c.args.log.now c.add-r.new.rows c.add-r.new.numbers c.add-r.new.book c.add-r.new.lists) m.ensures r.ensures
    p.result after c.args.answer.now p.new.answer p.ensures)

pub returns-then-not-rules_known : goal.returns-then-not-rules_known
unfolding number_of
returns-then-not-rules_known c =
    performs_unread c.args.slot (words c.args.first.now c.args.second.now c.args.third.now c.args.fourth.now) (lent c.args.log.now c.args.rows.now c.args.numbers.now c.args.book.now c.args.lists.now) c.args.id c.args.count c.args.updates.now c.args.answer.now
    (sym c.if-not-rules_known.true ∙ c.rules_known.ensures)
