-- The slot's poll is the specification's, whatever else the module is valid with, and its number is that of what it says.
use Rattle.std.proofs.Common.{[]}
use Rattle.fitting_module.specs.Polls.{poll_valid, polls_slot}
use Rattle.fitting_module.specs.Words.{words}
use Rattle.site.specs.Model.{lent}
use Rattle.fitting_module.proofs.polls.fm_poll_parts.Goals as goal

pub poll-requires : goal.poll-requires
poll-requires c = poll_valid (words c.args.first.now c.args.second.now c.args.third.now c.args.fourth.now) c.args.slot (lent c.args.log.now c.args.rows.now c.args.numbers.now c.args.book.now []) c.module_at-m.result c.module_at-m.ensures c.requires

pub returns : goal.returns
returns c =
    let m = c.module_at-m in
    polls_slot (words c.args.first.now c.args.second.now c.args.third.now c.args.fourth.now) c.args.slot (lent c.args.log.now c.args.rows.now c.args.numbers.now c.args.book.now []) m.result m.ensures c.args.history c.poll.result c.slot_number.result
    c.poll.ensures c.slot_number.ensures
