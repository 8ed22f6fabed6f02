-- A valid site's bytes in use are its log's; a slot that is not open, and one above the last, has no log.
use Rattle.std.proofs.Common.{arith, []}
use Rattle.fitting_module.specs.Used.{used_opened, used_not, used_past}
use Rattle.fitting_module.specs.Words.{words}
use Rattle.site.specs.Model.{lent}
use Rattle.fitting_module.proofs.lines.fm_log_used_parts.Goals.{then-slot-ge-SLOTS-via-then-slot-ge-SLOTS, then-slot-ge-SLOTS-via-else-slot-ge-SLOTS+then-not-m-slot}
use Rattle.fitting_module.proofs.lines.fm_log_used_parts.Goals as goal

pub returns-then-slot-ge-SLOTS : goal.returns-then-slot-ge-SLOTS
returns-then-slot-ge-SLOTS c =
    let m = c.module_at-m in
    elim c.then-slot-ge-SLOTS.branch [
      | then-slot-ge-SLOTS-via-then-slot-ge-SLOTS w ↦ used_past (words c.args.first.now c.args.second.now c.args.third.now c.args.fourth.now) c.args.slot (lent c.args.log.now c.args.rows.now c.args.numbers.now c.args.book.now []) m.result m.ensures (omega (arith, w.if-slot-ge-SLOTS.true))
      | then-slot-ge-SLOTS-via-else-slot-ge-SLOTS+then-not-m-slot w ↦ used_not (words c.args.first.now c.args.second.now c.args.third.now c.args.fourth.now) c.args.slot (lent c.args.log.now c.args.rows.now c.args.numbers.now c.args.book.now []) m.result m.ensures w.if-not-m-slot.true
    ]

pub returns : goal.returns
returns c =
    let m = c.module_at-m in
    used_opened (words c.args.first.now c.args.second.now c.args.third.now c.args.fourth.now) c.args.slot (lent c.args.log.now c.args.rows.now c.args.numbers.now c.args.book.now []) m.result m.ensures c.if-slot-ge-SLOTS.false c.if-not-m-slot.false
