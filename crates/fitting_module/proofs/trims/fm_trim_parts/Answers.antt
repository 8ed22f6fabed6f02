-- The trim of an open slot's site is the specification's, whatever else the site is valid with; without a site it is 14.
use Rattle.std.proofs.Common.{arith, []}
use Rattle.forms.specs.Refusals.{number_of}
use Rattle.site.specs.Model.{lent}
use Rattle.fitting_module.specs.Words.{words}
use Rattle.fitting_module.specs.Trims.{log_valid, trims_opened, trims_not, trims_past}
use Rattle.fitting_module.proofs.trims.fm_trim_parts.Goals.{then-slot-ge-SLOTS-via-then-slot-ge-SLOTS, then-slot-ge-SLOTS-via-else-slot-ge-SLOTS+then-not-m-slot}
use Rattle.fitting_module.proofs.trims.fm_trim_parts.Goals as goal

pub trim-requires : goal.trim-requires
trim-requires c =
    let m = c.module_at-m in
    log_valid (words c.args.first.now c.args.second.now c.args.third.now c.args.fourth.now) c.args.slot (lent c.args.log.now c.args.rows.now c.args.numbers.now c.args.book.now []) m.result m.ensures c.requires c.if-not-m-slot.false

pub returns : goal.returns
returns c =
    let m = c.module_at-m in
    let t = c.trim in
    let u = c.put_said in
    trims_opened (words c.args.first.now c.args.second.now c.args.third.now c.args.fourth.now) c.args.slot (lent c.args.log.now c.args.rows.now c.args.numbers.now c.args.book.now []) m.result m.ensures c.args.n c.args.fresh.now t.result t.new.fresh u.result c.args.used.now u.new.value
    c.if-not-m-slot.false t.ensures u.ensures.0 u.ensures.1

pub returns-then-slot-ge-SLOTS : goal.returns-then-slot-ge-SLOTS
unfolding number_of
returns-then-slot-ge-SLOTS c =
    let m = c.module_at-m in
    elim c.then-slot-ge-SLOTS.branch [
      | then-slot-ge-SLOTS-via-then-slot-ge-SLOTS w ↦ trims_past (words c.args.first.now c.args.second.now c.args.third.now c.args.fourth.now) c.args.slot (lent c.args.log.now c.args.rows.now c.args.numbers.now c.args.book.now []) m.result m.ensures c.args.n c.args.fresh.now c.args.used.now (omega (arith, w.if-slot-ge-SLOTS.true))
      | then-slot-ge-SLOTS-via-else-slot-ge-SLOTS+then-not-m-slot w ↦ trims_not (words c.args.first.now c.args.second.now c.args.third.now c.args.fourth.now) c.args.slot (lent c.args.log.now c.args.rows.now c.args.numbers.now c.args.book.now []) m.result m.ensures c.args.n c.args.fresh.now c.args.used.now w.if-not-m-slot.true
    ]
