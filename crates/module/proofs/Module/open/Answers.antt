-- Opening looks at no entry, so that the site is valid with none.
use Rattle.std.proofs.Common.{sym, ◌∙◌, length}
use Rattle.compact.specs.Module.{Open}
use Rattle.site.specs.Model.{lent}
use Rattle.module.specs.CallLaws.{turns}
use Rattle.module.specs.OpeningLaws.{some_size, open_again, open_past, serves_open}
use Rattle.module.proofs.Module.open.Goals.{then-slot-ge-SLOTS-via-then-slot-ge-SLOTS, then-slot-ge-SLOTS-via-else-slot-ge-SLOTS+then-is_open}
use Rattle.module.proofs.Module.open.Goals as goal

pub is_open-requires : goal.is_open-requires
is_open-requires c = some_size c.args.self c.args.slot c.args.log.now c.args.book.now c.requires

pub conclude-requires : goal.conclude-requires
conclude-requires c = (c.if-slot-ge-SLOTS.false, some_size c.args.self c.args.slot c.args.log.now c.args.book.now c.requires)

pub returns : goal.returns
returns c rows numbers ns = let a = c.args in serves_open a.self a.slot a.n (lent a.log.now rows numbers a.book.now ns) c.if-slot-ge-SLOTS.false (sym c.is_open.ensures ∙ c.if-is_open.false) _ _ _ _ c.conclude.ensures c.open_log-r.ensures

pub returns-then-slot-ge-SLOTS : goal.returns-then-slot-ge-SLOTS
returns-then-slot-ge-SLOTS c rows numbers ns =
    let a = c.args in
    turns a.self (Open a.slot a.n (length a.log.now)) (lent a.log.now rows numbers a.book.now ns) _ _ c.refuse.ensures
    (λ b v.
    elim c.then-slot-ge-SLOTS.branch [
      | then-slot-ge-SLOTS-via-then-slot-ge-SLOTS w ↦ open_past a.self.slots b v a.slot a.n (length a.log.now) w.if-slot-ge-SLOTS.true
      | then-slot-ge-SLOTS-via-else-slot-ge-SLOTS+then-is_open w ↦
          open_again a.self.slots b v a.slot a.n (length a.log.now) (sym w.is_open.ensures ∙ w.if-is_open.true)
    ])
