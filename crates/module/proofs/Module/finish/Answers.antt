-- The site is lent the numbers of its live operations, with which it is valid; its contract is the slot's, which a refused call leaves as it was.
use Rattle.std.proofs.Common.{arith, rules, ◌+◌, ◌*◌, ◌-◌, refl, sym, ◌∙◌, []}
use Rattle.rules.specs.Calls.{Call}
use Rattle.site.specs.Model.{lent}
use Rattle.module.specs.CallLaws.{with_size, lending}
use Rattle.module.specs.HeldLaws.{serves_held}
use Rattle.module.specs.Readable.{turns_plain}
use Rattle.module.proofs.Module.finish.Goals as goal

pub is_open-requires : goal.is_open-requires
is_open-requires c = with_size c.args.self c.args.slot (lent c.args.log.now c.args.rows.now c.args.numbers.now c.args.book.now []) c.requires

pub offset_bounds-self-slot : goal.offset_bounds-self-slot
offset_bounds-self-slot c = omega (arith, (lending c.args.self c.args.slot (lent c.args.log.now c.args.rows.now c.args.numbers.now c.args.book.now []) c.requires (sym c.is_open.ensures ∙ c.if-not-is_open.false)).below)

pub bounds-self-slot : goal.bounds-self-slot
bounds-self-slot c = (lending c.args.self c.args.slot (lent c.args.log.now c.args.rows.now c.args.numbers.now c.args.book.now []) c.requires (sym c.is_open.ensures ∙ c.if-not-is_open.false)).below

pub overflow_mul-a : goal.overflow_mul-a
overflow_mul-a c = omega (arith, (lending c.args.self c.args.slot (lent c.args.log.now c.args.rows.now c.args.numbers.now c.args.book.now []) c.requires (sym c.is_open.ensures ∙ c.if-not-is_open.false)).below)

pub live-requires : goal.live-requires
live-requires c = (lending c.args.self c.args.slot (lent c.args.log.now c.args.rows.now c.args.numbers.now c.args.book.now []) c.requires (sym c.is_open.ensures ∙ c.if-not-is_open.false)).few

pub overflow_add-e : goal.overflow_add-e
overflow_add-e c = let k = lending c.args.self c.args.slot (lent c.args.log.now c.args.rows.now c.args.numbers.now c.args.book.now []) c.requires (sym c.is_open.ensures ∙ c.if-not-is_open.false) in omega (arith, k.below, k.few, c.live.ensures)

pub slice_bounds-finish-end : goal.slice_bounds-finish-end
slice_bounds-finish-end c = let k = lending c.args.self c.args.slot (lent c.args.log.now c.args.rows.now c.args.numbers.now c.args.book.now []) c.requires (sym c.is_open.ensures ∙ c.if-not-is_open.false) in omega (arith, k.below, k.few, k.long, c.live.ensures)

pub finish-r-requires : goal.finish-r-requires
finish-r-requires c =
    (lending c.args.self c.args.slot (lent c.args.log.now c.args.rows.now c.args.numbers.now c.args.book.now []) c.requires (sym c.is_open.ensures ∙ c.if-not-is_open.false)).valid (64 * c.args.slot + c.live.result - 64 * c.args.slot) (omega (arith, c.live.ensures)) []

pub bounds-self-slot-2 : goal.bounds-self-slot-2
bounds-self-slot-2 c = (lending c.args.self c.args.slot (lent c.args.log.now c.args.rows.now c.args.numbers.now c.args.book.now []) c.requires (sym c.is_open.ensures ∙ c.if-not-is_open.false)).below

pub returns : goal.returns
returns c =
    let a = c.args in
    serves_held a.self a.slot (Call.Finish a.id) (lent a.log.now a.rows.now a.numbers.now a.book.now a.lists.now)
    refl (sym c.is_open.ensures ∙ c.if-not-is_open.false) (64 * a.slot + c.live.result - 64 * a.slot) (omega (arith, c.live.ensures)) c.finish-r.result _ _ _ _ _
    (search rules) (λ z e. sym e) _ c.with.ensures c.finish-r.ensures

pub returns-then-not-is_open : goal.returns-then-not-is_open
returns-then-not-is_open c =
    let a = c.args in
    turns_plain a.self a.slot (Call.Finish a.id) (lent a.log.now a.rows.now a.numbers.now a.book.now a.lists.now) _ refl (omega (arith, c.ranges.id)) (sym c.is_open.ensures ∙ c.if-not-is_open.true) c.refuse.ensures
