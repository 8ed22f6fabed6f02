-- The site is lent the numbers of its live operations, with which it is valid; its contract is the slot's.
use Rattle.std.proofs.Common.{arith, ◌+◌, ◌*◌, ◌-◌, refl, sym, ◌∙◌, []}
use Rattle.rules.specs.Calls.{Call}
use Rattle.site.specs.Model.{lent}
use Rattle.module.specs.CallLaws.{with_size, lending, serves_read}
use Rattle.module.specs.Readable.{turns_plain}
use Rattle.module.proofs.Module.show.Goals as goal

pub is_open-requires : goal.is_open-requires
is_open-requires c = with_size c.args.self c.args.slot (lent c.args.log.now c.args.rows.now c.args.numbers.now c.args.book.now []) c.requires

pub offset_bounds-self-slot : goal.offset_bounds-self-slot
offset_bounds-self-slot c = omega (arith, (lending c.args.self c.args.slot (lent c.args.log.now c.args.rows.now c.args.numbers.now c.args.book.now []) c.requires (sym c.is_open.ensures ∙ c.if-not-is_open.false)).below)

pub bounds-self-slot : goal.bounds-self-slot
bounds-self-slot c = (lending c.args.self c.args.slot (lent c.args.log.now c.args.rows.now c.args.numbers.now c.args.book.now []) c.requires (sym c.is_open.ensures ∙ c.if-not-is_open.false)).below

pub overflow_mul-a : goal.overflow_mul-a
overflow_mul-a c = omega (arith, (lending c.args.self c.args.slot (lent c.args.log.now c.args.rows.now c.args.numbers.now c.args.book.now []) c.requires (sym c.is_open.ensures ∙ c.if-not-is_open.false)).below)

pub live-requires : goal.live-requires
live-requires c = (lending c.args.self c.args.slot (lent c.args.log.now c.args.rows.now c.args.numbers.now c.args.book.now []) c.requires (sym c.is_open.ensures ∙ c.if-not-is_open.false)).few

pub overflow_add-e : goal.overflow_add-e
overflow_add-e c = let k = lending c.args.self c.args.slot (lent c.args.log.now c.args.rows.now c.args.numbers.now c.args.book.now []) c.requires (sym c.is_open.ensures ∙ c.if-not-is_open.false) in omega (arith, k.below, k.few, c.live.ensures)

pub slice_bounds-show-end : goal.slice_bounds-show-end
slice_bounds-show-end c = let k = lending c.args.self c.args.slot (lent c.args.log.now c.args.rows.now c.args.numbers.now c.args.book.now []) c.requires (sym c.is_open.ensures ∙ c.if-not-is_open.false) in omega (arith, k.below, k.few, k.long, c.live.ensures)

pub show-r-requires : goal.show-r-requires
show-r-requires c =
    (lending c.args.self c.args.slot (lent c.args.log.now c.args.rows.now c.args.numbers.now c.args.book.now []) c.requires (sym c.is_open.ensures ∙ c.if-not-is_open.false)).valid (64 * c.args.slot + c.live.result - 64 * c.args.slot) (omega (arith, c.live.ensures)) []

pub conclude-requires : goal.conclude-requires
conclude-requires c = let k = lending c.args.self c.args.slot (lent c.args.log.now c.args.rows.now c.args.numbers.now c.args.book.now []) c.requires (sym c.is_open.ensures ∙ c.if-not-is_open.false) in (k.below, k.size)

pub returns : goal.returns
returns c ns =
    let a = c.args in
    serves_read a.self a.slot (Call.Show a.h) (lent a.log.now a.rows.now a.numbers.now a.book.now ns) refl (lending c.args.self c.args.slot (lent c.args.log.now c.args.rows.now c.args.numbers.now c.args.book.now []) c.requires (sym c.is_open.ensures ∙ c.if-not-is_open.false)).on (64 * a.slot + c.live.result - 64 * a.slot) (omega (arith, c.live.ensures)) _ _ _ _ _ _ refl _ (λ z e. sym e) _ c.conclude.ensures refl (c.show-r.ensures ns)

pub returns-then-not-is_open : goal.returns-then-not-is_open
returns-then-not-is_open c ns =
    let a = c.args in
    turns_plain a.self a.slot (Call.Show a.h) (lent a.log.now a.rows.now a.numbers.now a.book.now ns) _ refl (omega (arith, c.ranges.h)) (sym c.is_open.ensures ∙ c.if-not-is_open.true) c.refuse.ensures
