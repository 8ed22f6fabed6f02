-- What the slot may use is lent to its site, whose contract meets 10 just where the slot's does. Where the slot holds enough, nothing moves;
-- else it is given free numbers, which a refused call gives back.
use Rattle.std.proofs.Common.{arith, ℕ, ◌+◌, ◌*◌, ◌-◌, ◌≤◌, min, refl, sym, ap₂, ◌∙◌, []}
use Rattle.rules.specs.Calls.{Call}
use Rattle.compact.specs.Module.{At}
use Rattle.site.specs.Model.{lent}
use Rattle.site.specs.Trim.{updates_held}
use Rattle.site.specs.TrimLaws.{updates_writable}
use Rattle.module.specs.CallLaws.{with_below, with_long, with_few, turns, turned_away}
use Rattle.module.specs.HeldLaws.{no_loan, lends_held, adds_held}
use Rattle.module.specs.Readable.{readable-add}
use Rattle.module.specs.EntryLaws.{with_claims, with_gather, with_may, with_loan, may_most, count_may, lent-live, serves_add}
use Rattle.module.proofs.Module.add.Goals as goal

pub live-requires : goal.live-requires
live-requires c = with_few c.args.self c.args.slot (lent c.args.log.now c.args.rows.now c.args.numbers.now c.args.book.now []) c.requires (with_below c.args.self c.args.slot (lent c.args.log.now c.args.rows.now c.args.numbers.now c.args.book.now []) c.requires (sym c.is_open.ensures ∙ c.if-not-is_open.false))

pub overflow_add-live : goal.overflow_add-live
overflow_add-live c =
    let f = with_few c.args.self c.args.slot (lent c.args.log.now c.args.rows.now c.args.numbers.now c.args.book.now []) c.requires (with_below c.args.self c.args.slot (lent c.args.log.now c.args.rows.now c.args.numbers.now c.args.book.now []) c.requires (sym c.is_open.ensures ∙ c.if-not-is_open.false)) in
    omega (arith, f, c.live.ensures)

pub may_use-requires : goal.may_use-requires
may_use-requires c = with_claims c.args.self c.args.slot (lent c.args.log.now c.args.rows.now c.args.numbers.now c.args.book.now []) c.requires (with_below c.args.self c.args.slot (lent c.args.log.now c.args.rows.now c.args.numbers.now c.args.book.now []) c.requires (sym c.is_open.ensures ∙ c.if-not-is_open.false))

pub overflow_mul-a : goal.overflow_mul-a
overflow_mul-a c = let f = (let q = count_may _ _ _ (c.min-n.ensures ∙ ap₂ (λ (x y : ℕ). min (x + 1) y) c.live.ensures c.may_use.ensures) in let r = may_most c.args.self.slots c.args.slot in let f : c.min-n.result ≤ 64 = omega (arith, q, r) in f) in omega (arith, (with_below c.args.self c.args.slot (lent c.args.log.now c.args.rows.now c.args.numbers.now c.args.book.now []) c.requires (sym c.is_open.ensures ∙ c.if-not-is_open.false)), f)

pub overflow_add-e : goal.overflow_add-e
overflow_add-e c = let f = (let q = count_may _ _ _ (c.min-n.ensures ∙ ap₂ (λ (x y : ℕ). min (x + 1) y) c.live.ensures c.may_use.ensures) in let r = may_most c.args.self.slots c.args.slot in let f : c.min-n.result ≤ 64 = omega (arith, q, r) in f) in omega (arith, (with_below c.args.self c.args.slot (lent c.args.log.now c.args.rows.now c.args.numbers.now c.args.book.now []) c.requires (sym c.is_open.ensures ∙ c.if-not-is_open.false)), f)

pub slice_bounds-add-end : goal.slice_bounds-add-end
slice_bounds-add-end c =
    let f = (let q = count_may _ _ _ (c.min-n.ensures ∙ ap₂ (λ (x y : ℕ). min (x + 1) y) c.live.ensures c.may_use.ensures) in let r = may_most c.args.self.slots c.args.slot in let f : c.min-n.result ≤ 64 = omega (arith, q, r) in f) in
    let w = with_long c.args.self c.args.slot (lent c.args.log.now c.args.rows.now c.args.numbers.now c.args.book.now []) c.requires in
    omega (arith, (with_below c.args.self c.args.slot (lent c.args.log.now c.args.rows.now c.args.numbers.now c.args.book.now []) c.requires (sym c.is_open.ensures ∙ c.if-not-is_open.false)), f, w)

pub add-r-requires : goal.add-r-requires
add-r-requires c =
    let n = c.min-n.result in
    with_loan c.args.self c.args.slot (lent c.args.log.now c.args.rows.now c.args.numbers.now c.args.book.now []) c.requires (with_below c.args.self c.args.slot (lent c.args.log.now c.args.rows.now c.args.numbers.now c.args.book.now []) c.requires (sym c.is_open.ensures ∙ c.if-not-is_open.false)) n
    (no_loan c.args.self.slots c.args.slot c.args.numbers.now) c.args.numbers.now
    (lends_held c.args.self c.args.slot (lent c.args.log.now c.args.rows.now c.args.numbers.now c.args.book.now []) [] c.requires n c.if-n-own.true)
    (64 * c.args.slot + n - 64 * c.args.slot) (omega arith) (sym c.is_open.ensures ∙ c.if-not-is_open.false) (let w = with_may c.args.self c.args.slot (lent c.args.log.now c.args.rows.now c.args.numbers.now c.args.book.now []) c.requires (with_below c.args.self c.args.slot (lent c.args.log.now c.args.rows.now c.args.numbers.now c.args.book.now []) c.requires (sym c.is_open.ensures ∙ c.if-not-is_open.false)) in lent-live _ _ _ (c.min-n.ensures ∙ ap₂ (λ (x y : ℕ). min (x + 1) y) c.live.ensures c.may_use.ensures) w) []

pub offset_bounds-self-slot-then-n-own : goal.offset_bounds-self-slot-then-n-own
offset_bounds-self-slot-then-n-own c = omega (arith, (with_below c.args.self c.args.slot (lent c.args.log.now c.args.rows.now c.args.numbers.now c.args.book.now []) c.requires (sym c.is_open.ensures ∙ c.if-not-is_open.false)))

pub bounds-self-slot-then-n-own : goal.bounds-self-slot-then-n-own
bounds-self-slot-then-n-own c = (with_below c.args.self c.args.slot (lent c.args.log.now c.args.rows.now c.args.numbers.now c.args.book.now []) c.requires (sym c.is_open.ensures ∙ c.if-not-is_open.false))

pub returns-then-n-own : goal.returns-then-n-own
returns-then-n-own c =
    let a = c.args in
    let n = c.min-n.result in
    adds_held a.self a.slot (lent a.log.now a.rows.now a.numbers.now a.book.now a.lists.now) [] c.requires n c.if-n-own.true
    (sym c.is_open.ensures ∙ c.if-not-is_open.false) (64 * a.slot + n - 64 * a.slot) (omega arith) c.add-r.result _ _ _ _ _ c.with.ensures (with_below c.args.self c.args.slot (lent c.args.log.now c.args.rows.now c.args.numbers.now c.args.book.now []) c.requires (sym c.is_open.ensures ∙ c.if-not-is_open.false))
    (c.min-n.ensures ∙ ap₂ (λ (x y : ℕ). min (x + 1) y) c.live.ensures c.may_use.ensures) a.id (updates_held a.asked) c.add-r.ensures

pub lend-loan-requires : goal.lend-loan-requires
lend-loan-requires c =
    with_gather c.args.self c.args.slot (lent c.args.log.now c.args.rows.now c.args.numbers.now c.args.book.now []) c.requires (with_below c.args.self c.args.slot (lent c.args.log.now c.args.rows.now c.args.numbers.now c.args.book.now []) c.requires (sym c.is_open.ensures ∙ c.if-not-is_open.false)) _ (count_may _ _ _ (c.min-n.ensures ∙ ap₂ (λ (x y : ℕ). min (x + 1) y) c.live.ensures c.may_use.ensures))

pub slice_bounds-add-end-2 : goal.slice_bounds-add-end-2
slice_bounds-add-end-2 c =
    let f = (let q = count_may _ _ _ (c.min-n.ensures ∙ ap₂ (λ (x y : ℕ). min (x + 1) y) c.live.ensures c.may_use.ensures) in let r = may_most c.args.self.slots c.args.slot in let f : c.min-n.result ≤ 64 = omega (arith, q, r) in f) in
    let w = c.lend-loan.ensures.gathered.into.gathers.shared.long in
    omega (arith, (with_below c.args.self c.args.slot (lent c.args.log.now c.args.rows.now c.args.numbers.now c.args.book.now []) c.requires (sym c.is_open.ensures ∙ c.if-not-is_open.false)), f, w)

pub add-r-requires-2 : goal.add-r-requires-2
add-r-requires-2 c =
    let n = c.min-n.result in
    with_loan c.args.self c.args.slot (lent c.args.log.now c.args.rows.now c.args.numbers.now c.args.book.now []) c.requires (with_below c.args.self c.args.slot (lent c.args.log.now c.args.rows.now c.args.numbers.now c.args.book.now []) c.requires (sym c.is_open.ensures ∙ c.if-not-is_open.false)) n _ _ c.lend-loan.ensures
    (64 * c.args.slot + n - 64 * c.args.slot) (omega arith) (sym c.is_open.ensures ∙ c.if-not-is_open.false) (let w = with_may c.args.self c.args.slot (lent c.args.log.now c.args.rows.now c.args.numbers.now c.args.book.now []) c.requires (with_below c.args.self c.args.slot (lent c.args.log.now c.args.rows.now c.args.numbers.now c.args.book.now []) c.requires (sym c.is_open.ensures ∙ c.if-not-is_open.false)) in lent-live _ _ _ (c.min-n.ensures ∙ ap₂ (λ (x y : ℕ). min (x + 1) y) c.live.ensures c.may_use.ensures) w) []

pub settle-requires : goal.settle-requires
settle-requires c = let g = c.lend-loan.ensures.gathered.into in ((with_below c.args.self c.args.slot (lent c.args.log.now c.args.rows.now c.args.numbers.now c.args.book.now []) c.requires (sym c.is_open.ensures ∙ c.if-not-is_open.false)), g.size, g.gathers.shared.long)

pub returns : goal.returns
returns c =
    let a = c.args in
    let n = c.min-n.result in
    serves_add a.self a.slot (lent a.log.now a.rows.now a.numbers.now a.book.now a.lists.now) (sym c.is_open.ensures ∙ c.if-not-is_open.false) n _ _ c.lend-loan.ensures
    (64 * a.slot + n - 64 * a.slot) (omega arith) _ _ _ _ _ _ refl _ _ (with_below c.args.self c.args.slot (lent c.args.log.now c.args.rows.now c.args.numbers.now c.args.book.now []) c.requires (sym c.is_open.ensures ∙ c.if-not-is_open.false)) (c.min-n.ensures ∙ ap₂ (λ (x y : ℕ). min (x + 1) y) c.live.ensures c.may_use.ensures) a.id (updates_held a.asked) refl c.add-r-2.ensures c.settle.ensures

pub returns-then-not-is_open : goal.returns-then-not-is_open
returns-then-not-is_open c =
    let a = c.args in
    turns a.self (At a.slot (Call.Add a.id (updates_held a.asked))) (lent a.log.now a.rows.now a.numbers.now a.book.now a.lists.now) _ _ c.refuse.ensures
    (λ b v. turned_away a.self.slots b v a.slot (Call.Add a.id (updates_held a.asked)) (sym c.is_open.ensures ∙ c.if-not-is_open.true)
    (readable-add a.id (updates_held a.asked) (omega (arith, c.ranges.id)) (updates_writable _ c.bound_asked.ensures)))
