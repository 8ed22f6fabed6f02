-- What the slot may use is lent to its site, whose contract meets 10 just where the slot's does; a refused call gives it back.
use Rattle.std.proofs.Common.{arith, rules, ℕ, ◌+◌, ◌*◌, ◌-◌, ◌≤◌, min, sym, ap₂, ◌∙◌, [], refl, None}
use Rattle.rules.specs.Calls.{Call}
use Rattle.compact.specs.Module.{At}
use Rattle.site.specs.Model.{lent}
use Rattle.forms.specs.AnswerLaws.{did_unsaid}
use borrow.Rule.Slice.PartMut.{same_len_mid}
use Rattle.module.specs.CallLaws.{with_size, with_few, with_below, turns, turned_away, turned_unread}
use Rattle.module.specs.Readable.{readable_said, unreadable_redo}
use Rattle.module.specs.EntryLaws.{with_claims, with_gather, with_may, with_loan, may_most, count_may, lent-live, serves_redo}
use Rattle.module.proofs.Module.redo.Goals as goal

pub is_open-requires : goal.is_open-requires
is_open-requires c = with_size c.args.self c.args.slot (lent c.args.log.now c.args.rows.now c.args.numbers.now c.args.book.now []) c.requires

pub offset_bounds-self-slot : goal.offset_bounds-self-slot
offset_bounds-self-slot c = let q = (with_below c.args.self c.args.slot (lent c.args.log.now c.args.rows.now c.args.numbers.now c.args.book.now []) c.requires (sym c.is_open.ensures ∙ c.if-not-is_open.false)) in omega (arith, q)

pub bounds-self-slot : goal.bounds-self-slot
bounds-self-slot c = (with_below c.args.self c.args.slot (lent c.args.log.now c.args.rows.now c.args.numbers.now c.args.book.now []) c.requires (sym c.is_open.ensures ∙ c.if-not-is_open.false))

pub live-requires : goal.live-requires
live-requires c = with_few c.args.self c.args.slot (lent c.args.log.now c.args.rows.now c.args.numbers.now c.args.book.now []) c.requires (with_below c.args.self c.args.slot (lent c.args.log.now c.args.rows.now c.args.numbers.now c.args.book.now []) c.requires (sym c.is_open.ensures ∙ c.if-not-is_open.false))

pub overflow_add-live : goal.overflow_add-live
overflow_add-live c = let f = with_few c.args.self c.args.slot (lent c.args.log.now c.args.rows.now c.args.numbers.now c.args.book.now []) c.requires (with_below c.args.self c.args.slot (lent c.args.log.now c.args.rows.now c.args.numbers.now c.args.book.now []) c.requires (sym c.is_open.ensures ∙ c.if-not-is_open.false)) in omega (arith, f, c.live.ensures)

pub may_use-requires : goal.may_use-requires
may_use-requires c = with_claims c.args.self c.args.slot (lent c.args.log.now c.args.rows.now c.args.numbers.now c.args.book.now []) c.requires (with_below c.args.self c.args.slot (lent c.args.log.now c.args.rows.now c.args.numbers.now c.args.book.now []) c.requires (sym c.is_open.ensures ∙ c.if-not-is_open.false))

pub lend-loan-requires : goal.lend-loan-requires
lend-loan-requires c = with_gather c.args.self c.args.slot (lent c.args.log.now c.args.rows.now c.args.numbers.now c.args.book.now []) c.requires (with_below c.args.self c.args.slot (lent c.args.log.now c.args.rows.now c.args.numbers.now c.args.book.now []) c.requires (sym c.is_open.ensures ∙ c.if-not-is_open.false)) _ (count_may _ _ _ (c.min-n.ensures ∙ ap₂ (λ (x y : ℕ). min (x + 1) y) c.live.ensures c.may_use.ensures))

pub overflow_mul-a : goal.overflow_mul-a
overflow_mul-a c = let q = (with_below c.args.self c.args.slot (lent c.args.log.now c.args.rows.now c.args.numbers.now c.args.book.now []) c.requires (sym c.is_open.ensures ∙ c.if-not-is_open.false)) in omega (arith, q)

pub overflow_add-e : goal.overflow_add-e
overflow_add-e c = let q = (with_below c.args.self c.args.slot (lent c.args.log.now c.args.rows.now c.args.numbers.now c.args.book.now []) c.requires (sym c.is_open.ensures ∙ c.if-not-is_open.false)) in let f = (let q = count_may _ _ _ (c.min-n.ensures ∙ ap₂ (λ (x y : ℕ). min (x + 1) y) c.live.ensures c.may_use.ensures) in let r = may_most c.args.self.slots c.args.slot in let f : c.min-n.result ≤ 64 = omega (arith, q, r) in f) in omega (arith, q, f)

pub slice_bounds-redo-end : goal.slice_bounds-redo-end
slice_bounds-redo-end c = let q = (with_below c.args.self c.args.slot (lent c.args.log.now c.args.rows.now c.args.numbers.now c.args.book.now []) c.requires (sym c.is_open.ensures ∙ c.if-not-is_open.false)) in let f = (let q = count_may _ _ _ (c.min-n.ensures ∙ ap₂ (λ (x y : ℕ). min (x + 1) y) c.live.ensures c.may_use.ensures) in let r = may_most c.args.self.slots c.args.slot in let f : c.min-n.result ≤ 64 = omega (arith, q, r) in f) in let w = c.lend-loan.ensures.gathered.into.gathers.shared.long in omega (arith, q, f, w)

pub redo-r-requires : goal.redo-r-requires
redo-r-requires c =
    let n = c.min-n.result in
    with_loan c.args.self c.args.slot (lent c.args.log.now c.args.rows.now c.args.numbers.now c.args.book.now []) c.requires (with_below c.args.self c.args.slot (lent c.args.log.now c.args.rows.now c.args.numbers.now c.args.book.now []) c.requires (sym c.is_open.ensures ∙ c.if-not-is_open.false)) n _ _ c.lend-loan.ensures (64 * c.args.slot + n - 64 * c.args.slot) (omega arith) (sym c.is_open.ensures ∙ c.if-not-is_open.false) (let w = with_may c.args.self c.args.slot (lent c.args.log.now c.args.rows.now c.args.numbers.now c.args.book.now []) c.requires (with_below c.args.self c.args.slot (lent c.args.log.now c.args.rows.now c.args.numbers.now c.args.book.now []) c.requires (sym c.is_open.ensures ∙ c.if-not-is_open.false)) in lent-live _ _ _ (c.min-n.ensures ∙ ap₂ (λ (x y : ℕ). min (x + 1) y) c.live.ensures c.may_use.ensures) w) []

pub settle-requires : goal.settle-requires
settle-requires c = let g = c.lend-loan.ensures.gathered.into in ((with_below c.args.self c.args.slot (lent c.args.log.now c.args.rows.now c.args.numbers.now c.args.book.now []) c.requires (sym c.is_open.ensures ∙ c.if-not-is_open.false)), g.size, same_len_mid (64 * c.args.slot) (64 * c.args.slot + c.min-n.result - 64 * c.args.slot) c.lend-loan.new.numbers c.redo-r.new.order (search rules) ∙ g.gathers.shared.long)

pub returns : goal.returns
returns c ns =
    let a = c.args in
    let n = c.min-n.result in
    serves_redo a.self a.slot (lent a.log.now a.rows.now a.numbers.now a.book.now ns) (sym c.is_open.ensures ∙ c.if-not-is_open.false) n _ _ c.lend-loan.ensures (64 * a.slot + n - 64 * a.slot) (omega arith) _ _ _ _ _ _ (search rules) _ _ (with_below c.args.self c.args.slot (lent c.args.log.now c.args.rows.now c.args.numbers.now c.args.book.now []) c.requires (sym c.is_open.ensures ∙ c.if-not-is_open.false)) (c.min-n.ensures ∙ ap₂ (λ (x y : ℕ). min (x + 1) y) c.live.ensures c.may_use.ensures) a.line.now (c.redo-r.ensures ns) c.settle.ensures

pub returns-in-Some : goal.returns-in-Some
returns-in-Some c ns =
    let a = c.args in
    turns a.self (At a.slot (Call.Redo a.line.now)) (lent a.log.now a.rows.now a.numbers.now a.book.now ns) _ _ c.refuse.ensures
    (λ b v. turned_away a.self.slots b v a.slot (Call.Redo a.line.now) (sym c.is_open.ensures ∙ c.if-not-is_open.true)
    (readable_said a.line.now _ _ c.in-Some.ensures refl))

pub returns-in-None : goal.returns-in-None
returns-in-None c ns =
    let a = c.args in
    turns a.self (At a.slot (Call.Redo a.line.now)) (lent a.log.now a.rows.now a.numbers.now a.book.now ns) _ _ c.refuse-in-None.ensures
    (λ b v. turned_unread a.self.slots b v a.slot (Call.Redo a.line.now) (sym c.is_open.ensures ∙ c.if-not-is_open.true)
    (unreadable_redo a.line.now (did_unsaid a.line.now None c.in-None.ensures refl)))
