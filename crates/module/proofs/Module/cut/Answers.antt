-- What the slot may use is lent to its site, whose contract meets 10 just where the slot's does; a refused call gives it back.
use Rattle.std.proofs.Common.{arith, ◌+◌, ◌*◌, ◌-◌, ◌≤◌, refl, sym, ◌∙◌, [], length}
use Rattle.rules.specs.Calls.{Call}
use Rattle.compact.specs.Module.{At}
use Rattle.site.specs.Model.{lent}
use Rattle.module.specs.CallLaws.{with_size, with_few, with_below, turns, turned_away}
use Rattle.module.specs.Readable.{readable-cut}
use Rattle.module.specs.EntryLaws.{with_claims, with_gather, with_may, with_loan, may_most, again_settles, serves_cut}
use Rattle.module.proofs.Module.cut.Goals as goal

pub is_open-requires : goal.is_open-requires
is_open-requires c = with_size c.args.self c.args.slot (lent c.args.log.now c.args.rows.now c.args.numbers.now c.args.book.now []) c.requires

pub offset_bounds-self-slot : goal.offset_bounds-self-slot
offset_bounds-self-slot c = let q = (with_below c.args.self c.args.slot (lent c.args.log.now c.args.rows.now c.args.numbers.now c.args.book.now []) c.requires (sym c.is_open.ensures ∙ c.if-not-is_open.false)) in omega (arith, q)

pub bounds-self-slot : goal.bounds-self-slot
bounds-self-slot c = (with_below c.args.self c.args.slot (lent c.args.log.now c.args.rows.now c.args.numbers.now c.args.book.now []) c.requires (sym c.is_open.ensures ∙ c.if-not-is_open.false))

pub may_use-n-requires : goal.may_use-n-requires
may_use-n-requires c = with_claims c.args.self c.args.slot (lent c.args.log.now c.args.rows.now c.args.numbers.now c.args.book.now []) c.requires (with_below c.args.self c.args.slot (lent c.args.log.now c.args.rows.now c.args.numbers.now c.args.book.now []) c.requires (sym c.is_open.ensures ∙ c.if-not-is_open.false))

pub lend-loan-requires : goal.lend-loan-requires
lend-loan-requires c = with_gather c.args.self c.args.slot (lent c.args.log.now c.args.rows.now c.args.numbers.now c.args.book.now []) c.requires (with_below c.args.self c.args.slot (lent c.args.log.now c.args.rows.now c.args.numbers.now c.args.book.now []) c.requires (sym c.is_open.ensures ∙ c.if-not-is_open.false)) _ (omega (arith, c.may_use-n.ensures))

pub overflow_mul-a : goal.overflow_mul-a
overflow_mul-a c = let q = (with_below c.args.self c.args.slot (lent c.args.log.now c.args.rows.now c.args.numbers.now c.args.book.now []) c.requires (sym c.is_open.ensures ∙ c.if-not-is_open.false)) in omega (arith, q)

pub overflow_add-e : goal.overflow_add-e
overflow_add-e c = let q = (with_below c.args.self c.args.slot (lent c.args.log.now c.args.rows.now c.args.numbers.now c.args.book.now []) c.requires (sym c.is_open.ensures ∙ c.if-not-is_open.false)) in let f = (let r = may_most c.args.self.slots c.args.slot in let f : c.may_use-n.result ≤ 64 = omega (arith, r, c.may_use-n.ensures) in f) in omega (arith, q, f)

pub slice_bounds-cut-end : goal.slice_bounds-cut-end
slice_bounds-cut-end c = let q = (with_below c.args.self c.args.slot (lent c.args.log.now c.args.rows.now c.args.numbers.now c.args.book.now []) c.requires (sym c.is_open.ensures ∙ c.if-not-is_open.false)) in let f = (let r = may_most c.args.self.slots c.args.slot in let f : c.may_use-n.result ≤ 64 = omega (arith, r, c.may_use-n.ensures) in f) in let w = c.lend-loan.ensures.gathered.into.gathers.shared.long in omega (arith, q, f, w)

pub cut-r-requires : goal.cut-r-requires
cut-r-requires c =
    let n = c.may_use-n.result in
    with_loan c.args.self c.args.slot (lent c.args.log.now c.args.rows.now c.args.numbers.now c.args.book.now []) c.requires (with_below c.args.self c.args.slot (lent c.args.log.now c.args.rows.now c.args.numbers.now c.args.book.now []) c.requires (sym c.is_open.ensures ∙ c.if-not-is_open.false)) n _ _ c.lend-loan.ensures (64 * c.args.slot + n - 64 * c.args.slot) (omega arith) (sym c.is_open.ensures ∙ c.if-not-is_open.false) (let w = with_may c.args.self c.args.slot (lent c.args.log.now c.args.rows.now c.args.numbers.now c.args.book.now []) c.requires (with_below c.args.self c.args.slot (lent c.args.log.now c.args.rows.now c.args.numbers.now c.args.book.now []) c.requires (sym c.is_open.ensures ∙ c.if-not-is_open.false)) in omega (arith, w, c.may_use-n.ensures)) []

pub promised_again-requires : goal.promised_again-requires
promised_again-requires c = with_few c.args.self c.args.slot (lent c.args.log.now c.args.rows.now c.args.numbers.now c.args.book.now []) c.requires (with_below c.args.self c.args.slot (lent c.args.log.now c.args.rows.now c.args.numbers.now c.args.book.now []) c.requires (sym c.is_open.ensures ∙ c.if-not-is_open.false))

pub settle-requires : goal.settle-requires
settle-requires c = let g = c.lend-loan.ensures.gathered.into in ((with_below c.args.self c.args.slot (lent c.args.log.now c.args.rows.now c.args.numbers.now c.args.book.now []) c.requires (sym c.is_open.ensures ∙ c.if-not-is_open.false)), g.size, g.gathers.shared.long)

pub returns : goal.returns
returns c ns =
    let a = c.args in
    let n = c.may_use-n.result in
    serves_cut a.self a.slot (lent a.log.now a.rows.now a.numbers.now a.book.now ns) (sym c.is_open.ensures ∙ c.if-not-is_open.false) n _ _ c.lend-loan.ensures (64 * a.slot + n - 64 * a.slot) (omega arith) _ _ _ _ _ _ refl _ _ (with_below c.args.self c.args.slot (lent c.args.log.now c.args.rows.now c.args.numbers.now c.args.book.now []) c.requires (sym c.is_open.ensures ∙ c.if-not-is_open.false)) c.may_use-n.ensures a.k (length a.log.now) refl (c.cut-r.ensures ns) (again_settles _ _ _ _ _ _ _ _ _ c.promised_again.ensures c.settle.ensures)

pub returns-then-not-is_open : goal.returns-then-not-is_open
returns-then-not-is_open c ns =
    let a = c.args in
    turns a.self (At a.slot (Call.Cut a.k (length a.log.now))) (lent a.log.now a.rows.now a.numbers.now a.book.now ns) _ _ c.refuse.ensures
    (λ b v. turned_away a.self.slots b v a.slot (Call.Cut a.k (length a.log.now)) (sym c.is_open.ensures ∙ c.if-not-is_open.true)
    (readable-cut a.k (length a.log.now) (omega (arith, c.ranges.k))))
