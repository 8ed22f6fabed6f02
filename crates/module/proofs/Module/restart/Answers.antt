-- What the slot may use is lent to its site, whose contract meets 10 just where the slot's does; a refused call gives it back.
use Rattle.std.proofs.Common.{arith, ◌+◌, ◌*◌, ◌-◌, ◌≤◌, []}
use Rattle.compact.specs.Module.{Restart}
use Rattle.site.specs.Model.{lent}
use Rattle.module.specs.CallLaws.{with_few, turns_anew}
use Rattle.module.specs.EntryLaws.{with_claims, with_gather, with_free, may_most, again_settles, serves_restart, past_four}
use Rattle.module.proofs.Module.restart.Goals as goal

pub may_use-n-requires : goal.may_use-n-requires
may_use-n-requires c = with_claims c.args.self c.args.slot (lent c.requires.0 c.args.rows.now c.args.numbers.now c.requires.1 []) c.requires.2 (c.if-slot-ge-SLOTS.false)

pub lend-loan-requires : goal.lend-loan-requires
lend-loan-requires c = with_gather c.args.self c.args.slot (lent c.requires.0 c.args.rows.now c.args.numbers.now c.requires.1 []) c.requires.2 (c.if-slot-ge-SLOTS.false) _ (omega (arith, c.may_use-n.ensures))

pub overflow_mul-a : goal.overflow_mul-a
overflow_mul-a c = let q = (c.if-slot-ge-SLOTS.false) in omega (arith, q)

pub overflow_add-e : goal.overflow_add-e
overflow_add-e c = let q = (c.if-slot-ge-SLOTS.false) in let f = (let r = may_most c.args.self.slots c.args.slot in let f : c.may_use-n.result ≤ 64 = omega (arith, r, c.may_use-n.ensures) in f) in omega (arith, q, f)

pub slice_bounds-restart_into-end : goal.slice_bounds-restart_into-end
slice_bounds-restart_into-end c = let q = (c.if-slot-ge-SLOTS.false) in let f = (let r = may_most c.args.self.slots c.args.slot in let f : c.may_use-n.result ≤ 64 = omega (arith, r, c.may_use-n.ensures) in f) in let w = c.lend-loan.ensures.gathered.into.gathers.shared.long in omega (arith, q, f, w)

pub restart_into-r-requires : goal.restart_into-r-requires
restart_into-r-requires c =
    let n = c.may_use-n.result in
    with_free c.args.self c.args.slot (lent c.requires.0 c.args.rows.now c.args.numbers.now c.requires.1 []) c.requires.2 (c.if-slot-ge-SLOTS.false) n _ _ c.lend-loan.ensures (64 * c.args.slot + n - 64 * c.args.slot) (omega arith)

pub promised_again-requires : goal.promised_again-requires
promised_again-requires c = with_few c.args.self c.args.slot (lent c.requires.0 c.args.rows.now c.args.numbers.now c.requires.1 []) c.requires.2 (c.if-slot-ge-SLOTS.false)

pub settle-requires : goal.settle-requires
settle-requires c = let g = c.lend-loan.ensures.gathered.into in ((c.if-slot-ge-SLOTS.false), g.size, g.gathers.shared.long)

pub returns : goal.returns
returns c ns =
    let a = c.args in
    let n = c.may_use-n.result in
    serves_restart a.self a.slot (lent a.log.now a.rows.now a.numbers.now a.book.now ns) n _ _ c.lend-loan.ensures (64 * a.slot + n - 64 * a.slot) (omega arith) _ _ _ _ _ _ (c.if-slot-ge-SLOTS.false) c.may_use-n.ensures _ (c.restart_into-r.ensures ns) (again_settles _ _ _ _ _ _ _ _ _ c.promised_again.ensures c.settle.ensures)

pub returns-then-slot-ge-SLOTS : goal.returns-then-slot-ge-SLOTS
returns-then-slot-ge-SLOTS c ns =
    let a = c.args in
    turns_anew a.self (Restart a.slot a.log.now a.k) (lent a.log.now a.rows.now a.numbers.now a.book.now ns) _ _ c.refuse.ensures (λ b v. past_four a.self.slots b a.slot _ _ c.if-slot-ge-SLOTS.true)
