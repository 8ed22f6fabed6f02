-- An entry that was overtaken leaves, any other is passed.
use Rattle.std.proofs.Common.{◌-◌, arith, refl}
use Rattle.table.specs.OvertakenLaws.{dropping_none, dropping_room, dropping_covers, dropping_next, dropping_all}
use Rattle.table.proofs.Table.drop_overtaken.Goals as goal

pub loop-seen-init : goal.loop-seen-init
loop-seen-init c = (
  omega arith,
  dropping_none c.args.self c.args.order.now c.args.rows.now c.args.book.now c.args.lists.now c.args.at
      c.requires.owns c.requires.covers c.told-lists (omega (arith, c.requires.rows_bound)),
)

pub overflow_sub-seen : goal.overflow_sub-seen
overflow_sub-seen c = c.loop-seen.invariant.0

pub examine-d-requires-clause-owns : goal.examine-d-requires-clause-owns
examine-d-requires-clause-owns c =
    let l = c.loop-seen in
    (l.invariant.1.becomes.owns, omega (arith, l.invariant.0, l.invariant.1.left, c.loop-seen-test.true))

pub examine-d-requires-clause-count_bound : goal.examine-d-requires-clause-count_bound
examine-d-requires-clause-count_bound c =
    let l = c.loop-seen in
    dropping_room _ _ _ _ _ c.args.at l.d _ _ _ _ l.invariant.1 (omega (arith, l.invariant.0, l.invariant.1.left, c.loop-seen-test.true))
    c.requires.rows_bound

pub examine-d-requires-clause-covers : goal.examine-d-requires-clause-covers
examine-d-requires-clause-covers c =
    let l = c.loop-seen in
    dropping_covers _ _ _ _ _ c.args.at l.d _ _ _ _ l.invariant.1 (omega (arith, l.invariant.0, l.invariant.1.left, c.loop-seen-test.true))

pub loop-seen-preserved : goal.loop-seen-preserved
loop-seen-preserved c =
    let l = c.loop-seen in
    let next =
    dropping_next c.args.self c.args.order.now c.args.rows.now c.args.book.now c.args.lists.now c.args.at
    l.d l.order l.book l.lists (l.seen - l.d.count) l.invariant.1 (omega (arith, l.invariant.0, l.invariant.1.left, c.loop-seen-test.true)) l.seen
    refl l.invariant.0 c.examine-d.result _ _ _ c.requires.rows_bound c.examine-d.ensures in
    (next.0, next.1)

pub returns : goal.returns
returns c =
    let l = c.loop-seen in
    dropping_all c.args.self c.args.order.now c.args.rows.now c.args.book.now c.args.lists.now c.args.at
    l.d _ _ _ (l.seen - l.d.count) (omega (arith, l.auto.seen-end, l.invariant.0, l.invariant.1.left, c.loop-seen-test.false))
    (omega (arith, c.requires.owns.usable.few)) l.invariant.1
