-- What is newly marked takes only marked lines with it, and fell with the line that was asked for.
use Rattle.std.proofs.Common.{ℕ, ◌+◌, List, subst, sym, arith}
use lib.ListN.{set}
use Rattle.removal.specs.Fall.{net_of, Fell, SlotsTo}
use Rattle.removal.specs.Chains.{count_of}
use Rattle.removal.specs.FallLaws.{fit_on, fit-set, has-mark, fell_left, slots_none, slots_skip, slots_next}
use Rattle.removal.specs.FallLaws.{pairs_step, line-done, less_line}
use Rattle.removal.proofs.fall.+by_history_by_transaction.Goals as goal
use Rattle.removal.proofs.fall.+by_history_by_transaction.Goals.{by_history-in-Some, by_history-in_default}

pub by_history-loop-u-init : goal.by_history-loop-u-init
by_history-loop-u-init t c = slots_none _ _ _

pub by_history-by_history-requires : goal.by_history-by_history-requires
by_history-by_history-requires t c =
    let F = c.requires.fit in
    let a = c.loop-u.invariant.fell in
    let e = c.line_of-line.ensures in
    let z = F.placed.slots_there c.in-Some.q c.in-Some.ensures.1 in (
      omega (arith, less_line _ _ c.args.gone.now _ t (has-mark _ _ _ _ _ _ F c.requires.i_in_bounds) c.if-gone-i-eq0.true c.decreases a),
      (fit_on _ _ _ _ _ _ _ (fit-set _ c.args.i _ _ _ _ F) a, omega (arith, e, z)),
    )

pub by_history-loop-u-preserved : goal.by_history-loop-u-preserved
by_history-loop-u-preserved t c =
    let a = c.args in
    let l = c.loop-u in
    let g = net_of a.links.now in
    let next : List ℕ → Type 0 = λ m. SlotsTo g a.i (set a.gone.now a.i 1) m (l.u + 1) in
    elim c.match-later.branch [
      | by_history-in-Some w ↦ subst next (sym w.gone-is)
          (slots_next g a.i _ l.gone l.u w.in-Some.q l.invariant c.loop-u-test.true w.in-Some.ensures.0 _ w.line_of-line.result
          w.line_of-line.ensures w.in-Some.ensures.1 w.by_history.ensures)
      | by_history-in_default w ↦ subst next (sym w.gone-is)
          (slots_skip g a.i _ l.gone l.u (count_of g.slots) l.invariant c.loop-u-test.true w.in_default.ensures (omega arith))
    ]

pub by_history-by_transaction-requires : goal.by_history-by_transaction-requires
by_history-by_transaction-requires t c =
    let F = c.requires.fit in
    let a = c.loop-u.invariant.fell in (
      omega (arith, less_line _ _ c.args.gone.now _ t (has-mark _ _ _ _ _ _ F c.requires.i_in_bounds) c.if-gone-i-eq0.true c.decreases a),
      (fit_on _ _ _ _ _ _ _ (fit-set _ c.args.i _ _ _ _ F) a, c.requires.i_in_bounds),
    )

pub by_history-returns-after-loop-u : goal.by_history-returns-after-loop-u
by_history-returns-after-loop-u t c =
    line-done _ c.args.i c.args.gone.now _ _ _ (has-mark _ _ _ _ _ _ c.requires.fit c.requires.i_in_bounds) c.if-gone-i-eq0.true
    c.loop-u.invariant c.loop-u-test.false c.by_transaction.ensures

pub by_transaction-by_history-requires : goal.by_transaction-by_history-requires
by_transaction-by_history-requires t c =
    let F = c.requires.fit in
    let R = c.mate-q.ensures in
    let a : Fell (net_of c.args.links.now) c.args.i c.args.gone.now c.loop-next.gone = (rw c.in-Some.is at c.loop-next.invariant).0.fell in
    let k = fell_left _ _ _ _ a in
    let e = c.line_of-line.ensures in
    let z = F.placed.pairs_there c.mate-q.result R.within in
    (omega (arith, c.decreases, k), (fit_on _ _ _ _ _ _ _ F a, omega (arith, e, z)))

pub by_transaction-loop-next-preserved : goal.by_transaction-loop-next-preserved
by_transaction-loop-next-preserved t c =
    let S = rw c.in-Some.is at c.loop-next.invariant in
    pairs_step _ _ _ _ _ c.in-Some.p c.mate-q.result c.line_of-line.result S.0 S.1 c.mate-q.ensures c.line_of-line.ensures
    c.by_history.ensures c.further-next.result c.further-next.ensures
