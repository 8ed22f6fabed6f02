-- A marked line's number has room, and stands behind those before it.
use Rattle.std.proofs.Common.{◌≡◌, ◌<◌, length, get_or, sym, arith, ◌∙◌, get_or-take, length-take-le}
use Rattle.removal.specs.NameLaws.{writes_none, writes_skip, writes_next, writes_room}
use Rattle.removal.proofs.names.write_names.Goals as goal
use Rattle.removal.proofs.names.write_names.Goals.{then-mark-ne0, else-mark-ne0}

pub loop-i-init : goal.loop-i-init
loop-i-init c = record { writes = writes_none c.args.base.0 c.args.gone.now c.args.out.now; within = omega arith }

pub bounds-out-at : goal.bounds-out-at
bounds-out-at c =
    let l = c.loop-i in
    let lt : l.i < c.args.n = omega (arith, length-take-le c.args.n c.args.gone.now c.requires.can.within) in
    let here : get_or c.args.gone.now l.i 0 ≡ 0 → ⊥ = λ e. c.if-mark-ne0.true (get_or-take c.args.n c.args.gone.now l.i 0 lt ∙ e) in
    let r = writes_room c.args.base.0 c.args.gone.now l.i c.args.n l.at (length c.args.out.now) l.invariant.writes.position lt here c.requires.fits in
    omega (arith, r, l.auto.out)

pub loop-i-preserved : goal.loop-i-preserved
loop-i-preserved c =
    let a = c.args in
    let l = c.loop-i in
    let lt : l.i < a.n = omega (arith, length-take-le a.n a.gone.now c.requires.can.within) in
    let same = get_or-take a.n a.gone.now l.i 0 lt in
    elim c.if-mark-ne0.branch [
      | then-mark-ne0 w ↦
          let here : get_or a.gone.now l.i 0 ≡ 0 → ⊥ = λ e. w.if-mark-ne0.true (same ∙ e) in
          let r = writes_room a.base.0 a.gone.now l.i a.n l.at (length a.out.now) l.invariant.writes.position lt here c.requires.fits in
          rw (w.out-is, w.at-is) (record {
            writes = writes_next a.base.0 a.gone.now l.i l.at a.out.now l.out l.invariant.writes here r;
            within = omega (arith, r);
          })
      | else-mark-ne0 w ↦
          rw (w.out-is, w.at-is) (record {
            writes = writes_skip a.base.0 a.gone.now l.i l.at a.out.now l.out l.invariant.writes (sym same ∙ w.if-mark-ne0.false);
            within = l.invariant.within;
          })
    ]
