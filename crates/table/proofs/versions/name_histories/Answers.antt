-- Each round adds the history, or nothing.
use Rattle.std.proofs.Common.{◌≡◌, arith, sym, ◌∙◌}
use Rattle.table.specs.Arrays.{singled}
use Rattle.table.specs.NumberLaws.{kept_none, kept_yes, kept_no}
use Rattle.table.proofs.versions.name_histories.Goals as goal
use Rattle.table.proofs.versions.name_histories.Goals.{then-is_named, else-is_named}

pub loop-h-init : goal.loop-h-init
loop-h-init c = (omega arith, kept_none _ c.args.lists.now c.args.at c.told-lists)

pub loop-h-preserved : goal.loop-h-preserved
loop-h-preserved c =
    let l = c.loop-h in
    let a = c.args in
    let test = singled a.naming a.before a.after in
    elim c.if-is_named.branch [
      | then-is_named w ↦
          let next =
          kept_yes test a.lists.now a.at l.count l.lists l.h l.invariant.1 w.push_number.ensures (omega arith) w.lists-is w.count-is
          (sym c.is_named.ensures ∙ w.if-is_named.true)
          in
          (next.few, next)
      | else-is_named w ↦
          let next =
          kept_no test a.lists.now a.at l.count l.lists l.h l.invariant.1 w.lists-is w.count-is
          (sym c.is_named.ensures ∙ w.if-is_named.false)
          in
          (next.few, next)
    ]

pub returns : goal.returns
returns c =
    let l = c.loop-h in
    let e : l.h ≡ c.args.n = omega (arith, l.auto.h-end, c.loop-h-test.false) in
    let k = (rw e at l.invariant.1).is in
    record { few = omega (arith, l.invariant.0); room = omega (arith, l.invariant.0, k.long); wrote = k.wrote }
