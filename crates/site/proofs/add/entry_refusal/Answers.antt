-- What one pass found answers 6, 8, 9 and 17, and the checks are asked for in their order.
use Rattle.std.specs.Prelude.{◌≡◌, refl, Bool, true, false, not, ◌&&◌, ◌||◌}
use Rattle.std.proofs.Common.{sym, ap, ◌∙◌}
use Rattle.site.specs.AddLaws.{nothing_orders_is, conflict_is}
use Rattle.history.specs.Asking.{verdict_of}
use Rattle.site.proofs.add.entry_refusal.Goals.{else-f-via-then-f+else-not-f, else-f-via-else-f, then-seen, else-seen}
use Rattle.site.proofs.add.entry_refusal.Goals as goal

-- not both: then some update is weak, or one orders
weak_or_orders : (s o : Bool) → s ≡ true → o ≡ true → (s && not o) ≡ false
weak_or_orders s o e f = rw (e, f) refl

pub returns-then-not-f : goal.returns-then-not-f
unfolding verdict_of
returns-then-not-f c =
    let f = c.findings-f in
    let z : (f.result.strong && not f.result.orders) ≡ true = rw (c.if-f.true, c.if-not-f.true) refl in
    let n = nothing_orders_is c.args.seen _ _ f.result f.ensures z in
    sym (ap verdict_of n)

pub returns : goal.returns
returns c =
    let f = c.findings-f in
    let z : (f.result.strong && not f.result.orders) ≡ false =
    elim c.else-f.branch [
      | else-f-via-then-f+else-not-f w ↦ weak_or_orders _ _ w.if-f.true w.if-not-f.false
      | else-f-via-else-f w ↦ rw w.if-f.false refl
    ] in
    let done : c.if-seen.conflict ≡ (c.args.seen.done || f.result.ran) =
    elim c.if-seen.branch [ then-seen w ↦ rw (w.conflict-is, w.if-seen.true) refl | else-seen w ↦ rw (w.conflict-is, w.if-seen.false) refl ] in
    c.conflict.ensures ∙ ap verdict_of (conflict_is c.args.seen _ _ f.result f.ensures z c.if-seen.conflict done)
