-- Each of the five answers is the one before or that of the item, whose five tests are the definition's.
use Rattle.std.proofs.Common.{◌≡◌, ◌||◌, ◌&&◌, ◌∙◌}
use Rattle.rules.specs.Rules.{strong, ordered}
use Rattle.history.specs.Entries.{cell_of}
use Rattle.history.specs.Cells.{found_with, ran_at, overtaken_at, highest_at}
use Rattle.history.proofs.turns.found.Goals as goal
use Rattle.history.proofs.turns.found.Goals.{then-f, else-f, then-f-2, else-f-2, then-f-3, else-f-3, then-f-4, else-f-4}

pub returns-then-f-5 : goal.returns-then-f-5
unfolding found_with
returns-then-f-5 c =
    let f = c.args.f in
    let x = c.args.x in
    let h = cell_of c.args.h in
    let a : c.if-f.result ≡ (f.strong || strong x.rule) =
    elim c.if-f.branch [ then-f w ↦ rw w.if-f.true (w.result-is ∙ w.if-f.true) | else-f w ↦ rw w.if-f.false (w.result-is ∙ w.is_strong.ensures) ] in
    let b : c.if-f-2.result ≡ (f.orders || (strong x.rule && ordered x.rule)) =
    elim c.if-f-2.branch [ then-f-2 w ↦ rw w.if-f-2.true (w.result-is ∙ w.if-f-2.true) | else-f-2 w ↦ rw w.if-f-2.false (w.result-is ∙ w.orders.ensures) ] in
    let d : c.if-f-3.result ≡ (f.ran || ran_at h x) =
    elim c.if-f-3.branch [ then-f-3 w ↦ rw w.if-f-3.true (w.result-is ∙ w.if-f-3.true) | else-f-3 w ↦ rw w.if-f-3.false (w.result-is ∙ w.has_run.ensures) ] in
    let e : c.if-f-4.result ≡ (f.overtaken || overtaken_at h x) =
    elim c.if-f-4.branch [ then-f-4 w ↦ rw w.if-f-4.true (w.result-is ∙ w.if-f-4.true) | else-f-4 w ↦ rw w.if-f-4.false (w.result-is ∙ w.is_overtaken.ensures) ] in
    let g : f.highest ≡ (f.highest || highest_at h x) = rw c.if-f-5.true in
    λ i. record { strong = a i; orders = b i; ran = d i; overtaken = e i; highest = g i }

pub returns-else-f-5 : goal.returns-else-f-5
unfolding found_with
returns-else-f-5 c =
    let f = c.args.f in
    let x = c.args.x in
    let h = cell_of c.args.h in
    let a : c.if-f.result ≡ (f.strong || strong x.rule) =
    elim c.if-f.branch [ then-f w ↦ rw w.if-f.true (w.result-is ∙ w.if-f.true) | else-f w ↦ rw w.if-f.false (w.result-is ∙ w.is_strong.ensures) ] in
    let b : c.if-f-2.result ≡ (f.orders || (strong x.rule && ordered x.rule)) =
    elim c.if-f-2.branch [ then-f-2 w ↦ rw w.if-f-2.true (w.result-is ∙ w.if-f-2.true) | else-f-2 w ↦ rw w.if-f-2.false (w.result-is ∙ w.orders.ensures) ] in
    let d : c.if-f-3.result ≡ (f.ran || ran_at h x) =
    elim c.if-f-3.branch [ then-f-3 w ↦ rw w.if-f-3.true (w.result-is ∙ w.if-f-3.true) | else-f-3 w ↦ rw w.if-f-3.false (w.result-is ∙ w.has_run.ensures) ] in
    let e : c.if-f-4.result ≡ (f.overtaken || overtaken_at h x) =
    elim c.if-f-4.branch [ then-f-4 w ↦ rw w.if-f-4.true (w.result-is ∙ w.if-f-4.true) | else-f-4 w ↦ rw w.if-f-4.false (w.result-is ∙ w.is_overtaken.ensures) ] in
    let g : c.is_at_highest.result ≡ (f.highest || highest_at h x) = rw c.if-f-5.false c.is_at_highest.ensures in
    λ i. record { strong = a i; orders = b i; ran = d i; overtaken = e i; highest = g i }
