-- The next value is that of the next update's history; at the end they are all.
use Rattle.std.proofs.Common.{ℕ, ◌+◌, ◌<◌, ◌≡◌, List, get_or, set, take, length, subst, sym, ap, refl, ◌∙◌, arith, take_all, length-take, length-set}
use Rattle.forms.specs.Write.{Wrote}
use Rattle.forms.specs.WriteLaws.{wrote_none, wrote_next}
use Rattle.history.specs.declared.History.{History}
use Rattle.history.specs.Entries.{cells_of, operation_of}
use Rattle.history.specs.Cells.{values_in}
use Rattle.history.specs.EntryLaws.{values_length, value_at}
use Rattle.history.specs.Words.{histories_in}
use Rattle.history.proofs.changes.values_after.Goals as goal

pub loop-i-init : goal.loop-i-init
loop-i-init c = record { long = refl; wrote = wrote_none c.args.lists.now c.args.at }

pub loop-i-preserved : goal.loop-i-preserved
loop-i-preserved c =
    let l = c.loop-i in
    let a = c.args in
    let u = c.requires.0 in
    let cells = cells_of (histories_in a.book.now) in
    let v = values_in cells (operation_of a.e).updates in
    let lt : l.i < a.e.count = omega (arith, length-take a.e.count a.e.items) in
    let many : length v ≡ a.e.count = values_length a.e u cells in
    let read : get_or v l.i 0 ≡ c.history_at.result.profile =
    value_at a.e u cells l.i lt ∙ ap (λ (h : History). h.profile) (sym c.history_at.ensures) in
    record {
      long = length-set l.lists (a.at + l.i) c.history_at.result.profile ∙ l.invariant.long;
      wrote =
          subst (λ (x : ℕ). Wrote a.lists.now a.at (take (l.i + 1) v) (a.at + (l.i + 1)) (set l.lists (a.at + l.i) x)) read
          (wrote_next a.lists.now a.at v l.i l.lists (omega (arith, many)) (omega (arith, many, u.few, c.requires.1)) l.invariant.long
          l.invariant.wrote);
    }

pub returns : goal.returns
returns c =
    let l = c.loop-i in
    let a = c.args in
    let cells = cells_of (histories_in a.book.now) in
    let v = values_in cells (operation_of a.e).updates in
    let many : length v ≡ a.e.count = values_length a.e c.requires.0 cells in
    let all : l.i ≡ a.e.count = omega (arith, length-take a.e.count a.e.items, c.requires.0.long, c.requires.0.few) in
    record {
      few = omega (arith, c.requires.0.few);
      room = omega (arith, c.requires.0.few, c.requires.1);
      wrote =
          subst (λ (xs : List ℕ). Wrote a.lists.now a.at xs (a.at + a.e.count) l.lists) (take_all a.e.count v (omega (arith, many)))
          (subst (λ (k : ℕ). Wrote a.lists.now a.at (take k v) (a.at + k) l.lists) all l.invariant.wrote);
    }
