-- Each update is entered in its history, whose place is low enough to rise; at the end they all are.
use Rattle.std.proofs.Common.{◌+◌, ◌≤◌, ◌<◌, List, map, get_or, subst, sym, ap, refl, ◌∙◌, arith, length-take, get_or-take, take_all}
use Rattle.rules.specs.Rules.{logged_as}
use Rattle.rules.specs.Book.{entered, enter_all, enter_all_with}
use Rattle.history.specs.declared.History.{History}
use Rattle.history.specs.declared.Item.{Item}
use Rattle.history.specs.Entries.{cell_of, cells_of, items_of, item_change, did_of_entry, no_item}
use Rattle.history.specs.EntryLaws.{usable_at, low_at}
use Rattle.history.specs.CellLaws.{Entered, low_place, entered-next}
use Rattle.history.specs.Words.{histories_in}
use Rattle.history.specs.WordLaws.{histories_long_lem, marks_same, marks_then}
use Rattle.history.proofs.changes.apply.Goals as goal

pub loop-x-init : goal.loop-x-init
unfolding enter_all_with
loop-x-init c = record { entered = λ h lt. refl; marks = marks_same _; past = λ m w. refl }

pub apply_item-requires : goal.apply_item-requires
apply_item-requires c =
    let a = c.args in
    let l = c.loop-x in
    let x = usable_at a.e c.requires.0 l.x-index in
    let few : l.x-index ≤ 4 = omega (arith, length-take a.e.count a.e.items, c.requires.0.few) in
    let low =
    low_place (histories_in a.book.now) (histories_in l.book) (items_of a.e) l.x-index l.invariant.entered _ x.history
    (low_at a.e c.requires.0 (histories_in a.book.now) c.requires.1 l.x-index) few in
    (x, subst (λ (h : History). h.place.0 < 18446744073709551615) (sym c.history_at-h.ensures) low)

pub loop-x-preserved : goal.loop-x-preserved
loop-x-preserved c =
    let a = c.args in
    let l = c.loop-x in
    let xs = items_of a.e in
    let p = c.put_history.ensures in
    let x = get_or xs l.x-index no_item in
    let low = (usable_at a.e c.requires.0 l.x-index).history in
    let made =
    c.apply_item.ensures
    ∙ ap (λ (h : History). entered (logged_as x.rule) x.version.0 x.operand (cell_of h)) c.history_at-h.ensures in
    record {
      entered =
          subst (λ (hs : List History). Entered (histories_in a.book.now) hs xs (l.x-index + 1)) (sym p.histories)
          (entered-next (histories_in a.book.now) (histories_in l.book) xs l.x-index l.invariant.entered c.apply_item.result
          c.loop-x-test.true (histories_long_lem l.book) low made);
      marks = marks_then l.invariant.marks p.marks;
      past = λ m w. p.past m (w l.x-index (omega arith)) ∙ l.invariant.past m (λ j lt. w j (omega (arith, lt)));
    }

pub returns : goal.returns
unfolding did_of_entry
returns c =
    let a = c.args in
    let l = c.loop-x in
    let xs = items_of a.e in
    let few : l.x-index ≤ a.e.count = omega (arith, length-take a.e.count a.e.items) in
    record {
      applies =
          record {
            long = histories_long_lem l.book;
            cells = λ h lt. l.invariant.entered h lt ∙ ap (λ (ys : List Item). enter_all h (map item_change ys) (cells_of (histories_in a.book.now) h)) (take_all l.x-index xs c.loop-x-test.false);
          };
      marks = l.invariant.marks;
      past = λ m w.
          l.invariant.past m
          (λ j lt. subst (λ (x : Item). x.history < m) (sym (get_or-take a.e.count a.e.items j no_item (omega (arith, lt)))) (w j (omega (arith, lt))));
    }
