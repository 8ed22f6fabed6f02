-- An item that does not run is one at which the test of all fails.
use Rattle.std.proofs.Common.{ap, ◌≡◌, get_or, true, false, sym, refl, ◌∙◌, arith, below_more}
use Rattle.std.proofs.lemmas.List.Recursion.{and_is}
use Rattle.forms.specs.Lists.{all}
use Rattle.rules.specs.Book.{runs_at}
use Rattle.history.specs.Entries.{cell_of, item_change, cells_of, items_of, no_item}
use Rattle.history.specs.EntryLaws.{usable_at}
use Rattle.history.specs.Words.{histories_in}
use Rattle.history.specs.CellLaws.{runs, items-can_run}
use Rattle.history.proofs.turns.can_run.Goals as goal

pub history_at-requires : goal.history_at-requires
history_at-requires c = (usable_at c.args.e c.requires c.loop-x.x-index).history

pub returns-then-not-is_next : goal.returns-then-not-is_next
returns-then-not-is_next c =
    let cells = cells_of (histories_in c.args.book.now) in
    let here : runs cells (get_or (items_of c.args.e) c.loop-x.x-index no_item) ≡ false =
    sym (c.is_next.ensures ∙ ap (λ h. runs_at (cell_of h) (item_change (get_or (items_of c.args.e) c.loop-x.x-index no_item))) c.history_at.ensures) ∙ c.if-not-is_next.true in
    and_is (all (runs cells)) (runs cells) refl (λ _ _. refl) (items_of c.args.e) no_item false (λ e. absurd (cc))
    (λ e. (c.loop-x.x-index, c.loop-x-test.true, here)) ∙ items-can_run cells c.args.e

pub loop-x-preserved : goal.loop-x-preserved
loop-x-preserved c =
    below_more _ _ c.loop-x.invariant
    (sym (c.is_next.ensures ∙ ap (λ h. runs_at (cell_of h) (item_change (get_or (items_of c.args.e) c.loop-x.x-index no_item))) c.history_at.ensures) ∙ c.if-not-is_next.false)

pub returns : goal.returns
returns c =
    let cells = cells_of (histories_in c.args.book.now) in
    and_is (all (runs cells)) (runs cells) refl (λ _ _. refl) (items_of c.args.e) no_item true
    (λ e i h. c.loop-x.invariant i (omega arith)) (λ e. absurd (cc)) ∙ items-can_run cells c.args.e
