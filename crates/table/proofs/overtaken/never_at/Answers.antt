-- Each update is asked, with its history as it stands.
use Rattle.std.proofs.Common.{ℕ, refl, arith, rules, sym, ap, ◌∙◌, get_or, take}
use borrow.Author.Tests.{tests}
use Rattle.std.proofs.lemmas.Iterator.{YieldsList-from_range}
use Rattle.std.proofs.lemmas.Iterator.Search.{any_from_yields_List}
use Rattle.forms.specs.Lists.{any}
use Rattle.history.specs.declared.Item.{Item}
use Rattle.history.specs.Cells.{never_in}
use Rattle.history.specs.Entries.{no_item, cells_of, item_update, items_of, operation_of}
use Rattle.history.specs.Words.{histories_in}
use Rattle.history.specs.Tests.{any-map}
use Rattle.table.specs.Rows.{row_at}
use Rattle.table.specs.LoopLaws.{any_places}
use Rattle.table.proofs.overtaken.never_at.Goals as goal

pub returns : goal.returns
unfolding operation_of never_in
returns c =
    let v = c.requires.1 in
    let e = row_at c.args.rows.now c.args.e in
    let n = c.count_at.result in
    let cells = cells_of (histories_in c.args.book.now) in
    let never = λ (x : Item). never_in cells (item_update x) in
    any_from_yields_List (λ (j : ℕ). never (get_or e.items j no_item)) _ _ c.any.result c.any.ensures.ran
    (YieldsList-from_range 0 n n refl (omega arith)) (λ j b q k. search (rules, tests))
    ∙ any_places never no_item e.items 0 n (omega (arith, c.count_at.ensures, v.long, v.few))
    ∙ ap (λ (k : ℕ). any never (take k e.items)) c.count_at.ensures
    ∙ sym (any-map item_update (never_in cells) (items_of e))
