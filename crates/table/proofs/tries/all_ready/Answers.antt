-- Each update is asked, with its history as it stands and by the marks.
use Rattle.std.proofs.Common.{ℕ, refl, arith, rules, sym, ap, ◌∙◌, get_or, take}
use borrow.Author.Tests.{tests}
use Rattle.std.proofs.lemmas.Iterator.{YieldsList-from_range}
use Rattle.std.proofs.lemmas.Iterator.Search.{all_from_yields_List}
use Rattle.forms.specs.Lists.{all}
use Rattle.history.specs.declared.Item.{Item}
use Rattle.history.specs.Entries.{no_item, cells_of, item_update, items_of, operation_of}
use Rattle.history.specs.Words.{histories_in}
use Rattle.history.specs.Tests.{all_map}
use Rattle.table.specs.Rows.{row_at}
use Rattle.table.specs.Tries.{ready_by}
use Rattle.table.specs.LoopLaws.{all_places}
use Rattle.table.proofs.tries.all_ready.Goals as goal

pub returns : goal.returns
unfolding operation_of
returns c =
    let v = c.requires.1 in
    let e = row_at c.args.rows.now c.args.e in
    let n = c.count_at.result in
    let cells = cells_of (histories_in c.args.book.now) in
    let ready = λ (x : Item). ready_by cells c.args.m (item_update x) in
    all_from_yields_List (λ (j : ℕ). ready (get_or e.items j no_item)) _ _ c.all.result c.all.ensures.ran
    (YieldsList-from_range 0 n n refl (omega arith)) (λ j b q k. search (rules, tests))
    ∙ all_places ready no_item e.items 0 n (omega (arith, c.count_at.ensures, v.long, v.few))
    ∙ ap (λ (k : ℕ). all ready (take k e.items)) c.count_at.ensures
    ∙ sym (all_map item_update (ready_by cells c.args.m) (items_of e))
