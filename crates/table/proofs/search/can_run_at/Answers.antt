-- Each update is asked, with its history as it stands.
use Rattle.std.proofs.Common.{ℕ, refl, arith, rules, sym, ap, ◌∙◌, get_or, take}
use borrow.Author.Tests.{tests}
use Rattle.std.proofs.lemmas.Iterator.{YieldsList-from_range}
use Rattle.std.proofs.lemmas.Iterator.Search.{all_from_yields_List}
use Rattle.forms.specs.Lists.{all}
use Rattle.forms.specs.Forms.{Change}
use Rattle.rules.specs.Book.{runs_at}
use Rattle.history.specs.declared.Item.{Item}
use Rattle.history.specs.Entries.{no_item, cells_of, item_change, items_of, can_run_in, did_of_entry}
use Rattle.history.specs.Words.{histories_in}
use Rattle.history.specs.Tests.{all_map}
use Rattle.table.specs.Rows.{row_at}
use Rattle.table.specs.EntryLaws.{runs_read}
use Rattle.table.specs.LoopLaws.{all_places}
use Rattle.table.proofs.search.can_run_at.Goals as goal

pub returns : goal.returns
unfolding can_run_in did_of_entry
returns c =
    let v = c.requires.1 in
    let e = row_at c.args.rows.now c.args.e in
    let n = c.count_at.result in
    let cells = cells_of (histories_in c.args.book.now) in
    let runs = λ (x : Item). runs_at (cells x.history) (item_change x) in
    all_from_yields_List (λ (j : ℕ). runs (get_or e.items j no_item)) _ _ c.all.result c.all.ensures.ran
    (YieldsList-from_range 0 n n refl (omega arith)) (λ j b q k. search (rules, tests, runs_read))
    ∙ all_places runs no_item e.items 0 n (omega (arith, c.count_at.ensures, v.long, v.few))
    ∙ ap (λ (k : ℕ). all runs (take k e.items)) c.count_at.ensures
    ∙ sym (all_map item_change (λ (y : Change). runs_at (cells y.history) y) (items_of e))
