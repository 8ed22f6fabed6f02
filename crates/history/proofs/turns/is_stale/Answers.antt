-- Each item names a history, so that its place can be read; the library's answer is the test's over the items.
use Rattle.std.proofs.Common.{◌<◌, subst, ◌∙◌, rules, tests}
use Rattle.std.proofs.iter.Serving.{serving}
use Rattle.std.proofs.lemmas.Iterator.{YieldsList-from_slice}
use Rattle.std.proofs.lemmas.Iterator.Search.{any_from_yields_List}
use Rattle.std.specs.List.{All}
use Rattle.history.specs.declared.Item.{Item}
use Rattle.history.specs.Entries.{cells_of, items_of, no_item}
use Rattle.history.specs.EntryLaws.{usable_at}
use Rattle.history.specs.Words.{histories_in}
use Rattle.history.specs.Tests.{list_any_is}
use Rattle.history.specs.WordLaws.{get_d_any}
use Rattle.history.specs.CellLaws.{is_stale, stale_changes}
use Rattle.history.proofs.turns.is_stale.Goals as goal

pub any-requires-clause-callable : goal.any-requires-clause-callable
any-requires-clause-callable c =
    let xs = items_of c.args.e in
    let low : All (λ (x : Item). x.history < 16) xs =
    λ k d h. subst (λ (x : Item). x.history < 16) (get_d_any xs k no_item d h) (usable_at c.args.e c.requires k).history in
    grind serving

pub returns : goal.returns
returns c =
    let cells = cells_of (histories_in c.args.book.now) in
    let xs = items_of c.args.e in
    any_from_yields_List (is_stale cells) _ _ c.any.result c.any.ensures.ran (YieldsList-from_slice xs cc) (λ x b q k. search (rules, tests))
    ∙ list_any_is (is_stale cells) xs
    ∙ stale_changes cells c.args.e
