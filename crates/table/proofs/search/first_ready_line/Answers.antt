-- Each entry of the slice has a row that can be used; the search answers for the rows as the definition does.
use Rattle.std.proofs.Common.{List, ℕ, ◌+◌, ◌-◌, rules, sym, ap, subst, ◌∙◌, take, drop}
use borrow.Author.Tests.{tests}
use Rattle.std.proofs.lemmas.List.{get_or_default}
use Rattle.std.proofs.lemmas.Iterator.{YieldsList-from_slice}
use Rattle.std.proofs.lemmas.Iterator.Adapters.{serves_from_places}
use Rattle.std.proofs.lemmas.Iterator.Adapters.{position_from-zero}
use Rattle.std.proofs.lemmas.Iterator.Search.{position_from_yields_List}
use Rattle.table.specs.Rows.{row_at, HasRow}
use Rattle.history.specs.Entries.{UsableEntry, cells_of}
use Rattle.history.specs.Words.{histories_in}
use Rattle.table.specs.Tables.{can_run_entry, rows_of}
use Rattle.table.specs.Lists.{first_at}
use Rattle.table.specs.RangeLaws.{slice_place, slice_at, slice_is, first_of}
use Rattle.table.proofs.search.first_ready_line.Goals as goal

pub position-requires-clause-callable : goal.position-requires-clause-callable
position-requires-clause-callable c =
    let a = c.args in
    let o = a.order.now in
    let u = c.requires.0 in
    let items = take (a.to - a.from) (drop a.from o) in
    serves_from_places (YieldsList-from_slice items cc) (λ x q k. search (rules, tests))
    (λ x k lt e.
    let p = slice_place o a.from a.to u.few k lt in
    let place = e ∙ get_or_default items k x.now 0 lt ∙ slice_at o a.from a.to u.few k lt in
    let row : HasRow a.rows.now x.now = subst (HasRow a.rows.now) (sym place) (u.within (a.from + k) p) in
    let entry : UsableEntry (row_at a.rows.now x.now) =
    subst (λ (n : ℕ). UsableEntry (row_at a.rows.now n)) (sym place) (u.each (a.from + k) p)
    in
    search rules)

pub returns : goal.returns
returns c =
    let a = c.args in
    let o = a.order.now in
    let items = take (a.to - a.from) (drop a.from o) in
    let test = can_run_entry (cells_of (histories_in a.book.now)) in
    position_from_yields_List (λ (e : ℕ). test (row_at a.rows.now e)) _ _ c.position.result c.position.ensures.ran
    (YieldsList-from_slice items cc) (λ x b q k. search (rules, tests))
    ∙ position_from-zero (λ (e : ℕ). test (row_at a.rows.now e)) items
    ∙ first_of (row_at a.rows.now) test items
    ∙ ap (λ (l : List ℕ). first_at test (rows_of a.rows.now l)) (slice_is o a.from a.to)
