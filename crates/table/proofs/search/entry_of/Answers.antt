-- Each entry has a row; the search answers for the rows as the definition does.
use Rattle.std.proofs.Common.{◌≡◌, ℕ, ◌<◌, arith, rules, sym, ap, subst, ◌∙◌, eqb, take, length-take-le, get_or-take, Option, Some, None, option_map}
use borrow.Author.Tests.{tests}
use Rattle.std.specs.List.{find}
use Rattle.std.specs.Option.{MatchOption, IsSomeAnd}
use Rattle.std.proofs.lemmas.List.{get_or_default}
use Rattle.std.proofs.lemmas.Iterator.{YieldsList-from_slice}
use Rattle.std.proofs.lemmas.Iterator.Adapters.{serves_from_places, option_map_id}
use Rattle.std.proofs.lemmas.Iterator.Consumers.{YieldsList-from_copied}
use Rattle.std.proofs.lemmas.Iterator.Search.{find_from_yields_List}
use Rattle.table.specs.declared.EntryNumber.{EntryNumber}
use Rattle.table.specs.Rows.{row_at, HasRow}
use Rattle.table.specs.LookupLaws.{lookup_first}
use Rattle.table.proofs.search.entry_of.Goals as goal

-- what a call that answers f of a number makes of an option
mapped : {R : ℕ → EntryNumber → Type 0} (f : ℕ → EntryNumber) (r : Option ℕ) (s : Option EntryNumber)
    → MatchOption r (s ≡ None) (λ x. IsSomeAnd s (R x)) → ((x : ℕ) (y : EntryNumber) → R x y → y ≡ f x) → s ≡ option_map f r
mapped f None s e same = e
mapped f (Some x) (Some y) e same = ap Some (same x y e)
mapped f (Some x) None e same = absurd e

pub find-requires-clause-callable : goal.find-requires-clause-callable
find-requires-clause-callable c =
    let a = c.args in
    let o = a.order.now in
    let u = c.requires in
    let items = take a.n o in
    serves_from_places (YieldsList-from_copied (YieldsList-from_slice items cc)) (λ x q k. search (rules, tests))
    (λ x k lt e.
    let low : k < a.n = omega (arith, length-take-le a.n o u.few) in
    let row : HasRow a.rows.now x =
    subst (HasRow a.rows.now) (sym (e ∙ get_or_default items k x 0 lt ∙ get_or-take a.n o k 0 low)) (u.within k low)
    in
    search rules)

pub returns : goal.returns
returns c =
    let a = c.args in
    let items = take a.n a.order.now in
    let test : ℕ → _ = λ (e : ℕ). eqb (row_at a.rows.now e).id a.id in
    let found : c.find.result ≡ find test items =
    sym (option_map_id c.find.result)
    ∙ find_from_yields_List test _ _ c.find.result c.find.ensures.ran (YieldsList-from_copied (YieldsList-from_slice items cc))
    (λ x b q k. search (rules, tests))
    in
    let named : c.map.result ≡ option_map (λ (e : ℕ). record { 0 = e }) c.find.result =
    mapped (λ (e : ℕ). record { 0 = e }) c.find.result c.map.result c.map.ensures.cases (λ x y k. search rules)
    in
    named ∙ ap (option_map (λ (e : ℕ). record { 0 = e })) found ∙ lookup_first a.rows.now a.id items
