-- The checks are asked for in the order 3, 4, 5, and the first that holds is the first of the definition.
use Rattle.std.proofs.Common.{not, leb, sym, ◌∙◌, rules, tests}
use Rattle.std.proofs.lemmas.Iterator.{YieldsList-from_slice}
use Rattle.std.proofs.lemmas.Iterator.Search.{any_from_yields_List}
use Rattle.forms.specs.declared.Asked.{Asked}
use Rattle.rules.specs.Rules.{operand_fits}
use Rattle.history.specs.Tests.{list_any_is}
use Rattle.history.specs.AskingLaws.{refused_absent, refused_twice, refused_misfits, passes-all}
use Rattle.history.proofs.checks.several_refusal.Goals as goal

pub returns-then-any : goal.returns-then-any
returns-then-any c =
    let a = c.args in
    let xs = a.asked.now in
    let absent = any_from_yields_List (λ (x : Asked). leb a.n x.history) _ _ c.any.result c.any.ensures.ran (YieldsList-from_slice xs cc) (λ x b q k. search (rules, tests)) in
    refused_absent a.n xs c.requires.0 c.requires.1 (sym (list_any_is _ xs) ∙ sym absent ∙ c.if-any.true)

pub returns-then-is_twice : goal.returns-then-is_twice
returns-then-is_twice c =
    let a = c.args in
    let xs = a.asked.now in
    let absent = any_from_yields_List (λ (x : Asked). leb a.n x.history) _ _ c.any.result c.any.ensures.ran (YieldsList-from_slice xs cc) (λ x b q k. search (rules, tests)) in
    refused_twice a.n xs c.requires.0 c.requires.1 (sym (list_any_is _ xs) ∙ sym absent ∙ c.if-any.false)
    (sym c.is_twice.ensures ∙ c.if-is_twice.true)

pub returns-then-any-2 : goal.returns-then-any-2
returns-then-any-2 c =
    let a = c.args in
    let xs = a.asked.now in
    let absent = any_from_yields_List (λ (x : Asked). leb a.n x.history) _ _ c.any.result c.any.ensures.ran (YieldsList-from_slice xs cc) (λ x b q k. search (rules, tests)) in
    let misfits = any_from_yields_List (λ (x : Asked). not (operand_fits x.rule x.version.0 x.operand)) _ _ c.any-2.result c.any-2.ensures.ran (YieldsList-from_slice xs cc) (λ x b q k. search (rules, tests)) in
    refused_misfits a.n xs c.requires.0 c.requires.1 (sym (list_any_is _ xs) ∙ sym absent ∙ c.if-any.false)
    (sym c.is_twice.ensures ∙ c.if-is_twice.false)
    (sym (list_any_is _ xs) ∙ sym misfits ∙ c.if-any-2.true)

pub returns : goal.returns
returns c =
    let a = c.args in
    let xs = a.asked.now in
    let absent = any_from_yields_List (λ (x : Asked). leb a.n x.history) _ _ c.any.result c.any.ensures.ran (YieldsList-from_slice xs cc) (λ x b q k. search (rules, tests)) in
    let misfits = any_from_yields_List (λ (x : Asked). not (operand_fits x.rule x.version.0 x.operand)) _ _ c.any-2.result c.any-2.ensures.ran (YieldsList-from_slice xs cc) (λ x b q k. search (rules, tests)) in
    passes-all a.n xs c.requires.0 c.requires.1 (sym (list_any_is _ xs) ∙ sym absent ∙ c.if-any.false)
    (sym c.is_twice.ensures ∙ c.if-is_twice.false)
    (sym (list_any_is _ xs) ∙ sym misfits ∙ c.if-any-2.false)
