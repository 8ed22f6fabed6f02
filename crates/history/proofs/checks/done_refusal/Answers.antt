-- A did line's updates are asked of as those of an add: held in the same places, with the same verdict.
use Rattle.std.proofs.Common.{ℕ, ◌≡◌, List, map, get_or, length, subst, sym, ap, refl, ◌∙◌, rules, arith}
use Rattle.forms.specs.Held.{as_asked, as_change}
use Rattle.forms.specs.declared.Asked.{Asked}
use Rattle.forms.specs.declared.Done.{Done}
use Rattle.history.specs.Asking.{verdict_of, change_update, HoldsUpdates, no_asked, no_done_update}
use Rattle.history.specs.Tests.{four_is}
use Rattle.history.specs.AskingLaws.{holds-reported, changes_refusal_lem}
use Rattle.history.proofs.checks.done_refusal.Goals as goal

-- the update that a change reports
abbrev report : Done → Asked
report d = as_asked (change_update (as_change d))

-- what stands at an index
abbrev At : goal.After-asked_refusal → ℕ → Type 0
At c k = get_or c.map.result k no_asked ≡ report (get_or c.args.held.first k no_done_update)

pub returns : goal.returns
returns c = λ xs e.
    let a = c.args in
    let l : length c.map.result ≡ 4 = search rules in
    let m : length a.held.first ≡ 4 = search rules in
    let p : At c 0 = grind arith in
    let q : At c 1 = grind arith in
    let r : At c 2 = grind arith in
    let s : At c 3 = grind arith in
    let reported : c.map.result ≡ map report a.held.first =
    four_is c.map.result no_asked l p q r s ∙ sym (ap (map report) (four_is a.held.first no_done_update m refl refl refl refl)) in
    c.asked_refusal.ensures (map change_update xs)
    (subst (λ (l : List Asked). HoldsUpdates (record { count = a.held.count; first = l }) (map change_update xs)) (sym reported)
    (holds-reported a.held xs e))
    ∙ ap verdict_of (changes_refusal_lem a.n xs)
