-- The record that is found is left out, and those behind it move up; where there is none it is 19.
use Rattle.std.proofs.Common.{◌≡◌, ◌-◌, sym, ◌∙◌, arith}
use Rattle.std.specs.Prelude.{Some, None}
use Rattle.std.proofs.lemmas.Result.{err_from_is_err_and}
use Rattle.forms.specs.declared.Refusal.TheVariants.{NotSent}
use Rattle.records.specs.CallLaws.{call_refused, forget_gone, found_low, forgets}
use Rattle.records.proofs.Records.forget.Goals as goal

pub returns-in_err-i : goal.returns-in_err-i
returns-in_err-i c =
    let a = c.args in
    let gone : c.find.result ≡ None = grind arith in
    let why : c.in_err-i.field-0.0 ≡ NotSent = grind arith in
    let p = err_from_is_err_and c.from_residual.result c.from_residual.ensures.1 in
    rw (p.1, p.2, why)
    (call_refused a.self a.words.now c.requires _ NotSent
    (forget_gone a.self a.words.now c.requires a.id (sym c.find.ensures ∙ gone)))

pub overflow_sub-last : goal.overflow_sub-last
overflow_sub-last c =
    let here : c.find.result ≡ Some c.in_ok-i.i = grind arith in
    let l = found_low c.args.self c.args.words.now c.requires c.args.id c.in_ok-i.i (sym c.find.ensures ∙ here) in
    omega arith

pub overflow_mul-i : goal.overflow_mul-i
overflow_mul-i c =
    let here : c.find.result ≡ Some c.in_ok-i.i = grind arith in
    let l = found_low c.args.self c.args.words.now c.requires c.args.id c.in_ok-i.i (sym c.find.ensures ∙ here) in
    omega (arith, c.requires.few)

pub close_gap-requires : goal.close_gap-requires
close_gap-requires c =
    let here : c.find.result ≡ Some c.in_ok-i.i = grind arith in
    let l = found_low c.args.self c.args.words.now c.requires c.args.id c.in_ok-i.i (sym c.find.ensures ∙ here) in
    (omega arith, omega (arith, c.requires.few, c.requires.long))

pub returns : goal.returns
returns c =
    let a = c.args in
    let here : c.find.result ≡ Some c.in_ok-i.i = grind arith in
    let place = sym c.find.ensures ∙ here in
    let l = found_low a.self a.words.now c.requires a.id c.in_ok-i.i place in
    forgets a.self a.words.now c.requires a.id c.in_ok-i.i place (a.self.count - 1) c.close_gap.new.words (omega arith) c.close_gap.ensures
