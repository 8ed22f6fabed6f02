-- A byte that is no digit ends the number.
use Rattle.std.proofs.Common.{◌+◌, ◌∙◌, ap, sym, refl, arith, drop, get_or}
use Rattle.forms.specs.Decimal.{more}
use Rattle.forms.specs.Decimal.Step.{got}
use Rattle.forms.specs.ByteLaws.{DigitOf, read_digit, no_digit}
use Rattle.forms.specs.AtLaws.{number-end, number_none, number-first, more_none, more-next, more_refused, more-end}
use Rattle.forms.specs.SeenLaws.{is_at, is_none}
use Rattle.forms.proofs.tokens.read_number.Goals as goal

pub returns-then-at-s : goal.returns-then-at-s
returns-then-at-s c = is_none refl (number-end _ c.args.at (omega arith))

pub returns-in_err-first : goal.returns-in_err-first
returns-in_err-first c =
    let a = c.args in
    is_none c.from_residual.ensures (number_none a.s.now a.at (omega arith) (no_digit _ (sym c.digit_of.ensures ∙ c.in_err-first.was)))

pub loop-next-init : goal.loop-next-init
loop-next-init c =
    let a = c.args in
    let d : DigitOf (get_or a.s.now a.at 0) c.in_ok-first.first = read_digit _ _ (sym c.digit_of.ensures ∙ c.in_ok-first.was) in
    record {
      small = omega arith;
      rest = number-first a.s.now a.at (omega arith) d.is ∙ ap (λ v. more v (drop (a.at + 1) a.s.now)) (sym d.value ∙ sym c.from-value.ensures);
    }

pub returns-in_default : goal.returns-in_default
returns-in_default c =
    let l = c.loop-next in
    is_at (omega arith)
    (l.invariant.rest ∙ more_none _ l.next c.loop-next-test.true l.value (no_digit _ (sym c.digit_of-in-loop-next.ensures ∙ c.in_default.is)))

pub grow-requires : goal.grow-requires
grow-requires c =
    let d : DigitOf (get_or c.args.s.now c.loop-next.next 0) c.in-Some.d = read_digit _ _ (sym c.digit_of-in-loop-next.ensures ∙ c.in-Some.is) in
    omega arith

pub returns-in_err-value : goal.returns-in_err-value
returns-in_err-value c =
    let l = c.loop-next in
    let d : DigitOf (get_or c.args.s.now l.next 0) c.in-Some.d = read_digit _ _ (sym c.digit_of-in-loop-next.ensures ∙ c.in-Some.is) in
    let g = c.in_err-value.ensures in
    is_none c.from_residual-in_err-value.ensures
    (l.invariant.rest ∙ more_refused _ l.next c.loop-next-test.true l.value d.is (rw d.value at g))

pub loop-next-preserved : goal.loop-next-preserved
loop-next-preserved c =
    let l = c.loop-next in
    let a = c.args.s.now in
    let d : DigitOf (get_or a l.next 0) c.in-Some.d = read_digit _ _ (sym c.digit_of-in-loop-next.ensures ∙ c.in-Some.is) in
    let g = c.in_ok-value.ensures in
    record {
      small = g.2;
      rest =
          l.invariant.rest ∙ more-next _ l.next c.loop-next-test.true l.value d.is g.0 (omega arith)
          ∙ ap (λ v. more v (drop (l.next + 1) a)) (omega arith);
    }

pub returns : goal.returns
returns c =
    let l = c.loop-next in
    is_at (omega arith)
    (l.invariant.rest ∙ more-end _ l.next (omega arith) l.value
    ∙ ap (λ n. got l.value (drop n c.args.s.now)) (omega arith))
