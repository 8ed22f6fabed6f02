-- Below 10 it is one digit; else two, which are written together.
use Rattle.std.proofs.Common.{arith}
use Rattle.forms.specs.DecimalLaws.{length_small, length_two, digits_small, digits-two}
use Rattle.forms.specs.WriteLaws.{wrote_one}
use Rattle.forms.proofs.text.write_small.Goals as goal

pub bounds-buf-at : goal.bounds-buf-at
bounds-buf-at c = omega (arith, length_small c.args.x c.if-x-lt10.true)

pub returns-then-x-lt10 : goal.returns-then-x-lt10
returns-then-x-lt10 c =
    let a = c.args in
    let n = length_small a.x c.if-x-lt10.true in
    rw (digits_small a.x c.if-x-lt10.true) (wrote_one a.buf.now a.at _ (omega arith))

pub write_two_digits-requires : goal.write_two_digits-requires
write_two_digits-requires c =
    let n = length_two c.args.x c.if-x-lt10.false (omega arith) in
    (omega arith, omega arith)

pub returns : goal.returns
returns c = rw (digits-two c.args.x c.if-x-lt10.false (omega arith)) c.write_two_digits.ensures
