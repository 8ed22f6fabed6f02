-- The digits of x are those of x / 100 and then two, which are written behind them.
use Rattle.std.proofs.Common.{◌+◌, ◌≤◌, ◌/◌, ◌%◌, length, arith}
use Rattle.forms.specs.Decimal.{digits, two_digits}
use Rattle.forms.specs.DecimalLaws.{digits_more, length_more}
use Rattle.forms.specs.WriteLaws.{wrote_more}
use Rattle.forms.proofs.text.+write_number.Goals as goal

pub write_small-front-requires : goal.write_small-front-requires
write_small-front-requires t c =
    let n = length_more c.args.x c.if-x-lt100.false in
    (omega arith, omega arith)

pub write_two_digits-requires : goal.write_two_digits-requires
write_two_digits-requires t c =
    let n = length_more c.args.x c.if-x-lt100.false in
    let w = c.write_small-front in
    (omega arith, omega (arith, w.auto.buf, w.ensures.behind))

pub returns-then-x-lt10000 : goal.returns-then-x-lt10000
returns-then-x-lt10000 t c =
    let a = c.args in
    let w = c.write_small-front in
    let v = c.write_two_digits in
    let n = length_more a.x c.if-x-lt100.false in
    let k : a.at + length (digits a.x) ≤ length a.buf.now = c.requires in
    rw (digits_more a.x c.if-x-lt100.false)
    (wrote_more a.buf.now a.at (digits (a.x / 100)) (two_digits (a.x % 100)) w.result v.result w.new.buf v.new.buf
    (omega arith) w.ensures v.ensures)

pub write_number-next-requires : goal.write_number-next-requires
write_number-next-requires t c =
    let n = length_more c.args.x c.if-x-lt100.false in
    (omega arith, omega arith)

pub write_two_digits-requires-2 : goal.write_two_digits-requires-2
write_two_digits-requires-2 t c =
    let n = length_more c.args.x c.if-x-lt100.false in
    let w = c.write_number-next in
    (omega arith, omega (arith, w.auto.buf, w.ensures.behind))

pub returns : goal.returns
returns t c =
    let a = c.args in
    let w = c.write_number-next in
    let v = c.write_two_digits-2 in
    let n = length_more a.x c.if-x-lt100.false in
    let k : a.at + length (digits a.x) ≤ length a.buf.now = c.requires in
    rw (digits_more a.x c.if-x-lt100.false)
    (wrote_more a.buf.now a.at (digits (a.x / 100)) (two_digits (a.x % 100)) w.result v.result w.new.buf v.new.buf
    (omega arith) w.ensures v.ensures)
