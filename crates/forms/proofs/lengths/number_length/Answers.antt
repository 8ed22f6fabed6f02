-- A number has a digit at least, and at most 20.
use Rattle.std.proofs.Common.{arith}
use Rattle.forms.specs.DecimalLaws.{length_small, length_large, digits-at_most, digits-some}
use Rattle.forms.proofs.lengths.number_length.Goals as goal

pub overflow_add-count : goal.overflow_add-count
overflow_add-count c =
    let most = digits-at_most c.args.x (omega (arith, c.ranges.x)) in
    omega (arith, digits-some c.loop-rest.rest)

pub loop-rest-preserved : goal.loop-rest-preserved
loop-rest-preserved c = let large = length_large c.loop-rest.rest c.loop-rest-test.true in omega arith

pub returns : goal.returns
returns c =
    let small = length_small c.loop-rest.rest c.loop-rest-test.false in
    let most = digits-at_most c.args.x (omega (arith, c.ranges.x)) in
    record { is = omega arith; small = omega arith }
