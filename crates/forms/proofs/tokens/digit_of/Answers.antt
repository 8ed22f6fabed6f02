-- In the range the value is told, and below and above it there is no digit.
use Rattle.std.proofs.Common.{sym, arith}
use Rattle.forms.specs.ByteLaws.{digit_here, digit_below, digit_above}
use Rattle.forms.proofs.tokens.digit_of.Goals as goal

pub returns-in-48-to-57 : goal.returns-in-48-to-57
returns-in-48-to-57 c = sym (digit_here _ (omega arith) (omega arith))

pub returns-in_default : goal.returns-in_default
returns-in_default c = sym (digit_below _ (omega arith))

pub returns-in_default-2 : goal.returns-in_default-2
returns-in_default-2 c = sym (digit_above _ (omega arith))
