-- The list stands behind `(ok ` and before a bracket.
use Rattle.std.proofs.Common.{ℕ, arith, length-append}
use Rattle.forms.proofs.Ended.{joined}
use Rattle.forms.proofs.text.write_listed.Goals as goal

pub returns : goal.returns
returns c =
    joined (omega (arith, length-append {A = ℕ})) c.write_word-a.ensures (
    joined (omega (arith, length-append {A = ℕ})) c.write_numbers-b.ensures c.write_word.ensures)
