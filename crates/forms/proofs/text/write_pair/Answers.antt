-- Two lists and a bracket, one behind the other.
use Rattle.std.proofs.Common.{ℕ, arith, length-append}
use Rattle.forms.specs.Write.{pair_text}
use Rattle.forms.proofs.Ended.{joined}
use Rattle.forms.proofs.text.write_pair.Goals as goal

pub returns : goal.returns
unfolding pair_text
returns c =
    joined (omega (arith, length-append {A = ℕ})) c.write_numbers-a.ensures (
    joined (omega (arith, length-append {A = ℕ})) c.write_numbers-b.ensures c.write_word.ensures)
