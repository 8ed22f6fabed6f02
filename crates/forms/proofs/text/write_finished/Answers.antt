-- The number, the values and the two parts of the ids, one behind the other.
use Rattle.std.proofs.Common.{ℕ, arith, length-append}
use Rattle.forms.specs.Forms.{answer_text}
use Rattle.forms.specs.Write.{parts_text}
use Rattle.forms.specs.Write.{pair_text}
use Rattle.forms.proofs.Ended.{joined}
use Rattle.forms.proofs.text.write_finished.Goals as goal

pub returns : goal.returns
unfolding answer_text parts_text pair_text
returns c =
    joined (omega (arith, length-append {A = ℕ})) c.write_word-a.ensures (
    joined (omega (arith, length-append {A = ℕ})) c.write_field-b.ensures (
    joined (omega (arith, length-append {A = ℕ})) c.write_word-c.ensures (
    joined (omega (arith, length-append {A = ℕ})) c.write_numbers-d.ensures c.write_parts.ensures)))

pub write_parts-requires : goal.write_parts-requires
unfolding answer_text parts_text pair_text
write_parts-requires c = omega (arith, length-append {A = ℕ})
