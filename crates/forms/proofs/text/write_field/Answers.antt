-- A space and then the digits are the text of a field.
use Rattle.std.proofs.Common.{ℕ, arith, length-append}
use Rattle.forms.specs.Forms.{field_text}
use Rattle.forms.proofs.Ended.{joined}
use Rattle.forms.proofs.text.write_field.Goals as goal

pub returns : goal.returns
unfolding field_text
returns c =
    joined (omega (arith, length-append {A = ℕ})) c.write_word-a.ensures c.write_number.ensures
