-- Two lists behind `(ok `.
use Rattle.std.proofs.Common.{ℕ, arith, length-append}
use Rattle.forms.specs.Forms.{answer_text}
use Rattle.forms.specs.Write.{pair_text}
use Rattle.forms.proofs.Ended.{joined}
use Rattle.forms.proofs.text.write_persisted.Goals as goal

pub returns : goal.returns
unfolding answer_text pair_text
returns c =
    joined (omega (arith, length-append {A = ℕ})) c.write_word-a.ensures c.write_pair.ensures

pub write_pair-requires : goal.write_pair-requires
unfolding answer_text pair_text
write_pair-requires c = omega (arith, length-append {A = ℕ})
