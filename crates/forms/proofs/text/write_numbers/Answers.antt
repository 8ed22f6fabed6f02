-- The numbers stand behind the word and before a bracket.
use Rattle.std.proofs.Common.{ℕ, ap, sym, subst, arith, List, length, length-append}
use Rattle.forms.specs.Forms.{numbers_text}
use Rattle.forms.specs.Write.{Wrote}
use Rattle.forms.specs.TextLaws.{fields_items}
use Rattle.forms.proofs.Ended.{joined}
use Rattle.forms.proofs.text.write_numbers.Goals as goal

pub write_all-b-requires : goal.write_all-b-requires
unfolding numbers_text
write_all-b-requires c = omega (arith, length-append {A = ℕ}, ap length (fields_items c.args.ns.now))

pub write_word-requires : goal.write_word-requires
unfolding numbers_text
write_word-requires c = omega (arith, length-append {A = ℕ}, ap length (fields_items c.args.ns.now))

pub returns : goal.returns
unfolding numbers_text
returns c =
    let b = c.write_all-b in
    let fields = subst (λ (x : List ℕ). Wrote c.write_word-a.new.buf c.write_word-a.result x b.result b.new.buf) (sym (fields_items c.args.ns.now)) b.ensures in
    joined (omega (arith, length-append {A = ℕ})) c.write_word-a.ensures
    (joined (omega (arith, length-append {A = ℕ})) fields c.write_word.ensures)
