-- The six numbers, and ten bytes around them.
use Rattle.std.proofs.Common.{ap, arith, length}
use Rattle.forms.specs.TextLaws.{fields_items, shown_size}
use Rattle.forms.specs.Write.{shown_numbers}
use Rattle.forms.proofs.lengths.shown_length.Goals as goal

pub returns-clause-value : goal.returns-clause-value
returns-clause-value c =
    let s = c.args.s in
    omega (arith, shown_size s, ap length (fields_items (shown_numbers s)), rw c.shown_numbers.ensures at c.all_length.ensures.is)
