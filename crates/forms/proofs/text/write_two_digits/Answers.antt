-- Two bytes are set, one behind the other.
use Rattle.forms.specs.WriteLaws.{wrote_two}
use Rattle.forms.proofs.text.write_two_digits.Goals as goal

pub returns : goal.returns
returns c = wrote_two c.args.buf.now c.args.at _ _ c.requires.1
