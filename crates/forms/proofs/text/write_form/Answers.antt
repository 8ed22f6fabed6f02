-- A refusal is a list of one number; each other arm is found by the check.
use Rattle.forms.specs.TextLaws.{refused_text}
use Rattle.forms.proofs.text.write_form.Goals as goal

pub write_one-requires : goal.write_one-requires
write_one-requires c = rw c.refusal_number.ensures (rw (c.in-Refused.is, refused_text) at c.requires)

pub returns-in-Refused : goal.returns-in-Refused
returns-in-Refused c = rw (c.in-Refused.is, refused_text) (rw c.refusal_number.ensures at c.write_one.ensures)
