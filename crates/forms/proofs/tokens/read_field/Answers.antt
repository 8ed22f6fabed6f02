-- A space and then a number, each by its own contract.
use Rattle.std.proofs.Common.{ap}
use Rattle.forms.specs.Read.{word_seen}
use Rattle.forms.specs.SeenLaws.{is_got, is_bad, is_along, is_none}
use Rattle.forms.specs.ItemLaws.{field_at, field-bad}
use Rattle.forms.proofs.tokens.read_field.Goals as goal

pub read_number-requires : goal.read_number-requires
read_number-requires c = (is_got c.read_mark.ensures (ap word_seen c.in_ok-next.was)).within

pub returns-in_err-next : goal.returns-in_err-next
returns-in_err-next c = is_none c.from_residual.ensures (field-bad _ (is_bad c.read_mark.ensures (ap word_seen c.in_err-next.was)))

pub returns : goal.returns
returns c = is_along c.read_number.ensures (field_at _ (is_got c.read_mark.ensures (ap word_seen c.in_ok-next.was)))
