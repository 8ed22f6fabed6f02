-- A bracket, the run of letters and the byte behind it, one after the other, are the bytes that the definition compares.
use Rattle.std.proofs.Common.{ap}
use Rattle.forms.specs.Lists.{all}
use Rattle.forms.specs.ListLaws.{and_left, and_right}
use Rattle.forms.specs.Plain.{is_letter, is_mark}
use Rattle.forms.specs.Names.{word_0, word_2, word_3}
use Rattle.forms.specs.Read.{word_seen}
use Rattle.forms.specs.SeenLaws.{is_got, is_bad, is_along, is_none}
use Rattle.forms.proofs.tokens.read_word.Goals as goal

pub returns-in_err-a : goal.returns-in_err-a
returns-in_err-a c = let a = c.args in is_none (ap word_seen c.from_residual.ensures) (word_0 a.w.now a.m _ (is_bad c.read_mark.ensures (ap word_seen c.in_err-a.was)))

pub read_name-requires : goal.read_name-requires
read_name-requires c = (
  (is_got c.read_mark.ensures (ap word_seen c.in_ok-a.was)).within,
  and_right (is_mark c.args.m) (all is_letter c.args.w.now) c.requires.1,
)

pub returns-in_err-b : goal.returns-in_err-b
returns-in_err-b c =
    is_none (ap word_seen c.from_residual-in_err-b.ensures)
    (word_2 _ _ _ c.requires.1
    (is_got c.read_mark.ensures (ap word_seen c.in_ok-a.was)).read
    (is_bad c.read_name.ensures (ap word_seen c.in_err-b.was)))

pub read_mark-requires-2 : goal.read_mark-requires-2
read_mark-requires-2 c = (
  (is_got c.read_name.ensures (ap word_seen c.in_ok-b.was)).within,
  and_left (is_mark c.args.m) (all is_letter c.args.w.now) c.requires.1,
)

pub returns : goal.returns
returns c =
    is_along c.read_mark-2.ensures
    (word_3 _ _ _ c.requires.1
    (is_got c.read_mark.ensures (ap word_seen c.in_ok-a.was)).read
    (is_got c.read_name.ensures (ap word_seen c.in_ok-b.was)).read)
