-- By recursion, with the number as measure.
use Rattle.forms.proofs.text.+write_number.Given as goal

abbrev pub decreases-write_number : goal.decreases-write_number
decreases-write_number l = l.x
