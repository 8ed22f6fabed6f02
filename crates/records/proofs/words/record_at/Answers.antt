-- Each field is the number that stands there; a mask is that number within 8 bits.
use Rattle.records.specs.Model.{record_from}
use Rattle.records.proofs.words.record_at.Goals as goal

pub returns : goal.returns
unfolding record_from
returns c = rw (c.mask_of.ensures, c.mask_of-2.ensures, c.mask_of-3.ensures)
