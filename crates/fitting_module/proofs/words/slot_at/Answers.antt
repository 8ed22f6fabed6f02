-- Each field is read off its word, as the definition does.
use Rattle.std.proofs.Common.{refl}
use Rattle.call_words.specs.Counters.{site_at}
use Rattle.fitting_module.specs.Words.{slot_at}
use Rattle.fitting_module.proofs.words.slot_at.Goals as goal

pub returns : goal.returns
unfolding slot_at site_at
returns c = refl
