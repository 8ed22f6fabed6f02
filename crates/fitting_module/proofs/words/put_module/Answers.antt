-- Each of the four slots is written into its own array.
use Rattle.fitting_module.specs.Words.{words}
use Rattle.fitting_module.proofs.words.put_module.Goals as goal

pub returns : goal.returns
returns c = λ i. words (c.words_of.ensures i) (c.words_of-2.ensures i) (c.words_of-3.ensures i) (c.words_of-4.ensures i)
