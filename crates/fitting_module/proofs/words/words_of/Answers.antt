-- The array has the words in the definition's order; the two bools are the numbers that `bit` gives.
use Rattle.std.proofs.Common.{[], ◌∷◌}
use Rattle.call_words.specs.Counters.{words_are}
use Rattle.fitting_module.specs.Words.{words_of}
use Rattle.fitting_module.proofs.words.words_of.Goals as goal

pub returns : goal.returns
unfolding words_of
returns c =
    let s = c.args.s in
    words_are s.opened s.site (s.promise ∷ s.held ∷ []) _ _ c.bit.ensures c.bit-2.ensures
