-- The three numbers that are read are those of history i in the words.
use Rattle.std.proofs.Common.{sym, ◌∙◌}
use Rattle.history.specs.WordLaws.{history_read, history_in_lem}
use Rattle.history.proofs.book.history_at.Goals as goal

pub returns : goal.returns
returns c = history_read c.args.words.now c.args.i ∙ sym (history_in_lem c.args.words.now c.args.i c.requires)
