-- Three stores, at the numbers of history i alone.
use Rattle.std.proofs.Common.{◌≡◌, length, rules}
use Rattle.history.specs.Words.{book_length}
use Rattle.history.specs.WordLaws.{history-put}
use Rattle.history.proofs.book.put_history.Goals as goal

pub returns : goal.returns
returns c =
    let long : length c.args.words.now ≡ book_length = search rules in
    history-put c.args.words.now c.args.i c.args.h c.requires long
