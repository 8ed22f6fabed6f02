-- The numbers that are made by index are those of the column.
use Rattle.std.proofs.Common.{ℕ, ◌+◌, ◌*◌, ◌<◌, ◌≡◌, get_or, length, sym, rules}
use Rattle.history.specs.Words.{width}
use Rattle.history.specs.WordLaws.{column_is}
use Rattle.history.proofs.book.column_at.Goals as goal

pub returns : goal.returns
returns c =
    let long : length c.from_fn.result ≡ 16 = search rules in
    let at : (k : ℕ) → k < 16 → get_or c.args.words.now (width * k + c.args.f) 0 ≡ get_or c.from_fn.result k 0 = search rules in
    sym (column_is c.args.f c.args.words.now c.from_fn.result long at)
