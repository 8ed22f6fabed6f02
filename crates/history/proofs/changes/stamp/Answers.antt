-- The item at each index is stamped; the entry is these four, blank past the count like the old one.
use Rattle.std.proofs.Common.{ℕ, ◌≡◌, get_or, length, rules, arith}
use Rattle.history.specs.Entries.{cells_of, items_of, no_item}
use Rattle.history.specs.Cells.{stamped}
use Rattle.history.specs.Words.{histories_in}
use Rattle.history.specs.Tests.{four_is}
use Rattle.history.specs.EntryLaws.{stamps}
use Rattle.history.proofs.changes.stamp.Goals as goal

-- what stands at an index
abbrev At : goal.After-from_fn → ℕ → Type 0
At c k =
    get_or c.from_fn.result k no_item
    ≡ stamped (cells_of (histories_in c.args.book.now) (get_or (items_of c.args.e) k no_item).history) (get_or (items_of c.args.e) k no_item)

pub returns : goal.returns
returns c =
    let long : length c.from_fn.result ≡ 4 = search rules in
    let p : At c 0 = grind arith in
    let q : At c 1 = grind arith in
    let r : At c 2 = grind arith in
    let s : At c 3 = grind arith in
    stamps (cells_of (histories_in c.args.book.now)) c.args.e c.requires.0 c.from_fn.result (four_is c.from_fn.result no_item long p q r s)
