-- The contract of restart holds for whatever stands in the order and in the book's numbers, so zeros serve; its reply is then written as text.
use Prim.Native.Nat.{ℕ, ◌*◌}
use mathlib.Core.List.{List, []}
use lib.ListN.{replicate}
use Rattle.rules.specs.Calls.{restart}
use Rattle.history.specs.Words.{width}
use Rattle.table.specs.Rows.{row_width}
use Rattle.site.specs.Model.{lent}
use Rattle.site.specs.OpenLaws.{blank_site}
use Rattle.c_api.specs.RestartLaws.{puts_reply}
use Rattle.c_api.proofs.restart.site_restart.Goals as goal

-- the rows, the order and the words of the histories before the restart
abbrev rs : List ℕ
rs = replicate (64 * row_width) 0

abbrev os : List ℕ
os = replicate 64 0

abbrev bs : List ℕ
bs = replicate (16 * width) 0

pub returns : goal.returns
returns c =
    let bytes = c.args.log.now in
    let r = c.restart-c in
    let w = c.write_reply in
    puts_reply blank_site (lent bytes rs os bs []) (restart bytes c.args.k) r.result bytes r.new.rows r.new.order r.new.book
    c.args.out.now w.new.buf w.result c.code.result (r.ensures []) w.ensures.writes c.code.ensures
