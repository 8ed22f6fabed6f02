-- The contract of restart holds for whatever stands in the order and in the book's numbers, so zeros serve; a site that it gives is valid.
use Rattle.std.proofs.Common.{ℕ, ◌*◌, List, [], replicate}
use Rattle.rules.specs.Calls.{restart}
use Rattle.history.specs.Words.{width}
use Rattle.table.specs.Rows.{row_width}
use Rattle.site.specs.Model.{Lent, lent}
use Rattle.site.specs.OpenLaws.{blank_site}
use Rattle.c_api.specs.Taken.{accepted_form, up_refused, up_taken}
use Rattle.c_api.proofs.taken.take_up.Goals as goal

-- what is lent to the restart
abbrev zeros : List ℕ → Lent
zeros log = lent log (replicate (64 * row_width) 0) (replicate 64 0) (replicate (16 * width) 0) []

pub returns-in-Refused : goal.returns-in-Refused
returns-in-Refused c =
    let a = c.args in
    let r = c.restart-c in
    up_refused blank_site (zeros a.log.now) r.result (lent a.log.now r.new.rows r.new.order r.new.book []) (restart a.log.now a.kept)
    c.in-Refused.q (r.ensures []) c.in-Refused.is

pub returns-in_default : goal.returns-in_default
returns-in_default c =
    let a = c.args in
    let r = c.restart-c in
    up_taken blank_site (zeros a.log.now) r.result a.log.now r.new.rows r.new.order r.new.book (restart a.log.now a.kept)
    (r.ensures []) (accepted_form r.result.reply.form c.in_default.not-Refused)
