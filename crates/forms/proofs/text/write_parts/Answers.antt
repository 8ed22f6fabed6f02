-- The list is cut where the ids overtaken end, or where the list ends.
use Rattle.std.proofs.Common.{rules}
use Rattle.forms.specs.TextLaws.{parts_cut}
use Rattle.forms.proofs.text.write_parts.Goals as goal

pub write_pair-requires : goal.write_pair-requires
write_pair-requires c =
    let a = c.args in
    let cut = parts_cut a.k c.min.result a.ids.now (search rules) in
    rw (c.split_at.ensures.front, c.split_at.ensures.back) (rw cut at c.requires)

pub returns : goal.returns
returns c =
    let a = c.args in
    let w = rw (c.split_at.ensures.front, c.split_at.ensures.back) at c.write_pair.ensures in
    rw (parts_cut a.k c.min.result a.ids.now (search rules)) w
