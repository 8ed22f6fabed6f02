-- Bytes that are no keeper's get their own number; otherwise the keeper taken up from them is valid, and the call's contract gives the
-- reply.
use Rattle.std.proofs.Common.{arith, rules, sym, ap, ◌∙◌}
use Rattle.rules.specs.Keeper.{drop_lines}
use Rattle.keeper.specs.Model.{keeper_view}
use Rattle.c_api.specs.Codes.{replied_number}
use Rattle.c_api.specs.KeeperCallLaws.{taken_up, not_taken_up, replies_none, used_mapped, replies_does, does_within}
use Rattle.c_api.proofs.keepers.keeper_drop.Goals as goal

pub returns-in_default : goal.returns-in_default
returns-in_default c =
    let a = c.args in
    replies_none a.used a.buf.now _ (not_taken_up a.used a.buf.now c.resume.result c.resume.ensures c.in_default.is)

pub drop_lines-kept-requires : goal.drop_lines-kept-requires
drop_lines-kept-requires c =
    let a = c.args in
    (taken_up a.used a.buf.now c.in-Some.k c.resume.result c.resume.ensures c.in-Some.is).valid

pub replied_number-requires : goal.replied_number-requires
replied_number-requires c = λ n e.
    let a = c.args in
    let up = taken_up a.used a.buf.now c.in-Some.k c.resume.result c.resume.ensures c.in-Some.is in
    let m = used_mapped _ c.drop_lines-kept.result c.map.result c.map.ensures.cases (λ x n h. search rules) in
    let w = does_within a.used a.buf.now c.in-Some.k up (drop_lines a.history a.place (keeper_view c.in-Some.k a.buf.now)) c.drop_lines-kept.result c.drop_lines-kept.new.buf c.drop_lines-kept.ensures n (sym m ∙ e) in
    omega arith

pub returns : goal.returns
returns c =
    let a = c.args in
    let up = taken_up a.used a.buf.now c.in-Some.k c.resume.result c.resume.ensures c.in-Some.is in
    let m = used_mapped _ c.drop_lines-kept.result c.map.result c.map.ensures.cases (λ x n h. search rules) in
    replies_does a.used a.buf.now c.in-Some.k up (drop_lines a.history a.place) c.drop_lines-kept.result c.drop_lines-kept.new.buf c.drop_lines-kept.ensures
    c.replied_number.result (c.replied_number.ensures ∙ ap replied_number m)
