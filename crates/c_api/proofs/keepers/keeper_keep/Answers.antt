-- Bytes that are no keeper's get their own number; otherwise the keeper taken up from them is valid, and the call's contract gives the
-- reply.
use Rattle.std.proofs.Common.{arith, rules, sym, ap, ◌∙◌}
use Rattle.rules.specs.Keeper.{keep_line}
use Rattle.keeper.specs.Model.{keeper_view}
use Rattle.c_api.specs.Codes.{replied_number}
use Rattle.c_api.specs.KeeperCallLaws.{taken_up, not_taken_up, replies_none, used_mapped, replies_does, does_within}
use Rattle.c_api.proofs.keepers.keeper_keep.Goals as goal

pub returns-in_default : goal.returns-in_default
returns-in_default c =
    let a = c.args in
    replies_none a.used a.buf.now _ (not_taken_up a.used a.buf.now c.resume.result c.resume.ensures c.in_default.is)

pub keep-kept-requires : goal.keep-kept-requires
keep-kept-requires c =
    let a = c.args in
    (taken_up a.used a.buf.now c.in-Some.k c.resume.result c.resume.ensures c.in-Some.is).valid

pub replied_number-requires : goal.replied_number-requires
replied_number-requires c = λ n e.
    let a = c.args in
    let up = taken_up a.used a.buf.now c.in-Some.k c.resume.result c.resume.ensures c.in-Some.is in
    let m = used_mapped _ c.keep-kept.result c.map.result c.map.ensures.cases (λ x n h. search rules) in
    let w = does_within a.used a.buf.now c.in-Some.k up (keep_line a.line.now (keeper_view c.in-Some.k a.buf.now)) c.keep-kept.result c.keep-kept.new.buf c.keep-kept.ensures n (sym m ∙ e) in
    omega arith

pub returns : goal.returns
returns c =
    let a = c.args in
    let up = taken_up a.used a.buf.now c.in-Some.k c.resume.result c.resume.ensures c.in-Some.is in
    let m = used_mapped _ c.keep-kept.result c.map.result c.map.ensures.cases (λ x n h. search rules) in
    replies_does a.used a.buf.now c.in-Some.k up (keep_line a.line.now) c.keep-kept.result c.keep-kept.new.buf c.keep-kept.ensures
    c.replied_number.result (c.replied_number.ensures ∙ ap replied_number m)
