-- Bytes that are no keeper's and places that are not sixteen get numbers of their own; otherwise the keeper taken up is valid, and the
-- call's contract gives the reply.
use Rattle.std.proofs.Common.{ℕ, arith, subst, List}
use Rattle.keeper.specs.Model.{keeper_view, HandsOut}
use Rattle.keeper.specs.CallLaws.{handed_within}
use Rattle.c_api.specs.KeeperCallLaws.{taken_up, not_taken_up, hands_none, hands_not_sixteen, hands_over}
use Rattle.c_api.proofs.keepers.keeper_hand_out.Goals as goal

pub returns-in_default : goal.returns-in_default
returns-in_default c =
    let a = c.args in
    hands_none a.used a.buf.now a.places.now a.out.now (not_taken_up a.used a.buf.now c.resume.result c.resume.ensures c.in_default.is)

pub returns-in_default-as_array : goal.returns-in_default-as_array
returns-in_default-as_array c =
    let a = c.args in
    let up = taken_up a.used a.buf.now c.in-Some.k c.resume.result c.resume.ensures c.in-Some.is in
    hands_not_sixteen a.used a.buf.now a.places.now a.out.now up.test c.in_default-as_array.ensures.cases

pub hand_out-handed-requires : goal.hand_out-handed-requires
hand_out-handed-requires c =
    let a = c.args in
    (taken_up a.used a.buf.now c.in-Some.k c.resume.result c.resume.ensures c.in-Some.is).valid

pub replied_number-requires : goal.replied_number-requires
replied_number-requires c = λ n e.
    let w = handed_within _ _ _ c.hand_out-handed.result n c.hand_out-handed.new.out c.hand_out-handed.ensures e in
    omega arith

pub returns : goal.returns
returns c =
    let a = c.args in
    let up = taken_up a.used a.buf.now c.in-Some.k c.resume.result c.resume.ensures c.in-Some.is in
    let s = c.in-Some-as_array.ensures.cases in
    let r = c.hand_out-handed in
    hands_over a.used a.buf.now a.places.now a.out.now c.in-Some.k up s.long r.result r.new.out
    (subst (λ (x : List ℕ). HandsOut (keeper_view c.in-Some.k a.buf.now) x a.out.now r.result r.new.out) s.same r.ensures)
    c.replied_number.result c.replied_number.ensures
