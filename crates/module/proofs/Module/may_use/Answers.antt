-- The others' claims and the slot's own are at most the table, so the difference is a true one.
use Rattle.std.proofs.Common.{arith, ◌∙◌}
use Rattle.module.specs.HeldLaws.{others-sum, beside_few, others_least}
use Rattle.module.proofs.Module.may_use.Goals as goal

pub overflow_add-others : goal.overflow_add-others
overflow_add-others c =
    let few = beside_few c.args.self.slots c.args.slot c.requires in
    omega (arith, few 0 (omega arith) _ c.claim_beside.ensures, few 1 (omega arith) _ c.claim_beside-2.ensures)

pub overflow_add-others-2 : goal.overflow_add-others-2
overflow_add-others-2 c =
    let few = beside_few c.args.self.slots c.args.slot c.requires in
    omega (arith, few 0 (omega arith) _ c.claim_beside.ensures, few 1 (omega arith) _ c.claim_beside-2.ensures, few 2 (omega arith) _ c.claim_beside-3.ensures)

pub overflow_add-others-3 : goal.overflow_add-others-3
overflow_add-others-3 c =
    let all = others-sum c.args.self.slots c.args.slot c.requires.own _ _ _ _ c.claim_beside.ensures c.claim_beside-2.ensures
    c.claim_beside-3.ensures c.claim_beside-4.ensures in
    omega (arith, all, c.requires.fit)

pub overflow_sub-others : goal.overflow_sub-others
overflow_sub-others c =
    let all = others-sum c.args.self.slots c.args.slot c.requires.own _ _ _ _ c.claim_beside.ensures c.claim_beside-2.ensures
    c.claim_beside-3.ensures c.claim_beside-4.ensures in
    omega (arith, all, c.requires.fit)

pub returns : goal.returns
returns c =
    let all = others-sum c.args.self.slots c.args.slot c.requires.own _ _ _ _ c.claim_beside.ensures c.claim_beside-2.ensures
    c.claim_beside-3.ensures c.claim_beside-4.ensures in
    c.min.ensures ∙ others_least _ _ _ all c.requires.fit
