-- The two tests are the two cases of `wrong_threshold`; the ones of a mask are its sites.
use Rattle.std.proofs.Common.{ℕ, ◌<◌, ltb, sym, ap, ◌∙◌, rules, eq-eqb, ne_eqb}
use Rattle.rules.specs.Records.{wrong_threshold}
use Rattle.rule_laws.specs.RecordMasks.{mask_ones}
use Rattle.records.proofs.is_wrong.Goals as goal

pub returns-then-threshold-eq0 : goal.returns-then-threshold-eq0
unfolding wrong_threshold
returns-then-threshold-eq0 c = rw (eq-eqb c.args.threshold 0 c.if-threshold-eq0.true)

pub returns-else-threshold-eq0 : goal.returns-else-threshold-eq0
unfolding wrong_threshold
returns-else-threshold-eq0 c =
    let a = c.args in
    let small : a.full < 256 = search rules in
    rw (ne_eqb a.threshold 0 c.if-threshold-eq0.false)
    (ap (λ (n : ℕ). ltb n a.threshold) (c.ones.ensures ∙ sym (mask_ones a.full small)))
