-- The ones of the common mask are the full copies that have reported.
use Rattle.std.proofs.Common.{ℕ, ◌<◌, leb, sym, ap, ◌∙◌, rules}
use Rattle.rules.specs.Records.{counts, full_reports}
use Rattle.rule_laws.specs.RecordMasks.{mask_reports}
use Rattle.records.specs.Model.{record_of}
use Rattle.records.proofs.is_persistent.Goals as goal

pub returns : goal.returns
unfolding counts full_reports record_of
returns c =
    let r = c.args.r in
    let small : r.full < 256 = search rules in
    ap (λ (n : ℕ). leb r.threshold n) (c.ones.ensures ∙ sym (mask_reports r.full r.reported small))
