-- Something is taken away by `and` exactly if a full copy is at a site not sent to.
use Rattle.std.proofs.Common.{sym, rules, ◌<◌}
use Rattle.rule_laws.specs.RecordMasks.{mask_outside}
use Rattle.records.proofs.masks.is_outside.Goals as goal

pub returns : goal.returns
returns c =
    let small : c.args.full < 256 = search rules in
    sym (mask_outside c.args.sent c.args.full small)
