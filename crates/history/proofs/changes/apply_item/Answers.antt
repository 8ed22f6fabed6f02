-- Profile and version after an update are each the rule's by the contract called; whether the version moves is the rule's strength.
use Rattle.std.proofs.Common.{◌≡◌, cond, sym}
use Rattle.rules.specs.Rules.{strong}
use Rattle.history.specs.Entries.{cell_of}
use Rattle.history.specs.CellLaws.{entered-cell}
use Rattle.history.proofs.changes.apply_item.Goals as goal
use Rattle.history.proofs.changes.apply_item.Goals.{then-is_strong, else-is_strong}

pub returns : goal.returns
returns c =
    let a = c.args in
    let version : c.if-is_strong.version.0 ≡ cond (strong a.x.rule) a.x.version.0 a.h.version.0 =
    elim c.if-is_strong.branch [
      | then-is_strong w ↦ rw (sym c.is_strong.ensures, w.if-is_strong.true, w.version-is)
      | else-is_strong w ↦ rw (sym c.is_strong.ensures, w.if-is_strong.false, w.version-is)
    ] in
    entered-cell a.x.rule a.x.version.0 a.x.operand (cell_of a.h) _ _ c.profile_after.ensures version
