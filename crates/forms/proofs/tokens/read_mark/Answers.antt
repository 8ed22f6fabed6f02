-- The byte at the position is compared with the bracket or the space.
use Rattle.std.proofs.Common.{refl, arith}
use Rattle.forms.specs.SeenLaws.{is_at, is_none}
use Rattle.forms.specs.AtLaws.{mark-end, mark-other, mark-here}
use Rattle.forms.proofs.tokens.read_mark.Goals as goal
use Rattle.forms.proofs.tokens.read_mark.Goals.{else-at-s-via-then-at-s+else-s-at, else-at-s-via-else-at-s}

pub returns-then-s-at : goal.returns-then-s-at
returns-then-s-at c = let a = c.args in is_at (omega arith) (mark-here a.m a.s.now a.at (omega arith) c.if-s-at.true)

pub returns-else-at-s : goal.returns-else-at-s
returns-else-at-s c =
    let a = c.args in
    is_none refl
    (elim c.else-at-s.branch [
      | else-at-s-via-then-at-s+else-s-at w ↦ mark-other a.m a.s.now a.at w.if-at-s.true w.if-s-at.false
      | else-at-s-via-else-at-s w ↦ mark-end a.m a.s.now a.at (omega arith)
    ])
