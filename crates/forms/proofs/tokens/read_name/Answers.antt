-- The run of letters ends where the word does.
use Rattle.std.proofs.Common.{◌∙◌, sym, refl, arith}
use Rattle.forms.specs.SeenLaws.{is_at, is_none}
use Rattle.forms.specs.AtLaws.{letter_past, name-whole, name_longer, name-end, name-other, name-next}
use Rattle.forms.proofs.tokens.read_name.Goals as goal
use Rattle.forms.proofs.tokens.read_name.Goals.{then-next-s-via-then-next-s, then-next-s-via-else-next-s+then-s-next}

pub returns-then-next-s : goal.returns-then-next-s
returns-then-next-s c =
    let a = c.args in
    let l = c.loop-b in
    is_none refl
    (l.invariant.rest ∙ (elim c.then-next-s.branch [
      | then-next-s-via-then-next-s w ↦ name-end a.w.now a.s.now l.b-index l.next c.loop-b-test.true (letter_past a.s.now l.next (omega arith))
      | then-next-s-via-else-next-s+then-s-next w ↦
          name-other a.w.now a.s.now l.b-index l.next c.loop-b-test.true (omega (arith, l.invariant.within, w.if-next-s.false)) w.if-s-next.true
    ]))

pub loop-b-preserved : goal.loop-b-preserved
loop-b-preserved c =
    let l = c.loop-b in
    record {
      within = omega (arith, l.invariant.within, c.if-next-s.false);
      rest =
          l.invariant.rest ∙ name-next c.args.w.now c.args.s.now l.b-index l.next c.loop-b-test.true
          (omega (arith, l.invariant.within, c.if-next-s.false)) c.requires.1 c.if-s-next.false;
    }

pub returns-then-letter_at : goal.returns-then-letter_at
returns-then-letter_at c =
    let a = c.args in
    let l = c.loop-b in
    is_none refl
    (l.invariant.rest ∙ name_longer a.w.now a.s.now l.b-index l.next (omega arith) (sym c.letter_at.ensures ∙ c.if-letter_at.true))

pub returns : goal.returns
returns c =
    let a = c.args in
    let l = c.loop-b in
    is_at l.invariant.within
    (l.invariant.rest ∙ name-whole a.w.now a.s.now l.b-index l.next (omega arith) (sym c.letter_at.ensures ∙ c.if-letter_at.false))
