-- 2,741 bytes are free and no reply is longer, so the writer never answers that there is no room.
use Rattle.std.proofs.Common.{ℕ, arith, sym, subst}
use Rattle.forms.specs.Forms.{outcome_text}
use Rattle.forms.specs.Held.{replied, outcome_of}
use Rattle.forms.specs.WriteLaws.{end_size}
use Rattle.forms.specs.Write.{Wrote, with_end}
use Rattle.rules.specs.Log.{ended}
use Rattle.session.specs.TurnLaws.{writes_printable}
use Rattle.stream.specs.RunLaws.{wrote_anyway}
use Rattle.stream.proofs.put_reply.Goals as goal

pub returns : goal.returns
unfolding ended
returns c =
    let a = c.args in
    let w = c.write_turn in
    let v = writes_printable a.r a.lists.now a.out.now a.at w.result _ c.requires.printable w.ensures in
    let text = outcome_text (outcome_of (replied a.r a.lists.now)) in
    let z = end_size text in
    let s = v.short in
    subst (λ (n : ℕ). Wrote a.out.now a.at (with_end text) n w.new.out) (sym c.unwrap_or.ensures)
    (wrote_anyway a.out.now a.at (with_end text) w.result w.new.out _ v.text (omega (arith, z, s, c.requires.reply_limit_in_bounds)))
