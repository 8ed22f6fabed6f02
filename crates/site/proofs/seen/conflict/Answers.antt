-- The tests are asked in the order of the definition: at each return those before it did not hold.
use Rattle.std.specs.Prelude.{refl}
use Rattle.rules.specs.Checks.{check}
use Rattle.history.specs.Asking.{verdict_of}
use Rattle.site.specs.CheckInputs.{conflict_refusal}
use Rattle.site.proofs.seen.conflict.Goals as goal

pub returns-then-pending : goal.returns-then-pending
unfolding conflict_refusal check verdict_of
returns-then-pending c = rw c.if-pending.true refl

pub returns-then-done : goal.returns-then-done
unfolding conflict_refusal check verdict_of
returns-then-done c = rw (c.if-pending.false, c.if-done.true) refl

pub returns-then-overtaken : goal.returns-then-overtaken
unfolding conflict_refusal check verdict_of
returns-then-overtaken c = rw (c.if-pending.false, c.if-done.false, c.if-overtaken.true) refl

pub returns-then-highest : goal.returns-then-highest
unfolding conflict_refusal check verdict_of
returns-then-highest c = rw (c.if-pending.false, c.if-done.false, c.if-overtaken.false, c.if-highest.true) refl

pub returns-then-full : goal.returns-then-full
unfolding conflict_refusal check verdict_of
returns-then-full c = rw (c.if-pending.false, c.if-done.false, c.if-overtaken.false, c.if-highest.false, c.if-full.true) refl

pub returns-then-short : goal.returns-then-short
unfolding conflict_refusal check verdict_of
returns-then-short c =
    rw (c.if-pending.false, c.if-done.false, c.if-overtaken.false, c.if-highest.false, c.if-full.false, c.if-short.true) refl

pub returns : goal.returns
unfolding conflict_refusal check verdict_of
returns c = rw (c.if-pending.false, c.if-done.false, c.if-overtaken.false, c.if-highest.false, c.if-full.false, c.if-short.false) refl
