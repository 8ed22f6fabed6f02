-- 2 by the count; of one update 3 and 5 are asked at once, and of more `several_refusal` has the answer, for just what is held.
use Rattle.std.proofs.Common.{ℕ, ◌<◌, List, sym, ap, subst, ◌∙◌}
use Rattle.forms.specs.Forms.{Update}
use Rattle.forms.specs.Held.{updates_of}
use Rattle.forms.specs.Limits.{update_limit}
use Rattle.rules.specs.Checks.{updates_refusal}
use Rattle.history.specs.Asking.{verdict_of}
use Rattle.history.specs.AskingLaws.{refused_none, refused_many, only_update}
use Rattle.history.proofs.checks.asked_refusal.Goals as goal
use Rattle.history.proofs.checks.asked_refusal.Goals.{then-held-eq0-via-then-held-eq0, then-held-eq0-via-else-held-eq0+then-held-gt-UPDATES}

pub returns-then-held-eq0 : goal.returns-then-held-eq0
returns-then-held-eq0 c = λ us e.
    elim c.then-held-eq0.branch [
      | then-held-eq0-via-then-held-eq0 w ↦ refused_none c.args.n us (sym e.count ∙ w.if-held-eq0.true)
      | then-held-eq0-via-else-held-eq0+then-held-gt-UPDATES w ↦ refused_many c.args.n us (subst (λ (k : ℕ). update_limit < k) e.count w.if-held-gt-UPDATES.true)
    ]

pub returns-then-held-eq1 : goal.returns-then-held-eq1
returns-then-held-eq1 c = λ us e.
    c.one_refusal.ensures
    ∙ ap (λ (l : List Update). verdict_of (updates_refusal c.args.n l))
    (only_update c.args.held us e c.requires c.if-held-eq1.true)

pub returns : goal.returns
unfolding updates_of
returns c = λ us e.
    c.several_refusal.ensures
    ∙ ap (λ (l : List Update). verdict_of (updates_refusal c.args.n l)) (e.first c.if-held-gt-UPDATES.false)
