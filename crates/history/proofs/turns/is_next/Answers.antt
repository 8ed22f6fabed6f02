-- The place is the history's next, and then the rule decides.
use Rattle.std.proofs.Common.{◌≡◌, ◌≢◌, ◌+◌, arith, ap, ◌∙◌, eq-eqb, ne_eqb}
use Rattle.std.proofs.lemmas.Bool.Decides.{nat_tests}
use Rattle.forms.specs.declared.Rule.{Rule}
use Rattle.rules.specs.Rules.{may_run}
use Rattle.rules.specs.Book.{runs_at}
use Rattle.history.proofs.turns.is_next.Goals as goal

pub returns-then-follows : goal.returns-then-follows
unfolding runs_at
returns-then-follows c =
    let a = c.args in
    let e : a.x.place.0 ≡ a.h.place.0 + 1 = grind (arith, nat_tests) in
    rw (eq-eqb a.x.place.0 (a.h.place.0 + 1) e)
    (c.may_run.ensures ∙ ap (λ (r : Rule). may_run r a.h.version.0 a.x.version.0) c.logged_as.ensures)

pub returns-else-follows : goal.returns-else-follows
unfolding runs_at
returns-else-follows c =
    let a = c.args in
    let ne : a.x.place.0 ≢ a.h.place.0 + 1 = grind (arith, nat_tests) in
    c.if-follows.false ∙ rw (ne_eqb a.x.place.0 (a.h.place.0 + 1) ne)
