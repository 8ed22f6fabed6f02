-- The two slices are the two lists that the reply counts: they stand one behind the other in the array. Where the test says that they do
-- not stand there, nothing is written.
use Rattle.std.proofs.Common.{sym}
use Rattle.forms.specs.Held.{numbers_of, outcome_of}
use Rattle.session.specs.Model.{lists_fit}
use Rattle.session.specs.TurnLaws.{fit-told, writes_fitting, writes_nothing}
use Rattle.session.proofs.write_turn.Goals as goal

pub returns-then-not-lists_fit : goal.returns-then-not-lists_fit
unfolding lists_fit
returns-then-not-lists_fit c =
    let a = c.args in
    writes_nothing a.r a.lists.now a.out.now a.at (sym c.if-not-lists_fit.ensures)

pub returns : goal.returns
unfolding numbers_of outcome_of lists_fit
returns c =
    let a = c.args in
    let w = c.write_reply in
    let s = c.split_at.ensures in
    writes_fitting a.r a.lists.now a.out.now a.at w.result _ (fit-told a.r a.lists.now (sym c.if-not-lists_fit.ensures))
    (record { text = rw (s.front, s.back) at w.ensures.writes; short = rw (s.front, s.back) at w.ensures.ys_len_bound })
