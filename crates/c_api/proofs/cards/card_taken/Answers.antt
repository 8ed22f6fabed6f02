-- Both restarts give sites in the states that they say, or a refusal. Bytes that are a cut of the later log are a beginning of it.
use Rattle.std.proofs.lemmas.Result.{err_from_is_err_and}
use Rattle.rules.specs.Calls.{restart}
use Rattle.c_api.specs.CardCallLaws.{first_refused, second_refused, both_up, goes-on}
use Rattle.c_api.proofs.cards.card_taken.Goals as goal

pub returns-in_err-first : goal.returns-in_err-first
returns-in_err-first c =
    let a = c.args in
    let p = err_from_is_err_and c.from_residual.result c.from_residual.ensures.1 in
    rw (p.1, p.2)
    (first_refused a.w (restart a.log.now a.begun) (restart a.log.now a.kept) a.counts.now c.in_err-first.field-0.0 c.in_err-first.ensures)

pub returns-in_err-site : goal.returns-in_err-site
returns-in_err-site c =
    let a = c.args in
    let p = err_from_is_err_and c.from_residual-in_err-site.result c.from_residual-in_err-site.ensures.1 in
    rw (p.1, p.2)
    (second_refused a.w (restart a.log.now a.begun) (restart a.log.now a.kept) a.log.now a.counts.now c.in_ok-first.first
    c.in_err-site.field-0.0 c.in_ok-first.ensures c.in_err-site.ensures)

pub card_on-requires : goal.card_on-requires
card_on-requires c =
    let a = c.args in
    let A = c.in_ok-first.ensures in
    let B = c.in_ok-site.ensures in
    record {
      before = A.after;
      after = B.after;
      both = goes-on a.log.now a.begun a.kept c.in_ok-first.first c.in_ok-site.site A B c.if-site-begun.true c.if-begun-site.true;
    }

pub returns-then-begun-site : goal.returns-then-begun-site
returns-then-begun-site c =
    let a = c.args in
    let A = c.in_ok-first.ensures in
    let B = c.in_ok-site.ensures in
    both_up a.w (restart a.log.now a.begun) (restart a.log.now a.kept) a.log.now a.counts.now c.in_ok-first.first c.in_ok-site.site
    c.card_on.result c.card_on.new.counts A B
    (c.card_on.ensures A.after B.after
    (goes-on a.log.now a.begun a.kept c.in_ok-first.first c.in_ok-site.site A B c.if-site-begun.true c.if-begun-site.true))

pub card_afresh-requires : goal.card_afresh-requires
card_afresh-requires c = record { after = c.in_ok-site.ensures.after; up = c.in_ok-site.ensures.up }

pub returns : goal.returns
returns c =
    let a = c.args in
    let B = c.in_ok-site.ensures in
    both_up a.w (restart a.log.now a.begun) (restart a.log.now a.kept) a.log.now a.counts.now c.in_ok-first.first c.in_ok-site.site
    c.card_afresh.result c.card_afresh.new.counts c.in_ok-first.ensures B (c.card_afresh.ensures B.after B.up)
