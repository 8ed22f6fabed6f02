-- The log of a valid site is one, and the card counted afresh of it is told with its lines, or its refusal.
use Rattle.std.proofs.Common.{refl, sym, length-take-le}
use Rattle.std.specs.Prelude.{Ok, Err}
use Rattle.std.proofs.lemmas.Result.{err_from_is_err_and}
use Rattle.c_api.specs.CardCallLaws.{up_log, up_used, made_refused, made-card, card-told}
use Rattle.c_api.proofs.cards.card_afresh.Goals as goal

pub slice_bounds-afresh-end : goal.slice_bounds-afresh-end
slice_bounds-afresh-end c = sym (length-take-le _ _ (up_used c.args.site c.args.log.now c.requires.after c.requires.up))

pub afresh-requires : goal.afresh-requires
afresh-requires c =
    record { state = c.requires.after; log = up_log c.args.site c.args.log.now c.requires.after c.requires.up }

pub returns : goal.returns
returns c =
    let a = c.args in
    let r = c.afresh in
    λ st U.
    card-told a.w st c.in_ok-c.c a.counts.now r.new.counts
    (made-card a.w st a.counts.now (Ok c.in_ok-c.c) r.new.counts c.in_ok-c.c
    (c.in_ok-c.ensures st (up_log a.site a.log.now st U)) refl)

pub returns-in_err-c : goal.returns-in_err-c
returns-in_err-c c =
    let a = c.args in
    let r = c.afresh in
    let p = err_from_is_err_and c.from_residual.result c.from_residual.ensures.1 in
    rw (p.1, p.2)
    (λ st U.
    made_refused a.w st a.counts.now (Err c.in_err-c.field-0.0) r.new.counts c.in_err-c.field-0.0
    (c.in_err-c.ensures st (up_log a.site a.log.now st U)) refl st)
