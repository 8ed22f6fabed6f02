-- The card counted afresh of the earlier log is that of a state that the later one goes on from, so it may follow.
use Rattle.std.proofs.Common.{◌*◌, refl, sym, drop, length-take-le}
use Rattle.std.specs.Prelude.{Ok, Err}
use Rattle.std.proofs.lemmas.Result.{err_from_is_err_and}
use Rattle.card.specs.Model.{row_width}
use Rattle.c_api.specs.CardCallLaws.{up_log, up_used, made_refused, made-card, card-told, can_follow, followed-card}
use Rattle.c_api.proofs.cards.card_on.Goals as goal

pub slice_bounds-afresh-end : goal.slice_bounds-afresh-end
slice_bounds-afresh-end c = sym (length-take-le _ _ (up_used c.args.first c.args.log.now c.requires.before c.requires.both.begun))

pub afresh-requires : goal.afresh-requires
afresh-requires c =
    record { state = c.requires.before; log = up_log c.args.first c.args.log.now c.requires.before c.requires.both.begun }

pub slice_bounds-follow-end : goal.slice_bounds-follow-end
slice_bounds-follow-end c = sym (length-take-le _ _ (up_used c.args.site c.args.log.now c.requires.after c.requires.both.now))

pub follow-d-requires : goal.follow-d-requires
follow-d-requires c =
    let P = c.requires in
    let old = c.args.counts.now in
    let r = c.afresh in
    let k = c.in_ok-c.c in
    let K = made-card c.args.w P.before old (Ok k) r.new.counts k
    (c.in_ok-c.ensures P.before (up_log c.args.first c.args.log.now P.before P.both.begun)) refl in
    record {
      window = c.args.w;
      before = P.before;
      state = P.after;
      past = drop (row_width * P.before.histories) old;
      card = can_follow c.args.first c.args.site c.args.log.now P.before P.after P.both c.args.w old r.new.counts k K;
    }

pub returns : goal.returns
returns c =
    let a = c.args in
    let r = c.afresh in
    let k = c.in_ok-c.c in
    λ before st G.
    let K = made-card a.w before a.counts.now (Ok k) r.new.counts k (c.in_ok-c.ensures before (up_log a.first a.log.now before G.begun)) refl in
    card-told a.w st c.follow-d.result a.counts.now c.follow-d.new.counts
    (followed-card a.first a.site a.log.now before st G a.w a.counts.now r.new.counts k K c.follow-d.result c.follow-d.new.counts
    c.follow-d.ensures)

pub returns-in_err-c : goal.returns-in_err-c
returns-in_err-c c =
    let a = c.args in
    let r = c.afresh in
    let p = err_from_is_err_and c.from_residual.result c.from_residual.ensures.1 in
    rw (p.1, p.2)
    (λ before st G.
    made_refused a.w before a.counts.now (Err c.in_err-c.field-0.0) r.new.counts c.in_err-c.field-0.0
    (c.in_err-c.ensures before (up_log a.first a.log.now before G.begun)) refl st)
