-- The bytes in use of the open site are its state's log, so the card that is made of them is the state's; without a site it is 14.
use Rattle.std.proofs.Common.{ℕ, sym, ap, ◌∙◌, [], rules, length-take-le}
use Rattle.std.specs.Prelude.{Result}
use Rattle.forms.specs.declared.Refusal.{Refusal}
use Rattle.call_words.specs.Said.{said_number, said_value}
use Rattle.forms.specs.Refusals.{number_of}
use Rattle.site.specs.Model.{lent, view}
use Rattle.fitting_ledger.specs.CardLaws.{site_log, site_within, lines_mapped, cards_opened, cards_before}
use Rattle.fitting_ledger.proofs.cards.fl_card_parts.Goals as goal

pub slice_bounds-afresh-end : goal.slice_bounds-afresh-end
slice_bounds-afresh-end c =
    let a = c.args in
    sym (length-take-le _ _ (site_within c.in-Some.site (lent a.log.now a.rows.now a.order.now a.book.now [])
    (c.requires.session.site c.in-Some.site (sym c.in-Some.ensures))))

pub afresh-made-requires : goal.afresh-made-requires
afresh-made-requires c =
    let a = c.args in
    let m = lent a.log.now a.rows.now a.order.now a.book.now [] in
    record {
      state = view c.in-Some.site m;
      log = site_log c.in-Some.site m (c.requires.session.site c.in-Some.site (sym c.in-Some.ensures));
    }

pub returns : goal.returns
returns c =
    let a = c.args in
    let r = c.afresh-made in
    let m = lent a.log.now a.rows.now a.order.now a.book.now [] in
    let v = c.requires.session.site c.in-Some.site (sym c.in-Some.ensures) in
    let p = c.put_said in
    let q = lines_mapped _ r.result c.map.result c.map.ensures.cases (λ x n h. search rules) in
    cards_opened a.counters.now m a.w a.counts.now a.lines.now c.in-Some.site r.result p.result
    r.new.counts p.new.value (sym c.in-Some.ensures) (r.ensures (view c.in-Some.site m) (site_log c.in-Some.site m v))
    (p.ensures.0 ∙ ap said_number q) (p.ensures.1 ∙ ap (λ (x : Result ℕ Refusal). said_value x a.lines.now) q)

pub returns-in_default : goal.returns-in_default
unfolding number_of
returns-in_default c =
    let a = c.args in
    cards_before a.counters.now (lent a.log.now a.rows.now a.order.now a.book.now []) a.w a.counts.now a.lines.now (sym c.in_default.ensures)
