-- The record that is found gets the bit of the site, if it was sent there; what it then comes to is the reply. Else it is 19.
use Rattle.std.proofs.Common.{◌≡◌, sym, ◌∙◌, arith}
use Rattle.std.specs.Prelude.{Some, None}
use Rattle.std.proofs.lemmas.Result.{err_from_is_err_and}
use Rattle.forms.specs.declared.Refusal.TheVariants.{NotSent}
use Rattle.rule_laws.specs.RecordMasks.{site_low}
use Rattle.records.specs.CallLaws.{call_refused, report_gone, report_outside, reports_as, found-fits}
use Rattle.records.proofs.Records.report.Goals as goal

pub returns-in_err-i : goal.returns-in_err-i
returns-in_err-i c =
    let a = c.args in
    let gone : c.find.result ≡ None = grind arith in
    let why : c.in_err-i.field-0.0 ≡ NotSent = grind arith in
    let p = err_from_is_err_and c.from_residual.result c.from_residual.ensures.1 in
    rw (p.1, p.2, why)
    (call_refused a.self a.words.now c.requires _ NotSent
    (report_gone a.self a.words.now c.requires a.id (sym c.find.ensures ∙ gone) a.site))

pub record_at-r-requires : goal.record_at-r-requires
record_at-r-requires c =
    let a = c.args in
    let here : c.find.result ≡ Some c.in_ok-i.i = grind arith in
    found-fits a.self a.words.now c.requires a.id c.in_ok-i.i (sym c.find.ensures ∙ here)

pub returns-then-not-has_site : goal.returns-then-not-has_site
returns-then-not-has_site c =
    let a = c.args in
    let here : c.find.result ≡ Some c.in_ok-i.i = grind arith in
    call_refused a.self a.words.now c.requires _ NotSent
    (report_outside a.self a.words.now c.requires a.id c.in_ok-i.i (sym c.find.ensures ∙ here) a.site
    c.record_at-r.result c.record_at-r.ensures (sym c.has_site.ensures ∙ c.if-not-has_site.true))

pub bit-requires : goal.bit-requires
bit-requires c = site_low _ _ (sym c.has_site.ensures ∙ c.if-not-has_site.false)

pub put_record-requires : goal.put_record-requires
put_record-requires c =
    let a = c.args in
    let here : c.find.result ≡ Some c.in_ok-i.i = grind arith in
    found-fits a.self a.words.now c.requires a.id c.in_ok-i.i (sym c.find.ensures ∙ here)

pub returns : goal.returns
returns c =
    let a = c.args in
    let here : c.find.result ≡ Some c.in_ok-i.i = grind arith in
    reports_as a.self a.words.now c.requires a.id c.in_ok-i.i (sym c.find.ensures ∙ here) a.site
    c.bit.result c.record_at-r.result c.record_at-r.ensures
    (sym c.has_site.ensures ∙ c.if-not-has_site.false) c.bit.ensures
    c.answer_of.result c.answer_of.ensures c.put_record.new.words c.put_record.ensures
