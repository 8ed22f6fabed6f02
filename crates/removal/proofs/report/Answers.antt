-- Each return is one law: 13 by the length, 15 where no log was read, 16 where a number is not known, and else the answer of the exact marks.
use Rattle.std.proofs.Common.{ℕ, ap, ◌≡◌}
use Rattle.removal.specs.NameLaws.{known_yes, known_no}
use Rattle.removal.specs.ReportLaws.{report-above, report-bad, report_unknown, report-names, read_some, read_stands, read_done, read_lines_lem, read_can, named_in}
use Rattle.forms.specs.declared.Refusal.{Refusal}
use Rattle.std.specs.Prelude.{MatchResult, IsOkAnd, Result, Option, Ok, Err, Some}
use Rattle.removal.proofs.report.Goals as goal

pub returns-then-log-gt-LOG_BYTES : goal.returns-then-log-gt-LOG_BYTES
returns-then-log-gt-LOG_BYTES c =
    report-above c.args.log.now c.args.pairs.now c.args.lost.now c.args.out.now c.if-log-gt-LOG_BYTES.true

pub returns-in_default : goal.returns-in_default
returns-in_default c =
    report-bad c.args.log.now c.args.pairs.now c.args.lost.now c.args.out.now c.if-log-gt-LOG_BYTES.false _ _
    c.in_default.ensures

pub returns-then-not-all_known : goal.returns-then-not-all_known
returns-then-not-all_known c =
    let j = c.in-Some.j in
    let small = c.if-log-gt-LOG_BYTES.false in
    let S = read_some c.args.log.now c.args.pairs.now c.args.lost.now c.args.out.now small j _ _ c.in-Some.ensures in
    report_unknown c.args.log.now c.args.pairs.now c.args.lost.now c.args.out.now small j _ _ S
    (known_no _ c.all_known.result c.all_known.ensures c.if-not-all_known.true)

pub marks_of-gone-requires : goal.marks_of-gone-requires
marks_of-gone-requires c =
    let j = c.in-Some.j in
    let small = c.if-log-gt-LOG_BYTES.false in
    let S = read_some c.args.log.now c.args.pairs.now c.args.lost.now c.args.out.now small j _ _ c.in-Some.ensures in
    let both = known_yes _ c.all_known.result c.all_known.ensures c.if-not-all_known.false in
    read_lines_lem c.args.log.now j _ _ S.histories S.base_line S.lines S.reads small c.args.pairs.now c.args.lost.now both.0 both.1

pub answer-requires : goal.answer-requires
answer-requires c =
    let j = c.in-Some.j in
    let small = c.if-log-gt-LOG_BYTES.false in
    let S = read_some c.args.log.now c.args.pairs.now c.args.lost.now c.args.out.now small j _ _ c.in-Some.ensures in
    let M = c.marks_of-gone.ensures S.histories S.lines
    (read_stands c.args.log.now j _ _ S.histories S.base_line S.lines S.reads small)
    (read_done c.args.log.now j _ _ S.histories S.base_line S.lines S.reads small) in
    read_can c.args.log.now j _ _ S.histories S.base_line S.lines S.reads small c.marks_of-gone.result M.size

-- .. with the numbers that are named as they are
mapped : (r : Result ℕ Refusal) (q : Result (Option ℕ) Refusal) → MatchResult r (λ x. IsOkAnd q (λ y. y ≡ Some x)) (λ e. q ≡ Err e)
    → q ≡ named_in r
mapped (Ok k) (Ok x) h = ap Ok h
mapped (Ok k) (Err e) h = absurd h
mapped (Err e) q h = h

pub returns : goal.returns
returns c =
    let j = c.in-Some.j in
    let small = c.if-log-gt-LOG_BYTES.false in
    let S = read_some c.args.log.now c.args.pairs.now c.args.lost.now c.args.out.now small j _ _ c.in-Some.ensures in
    let both = known_yes _ c.all_known.result c.all_known.ensures c.if-not-all_known.false in
    let M = c.marks_of-gone.ensures S.histories S.lines
    (read_stands c.args.log.now j _ _ S.histories S.base_line S.lines S.reads small)
    (read_done c.args.log.now j _ _ S.histories S.base_line S.lines S.reads small) in
    rw (mapped c.answer.result c.map.result c.map.ensures.cases)
    (report-names c.args.log.now c.args.pairs.now c.args.lost.now c.args.out.now small j _ _ S both c.marks_of-gone.result M
    c.answer.result c.answer.new.out c.answer.ensures)
