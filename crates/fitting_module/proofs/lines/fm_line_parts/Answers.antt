-- The module that the counters are obeys the line, and its counters are put away; there is room for its reply, since that was asked first.
use Rattle.std.proofs.Common.{arith, length, replicate, []}
use Rattle.fitting_module.specs.LineLaws.{module_valid, obeys_size, obeys_printable, answers-line, answers-short}
use Rattle.fitting_module.specs.Lines.{line_move}
use Rattle.fitting_module.specs.Words.{words}
use Rattle.site.specs.Model.{lent}
use Rattle.fitting_module.proofs.lines.fm_line_parts.Goals as goal

pub returns-then-out-lt-REPLY_BYTES : goal.returns-then-out-lt-REPLY_BYTES
returns-then-out-lt-REPLY_BYTES c = answers-short c.args.slot (words c.args.first.now c.args.second.now c.args.third.now c.args.fourth.now) (lent c.args.log.now c.args.rows.now c.args.numbers.now c.args.book.now []) c.args.line.now c.args.out.now c.if-out-lt-REPLY_BYTES.true

pub obey-r-requires : goal.obey-r-requires
obey-r-requires c = module_valid c.args.slot c.module_at-m.result (words c.args.first.now c.args.second.now c.args.third.now c.args.fourth.now) (lent c.args.log.now c.args.rows.now c.args.numbers.now c.args.book.now []) c.module_at-m.ensures c.requires

pub put_module-requires : goal.put_module-requires
put_module-requires c =
    let m = c.module_at-m in
    obeys_size c.args.slot m.result (line_move c.args.slot (length c.args.log.now) c.args.line.now) (lent c.args.log.now c.args.rows.now c.args.numbers.now c.args.book.now (replicate 68 0)) c.obey-r.result _
    (module_valid c.args.slot m.result (words c.args.first.now c.args.second.now c.args.third.now c.args.fourth.now) (lent c.args.log.now c.args.rows.now c.args.numbers.now c.args.book.now []) m.ensures c.requires) c.obey-r.ensures

pub put_reply-requires : goal.put_reply-requires
put_reply-requires c =
    let m = c.module_at-m in
    record {
      printable = obeys_printable c.args.slot m.result (line_move c.args.slot (length c.args.log.now) c.args.line.now) (lent c.args.log.now c.args.rows.now c.args.numbers.now c.args.book.now (replicate 68 0)) c.obey-r.result _
          (module_valid c.args.slot m.result (words c.args.first.now c.args.second.now c.args.third.now c.args.fourth.now) (lent c.args.log.now c.args.rows.now c.args.numbers.now c.args.book.now []) m.ensures c.requires) c.obey-r.ensures;
      reply_limit_in_bounds = omega (arith, c.if-out-lt-REPLY_BYTES.false);
    }

pub returns : goal.returns
returns c =
    let m = c.module_at-m in
    let r = c.obey-r in
    let p = c.put_module in
    let w = c.put_reply in
    answers-line c.args.slot m.result (words c.args.first.now c.args.second.now c.args.third.now c.args.fourth.now) (lent c.args.log.now c.args.rows.now c.args.numbers.now c.args.book.now (replicate 68 0)) c.args.line.now r.result _ _ c.args.out.now _ w.result
    m.ensures (omega (arith, c.if-out-lt-REPLY_BYTES.false)) r.ensures p.ensures w.ensures
