-- Each line that ends is answered, and its reply is written where its room is free; the rest of the chunk is kept.
use native.Mathlib.Omega.{arith}
use mathlib.Core.Path.{◌≡◌}
use lib.ListN.{length}
use Rattle.std.proofs.Common.{Some}
use Rattle.site.specs.Model.{lent}
use Rattle.stream.specs.FeedLaws.{along_start, along_fits, along_feeds, along_rest, line_printable, along_line}
use borrow.Author.Rules.{rules}
use Rattle.stream.proofs.Stream.feed.Goals as goal

pub loop-e-init : goal.loop-e-init
loop-e-init c =
    let a = c.args in
    let m = lent a.log.now a.rows.now a.order.now a.book.now a.lists.now in
    along_start a.self m a.chunk.now a.out.now c.requires

pub returns : goal.returns
returns c =
    let i = c.loop-e.invariant in
    let none = c.in_default.ensures in
    along_feeds _ _ _ _ _ _ _ (along_rest _ _ _ _ _ _ _ i c.with_bytes-rest.result none c.with_bytes-rest.ensures) (λ lt. absurd (omega (arith, lt)))

pub overflow_sub-out : goal.overflow_sub-out
overflow_sub-out c =
    let i = c.loop-e.invariant in
    let f = along_fits _ _ _ _ _ _ _ i in
    omega (arith, f, i.long)

pub returns-then-out-n-lt-REPLY_BYTES : goal.returns-then-out-n-lt-REPLY_BYTES
returns-then-out-n-lt-REPLY_BYTES c =
    let i = c.loop-e.invariant in
    along_feeds _ _ _ _ _ _ _ i (λ lt. let l = i.long in let f = along_fits _ _ _ _ _ _ _ i in omega (arith, l, f, c.if-out-n-lt-REPLY_BYTES.true))

pub put_reply-n-requires : goal.put_reply-n-requires
put_reply-n-requires c =
    let i = c.loop-e.invariant in
    let t = c.take_line-t in
    let new = lent t.new.log t.new.rows t.new.order t.new.book t.new.lists in
    let f = along_fits _ _ _ _ _ _ _ i in
    let room = c.if-out-n-lt-REPLY_BYTES.false in
    record { printable = line_printable _ _ _ _ _ _ _ i c.in-Some.e c.in-Some.ensures t.result new t.ensures; reply_limit_in_bounds = omega (arith, i.long, f, room) }

pub overflow_add-at : goal.overflow_add-at
overflow_add-at c =
    let b = c.in-Some.ensures.before in
    omega (arith, b)

pub loop-e-smaller : goal.loop-e-smaller
loop-e-smaller c =
    let x = c.in-Some.ensures in
    omega (arith, x.before, x.from)

pub loop-e-preserved : goal.loop-e-preserved
loop-e-preserved c =
    let l = c.loop-e in
    let t = c.take_line-t in
    let b = c.no_line in
    let p = c.put_reply-n in
    let new = lent t.new.log t.new.rows t.new.order t.new.book t.new.lists in
    let same : length t.new.log ≡ length l.log = search rules in
    let long : length p.new.out ≡ length l.out = search rules in
    along_line _ _ _ _ _ _ _ l.invariant c.in-Some.e c.in-Some.ensures t.result new t.ensures
    (Some b.result) p.result p.new.out same long b.ensures p.ensures
