-- Each call of `feed` uses at least one byte, since a reply has room in an empty `out`.
use Rattle.std.proofs.Common.{arith, length, ◌≤◌, ◌≡◌}
use Rattle.forms.specs.Limits.{reply_limit}
use Rattle.site.specs.Model.{lent}
use Rattle.stream.specs.ChunkLaws.{moves_on}
use Rattle.ledger.proofs.answer.Goals as goal

pub loop-at-smaller : goal.loop-at-smaller
loop-at-smaller g c =
    let l = c.loop-at in
    let f = c.feed-f in
    let long : length l.out ≡ length c.args.out.now = l.auto.out in
    let room : reply_limit ≤ length l.out = omega (arith, long, c.requires.reply_limit_in_bounds) in
    let m = moves_on l.stream (lent l.log l.rows l.order l.book l.lists) c.args.chunk.now l.at f.result
    (lent f.new.log f.new.rows f.new.order f.new.book f.new.lists) _ _ l.invariant.1 f.ensures room c.loop-at-test.true in
    let some = m.some in
    let within = m.within in
    omega (arith, some, within)
