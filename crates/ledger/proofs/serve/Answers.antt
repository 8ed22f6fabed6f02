-- A stream at its start is valid for whatever it is lent.
use Rattle.std.proofs.Common.{[]}
use Rattle.site.specs.Model.{lent}
use Rattle.ledger.proofs.serve.Goals as goal

pub loop-init : goal.loop-init
loop-init g c =
    (c.start-stream.ensures (lent c.args.log.now c.args.rows.now c.args.order.now c.args.book.now [])).valid
