-- `session::Session::open_site` meets its contract: a site that was opened has a history, one that was not has none. Assumes nothing.
use native.Mathlib.Omega.{arith}
use Rattle.site.specs.Model.{lent}
use Rattle.session.specs.OpenLaws.{opens_not, opens}
use Rattle.session.proofs.Session.open_site.Goals as goal

pub returns-then-c-eq0 : goal.returns-then-c-eq0
returns-then-c-eq0 c = λ ns.
    opens_not c.args.self (lent c.args.log.now c.args.rows.now c.args.order.now c.args.book.now ns) _ _ _ c.requires (c.open-c.ensures ns) c.if-c-eq0.true

pub returns-else-c-eq0 : goal.returns-else-c-eq0
returns-else-c-eq0 c = λ ns.
    opens c.args.self (lent c.args.log.now c.args.rows.now c.args.order.now c.args.book.now ns) _ _ _ _ (c.open-c.ensures ns) (omega (arith, c.if-c-eq0.false)) c.called.ensures
