-- `session::call` meets its contract: each form asks for the call that the arm makes, and that call keeps its own contract. Assumes nothing.
use Rattle.site.specs.Model.{lent}
use Rattle.session.specs.Model.{site_reply}
use Rattle.site.specs.ModelLaws.{steps_alone}
use Rattle.session.specs.TurnLaws.{formed, redo-alone}
use borrow.Author.Rules.{rules}
use Rattle.session.proofs.call.Goals as goal

pub returns-in-SiteOf : goal.returns-in-SiteOf
unfolding site_reply
returns-in-SiteOf c =
    formed c.args.site (lent c.args.log.now c.args.rows.now c.args.order.now c.args.book.now c.args.lists.now) c.args.form _ _ _ c.in-SiteOf.is
    (c.refused.ensures (lent c.args.log.now c.args.rows.now c.args.order.now c.args.book.now c.args.lists.now))

pub returns-in-Add : goal.returns-in-Add
unfolding site_reply
returns-in-Add c =
    formed c.args.site (lent c.args.log.now c.args.rows.now c.args.order.now c.args.book.now c.args.lists.now) c.args.form _ _ _ c.in-Add.is
    (steps_alone c.args.site (lent c.args.log.now c.args.rows.now c.args.order.now c.args.book.now c.args.lists.now) _ _ _ (search rules)
    c.add.ensures)

pub returns-in-Finish : goal.returns-in-Finish
unfolding site_reply
returns-in-Finish c =
    formed c.args.site (lent c.args.log.now c.args.rows.now c.args.order.now c.args.book.now c.args.lists.now) c.args.form _ _ _ c.in-Finish.is
    c.finish.ensures

pub returns-in-Withdraw : goal.returns-in-Withdraw
unfolding site_reply
returns-in-Withdraw c =
    formed c.args.site (lent c.args.log.now c.args.rows.now c.args.order.now c.args.book.now c.args.lists.now) c.args.form _ _ _ c.in-Withdraw.is
    c.withdraw.ensures

pub returns-in-Persistent : goal.returns-in-Persistent
unfolding site_reply
returns-in-Persistent c =
    formed c.args.site (lent c.args.log.now c.args.rows.now c.args.order.now c.args.book.now c.args.lists.now) c.args.form _ _ _ c.in-Persistent.is
    c.persistent.ensures

pub returns-in-Stable : goal.returns-in-Stable
unfolding site_reply
returns-in-Stable c =
    formed c.args.site (lent c.args.log.now c.args.rows.now c.args.order.now c.args.book.now c.args.lists.now) c.args.form _ _ _ c.in-Stable.is
    c.stable.ensures

pub returns-in-Show : goal.returns-in-Show
unfolding site_reply
returns-in-Show c =
    formed c.args.site (lent c.args.log.now c.args.rows.now c.args.order.now c.args.book.now c.args.lists.now) c.args.form _ _ _ c.in-Show.is
    (c.show.ensures c.args.lists.now)

pub returns-in-Cut : goal.returns-in-Cut
unfolding site_reply
returns-in-Cut c =
    formed c.args.site (lent c.args.log.now c.args.rows.now c.args.order.now c.args.book.now c.args.lists.now) c.args.form _ _ _ c.in-Cut.is
    (steps_alone c.args.site (lent c.args.log.now c.args.rows.now c.args.order.now c.args.book.now c.args.lists.now) _ _ _ (search rules)
    (c.cut.ensures c.args.lists.now))

pub returns-in-Redo : goal.returns-in-Redo
unfolding site_reply
returns-in-Redo c =
    formed c.args.site (lent c.args.log.now c.args.rows.now c.args.order.now c.args.book.now c.args.lists.now) c.args.form _ _ _ c.in-Redo.is
    (redo-alone c.args.site (lent c.args.log.now c.args.rows.now c.args.order.now c.args.book.now c.args.lists.now) _ _ _ (search rules)
    (c.redo_did.ensures c.args.lists.now))

pub returns-in-End : goal.returns-in-End
unfolding site_reply
returns-in-End c =
    formed c.args.site (lent c.args.log.now c.args.rows.now c.args.order.now c.args.book.now c.args.lists.now) c.args.form _ _ _ c.in-End.is
    c.end.ensures
