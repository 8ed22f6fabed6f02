-- While restoring, the table loses its waiting lines and the order stays as it is; the reply has their ids.
use Rattle.std.specs.Prelude.{◌+◌, refl}
use Rattle.std.proofs.Common.{arith}
use Rattle.forms.specs.declared.Refusal.TheVariants.{OutOfTurn}
use Rattle.table.specs.declared.Table.{Table}
use Rattle.table.specs.Tables.{queue_rows}
use Rattle.site.specs.Model.{lent, represented}
use Rattle.site.specs.ModelLaws.{refuses, does}
use Rattle.site.specs.ReplyLaws.{means_one, past_one}
use Rattle.site.specs.EndLaws.{end_refused, end_does}
use Rattle.site.specs.TableLaws.{no_rows, keeps_fewer}
use Rattle.std.proofs.lemmas.Bool.{not-true, not-false}
use Rattle.site.proofs.Site.end.Goals as goal

pub returns-then-not-self : goal.returns-then-not-self
returns-then-not-self c =
    let a = c.args in
    let m = lent a.log.now a.rows.now a.order.now a.book.now a.lists.now in
    refuses a.self m _ OutOfTurn _ (end_refused (represented a.self m) a.log.now (not-true _ c.if-not-self.true)) (c.refuse.ensures m)

pub returns : goal.returns
returns c =
    let a = c.args in
    let m = lent a.log.now a.rows.now a.order.now a.book.now a.lists.now in
    let left : Table = record { finished = a.self.table.finished; queue = 0 } in
    let named = c.ids-named in
    let list = named.new.lists in
    does a.self m _ _ (lent m.log m.rows m.order m.book list)
    (end_does (represented a.self m) a.log.now c.requires.sound (not-false _ c.if-not-self.false)
    (queue_rows left m.order m.rows) (no_rows m.order m.rows left.finished (left.finished + 0) (omega arith)) _ _ (means_one named.ensures))
    (keeps_fewer a.self.table left m.order m.rows c.requires.owns (omega arith)) refl (past_one named.ensures)
