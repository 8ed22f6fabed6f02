-- The operation is looked for among those not done; its updates are no longer counted, and its number goes behind the live ones.
use Rattle.std.specs.Prelude.{ℕ, ◌+◌, ◌-◌, ◌<◌, ◌≡◌, refl, false, List, [], ◌∷◌, get_or, Some}
use Rattle.std.proofs.Common.{arith, sym, ap, ◌∙◌}
use Rattle.forms.specs.Lists.{sum}
use Rattle.forms.specs.declared.Refusal.TheVariants.{WrongState, OutOfTurn}
use Rattle.history.specs.Words.{entry_in}
use Rattle.history.specs.BusyLaws.{all_in_first}
use Rattle.table.specs.Lists.{first_at}
use Rattle.table.specs.declared.Table.{Table}
use Rattle.table.specs.NotedLaws.{marks_removed}
use Rattle.table.specs.Tables.{is_entry, marks_in, queue_rows}
use Rattle.table.specs.TableLaws.{queue-length, removed}
use Rattle.site.specs.Model.{Lent, lent, represented, Valid}
use Rattle.site.specs.ModelLaws.{refuses, does, accepts_book, accepts-rows}
use Rattle.site.specs.ReplyLaws.{means_one, past_one}
use Rattle.site.specs.MarkLaws.{marks_ordered}
use Rattle.site.specs.TableLaws.{queue_placed, queue_read, queue_fine, becomes_as, keeps_of}
use Rattle.site.specs.WithdrawLaws.{withdraw_refused_turn, withdraw_refused_state, found_below, withdraw-first, withdraw-counts, withdraw_does}
use Rattle.site.specs.declared.Site.{Site}
use Rattle.site.proofs.Site.withdraw.Goals as goal

-- The operation at this place is a future one.
module _ (s : Site) (m : Lent) (v : Valid s m) (i at : ℕ)
    (found : first_at (is_entry i false) (represented s m).queue ≡ Some at) where
  below : at < s.table.queue
  below = omega (arith, found_below (represented s m).queue i false at found, queue-length s.table m.order m.rows v.owns)

pub returns-then-self : goal.returns-then-self
returns-then-self c =
    let a = c.args in
    let m = lent a.log.now a.rows.now a.order.now a.book.now a.lists.now in
    refuses a.self m _ OutOfTurn _
    (withdraw_refused_turn (represented a.self m) a.log.now a.id (omega (arith, c.ranges.id)) c.if-self.true) (c.refuse.ensures m)

pub returns-in_default : goal.returns-in_default
returns-in_default c =
    let a = c.args in
    let m = lent a.log.now a.rows.now a.order.now a.book.now a.lists.now in
    refuses a.self m _ WrongState _
    (withdraw_refused_state (represented a.self m) a.log.now a.id (omega (arith, c.ranges.id)) c.if-self.false (sym c.in_default.ensures))
    (c.refuse-in_default.ensures m)

pub queued_at-requires : goal.queued_at-requires
queued_at-requires c =
    let a = c.args in
    let m = lent a.log.now a.rows.now a.order.now a.book.now a.lists.now in
    let few = queue_placed a.self.table m.order m.rows c.requires.owns _ (below a.self m c.requires a.id _ (sym c.in-Some.ensures)) in
    (few, c.requires.owns.within _ few)

pub lower-requires : goal.lower-requires
lower-requires c =
    let a = c.args in
    let m = lent a.log.now a.rows.now a.order.now a.book.now a.lists.now in
    let found = sym c.in-Some.ensures in
    let fine = queue_fine a.self.table m.order m.rows c.requires.owns _ (below a.self m c.requires a.id _ found) _ c.queued_at.ensures in (
      fine,
      withdraw-counts (represented a.self m) a.log.now a.id _ c.requires.sound c.if-self.false found _
          (queue_read a.self.table m.order m.rows c.requires.owns _ (below a.self m c.requires a.id _ found) _ c.queued_at.ensures) fine,
    )

pub name_histories-dry-requires : goal.name_histories-dry-requires
name_histories-dry-requires c = ((marks_ordered _ _ c.requires.sound).few, omega arith)

pub remove-table-requires : goal.remove-table-requires
remove-table-requires c =
    let a = c.args in (
      below a.self (lent a.log.now a.rows.now a.order.now a.book.now a.lists.now) c.requires a.id _ (sym c.in-Some.ensures),
      omega (arith, c.requires.owns.usable.few, c.requires.owns.usable.long),
    )

pub returns : goal.returns
returns c =
    let a = c.args in
    let m = lent a.log.now a.rows.now a.order.now a.book.now a.lists.now in
    let v = c.requires.sound in
    let w = represented a.self m in
    let found = sym c.in-Some.ensures in
    let lt = below a.self m c.requires a.id _ found in
    let row = queue_read a.self.table m.order m.rows c.requires.owns _ (below a.self m c.requires a.id _ found) _ c.queued_at.ensures in
    let fine = queue_fine a.self.table m.order m.rows c.requires.owns _ (below a.self m c.requires a.id _ found) _ c.queued_at.ensures in
    let left = c.remove-table in
    let order = left.new.order in
    let b = becomes_as left.ensures.0 (removed _ _ _ c.requires.owns _ lt _ left.ensures.1) in
    let dry = c.name_histories-dry in
    let lower = c.lower.ensures in
    let book = c.lower.new.book in
    let after = c.column_at-after in
    let turn = c.if-self.false in
    let first = withdraw-first w m.log a.id _ v turn found _ row fine in
    does a.self m _ _ (lent m.log m.rows order book dry.new.lists)
    (accepts_book m.log _ _ _ m.log (sym lower.histories) (sym (lower.others 3 (omega arith) (λ (q : 3 ≡ 5). omega (arith, q))))
    (sym (lower.others 4 (omega arith) (λ (q : 4 ≡ 5). omega (arith, q)))) (sym after.ensures)
    (accepts-rows m.log _ _ _ m.log b.finished_is
    (ap (λ (z : Table). marks_in z order m.rows) left.ensures.0
    ∙ marks_removed a.self.table m.order m.rows c.requires.owns _ lt order (a.self.table.queue - 1) left.ensures.1) refl
    (withdraw_does w m.log a.id _ v (omega (arith, c.ranges.id)) turn found _ row
    (queue_rows left.result order m.rows) _ _ _ _ b.queue_is c.column_at-before.ensures
    (λ h k. lower.numbers h k ∙ ap (λ (r : List ℕ). get_or r h 0 + sum (entry_in h) (c.queued_at.result ∷ [])) (sym after.ensures))
    (means_one dry.ensures))))
    (keeps_of b) (sym (lower.past a.self.count (all_in_first a.self.count c.queued_at.result first))) (past_one dry.ensures)
