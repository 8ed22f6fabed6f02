-- The numbers that are read are those of the history in the state, and nothing is written.
use Rattle.std.specs.Prelude.{ℕ, ◌<◌, refl}
use Rattle.std.proofs.Common.{arith, sym, subst}
use Rattle.forms.specs.declared.Refusal.TheVariants.{NoSuchHistory}
use Rattle.history.specs.WordLaws.{column_in}
use Rattle.site.specs.Model.{lent, represented, Lent, received, Valid, Steps}
use Rattle.site.specs.ModelLaws.{refuses, does}
use Rattle.site.specs.ShowLaws.{count_most, show_refused, show_does}
use Rattle.site.specs.TableLaws.{keeps_same}
use Rattle.forms.specs.declared.ReplyLine.{ReplyLine}
use Rattle.rules.specs.Calls.{Call}
use Rattle.site.specs.declared.Site.{Site}
use Rattle.site.proofs.Site.show.Goals as goal

-- a history that there is, is one of sixteen
few : (s : Site) (m : Lent) (h : ℕ) → Valid s m → h < s.count → h < 16
few s m h v lt = omega (arith, count_most (represented s m) m.log v.sound)

pub returns-then-self-h : goal.returns-then-self-h
returns-then-self-h c =
    λ ns.
    let a = c.args in
    let m = lent a.log.now a.rows.now a.order.now a.book.now ns in
    refuses a.self m _ NoSuchHistory _
    (show_refused (represented a.self m) a.log.now a.h (omega (arith, c.ranges.h)) c.if-self-h.true) (c.refuse.ensures m)

pub history_at-now-requires : goal.history_at-now-requires
history_at-now-requires c = few c.args.self (received c.args.log.now c.args.rows.now c.args.order.now c.args.book.now) c.args.h c.requires c.if-self-h.false

pub overflow_mul-i : goal.overflow_mul-i
overflow_mul-i c = omega (arith, few c.args.self (received c.args.log.now c.args.rows.now c.args.order.now c.args.book.now) c.args.h c.requires c.if-self-h.false)

pub overflow_add-i : goal.overflow_add-i
overflow_add-i c = omega (arith, few c.args.self (received c.args.log.now c.args.rows.now c.args.order.now c.args.book.now) c.args.h c.requires c.if-self-h.false)

pub offset_bounds-book-i : goal.offset_bounds-book-i
offset_bounds-book-i c = omega (arith, few c.args.self (received c.args.log.now c.args.rows.now c.args.order.now c.args.book.now) c.args.h c.requires c.if-self-h.false)

pub bounds-book-i : goal.bounds-book-i
bounds-book-i c = omega (arith, few c.args.self (received c.args.log.now c.args.rows.now c.args.order.now c.args.book.now) c.args.h c.requires c.if-self-h.false)

pub overflow_mul-i-2 : goal.overflow_mul-i-2
overflow_mul-i-2 c = omega (arith, few c.args.self (received c.args.log.now c.args.rows.now c.args.order.now c.args.book.now) c.args.h c.requires c.if-self-h.false)

pub overflow_add-i-2 : goal.overflow_add-i-2
overflow_add-i-2 c = omega (arith, few c.args.self (received c.args.log.now c.args.rows.now c.args.order.now c.args.book.now) c.args.h c.requires c.if-self-h.false)

pub offset_bounds-book-i-2 : goal.offset_bounds-book-i-2
offset_bounds-book-i-2 c = omega (arith, few c.args.self (received c.args.log.now c.args.rows.now c.args.order.now c.args.book.now) c.args.h c.requires c.if-self-h.false)

pub bounds-book-i-2 : goal.bounds-book-i-2
bounds-book-i-2 c = omega (arith, few c.args.self (received c.args.log.now c.args.rows.now c.args.order.now c.args.book.now) c.args.h c.requires c.if-self-h.false)

pub returns : goal.returns
returns c =
    λ ns.
    let a = c.args in
    let book = a.book.now in
    let m = lent a.log.now a.rows.now a.order.now book ns in
    let few-h = few c.args.self (received c.args.log.now c.args.rows.now c.args.order.now c.args.book.now) c.args.h c.requires c.if-self-h.false in
    subst (λ (r : ReplyLine). Steps a.self m (Call.Show a.h) (record { site = a.self; reply = r }) m) (sym c.bare.ensures.line)
    (does a.self m _ _ m
    (show_does (represented a.self m) a.log.now a.h c.requires.sound (omega (arith, c.ranges.h)) c.if-self-h.false
    _ c.history_at-now.ensures _ (sym (column_in 3 book a.h few-h))
    _ (sym (column_in 4 book a.h few-h)) ns ns) (keeps_same a.self.table m.order m.rows c.requires.owns) refl refl)
