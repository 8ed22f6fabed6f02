-- What the checks saw is so in the site's state, so their verdict is the specification's; an operation that passes gets the first free entry,
-- its updates count, and it is tried with the others.
use Rattle.std.specs.Prelude.{◌≡◌, ℕ, ◌+◌, ◌<◌, ◌≤◌, false, List, [], ◌∷◌, ◌++◌, length, get_or}
use Rattle.std.proofs.Common.{arith, sym, ap, ◌∙◌}
use Rattle.std.proofs.Math.Path.{refl}
use Rattle.std.proofs.Math.Option.{none}
use Rattle.forms.specs.Decimal.{top}
use Rattle.forms.specs.Forms.{Update}
use Rattle.rules.specs.Calls.{Call, add_refusal, add_refusal_when, made_ready}
use Rattle.rules.specs.Within.{uses_all}
use Rattle.rule_laws.specs.WithinLaws.{within_plain}
use Rattle.history.specs.declared.Entry.{Entry}
use Rattle.history.specs.declared.History.{History}
use Rattle.history.specs.Asking.{Enters}
use Rattle.history.specs.Entries.{cells_of}
use Rattle.history.specs.Words.{busy_in}
use Rattle.history.specs.BusyLaws.{all_in_first}
use Rattle.table.specs.Tries.{try_all_in, operations_of}
use Rattle.table.specs.declared.Table.{Table}
use Rattle.table.specs.NotedLaws.{marks_pushed}
use Rattle.table.specs.Rows.{PutRow}
use Rattle.table.specs.Tables.{live_count, marks_in, queue_rows, Becomes}
use Rattle.table.specs.TableLaws.{pushed}
use Rattle.site.specs.declared.Site.{Site}
use Rattle.site.specs.Model.{Lent, lent, received, represented, view, Valid}
use Rattle.site.specs.ModelLaws.{refuses, does, accepts_as, accepts_book, accepts-rows, means_is}
use Rattle.site.specs.ReplyLaws.{means_one, past_one}
use Rattle.site.specs.ShowLaws.{count_most}
use Rattle.site.specs.Trim.{updates_held}
use Rattle.site.specs.TrimLaws.{updates_writable}
use Rattle.site.specs.TableLaws.{live-length, becomes_as, keeps_tried}
use Rattle.site.specs.CheckInputs.{added_operation}
use Rattle.site.specs.AddLaws.{add_refused_lem, add_does, free_own, room_left, passed_first, passed-counts}
use Rattle.site.proofs.Site.add.Goals as goal

-- An operation passed the checks, and this entry is its own: an entry of the table is free, and the checks of a site alone passed.
module _ (s : Site) (m : Lent) (v : Valid s m) (i : ℕ) (us : List Update)
    (free : add_refusal_when (uses_all (length m.order) (view s m)) i us (view s m) ≡ none) where
  own : uses_all (length m.order) (view s m) ≡ false
  own = (free_own (uses_all (length m.order) (view s m)) i us (view s m) free).0

  passed : add_refusal i us (view s m) ≡ none
  passed = (free_own (uses_all (length m.order) (view s m)) i us (view s m) free).1

  room : live_count s.table < length m.order
  room = omega (arith, room_left (represented s m) m.log v.sound (length m.order) own, live-length s.table m.order m.rows v.owns)

  -- the table with it
  pushing : (e : Entry) → Enters (added_operation i us) e → (t : Table) (rows : List ℕ) →
      t ≡ record { finished = s.table.finished; queue = s.table.queue + 1 } →
      PutRow (get_or m.order (live_count s.table) 0) e m.rows rows →
      Becomes m.order m.rows t m.order rows (represented s m).finished ((represented s m).queue ++ (e ∷ []))
  pushing e x t rows is put = becomes_as is (pushed _ _ _ v.owns e _ x.usable room put)

pub admit-requires : goal.admit-requires
admit-requires c = rw c.inputs-seen.ensures.count (count_most _ _ c.requires.sound)

pub push-table-requires : goal.push-table-requires
push-table-requires c =
    let m = received c.args.log.now c.args.rows.now c.args.order.now c.args.book.now in
    let z = c.in-Ok.ensures _ _ (c.inputs-seen.ensures.seen c.args.log.now c.args.book.now c.requires) in
    let r = room c.args.self m c.requires c.args.id (updates_held c.args.asked) z.0 in
    (r, c.requires.owns.within _ r)

pub raise-requires : goal.raise-requires
raise-requires c =
    let m = received c.args.log.now c.args.rows.now c.args.order.now c.args.book.now in
    let z = c.in-Ok.ensures _ _ (c.inputs-seen.ensures.seen c.args.log.now c.args.book.now c.requires) in (
      z.1.usable,
      passed-counts (represented c.args.self m) c.args.log.now c.requires.sound c.args.id _
          (passed c.args.self m c.requires c.args.id (updates_held c.args.asked) z.0) _ z.1,
    )

pub try_all-ready-requires : goal.try_all-ready-requires
try_all-ready-requires c =
    let m = received c.args.log.now c.args.rows.now c.args.order.now c.args.book.now in
    let z = c.in-Ok.ensures _ _ (c.inputs-seen.ensures.seen c.args.log.now c.args.book.now c.requires) in
    let b = pushing c.args.self m c.requires c.args.id (updates_held c.args.asked) z.0 _ z.1 _ _ c.push-table.ensures.0 c.push-table.ensures.1 in
    (b.owns, omega (arith, b.owns.usable.few, b.owns.usable.long))

pub returns-in-Err : goal.returns-in-Err
returns-in-Err c =
    let a = c.args in
    let m = lent a.log.now a.rows.now a.order.now a.book.now a.lists.now in
    let le : a.id ≤ top = omega (arith, c.ranges.id) in
    refuses a.self m _ _ _
    (add_refused_lem (length a.order.now) a.id _ (view a.self m) le (updates_writable _ c.bound_asked.ensures) _
    (c.in-Err.ensures _ _ (c.inputs-seen.ensures.seen a.log.now a.book.now c.requires))) (c.refuse.ensures m)

pub returns-in-Ok : goal.returns-in-Ok
returns-in-Ok c =
    let a = c.args in
    let m = lent a.log.now a.rows.now a.order.now a.book.now a.lists.now in
    let n = length a.order.now in
    let us = updates_held a.asked in
    let w = represented a.self m in
    let le : a.id ≤ top = omega (arith, c.ranges.id) in
    let z = c.in-Ok.ensures _ _ (c.inputs-seen.ensures.seen a.log.now a.book.now c.requires) in
    let f = passed a.self m c.requires a.id us z.0 in
    let push = c.push-table in
    let b = pushing a.self m c.requires a.id us z.0 _ z.1 _ _ push.ensures.0 push.ensures.1 in
    let counts = c.raise.ensures in
    let book = c.raise.new.book in
    let try = c.try_all-ready in
    let rows = try.new.rows in
    let q = queue_rows push.result m.order push.new.rows in
    let new = lent m.log rows m.order book try.new.lists in
    does a.self m _ _ new
    (accepts_as (sym (within_plain n (Call.Add a.id us) (view a.self m) (own a.self m c.requires a.id us z.0)))
    (accepts_book m.log _ _ _ m.log counts.histories (counts.others 3 (omega arith) (λ (k : 3 ≡ 5). omega (arith, k)))
    (counts.others 4 (omega arith) (λ (k : 4 ≡ 5). omega (arith, k))) refl
    (accepts-rows m.log _ _ _ m.log (try.ensures.finished ∙ b.finished_is)
    (try.ensures.noted
    ∙ (ap (λ (z : Table). marks_in z m.order push.new.rows) push.ensures.0
    ∙ marks_pushed a.self.table m.order m.rows c.requires.owns _ _ (a.self.table.queue + 1) push.ensures.1)) refl
    (add_does w m.log c.requires.sound a.id _ le (updates_writable _ c.bound_asked.ensures) f _ z.1
    q b.queue_is (queue_rows push.result m.order rows)
    (try.ensures.queue ∙ ap (λ (hs : List History). try_all_in (cells_of hs) (operations_of q)) counts.histories) _
    (means_is (means_one try.ensures.ready)
    (ap (λ (hs : List History). made_ready (operations_of q) (try_all_in (cells_of hs) (operations_of q))) counts.histories))
    (busy_in book) counts.numbers _))))
    (keeps_tried b try.ensures.owns try.ensures.frame)
    (counts.past a.self.count (all_in_first a.self.count c.in-Ok.entry (passed_first w m.log c.requires.sound a.id _ f _ z.1)))
    (past_one try.ensures.ready)
