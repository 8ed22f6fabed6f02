-- The slot that is opened alone in a module goes on as a site alone; where none is opened, nothing is written.
use Rattle.std.proofs.Common.{ℕ, ◌*◌, ◌≡◌, List, [], length, replicate, inl, inr}
use Rattle.std.proofs.lemmas.List.{length-replicate}
use Rattle.history.specs.Words.{width}
use Rattle.table.specs.Rows.{row_width}
use Rattle.site.specs.Model.{lent}
use Rattle.c_api.specs.SlotRounds.{nothing}
use Rattle.c_api.specs.SlotRoundsLaws.{made_valid, made_state, slot_ready, slot_rounds, slot_shut}
use Rattle.c_api.proofs.slot_rounds.slot_add_and_finish.Goals as goal
use Rattle.c_api.proofs.slot_rounds.slot_add_and_finish.Goals.{else-slot-lt-SLOTS-via-then-slot-lt-SLOTS+else-m-slot, else-slot-lt-SLOTS-via-else-slot-lt-SLOTS}

-- the rows, and the words of the histories before the site is opened
abbrev rs : List ℕ
rs = replicate (128 * row_width) 0

abbrev bs : List ℕ
bs = replicate (16 * width) 0

rows_long : length rs ≡ 128 * row_width
rows_long = length-replicate {A = ℕ} (128 * row_width) 0

pub open-requires : goal.open-requires
open-requires c =
    let a = c.args in
    let w = c.new-empty in
    (rs, w.new.numbers, nothing, nothing, made_valid a.slot w.result w.new.numbers w.ensures a.log.now rs bs [] rows_long)

pub slot_serve-requires : goal.slot_serve-requires
slot_serve-requires c =
    let a = c.args in
    let w = c.new-empty in
    let o = c.open in
    slot_ready a.slot (length a.log.now) w.result (lent a.log.now rs w.new.numbers bs [])
    (made_valid a.slot w.result w.new.numbers w.ensures a.log.now rs bs [] rows_long)
    (made_state a.slot w.result w.new.numbers w.ensures a.log.now rs bs [] rows_long)
    o.result (lent o.new.log rs w.new.numbers o.new.book []) (o.ensures rs w.new.numbers []) c.if-slot-lt-SLOTS.true c.if-m-slot.true

pub returns-then-m-slot : goal.returns-then-m-slot
returns-then-m-slot c =
    let a = c.args in
    let w = c.new-empty in
    let o = c.open in
    let k = c.slot_serve in
    slot_rounds a.slot (length a.log.now) w.result (lent a.log.now rs w.new.numbers bs [])
    (made_valid a.slot w.result w.new.numbers w.ensures a.log.now rs bs [] rows_long)
    (made_state a.slot w.result w.new.numbers w.ensures a.log.now rs bs [] rows_long)
    o.result (lent o.new.log rs w.new.numbers o.new.book []) (o.ensures rs w.new.numbers []) c.if-slot-lt-SLOTS.true c.if-m-slot.true
    a.n k.result k.new.log k.ensures

pub returns : goal.returns
returns c =
    let a = c.args in
    let w = c.new-empty in
    let o = c.open in
    slot_shut a.slot (length a.log.now) w.result (lent a.log.now rs w.new.numbers bs [])
    (made_valid a.slot w.result w.new.numbers w.ensures a.log.now rs bs [] rows_long)
    (made_state a.slot w.result w.new.numbers w.ensures a.log.now rs bs [] rows_long)
    o.result (lent o.new.log rs w.new.numbers o.new.book []) (o.ensures rs w.new.numbers []) a.n
    (elim c.else-slot-lt-SLOTS.branch [
      | else-slot-lt-SLOTS-via-then-slot-lt-SLOTS+else-m-slot w ↦ inr (w.if-slot-lt-SLOTS.true, w.if-m-slot.false)
      | else-slot-lt-SLOTS-via-else-slot-lt-SLOTS w ↦ inl w.if-slot-lt-SLOTS.false
    ])
