-- The update is the one in place i, and its history is the one that it names: the stamp is that history's.
use Rattle.std.proofs.Common.{◌≡◌, ◌<◌, subst, sym, arith}
use Rattle.forms.specs.Decimal.{top}
use Rattle.forms.specs.declared.Rule.TheVariants.{Unk}
use Rattle.history.specs.declared.History.{History}
use Rattle.history.specs.declared.Item.{Item}
use Rattle.history.specs.Entries.{cells_of}
use Rattle.history.specs.EntryLaws.{low_at, unk_below}
use Rattle.history.specs.Words.{histories_in}
use Rattle.history.proofs.changes.stamp_at.Goals as goal

pub stamp_item-requires : goal.stamp_item-requires
stamp_item-requires c =
    let a = c.args in
    let p = c.requires in
    let x = c.item_at-x.result in
    let cells = cells_of (histories_in a.book.now) in
    let ok : (x.rule ≡ Unk → (cells x.history).version < top) × ((cells x.history).place < top) =
    subst (λ (x : Item). (x.rule ≡ Unk → (cells x.history).version < top) × ((cells x.history).place < top)) (sym c.item_at-x.ensures)
    (unk_below a.e p.0 cells p.2 a.i, let q = low_at a.e p.0 (histories_in a.book.now) p.1 a.i in omega (arith, q)) in
    subst (λ (h : History). (x.rule ≡ Unk → h.version.0 < top) × (h.place.0 < top)) (sym c.history_at.ensures) ok
