-- The entry of an id. A live operation (a line that waits, an operation that is not done, or one that is done and has not left the table)
-- has one entry until it leaves; "a freed entry is used again".
use Rattle.std.specs.Prelude.{ℕ, ◌≡◌, refl, Bool, true, false, Option, Some, None}
use Rattle.std.proofs.Common.{arith, sym, ◌∙◌}
use Rattle.std.proofs.Math.Path.{ap, ap₂, subst}
use Rattle.std.proofs.Math.Bool.{◌||◌}
use mathlib.Core.List.{◌++◌, map, map-append, append-nil}
use mathlib.Core.List.{Memᴰ as Mem}
use Rattle.forms.specs.Lists.{any}
use Rattle.forms.specs.ListLaws.{Nodup}
use Rattle.rules.specs.State.{State}
use Rattle.rules.specs.Calls.{id_pending, id_done}
use Rattle.rule_laws.specs.Good.{did_ids, operation_ids}
use Rattle.history.specs.Entries.{did_of_entry}
use Rattle.table.specs.declared.EntryNumber.{EntryNumber}
use Rattle.table.specs.Rows.{row_at}
use Rattle.table.specs.Tables.{rows_of, live_numbers, has_id, id_of, entry_of}
use Rattle.table.specs.FindLaws.{ids-lines, ids_operations}
use Rattle.table.specs.LookupLaws.{lookup_found, lookup_is, live-rows, not_live_lem, no_entry}
use Rattle.site.specs.declared.Site.{Site}
use Rattle.site.specs.Representation.{Representation, pending_in, waiting_in, Sound}
use Rattle.site.specs.Model.{Lent, represented, view, Valid}
use Rattle.site.specs.SeenLaws.{id_pending_lem, id_done_lem}

-- Is the id that of a live operation?
unfoldable pub is_live : ℕ → State → Bool
is_live i st = id_done i st || id_pending i st

-- What is found of an id is its one entry among the live ones, and nothing exactly if it is not live.
pub record EntryIs (s : Site) (m : Lent) (id : ℕ) (r : Option EntryNumber) : Type 0 where
  pub stands : (e : ℕ) → r ≡ Some (record { 0 = e }) → Mem e (live_numbers s.table m.order) × ((row_at m.rows e).id ≡ id)
  pub only : (e : ℕ) → Mem e (live_numbers s.table m.order) → (row_at m.rows e).id ≡ id → r ≡ Some (record { 0 = e })
  pub none : r ≡ None → is_live id (view s m) ≡ false
  pub not_live : is_live id (view s m) ≡ false → r ≡ None

module _ (s : Site) (m : Lent) (v : Valid s m) where
  abbrev w : Representation
  w = represented s m

  -- the ids of the rows are those of the live operations, and so they are distinct
  queue-ids : (b : Bool) → map id_of w.queue ≡ did_ids (waiting_in b w) ++ operation_ids (pending_in b w)
  queue-ids true = ids-lines w.queue ∙ sym (append-nil (did_ids (map did_of_entry w.queue)))
  queue-ids false = ids_operations w.queue

  distinct : Nodup (map id_of (rows_of m.rows (live_numbers s.table m.order)))
  unfolding Sound
  distinct =
      subst Nodup
      (sym (ap (map id_of) (live-rows s.table m.order m.rows)
      ∙ map-append id_of w.finished w.queue
      ∙ ap₂ ◌++◌ (ids-lines w.finished ∙ ap did_ids v.sound.carries.finished) (queue-ids s.restoring)))
      v.sound.good.ids

  -- `Site::entry_of` of a valid site
  pub entry_is : (id : ℕ) → EntryIs s m id (entry_of m.rows id (live_numbers s.table m.order))
  unfolding Sound is_live
  entry_is id =
      record {
        stands = λ e q. lookup_found m.rows id (live_numbers s.table m.order) e q;
        only = λ e l q. lookup_is m.rows id (live_numbers s.table m.order) e distinct l q;
        none = λ q. let z = not_live_lem s.table m.order m.rows id q in ap₂ ◌||◌ (sym done ∙ z.0) (sym pending ∙ z.1);
        not_live = λ q.
            let z = both (id_done id (view s m)) (id_pending id (view s m)) q in
            no_entry s.table m.order m.rows id (done ∙ z.0) (pending ∙ z.1);
      }
    where
      done : any (has_id id) w.finished ≡ id_done id (view s m)
      done = id_done_lem w m.log (view s m) v.sound.carries id

      pending : any (has_id id) w.queue ≡ id_pending id (view s m)
      pending = id_pending_lem w m.log id

      both : (a b : Bool) → (a || b) ≡ false → (a ≡ false) × (b ≡ false)
      both true b q = absurd (let z : ◌≡◌ {A = ℕ} 0 1 = cc in omega arith)
      both false b q = (refl, q)
