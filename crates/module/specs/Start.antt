-- A module as it is made is valid, with any rows, logs and words, and is the specification's.
use Rattle.std.specs.Prelude.{ℕ, zero, suc, ◌*◌, ◌≤◌, ◌<◌, ◌≡◌, refl, false, List, [], ◌∷◌, length, take, drop}
use Rattle.std.proofs.Common.{arith, sym, ap, subst, ◌∙◌, take-add}
use Rattle.forms.specs.Lists.{below}
use Rattle.compact.specs.Module.{made}
use Rattle.compact.proofs.Fits.{fits-made}
use Rattle.table.specs.Order.{tally}
use Rattle.table.specs.OrderLaws.{tally-append}
use Rattle.table.specs.Rows.{row_width}
use Rattle.site.specs.declared.Site.{Site}
use Rattle.site.specs.OpenLaws.{blank_site}
use Rattle.module.specs.declared.Slot.{Slot}
use Rattle.module.specs.declared.Module.{Module}
use Rattle.module.specs.Four.{four, true_false}
use Rattle.module.specs.Parts.{table_room, part_room, part_of}
use Rattle.module.specs.Model.{slot_in, live_in, held_in, Memory, ValidModule, view_of}

abbrev slot_of : Site → ℕ → Slot
slot_of s h = record { site = s; opened = false; promise = 16; held = h }

-- slots 0 and 1 hold all numbers
abbrev pub slots_of : Site → List Slot
slots_of s = slot_of s 64 ∷ slot_of s 64 ∷ slot_of s 0 ∷ slot_of s 0 ∷ []

abbrev pub made_slots : List Slot
made_slots = slots_of blank_site

abbrev memory : List ℕ → List ℕ → (ℕ → List ℕ) → (ℕ → List ℕ) → Memory
memory rows numbers logs books = record { rows = rows; numbers = numbers; logs = logs; books = books }

pub record Starts (m : Module) (b : Memory) : Type 0 where
  pub valid : ValidModule m b
  pub state : view_of m b ≡ made

abbrev pub Made : Module → List ℕ → Type 0
Made m ns = (rows : List ℕ) (logs books : ℕ → List ℕ) → length rows ≡ table_room * row_width → Starts m (memory rows ns logs books)

pub starts : (ns : List ℕ) → length ns ≡ 256 → take 128 ns ≡ below 128 → Made (record { slots = made_slots }) ns
unfolding four tally
starts ns long e rows logs books size =
    record {
      valid =
          record {
            size = refl;
            rows = size;
            shared = record { long = long; few = few; all = refl; each = each };
            few = none_live;
            each = λ j lj on. absurd (true_false (sym on ∙ shut j lj));
            none = λ j lj off. nothing j lj;
            fits = fits-made;
          };
      state = refl;
    }
  where
    few : (j : ℕ) → j < 4 → held_in made_slots j ≤ part_room
    few zero lt = omega arith
    few (suc zero) lt = omega arith
    few (suc (suc zero)) lt = omega arith
    few (suc (suc (suc zero))) lt = omega arith
    few (suc (suc (suc (suc j)))) lt = absurd (omega (arith, lt))

    nothing : (j : ℕ) → j < 4 → live_in made_slots j ≡ 0
    nothing zero lt = refl
    nothing (suc zero) lt = refl
    nothing (suc (suc zero)) lt = refl
    nothing (suc (suc (suc zero))) lt = refl
    nothing (suc (suc (suc (suc j)))) lt = absurd (omega (arith, lt))

    none_live : (j : ℕ) → j < 4 → live_in made_slots j ≤ held_in made_slots j
    none_live j lj = omega (arith, nothing j lj)

    shut : (j : ℕ) → j < 4 → (slot_in made_slots j).opened ≡ false
    shut zero lt = refl
    shut (suc zero) lt = refl
    shut (suc (suc zero)) lt = refl
    shut (suc (suc (suc zero))) lt = refl
    shut (suc (suc (suc (suc j)))) lt = absurd (omega (arith, lt))

    each : (x : ℕ) → four (λ (j : ℕ). tally x (part_of j (held_in made_slots j) ns)) ≡ tally x (below 128)
    each x = omega (arith, ap (tally x) (take-add 64 64 ns), tally-append x (take 64 ns) (take 64 (drop 64 ns)), ap (tally x) e)

pub starts_as : (s : Site) (ns : List ℕ) → s ≡ blank_site → length ns ≡ 256 → take 128 ns ≡ below 128 → Made
    (record { slots = slots_of s }) ns
starts_as s ns e long b = subst (λ (z : Site). Made (record { slots = slots_of z }) ns) (sym e) (starts ns long b)
