-- How many bytes of a slot's log are in use.
use Rattle.std.specs.Prelude.{ℕ, ◌≤◌, ◌<◌, ◌≡◌, refl, true, false}
use Rattle.std.proofs.Math.Path.{sym, ap}
use Rattle.std.proofs.Common.{◌∙◌}
use mathlib.Core.List.{List}
use Rattle.compact.specs.Module.{slot_at}
use Rattle.site.specs.Model.{Lent}
use Rattle.module.specs.declared.Slot.{Slot}
use Rattle.module.specs.declared.Module.{Module}
use Rattle.module.specs.Model.{slot_in, lent_at, Memory, around}
use Rattle.module.specs.CallLaws.{site-some, site_none, past_last}
use Rattle.call_words.specs.Used.{used_by, site_used}
use Rattle.fitting_module.specs.Words.{Words, module_at}
use Rattle.fitting_module.specs.Model.{state_at, ValidWords}

-- The bytes of slot i's log, whatever logs and words the other slots have with which the state is valid.
abbrev pub UsedIn : Words → ℕ → Lent → ℕ → Type 0
UsedIn ws i m n =
    (logs books : ℕ → List ℕ) → ValidWords ws (around i m logs books) → n ≡ used_by (slot_at i (state_at ws (around i m logs books))).site

module _ (ws : Words) (i : ℕ) (m : Lent) (c : Module) (is : c ≡ module_at ws) where
  pub used_opened : i < 4 → (slot_in c.slots i).opened ≡ true → UsedIn ws i m (slot_in c.slots i).site.used
  unfolding used_by
  used_opened lt on logs books v =
      ap (λ (z : Module). (slot_in z.slots i).site.used) is
      ∙ site_used (slot_in l i).site (lent_at l b i) (v.valid.each i lt here)
      ∙ sym (ap used_by (site-some l b v.valid i here))
    where
      l : List Slot
      l = (module_at ws).slots

      b : Memory
      b = around i m logs books

      here : (slot_in l i).opened ≡ true
      here = sym (ap (λ (z : Module). (slot_in z.slots i).opened) is) ∙ on

  pub used_not : (slot_in c.slots i).opened ≡ false → UsedIn ws i m 0
  unfolding used_by
  used_not off logs books v =
      sym (ap used_by (site_none (module_at ws).slots (around i m logs books) v.valid i
      (sym (ap (λ (z : Module). (slot_in z.slots i).opened) is) ∙ off)))

  pub used_past : 4 ≤ i → UsedIn ws i m 0
  used_past more logs books v =
      used_not (ap (λ (z : Module). (slot_in z.slots i).opened) is ∙ sym (past_last (module_at ws).slots i refl more)) logs books v
