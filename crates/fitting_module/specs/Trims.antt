-- A copy of a slot's log, with a base line in place of its first operations.
use Rattle.std.specs.Prelude.{ℕ, ◌≤◌, ◌≡◌, true, false, Result, List, []}
use Rattle.std.proofs.Common.{arith, sym, ap, ◌∙◌}
use Rattle.std.proofs.Math.Path.{refl, subst}
use Rattle.std.proofs.Math.Option.{Option, some}
use Rattle.forms.specs.Refusals.{number_of}
use Rattle.forms.specs.declared.Refusal.{Refusal}
use Rattle.forms.specs.declared.Refusal.TheVariants.{OutOfTurn}
use Rattle.rules.specs.State.{State}
use Rattle.rules.specs.Trim.{trim}
use Rattle.compact.specs.Module.{slot_at}
use Rattle.site.specs.Model.{Lent, lent, view, Valid, ValidLog}
use Rattle.trim.specs.Model.{CopiesLog}
use Rattle.module.specs.declared.Module.{Module}
use Rattle.module.specs.Parts.{part_of}
use Rattle.module.specs.Model.{slot_in, live_in, view_of, around, ValidModule}
use Rattle.module.specs.CallLaws.{site-some, site_none, past_last, gathers_none, li, valid_lent, view-lent}
use Rattle.call_words.specs.Said.{said_number, said_value}
use Rattle.call_words.specs.Trims.{trim_number, trim_used, trim_of, Trims, trims}
use Rattle.fitting_module.specs.Words.{Words, module_at}
use Rattle.fitting_module.specs.Model.{state_at, ValidWords, ValidState}

-- The trim of slot i's site, 14 without one, into the fresh buffer that was `old` and is `new`, whatever logs and words the other slots
-- have with which the state is valid.
abbrev pub TrimsSlot : Words → ℕ → Lent → ℕ → List ℕ → ℕ → List ℕ → ℕ → ℕ → Type 0
TrimsSlot ws i m n old r new before after =
    (logs books : ℕ → List ℕ) → ValidWords ws (around i m logs books) →
    Trims (trim_of n old (slot_at i (state_at ws (around i m logs books))).site) old r new before after

module _ (ws : Words) (i : ℕ) (m : Lent) (c : Module) (is : c ≡ module_at ws) where
  -- what the site of the slot is lent: of the numbers those of its live operations
  abbrev own : Lent
  own = lent m.log m.rows (part_of i (live_in c.slots i) m.order) m.book []

  module _ (logs books : ℕ → List ℕ) (v : ValidWords ws (around i m logs books)) (on : (slot_in c.slots i).opened ≡ true) where
    module_is : ValidModule c (around i m logs books)
    module_is = subst (λ (k : Module). ValidModule k (around i m logs books)) (sym is) v.valid

    -- An open slot's site is valid with it, and it is the site that the slot has.
    own_valid : Valid (slot_in c.slots i).site own
    own_valid =
        let w = module_is in
        valid_lent c i m logs books w on c.slots m.order (gathers_none c.slots (around i m logs books) w i)
        (live_in c.slots i) (omega arith) (w.few i (li c i m logs books w on)) []

    own-site : (slot_at i (view_of c (around i m logs books))).site ≡ some (view (slot_in c.slots i).site own)
    own-site =
        let w = module_is in
        site-some c.slots (around i m logs books) w i on
        ∙ ap some (sym (view-lent c i m logs books w on c.slots m.order
        (gathers_none c.slots (around i m logs books) w i) (live_in c.slots i) (omega arith)
        (w.few i (li c i m logs books w on)) []))

  -- The site of an open slot has a log that can be copied.
  pub log_valid : ValidState ws i m → (slot_in c.slots i).opened ≡ true → ValidLog (slot_in c.slots i).site m.log
  log_valid (logs, books, v) on = (own.rows, own.order, own.book, own_valid logs books v on)

  -- A copy of an open slot's log.
  pub trims_opened : (n : ℕ) (old : List ℕ) (k : Result ℕ Refusal) (new : List ℕ) (r before after : ℕ) → (slot_in c.slots i).opened ≡ true →
      CopiesLog (slot_in c.slots i).site m.log n old k new → r ≡ said_number k → after ≡ said_value k before →
      TrimsSlot ws i m n old r new before after
  unfolding trim_of
  trims_opened n old k new r before after on h e f logs books v =
      subst (λ (z : Module). Trims (trim_of n old (slot_at i (view_of z (around i m logs books))).site) old r new before after) is
      (subst (λ (o : Option State). Trims (trim_of n old o) old r new before after) (sym (own-site logs books v on))
      (trims (trim n old (view (slot_in c.slots i).site own)) old k new r before after
      (h own.rows own.order own.book (own_valid logs books v on)) e f))

  -- .. of one that is not open
  pub trims_not : (n : ℕ) (old : List ℕ) (before : ℕ) → (slot_in c.slots i).opened ≡ false →
      TrimsSlot ws i m n old (number_of OutOfTurn) old before before
  unfolding trim_of trim_number trim_used
  trims_not n old before off logs books v =
      subst (λ (o : Option State). Trims (trim_of n old o) old (number_of OutOfTurn) old before before)
      (sym (site_none (module_at ws).slots (around i m logs books) v.valid i
      (sym (ap (λ (z : Module). (slot_in z.slots i).opened) is) ∙ off)))
      (record { answer = refl; bytes = refl; used = refl })

  -- .. and above the last
  pub trims_past : (n : ℕ) (old : List ℕ) (before : ℕ) → 4 ≤ i → TrimsSlot ws i m n old (number_of OutOfTurn) old before before
  trims_past n old before more logs books v =
      trims_not n old before
      (ap (λ (z : Module). (slot_in z.slots i).opened) is ∙ sym (past_last (module_at ws).slots i refl more)) logs books v
