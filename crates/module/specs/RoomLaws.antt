-- What the neighbours' claims leave a slot, and when its calls meet 10: the module's tests are tests of this one number.
use Prim.Native.Nat.{ℕ, ◌+◌, ◌-◌, ◌≤◌, ◌<◌, min, max}
use Rattle.std.proofs.Common.{arith, ◌∙◌, le-leb, lt-ltb, le-ltb}
use Rattle.std.specs.Prelude.{◌≡◌, Bool, not, ◌||◌, List, leb, ltb}
use Rattle.std.proofs.Math.Path.{refl, sym, ap}
use Rattle.std.proofs.Math.Bool.{true, false}
use Rattle.std.proofs.Math.Option.{none}
use Rattle.std.proofs.lemmas.Bool.{lt-leb}
use Rattle.forms.specs.Lists.{sum}
use Rattle.forms.specs.ListLaws.{true_T}
use Rattle.forms.specs.Decimal.{Step}
use Rattle.forms.specs.Decimal.Step.{got, bad}
use Rattle.forms.specs.Forms.{Update, Did}
use Rattle.forms.specs.Reading.{read_did}
use Rattle.rules.specs.State.{State, live}
use Rattle.forms.specs.declared.Refusal.TheVariants.{Unreadable}
use Rattle.rules.specs.Checks.{check}
use Rattle.rules.specs.Calls.{Add, Redo, table_full, unless, writable}
use Rattle.rules.specs.When.{step_when, perform_when, add_when, redo_when, redo_read_when}
use Rattle.compact.specs.Module.{others, slot_at, taken, uncovered, live_of}
use Rattle.compact.specs.Module as compact
use Rattle.compact.specs.Fits.{claims}
use Rattle.compact.proofs.Fits.{taken_is, not_taken_lem, uncovered_is, covered}
use Rattle.site.specs.Representation.{Sound}
use Rattle.site.specs.Model.{represented}
use Rattle.site.specs.SeenLaws.{live_is}
use Rattle.site.specs.TableLaws.{live-length}
use Rattle.module.specs.declared.Slot.{Slot}
use Rattle.module.specs.Four.{four, four-rest, four-least}
use Rattle.module.specs.Parts.{part_room, table_room}
use Rattle.module.specs.Model.{slot_in, live_in, claim_in, Memory, lent_at, state_at, site_if, view_at, view_in, ValidSlots}
use Rattle.module.specs.ViewLaws.{slot_at_lem, sum_list, sum-others}

-- what the others leave slot i of the table
abbrev pub room_in : List Slot → ℕ → ℕ
room_in l i = table_room + claim_in l i - four (claim_in l)

-- "and may use 64": "add or redo is refused 10 exactly when" so many are live
abbrev pub may_use : List Slot → ℕ → ℕ
may_use l i = min part_room (room_in l i)

module _ (l : List Slot) (b : Memory) (v : ValidSlots l b) where
  -- the live operations of the specification's slot are those that the table counts
  pub live_state : (j : ℕ) → j < 4 → (slot_in l j).opened ≡ true → live (state_at l b j) ≡ live_in l j
  unfolding Sound
  live_state j lj e =
      let w = v.each j lj e in
      sym (live_is (represented (slot_in l j).site (lent_at l b j)) (b.logs j) w.sound.carries)
      ∙ live-length (slot_in l j).site.table (lent_at l b j).order b.rows w.owns

  pub live_at : (j : ℕ) → j < 4 → live_of (view_at l b j) ≡ live_in l j
  unfolding live_of
  live_at j lj = go (slot_in l j).opened refl
    where
      go : (o : Bool) → (slot_in l j).opened ≡ o → compact.live_in (site_if (slot_in l j).opened (state_at l b j)) ≡ live_in l j
      go true e = ap (λ (o : Bool). compact.live_in (site_if o (state_at l b j))) e ∙ live_state j lj e
      go false e = ap (λ (o : Bool). compact.live_in (site_if o (state_at l b j))) e ∙ sym (v.none j lj e)

  pub claims-at : (j : ℕ) → j < 4 → claims (view_at l b j) ≡ claim_in l j
  unfolding claims
  claims-at j lj = ap (λ (n : ℕ). max n (slot_in l j).promise) (live_at j lj)

  four-claims : four (λ (j : ℕ). claims (view_at l b j)) ≡ four (claim_in l)
  unfolding four
  four-claims =
      omega (arith, claims-at 0 (omega arith), claims-at 1 (omega arith), claims-at 2 (omega arith), claims-at 3 (omega arith))

  pub claims-fit : four (claim_in l) ≤ table_room
  claims-fit = omega (arith, v.fits.enough, sum_list claims (view_at l b), four-claims)

  module _ (i : ℕ) (li : i < 4) where
    pub others_claim : sum claims (others i (view_in l b)) + claim_in l i ≡ four (claim_in l)
    others_claim = omega (arith, sum-others claims (view_at l b) i li, four-claims, claims-at i li)

    live_slot : live_of (slot_at i (view_in l b)) ≡ live_in l i
    live_slot = ap live_of (slot_at_lem (view_at l b) i li) ∙ live_at i li

    -- a slot's live operations fit what it may use
    pub live_room : live_in l i ≤ room_in l i
    live_room = omega (arith, claims-fit)

    pub live_few : live_in l i ≤ part_room
    live_few = omega (arith, v.few i li, v.shared.few i li)

    -- "An add or redo is refused 10 .. when the free entries do not exceed what the others still lack of their promise."
    pub taken_room : taken i (view_in l b) ≡ leb (room_in l i) (live_in l i)
    taken_room = go (taken i (view_in l b)) refl
      where
        go : (t : Bool) → taken i (view_in l b) ≡ t → t ≡ leb (room_in l i) (live_in l i)
        go true e =
            let q = taken_is i (view_in l b) v.fits li (true_T (taken i (view_in l b)) e) in
            sym (le-leb (room_in l i) (live_in l i) (omega (arith, q, live_slot, others_claim)))
        go false e =
            let q = not_taken_lem i (view_in l b) v.fits li e in
            sym (lt-leb (room_in l i) (live_in l i) (omega (arith, q, live_slot, others_claim, claims-fit)))

    -- "A cut or restart is refused 10 .. when the entries free once its own are given back do not cover its kept live lines .."
    pub covered_room : (kept : ℕ) → uncovered i kept (view_in l b) ≡ ltb (room_in l i) kept
    covered_room kept = go (uncovered i kept (view_in l b)) refl
      where
        go : (t : Bool) → uncovered i kept (view_in l b) ≡ t → t ≡ ltb (room_in l i) kept
        go true e =
            let q = uncovered_is i (view_in l b) v.fits li kept (true_T (uncovered i kept (view_in l b)) e) in
            sym (lt-ltb (room_in l i) kept (omega (arith, q, others_claim, claims-fit)))
        go false e =
            let q = covered i (view_in l b) v.fits li kept e in
            sym (le-ltb (room_in l i) kept (omega (arith, q, others_claim, claims-fit)))

    -- there are enough free numbers for what the slot may use
    pub enough_free : four (live_in l) + room_in l i ≤ table_room + live_in l i
    enough_free =
        omega (arith, four-rest (live_in l) (claim_in l) i li (λ j lj. omega arith), claims-fit, four-least (claim_in l) i li)

-- ### Flags of 10

module _ (a b : Bool) (st : State) (e : (a || table_full st) ≡ (b || table_full st)) where
  -- An add or redo looks at a flag beside the site's own 64.
  pub add-flag : (n : ℕ) (us : List Update) → step_when a (Add n us) st ≡ step_when b (Add n us) st
  unfolding step_when perform_when add_when
  add-flag n us = rw e refl

  pub redo-flag : (line : List ℕ) → step_when a (Redo line) st ≡ step_when b (Redo line) st
  unfolding step_when perform_when redo_when redo_read_when
  redo-flag line = ap (unless (check (not (writable (Redo line))) Unreadable none)) (go (read_did line))
    where
      go : (x : Step Did) → redo_read_when a x st ≡ redo_read_when b x st
      go bad = refl
      go (got d rest) = rw e refl
