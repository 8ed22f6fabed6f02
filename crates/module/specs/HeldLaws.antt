-- A call with numbers that the slot holds already: its slot is written whether it is refused or not, since a refused call hands the site
-- back as it was. It is a call with a loan of nothing.
use Rattle.std.specs.Prelude.{ℕ, ◌+◌, ◌*◌, ◌-◌, ◌≤◌, ◌<◌, min, ◌≡◌, refl, Bool, true, false, cond, List, ◌++◌, eqb, length, take, drop, set}
use Rattle.std.proofs.Common.{arith, sym, ap, subst, ◌∙◌, drop-drop, eq-eqb, ne_eqb}
use Rattle.std.proofs.lemmas.List.{set-get_or}
use Rattle.forms.specs.Forms.{Update}
use Rattle.rules.specs.State.{Reply, refused, ok}
use Rattle.rules.specs.Calls.{Call, step}
use Rattle.rules.specs.Within.{step_within}
use Rattle.compact.specs.Module.{Slot as SlotState, promise_after, At}
use Rattle.site.specs.declared.CallResult.{CallResult}
use Rattle.site.specs.Model.{Lent, lent, view, Does, Steps, StepsWithin}
use Rattle.module.specs.declared.Slot.{Slot}
use Rattle.module.specs.declared.Module.{Module}
use Rattle.module.specs.declared.ModuleResult.{ModuleResult}
use Rattle.module.specs.declared.Loan.{Loan}
use Rattle.module.specs.Four.{four, four-one, four-least}
use Rattle.module.specs.Parts.{part_room, table_room, part_of}
use Rattle.module.specs.Model.{no_slot, slot_in, live_in, held_in, claim_in, Memory, ValidSlots, ValidWith, around, Moves}
use Rattle.module.specs.RoomLaws.{may_use}
use Rattle.module.specs.Calls.{Claims, slot_with, answered, ConcludesAs, Concludes, Lends, SettlesAs, Settles}
use Rattle.module.specs.CallLaws.{says_refused, says_accepted, put_same, gathers_none, is_plain, serves}
use Rattle.module.specs.EntryLaws.{serves_add}

-- ### The slot is written

answered-same : (m : Module) (i : ℕ) (r : CallResult) → (slot_in m.slots i).opened ≡ true → r.site ≡ (slot_in m.slots i).site →
    answered m.slots i r (slot_in m.slots i).promise ≡ record { after = m; reply = r.reply }
answered-same m i r on e =
    let s = slot_in m.slots i in
    (λ t. record {
      after = record { slots = set m.slots i (record { site = e t; opened = sym on t; promise = s.promise; held = s.held }) };
      reply = r.reply;
    })
    ∙ ap {B = ModuleResult} (λ (z : List Slot). record { after = record { slots = z }; reply = r.reply }) (set-get_or m.slots i no_slot)

module _ (m : Module) (i : ℕ) (on : (slot_in m.slots i).opened ≡ true) (old : Lent) (r : CallResult) (new : Lent) where
  abbrev x : ModuleResult
  x = answered m.slots i r (slot_in m.slots i).promise

  pub concludes_held : (X : Reply) → Does (slot_in m.slots i).site old X r new →
      Concludes m i r (slot_in m.slots i).promise x
  concludes_held (refused q) D =
      subst (λ (t : Bool). ConcludesAs t m i r (slot_in m.slots i).promise x) (sym (says_refused r.reply new.lists q D.answer))
      (answered-same m i r on D.site)
  concludes_held (ok st a) D =
      subst (λ (t : Bool). ConcludesAs t m i r (slot_in m.slots i).promise x) (sym (says_accepted r.reply new.lists a D.answer))
      refl

-- ### A loan of nothing

abbrev pub no_loan : List Slot → ℕ → List ℕ → Loan
no_loan l i ns = record { slots = l; saved = part_of i part_room ns }

pub lends_none : (l : List Slot) (b : Memory) (v : ValidSlots l b) (i n : ℕ) → n ≤ held_in l i →
    Lends l b.numbers i n (no_loan l i b.numbers) b.numbers
lends_none l b v i n le = record { gathered = record { into = gathers_none l b v i; reached = le }; saved = refl }

module _ (m : Module) (i : ℕ) (on : (slot_in m.slots i).opened ≡ true) (old : Lent) (r : CallResult) (new : Lent) (ns : List ℕ) where
  back : ns ≡ take (part_room * i) ns ++ (part_of i part_room ns ++ drop (part_room * i + part_room) ns)
  back =
      sym (put_same i part_room ns (part_of i part_room ns) refl)
      ∙ ap (λ (z : List ℕ). take (part_room * i) ns ++ (part_of i part_room ns ++ z)) (drop-drop part_room (part_room * i) ns)

  pub settles_held : (X : Reply) → Does (slot_in m.slots i).site old X r new →
      Settles m i (no_loan m.slots i ns) r (slot_in m.slots i).promise ns
      (answered m.slots i r (slot_in m.slots i).promise) ns
  settles_held (refused q) D =
      subst (λ (t : Bool). SettlesAs t m i (no_loan m.slots i ns) r (slot_in m.slots i).promise ns
      (answered m.slots i r (slot_in m.slots i).promise) ns) (sym (says_refused r.reply new.lists q D.answer))
      (record { result = answered-same m i r on D.site; numbers = back })
  settles_held (ok st a) D =
      subst (λ (t : Bool). SettlesAs t m i (no_loan m.slots i ns) r (slot_in m.slots i).promise ns
      (answered m.slots i r (slot_in m.slots i).promise) ns) (sym (says_accepted r.reply new.lists a D.answer))
      (record { result = refl; numbers = refl })

-- ### The calls

-- slot i becomes w, and the reply is r's
abbrev pub written : Module → ℕ → Slot → CallResult → ModuleResult
written m i w r = record { after = record { slots = set m.slots i w }; reply = r.reply }

module _ (m : Module) (i : ℕ) (c : Call) (old : Lent) (plain : is_plain c ≡ true) (on : (slot_in m.slots i).opened ≡ true)
    (n : ℕ) (en : n ≡ live_in m.slots i) (r : CallResult) (log rows o book lists : List ℕ)
    (same : length o ≡ length (part_of i n old.order))
    (pe : (s : SlotState) → s.promise ≡ (slot_in m.slots i).promise → (slot_in m.slots i).promise ≡ promise_after c s)
    (w : Slot) (ew : w ≡ slot_with r.site (slot_in m.slots i).promise (held_in m.slots i)) where
  abbrev here : Lent
  here = lent old.log old.rows (part_of i n old.order) old.book old.lists

  -- A call that takes no entries and leaves the promise.
  pub serves_held : Steps (slot_in m.slots i).site here c r (lent log rows o book lists) →
      Moves m (At i c) old (written m i w r)
      (lent log rows (take (part_room * i) old.order ++ (o ++ drop n (drop (part_room * i) old.order))) book lists)
  serves_held D =
      serves m i c old plain on n en r log rows o book lists same (slot_in m.slots i).promise pe (written m i w r)
      (subst (λ (z : Slot). Concludes m i r (slot_in m.slots i).promise (written m i z r)) (sym ew)
      (concludes_held m i on here r (lent log rows o book lists) (step c (view (slot_in m.slots i).site here)) D))
      D

module _ (m : Module) (i : ℕ) (old : Lent) (ls : List ℕ) (vw : ValidWith m i (lent old.log old.rows old.order old.book ls))
    (n : ℕ) (le : n ≤ held_in m.slots i) where
  -- what the slot holds is lent to it as a loan of nothing
  pub lends_held : Lends m.slots old.order i n (no_loan m.slots i old.order) old.order
  lends_held =
      lends_none m.slots (around i (lent old.log old.rows old.order old.book ls) vw.0 vw.1) vw.2 i n le

  abbrev there : ℕ → Lent
  there k = lent old.log old.rows (part_of i k old.order) old.book old.lists

  -- An add for which the slot holds an entry, or which is refused 10.
  pub adds_held : (on : (slot_in m.slots i).opened ≡ true) (k : ℕ) (ek : k ≡ n) (r : CallResult) (log rows book lists : List ℕ) (w : Slot)
      (ew : w ≡ slot_with r.site (slot_in m.slots i).promise (held_in m.slots i)) → i < 4 →
      n ≡ min (live_in m.slots i + 1) (may_use m.slots i) → (id : ℕ) (us : List Update) →
      StepsWithin (slot_in m.slots i).site (there k) (Call.Add id us) r (lent log rows (part_of i k old.order) book lists) →
      Moves m (At i (Call.Add id us)) old (written m i w r) (lent log rows old.order book lists)
  adds_held on k ek r log rows book lists w ew lt en id us D =
      serves_add m i old on n (no_loan m.slots i old.order) old.order lends_held k ek r log rows (part_of i k old.order)
      book lists refl (written m i w r) old.order lt en id us refl D
      (subst (λ (z : Slot). Settles m i (no_loan m.slots i old.order) r (slot_in m.slots i).promise old.order (written m i z r)
      old.order) (sym ew)
      (settles_held m i on (there k) r (lent log rows (part_of i k old.order) book lists) old.order
      (step_within (length (part_of i k old.order)) (Call.Add id us) (view (slot_in m.slots i).site (there k))) D))

-- ### What the others claim

-- what slot j claims beside slot i
abbrev pub beside_in : List Slot → ℕ → ℕ → ℕ
beside_in l i j = cond (eqb j i) 0 (claim_in l j)

pub others-sum : (l : List Slot) (i : ℕ) → i < 4 → (a b c d : ℕ) → a ≡ beside_in l i 0 → b ≡ beside_in l i 1 → c ≡ beside_in l i 2 →
    d ≡ beside_in l i 3 → a + b + c + d + claim_in l i ≡ four (claim_in l)
unfolding four
others-sum l i lt a b c d ea eb ec ed =
    let e : a + b + c + d ≡ four (beside_in l i) = λ t. ea t + eb t + ec t + ed t in
    let own : beside_in l i i ≡ 0 = ap (λ (z : Bool). cond z 0 (claim_in l i)) (eq-eqb i i refl) in
    omega (
      arith,
      e,
      own,
      four-one (beside_in l i) (claim_in l) i lt (λ j lj out. ap (λ (z : Bool). cond z 0 (claim_in l j)) (ne_eqb j i out)),
    )

pub beside_few : (l : List Slot) (i : ℕ) → Claims l i → (j : ℕ) → j < 4 → (r : ℕ) → r ≡ beside_in l i j → r ≤ table_room
beside_few l i c j lj r e = subst (λ (z : ℕ). z ≤ table_room) (sym e) (go (eqb j i))
  where
    go : (b : Bool) → cond b 0 (claim_in l j) ≤ table_room
    go true = omega arith
    go false = omega (arith, c.fit, four-least (claim_in l) j lj)

-- what the others leave, at most 64
pub others_least : (s o all : ℕ) → s + o ≡ all → all ≤ 128 → min (128 - s) 64 ≡ min 64 (128 + o - all)
others_least s o all e le = omega (arith, e, le)
