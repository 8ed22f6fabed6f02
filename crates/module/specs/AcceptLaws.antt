-- A call of one slot's site that is accepted: the module is valid after it, its view is the specification's next, and of the neighbours
-- nothing has changed.
use Rattle.std.specs.Prelude.{ℕ, ◌+◌, ◌*◌, ◌≤◌, ◌<◌, ◌≡◌, refl, Bool, true, false, cond, List, [], ◌++◌, eqb, ltb, length, get_or, take, drop, set}
use Rattle.std.proofs.Common.{arith, sym, ap, subst, ◌∙◌, inl, inr, length-set, take-take, get_or-set_same, get_or-set_other, eq-eqb, ne_eqb, eqb-true, ltb-true, ltb-false}
use Rattle.std.proofs.Math.Option.{some}
use Rattle.std.proofs.Math.Arith.{lt_of_le-ne}
use Rattle.std.proofs.lemmas.Bool.{eqb-false}
use Rattle.forms.specs.Forms.{Answer}
use Rattle.rules.specs.State.{State}
use Rattle.compact.specs.Module.{Module as ModuleState, with_slot}
use Rattle.compact.specs.Fits.{Fits}
use Rattle.history.specs.Words.{width}
use Rattle.table.specs.Order.{tally}
use Rattle.table.specs.OrderLaws.{tally-parts}
use Rattle.table.specs.Tables.{live_count, live_numbers, Frame}
use Rattle.site.specs.declared.CallResult.{CallResult}
use Rattle.site.specs.Model.{Lent, lent, view, Valid, AcceptedAs}
use Rattle.module.specs.declared.Slot.{Slot}
use Rattle.module.specs.Four.{true_false}
use Rattle.module.specs.Parts.{part_room, part_of, Shared}
use Rattle.module.specs.PartLaws.{held-fewer, held_apart, gathered_other, pasted-before, pasted-behind, pasted-own, pasted-other}
use Rattle.module.specs.PartLaws.{pasted_shared}
use Rattle.module.specs.Model.{no_slot, slot_in, live_in, held_in, Memory, lent_at, state_at, site_if, view_at, view_in, ValidSlots, put}
use Rattle.module.specs.Model.{around, AcceptedIn}
use Rattle.module.specs.Gather.{with_held, GathersIn}
use Rattle.module.specs.ViewLaws.{list_with}
use Rattle.module.specs.SiteLaws.{valid_fewer, view-fewer, valid_rows, view-rows}
use Rattle.module.specs.Calls.{slot_with, answered}

pub put-own : (i : ℕ) (x : List ℕ) (f : ℕ → List ℕ) → put i x f i ≡ x
unfolding put
put-own i x f = ap (λ (b : Bool). cond b x (f i)) (eq-eqb i i refl)

pub put_other : (i j : ℕ) (x y : List ℕ) (f : ℕ → List ℕ) → (j ≡ i → ⊥) → put i x f j ≡ put i y f j
unfolding put
put_other i j x y f ne =
    ap (λ (b : Bool). cond b x (f j)) (ne_eqb j i ne) ∙ sym (ap (λ (b : Bool). cond b y (f j)) (ne_eqb j i ne))

pub shared_same : (h k : ℕ → ℕ) (ns : List ℕ) → ((j : ℕ) → h j ≡ k j) → Shared h ns → Shared k ns
shared_same h k ns e s = subst (λ (f : ℕ → ℕ). Shared f ns) (λ t j. e j t) s

module _ (l : List Slot) (i : ℕ) (li : i < 4) (old : Lent) (logs books : ℕ → List ℕ) (v : ValidSlots l (around i old logs books))
    (k : List Slot) (ns : List ℕ) (g : GathersIn l old.order i k ns) (n : ℕ) (le : n ≤ held_in k i)
    (lg bk : List ℕ) (st : State) (a : Answer) (r : CallResult) (log rows o book lists : List ℕ) (lo : length o ≡ n)
    (A : AcceptedAs (part_of i n ns) (lent lg old.rows (part_of i n ns) bk old.lists) st a r (lent log rows o book lists))
    (p : ℕ) where
  abbrev before : Memory
  before = around i old logs books

  abbrev numbers : List ℕ
  numbers = take (part_room * i) ns ++ (o ++ drop n (drop (part_room * i) ns))

  abbrev new : Lent
  new = lent log rows numbers book lists

  abbrev later : Memory
  later = around i new logs books

  abbrev own : Slot
  own = slot_with r.site p (held_in k i)

  abbrev after : List Slot
  after = set k i own

  abbrev live : ℕ
  live = live_count r.site.table

  -- ### The slots

  at_own : slot_in after i ≡ own
  at_own = get_or-set_same k i own no_slot (omega (arith, g.size, li))

  at_other : (j : ℕ) → (j ≡ i → ⊥) → slot_in after j ≡ with_held (held_in k j) (slot_in l j)
  at_other j ne = get_or-set_other k i j own no_slot ne ∙ g.slots j

  held_same : (j : ℕ) → held_in k j ≡ held_in after j
  held_same j = go (eqb j i) refl
    where
      go : (b : Bool) → eqb j i ≡ b → held_in k j ≡ held_in after j
      go true e =
          let q = eqb-true j i e in
          ap (held_in k) q ∙ sym (ap (λ (s : Slot). s.held) at_own) ∙ sym (ap (held_in after) q)
      go false e = sym (ap (λ (s : Slot). s.held) (get_or-set_other k i j own no_slot (eqb-false j i e)))

  live_own : live_in after i ≡ live
  live_own = ap (λ (s : Slot). live_count s.site.table) at_own

  live-other : (j : ℕ) → (j ≡ i → ⊥) → live_in after j ≡ live_in l j
  live-other j ne = ap (λ (s : Slot). live_count s.site.table) (at_other j ne)

  live_lent : live ≤ n
  live_lent = omega (arith, A.valid.owns.usable.few, lo)

  -- ### The numbers

  same : (e : ℕ) → tally e o ≡ tally e (part_of i n ns)
  same = A.same

  s : Shared (held_in k) ns
  s = g.gathers.shared

  old_long : length old.order ≡ 4 * part_room
  old_long = v.shared.long

  shared_after : Shared (held_in after) numbers
  shared_after = shared_same (held_in k) (held_in after) numbers held_same (pasted_shared (held_in k) ns s i n li le o lo same)

  -- a neighbour's live numbers
  numbers-other : (j : ℕ) → j < 4 → (j ≡ i → ⊥) → part_of j (live_in l j) numbers ≡ part_of j (live_in l j) old.order
  numbers-other j lj ne =
      let few : live_in l j ≤ part_room = omega (arith, v.few j lj, v.shared.few j lj) in
      pasted-other (held_in k) ns s i n li le o lo same j (live_in l j) lj ne few
      ∙ gathered_other i (live_in l) (held_in l) (held_in k) old.order ns g.gathers li old_long j (live_in l j) lj ne few

  numbers-own : part_of i live numbers ≡ take live o
  numbers-own = pasted-own (held_in k) ns s i n li le o lo same live live_lent

  -- .. are none of the slot's live ones
  apart : (j : ℕ) → j < 4 → (j ≡ i → ⊥) → (e : ℕ) → 1 ≤ tally e (take (live_in l j) (part_of j (live_in l j) old.order)) →
      tally e (live_numbers r.site.table o) ≡ 0
  apart j lj ne e one =
      let few : live_in l j ≤ part_room = omega (arith, v.few j lj, v.shared.few j lj) in
      let here : take (live_in l j) (part_of j (live_in l j) old.order) ≡ part_of j (live_in l j) ns =
      take-take (live_in l j) (live_in l j) (drop (part_room * j) old.order) (omega arith)
      ∙ sym (gathered_other i (live_in l) (held_in l) (held_in k) old.order ns g.gathers li old_long j (live_in l j) lj ne few) in
      omega (
        arith,
        held_apart (held_in k) ns s e i j li lj ne (live_in l j) (g.gathers.stays j lj) (omega (arith, one, ap (tally e) here)),
        held-fewer (held_in k) ns s e i n le,
        same e,
        tally-parts e live o,
      )

  -- ### The neighbours

  abbrev order_of : ℕ → List ℕ
  order_of j = part_of j (live_in l j) old.order

  logs_same : (j : ℕ) → (j ≡ i → ⊥) → before.logs j ≡ later.logs j
  logs_same j ne = put_other i j old.log log logs ne

  books_same : (j : ℕ) → (j ≡ i → ⊥) → before.books j ≡ later.books j
  books_same j ne = put_other i j old.book book books ne

  order_same : (j : ℕ) → j < 4 → (j ≡ i → ⊥) → order_of j ≡ part_of j (live_in after j) numbers
  order_same j lj ne = sym (numbers-other j lj ne) ∙ ap (λ (m : ℕ). part_of j m numbers) (sym (live-other j ne))

  valid_other : (j : ℕ) → j < 4 → (j ≡ i → ⊥) → (slot_in l j).opened ≡ true → Valid (slot_in after j).site (lent_at after later j)
  valid_other j lj ne on =
      let sl : with_held (held_in k j) (slot_in l j) ≡ slot_in after j = sym (at_other j ne) in
      let el : before.logs j ≡ later.logs j = logs_same j ne in
      let eo : order_of j ≡ part_of j (live_in after j) numbers = order_same j lj ne in
      let eb : before.books j ≡ later.books j = books_same j ne in
      subst (λ (T : Type 0). T) (λ t. Valid (sl t).site (lent (el t) rows (eo t) (eb t) []))
      (valid_rows (slot_in l j).site (before.logs j) old.rows rows (order_of j) (before.books j) [] []
      (live_numbers r.site.table o) A.frame (apart j lj ne) (v.each j lj on))

  state_other : (j : ℕ) → j < 4 → (j ≡ i → ⊥) → state_at l before j ≡ state_at after later j
  state_other j lj ne =
      let sl : with_held (held_in k j) (slot_in l j) ≡ slot_in after j = sym (at_other j ne) in
      let el : before.logs j ≡ later.logs j = logs_same j ne in
      let eo : order_of j ≡ part_of j (live_in after j) numbers = order_same j lj ne in
      let eb : before.books j ≡ later.books j = books_same j ne in
      view-rows (slot_in l j).site (before.logs j) old.rows rows (order_of j) (before.books j) [] []
      (live_numbers r.site.table o) A.frame (apart j lj ne)
      ∙ (λ t. view (sl t).site (lent (el t) rows (eo t) (eb t) []))

  view-other : (j : ℕ) → j < 4 → (j ≡ i → ⊥) → view_at after later j ≡ view_at l before j
  view-other j lj ne =
      let sl : slot_in after j ≡ with_held (held_in k j) (slot_in l j) = at_other j ne in
      let es : state_at after later j ≡ state_at l before j = sym (state_other j lj ne) in
      λ t. record { site = site_if (sl t).opened (es t); promise = (sl t).promise }

  -- ### The slot itself

  valid_own : Valid (slot_in after i).site (lent_at after later i)
  valid_own =
      let sl : own ≡ slot_in after i = sym at_own in
      let el : log ≡ later.logs i = sym (put-own i log logs) in
      let eo : take live o ≡ part_of i (live_in after i) numbers =
      sym numbers-own ∙ ap (λ (m : ℕ). part_of i m numbers) (sym live_own) in
      let eb : book ≡ later.books i = sym (put-own i book books) in
      subst (λ (T : Type 0). T) (λ t. Valid (sl t).site (lent (el t) rows (eo t) (eb t) []))
      (valid_fewer r.site log rows o book lists A.valid)

  state_own : state_at after later i ≡ st
  state_own =
      let sl : own ≡ slot_in after i = sym at_own in
      let el : log ≡ later.logs i = sym (put-own i log logs) in
      let eo : take live o ≡ part_of i (live_in after i) numbers =
      sym numbers-own ∙ ap (λ (m : ℕ). part_of i m numbers) (sym live_own) in
      let eb : book ≡ later.books i = sym (put-own i book books) in
      let ev : view r.site (lent log rows (take live o) book []) ≡ state_at after later i =
      λ t. view (sl t).site (lent (el t) rows (eo t) (eb t) []) in
      sym ev ∙ sym (view-fewer r.site log rows o book lists) ∙ A.state

  view-own : view_at after later i ≡ record { site = some st; promise = p }
  view-own =
      let sl : slot_in after i ≡ own = at_own in
      let es : state_at after later i ≡ st = state_own in
      λ t. record { site = site_if (sl t).opened (es t); promise = (sl t).promise }

  -- ### The module

  pub view-after : view_in after later ≡ with_slot i (record { site = some st; promise = p }) (view_in l before)
  view-after = list_with (view_at after later) (view_at l before) i _ li view-other view-own

  valid_after : Fits (with_slot i (record { site = some st; promise = p }) (view_in l before)) → ValidSlots after later
  valid_after F =
      record {
        size = length-set k i own ∙ g.size;
        rows = A.frame.long ∙ v.rows;
        shared = shared_after;
        few = λ j lj. few j lj (eqb j i) refl;
        each = λ j lj on. each j lj (eqb j i) refl on;
        none = λ j lj shut. none j lj (eqb j i) refl shut;
        fits = subst Fits (sym view-after) F;
      }
    where
      few : (j : ℕ) → j < 4 → (b : Bool) → eqb j i ≡ b → live_in after j ≤ held_in after j
      few j lj true e =
          let q = eqb-true j i e in omega (arith, ap (live_in after) q, live_own, live_lent, le, ap (held_in k) q, held_same j)
      few j lj false e = omega (arith, live-other j (eqb-false j i e), g.gathers.stays j lj, held_same j)

      each : (j : ℕ) → j < 4 → (b : Bool) → eqb j i ≡ b → (slot_in after j).opened ≡ true → Valid (slot_in after j).site
          (lent_at after later j)
      each j lj true e on = subst (λ (m : ℕ). Valid (slot_in after m).site (lent_at after later m)) (sym (eqb-true j i e)) valid_own
      each j lj false e on =
          let ne = eqb-false j i e in valid_other j lj ne (sym (ap (λ (x : Slot). x.opened) (at_other j ne)) ∙ on)

      none : (j : ℕ) → j < 4 → (b : Bool) → eqb j i ≡ b → (slot_in after j).opened ≡ false → live_in after j ≡ 0
      none j lj true e shut =
          absurd (true_false (sym (ap (λ (x : Slot). x.opened) at_own) ∙ sym (ap (λ (m : ℕ). (slot_in after m).opened) (eqb-true j i e))
          ∙ shut))
      none j lj false e shut =
          let ne = eqb-false j i e in
          live-other j ne ∙ v.none j lj (sym (ap (λ (x : Slot). x.opened) (at_other j ne)) ∙ shut)

  -- places past those that are held
  past_numbers_lem : (j q : ℕ) → j < 4 → held_in after j ≤ q → q < part_room → get_or numbers (part_room * j + q) 0 ≡ get_or old.order
      (part_room * j + q) 0
  past_numbers_lem j q lj more lt = go (ltb j i) refl (eqb j i) refl
    where
      go : (b : Bool) → ltb j i ≡ b → (c : Bool) → eqb j i ≡ c → get_or numbers (part_room * j + q) 0 ≡ get_or old.order (part_room * j + q) 0
      go true e c f =
          let less = ltb-true j i e in
          pasted-before (held_in k) ns s i n li le o lo same (part_room * j + q) (omega (arith, less, lt))
          ∙ g.gathers.kept (part_room * j + q) (inl (omega (arith, less, lt)))
      go false e true f =
          let h = eqb-true j i f in
          let m : held_in k i ≤ q = omega (arith, more, held_same j, ap (held_in k) h) in
          pasted-behind (held_in k) ns s i n li le o lo same (part_room * j + q) (omega (arith, h, m, le))
          ∙ g.gathers.kept (part_room * j + q) (inr (omega (arith, h, m)))
      go false e false f =
          let above : i < j = lt_of_le-ne (ltb-false j i e) (λ h. eqb-false j i f (sym h)) in
          pasted-behind (held_in k) ns s i n li le o lo same (part_room * j + q) (omega (arith, above, le, s.few i li))
          ∙ g.gathers.kept (part_room * j + q) (inr (omega (arith, above, s.few i li)))

  pub accepted_in : (next : ModuleState) → with_slot i (record { site = some st; promise = p }) (view_in l before) ≡ next → Fits next →
      AcceptedIn i (lent lg old.rows old.order bk old.lists) next a (answered k i r p) new later
  accepted_in next e F =
      record {
        answer = A.answer;
        valid = valid_after (subst Fits (sym e) F);
        state = view-after ∙ e;
        past = subst (λ (x : Slot). drop x.site.used log ≡ drop x.site.used lg) (sym at_own) A.past;
        frame = subst (λ (live : List ℕ). Frame live old.rows rows)
            (sym numbers-own ∙ ap (λ (m : ℕ). part_of i m numbers) (sym live_own)) A.frame;
        past_numbers = past_numbers_lem;
        past_histories =
            subst (λ (x : Slot). drop (width * x.site.count) book ≡ drop (width * x.site.count) bk) (sym at_own)
            A.past_histories;
        past_lists = A.past_lists;
      }
