-- Laws of free numbers that go from slot to slot: a neighbour that has one is found, and each turn keeps what has been gathered.
use Rattle.std.specs.Prelude.{ℕ, ◌+◌, ◌≤◌, ◌<◌, ◌≡◌, refl, Bool, true, false, cond, not, ◌&&◌, List, eqb, ltb}
use Rattle.std.proofs.Common.{arith, sym, ap, subst, ◌∙◌, eq-eqb, ne_eqb, eqb-true, ltb-true, ltb-false}
use Rattle.module.specs.declared.Slot.{Slot}
use Rattle.module.specs.Four.{four, true_false, four-one}
use Rattle.module.specs.Parts.{Gathers}
use Rattle.module.specs.PartLaws.{gathers_start, gathers_next}
use Rattle.module.specs.Model.{live_in, held_in}
use Rattle.module.specs.Gather.{with_held, MaySpare, spare_at, IsSpare, MayGive, Gives, MayGather, GathersIn}

-- ### A neighbour that holds a free number

and-true : (a b : Bool) → (a && b) ≡ true → (a ≡ true) × (b ≡ true)
and-true true b e = (refl, e)
and-true false b e = absurd (true_false (sym e))

pub is_spare_of : (l : List Slot) (i j : ℕ) → j < 4 → spare_at l i j ≡ true → IsSpare l i j
is_spare_of l i j lj e =
    let q = and-true (not (eqb j i)) (ltb (live_in l j) (held_in l j)) e in
    record {
      within = lj;
      other = λ same. true_false (sym q.0 ∙ ap not (eq-eqb j i same));
      free = ltb-true (live_in l j) (held_in l j) q.1;
    }

-- what slot j holds at most where it has no free number to give
abbrev bound_of : List Slot → ℕ → ℕ → ℕ
bound_of l i j = cond (eqb j i) (held_in l i) (live_in l j)

-- where j is slot i itself or holds no free number
not_spare : (l : List Slot) (i j : ℕ) → spare_at l i j ≡ false → held_in l j ≤ bound_of l i j
not_spare l i j e = go (eqb j i) refl e
  where
    go : (b : Bool) → eqb j i ≡ b → (not b && ltb (live_in l j) (held_in l j)) ≡ false → held_in l j ≤ cond (eqb j i) (held_in l i) (live_in l j)
    go true q z = omega (arith, ap (λ (t : Bool). cond t (held_in l i) (live_in l j)) q, ap (held_in l) (eqb-true j i q))
    go false q z =
        omega (arith, ap (λ (t : Bool). cond t (held_in l i) (live_in l j)) q, ltb-false (live_in l j) (held_in l j) z)

-- Slots 0 to 2 are none: it is slot 3.
pub spare_last : (l : List Slot) (i : ℕ) → MaySpare l i → spare_at l i 0 ≡ false → spare_at l i 1 ≡ false → spare_at l i 2 ≡ false →
    IsSpare l i 3
unfolding four
spare_last l i m e₀ e₁ e₂ = go (spare_at l i 3) refl
  where
    go : (b : Bool) → spare_at l i 3 ≡ b → IsSpare l i 3
    go true e = is_spare_of l i 3 (omega arith) e
    go false e =
        absurd
        (let bound : ℕ → ℕ = bound_of l i in
        let own : bound i ≡ held_in l i = ap (λ (t : Bool). cond t (held_in l i) (live_in l i)) (eq-eqb i i refl) in
        let most : four (held_in l) ≤ four bound =
        omega (arith, not_spare l i 0 e₀, not_spare l i 1 e₁, not_spare l i 2 e₂, not_spare l i 3 e) in
        omega (
          arith,
          most,
          own,
          four-one bound (live_in l) i m.own (λ j lj ne. ap (λ (t : Bool). cond t (held_in l i) (live_in l j)) (ne_eqb j i ne)),
          m.all,
          m.enough,
        ))

-- ### Until there are enough

pub gathers_in_start : (l : List Slot) (ns : List ℕ) (i n : ℕ) → MayGather l ns i n → GathersIn l ns i l ns
gathers_in_start l ns i n m =
    record {
      size = m.size;
      slots = λ j. refl;
      gathers = gathers_start i (live_in l) (held_in l) ns m.shared m.few;
    }

module _ (l : List Slot) (ns : List ℕ) (i n : ℕ) (m : MayGather l ns i n) (k : List Slot) (ms : List ℕ) (g : GathersIn l ns i k ms) where
  live_same : (j : ℕ) → live_in k j ≡ live_in l j
  live_same j = ap (λ (s : Slot). s.site.table.finished + s.site.table.queue) (g.slots j)

  live-four : four (live_in k) ≡ four (live_in l)
  unfolding four
  live-four = omega (arith, live_same 0, live_same 1, live_same 2, live_same 3)

  -- a neighbour holds a free number as long as slot i holds fewer than n
  pub may_spare : held_in k i < n → MaySpare k i
  may_spare lt =
      record {
        size = g.size;
        own = m.own;
        few = λ j lj. omega (arith, g.gathers.stays j lj, live_same j);
        most = g.gathers.shared.few;
        all = g.gathers.shared.all;
        enough = omega (arith, lt, m.enough, live-four, live_same i);
      }

  module _ (lt : held_in k i < n) (j : ℕ) (s : IsSpare k i j) where
    pub may_give : MayGive k ms i j
    may_give =
        record {
          size = g.size;
          own = m.own;
          within = s.within;
          other = s.other;
          long = g.gathers.shared.long;
          few = g.gathers.shared.few j s.within;
          some = omega (arith, s.free);
          room = omega (arith, lt, m.most);
        }

    pub gathers_in_next : (k' : List Slot) (ms' : List ℕ) → Gives k ms i j k' ms' → GathersIn l ns i k' ms'
    gathers_in_next k' ms' v =
        record {
          size = v.size;
          slots = λ x. v.slots x ∙ ap (with_held (held_in k' x)) (g.slots x);
          gathers =
              subst (Gathers i (live_in l) (held_in l) (held_in k') ns) (sym v.numbers)
              (gathers_next i (live_in l) (held_in l) (held_in k) (held_in k') ns ms g.gathers j m.own s.within s.other
              (omega (arith, lt, m.most)) v.gives v.takes v.rest (omega (arith, s.free, v.gives, live_same j)));
        }
