-- Laws of the parts: what a place that is written does to them, and that a number that goes from one slot to another is held once.
use Rattle.std.specs.Prelude.{ℕ, ◌+◌, ◌*◌, ◌-◌, ◌≤◌, ◌<◌, ◌≡◌, refl, ◌⊎◌, Bool, true, false, cond, List, [], ◌∷◌, ◌++◌, eqb, ltb, length, get_or, take, drop, set}
use Rattle.std.proofs.Common.{arith, add-one, sym, ap, ap₂, ◌∙◌, inl, inr, take-append-drop, length-append, length-take, length-drop, length-set, length-take-le, take_all, drop_at, get_or-append-add, take-suc, take-take, drop-drop, get_or-take, get_or-drop, get_or-set_same, get_or-set_other, ext_get_or, eqb-true, ltb-true, ltb-false}
use Rattle.std.proofs.Math.Arith.{lt_of_le-ne}
use Rattle.std.proofs.Math.ListN.{get_or-append}
use Rattle.std.proofs.lemmas.List.{take-append-le}
use Rattle.std.proofs.lemmas.Bool.{eqb-false}
use Rattle.forms.specs.Lists.{below}
use Rattle.table.specs.Order.{tally}
use Rattle.table.specs.OrderLaws.{tally_snoc, tally-at, tally-below, tally-parts}
use Rattle.module.specs.Four.{four-one, four_pair, four-two, four-least}
use Rattle.module.specs.Parts.{part_room, table_room, part_of, Shared, Gathers}

-- ### One part

pub part_long : (j n : ℕ) (ns : List ℕ) → part_room * j + n ≤ length ns → length (part_of j n ns) ≡ n
part_long j n ns le = omega (arith, length-take n (drop (part_room * j) ns), length-drop (part_room * j) ns)

pub part_at : (j n p : ℕ) (ns : List ℕ) → p < n → get_or (part_of j n ns) p 0 ≡ get_or ns (part_room * j + p) 0
part_at j n p ns lt = get_or-take n (drop (part_room * j) ns) p 0 lt ∙ get_or-drop (part_room * j) ns p 0

-- Two lists that agree in the places of a part.
pub part_same : (j n : ℕ) (ns ms : List ℕ) → length ns ≡ length ms → part_room * j + n ≤ length ns →
    ((p : ℕ) → p < n → get_or ns (part_room * j + p) 0 ≡ get_or ms (part_room * j + p) 0) → part_of j n ns ≡ part_of j n ms
part_same j n ns ms long le same =
    let a : length (part_of j n ns) ≡ n = part_long j n ns le in
    let b : length (part_of j n ms) ≡ n = part_long j n ms (omega (arith, long, le)) in
    ext_get_or 0 (part_of j n ns) (part_of j n ms) (a ∙ sym b)
    (λ p lt. let l : p < n = omega (arith, lt, a) in part_at j n p ns l ∙ same p l ∙ sym (part_at j n p ms l))

-- one number more
pub part-next : (j n : ℕ) (ns : List ℕ) → part_room * j + n < length ns →
    part_of j (n + 1) ns ≡ part_of j n ns ++ (get_or ns (part_room * j + n) 0 ∷ [])
part-next j n ns lt =
    ap (λ (k : ℕ). take k (drop (part_room * j) ns)) (add-one n)
    ∙ take-suc (drop (part_room * j) ns) n 0 (omega (arith, length-drop (part_room * j) ns, lt))
    ∙ ap (λ (x : ℕ). part_of j n ns ++ (x ∷ [])) (get_or-drop (part_room * j) ns n 0)

pub part-fewer : (j m n : ℕ) (ns : List ℕ) → m ≤ n → take m (part_of j n ns) ≡ part_of j m ns
part-fewer j m n ns le = take-take m n (drop (part_room * j) ns) le

-- ### What is held once

module _ (h : ℕ → ℕ) (ns : List ℕ) (s : Shared h ns) where
  pub part-within : (j n : ℕ) → j < 4 → n ≤ h j → part_room * j + n ≤ length ns
  part-within j n lt le = omega (arith, s.long, s.few j lt, lt, le)

  once_below : (e : ℕ) → tally e (below table_room) ≤ 1
  once_below e = go (ltb e table_room) (tally-below e table_room)
    where
      go : (b : Bool) → tally e (below table_room) ≡ cond b 1 0 → tally e (below table_room) ≤ 1
      go true q = omega (arith, q)
      go false q = omega (arith, q)

  pub held-fewer : (e j n : ℕ) → n ≤ h j → tally e (part_of j n ns) ≤ tally e (part_of j (h j) ns)
  held-fewer e j n le =
      omega (arith, tally-parts e n (part_of j (h j) ns), ap (tally e) (part-fewer j n (h j) ns le))

  -- no number is held twice
  pub held_once : (e j n : ℕ) → j < 4 → n ≤ h j → tally e (part_of j n ns) ≤ 1
  held_once e j n lt le =
      omega (arith, held-fewer e j n le, four-least (λ (k : ℕ). tally e (part_of k (h k) ns)) j lt, s.each e, once_below e)

  -- a number that one slot holds no other does
  pub held_apart : (e i j : ℕ) → i < 4 → j < 4 → (j ≡ i → ⊥) → (n : ℕ) → n ≤ h j → 1 ≤ tally e (part_of j n ns) →
      tally e (part_of i (h i) ns) ≡ 0
  held_apart e i j li lj ne n le one =
      omega (arith, held-fewer e j n le, one, four-two (λ (k : ℕ). tally e (part_of k (h k) ns)) i j li lj ne, s.each e, once_below e)

  -- .. and each is below 128
  pub held_below : (j n p : ℕ) → j < 4 → n ≤ h j → p < n → get_or (part_of j n ns) p 0 < table_room
  held_below j n p lt le less = go (ltb e table_room) refl
    where
      e : ℕ
      e = get_or (part_of j n ns) p 0

      stood : 1 ≤ tally e (part_of j n ns)
      stood = tally-at p (part_of j n ns) (omega (arith, part_long j n ns (part-within j n lt le), less))

      go : (b : Bool) → ltb e table_room ≡ b → e < table_room
      go true q = ltb-true e table_room q
      go false q =
          absurd
          (let none : tally e (below table_room) ≡ 0 = tally-below e table_room ∙ ap (λ (b : Bool). cond b 1 0) q in
          omega (arith, stood, held-fewer e j n le, four-least (λ (k : ℕ). tally e (part_of k (h k) ns)) j lt, s.each e, none))

-- ### A number goes from slot j to slot i

module _ (h k : ℕ → ℕ) (ns : List ℕ) (s : Shared h ns) (i j : ℕ) (li : i < 4) (lj : j < 4) (ne : j ≡ i → ⊥)
    (room : h i < part_room) (gives : k j + 1 ≡ h j) (takes : k i ≡ h i + 1)
    (rest : (n : ℕ) → n < 4 → (n ≡ i → ⊥) → (n ≡ j → ⊥) → k n ≡ h n) where
  -- the number, which is the last that slot j holds
  abbrev given : ℕ
  given = get_or ns (part_room * j + k j) 0

  abbrev after : List ℕ
  after = set ns (part_room * i + h i) given

  after_long : length after ≡ length ns
  after_long = length-set ns (part_room * i + h i) given

  at_end_lem : part_room * i + h i < length ns
  at_end_lem = omega (arith, s.long, li, room)

  -- every other place is as it was
  pub after_kept : (p : ℕ) → (p ≡ part_room * i + h i → ⊥) → get_or after p 0 ≡ get_or ns p 0
  after_kept p out = get_or-set_other ns (part_room * i + h i) p given 0 out

  -- .. so are the other parts
  other-part : (n m : ℕ) → n < 4 → (n ≡ i → ⊥) → m ≤ part_room → part_of n m after ≡ part_of n m ns
  other-part n m ln out le =
      part_same n m after ns after_long (omega (arith, after_long, s.long, ln, le))
      (λ p lp. after_kept (part_room * n + p) (λ e. out (omega (arith, e, room, le, lp))))

  own-part : part_of i (h i) after ≡ part_of i (h i) ns
  own-part =
      part_same i (h i) after ns after_long (omega (arith, after_long, at_end_lem))
      (λ p lp. after_kept (part_room * i + p) (λ e. omega (arith, e, lp)))

  part-i : part_of i (k i) after ≡ part_of i (h i) ns ++ (given ∷ [])
  part-i =
      ap (λ (m : ℕ). part_of i m after) takes
      ∙ part-next i (h i) after (omega (arith, after_long, at_end_lem))
      ∙ ap₂ (λ (l : List ℕ) (x : ℕ). l ++ (x ∷ [])) own-part (get_or-set_same ns (part_room * i + h i) given 0 at_end_lem)

  part_j : part_of j (h j) ns ≡ part_of j (k j) ns ++ (given ∷ [])
  part_j =
      ap (λ (m : ℕ). part_of j m ns) (sym gives)
      ∙ part-next j (k j) ns (omega (arith, s.long, s.few j lj, gives, lj))

  pub moved_shared : Shared k after
  moved_shared =
      record {
        long = after_long ∙ s.long;
        few = λ n ln. few n ln (eqb n i) refl (eqb n j) refl;
        all = omega (arith, four_pair k h i j li lj ne rest, gives, takes, s.all);
        each = λ e. omega (
          arith,
          four_pair (λ (n : ℕ). tally e (part_of n (k n) after)) (λ (n : ℕ). tally e (part_of n (h n) ns)) i j li lj ne
              (λ n ln oi oj. ap (λ (m : ℕ). tally e (part_of n m after)) (rest n ln oi oj) ∙ ap (tally e)
              (other-part n (h n) ln oi (s.few n ln))),
          ap (tally e) part-i,
          ap (tally e) part_j,
          tally_snoc e (part_of i (h i) ns) given,
          tally_snoc e (part_of j (k j) ns) given,
          ap (tally e) (other-part j (k j) lj ne (omega (arith, s.few j lj, gives))),
          s.each e,
        );
      }
    where
      few : (n : ℕ) → n < 4 → (a : Bool) → eqb n i ≡ a → (b : Bool) → eqb n j ≡ b → k n ≤ part_room
      few n ln true p b q = omega (arith, ap k (eqb-true n i p), takes, room)
      few n ln false p true q = omega (arith, ap k (eqb-true n j q), ap h (eqb-true n j q), gives, s.few n ln)
      few n ln false p false q = omega (arith, rest n ln (eqb-false n i p) (eqb-false n j q), s.few n ln)

-- ### Gathering

pub gathers_start : (i : ℕ) (live h : ℕ → ℕ) (ns : List ℕ) → Shared h ns → ((j : ℕ) → j < 4 → live j ≤ h j) → Gathers i live h h ns ns
gathers_start i live h ns s le = record { shared = s; more = omega arith; stays = le; kept = λ p out. refl }

pub gathers_next : (i : ℕ) (live h k m : ℕ → ℕ) (old new : List ℕ) → Gathers i live h k old new →
    (j : ℕ) (li : i < 4) (lj : j < 4) (ne : j ≡ i → ⊥) (room : k i < part_room) (gives : m j + 1 ≡ k j) (takes : m i ≡ k i + 1)
    (rest : (n : ℕ) → n < 4 → (n ≡ i → ⊥) → (n ≡ j → ⊥) → m n ≡ k n) → live j ≤ m j →
    Gathers i live h m old (set new (part_room * i + k i) (get_or new (part_room * j + m j) 0))
gathers_next i live h k m old new g j li lj ne room gives takes rest le =
    record {
      shared = moved_shared k m new g.shared i j li lj ne room gives takes rest;
      more = omega (arith, g.more, takes);
      stays = λ n ln. stay n ln (eqb n i) refl (eqb n j) refl;
      kept = λ p out.
          after_kept k m new g.shared i j li lj ne room gives takes rest p (λ e. apart p out e)
          ∙ g.kept p (outer p out);
    }
  where
    stay : (n : ℕ) → n < 4 → (a : Bool) → eqb n i ≡ a → (b : Bool) → eqb n j ≡ b → live n ≤ m n
    stay n ln true p b q = let e = eqb-true n i p in omega (arith, ap m e, ap k e, takes, g.stays n ln)
    stay n ln false p true q = let e = eqb-true n j q in omega (arith, ap m e, ap live e, le)
    stay n ln false p false q = omega (arith, rest n ln (eqb-false n i p) (eqb-false n j q), g.stays n ln)

    apart : (p : ℕ) → (p < part_room * i + h i) ⊎ (part_room * i + m i ≤ p) → p ≡ part_room * i + k i → ⊥
    apart p (inl lt) e = omega (arith, lt, e, g.more)
    apart p (inr le) e = omega (arith, le, e, takes)

    outer : (p : ℕ) → (p < part_room * i + h i) ⊎ (part_room * i + m i ≤ p) → (p < part_room * i + h i) ⊎ (part_room * i + k i ≤ p)
    outer p (inl lt) = inl lt
    outer p (inr le) = inr (omega (arith, le, takes))

-- what has been gathered: the other parts, and the beginning of slot i's own, are as they were
module _ (i : ℕ) (live h k : ℕ → ℕ) (old new : List ℕ) (g : Gathers i live h k old new) (li : i < 4)
    (long : length old ≡ 4 * part_room) where
  pub gathered_other : (j n : ℕ) → j < 4 → (j ≡ i → ⊥) → n ≤ part_room → part_of j n new ≡ part_of j n old
  gathered_other j n lj ne le =
      part_same j n new old (g.shared.long ∙ sym long) (omega (arith, g.shared.long, lj, le))
      (λ p lp. g.kept (part_room * j + p) (go p lp (ltb j i) refl))
    where
      go : (p : ℕ) → p < n → (b : Bool) → ltb j i ≡ b → (part_room * j + p < part_room * i + h i) ⊎ (part_room * i + k i ≤ part_room * j + p)
      go p lp true q = inl (omega (arith, ltb-true j i q, lp, le))
      go p lp false q =
          inr (let more = ltb-false j i q in let lt : i < j = lt_of_le-ne more (λ e. ne (sym e)) in omega (arith, lt, g.shared.few i li))

  pub gathered_own : (n : ℕ) → n ≤ h i → part_of i n new ≡ part_of i n old
  gathered_own n le =
      part_same i n new old (g.shared.long ∙ sym long) (omega (arith, g.shared.long, g.shared.few i li, li, le, g.more))
      (λ p lp. g.kept (part_room * i + p) (inl (omega (arith, lp, le))))

  -- .. and putting slot i's part back as it was leaves all as it was
  pub put_back : take (part_room * i) new ++ (part_of i part_room old ++ drop (part_room * i + part_room) new) ≡ old
  put_back =
      ap₂ (λ (a b : List ℕ). a ++ (part_of i part_room old ++ b)) front back
      ∙ ap (λ (b : List ℕ). take (part_room * i) old ++ (part_of i part_room old ++ b)) (sym (drop-drop part_room (part_room * i) old))
      ∙ ap (λ (b : List ℕ). take (part_room * i) old ++ b) (take-append-drop part_room (drop (part_room * i) old))
      ∙ take-append-drop (part_room * i) old
    where
      front : take (part_room * i) new ≡ take (part_room * i) old
      front =
          part_same 0 (part_room * i) new old (g.shared.long ∙ sym long) (omega (arith, g.shared.long, li))
          (λ p lp. g.kept (part_room * 0 + p) (inl (omega (arith, lp))))

      back : drop (part_room * i + part_room) new ≡ drop (part_room * i + part_room) old
      back =
          let a = length-drop (part_room * i + part_room) new in
          let b = length-drop (part_room * i + part_room) old in
          ext_get_or 0 (drop (part_room * i + part_room) new) (drop (part_room * i + part_room) old)
          (omega (arith, a, b, g.shared.long, long))
          (λ p lp. get_or-drop (part_room * i + part_room) new p 0
          ∙ g.kept (part_room * i + part_room + p) (inr (omega (arith, g.shared.few i li)))
          ∙ sym (get_or-drop (part_room * i + part_room) old p 0))

-- ### The first numbers of a part in another order

module _ (h : ℕ → ℕ) (ns : List ℕ) (s : Shared h ns) (i n : ℕ) (li : i < 4) (le : n ≤ h i) (o : List ℕ) (lo : length o ≡ n)
    (same : (e : ℕ) → tally e o ≡ tally e (part_of i n ns)) where
  -- the numbers with these in the place of the first n of slot i's part
  abbrev pasted : List ℕ
  pasted = take (part_room * i) ns ++ (o ++ drop n (drop (part_room * i) ns))

  front : length (take (part_room * i) ns) ≡ part_room * i
  front = length-take-le (part_room * i) ns (omega (arith, s.long, li))

  behind : drop n (drop (part_room * i) ns) ≡ drop (part_room * i + n) ns
  behind = drop-drop n (part_room * i) ns

  pub pasted_long : length pasted ≡ length ns
  pasted_long =
      omega (
        arith,
        length-append (take (part_room * i) ns) (o ++ drop n (drop (part_room * i) ns)),
        length-append o (drop n (drop (part_room * i) ns)),
        front,
        lo,
        ap (λ (l : List ℕ). length l) behind,
        length-drop (part_room * i + n) ns,
        s.long,
        s.few i li,
        le,
      )

  -- every other place is as it was
  pub pasted-before : (p : ℕ) → p < part_room * i → get_or pasted p 0 ≡ get_or ns p 0
  pasted-before p lt =
      get_or-append (take (part_room * i) ns) (o ++ drop n (drop (part_room * i) ns)) 0 p (omega (arith, front, lt))
      ∙ get_or-take (part_room * i) ns p 0 lt

  pub pasted-behind : (p : ℕ) → part_room * i + n ≤ p → get_or pasted p 0 ≡ get_or ns p 0
  pasted-behind p more =
      let q : ℕ = p - (part_room * i + n) in
      let here : p ≡ length (take (part_room * i) ns) + (length o + q) = omega (arith, front, lo, more) in
      ap (λ (k : ℕ). get_or pasted k 0) here
      ∙ get_or-append-add (take (part_room * i) ns) (o ++ drop n (drop (part_room * i) ns)) (length o + q) 0
      ∙ get_or-append-add o (drop n (drop (part_room * i) ns)) q 0
      ∙ ap (λ (l : List ℕ). get_or l q 0) behind
      ∙ get_or-drop (part_room * i + n) ns q 0
      ∙ ap (λ (k : ℕ). get_or ns k 0) (let z : part_room * i + n + q ≡ p = omega (arith, more) in z)

  -- slot i's own are these
  pub pasted-own : (m : ℕ) → m ≤ n → part_of i m pasted ≡ take m o
  pasted-own m less =
      ap (take m) (drop_at (take (part_room * i) ns) (o ++ drop n (drop (part_room * i) ns)) (part_room * i) front)
      ∙ take-append-le m o (drop n (drop (part_room * i) ns)) (omega (arith, lo, less))

  pub pasted-other : (j m : ℕ) → j < 4 → (j ≡ i → ⊥) → m ≤ part_room → part_of j m pasted ≡ part_of j m ns
  pasted-other j m lj ne few =
      part_same j m pasted ns pasted_long (omega (arith, pasted_long, s.long, lj, few)) (λ p lp. go p lp (ltb j i) refl)
    where
      go : (p : ℕ) → p < m → (b : Bool) → ltb j i ≡ b → get_or pasted (part_room * j + p) 0 ≡ get_or ns (part_room * j + p) 0
      go p lp true q = pasted-before (part_room * j + p) (omega (arith, ltb-true j i q, lp, few))
      go p lp false q =
          pasted-behind (part_room * j + p)
          (let more = ltb-false j i q in let lt : i < j = lt_of_le-ne more (λ e. ne (sym e)) in omega (arith, lt, le, s.few i li))

  -- those of slot i behind them
  rest-same : drop n (part_of i (h i) pasted) ≡ drop n (part_of i (h i) ns)
  rest-same =
      let w : part_room * i + h i ≤ length ns = part-within h ns s i (h i) li (omega arith) in
      let a = part_long i (h i) pasted (omega (arith, pasted_long, w)) in
      let b = part_long i (h i) ns w in
      ext_get_or 0 (drop n (part_of i (h i) pasted)) (drop n (part_of i (h i) ns))
      (omega (arith, length-drop n (part_of i (h i) pasted), length-drop n (part_of i (h i) ns), a, b))
      (λ p lp.
      let l : n + p < h i = omega (arith, length-drop n (part_of i (h i) pasted), a, lp) in
      get_or-drop n (part_of i (h i) pasted) p 0
      ∙ part_at i (h i) (n + p) pasted l
      ∙ pasted-behind (part_room * i + (n + p)) (omega arith)
      ∙ sym (part_at i (h i) (n + p) ns l)
      ∙ sym (get_or-drop n (part_of i (h i) ns) p 0))

  own-tally : (e : ℕ) → tally e (part_of i (h i) pasted) ≡ tally e (part_of i (h i) ns)
  own-tally e =
      omega (
        arith,
        tally-parts e n (part_of i (h i) pasted),
        tally-parts e n (part_of i (h i) ns),
        ap (tally e) rest-same,
        ap (tally e) (part-fewer i n (h i) pasted le ∙ pasted-own n (omega arith) ∙ take_all n o (omega (arith, lo))),
        ap (tally e) (part-fewer i n (h i) ns le),
        same e,
      )

  pub pasted_shared : Shared h pasted
  pasted_shared =
      record {
        long = pasted_long ∙ s.long;
        few = s.few;
        all = s.all;
        each = λ e. omega (
          arith,
          four-one (λ (j : ℕ). tally e (part_of j (h j) pasted)) (λ (j : ℕ). tally e (part_of j (h j) ns)) i li
              (λ j lj ne. ap (tally e) (pasted-other j (h j) lj ne (s.few j lj))),
          own-tally e,
          s.each e,
        );
      }
