-- Laws of chains: a link more, and a walk along a chain passes by no pair with the key.
use Rattle.std.specs.Prelude.{◌≡◌, refl, ◌⊎◌, Bool, true, false, cond, List, ℕ, suc, ◌+◌, ◌-◌, ◌%◌, ◌<◌, ◌≤◌, eqb, ltb, get_or, set, replicate, Option, Some, None, is_some}
use Rattle.std.proofs.lemmas.List.{get_or-replicate, length-replicate}
use Rattle.std.proofs.Common.{sym, ap, ◌∙◌, subst, inl, inr, ⊎_elim, eq-or-lt_of_le, arith, lt-ltb, le-ltb, eqb-true, ltb-true, ltb-false, length-set, get_or-set_same, get_or-set_other}
use Rattle.std.proofs.lemmas.Bool.{eqb-false}
use Rattle.removal.specs.Chains.{count_of, key_at, bucket, Onward, Chained, ChainedFrom, Filled, after_in, Starts, Found, FoundIf}
use Rattle.removal.specs.Chains.{FindsTo, Ring}

pub same_or : (m n : ℕ) → (m ≡ n) ⊎ (m ≡ n → ⊥)
same_or m n = go (eqb m n) refl
  where
    go : (b : Bool) → eqb m n ≡ b → (m ≡ n) ⊎ (m ≡ n → ⊥)
    go true e = inl (eqb-true m n e)
    go false e = inr (eqb-false m n e)

pub less_or : (m n : ℕ) → (m < n) ⊎ (n ≤ m)
less_or m n = go (ltb m n) refl
  where
    go : (b : Bool) → ltb m n ≡ b → (m < n) ⊎ (n ≤ m)
    go true e = inl (ltb-true m n e)
    go false e = inr (ltb-false m n e)

-- ### Making them

pub filled : (m : ℕ) → Filled m 4096 (replicate 16384 m)
filled m =
    record { size = length-replicate 16384 m; heads = λ k l. get_or-replicate 16384 k m 0 (omega (arith, l)) }

module _ (ws : List ℕ) (c p : ℕ) (ch : List ℕ) (C : ChainedFrom ws c p ch) (pos : 0 < p) where
  -- the pair that is chained now, its bucket, and the chains with it
  abbrev q : ℕ
  q = p - 1

  abbrev b : ℕ
  b = bucket (key_at ws c q)

  abbrev linked : List ℕ
  linked = set ch (4096 + q) (get_or ch b 0)

  abbrev next : List ℕ
  next = set linked b q

  b_low : b < 4096
  b_low = omega arith

  link_at : (k : ℕ) → (k ≡ b → ⊥) → (k ≡ 4096 + q → ⊥) → get_or next k 0 ≡ get_or ch k 0
  link_at k x y = get_or-set_other linked b k q 0 x ∙ get_or-set_other ch (4096 + q) k (get_or ch b 0) 0 y

  own_head : get_or next b 0 ≡ q
  own_head = get_or-set_same linked b q 0 (omega (arith, length-set ch (4096 + q) (get_or ch b 0), C.size, b_low))

  own_link : get_or next (4096 + q) 0 ≡ get_or ch b 0
  own_link =
      get_or-set_other linked b (4096 + q) q 0 (λ e. omega (arith, e, b_low))
      ∙ get_or-set_same ch (4096 + q) (get_or ch b 0) 0 (omega (arith, C.size, C.within, pos))

  on_own : Onward ws c q b q
  on_own =
      record {
        low = omega arith;
        high = omega (arith, C.most);
        passed = λ s x y e. omega (arith, x, y);
        here = λ x y. refl;
      }

  on_other : (k : ℕ) → k < 4096 → (k ≡ b → ⊥) → Onward ws c q k (get_or ch k 0)
  on_other k l ne =
      let O = C.heads k l in
      record {
        low = omega (arith, O.low);
        high = O.high;
        passed = λ s x y e. ⊎_elim
            (λ h. ne (sym e ∙ ap (λ (z : ℕ). bucket (key_at ws c z)) (sym h)))
            (λ h. O.passed s (omega (arith, h, pos)) y e)
            (eq-or-lt_of_le x);
        here = O.here;
      }

  on_link : Onward ws c (suc q) b (get_or ch b 0)
  on_link = subst (λ (x : ℕ). Onward ws c x b (get_or ch b 0)) (let z : p ≡ suc q = omega (arith, pos) in z) (C.heads b b_low)

  pub chained_next : ChainedFrom ws c q next
  chained_next =
      record {
        size = length-set linked b q ∙ length-set ch (4096 + q) (get_or ch b 0) ∙ C.size;
        most = omega (arith, C.most);
        within = omega (arith, C.within);
        heads = λ k l. ⊎_elim
            (λ e. subst (λ (x : ℕ). Onward ws c q x (get_or next x 0)) (sym e) (subst (λ (x : ℕ). Onward ws c q b x) (sym own_head) on_own))
            (λ ne. subst (λ (x : ℕ). Onward ws c q k x) (sym (link_at k ne (λ e. omega (arith, e, l)))) (on_other k l ne))
            (same_or k b);
        links = λ r x y z. ⊎_elim
            (λ e. subst (λ (i : ℕ). Onward ws c (suc i) (bucket (key_at ws c i)) (get_or next (4096 + i) 0)) e
            (subst (λ (i : ℕ). Onward ws c (suc q) b i) (sym own_link) on_link))
            (λ h. subst (λ (i : ℕ). Onward ws c (suc r) (bucket (key_at ws c r)) i)
            (sym (link_at (4096 + r) (λ e. omega (arith, e, b_low)) (λ e. omega (arith, e, h))))
            (C.links r (omega (arith, h, pos)) y z))
            (eq-or-lt_of_le x);
        small = λ k l. ⊎_elim
            (λ e. subst (λ (x : ℕ). get_or next x 0 ≤ 12288) (sym e) (subst (λ (x : ℕ). x ≤ 12288) (sym own_head) (omega (arith, C.within))))
            (λ ne. subst (λ (x : ℕ). x ≤ 12288) (sym (link_at k ne (λ e. omega (arith, e, l)))) (C.small k l))
            (same_or k b);
        links_small = λ r x y z. ⊎_elim
            (λ e. subst (λ (i : ℕ). get_or next (4096 + i) 0 ≤ 12288) e (subst (λ (i : ℕ). i ≤ 12288) (sym own_link) (C.small b b_low)))
            (λ h. subst (λ (i : ℕ). i ≤ 12288)
            (sym (link_at (4096 + r) (λ e. omega (arith, e, b_low)) (λ e. omega (arith, e, h))))
            (C.links_small r (omega (arith, h, pos)) y z))
            (eq-or-lt_of_le x);
      }

-- ### Walking along them

pub finds_start : (ws : List ℕ) (c key from : ℕ) → Starts ws c key from → FindsTo ws c key from from
finds_start ws c key from S = record { low = omega arith; starts = S; passed = λ s x y e. omega (arith, x, y) }

-- where a chain leads
pub after_on : (ws : List ℕ) (c p : ℕ) (ch : List ℕ) → Chained ws c ch → p < count_of ws →
    Onward ws c (suc p) (bucket (key_at ws c p)) (after_in ch p)
unfolding after_in
after_on ws c p ch C lt = ⊎_elim
    (λ h. subst (λ (b : Bool). Onward ws c (suc p) (bucket (key_at ws c p)) (cond b (get_or ch (4096 + p) 0) (p + 1))) (sym (lt-ltb p 12288 h))
    (C.links p lt h))
    (λ h. subst (λ (b : Bool). Onward ws c (suc p) (bucket (key_at ws c p)) (cond b (get_or ch (4096 + p) 0) (p + 1))) (sym (le-ltb p 12288 h))
    (record {
      low = omega arith;
      high = omega (arith, lt);
      passed = λ s x y e. omega (arith, x, y);
      here = λ x y. absurd (omega (arith, y, h));
    }))
    (less_or p 12288)

after_walks : (ch : List ℕ) (q : ℕ) → 12288 ≤ q → after_in ch q ≡ q + 1
unfolding after_in
after_walks ch q h = ap (λ (b : Bool). cond b (get_or ch (4096 + q) 0) (q + 1)) (le-ltb q 12288 h)

-- a pair on the chain of the key, or behind those chained
pub finds_next : (ws : List ℕ) (c key from q : ℕ) (ch : List ℕ) → Chained ws c ch → FindsTo ws c key from q → q < count_of ws →
    (key_at ws c q ≡ key → ⊥) → FindsTo ws c key from (after_in ch q)
finds_next ws c key from q ch C F lt ne = ⊎_elim chained walked (less_or q 12288)
  where
    O : Onward ws c (suc q) (bucket (key_at ws c q)) (after_in ch q)
    O = after_on ws c q ch C lt

    chained : q < 12288 → FindsTo ws c key from (after_in ch q)
    chained h =
        let same : bucket (key_at ws c q) ≡ bucket key = F.starts.here lt h in
        record {
          low = omega (arith, F.low, O.low);
          starts = record { within = O.high; here = λ x y. O.here x y ∙ same };
          passed = λ s x y e. ⊎_elim
              (λ l. F.passed s x l e)
              (λ l. ⊎_elim
              (λ z. ne (ap (key_at ws c) z ∙ e))
              (λ z. O.passed s z y (ap bucket e ∙ sym same))
              (eq-or-lt_of_le l))
              (less_or s q);
        }

    walked : 12288 ≤ q → FindsTo ws c key from (after_in ch q)
    walked h =
        let one : after_in ch q ≡ q + 1 = after_walks ch q h in
        record {
          low = omega (arith, F.low, one);
          starts = record { within = omega (arith, one, lt); here = λ x y. absurd (omega (arith, y, one, h)) };
          passed = λ s x y e. ⊎_elim
              (λ l. F.passed s x l e)
              (λ l. ne (ap (key_at ws c) (let z : q ≡ s = omega (arith, l, y, one) in z) ∙ e))
              (less_or s q);
        }

pub finds_here : (ws : List ℕ) (c key from q : ℕ) → FindsTo ws c key from q → q < count_of ws → key_at ws c q ≡ key → Found ws c key from q
finds_here ws c key from q F lt e =
    record { low = F.low; within = F.starts.within; passed = F.passed; here = λ x. e }

pub finds_none : (ws : List ℕ) (c key from q : ℕ) → FindsTo ws c key from q → count_of ws ≤ q → Found ws c key from q
finds_none ws c key from q F le =
    record { low = F.low; within = F.starts.within; passed = F.passed; here = λ x. absurd (omega (arith, x, le)) }

pub after_more : (ws : List ℕ) (c p : ℕ) (ch : List ℕ) → Chained ws c ch → p < count_of ws → (p < after_in ch p) × (after_in ch p ≤ count_of ws)
after_more ws c p ch C lt = let O = after_on ws c p ch C lt in (O.low, O.high)

pub found_first : (ws : List ℕ) (c key r : ℕ) (ch : List ℕ) → Chained ws c ch → Found ws c key (get_or ch (key % 4096) 0) r →
    Found ws c key 0 r
found_first ws c key r ch C F =
    let O = C.heads (key % 4096) (omega arith) in
    record {
      low = omega arith;
      within = F.within;
      passed = λ s x y e. ⊎_elim
          (λ l. O.passed s (omega arith) l (ap bucket e))
          (λ l. F.passed s l y e)
          (less_or s (get_or ch (key % 4096) 0));
      here = F.here;
    }

-- from behind a pair
pub starts_further : (ws : List ℕ) (c p : ℕ) (ch : List ℕ) → Chained ws c ch → p < count_of ws → Starts ws c (key_at ws c p) (after_in ch p)
starts_further ws c p ch C lt = let O = after_on ws c p ch C lt in record { within = O.high; here = O.here }

pub found-further : (ws : List ℕ) (c p r : ℕ) (ch : List ℕ) → Chained ws c ch → p < count_of ws →
    Found ws c (key_at ws c p) (after_in ch p) r →
    Found ws c (key_at ws c p) (suc p) r
found-further ws c p r ch C lt F =
    let O = after_on ws c p ch C lt in
    record {
      low = omega (arith, O.low, F.low);
      within = F.within;
      passed = λ s x y e. ⊎_elim
          (λ l. O.passed s x l (ap bucket e))
          (λ l. F.passed s l y e)
          (less_or s (after_in ch p));
      here = F.here;
    }

-- ### Rings

pub found_once : (ws : List ℕ) (c key from r r' : ℕ) → Found ws c key from r → Found ws c key from r' → r ≡ r'
found_once ws c key from r r' F G = ⊎_elim
    (λ l. absurd (G.passed r F.low l (F.here (omega (arith, l, G.within)))))
    (λ l. ⊎_elim (λ e. sym e) (λ h. absurd (F.passed r' G.low h (G.here (omega (arith, h, F.within))))) (eq-or-lt_of_le l))
    (less_or r r')

-- .. if there is one
pub found_first_if : (ws : List ℕ) (c key : ℕ) (o : Option ℕ) (ch : List ℕ) → Chained ws c ch →
    FoundIf ws c key (get_or ch (key % 4096) 0) o → FoundIf ws c key 0 o
found_first_if ws c key (Some r) ch C F = (found_first ws c key r ch C F.0, F.1)
found_first_if ws c key None ch C F = found_first ws c key (count_of ws) ch C F

pub found_further_if : (ws : List ℕ) (c p : ℕ) (o : Option ℕ) (ch : List ℕ) → Chained ws c ch → p < count_of ws →
    FoundIf ws c (key_at ws c p) (after_in ch p) o → FoundIf ws c (key_at ws c p) (suc p) o
found_further_if ws c p (Some r) ch C lt F = (found-further ws c p r ch C lt F.0, F.1)
found_further_if ws c p None ch C lt F = found-further ws c p (count_of ws) ch C lt F

-- a pair itself has its key
pub found_some : (ws : List ℕ) (c p : ℕ) (o : Option ℕ) → p < count_of ws → FoundIf ws c (key_at ws c p) 0 o → is_some o ≡ true
found_some ws c p (Some r) lt F = refl
found_some ws c p None lt F = absurd (F.passed p (omega arith) lt refl)

pub ring_next : (ws : List ℕ) (p r : ℕ) → Found ws 1 (key_at ws 1 p) (suc p) r → r < count_of ws → Ring ws p r
ring_next ws p r F lt = record { within = lt; next = r; behind = F; onward = λ x. refl; again = λ x. absurd (omega (arith, x, lt)) }

pub ring_again : (ws : List ℕ) (p r q : ℕ) → p < count_of ws → Found ws 1 (key_at ws 1 p) (suc p) r → count_of ws ≤ r →
    Found ws 1 (key_at ws 1 p) 0 q → Ring ws p q
ring_again ws p r q lt F le G =
    record {
      within = ⊎_elim (λ h. h) (λ h. absurd (G.passed p (omega arith) (omega (arith, lt, h)) refl)) (less_or q (count_of ws));
      next = r;
      behind = F;
      onward = λ x. absurd (omega (arith, x, le));
      again = λ x. G;
    }

pub ring_once : (ws : List ℕ) (p q q' : ℕ) → Ring ws p q → Ring ws p q' → q ≡ q'
ring_once ws p q q' R S =
    let same = found_once ws 1 (key_at ws 1 p) (suc p) R.next S.next R.behind S.behind in
    ⊎_elim
    (λ l. R.onward l ∙ same ∙ sym (S.onward (omega (arith, same, l))))
    (λ l. found_once ws 1 (key_at ws 1 p) 0 q q' (R.again l) (S.again (omega (arith, same, l))))
    (less_or R.next (count_of ws))

pub ring_same : (ws : List ℕ) (p q : ℕ) → Ring ws p q → key_at ws 1 q ≡ key_at ws 1 p
ring_same ws p q R = ⊎_elim
    (λ l. ap (key_at ws 1) (R.onward l) ∙ R.behind.here l)
    (λ l. (R.again l).here R.within)
    (less_or R.next (count_of ws))

-- ### Values

pub after_links : (ch : List ℕ) (p : ℕ) → p < 12288 → get_or ch (4096 + p) 0 ≡ after_in ch p
unfolding after_in
after_links ch p h = sym (ap (λ (b : Bool). cond b (get_or ch (4096 + p) 0) (p + 1)) (lt-ltb p 12288 h))

pub after_walks_on : (ch : List ℕ) (p : ℕ) → 12288 ≤ p → p + 1 ≡ after_in ch p
after_walks_on ch p h = sym (after_walks ch p h)
