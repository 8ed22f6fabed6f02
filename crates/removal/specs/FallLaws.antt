-- Laws of the marks: they only grow, what is newly marked is closed, and the number of lines not yet removed falls.
use Rattle.std.specs.Prelude.{◌≡◌, refl, ◌⊎◌, List, [], ◌∷◌, ℕ, zero, suc, ◌+◌, ◌-◌, ◌*◌, ◌<◌, ◌≤◌, length, get_or, set, replicate, Option, Some, None}
use Rattle.std.proofs.Common.{sym, ap, ◌∙◌, subst, ⊎_elim, le_refl, le_trans, le_of_suc-le-suc, not-suc-le-zero, eq-or-lt_of_le, arith, length-set, get_or-set_same, get_or-set_other}
use Rattle.std.proofs.Math.Nat.{suc-le-suc_iff, le-suc}
use Rattle.std.proofs.lemmas.List.{length-replicate}
use Rattle.forms.specs.Limits.{history_limit, update_limit}
use Rattle.removal.specs.Chains.{count_of, key_at, Found, FoundIf, Ring}
use Rattle.removal.specs.ChainLaws.{same_or, less_or, found_once, ring_once}
use Rattle.removal.specs.Fall.{Net, lines_in, line_in, Takes, onward, around, Reach, here, on, Fallen, itself, taken, Gone, left}
use Rattle.removal.specs.Fall.{Fit, LaterAt, PairsBefore, Fell, FellLine, FellPairs, Marked, SlotsTo, PairsTo, MarksTo}

-- zero or not
zero_or : (n : ℕ) → (n ≡ 0) ⊎ (n ≡ 0 → ⊥)
zero_or n = same_or n 0

-- ### The number of lines not yet removed

left_grows : (old new : List ℕ) → length new ≡ length old → ((k : ℕ) → Gone old k → Gone new k) → left new ≤ left old
unfolding left
left_grows [] [] e h = le_refl 0
left_grows [] (y ∷ n) e h = absurd (omega arith)
left_grows (x ∷ o) [] e h = absurd (omega arith)
left_grows (zero ∷ o) (zero ∷ n) e h = suc-le-suc_iff.1 (left_grows o n (omega arith) (λ k. h (suc k)))
left_grows (zero ∷ o) (suc y ∷ n) e h = le_trans (left_grows o n (omega arith) (λ k. h (suc k))) (le-suc (left o))
left_grows (suc x ∷ o) (zero ∷ n) e h = absurd (h 0 (λ z. omega arith) refl)
left_grows (suc x ∷ o) (suc y ∷ n) e h = left_grows o n (omega arith) (λ k. h (suc k))

-- a new mark
left-set : (m : List ℕ) (i : ℕ) → i < length m → get_or m i 0 ≡ 0 → suc (left (set m i 1)) ≡ left m
unfolding left
left-set [] i lt e = absurd (not-suc-le-zero lt)
left-set (zero ∷ m) zero lt e = refl
left-set (suc x ∷ m) zero lt e = absurd (omega arith)
left-set (zero ∷ m) (suc i) lt e = ap suc (left-set m i (le_of_suc-le-suc lt) e)
left-set (suc x ∷ m) (suc i) lt e = left-set m i (le_of_suc-le-suc lt) e

-- ### What falls

reach_on : {g : Net} {i k j : ℕ} → Takes g i k → Reach g k j → Reach g i j
reach_on t here = on here t
reach_on t (on r u) = on (reach_on t r) u

-- nothing done
fell_none : (g : Net) (i : ℕ) (m : List ℕ) → Fell g i m m
fell_none g i m =
    record { size = refl; grows = λ k h. h; closed = λ k j h z t. absurd (h z); from = λ k h z. absurd (h z) }

-- one after the other
fell_then : (g : Net) (i : ℕ) (old mid new : List ℕ) → Fell g i old mid → Fell g i mid new → Fell g i old new
fell_then g i old mid new a b =
    record {
      size = b.size ∙ a.size;
      grows = λ k h. b.grows k (a.grows k h);
      closed = λ k j h z t. ⊎_elim (λ y. b.closed k j h y t) (λ n. b.grows j (a.closed k j n z t)) (zero_or (get_or mid k 0));
      from = λ k h z. ⊎_elim (λ y. b.from k h y) (λ n. a.from k n z) (zero_or (get_or mid k 0));
    }

-- a line that i takes with it
fell_taken : (g : Net) (i j : ℕ) (old new : List ℕ) → Takes g i j → Fell g j old new → Fell g i old new
fell_taken g i j old new t a =
    record { size = a.size; grows = a.grows; closed = a.closed; from = λ k h z. reach_on t (a.from k h z) }

pub fell_left : (g : Net) (i : ℕ) (old new : List ℕ) → Fell g i old new → left new ≤ left old
fell_left g i old new a = left_grows old new a.size a.grows

-- i itself, marked first, and then all that it takes
fell_line : (g : Net) (i : ℕ) (old new : List ℕ) → i < length old → get_or old i 0 ≡ 0 → Fell g i (set old i 1) new →
    ((j : ℕ) → Takes g i j → Gone new j) → FellLine g i old new
fell_line g i old new lt z a all = record { fell = whole; itself = mine }
  where
    at : get_or (set old i 1) i 0 ≡ 1
    at = get_or-set_same old i 1 0 lt

    mine : Gone new i
    mine = a.grows i (λ e. let q : ◌≡◌ {A = ℕ} 1 0 = sym at ∙ e in omega (arith, q))

    old-at : (k : ℕ) → (k ≡ i → ⊥) → get_or (set old i 1) k 0 ≡ get_or old k 0
    old-at k ne = get_or-set_other old i k 1 0 ne

    whole : Fell g i old new
    whole =
        record {
          size = a.size ∙ length-set old i 1;
          grows = λ k h. ⊎_elim (λ e. absurd (h (ap (λ (n : ℕ). get_or old n 0) e ∙ z)))
              (λ ne. a.grows k (λ y. h (sym (old-at k ne) ∙ y))) (same_or k i);
          closed = λ k j h y t. ⊎_elim (λ e. all j (subst (λ (n : ℕ). Takes g n j) e t))
              (λ ne. a.closed k j h (old-at k ne ∙ y) t) (same_or k i);
          from = λ k h y. ⊎_elim (λ e. subst (λ (n : ℕ). Reach g i n) (sym e) here)
              (λ ne. a.from k h (old-at k ne ∙ y)) (same_or k i);
        }

pub fit_on : (g : Net) (i : ℕ) (a b c old new : List ℕ) → Fit g a b c old → Fell g i old new → Fit g a b c new
fit_on g i a b c old new f d =
    record {
      placed = f.placed;
      histories = f.histories;
      lines = f.lines;
      transactions = f.transactions;
      size = d.size ∙ f.size;
    }

pub fit-set : (g : Net) (i : ℕ) (a b c old : List ℕ) → Fit g a b c old → Fit g a b c (set old i 1)
fit-set g i a b c old f =
    record {
      placed = f.placed;
      histories = f.histories;
      lines = f.lines;
      transactions = f.transactions;
      size = length-set old i 1 ∙ f.size;
    }

-- a line has a mark
pub has-mark : (g : Net) (i : ℕ) (a b c gone : List ℕ) → Fit g a b c gone → i < lines_in g.slots → i < length gone
has-mark g i a b c gone f lt = omega (arith, f.size, f.placed.most, lt)

-- ### The slots of a line

pub slots_none : (g : Net) (i : ℕ) (m : List ℕ) → SlotsTo g i m m 0
slots_none g i m =
    record { fell = fell_none g i m; within = omega arith; all = λ p q a b. absurd (omega (arith, a, b)) }

module _ (g : Net) (i : ℕ) (old mid : List ℕ) (u q : ℕ) (S : SlotsTo g i old mid u) (lt : u < update_limit) (L : LaterAt g.slots
    (4 * i + u) q) where
  -- the slots before this one, or this
  last_or : (p : ℕ) → p < 4 * i + (u + 1) → (p ≡ 4 * i + u) ⊎ (p < 4 * i + u)
  last_or p l = eq-or-lt_of_le (omega arith)

  -- no later line has its history
  pub slots_skip : count_of g.slots ≤ q → SlotsTo g i old mid (u + 1)
  slots_skip le =
      record {
        fell = S.fell;
        within = omega arith;
        all = λ p r a b h F z. ⊎_elim
            (λ e. absurd (none p r e h F z))
            (λ l. S.all p r a l h F z)
            (last_or p b);
      }
    where
      none : (p r : ℕ) → p ≡ 4 * i + u → key_at g.slots 1 p < history_limit → Found g.slots 1 (key_at g.slots 1 p) (suc p) r →
          r < count_of g.slots → ⊥
      none p r e h F z =
          let G : Found g.slots 1 (key_at g.slots 1 p) (suc p) q =
          subst (λ (x : ℕ). Found g.slots 1 (key_at g.slots 1 x) (suc x) q) (sym e)
          (L.found (subst (λ (x : ℕ). key_at g.slots 1 x < history_limit) e h)) in
          omega (arith, found_once g.slots 1 (key_at g.slots 1 p) (suc p) r q F G, z, le)

  taken_next : q < count_of g.slots → Takes g i (line_in g.base g.slots q)
  taken_next l = onward (4 * i + u) q (omega arith) (omega arith) (L.held l) (L.found (L.held l)) l refl

  -- the next line with its history has fallen
  pub slots_next : (new : List ℕ) (j : ℕ) → j ≡ line_in g.base g.slots q → q < count_of g.slots → FellLine g j mid new →
      SlotsTo g i old new (u + 1)
  slots_next new j same l fallen =
      let D : FellLine g (line_in g.base g.slots q) mid new = subst (λ (x : ℕ). FellLine g x mid new) same fallen in
      record {
        fell = fell_then g i old mid new S.fell (fell_taken g i (line_in g.base g.slots q) mid new (taken_next l) D.fell);
        within = omega arith;
        all = λ p r a b h F z. ⊎_elim
            (λ e. subst (λ (x : ℕ). Gone new (line_in g.base g.slots x)) (sym (once p r e h F)) D.itself)
            (λ k. D.fell.grows (line_in g.base g.slots r) (S.all p r a k h F z))
            (last_or p b);
      }
    where
      once : (p r : ℕ) → p ≡ 4 * i + u → key_at g.slots 1 p < history_limit → Found g.slots 1 (key_at g.slots 1 p) (suc p) r → r ≡ q
      once p r e h F =
          found_once g.slots 1 (key_at g.slots 1 p) (suc p) r q F
          (subst (λ (x : ℕ). Found g.slots 1 (key_at g.slots 1 x) (suc x) q) (sym e)
          (L.found (subst (λ (x : ℕ). key_at g.slots 1 x < history_limit) e h)))

-- ### The pairs of a line

-- the next line q of the transaction of pair p has fallen
pub pairs_next : (g : Net) (i : ℕ) (old mid new : List ℕ) (p q r j : ℕ) → PairsTo g i old mid p → p < count_of g.pairs →
    Ring g.pairs p q → j ≡ line_in g.base g.pairs q → FellLine g j mid new →
    Found g.pairs 0 (key_at g.pairs 0 p) (suc p) r → PairsTo g i old new r
pairs_next g i old mid new p q r j S lt R same fallen F =
    let e : key_at g.pairs 0 p ≡ g.base + 1 + i = S.here lt in
    let D : FellLine g (line_in g.base g.pairs q) mid new = subst (λ (x : ℕ). FellLine g x mid new) same fallen in
    record {
      fell = fell_then g i old mid new S.fell
          (fell_taken g i (line_in g.base g.pairs q) mid new (around p q lt e R refl) D.fell);
      within = F.within;
      here = λ l. F.here l ∙ e;
      all = λ s x l h Z. ⊎_elim
          (λ k. D.fell.grows (line_in g.base g.pairs x) (S.all s x k h Z))
          (λ k. ⊎_elim
          (λ z. subst (λ (y : ℕ). Gone new (line_in g.base g.pairs y))
          (ring_once g.pairs p q x R (subst (λ (y : ℕ). Ring g.pairs y x) (sym z) Z)) D.itself)
          (λ z. absurd (F.passed s z l (h ∙ sym e)))
          (eq-or-lt_of_le k))
          (less_or s p);
    }

pub pairs_step : (g : Net) (i : ℕ) (old mid new : List ℕ) (p q j : ℕ) → PairsTo g i old mid p → p < count_of g.pairs →
    Ring g.pairs p q → j ≡ line_in g.base g.pairs q → FellLine g j mid new → (o : Option ℕ) →
    FoundIf g.pairs 0 (key_at g.pairs 0 p) (suc p) o → PairsBefore g i old new o
pairs_step g i old mid new p q j S lt R same fallen (Some r) F = (pairs_next g i old mid new p q r j S lt R same fallen F.0, F.1)
pairs_step g i old mid new p q j S lt R same fallen None F = pairs_next g i old mid new p q (count_of g.pairs) j S lt R same fallen F

-- ### A line

pub line-done : (g : Net) (i : ℕ) (old mid new : List ℕ) (u : ℕ) → i < length old → get_or old i 0 ≡ 0 →
    SlotsTo g i (set old i 1) mid u → update_limit ≤ u → FellPairs g i mid new → FellLine g i old new
line-done g i old mid new u lt z S su P =
    fell_line g i old new lt z (fell_then g i (set old i 1) mid new S.fell P.fell) all
  where
    all : (j : ℕ) → Takes g i j → Gone new j
    all j (onward r q a b h F l e) =
        subst (λ (x : ℕ). Gone new x) e
        (P.fell.grows (line_in g.base g.slots q) (S.all r q a (omega (arith, b, su)) h F l))
    all j (around r q l h R e) = subst (λ (x : ℕ). Gone new x) e (P.next r q l h R)

-- ### The number falls

-- by_history has 2 for each line not yet removed, by_transaction one more
pub less_line : (g : Net) (i : ℕ) (m new : List ℕ) (t : ℕ) → i < length m → get_or m i 0 ≡ 0 → 2 * left m ≡ t → Fell g i (set m i 1) new →
    2 * left new + 1 < t
less_line g i m new t lt z e a =
    let h : suc (left (set m i 1)) ≡ left m = left-set m i lt z in
    let k : left new ≤ left (set m i 1) = fell_left g i (set m i 1) new a in
    omega (arith, h, k, e)

-- ### The lines lost

reach_fallen : {g : Net} {lost : List ℕ} {i k : ℕ} → Fallen g lost i → Reach g i k → Fallen g lost k
reach_fallen r here = r
reach_fallen r (on h t) = taken (reach_fallen r h) t

pub marks_none : (g : Net) (lost m : List ℕ) → m ≡ replicate 2978 0 → MarksTo g lost m 0
marks_none g lost m e =
    record {
      size = ap length e ∙ length-replicate {A = ℕ} 2978 0;
      within = omega arith;
      sound = λ k h. absurd (h (clear k));
      closed = λ k j h t. absurd (h (clear k));
      all = λ p l. absurd (not-suc-le-zero l);
    }
  where
    past : (n k : ℕ) → ◌≡◌ {A = ℕ} (get_or (replicate n 0) k 0) 0
    past zero k = refl
    past (suc n) zero = refl
    past (suc n) (suc k) = past n k

    clear : (k : ℕ) → get_or m k 0 ≡ 0
    clear k = ap (λ (l : List ℕ). get_or l k 0) e ∙ past 2978 k

pub marks_next : (g : Net) (lost mid new : List ℕ) (n : ℕ) → MarksTo g lost mid n → n < length lost →
    FellLine g (get_or lost n 0 - g.base - 1) mid new → MarksTo g lost new (n + 1)
marks_next g lost mid new n a lt b =
    record {
      size = b.fell.size ∙ a.size;
      within = omega arith;
      sound = λ k h. ⊎_elim (λ z. reach_fallen (itself n lt) (b.fell.from k h z)) (λ o. a.sound k o) (zero_or (get_or mid k 0));
      closed = λ k j h t. ⊎_elim (λ z. b.fell.closed k j h z t) (λ o. b.fell.grows j (a.closed k j o t)) (zero_or (get_or mid k 0));
      all = λ p h. ⊎_elim
          (λ l. b.fell.grows (get_or lost p 0 - g.base - 1) (a.all p l))
          (λ l. subst (λ (q : ℕ). Gone new (get_or lost q 0 - g.base - 1)) (let e : n ≡ p = omega (arith, h, l) in e) b.itself)
          (less_or p n);
    }

pub marks_done : (g : Net) (lost new : List ℕ) (n : ℕ) → MarksTo g lost new n → length lost ≤ n → Marked g lost new
marks_done g lost new n a end = record { size = a.size; sound = a.sound; whole = whole }
  where
    whole : (k : ℕ) → Fallen g lost k → Gone new k
    whole k (itself p l) = a.all p (omega (arith, l, end))
    whole k (taken {k = m} r t) = a.closed m k (whole m r) t
