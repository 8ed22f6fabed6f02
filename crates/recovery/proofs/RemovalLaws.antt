-- The computed list is the least set, rising: each round adds a line or changes nothing, and there are as many rounds as lines.
use Rattle.std.specs.Prelude.{◌≡◌, ◌⊎◌, Bool, true, false, not, cond, ◌&&◌, ◌||◌, eqb, leb, ltb}
use Rattle.std.proofs.Math.Path.{refl, subst}
use Rattle.std.proofs.Common.{sym, ap, ◌∙◌, eq-or-lt_of_le, arith, eqb→eq, leb→le, le→leb, ltb→lt, lt→ltb, leb-true, leb-false, eq-eqb}
use Rattle.std.proofs.Math.Logic.{inl, inr, ⊎_elim}
use mathlib.Core.List.{List, [], ◌∷◌}
use mathlib.Core.List.Memᴰ
use mathlib.Core.List.Memᴰ.{head as here}
use mathlib.Core.List.Memᴰ.{tail as there}
use mathlib.Core.List.{Memᴰ as Mem}
use Prim.Native.Nat.{ℕ, zero, suc, ◌+◌, ◌<◌, ◌≤◌}
use Rattle.std.proofs.Math.Dec.{T, eqb_refl}
use Rattle.std.proofs.lemmas.Bool.{not-false}
use Rattle.std.proofs.Math.ListN.{length}
use Rattle.forms.specs.Forms.{Did}
use Rattle.forms.specs.Lists.{any, keep}
use Rattle.forms.specs.ListLaws.{T_false, true_T, and_intro, and_left, and_right, or_left, or_right, or_cases}
use Rattle.forms.specs.ListLaws.{any_at, any_of, mem-keep, mem_of_keep, length-keep}
use Rattle.recovery.specs.Removal.{numbers_from, is_line, Pair, by_history, by_transaction, Removed, itself, later, together, takes}
use Rattle.recovery.specs.Removal.{is_among, grow, rounds, removal, not_among}

-- ### Numbers

pub mem-numbers : (N n k : ℕ) → N < k → k ≤ N + n → Mem k (numbers_from N n)
unfolding numbers_from
mem-numbers N zero k a b = absurd (omega arith)
mem-numbers N (suc n) k a b = ⊎_elim (λ h. here (sym h)) (λ h. there (mem-numbers (suc N) n k h (omega arith))) (eq-or-lt_of_le a)

pub numbers-at : (N n k : ℕ) → Mem k (numbers_from N n) → (N < k) × (k ≤ N + n)
unfolding numbers_from
numbers-at N zero k m = absurd (Memᴰ.not-nil m)
numbers-at N (suc n) k m = go (Memᴰ.cases_cons m) (λ h. numbers-at (suc N) n k h)
  where
    go : (k ≡ suc N) ⊎ Mem k (numbers_from (suc N) n) → (Mem k (numbers_from (suc N) n) → (suc N < k) × (k ≤ suc N + n)) →
        (N < k) × (k ≤ N + suc n)
    go (inl e) below = (omega arith, omega arith)
    go (inr h) below = let q = below h in (omega (arith, q.0), omega (arith, q.1))

pub length-numbers : (N n : ℕ) → length (numbers_from N n) ≡ n
unfolding numbers_from
length-numbers N zero = refl
length-numbers N (suc n) = ap suc (length-numbers (suc N) n)

pub line_of : (N : ℕ) (log : List Did) (k : ℕ) → N < k → k ≤ N + length log → T (is_line N log k)
unfolding is_line
line_of N log k a b = and_intro (ltb N k) (leb k (N + length log)) (lt→ltb N k a) (le→leb k (N + length log) b)

pub line_at_lem : (N : ℕ) (log : List Did) (k : ℕ) → T (is_line N log k) → (N < k) × (k ≤ N + length log)
unfolding is_line
line_at_lem N log k t =
    (ltb→lt N k (and_left (ltb N k) (leb k (N + length log)) t), leb→le k (N + length log) (and_right (ltb N k) (leb k (N + length log)) t))

pub among_of : {m : ℕ} {ks : List ℕ} → Mem m ks → T (is_among m ks)
among_of {m} h = any_of (eqb m) h (eqb_refl m)

pub among_at : (m : ℕ) (ks : List ℕ) → T (is_among m ks) → Mem m ks
among_at m ks t = let q = any_at (eqb m) ks t in subst (λ (x : ℕ). Mem x ks) (sym (eqb→eq m q.0 q.2)) q.1

-- ### Lists of the elements that pass a test

module _ {A : Type 0} (f g : A → Bool) where
  pub keep-alike : (l : List A) → ((x : A) → Mem x l → (T (f x) → T (g x)) × (T (g x) → T (f x))) → keep f l ≡ keep g l
  keep-alike [] h = refl
  keep-alike (x ∷ l) h = go (f x) (g x) (h x (here refl)) (keep-alike l (λ y m. h y (there m)))
    where
      go : (a b : Bool) → (T a → T b) × (T b → T a) → keep f l ≡ keep g l →
          cond a (x ∷ keep f l) (keep f l) ≡ cond b (x ∷ keep g l) (keep g l)
      go true true q e = ap {B = List A} (λ k. x ∷ k) e
      go true false q e = absurd (q.0 tt)
      go false true q e = absurd (q.1 tt)
      go false false q e = e

  -- a wider test keeps no fewer
  keep-more : (l : List A) → ((x : A) → Mem x l → T (f x) → T (g x)) → length (keep f l) ≤ length (keep g l)
  keep-more [] h = omega arith
  keep-more (x ∷ l) h = go (f x) (g x) (h x (here refl)) (keep-more l (λ y m. h y (there m)))
    where
      go : (a b : Bool) → (T a → T b) → length (keep f l) ≤ length (keep g l)
          → length (cond a (x ∷ keep f l) (keep f l)) ≤ length (cond b (x ∷ keep g l) (keep g l))
      go true true q e = omega arith
      go true false q e = absurd (q tt)
      go false true q e = omega arith
      go false false q e = e

  -- .. and where it keeps as many, the same
  keep_same : (l : List A) → ((x : A) → Mem x l → T (f x) → T (g x)) → length (keep g l) ≤ length (keep f l) →
      (x : A) → Mem x l → T (g x) → T (f x)
  keep_same [] h n x m t = absurd (Memᴰ.not-nil m)
  keep_same (y ∷ l) h n x m t =
      go (f y) refl (g y) refl (Memᴰ.cases_cons m) n (keep-more l (λ z k. h z (there k)))
      (λ n' k. keep_same l (λ z i. h z (there i)) n' x k t)
    where
      go : (a : Bool) → f y ≡ a → (b : Bool) → g y ≡ b → (x ≡ y) ⊎ Mem x l
          → length (cond b (y ∷ keep g l) (keep g l)) ≤ length (cond a (y ∷ keep f l) (keep f l))
          → length (keep f l) ≤ length (keep g l) → (length (keep g l) ≤ length (keep f l) → Mem x l → T (f x)) → T (f x)
      go true ea b eb (inl e) n' le below = subst (λ (z : A). T (f z)) (sym e) (true_T (f y) ea)
      go false ea true eb (inl e) n' le below = absurd (omega arith)
      go false ea false eb (inl e) n' le below = absurd (subst T eb (subst (λ (z : A). T (g z)) e t))
      go true ea true eb (inr k) n' le below = below (omega arith) k
      go true ea false eb (inr k) n' le below = absurd (subst T eb (h y (here refl) (true_T (f y) ea)))
      go false ea true eb (inr k) n' le below = absurd (omega arith)
      go false ea false eb (inr k) n' le below = below n' k

-- less, or not
split : (m n : ℕ) → (m ≤ n) ⊎ (n < m)
split m n = go (leb m n) refl
  where
    go : (b : Bool) → leb m n ≡ b → (m ≤ n) ⊎ (n < m)
    go true e = inl (leb-true m n e)
    go false e = inr (leb-false m n e)

-- ### The rounds

-- the numbers of all pairs and of all lines lost are those of lines
pub record Named (N : ℕ) (log : List Did) (ps : List Pair) (lost : List ℕ) : Type 0 where
  pub pairs : (p : Pair) → Mem p ps → T (is_line N log p.line)
  pub lines : (k : ℕ) → Mem k lost → T (is_line N log k)

pub named_of_lem : (N : ℕ) (log : List Did) (ps : List Pair) (lost : List ℕ) → not_among N log ps lost ≡ false → Named N log ps lost
unfolding not_among
named_of_lem N log ps lost e =
    record {
      pairs = λ p m. true_T (is_line N log p.line) (not-false (is_line N log p.line) (T_false (not (is_line N log p.line))
          (λ t. subst T e (or_left (any (λ p. not (is_line N log p.line)) ps) (any (λ k. not (is_line N log k)) lost)
          (any_of (λ (p : Pair). not (is_line N log p.line)) m t)))));
      lines = λ k m. true_T (is_line N log k) (not-false (is_line N log k) (T_false (not (is_line N log k))
          (λ t. subst T e (or_right (any (λ p. not (is_line N log p.line)) ps) (any (λ k. not (is_line N log k)) lost)
          (any_of (λ (k : ℕ). not (is_line N log k)) m t)))));
    }

-- a pair of k and a pair of m in one transaction
pub record Together (ps : List Pair) (k m : ℕ) : Type 0 where
  pub its : Pair
  pub other : Pair
  pub its_there : Mem its ps
  pub other-there : Mem other ps
  pub its_line : its.line ≡ k
  pub other-line : other.line ≡ m
  pub same : other.transaction ≡ its.transaction

pub together_at : (ps : List Pair) (k m : ℕ) → T (by_transaction ps k m) → Together ps k m
unfolding by_transaction
together_at ps k m t =
    let p = any_at _ ps t in
    let a = eqb p.0.line k in
    let inner = any (λ (q : Pair). eqb q.line m && eqb q.transaction p.0.transaction) ps in
    let q = any_at (λ (q : Pair). eqb q.line m && eqb q.transaction p.0.transaction) ps (and_right a inner p.2) in
    let b = eqb q.0.line m in
    let c = eqb q.0.transaction p.0.transaction in
    record {
      its = p.0;
      other = q.0;
      its_there = p.1;
      other-there = q.1;
      its_line = eqb→eq p.0.line k (and_left a inner p.2);
      other-line = eqb→eq q.0.line m (and_left b c q.2);
      same = eqb→eq q.0.transaction p.0.transaction (and_right b c q.2);
    }

pub together_of : (ps : List Pair) (k m : ℕ) → Together ps k m → T (by_transaction ps k m)
unfolding by_transaction
together_of ps k m s =
    any_of (λ (p : Pair). eqb p.line k && any (λ (q : Pair). eqb q.line m && eqb q.transaction p.transaction) ps) s.its_there
    (and_intro (eqb s.its.line k) (any (λ (q : Pair). eqb q.line m && eqb q.transaction s.its.transaction) ps)
    (true_T (eqb s.its.line k) (eq-eqb s.its.line k s.its_line))
    (any_of (λ (q : Pair). eqb q.line m && eqb q.transaction s.its.transaction) s.other-there
    (and_intro (eqb s.other.line m) (eqb s.other.transaction s.its.transaction)
    (true_T (eqb s.other.line m) (eq-eqb s.other.line m s.other-line))
    (true_T (eqb s.other.transaction s.its.transaction) (eq-eqb s.other.transaction s.its.transaction s.same)))))

module _ (N : ℕ) (log : List Did) (ps : List Pair) where
  abbrev pub numbers : List ℕ
  numbers = numbers_from N (length log)

  -- the test of a round
  abbrev grown : List ℕ → ℕ → Bool
  grown ks m = is_among m ks || any (λ k. takes N log ps k m) ks

  -- a set of lines that takes no other line with it
  abbrev ClosedIn : List ℕ → Type 0
  ClosedIn ks = (k m : ℕ) → Mem k ks → T (takes N log ps k m) → T (is_line N log m) → Mem m ks

  mem-line : (m : ℕ) → T (is_line N log m) → Mem m numbers
  mem-line m t = let q = line_at_lem N log m t in mem-numbers N (length log) m q.0 q.1

  -- what a round keeps and adds
  grow_keeps : (ks : List ℕ) (m : ℕ) → T (is_line N log m) → Mem m ks → Mem m (grow N log ps ks)
  unfolding grow
  grow_keeps ks m t h = mem-keep (grown ks) (mem-line m t) (or_left (is_among m ks) (any (λ k. takes N log ps k m) ks) (among_of h))

  record Taker (ks : List ℕ) (m : ℕ) : Type 0 where
    by : ℕ
    there : Mem by ks
    takes_it : T (takes N log ps by m)

  grow-at : (ks : List ℕ) (m : ℕ) → Mem m (grow N log ps ks) → Mem m ks ⊎ Taker ks m
  unfolding grow
  grow-at ks m h =
      ⊎_elim (λ t. inl (among_at m ks t))
      (λ t. let q = any_at (λ k. takes N log ps k m) ks t in inr (record { by = q.0; there = q.1; takes_it = q.2 }))
      (or_cases (is_among m ks) (any (λ k. takes N log ps k m) ks) (mem_of_keep (grown ks) numbers h).1)

  grow-line : (ks : List ℕ) (m : ℕ) → Mem m (grow N log ps ks) → T (is_line N log m)
  unfolding grow
  grow-line ks m h =
      let q = numbers-at N (length log) m (mem_of_keep (grown ks) numbers h).0 in line_of N log m q.0 q.1

  grow-closed : (ks : List ℕ) → ClosedIn ks → ClosedIn (grow N log ps ks)
  grow-closed ks c k m h t l =
      grow_keeps ks m l
      (c k m (⊎_elim (λ x. x) (λ b. c b.by k b.there b.takes_it (grow-line ks k h)) (grow-at ks k h)) t l)

  rounds-stay : (f : ℕ) (ks : List ℕ) → ClosedIn ks → ClosedIn (rounds f N log ps ks)
  unfolding rounds
  rounds-stay zero ks c = c
  rounds-stay (suc f) ks c = rounds-stay f (grow N log ps ks) (grow-closed ks c)

  -- lines that pass a test
  pub record Sifted (ks : List ℕ) : Type 0 where
    pub test : ℕ → Bool
    pub same : ks ≡ keep test numbers

  sifted_grow : (ks : List ℕ) → Sifted (grow N log ps ks)
  unfolding grow
  sifted_grow ks = record { test = grown ks; same = refl }

  -- a round that adds none leaves a closed set
  still_closed : (ks : List ℕ) → Sifted ks → length (grow N log ps ks) ≤ length ks → ClosedIn ks
  unfolding grow
  still_closed ks S le k m h t l =
      let le' : length (keep (grown ks) numbers) ≤ length (keep S.test numbers) =
      subst (λ (x : List ℕ). length (keep (grown ks) numbers) ≤ length x) S.same le in
      let wider : (x : ℕ) → Mem x numbers → T (S.test x) → T (grown ks x) =
      λ x i u. or_left (is_among x ks) (any (λ k. takes N log ps k x) ks)
      (among_of (subst (λ (y : List ℕ). Mem x y) (sym S.same) (mem-keep S.test i u))) in
      subst (λ (y : List ℕ). Mem m y) (sym S.same)
      (mem-keep S.test (mem-line m l)
      (keep_same S.test (grown ks) numbers wider le' m (mem-line m l)
      (or_right (is_among m ks) (any (λ k. takes N log ps k m) ks) (any_of (λ k. takes N log ps k m) h t))))

  full-closed : (ks : List ℕ) → Sifted ks → length numbers ≤ length ks → ClosedIn ks
  unfolding grow
  full-closed ks S le = still_closed ks S (omega (arith, length-keep (grown ks) numbers))

  rounds-closed : (f : ℕ) (ks : List ℕ) → Sifted ks → length numbers ≤ f + length ks → ClosedIn (rounds f N log ps ks)
  unfolding rounds
  rounds-closed zero ks S le = full-closed ks S (omega arith)
  rounds-closed (suc f) ks S le = ⊎_elim
      (λ h. rounds-stay f (grow N log ps ks) (grow-closed ks (still_closed ks S h)))
      (λ h. rounds-closed f (grow N log ps ks) (sifted_grow ks) (omega arith))
      (split (length (grow N log ps ks)) (length ks))

  rounds-keep : (f : ℕ) (ks : List ℕ) (m : ℕ) → T (is_line N log m) → Mem m ks → Mem m (rounds f N log ps ks)
  unfolding rounds
  rounds-keep zero ks m l h = h
  rounds-keep (suc f) ks m l h = rounds-keep f (grow N log ps ks) m l (grow_keeps ks m l h)

  rounds_sifted : (f : ℕ) (ks : List ℕ) → Sifted ks → Sifted (rounds f N log ps ks)
  unfolding rounds
  rounds_sifted zero ks S = S
  rounds_sifted (suc f) ks S = rounds_sifted f (grow N log ps ks) (sifted_grow ks)

  numbers-length : length numbers ≡ length log
  numbers-length = length-numbers N (length log)

  module _ (lost : List ℕ) (known : Named N log ps lost) where
    abbrev Out : ℕ → Type 0
    Out = Removed N log ps lost

    taken : {k m : ℕ} → Out k → T (takes N log ps k m) → Out m
    unfolding takes
    taken {k} {m} r t = ⊎_elim (λ h. later r h) (λ h. together r h) (or_cases (by_history N log k m) (by_transaction ps k m) t)

    -- what is removed is a line
    pub removed_line : (k : ℕ) → Out k → T (is_line N log k)
    unfolding by_history
    removed_line k (itself m) = known.lines k m
    removed_line k (later {k = j} r t) = and_right (ltb j k) (is_line N log k) (and_left (ltb j k && is_line N log k) _ t)
    removed_line k (together {k = j} r t) =
        let s = together_at ps j k t in subst (λ (x : ℕ). T (is_line N log x)) s.other-line (known.pairs s.other s.other-there)

    rounds_sound : (f : ℕ) (ks : List ℕ) → ((k : ℕ) → Mem k ks → Out k) → (k : ℕ) → Mem k (rounds f N log ps ks) → Out k
    unfolding rounds
    rounds_sound zero ks s = s
    rounds_sound (suc f) ks s =
        rounds_sound f (grow N log ps ks) (λ k h. ⊎_elim (λ x. s k x) (λ b. taken (s b.by b.there) b.takes_it) (grow-at ks k h))

    abbrev begun : List ℕ
    begun = keep (λ m. is_among m lost) numbers

    begun_sifted : Sifted begun
    begun_sifted = record { test = λ m. is_among m lost; same = refl }

    removal_sifted : Sifted (removal N log ps lost)
    unfolding removal
    removal_sifted = rounds_sifted (length log) begun begun_sifted

    pub removal-numbers : Sifted (removal N log ps lost)
    removal-numbers = removal_sifted

    removal-closed : ClosedIn (removal N log ps lost)
    unfolding removal
    removal-closed = rounds-closed (length log) begun begun_sifted (omega (arith, numbers-length))

    pub removal_sound : (k : ℕ) → Mem k (removal N log ps lost) → Out k
    unfolding removal
    removal_sound =
        rounds_sound (length log) begun (λ k h. itself (among_at k lost (mem_of_keep (λ m. is_among m lost) numbers h).1))

    removal-lost : (k : ℕ) → Mem k lost → Mem k (removal N log ps lost)
    unfolding removal
    removal-lost k m =
        rounds-keep (length log) begun k (known.lines k m) (mem-keep (λ m. is_among m lost) (mem-line k (known.lines k m)) (among_of m))

    pub removal-whole : (k : ℕ) → Out k → Mem k (removal N log ps lost)
    unfolding takes
    removal-whole k (itself m) = removal-lost k m
    removal-whole k (later {k = j} r t) =
        removal-closed j k (removal-whole j r) (or_left (by_history N log j k) (by_transaction ps j k) t) (removed_line k (later r t))
    removal-whole k (together {k = j} r t) =
        removal-closed j k (removal-whole j r) (or_right (by_history N log j k) (by_transaction ps j k) t) (removed_line k (together r t))

    -- lines that pass a test exactly if they are removed are the answer
    pub sifted_removal : (f : ℕ → Bool) → ((k : ℕ) → T (is_line N log k) → (T (f k) → Out k) × (Out k → T (f k))) →
        keep f numbers ≡ removal N log ps lost
    sifted_removal f h =
        keep-alike f removal_sifted.test numbers
        (λ k m. let q = numbers-at N (length log) k m in let l = line_of N log k q.0 q.1 in (
          (λ t. (mem_of_keep removal_sifted.test numbers
              (subst (λ (y : List ℕ). Mem k y) removal_sifted.same (removal-whole k ((h k l).0 t)))).1),
          (λ t. (h k l).1 (removal_sound k (subst (λ (y : List ℕ). Mem k y) (sym removal_sifted.same) (mem-keep
              removal_sifted.test m t)))),
        ))
        ∙ sym removal_sifted.same
