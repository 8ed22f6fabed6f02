-- Laws of known numbers, and of the numbers named: one line more.
use Rattle.std.specs.Prelude.{◌≡◌, refl, Bool, true, false, not, cond, ◌&&◌, List, [], ◌∷◌, ◌++◌, ℕ, zero, suc, ◌+◌, ◌-◌, ◌*◌, ◌<◌, ◌≤◌, T, leb, eqb, length, get_or, set, take, drop, Ok, Err}
use Rattle.std.proofs.Common.{sym, ap, ◌∙◌, subst, append-nil, append_assoc, arith, lt-ltb, le-ltb, eq-eqb, ne_eqb, eqb-true, not-suc-le-zero, le_of_suc-le-suc, length-append, drop-cons}
use Rattle.std.specs.List.{list_all, count_by}
use Rattle.std.proofs.lemmas.List.{set_at}
use Rattle.std.proofs.lemmas.List.Sums.{count_by_more_no, count_by_more_yes}
use Rattle.std.proofs.lemmas.Bool.{eqb-false}
use Rattle.forms.specs.Lists.{keep}
use Rattle.forms.specs.ListLaws.{keep_append, length-keep, true_T}
use Rattle.forms.specs.declared.Refusal.TheVariants.{NoRoom}
use Rattle.recovery.specs.Removal.{numbers_from, too_long}
use Rattle.recovery.proofs.RemovalLaws.{length-numbers}
use Rattle.removal.specs.Chains.{key_at}
use Rattle.removal.specs.Names.{known, KnownIf, is_marked, names, WritesTo, Writes, Answers, AnswersIf}

-- ### Known

pub known-above : (base done k : ℕ) → base < k → leb k done ≡ known base done k
unfolding known
known-above base done k h = ap (λ (b : Bool). b && leb k done) (sym (lt-ltb base k h))

pub known-below : (base done k : ℕ) → k ≤ base → false ≡ known base done k
unfolding known
known-below base done k h = ap (λ (b : Bool). b && leb k done) (sym (le-ltb base k h))

-- a number that is not known
pub known-not : (base done : ℕ) (ws : List ℕ) (p : ℕ) (r : Bool) → r ≡ known base done (get_or ws (2 * p) 0) → r ≡ false →
    T (known base done (key_at ws 0 p)) → ⊥
known-not base done ws p r e f t =
    let at : 2 * p ≡ 2 * p + 0 = omega arith in
    subst T (sym (sym f ∙ e ∙ ap (λ (i : ℕ). known base done (get_or ws i 0)) at)) t

known_as : (P Q : Type 0) (b : Bool) → KnownIf b P → (P → Q) → (Q → P) → KnownIf b Q
known_as P Q true p f g = f p
known_as P Q false p f g = λ q. p (g q)

-- what a test of every number says
pub known_all : (f : ℕ → Bool) (l : List ℕ) → KnownIf (list_all f l) ((k : ℕ) → k < length l → T (f (get_or l k 0)))
known_all f [] = λ k h. absurd (not-suc-le-zero h)
known_all f (x ∷ l) = go (f x) refl (known_all f l)
  where
    more : f x ≡ true → ((k : ℕ) → k < length l → T (f (get_or l k 0))) → (k : ℕ) → k < suc (length l) → T (f (get_or (x ∷ l) k 0))
    more e h zero lt = true_T (f x) e
    more e h (suc k) lt = h k (le_of_suc-le-suc lt)

    go : (b : Bool) → f x ≡ b → KnownIf (list_all f l) ((k : ℕ) → k < length l → T (f (get_or l k 0)))
        → KnownIf (b && list_all f l) ((k : ℕ) → k < suc (length l) → T (f (get_or (x ∷ l) k 0)))
    go true e rest =
        known_as ((k : ℕ) → k < length l → T (f (get_or l k 0))) ((k : ℕ) → k < suc (length l) → T (f (get_or (x ∷ l) k 0))) (list_all f l)
        rest (more e) (λ h k lt. h (suc k) (omega (arith, lt)))
    go false e rest = λ h. subst T e (h 0 (omega arith))

-- ### Named

numbers_snoc : (N n : ℕ) → numbers_from N (suc n) ≡ numbers_from N n ++ (N + 1 + n) ∷ []
unfolding numbers_from
numbers_snoc N zero = ap (λ (x : ℕ). x ∷ []) (let e : suc N ≡ N + 1 + 0 = omega arith in e)
numbers_snoc N (suc n) =
    ap {B = List ℕ} (λ l. suc N ∷ l) (numbers_snoc (suc N) n
    ∙ ap (λ (x : ℕ). numbers_from (suc N) n ++ x ∷ []) (let e : suc N + 1 + n ≡ N + 1 + suc n = omega arith in e))

names_snoc : (base : ℕ) (gone : List ℕ) (i : ℕ) →
    names base gone (i + 1) ≡ names base gone i ++ keep (is_marked base gone) ((base + 1 + i) ∷ [])
unfolding names
names_snoc base gone i =
    ap (λ (x : ℕ). keep (is_marked base gone) (numbers_from base x)) (let e : i + 1 ≡ suc i = omega arith in e)
    ∙ ap (keep (is_marked base gone)) (numbers_snoc base i)
    ∙ keep_append (is_marked base gone) (numbers_from base i) ((base + 1 + i) ∷ [])

pub names_none : (base : ℕ) (gone : List ℕ) → names base gone 0 ≡ []
unfolding names numbers_from
names_none base gone = refl

mark_at_lem : (base : ℕ) (gone : List ℕ) (i : ℕ) → get_or gone (base + 1 + i - suc base) 0 ≡ get_or gone i 0
mark_at_lem base gone i = ap (λ (x : ℕ). get_or gone x 0) (let e : base + 1 + i - suc base ≡ i = omega arith in e)

-- a line that is marked
pub names_more : (base : ℕ) (gone : List ℕ) (i : ℕ) → (get_or gone i 0 ≡ 0 → ⊥) →
    names base gone (i + 1) ≡ names base gone i ++ (base + 1 + i) ∷ []
unfolding is_marked
names_more base gone i ne =
    names_snoc base gone i
    ∙ ap (λ (b : Bool). names base gone i ++ cond (not b) ((base + 1 + i) ∷ []) [])
    (ne_eqb (get_or gone (base + 1 + i - suc base) 0) 0 (λ e. ne (sym (mark_at_lem base gone i) ∙ e)))

pub names_marked : (base : ℕ) (gone : List ℕ) (i : ℕ) → (get_or gone i 0 ≡ 0 → ⊥) →
    (names base gone (i + 1) ≡ names base gone i ++ (base + 1 + i) ∷ []) × (length (names base gone (i + 1)) ≡ length
    (names base gone i) + 1)
names_marked base gone i ne =
    (names_more base gone i ne, ap length (names_more base gone i ne) ∙ length-append (names base gone i) ((base + 1 + i) ∷ []))

-- a line that is not
pub names-unmarked : (base : ℕ) (gone : List ℕ) (i : ℕ) → get_or gone i 0 ≡ 0 → names base gone (i + 1) ≡ names base gone i
unfolding is_marked
names-unmarked base gone i e =
    names_snoc base gone i
    ∙ ap (λ (b : Bool). names base gone i ++ cond (not b) ((base + 1 + i) ∷ []) [])
    (eq-eqb (get_or gone (base + 1 + i - suc base) 0) 0 (mark_at_lem base gone i ∙ e))
    ∙ append-nil (names base gone i)

-- how many of the first n lines are marked
pub names_count : (base : ℕ) (gone : List ℕ) (n : ℕ) → n ≤ length gone
    → count_by (λ (x : ℕ). not (eqb x 0)) (take n gone) ≡ length (names base gone n)
names_count base gone zero h = sym (ap length (names_none base gone))
names_count base gone (suc n) h = go (eqb (get_or gone n 0) 0) refl (names_count base gone n (omega (arith, h)))
  where
    one : n + 1 ≡ suc n
    one = omega arith

    go : (b : Bool) → eqb (get_or gone n 0) 0 ≡ b
        → count_by (λ (x : ℕ). not (eqb x 0)) (take n gone) ≡ length (names base gone n)
        → count_by (λ (x : ℕ). not (eqb x 0)) (take (suc n) gone) ≡ length (names base gone (suc n))
    go true e before =
        subst (λ (k : ℕ). count_by (λ (x : ℕ). not (eqb x 0)) (take k gone) ≡ length (names base gone k)) one
        (count_by_more_no (λ (x : ℕ). not (eqb x 0)) gone n 0 (omega (arith, h)) (ap not e)
        ∙ before
        ∙ sym (ap length (names-unmarked base gone n (eqb-true (get_or gone n 0) 0 e))))
    go false e before =
        subst (λ (k : ℕ). count_by (λ (x : ℕ). not (eqb x 0)) (take k gone) ≡ length (names base gone k)) one
        (count_by_more_yes (λ (x : ℕ). not (eqb x 0)) gone n 0 (omega (arith, h)) (ap not e)
        ∙ ap (λ (x : ℕ). x + 1) before
        ∙ sym (names_marked base gone n (eqb-false (get_or gone n 0) 0 e)).1)

pub names_few : (base : ℕ) (gone : List ℕ) (i : ℕ) → length (names base gone i) ≤ i
unfolding names
names_few base gone i = omega (arith, length-keep (is_marked base gone) (numbers_from base i), length-numbers base i)

-- fewer lines have no more numbers
pub names-grow : (base : ℕ) (gone : List ℕ) (i d : ℕ) → length (names base gone i) ≤ length (names base gone (i + d))
names-grow base gone i zero = omega (arith, ap (λ (x : ℕ). length (names base gone x)) (let e : i + 0 ≡ i = omega arith in e))
names-grow base gone i (suc d) =
    let h = names-grow base gone i d in
    let e = ap (λ (x : ℕ). length (names base gone x)) (let e : i + d + 1 ≡ i + suc d = omega arith in e) in
    let s = ap length (names_snoc base gone (i + d))
    ∙ length-append (names base gone (i + d)) (keep (is_marked base gone) ((base + 1 + (i + d)) ∷ [])) in
    omega (arith, h, e, s)

-- ### Written

pub writes_none : (base : ℕ) (gone old : List ℕ) → WritesTo base gone 0 0 old old
writes_none base gone old =
    record {
      position = sym (ap length (names_none base gone));
      numbers = ap (λ (l : List ℕ). l ++ old) (sym (names_none base gone));
    }

-- a line that is not marked
pub writes_skip : (base : ℕ) (gone : List ℕ) (i at : ℕ) (old new : List ℕ) → WritesTo base gone i at old new → get_or gone i 0 ≡ 0 →
    WritesTo base gone (i + 1) at old new
writes_skip base gone i at old new W e =
    let same = names-unmarked base gone i e in
    record {
      position = W.position ∙ ap length (sym same);
      numbers = W.numbers ∙ ap (λ (l : List ℕ). l ++ drop at old) (sym same);
    }

-- a line that is
pub writes_next : (base : ℕ) (gone : List ℕ) (i at : ℕ) (old new : List ℕ) → WritesTo base gone i at old new → (get_or gone i 0 ≡ 0 → ⊥) →
    at < length old → WritesTo base gone (i + 1) (at + 1) old (set new at (base + 1 + i))
writes_next base gone i at old new W ne lt =
    let more = names_marked base gone i ne in
    record {
      position = ap (λ (x : ℕ). x + 1) W.position ∙ sym more.1;
      numbers =
          ap (λ (l : List ℕ). set l at (base + 1 + i))
          (W.numbers ∙ ap (λ (l : List ℕ). names base gone i ++ l) (drop-cons old at 0 lt))
          ∙ set_at (names base gone i) (get_or old at 0) (drop (suc at) old) (base + 1 + i) at (sym W.position)
          ∙ ap (λ (x : ℕ). names base gone i ++ (base + 1 + i) ∷ drop x old) (let e : suc at ≡ at + 1 = omega arith in e)
          ∙ sym (append_assoc (names base gone i) ((base + 1 + i) ∷ []) (drop (at + 1) old))
          ∙ ap (λ (l : List ℕ). l ++ drop (at + 1) old) (sym more.0);
    }

-- there is room for it
pub writes_room : (base : ℕ) (gone : List ℕ) (i n at room : ℕ) → at ≡ length (names base gone i) → i < n → (get_or gone i 0 ≡ 0 → ⊥) →
    length (names base gone n) ≤ room → at < room
writes_room base gone i n at room e lt ne le =
    let m = (names_marked base gone i ne).1 in
    let g = names-grow base gone (i + 1) (n - (i + 1)) in
    let s = ap (λ (x : ℕ). length (names base gone x)) (let z : i + 1 + (n - (i + 1)) ≡ n = omega (arith, lt) in z) in
    omega (arith, e, m, g, s, le)

-- ### The answer

pub answers-nothing : (l old : List ℕ) → length old < length l → Answers l old (Err NoRoom) old
unfolding too_long
answers-nothing l old h =
    subst (λ (b : Bool). AnswersIf b l old (Err NoRoom) old) (sym (lt-ltb (length old) (length l) h))
    (record { answer = refl; same = refl })

pub answers-names : (l old new : List ℕ) (k : ℕ) → length l ≤ length old → k ≡ length l → Writes l old new → Answers l old (Ok k) new
unfolding too_long
answers-names l old new k h e W =
    subst (λ (b : Bool). AnswersIf b l old (Ok k) new) (sym (le-ltb (length old) (length l) h))
    (record { answer = ap Ok e; numbers = W })

-- ### What a test says

pub known_yes : (P : Type 0) (b : Bool) → KnownIf b P → b ≡ true → P
known_yes P true k e = k
known_yes P false k e = absurd (subst T (sym e) tt)

pub known_no : (P : Type 0) (b : Bool) → KnownIf b P → b ≡ false → P → ⊥
known_no P true k e p = subst T e tt
known_no P false k e p = k p
