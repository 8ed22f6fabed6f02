-- What the report promises (02 (a)): the list that it names is the least set that has the lost lines and, with each line, all that it takes
-- with it; it rises; and what is left is a log again, each history with its places from the first on.
use Rattle.std.specs.Prelude.{◌≡◌, refl, ◌↔◌, Bool, cond, ◌&&◌, ℕ, zero, suc, ◌+◌, ◌-◌, ◌<◌, ltb, get_or}
use Rattle.std.proofs.Common.{sym, ◌∙◌, arith, lt→ltb}
use Rattle.std.proofs.Math.Path.{ap, subst}
use Rattle.std.proofs.Math.Logic.{⊎_elim}
use Rattle.std.proofs.Math.Bool.{true, false}
use mathlib.Core.List.{List, [], ◌∷◌, ◌++◌, append_assoc, head-eq_of_cons-eq, tail-eq_of_cons-eq}
use mathlib.Core.List.Memᴰ.{head as here}
use mathlib.Core.List.Memᴰ.{tail as there}
use mathlib.Core.List.{Memᴰ as Mem}
use mathlib.Core.List.Memᴰ
use Rattle.std.proofs.Math.Dec.{T}
use Rattle.std.proofs.Math.ListN.{length, length-append}
use Rattle.std.proofs.lemmas.List.{get_or_at}
use Rattle.forms.specs.Forms.{Base, Change, Did}
use Rattle.forms.specs.Lists.{keep}
use Rattle.forms.specs.ListLaws.{true_T, and_intro, all-at, all_of, mem_of_keep}
use Rattle.forms.specs.Read.{no_did}
use Rattle.rules.specs.Book.{Cell, start_cell, cell_from, cell_from_with, cell, cell_with, touches, runs_at, can_run_with}
use Rattle.rule_laws.specs.BookLaws.{EachOnce, proj, place_is, runs-place, enter_all_untouched, touches_of}
use Rattle.rule_laws.specs.Good.{Ran}
use Rattle.recovery.specs.Claim.{shares}
use Rattle.recovery.proofs.Ending.{shares_of}
use Rattle.recovery.specs.Removal.{numbers_from, is_line, line_at, Pair, by_history, by_transaction, Removed, itself, later, together}
use Rattle.recovery.specs.Removal.{is_among, removal, not_among}
use Rattle.recovery.proofs.RemovalLaws.{Named, named_of_lem, numbers-at, line_of, removal_sound, removal-whole, removal-numbers}
use Rattle.recovery.proofs.RemovalLaws.{among_of, among_at}

-- ### The least set, rising

-- each number is below those behind it
abbrev pub Rising : List ℕ → Type 0
Rising [] = Unit {0}
Rising (k ∷ ks) = ((m : ℕ) → Mem m ks → k < m) × Rising ks

numbers_rise : (N n : ℕ) → Rising (numbers_from N n)
unfolding numbers_from
numbers_rise N zero = tt
numbers_rise N (suc n) = ((λ m h. (numbers-at (suc N) n m h).0), numbers_rise (suc N) n)

keep-rises : (f : ℕ → Bool) (ks : List ℕ) → Rising ks → Rising (keep f ks)
keep-rises f [] r = tt
keep-rises f (k ∷ ks) r = go (f k) (keep-rises f ks r.1)
  where
    go : (b : Bool) → Rising (keep f ks) → Rising (cond b (k ∷ keep f ks) (keep f ks))
    go true q = ((λ m h. r.0 m (mem_of_keep f ks h).0), q)
    go false q = q

module _ (N : ℕ) (log : List Did) (ps : List Pair) (lost : List ℕ) (known : not_among N log ps lost ≡ false) where
  abbrev answer : List ℕ
  answer = removal N log ps lost

  all_known : Named N log ps lost
  all_known = named_of_lem N log ps lost known

  -- a line is named exactly if it is removed
  pub removal_exact : (k : ℕ) → Mem k answer ↔ Removed N log ps lost k
  removal_exact k = (removal_sound N log ps lost all_known k, removal-whole N log ps lost all_known k)

  -- "A lost line is itself removed."
  pub removal-has-lost : (k : ℕ) → Mem k lost → Mem k answer
  removal-has-lost k m = removal-whole N log ps lost all_known k (itself m)

  -- "Each removed line takes with it every later line with an update in a shared history"
  pub removal-has-later : (k m : ℕ) → Mem k answer → T (by_history N log k m) → Mem m answer
  removal-has-later k m h t = removal-whole N log ps lost all_known m (later (removal_sound N log ps lost all_known k h) t)

  -- "A removed line removes all lines of its transactions, and these remove in their turn."
  pub removal-has_together : (k m : ℕ) → Mem k answer → T (by_transaction ps k m) → Mem m answer
  removal-has_together k m h t = removal-whole N log ps lost all_known m (together (removal_sound N log ps lost all_known k h) t)

  -- "the least such set": every set with these three has all of it
  pub removal-least : (P : ℕ → Type 0) → ((k : ℕ) → Mem k lost → P k) → ((k m : ℕ) → P k → T (by_history N log k m) → P m) →
      ((k m : ℕ) → P k → T (by_transaction ps k m) → P m) → (k : ℕ) → Mem k answer → P k
  removal-least P a b c k h = go k (removal_sound N log ps lost all_known k h)
    where
      go : (k : ℕ) → Removed N log ps lost k → P k
      go k (itself m) = a k m
      go k (later {k = j} r t) = b j k (go j r) t
      go k (together {k = j} r t) = c j k (go j r) t

  -- "rising"
  pub removal-rises : Rising answer
  removal-rises =
      let S = removal-numbers N log ps lost all_known in
      subst Rising (sym S.same) (keep-rises S.test (numbers_from N (length log)) (numbers_rise N (length log)))

-- ### What is left

-- the lines behind N operations whose numbers are not among some
unfoldable pub left_of : ℕ → List Did → List ℕ → List Did
left_of N [] ks = []
left_of N (d ∷ ds) ks = cond (is_among (suc N) ks) (left_of (suc N) ds ks) (d ∷ left_of (suc N) ds ks)

-- a history that none of those left out has is as if all were there
left-cell : (h N : ℕ) (c : Cell) (log : List Did) (ks : List ℕ) →
    ((a : List Did) (d : Did) (b : List Did) → log ≡ a ++ d ∷ b → T (touches h d) → T (is_among (N + 1 + length a) ks) → ⊥) →
    cell_from h c (left_of N log ks) ≡ cell_from h c log
unfolding left_of cell_from_with
left-cell h N c [] ks f = refl
left-cell h N c (d ∷ ds) ks f = go (is_among (suc N) ks) refl (touches h d) refl
    (λ c'. left-cell h (suc N) c' ds ks (λ a e b q t m. f (d ∷ a) e b (ap {B = List Did} (λ l. d ∷ l) q) t
    (subst (λ (x : ℕ). T (is_among x ks)) (let z : suc N + 1 + length a ≡ N + 1 + suc (length a) = omega arith in z) m)))
  where
    go : (x : Bool) → is_among (suc N) ks ≡ x → (y : Bool) → touches h d ≡ y →
        ((c' : Cell) → cell_from h c' (left_of (suc N) ds ks) ≡ cell_from h c' ds) →
        cell_from h c (cond x (left_of (suc N) ds ks) (d ∷ left_of (suc N) ds ks)) ≡ cell_from h c (d ∷ ds)
    go false ex y ey below = below _
    go true ex true ey below =
        absurd (f [] d ds refl (true_T (touches h d) ey)
        (subst (λ (x : ℕ). T (is_among x ks)) (let z : suc N ≡ N + 1 + 0 = omega arith in z) (true_T (is_among (suc N) ks) ex)))
    go true ex false ey below =
        below c ∙ ap (λ (c' : Cell). cell_from h c' ds) (sym (enter_all_untouched h d c (λ t. subst T ey t)))

-- where a line that is left stands
record Stood (N : ℕ) (log : List Did) (ks : List ℕ) (a : List Did) (d : Did) : Type 0 where
  before : List Did
  behind : List Did
  split : log ≡ before ++ d ∷ behind
  same : a ≡ left_of N before ks
  stays : T (is_among (N + 1 + length before) ks) → ⊥

left_stood : (N : ℕ) (log : List Did) (ks : List ℕ) (a : List Did) (d : Did) (b : List Did) → left_of N log ks ≡ a ++ d ∷ b →
    Stood N log ks a d
unfolding left_of
left_stood N [] ks [] d b e = absurd (let z : ◌≡◌ {A = ℕ} 0 1 = cc in omega arith)
left_stood N [] ks (x ∷ a) d b e = absurd (let z : ◌≡◌ {A = ℕ} 0 1 = cc in omega arith)
left_stood N (x ∷ log) ks a d b e =
    go (is_among (suc N) ks) refl a e (λ a' q. left_stood (suc N) log ks a' d b q)
  where
    later-number : (n : ℕ) → suc N + 1 + n ≡ N + 1 + suc n
    later-number n = omega arith

    go : (t : Bool) → is_among (suc N) ks ≡ t → (a : List Did) → cond t (left_of (suc N) log ks) (x ∷ left_of (suc N) log ks) ≡ a ++ d ∷ b →
        ((a' : List Did) → left_of (suc N) log ks ≡ a' ++ d ∷ b → Stood (suc N) log ks a' d) → Stood N (x ∷ log) ks a d
    go true et a q below =
        let S = below a q in
        record {
          before = x ∷ S.before;
          behind = S.behind;
          split = ap {B = List Did} (λ l. x ∷ l) S.split;
          same = S.same ∙ sym (ap (λ (t : Bool). cond t (left_of (suc N) S.before ks) (x ∷ left_of (suc N) S.before ks)) et);
          stays = λ t. S.stays (subst (λ (n : ℕ). T (is_among n ks)) (sym (later-number (length S.before))) t);
        }
    go false et [] q below =
        record {
          before = [];
          behind = log;
          split = ap (λ (y : Did). y ∷ log) (head-eq_of_cons-eq q);
          same = refl;
          stays = λ t. subst T et (subst (λ (n : ℕ). T (is_among n ks)) (let z : N + 1 + 0 ≡ suc N = omega arith in z) t);
        }
    go false et (y ∷ a') q below =
        let S = below a' (tail-eq_of_cons-eq q) in
        record {
          before = x ∷ S.before;
          behind = S.behind;
          split = ap {B = List Did} (λ l. x ∷ l) S.split;
          same =
              ap (λ (z : Did). z ∷ a') (sym (head-eq_of_cons-eq q)) ∙ ap {B = List Did} (λ l. x ∷ l) S.same
              ∙ sym (ap (λ (t : Bool). cond t (left_of (suc N) S.before ks) (x ∷ left_of (suc N) S.before ks)) et);
          stays = λ t. S.stays (subst (λ (n : ℕ). T (is_among n ks)) (sym (later-number (length S.before))) t);
        }

line-here : (N : ℕ) (log a : List Did) (d : Did) (b : List Did) → log ≡ a ++ d ∷ b → line_at N log (N + 1 + length a) ≡ d
unfolding line_at
line-here N log a d b e =
    ap (λ (l : List Did). get_or l (N + 1 + length a - suc N) no_did) e
    ∙ get_or_at a d b no_did (N + 1 + length a - suc N) (let z : length a ≡ N + 1 + length a - suc N = omega arith in z)

module _ (σ : Base) (log : List Did) (ks : List ℕ)
    (closed : (k m : ℕ) → Mem k ks → T (by_history σ.up_to log k m) → Mem m ks) where
  abbrev N : ℕ
  N = σ.up_to

  -- a line that is left has no history of one before it that is not
  unshared : (x : List Did) (e : Did) (y : List Did) (d : Did) (b : List Did) (h : ℕ) → log ≡ (x ++ e ∷ y) ++ d ∷ b → T (touches h e) →
      T (touches h d) → T (is_among (N + 1 + length x) ks) → T (is_among (N + 1 + length (x ++ e ∷ y)) ks)
  unfolding by_history
  unshared x e y d b h split te td among =
      let k = N + 1 + length x in
      let m = N + 1 + length (x ++ e ∷ y) in
      let long = length-append x (e ∷ y) in
      let all-long = ap length split ∙ length-append (x ++ e ∷ y) (d ∷ b) in
      let first : line_at N log (N + 1 + length x) ≡ e = line-here N log x e (y ++ d ∷ b) (split ∙ append_assoc x (e ∷ y) (d ∷ b)) in
      let second : line_at N log (N + 1 + length (x ++ e ∷ y)) ≡ d = line-here N log (x ++ e ∷ y) d b split in
      among_of (closed k m (among_at k ks among)
      (and_intro (ltb k m && is_line N log m) (shares (line_at N log k) (line_at N log m))
      (and_intro (ltb k m) (is_line N log m) (lt→ltb k m (omega (arith, long))) (line_of N log m (omega arith) (omega (arith, all-long))))
      (subst (λ (z : Did). T (shares z (line_at N log m))) (sym first)
      (subst (λ (z : Did). T (shares e z)) (sym second) (shares_of h e d td te)))))

  -- "since redo goes by places": each line that is left can run behind those left before it
  pub left-runs : Ran σ log → Ran σ (left_of N log ks)
  unfolding can_run_with cell_with
  left-runs ran a d b e =
      let S = left_stood N log ks a d b e in
      all_of (λ (x : Change). runs_at (cell σ x.history a) x) d.changes (λ x m.
      subst (λ (c : Cell). T (runs_at c x))
      (sym (ap (cell σ x.history) S.same
      ∙ left-cell x.history N (start_cell σ x.history) S.before ks (λ x₁ f y q t among.
      S.stays (subst (λ (l : List Did). T (is_among (N + 1 + length l) ks)) (sym q)
      (unshared x₁ f y d S.behind x.history (S.split ∙ ap (λ (l : List Did). l ++ d ∷ S.behind) q) t (touches_of d m) among)))))
      (all-at (λ (x : Change). runs_at (cell σ x.history S.before) x) d.changes (ran S.before d S.behind S.split) x m))

  left-mem : (M : ℕ) (l : List Did) (d : Did) → Mem d (left_of M l ks) → Mem d l
  unfolding left_of
  left-mem M [] d m = m
  left-mem M (x ∷ l) d m = go (is_among (suc M) ks) m (λ q. left-mem (suc M) l d q)
    where
      go : (t : Bool) → Mem d (cond t (left_of (suc M) l ks) (x ∷ left_of (suc M) l ks)) → (Mem d (left_of (suc M) l ks) → Mem d l) →
          Mem d (x ∷ l)
      go true q below = there (below q)
      go false q below = ⊎_elim (λ z. here z) (λ z. there (below z)) (Memᴰ.cases_cons q)

  -- What is left has in each history the places from the first on: an update of history h in a line that is left has the place behind the
  -- start by as many as there are lines of h left up to it.
  pub left-places : Ran σ log → EachOnce log → (a : List Did) (d : Did) (b : List Did) → left_of N log ks ≡ a ++ d ∷ b →
      (x : Change) → Mem x d.changes → x.place ≡ (start_cell σ x.history).place + length (proj x.history a) + 1
  unfolding can_run_with
  left-places ran once a d b e x m =
      let p = runs-place (cell σ x.history a) x
      (all-at (λ (y : Change). runs_at (cell σ y.history a) y) d.changes (left-runs ran a d b e) x m) in
      let q = place_is σ x.history a (λ f w. once f (left-mem N log f (subst (λ (l : List Did). Mem f l) (sym e) (Memᴰ.append_left
      (d ∷ b) w)))) in
      omega (arith, p, q)
