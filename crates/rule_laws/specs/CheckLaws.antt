-- Checks that refuse nothing: what an accepted call, and a line or operation that passes 2 to 5, say of each test.
use Rattle.std.proofs.Math.Path.{◌≡◌}
use Rattle.std.specs.Prelude.{refl, Bool, true, not, ◌||◌, List, [], ◌∷◌, map, T, leb, ltb}
use Rattle.std.proofs.Common.{sym, nltb→le, leb→le, ltb→lt}
use Rattle.std.proofs.Math.Bool.{false}
use mathlib.Core.List.Memᴰ
use mathlib.Core.List.{Memᴰ as Mem}
use Rattle.std.proofs.Math.Option.{Option, none, some}
use Prim.Native.Nat.{ℕ, zero, suc, ◌≤◌, ◌<◌}
use native.Mathlib.Omega.{arith}
use Rattle.std.proofs.Math.Dec.{eqb, eqb→eq, eqb_refl, nleb→lt}
use Rattle.std.proofs.Math.ListN.{length}
use Rattle.forms.specs.Lists.{any}
use Rattle.forms.specs.ListLaws.{Nodup, T_false, false_T, any_at, any_of}
use Rattle.forms.specs.Forms.{Update, Change, Answer}
use Rattle.forms.specs.Limits.{update_limit}
use Rattle.forms.specs.declared.Refusal.{Refusal}
use Rattle.forms.specs.declared.Refusal.TheVariants.{WrongCount, NoSuchHistory, HistoryTwice, OperandRange}
use Rattle.rules.specs.Checks.{check, and_then, wrong_count, no_such_history, history_twice, update_misfits, change_misfits, form_refusal}
use Rattle.rules.specs.Checks.{updates_refusal}
use Rattle.rules.specs.Checks.{changes_refusal, passes}
use Rattle.rules.specs.State.{State, Reply, refused, ok}
use Rattle.rules.specs.Calls.{unless}
use Rattle.rules.specs.Checks.{changes_refusal_with}

-- ### Refusals in their order

pub some-not_none : (r : Refusal) → some r ≡ none → ⊥
some-not_none r e = let z : ◌≡◌ {A = ℕ} 0 1 = cc in omega arith

pub refused_not_ok : (r : Refusal) (st : State) (a : Answer) → refused r ≡ ok st a → ⊥
refused_not_ok r st a e = let z : ◌≡◌ {A = ℕ} 0 1 = cc in omega arith

pub check_none : (b : Bool) (r : Refusal) (o : Option Refusal) → check b r o ≡ none → (b ≡ false) × (o ≡ none)
unfolding check
check_none true r o e = absurd (some-not_none r e)
check_none false r o e = (refl, e)

pub none_check : (b : Bool) (r : Refusal) (o : Option Refusal) → b ≡ false → o ≡ none → check b r o ≡ none
unfolding check
none_check true r o e p = absurd (let z : ◌≡◌ {A = ℕ} 0 1 = cc in omega arith)
none_check false r o e p = p

pub and_then_none : (a b : Option Refusal) → and_then a b ≡ none → (a ≡ none) × (b ≡ none)
unfolding and_then
and_then_none (some r) b e = absurd (some-not_none r e)
and_then_none none b e = (refl, e)

pub unless_ok : (o : Option Refusal) (x : Reply) (st : State) (a : Answer) → unless o x ≡ ok st a → (o ≡ none) × (x ≡ ok st a)
unfolding unless
unless_ok (some r) x st a e = absurd (refused_not_ok r st a e)
unless_ok none x st a e = (refl, e)

pub unless_none : (o : Option Refusal) (x : Reply) → o ≡ none → unless o x ≡ x
unfolding unless
unless_none (some r) x e = absurd (some-not_none r e)
unless_none none x e = refl

-- a single check
pub unless-check : (b : Bool) (r : Refusal) (x : Reply) (st : State) (a : Answer) → unless (check b r none) x ≡ ok st a →
    (b ≡ false) × (x ≡ ok st a)
unless-check b r x st a e = let q = unless_ok (check b r none) x st a e in ((check_none b r none q.0).0, q.1)

-- ### Tests that do not hold

pub not-lt : (a b : ℕ) → ltb a b ≡ false → b ≤ a
not-lt a b e = nltb→le a b (rw e tt)

pub not-le : (a b : ℕ) → leb a b ≡ false → b < a
not-le a b e = nleb→lt a b (rw e tt)

pub lt_not_le : (a b : ℕ) → b < a → leb a b ≡ false
lt_not_le a b lt = T_false (leb a b) (λ t. let le = leb→le a b t in omega arith)

pub le_not_lt : (a b : ℕ) → b ≤ a → ltb a b ≡ false
le_not_lt a b le = T_false (ltb a b) (λ t. let lt = ltb→lt a b t in omega arith)

pub or_false_left : (a b : Bool) → (a || b) ≡ false → a ≡ false
or_false_left true b e = e
or_false_left false b e = refl

pub or_false_right : (a b : Bool) → (a || b) ≡ false → b ≡ false
or_false_right true b e = absurd (let z : ◌≡◌ {A = ℕ} 0 1 = cc in omega arith)
or_false_right false b e = e

pub or-false : (a b : Bool) → a ≡ false → b ≡ false → (a || b) ≡ false
or-false true b e p = e
or-false false b e p = p

pub not-false : (b : Bool) → not b ≡ false → b ≡ true
not-false true e = refl
not-false false e = sym e

module _ {A : Type 0} (f : A → Bool) where
  pub any_false_at : (l : List A) → any f l ≡ false → (x : A) → Mem x l → f x ≡ false
  any_false_at l e x m = T_false (f x) (λ t. false_T (any f l) e (any_of f m t))

  pub any_false_of : (l : List A) → ((x : A) → Mem x l → f x ≡ false) → any f l ≡ false
  any_false_of l h = T_false (any f l) (λ t. let q = any_at f l t in false_T (f q.0) (h q.0 q.1) q.2)

-- ### Passing 2 to 5

-- What passing 2 to 5 says, in a site of n histories.
pub record Formed {A : Type 0} (history : A → ℕ) (misfits : A → Bool) (n : ℕ) (xs : List A) : Type 0 where
  -- "1 to 4 updates"
  pub some : 1 ≤ length xs
  pub few : length xs ≤ update_limit
  pub known : (x : A) → Mem x xs → history x < n
  -- "each in another history"
  pub once : Nodup (map history xs)
  pub fit : (x : A) → Mem x xs → misfits x ≡ false

pub twice_once : (hs : List ℕ) → history_twice hs ≡ false → Nodup hs
unfolding history_twice
twice_once [] e = tt
twice_once (h ∷ hs) e = (
  λ m. false_T (any (eqb h) hs) (or_false_left (any (eqb h) hs) (history_twice hs) e) (any_of (eqb h) m (eqb_refl h)),
  twice_once hs (or_false_right (any (eqb h) hs) (history_twice hs) e),
)

pub once_twice : (hs : List ℕ) → Nodup hs → history_twice hs ≡ false
unfolding history_twice
once_twice [] k = refl
once_twice (h ∷ hs) k =
    or-false (any (eqb h) hs) (history_twice hs)
    (T_false (any (eqb h) hs) (λ t. let q = any_at (eqb h) hs t in k.0 (Memᴰ.cast (eqb→eq h q.0 q.2) q.1)))
    (once_twice hs k.1)

module _ {A : Type 0} (history : A → ℕ) (misfits : A → Bool) (n : ℕ) (xs : List A) where
  pub formed_of : form_refusal history misfits n xs ≡ none → Formed history misfits n xs
  unfolding form_refusal wrong_count no_such_history
  formed_of e =
      let a = check_none _ WrongCount _ e in
      let b = check_none _ NoSuchHistory _ a.1 in
      let c = check_none _ HistoryTwice _ b.1 in
      let d = check_none _ OperandRange _ c.1 in
      record {
        some = not_zero (or_false_left (eqb (length xs) 0) (ltb update_limit (length xs)) a.0);
        few = not-lt update_limit (length xs) (or_false_right (eqb (length xs) 0) (ltb update_limit (length xs)) a.0);
        known = λ x m. not-le n (history x) (any_false_at (leb n) (map history xs) b.0 (history x) (Memᴰ.map history m));
        once = twice_once (map history xs) c.0;
        fit = any_false_at misfits xs d.0;
      }
    where
      not_zero : eqb (length xs) 0 ≡ false → 1 ≤ length xs
      not_zero p = go (length xs) p
        where
          go : (k : ℕ) → eqb k 0 ≡ false → 1 ≤ k
          go zero q = absurd (let z : ◌≡◌ {A = ℕ} 0 1 = cc in omega arith)
          go (suc k) q = omega arith

  pub formed_none : Formed history misfits n xs → form_refusal history misfits n xs ≡ none
  unfolding form_refusal wrong_count no_such_history
  formed_none F =
      none_check _ WrongCount _ (or-false (eqb (length xs) 0) (ltb update_limit (length xs)) some
      (le_not_lt update_limit (length xs) F.few))
      (none_check _ NoSuchHistory _ (any_false_of (leb n) (map history xs) (λ h m. known h (Memᴰ.of_map history xs m)))
      (none_check _ HistoryTwice _ (once_twice (map history xs) F.once)
      (none_check _ OperandRange _ (any_false_of misfits xs F.fit) refl)))
    where
      some : eqb (length xs) 0 ≡ false
      some = T_false (eqb (length xs) 0) (λ t. let e = eqb→eq (length xs) 0 t in omega (arith, F.some))

      known : (h : ℕ) → (x : A) × Mem x xs × (history x ≡ h) → leb n h ≡ false
      known h (x, m, e) = lt_not_le n h (rw e at (F.known x m))

-- An operation's updates, and a line's changes.
abbrev pub FormedUpdates : ℕ → List Update → Type 0
FormedUpdates n us = Formed (λ (u : Update). u.history) update_misfits n us

abbrev pub FormedChanges : ℕ → List Change → Type 0
FormedChanges n xs = Formed (λ (x : Change). x.history) change_misfits n xs

pub formed_updates : (n : ℕ) (us : List Update) → updates_refusal n us ≡ none → FormedUpdates n us
unfolding updates_refusal
formed_updates n us e = formed_of (λ (u : Update). u.history) update_misfits n us e

pub formed_changes : (n : ℕ) (xs : List Change) → changes_refusal n xs ≡ none → FormedChanges n xs
unfolding changes_refusal_with
formed_changes n xs e = formed_of (λ (x : Change). x.history) change_misfits n xs e

pub changes_none : (n : ℕ) (xs : List Change) → FormedChanges n xs → changes_refusal n xs ≡ none
unfolding changes_refusal_with
changes_none n xs F = formed_none (λ (x : Change). x.history) change_misfits n xs F

pub passes_none : (o : Option Refusal) → T (passes o) → o ≡ none
passes_none none t = refl
passes_none (some r) t = absurd t
