-- What is asked of the calls behind the picked cut as a computed test.
use Rattle.std.specs.Prelude.{◌≡◌, refl, ◌⊎◌, Bool, true, false, ◌&&◌, ◌||◌, ℕ, leb, length, take, drop}
use Rattle.std.proofs.Common.{sym, ap, ◌∙◌, subst, inl, inr, T_not, leb→le, take-append-drop}
use Rattle.std.proofs.Math.Bool.{not}
use mathlib.Core.List.{List, [], ◌∷◌, ◌++◌, append_assoc}
use mathlib.Core.List.Memᴰ
use mathlib.Core.List.{Memᴰ as Mem}
use Rattle.std.proofs.Math.Dec.{T}
use Rattle.std.proofs.lemmas.List.{take-append-le}
use Rattle.forms.specs.Lists.{all, any}
use Rattle.forms.specs.ListLaws.{mem_along, and_left, and_right, or_cases, all-at, any_at}
use Rattle.forms.specs.Forms.{Did, Line, did_text, Answer}
use Rattle.rules.specs.State.{State, Reply, refused, ok, settle, lines_in}
use Rattle.rules.specs.Calls.{Call, Add, Finish, Withdraw, Persistent, Stable, Show, Cut, Changeover, Redo, End, step}
use Rattle.rules.specs.Keeper.{same_bytes}
use Rattle.rules.proofs.Examples.{same_bytes_lem}
use Rattle.rule_laws.specs.Good.{Good}
use Rattle.rules.specs.Run.{run}
use Rattle.rule_laws.specs.GoodLaws.{good-run}
use Rattle.recovery.specs.Claim.{counted_after, counted, Fair, Comes, came, Asked}
use Rattle.recovery.proofs.Cuts.{cutting}
use Rattle.recovery.proofs.Recovery.{run-append}

counted-append : (xs ys : List Call) (m : ℕ) (st : State) → counted m (xs ++ ys) st ≡ counted (counted m xs st) ys (run xs st)
unfolding counted run
counted-append [] ys m st = refl
counted-append (c ∷ xs) ys m st = counted-append xs ys (counted_after c (step c st) m) (settle (step c st) st)

-- An accepted cut is fair if it keeps as many lines as are counted persistent, in a buffer that is no shorter.
pub fair_of : (m k room : ℕ) (before after : State) (answer : Answer) → Good before → step (Cut k room) before ≡ ok after answer →
    T (leb m (length (lines_in after)) && leb before.room room) → Fair m k room before after
fair_of m k room before after answer G e t =
    record {
      answer = answer;
      accepted = e;
      keeps = λ l q. front (lines_in after) (mem_along first q);
      no_shorter = leb→le before.room room (and_right (leb m (length (lines_in after))) (leb before.room room) t);
    }
  where
    first : take m (lines_in before) ≡ take m (lines_in after)
    first =
        let C = cutting k room before after answer G e in
        ap (take m) C.lines.1
        ∙ take-append-le m (lines_in after) C.lines.0
        (leb→le m (length (lines_in after)) (and_left (leb m (length (lines_in after))) (leb before.room room) t))

    front : {l : Line} (ls : List Line) → Mem l (take m ls) → Mem l ls
    front ls q = mem_along (take-append-drop m ls) (Memᴰ.append_left (drop m ls) q)

module _ (lost : List Did) (chosen : Did → Bool) where
  -- the line's bytes are those of a chosen lost line
  unfoldable pub brings_chosen : List ℕ → Bool
  brings_chosen line = any (λ d. chosen d && same_bytes line (did_text d)) lost

  -- What is asked of an accepted call that takes the site from st to after, m lines counted persistent before it.
  abbrev pub may_be_accepted : ℕ → State → Call → State → Bool
  may_be_accepted m st (Add i us) after = true
  may_be_accepted m st (Finish i) after = true
  may_be_accepted m st (Withdraw i) after = true
  may_be_accepted m st (Persistent n) after = true
  may_be_accepted m st (Stable n) after = true
  may_be_accepted m st (Show h) after = true
  may_be_accepted m st (Cut k room) after = leb m (length (lines_in after)) && leb st.room room
  may_be_accepted m st (Changeover n room) after = false
  may_be_accepted m st (Redo line) after = brings_chosen line
  may_be_accepted m st End after = false

  abbrev pub fine : ℕ → State → Call → Reply → Bool
  fine m st c (refused r) = true
  fine m st c (ok after answer) = may_be_accepted m st c after

  -- Each call of a list is fine.
  unfoldable pub all_fine : ℕ → State → List Call → Bool
  all_fine m st [] = true
  all_fine m st (c ∷ cs) = fine m st c (step c st) && all_fine (counted_after c (step c st) m) (settle (step c st) st) cs

  -- Each chosen line is among those that came.
  unfoldable pub all_come : List (List ℕ) → Bool
  all_come lines = all (λ d. not (chosen d) || any (same_bytes (did_text d)) lines) lost

  fine-at : (a : List Call) (c : Call) (b : List Call) (m : ℕ) (st : State) → T (all_fine m st (a ++ c ∷ b)) →
      T (fine (counted m a st) (run a st) c (step c (run a st)))
  unfolding all_fine counted run
  fine-at [] c b m st t = and_left (fine m st c (step c st)) _ t
  fine-at (x ∷ a) c b m st t =
      fine-at a c b (counted_after x (step x st) m) (settle (step x st) st) (and_right (fine m st x (step x st)) _ t)

  brings_is : (line : List ℕ) → T (brings_chosen line) → (d : Did) × Mem d lost × T (chosen d) × (line ≡ did_text d)
  unfolding brings_chosen
  brings_is line t = go (any_at (λ d. chosen d && same_bytes line (did_text d)) lost t)
    where
      go : (d : Did) × Mem d lost × T (chosen d && same_bytes line (did_text d)) → (d : Did) × Mem d lost × T (chosen d) × (line ≡ did_text d)
      go (d, k, s) = (d, k, and_left (chosen d) _ s, same_bytes_lem line (did_text d) (and_right (chosen d) _ s))

  come_is : (lines : List (List ℕ)) → T (all_come lines) → (d : Did) → Mem d lost → T (chosen d) → Comes lines d
  unfolding all_come
  come_is lines t d k c = go (or_cases (not (chosen d)) _ (all-at (λ e. not (chosen e) || any (same_bytes (did_text e)) lines) lost t d k))
    where
      found : (l : List ℕ) × Mem l lines × T (same_bytes (did_text d) l) → Comes lines d
      found (l, m, s) = Memᴰ.cast (same_bytes_lem (did_text d) l s) m

      go : T (not (chosen d)) ⊎ T (any (same_bytes (did_text d)) lines) → Comes lines d
      go (inl s) = absurd (T_not (chosen d) s c)
      go (inr s) = found (any_at (same_bytes (did_text d)) lines s)

  module _ (m : ℕ) (s : State) (start : Good s) (xs : List Call) (k room : ℕ) (ys : List Call) where
    -- A call behind the picked cut that is accepted may be.
    may_be : T (all_fine (counted m (xs ++ Cut k room ∷ []) s) (run (xs ++ Cut k room ∷ []) s) ys) →
        (a : List Call) (c : Call) (b : List Call) → ys ≡ a ++ c ∷ b →
        (after : State) (answer : Answer) → step c (run (xs ++ Cut k room ∷ a) s) ≡ ok after answer →
        T (may_be_accepted (counted m (xs ++ Cut k room ∷ a) s) (run (xs ++ Cut k room ∷ a) s) c after)
    may_be t a c b e after answer q =
        subst (λ (x : Reply). T (fine (counted m (xs ++ Cut k room ∷ a) s) (run (xs ++ Cut k room ∷ a) s) c x)) q
        (subst (λ (l : List Call). T (fine (counted m l s) (run l s) c (step c (run l s)))) (append_assoc xs (Cut k room ∷ []) a)
        (subst (λ (i : ℕ). T (fine i (run (first ++ a) s) c (step c (run (first ++ a) s)))) (sym (counted-append first a m s))
        (subst (λ (z : State). T (fine (counted (counted m first s) a (run first s)) z c (step c z))) (sym (run-append first a s))
        (fine-at a c b (counted m first s) (run first s)
        (subst (λ (l : List Call). T (all_fine (counted m first s) (run first s) l)) e t)))))
      where
        first : List Call
        first = xs ++ Cut k room ∷ []

    -- The test says what is asked.
    pub asked_of : T (all_fine (counted m (xs ++ Cut k room ∷ []) s) (run (xs ++ Cut k room ∷ []) s) ys) →
        T (all_come (came (xs ++ Cut k room ∷ ys) s)) → Asked m s (λ a. xs ++ Cut k room ∷ a) ys lost chosen
    asked_of t u =
        record {
          cuts =
              λ a j r b after answer e q. fair_of _ j r _ after answer (good-run (xs ++ Cut k room ∷ a) s start) q
              (may_be t a (Cut j r) b e after answer q);
          redos = λ a line b after answer e q. brings_is line (may_be t a (Redo line) b e after answer q);
          changeovers = λ a n r b after answer e q. may_be t a (Changeover n r) b e after answer q;
          ends = λ a b after answer e q. may_be t a End b e after answer q;
          all = come_is (came (xs ++ Cut k room ∷ ys) s) u;
        }
