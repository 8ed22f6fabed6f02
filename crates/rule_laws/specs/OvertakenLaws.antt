-- Overtaken operations: who holds a never, that add brings none in, and that dropping before the tries comes to the same.
use Rattle.std.specs.Prelude.{◌≡◌, ◌⊎◌, Bool, ◌&&◌, ◌||◌, leb, ltb}
use Rattle.std.proofs.Math.Path.{refl, sym, ap, subst}
use Rattle.std.proofs.Common.{◌∙◌, inl, inr, T_not}
use Rattle.std.proofs.Math.Bool.{true, false, cond, not}
use mathlib.Core.List.{List, [], ◌∷◌, ◌++◌, map, map-append, append-nil, append_assoc}
use mathlib.Core.List.{Memᴰ as Mem}
use Prim.Native.Nat.{ℕ}
use Rattle.std.proofs.Math.Dec.{T}
use Rattle.forms.specs.Decimal.{top}
use Rattle.forms.specs.Lists.{all, any, keep}
use Rattle.forms.specs.ListLaws.{T_false, true_T, false_T, and_intro, and_left, all-at, any_at, any_of, or_cases, keep_append}
use Rattle.forms.specs.Forms.{Base, Update, Did}
use Rattle.forms.specs.declared.Rule.{Rule}
use Rattle.forms.specs.declared.Rule.TheVariants.{Inc, Set, Not, Unk}
use Rattle.rules.specs.Rules.{strong, ordered}
use Rattle.rules.specs.Book.{cell}
use Rattle.rules.specs.State.{Operation, State, start_of}
use Rattle.rules.specs.Calls.{blocked_by, blocked, may_run_now, ready, attempt, try_from, try_all, made_ready, never_now, holds_never}
use Rattle.rules.specs.Calls.{overtaken, not_overtaken, overtaken_ids}
use Rattle.rules.specs.Calls.{already_done, read_overtaken, at_highest}
use Rattle.rule_laws.specs.CheckLaws.{not-false}
use Rattle.rule_laws.specs.TimingLaws.{run-not_never, too_late, never_is}
use Rattle.rule_laws.specs.PendingLaws.{MayRun, ready_may, try_keeps}

-- ### Who holds a never

-- Only a future operation is overtaken.
pub overtaken-future : (σ : Base) (log : List Did) (x : Operation) → T (overtaken σ log x) → T (not x.running)
unfolding overtaken
overtaken-future σ log x t = and_left (not x.running) (holds_never σ log x) t

-- An operation whose updates may run holds none.
pub may_no_never : (σ : Base) (log : List Did) (x : Operation) → MayRun σ log x → T (holds_never σ log x) → ⊥
unfolding holds_never never_now may_run_now
may_no_never σ log x may t =
    let q = any_at (never_now σ log) x.updates t in
    let u = q.0 in
    run-not_never u.rule (cell σ u.history log).version u.version (all-at (may_run_now σ log) x.updates may u q.1) q.2

-- One that stays holds none: it is in progress, or was seen to hold none.
pub stay_no_never : (σ : Base) (log : List Did) (x : Operation) → T (not (overtaken σ log x)) → (T x.running → MayRun σ log x) →
    T (holds_never σ log x) → ⊥
unfolding overtaken
stay_no_never σ log x stays may t = go x.running refl
  where
    go : (b : Bool) → x.running ≡ b → ⊥
    go true e = may_no_never σ log x (may (true_T x.running e)) t
    go false e =
        T_not (overtaken σ log x) stays (and_intro (not x.running) (holds_never σ log x) (true_T (not x.running) (ap not e)) t)

or_none : (b : Bool) → b ≡ (b || false)
or_none true = refl
or_none false = refl

late_refused : (r : Rule) (c u : ℕ) →
    too_late r c u ≡ (strong r && ordered r && leb u c || (not (strong r) && ltb u c || not (ordered r) && leb top c))
late_refused Inc c u = or_none (leb u c)
late_refused Set c u = or_none (leb u c)
late_refused Not c u = or_none (ltb u c)
late_refused Unk c u = refl

-- 8, 9 and 17 of an add: an update is a never exactly if one of these tests meets it.
pub never_refused : (st : State) (u : Update) →
    never_now (start_of st) st.log u ≡ (already_done st u || (read_overtaken st u || at_highest st u))
unfolding never_now already_done read_overtaken at_highest
never_refused st u =
    let c = (cell (start_of st) u.history st.log).version in
    never_is u.rule c u.version ∙ late_refused u.rule c u.version

-- So an add that passes 8, 9 and 17 brings no never in.
pub added_no_never : (st : State) (us : List Update) → any (already_done st) us ≡ false → any (read_overtaken st) us ≡ false →
    any (at_highest st) us ≡ false → T (any (never_now (start_of st) st.log) us) → ⊥
added_no_never st us e8 e9 e17 t =
    let q = any_at (never_now (start_of st) st.log) us t in
    let u = q.0 in
    let rest = read_overtaken st u || at_highest st u in
    eight u q.1 (or_cases (already_done st u) rest (subst T (never_refused st u) q.2))
  where
    nine : (u : Update) → Mem u us → T (read_overtaken st u) ⊎ T (at_highest st u) → ⊥
    nine u m (inl p) = false_T (any (read_overtaken st) us) e9 (any_of (read_overtaken st) m p)
    nine u m (inr p) = false_T (any (at_highest st) us) e17 (any_of (at_highest st) m p)

    eight : (u : Update) → Mem u us → T (already_done st u) ⊎ T (read_overtaken st u || at_highest st u) → ⊥
    eight u m (inl p) = false_T (any (already_done st) us) e8 (any_of (already_done st) m p)
    eight u m (inr p) = nine u m (or_cases (read_overtaken st u) (at_highest st u) p)

-- ### Dropping before the tries

any-keep : {A : Type 0} (p f : A → Bool) → ((x : A) → f x ≡ false → p x ≡ false) → (l : List A) → any p (keep f l) ≡ any p l
any-keep p f off [] = refl
any-keep {A} p f off (x ∷ l) = go (f x) refl (any-keep p f off l)
  where
    go : (b : Bool) → f x ≡ b → any p (keep f l) ≡ any p l → any p (cond b (x ∷ keep f l) (keep f l)) ≡ (p x || any p l)
    go true e below = ap (λ (c : Bool). p x || c) below
    go false e below = below ∙ sym (ap (λ (c : Bool). c || any p l) (off x e))

module _ (σ : Base) (log : List Did) where
  -- an operation that is not dropped
  abbrev stays : Operation → Bool
  stays x = not (overtaken σ log x)

  gone_future : (x : Operation) → stays x ≡ false → x.running ≡ false
  gone_future x e =
      T_false x.running (T_not x.running (overtaken-future σ log x (true_T (overtaken σ log x) (not-false (overtaken σ log x) e))))

  -- a future operation blocks nobody
  blocked-same : (others : List Operation) (u : Update) → blocked (keep stays others) u ≡ blocked others u
  unfolding blocked blocked_by
  blocked-same others u = any-keep (blocked_by u) stays (λ x e. idle x.running _ (gone_future x e)) others
    where
      idle : (r b : Bool) → r ≡ false → (r && b) ≡ false
      idle true b e = absurd (false_T true e tt)
      idle false b e = refl

  ready-same : (others : List Operation) (x : Operation) → ready σ log (keep stays others) x ≡ ready σ log others x
  unfolding ready
  ready-same others x = λ i. all (λ (u : Update). may_run_now σ log u && not (blocked-same others u i)) x.updates

  attempt-same : (others : List Operation) (x : Operation) → attempt σ log (keep stays others) x ≡ attempt σ log others x
  unfolding attempt
  attempt-same others x = λ i. record { id = x.id; updates = x.updates; running = x.running || ready-same others x i }

  -- a never is not ready: a try changes nothing of who is overtaken
  overtaken-same : (others : List Operation) (x : Operation) → overtaken σ log (attempt σ log others x) ≡ overtaken σ log x
  unfolding overtaken holds_never attempt
  overtaken-same others x =
      go x.running (ready σ log others x) (any (never_now σ log) x.updates)
      (λ q h. may_no_never σ log x (ready_may σ log others x q) h)
    where
      go : (r q h : Bool) → (T q → T h → ⊥) → (not (r || q) && h) ≡ (not r && h)
      go true q h out = refl
      go false true true out = absurd (out tt tt)
      go false true false out = refl
      go false false h out = refl

  drop-from : (xs tried : List Operation) → keep stays (try_from σ log tried xs) ≡ try_from σ log (keep stays tried) (keep stays xs)
  unfolding try_from
  drop-from [] tried = refl
  drop-from (x ∷ xs) tried = drop-from xs (tried ++ y ∷ []) ∙ go (stays x) refl
    where
      y : Operation
      y = attempt σ log (tried ++ xs) x

      same : y ≡ attempt σ log (keep stays tried ++ keep stays xs) x
      same = sym (attempt-same (tried ++ xs) x) ∙ ap (λ (l : List Operation). attempt σ log l x) (keep_append stays tried xs)

      tested : (b : Bool) → stays x ≡ b → keep stays (tried ++ y ∷ []) ≡ keep stays tried ++ cond b (y ∷ []) []
      tested b e =
          keep_append stays tried (y ∷ [])
          ∙ ap (λ (c : Bool). keep stays tried ++ cond c (y ∷ []) []) (ap not (overtaken-same (tried ++ xs) x) ∙ e)

      go : (b : Bool) → stays x ≡ b →
          try_from σ log (keep stays (tried ++ y ∷ [])) (keep stays xs)
          ≡ try_from σ log (keep stays tried) (cond b (x ∷ keep stays xs) (keep stays xs))
      go true e =
          ap (λ (l : List Operation). try_from σ log l (keep stays xs))
          (tested true e ∙ ap (λ (z : Operation). keep stays tried ++ z ∷ []) same)
      go false e = ap (λ (l : List Operation). try_from σ log l (keep stays xs)) (tested false e ∙ append-nil (keep stays tried))

  ids-from : (xs : List Operation) → overtaken_ids σ log (try_all σ log xs) ≡ overtaken_ids σ log xs
  unfolding overtaken_ids attempt
  ids-from xs = try_keeps σ (λ ys. names ys ≡ names xs) log (λ a x b e. one a x b ∙ e) xs [] refl
    where
      id : Operation → ℕ
      id x = x.id

      names : List Operation → List ℕ
      names ys = map id (keep (overtaken σ log) ys)

      split : (a : List Operation) (x : Operation) (b : List Operation) →
          names (a ++ x ∷ b) ≡ names a ++ cond (overtaken σ log x) (x.id ∷ names b) (names b)
      split a x b =
          ap (map id) (keep_append (overtaken σ log) a (x ∷ b))
          ∙ map-append id (keep (overtaken σ log) a) (keep (overtaken σ log) (x ∷ b))
          ∙ go (overtaken σ log x)
        where
          go : (c : Bool) →
              names a ++ map id (cond c (x ∷ keep (overtaken σ log) b) (keep (overtaken σ log) b))
              ≡ names a ++ cond c (x.id ∷ names b) (names b)
          go true = refl
          go false = refl

      one : (a : List Operation) (x : Operation) (b : List Operation) → names (a ++ attempt σ log (a ++ b) x ∷ b) ≡ names (a ++ x ∷ b)
      one a x b =
          split a (attempt σ log (a ++ b) x) b
          ∙ ap (λ (c : Bool). names a ++ cond c (x.id ∷ names b) (names b)) (overtaken-same (a ++ b) x)
          ∙ sym (split a x b)

  -- Two lists of one length, whose operations are overtaken alike: before and after the tries.
  abbrev Tried : List Operation → List Operation → Type 0
  Tried [] [] = Unit {0}
  Tried [] (y ∷ ys) = ⊥
  Tried (x ∷ xs) [] = ⊥
  Tried (x ∷ xs) (y ∷ ys) = (stays y ≡ stays x) × Tried xs ys

  tried_snoc : (xs ys : List Operation) (x y : Operation) → Tried xs ys → stays y ≡ stays x → Tried (xs ++ x ∷ []) (ys ++ y ∷ [])
  tried_snoc [] [] x y t e = (e, tt)
  tried_snoc [] (z ∷ ys) x y t e = absurd t
  tried_snoc (z ∷ xs) [] x y t e = absurd t
  tried_snoc (z ∷ xs) (w ∷ ys) x y t e = (t.0, tried_snoc xs ys x y t.1 e)

  try_tried : (xs before tried : List Operation) → Tried before tried → Tried (before ++ xs) (try_from σ log tried xs)
  unfolding try_from
  try_tried [] before tried t = subst (λ (l : List Operation). Tried l tried) (sym (append-nil before)) t
  try_tried (x ∷ xs) before tried t =
      subst (λ (l : List Operation). Tried l (try_from σ log (tried ++ attempt σ log (tried ++ xs) x ∷ []) xs))
      (append_assoc before (x ∷ []) xs)
      (try_tried xs (before ++ x ∷ []) (tried ++ attempt σ log (tried ++ xs) x ∷ [])
      (tried_snoc before tried x (attempt σ log (tried ++ xs) x) t (ap not (overtaken-same (tried ++ xs) x))))

  made-from : (xs ys : List Operation) → Tried xs ys → made_ready (keep stays xs) (keep stays ys) ≡ made_ready xs ys
  unfolding made_ready
  made-from [] [] t = refl
  made-from [] (y ∷ ys) t = absurd t
  made-from (x ∷ xs) [] t = absurd t
  made-from (x ∷ xs) (y ∷ ys) t = go (stays x) (stays y) refl refl t.0 (made-from xs ys t.1)
    where
      go : (b c : Bool) → stays x ≡ b → stays y ≡ c → stays y ≡ stays x → made_ready (keep stays xs) (keep stays ys) ≡ made_ready xs ys →
          made_ready (cond b (x ∷ keep stays xs) (keep stays xs)) (cond c (y ∷ keep stays ys) (keep stays ys))
          ≡ cond (y.running && not x.running) (y.id ∷ made_ready xs ys) (made_ready xs ys)
      go true true e f p below =
          ap (λ (l : List ℕ). cond (y.running && not x.running) (y.id ∷ l) l) below
      go true false e f p below = absurd (false_T true (sym e ∙ sym p ∙ f) tt)
      go false true e f p below = absurd (false_T true (sym f ∙ p ∙ e) tt)
      go false false e f p below =
          below ∙ sym (ap (λ (r : Bool). cond (r && not x.running) (y.id ∷ made_ready xs ys) (made_ready xs ys)) (gone_future y f))

-- Tries and then a drop, or a drop and then tries: the same.
pub record Commute (σ : Base) (log : List Did) (xs : List Operation) : Type 0 where
  -- the operations that are left
  pub left : not_overtaken σ log (try_all σ log xs) ≡ try_all σ log (not_overtaken σ log xs)
  -- the ids made ready
  pub ready : made_ready xs (try_all σ log xs) ≡ made_ready (not_overtaken σ log xs) (try_all σ log (not_overtaken σ log xs))
  -- the ids overtaken
  pub named : overtaken_ids σ log (try_all σ log xs) ≡ overtaken_ids σ log xs

-- Dropping before the tries comes to the same: a never is not ready, and a future operation blocks nobody.
pub drop-before_tries : (σ : Base) (log : List Did) (xs : List Operation) → Commute σ log xs
unfolding not_overtaken
drop-before_tries σ log xs =
    record {
      left = drop-from σ log xs [];
      ready =
          sym (made-from σ log xs (try_all σ log xs) (try_tried σ log xs [] [] tt))
          ∙ ap (made_ready (keep (stays σ log) xs)) (drop-from σ log xs []);
      named = ids-from σ log xs;
    }
