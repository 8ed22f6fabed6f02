-- An add of what is held of a list of updates is the add of that list: four or fewer are all held, and more are refused, whatever they are.
use Rattle.std.specs.Prelude.{ℕ, zero, suc, ◌≤◌, ◌<◌, ◌≡◌, refl, Bool, true, false, ◌&&◌, ◌||◌, cond, List, [], ◌∷◌, map, T, leb, eqb, length, get_or}
use Rattle.std.proofs.Common.{arith, sym, ap, subst, ◌∙◌, leb-true, leb-false, le-leb, lt-ltb}
use Rattle.std.proofs.Math.Bool.{or-true}
use Rattle.std.proofs.Math.Option.{Option, none, some}
use Rattle.forms.specs.Decimal.{top}
use Rattle.forms.specs.Limits.{update_limit}
use Rattle.forms.specs.Lists.{all, any, padded}
use Rattle.forms.specs.ListLaws.{true_T, T_true, and_intro, and_left, and_right}
use Rattle.forms.specs.Forms.{Update}
use Rattle.forms.specs.Held.{as_update, as_asked, no_update, first_four, held_updates}
use Rattle.forms.specs.BaseHeldLaws.{padded-length}
use Rattle.forms.specs.declared.Refusal.{Refusal}
use Rattle.forms.specs.declared.Refusal.TheVariants.{WrongCount, NoSuchHistory, HistoryTwice, OperandRange, OutOfTurn}
use Rattle.rules.specs.Checks.{check, and_then, wrong_count, no_such_history, history_twice, form_refusal, updates_refusal}
use Rattle.rules.specs.State.{State, Reply, refused}
use Rattle.rules.specs.Calls.{Call, writable, writable_update, unless}
use Rattle.rules.specs.When.{add_when, perform_when, step_when}
use Rattle.site.specs.Trim.{updates_held}

-- at most four are all held
held_all : (us : List Update) → length us ≤ update_limit → updates_held (held_updates us) ≡ us
unfolding held_updates
held_all [] h = refl
held_all (a ∷ []) h = refl
held_all (a ∷ b ∷ []) h = refl
held_all (a ∷ b ∷ c ∷ []) h = refl
held_all (a ∷ b ∷ c ∷ d ∷ []) h = refl
held_all (a ∷ b ∷ c ∷ d ∷ x ∷ us) h = absurd (omega arith)

held_long : (us : List Update) → length (updates_held (held_updates us)) ≡ length us
unfolding held_updates
held_long us = padded-length no_update (length us) _

-- ### What is held of updates that can be written can be written

blank : T (writable_update no_update)
unfolding writable_update
blank = tt

padded-all : (n : ℕ) (xs : List Update) → T (all writable_update xs) → T (all writable_update (padded no_update n xs))
padded-all zero xs t = tt
padded-all (suc n) [] t = and_intro (writable_update no_update) (all writable_update (padded no_update n [])) blank (padded-all n [] tt)
padded-all (suc n) (x ∷ xs) t =
    and_intro (writable_update x) (all writable_update (padded no_update n xs)) (and_left (writable_update x) (all writable_update xs) t)
    (padded-all n xs (and_right (writable_update x) (all writable_update xs) t))

at_all : (us : List Update) → T (all writable_update us) → (i : ℕ) → T (writable_update (get_or us i no_update))
at_all [] t i = blank
at_all (u ∷ us) t zero = and_left (writable_update u) (all writable_update us) t
at_all (u ∷ us) t (suc i) = at_all us (and_right (writable_update u) (all writable_update us) t) i

held-writable : (us : List Update) → T (all writable_update us) → T (all writable_update (updates_held (held_updates us)))
unfolding held_updates
held-writable us t = padded-all (length us) (first_four as_update (as_asked no_update) (first_four as_asked no_update us)) four
  where
    u : ℕ → Update
    u i = get_or us i no_update

    last : T (all writable_update (u 2 ∷ u 3 ∷ []))
    last = and_intro (writable_update (u 2)) (all writable_update (u 3 ∷ [])) (at_all us t 2)
        (and_intro (writable_update (u 3)) true (at_all us t 3) tt)

    four : T (all writable_update (u 0 ∷ u 1 ∷ u 2 ∷ u 3 ∷ []))
    four = and_intro (writable_update (u 0)) (all writable_update (u 1 ∷ u 2 ∷ u 3 ∷ [])) (at_all us t 0)
        (and_intro (writable_update (u 1)) (all writable_update (u 2 ∷ u 3 ∷ [])) (at_all us t 1) last)

-- ### More than four are refused

many_refused : {A : Type 0} (history : A → ℕ) (misfits : A → Bool) (n : ℕ) (xs : List A) → update_limit < length xs →
    form_refusal history misfits n xs ≡ some WrongCount
unfolding form_refusal wrong_count check
many_refused history misfits n xs h =
    ap (λ (b : Bool). check b WrongCount (check (no_such_history n (map history xs)) NoSuchHistory
    (check (history_twice (map history xs)) HistoryTwice
    (check (any misfits xs) OperandRange none))))
    (ap (λ (b : Bool). eqb (length xs) 0 || b) (lt-ltb update_limit (length xs) h) ∙ or-true (eqb (length xs) 0))

-- an order of checks of which the second refuses
second-refuses : (b : Bool) (o later : Option Refusal) (x : Reply) → o ≡ some WrongCount →
    unless (check b OutOfTurn (and_then o later)) x ≡ refused (cond b OutOfTurn WrongCount)
unfolding unless check and_then
second-refuses true o later x e = refl
second-refuses false o later x e = rw e refl

many-add : (full : Bool) (i : ℕ) (us : List Update) (st : State) → update_limit < length us →
    add_when full i us st ≡ refused (cond st.restoring OutOfTurn WrongCount)
unfolding add_when updates_refusal
many-add full i us st h = second-refuses st.restoring _ _ _ (many_refused _ _ st.histories us h)

-- ### The add

writable-add : (i : ℕ) (us : List Update) → i ≤ top → T (all writable_update us) → writable (Call.Add i us) ≡ true
unfolding writable
writable-add i us le w = T_true (leb i top && all writable_update us)
    (and_intro (leb i top) (all writable_update us) (true_T (leb i top) (le-leb i top le)) w)

when_performs : (full : Bool) (c : Call) (st : State) → writable c ≡ true → step_when full c st ≡ perform_when full c st
unfolding step_when check unless
when_performs full c st e = rw e refl

-- With 10 from outside too.
pub add-held : (full : Bool) (i : ℕ) (us : List Update) (st : State) → i ≤ top → T (all writable_update us) →
    step_when full (Call.Add i (updates_held (held_updates us))) st ≡ step_when full (Call.Add i us) st
unfolding perform_when
add-held full i us st le w = go (leb (length us) update_limit) refl
  where
    vs : List Update
    vs = updates_held (held_updates us)

    go : (b : Bool) → leb (length us) update_limit ≡ b → step_when full (Call.Add i vs) st ≡ step_when full (Call.Add i us) st
    go true h = ap (λ (l : List Update). step_when full (Call.Add i l) st) (held_all us (leb-true (length us) update_limit h))
    go false h =
        let m : update_limit < length us = leb-false (length us) update_limit h in
        when_performs full (Call.Add i vs) st (writable-add i vs le (held-writable us w))
        ∙ many-add full i vs st (subst (λ (k : ℕ). update_limit < k) (sym (held_long us)) m)
        ∙ sym (when_performs full (Call.Add i us) st (writable-add i us le w) ∙ many-add full i us st m)

-- .. and it can be read where the list can
pub held-add-writable : (i : ℕ) (us : List Update) → i ≤ top → T (all writable_update us) →
    writable (Call.Add i (updates_held (held_updates us))) ≡ writable (Call.Add i us)
held-add-writable i us le w =
    writable-add i (updates_held (held_updates us)) le (held-writable us w) ∙ sym (writable-add i us le w)
