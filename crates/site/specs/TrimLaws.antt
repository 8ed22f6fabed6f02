-- Laws of what is held of a line's updates: every value of the code holds a list that can be written; a call with what is held of a list is
-- the call with it.
use Rattle.std.specs.Prelude.{ℕ, zero, suc, ◌≤◌, ◌<◌, ◌≡◌, refl, Bool, true, false, ◌&&◌, ◌||◌, not, cond, ◌⊎◌, List, [], ◌∷◌, map, T, leb, eqb, length, get_or, take}
use Rattle.std.proofs.Common.{arith, sym, ap, subst, ◌∙◌, inl, inr, leb-true, leb-false, le-leb, lt-ltb}
use Rattle.std.proofs.Math.Bool.{or-true}
use Rattle.std.proofs.Math.Option.{Option, none, some}
use mathlib.Core.List.Memᴰ
use mathlib.Core.List.Memᴰ.{head as here}
use mathlib.Core.List.Memᴰ.{tail as there}
use mathlib.Core.List.{Memᴰ as Mem}
use Rattle.forms.specs.Decimal.{top}
use Rattle.forms.specs.Lists.{all, any}
use Rattle.forms.specs.ListLaws.{true_T, all_of, all-at}
use Rattle.forms.specs.Forms.{Update, Change, Did}
use Rattle.forms.specs.Writable.{WritableUpdate, WritableChange, Each}
use Rattle.forms.specs.Held.{as_update, as_asked, as_change, as_done, no_update, no_change, first_four, held_updates, held_changes, held_did}
use Rattle.forms.specs.HeldLaws.{four-at}
use Rattle.forms.specs.BaseHeldLaws.{padded-length}
use Rattle.forms.specs.Limits.{update_limit}
use Rattle.forms.specs.declared.Asked.{Asked}
use Rattle.forms.specs.declared.Done.{Done}
use Rattle.forms.specs.Held.{AskedHeld}
use Rattle.forms.specs.Held.{DoneHeld}
use Rattle.forms.specs.declared.Refusal.{Refusal}
use Rattle.forms.specs.declared.Refusal.TheVariants.{WrongCount, NoSuchHistory, HistoryTwice, OperandRange, OutOfTurn}
use Rattle.rules.specs.Checks.{check, and_then, wrong_count, no_such_history, history_twice, form_refusal, updates_refusal}
use Rattle.rules.specs.State.{State, Reply, refused}
use Rattle.rules.specs.Calls.{Call, writable_update, unless, step, add, add_refusal, redo_refusal, delivered}
use Rattle.history.specs.Asking.{Holds, HoldsUpdates, HoldsChanges}
use Rattle.site.specs.AddLaws.{add_performs}
use Rattle.site.specs.Trim.{padded, updates_held, changes_held, did_held, redo_of, redo_full}
use Rattle.rules.specs.Checks.{changes_refusal_with}

-- ### What stands in the places

each_cons : {A : Type 0} (W : A → Type 0) (y : A) (l : List A) → W y → Each W l → Each W (y ∷ l)
each_cons {A} W y l w ws x m = one (Memᴰ.cases_cons m)
  where
    one : (x ≡ y) ⊎ Mem x l → W x
    one (inl e) = subst W (sym e) w
    one (inr k) = ws x k

module _ {A : Type 0} (blank : A) where
  -- at most four are all held
  padded-all : (xs : List A) → length xs ≤ update_limit → padded blank (length xs) (first_four (λ x. x) blank xs) ≡ xs
  padded-all [] h = refl
  padded-all (a ∷ []) h = refl
  padded-all (a ∷ b ∷ []) h = refl
  padded-all (a ∷ b ∷ c ∷ []) h = refl
  padded-all (a ∷ b ∷ c ∷ d ∷ []) h = refl
  padded-all (a ∷ b ∷ c ∷ d ∷ x ∷ xs) h = absurd (omega arith)

  -- what holds in each place below the count holds of all
  padded_each : (W : A → Type 0) (n : ℕ) (xs : List A) → ((i : ℕ) → i < n → W (get_or xs i blank)) → Each W (padded blank n xs)
  padded_each W zero xs h = λ x m. absurd (Memᴰ.not-nil m)
  padded_each W (suc n) [] h =
      each_cons W blank (padded blank n []) (h 0 (omega arith)) (padded_each W n [] (λ i l. h (suc i) (omega arith)))
  padded_each W (suc n) (y ∷ ys) h =
      each_cons W y (padded blank n ys) (h 0 (omega arith)) (padded_each W n ys (λ i l. h (suc i) (omega arith)))

  each_at : (W : A → Type 0) (xs : List A) → Each W xs → (i : ℕ) → i < length xs → W (get_or xs i blank)
  each_at W [] h i l = absurd (omega (arith, l))
  each_at W (y ∷ ys) h zero l = h y (here refl)
  each_at W (y ∷ ys) h (suc i) l = each_at W ys (λ x m. h x (there m)) i (omega (arith, l))

  -- four places: what holds there below the count, and of the blank, holds of all that are held
  four_each : (W : A → Type 0) → W blank → (n : ℕ) (a b c d : A) →
      ((i : ℕ) → i < n → i < update_limit → W (get_or (a ∷ b ∷ c ∷ d ∷ []) i blank)) →
      Each W (padded blank n (a ∷ b ∷ c ∷ d ∷ []))
  four_each W empty n a b c d h = padded_each W n (a ∷ b ∷ c ∷ d ∷ []) go
    where
      go : (i : ℕ) → i < n → W (get_or (a ∷ b ∷ c ∷ d ∷ []) i blank)
      go zero l = h 0 l (omega arith)
      go (suc zero) l = h 1 l (omega arith)
      go (suc (suc zero)) l = h 2 l (omega arith)
      go (suc (suc (suc zero))) l = h 3 l (omega arith)
      go (suc (suc (suc (suc i)))) l = empty

-- what holds at four places
four : (P : ℕ → Type 0) → P 0 → P 1 → P 2 → P 3 → (i : ℕ) → i < update_limit → P i
four P a b c d zero h = a
four P a b c d (suc zero) h = b
four P a b c d (suc (suc zero)) h = c
four P a b c d (suc (suc (suc zero))) h = d
four P a b c d (suc (suc (suc (suc i)))) h = absurd (omega arith)

-- four places, of which as many as count can be written
four-writable : {A B : Type 0} (g : B → A) (d : B) (blank : A) (W : A → Type 0) → W blank → (l : List B) →
    W (g (get_or l 0 d)) → W (g (get_or l 1 d)) → W (g (get_or l 2 d)) → W (g (get_or l 3 d)) → (n : ℕ) → Each W (padded blank n (first_four g d l))
four-writable g d blank W empty l p q r s n =
    four_each blank W empty n _ _ _ _ (λ i h k. four (λ j. W (get_or (first_four g d l) j blank)) p q r s i k)

-- ### Updates and did lines

-- a blank can be written
blank_update : WritableUpdate no_update
blank_update = record { history = omega arith; version = omega arith; operand = omega arith }

blank_change : WritableChange no_change
blank_change = record { history = omega arith; version = omega arith; place = omega arith; operand = omega arith }

pub asked-writable : (l : List Asked) → WritableUpdate (as_update (get_or l 0 (as_asked no_update))) →
    WritableUpdate (as_update (get_or l 1 (as_asked no_update))) → WritableUpdate (as_update (get_or l 2 (as_asked no_update))) →
    WritableUpdate (as_update (get_or l 3 (as_asked no_update))) → (n : ℕ) →
    Each WritableUpdate (padded no_update n (first_four as_update (as_asked no_update) l))
asked-writable = four-writable as_update (as_asked no_update) no_update WritableUpdate blank_update

pub done-writable : (l : List Done) → WritableChange (as_change (get_or l 0 (as_done no_change))) →
    WritableChange (as_change (get_or l 1 (as_done no_change))) → WritableChange (as_change (get_or l 2 (as_done no_change))) →
    WritableChange (as_change (get_or l 3 (as_done no_change))) → (n : ℕ) →
    Each WritableChange (padded no_change n (first_four as_change (as_done no_change) l))
done-writable = four-writable as_change (as_done no_change) no_change WritableChange blank_change

-- the elements of four that count, through a function
four-take : {A B : Type 0} (g : B → A) (d : B) (blank : A) (n : ℕ) (xs : List B) → length xs ≡ update_limit → n ≤ update_limit →
    map g (take n xs) ≡ padded blank n (first_four g d xs)
four-take g d blank n [] e h = absurd (omega arith)
four-take g d blank n (a ∷ []) e h = absurd (omega arith)
four-take g d blank n (a ∷ b ∷ []) e h = absurd (omega arith)
four-take g d blank n (a ∷ b ∷ c ∷ []) e h = absurd (omega arith)
four-take {A} {B} g d blank n (a ∷ b ∷ c ∷ x ∷ []) e h = go n h
  where
    go : (k : ℕ) → k ≤ 4 → map g (take k (a ∷ b ∷ c ∷ x ∷ [])) ≡ padded blank k (g a ∷ g b ∷ g c ∷ g x ∷ [])
    go zero l = refl
    go (suc zero) l = refl
    go (suc (suc zero)) l = refl
    go (suc (suc (suc zero))) l = refl
    go (suc (suc (suc (suc zero)))) l = refl
    go (suc (suc (suc (suc (suc k))))) l = absurd (omega arith)
four-take g d blank n (a ∷ b ∷ c ∷ x ∷ y ∷ xs) e h = absurd (omega arith)

-- what is held is held, whatever stands past the count
held_these : {A B : Type 0} (g : B → A) (d : B) (blank : A) (n : ℕ) (l : List B) → length l ≡ update_limit →
    Holds g n l (padded blank n (first_four g d l))
held_these g d blank n l long =
    record { count = sym (padded-length blank n (first_four g d l)); first = four-take g d blank n l long }

pub holds_these : (h : AskedHeld) → length h.first ≡ update_limit → HoldsUpdates h (updates_held h)
holds_these h long = held_these as_update (as_asked no_update) no_update h.count h.first long

pub holds_changes : (h : DoneHeld) → length h.first ≡ update_limit → HoldsChanges h (changes_held h)
holds_changes h long = held_these as_change (as_done no_change) no_change h.count h.first long

update-writable : (u : Update) → WritableUpdate u → T (writable_update u)
unfolding writable_update
update-writable u w =
    true_T (leb u.history top && leb u.version top && leb u.operand top)
    (rw (le-leb u.history top w.history, le-leb u.version top w.version, le-leb u.operand top w.operand))

pub updates_writable : (us : List Update) → Each WritableUpdate us → T (all writable_update us)
updates_writable us w = all_of writable_update us (λ u m. update-writable u (w u m))

-- ### What is held of a list is as good as the list

many_refused : {A : Type 0} (history : A → ℕ) (misfits : A → Bool) (n : ℕ) (xs : List A) → update_limit < length xs →
    form_refusal history misfits n xs ≡ some WrongCount
unfolding form_refusal wrong_count check
many_refused history misfits n xs h =
    ap (λ (b : Bool). check b WrongCount (check (no_such_history n (map history xs)) NoSuchHistory
    (check (history_twice (map history xs)) HistoryTwice
    (check (any misfits xs) OperandRange none))))
    (ap (λ (b : Bool). eqb (length xs) 0 || b) (lt-ltb update_limit (length xs) h) ∙ or-true (eqb (length xs) 0))

-- four or fewer are all held, and of more as many
held_same : {A : Type 0} (blank : A) (xs : List A) → (padded blank (length xs) (first_four (λ x. x) blank xs) ≡ xs)
    ⊎ ((update_limit < length xs) × (update_limit < length (padded blank (length xs) (first_four (λ x. x) blank xs))))
held_same {A} blank xs = go (leb (length xs) update_limit) refl
  where
    ys : List A
    ys = padded blank (length xs) (first_four (λ x. x) blank xs)

    go : (b : Bool) → leb (length xs) update_limit ≡ b → (ys ≡ xs) ⊎ ((update_limit < length xs) × (update_limit < length ys))
    go true h = inl (padded-all blank xs (leb-true (length xs) update_limit h))
    go false h =
        let m : update_limit < length xs = leb-false (length xs) update_limit h in
        inr (m, subst (λ (k : ℕ). update_limit < k) (sym (padded-length blank (length xs) (first_four (λ x. x) blank xs))) m)

-- an order of checks of which the second refuses
second-refuses : (b : Bool) (o later : Option Refusal) (x : Reply) → o ≡ some WrongCount →
    unless (check b OutOfTurn (and_then o later)) x ≡ refused (cond b OutOfTurn WrongCount)
unfolding unless check and_then
second-refuses true o later x e = refl
second-refuses false o later x e = rw e refl

-- above four updates an add is refused, whatever they are
many-add : (i : ℕ) (us : List Update) (st : State) → update_limit < length us →
    add i us st ≡ refused (cond st.restoring OutOfTurn WrongCount)
unfolding add add_refusal updates_refusal
many-add i us st h = second-refuses st.restoring _ _ _ (many_refused _ _ st.histories us h)

many-redo : (full : Bool) (did : Did) (st : State) → update_limit < length did.changes →
    redo_full full did st ≡ refused (cond (not st.restoring) OutOfTurn WrongCount)
unfolding changes_refusal_with
many-redo full did st h = second-refuses (not st.restoring) _ _ (delivered did st) (many_refused _ _ st.histories did.changes h)

-- what is held of updates that can be written can be written
held-writable : (us : List Update) → T (all writable_update us) → T (all writable_update (updates_held (held_updates us)))
unfolding held_updates
held-writable us w =
    all_of writable_update _ (four_each no_update (λ u. T (writable_update u)) (update-writable no_update blank_update) (length us) _ _ _ _
    (λ i l k. subst (λ (u : Update). T (writable_update u)) (sym (four-at (λ u. u) no_update us i no_update k))
    (each_at no_update (λ u. T (writable_update u)) us (all-at writable_update us w) i l)))

-- An add of what is held of a list is the add of that list.
pub add-held : (i : ℕ) (us : List Update) (st : State) → i ≤ top → T (all writable_update us) →
    step (Call.Add i (updates_held (held_updates us))) st ≡ step (Call.Add i us) st
unfolding held_updates
add-held i us st le w = go (held_same no_update us)
  where
    go : (updates_held (held_updates us) ≡ us) ⊎ ((update_limit < length us) × (update_limit < length (updates_held (held_updates us)))) →
        step (Call.Add i (updates_held (held_updates us))) st ≡ step (Call.Add i us) st
    go (inl e) = ap (λ (l : List Update). step (Call.Add i l) st) e
    go (inr k) =
        add_performs i (updates_held (held_updates us)) st le (held-writable us w)
        ∙ many-add i (updates_held (held_updates us)) st k.1
        ∙ sym (add_performs i us st le w ∙ many-add i us st k.0)

-- A redo of what is held of a did line is the redo of that line.
pub redo_full_lem : (full : Bool) (did : Did) (st : State) → redo_full full (did_held (held_did did)) st ≡ redo_full full did st
unfolding held_did held_changes
redo_full_lem full did st = go (held_same no_change did.changes)
  where
    go : ((did_held (held_did did)).changes ≡ did.changes)
        ⊎ ((update_limit < length did.changes) × (update_limit < length (did_held (held_did did)).changes)) →
        redo_full full (did_held (held_did did)) st ≡ redo_full full did st
    go (inl e) = ap (λ (l : List Change). redo_full full (record { id = did.id; changes = l }) st) e
    go (inr k) = many-redo full (did_held (held_did did)) st k.1 ∙ sym (many-redo full did st k.0)

pub redo-held : (did : Did) (st : State) → redo_of (did_held (held_did did)) st ≡ redo_of did st
unfolding redo_refusal
redo-held did st = redo_full_lem false did st
