-- Refusal 10 from outside: a call with it is refused 10, or is the call without it.
use Rattle.std.specs.Prelude.{◌≡◌, refl, ◌⊎◌, ◌↔◌, Bool, true, false, not, ◌||◌, List, ℕ, T, eqb, take}
use Rattle.std.proofs.Common.{sym, ap, ◌∙◌, subst, inl, inr}
use Rattle.std.proofs.Math.Option.{Option, none, some}
use Rattle.forms.specs.Decimal.{Step}
use Rattle.forms.specs.Decimal.Step.{got, bad}
use Rattle.forms.specs.Lists.{any, find}
use Rattle.forms.specs.ListLaws.{false_T}
use Rattle.forms.specs.Forms.{Update, Did, Answer}
use Rattle.forms.specs.Reading.{read_did}
use Rattle.forms.specs.Refusals.{number_of}
use Rattle.forms.specs.declared.Refusal.{Refusal}
use Rattle.forms.specs.declared.Refusal.TheVariants.{Unreadable, WrongCount, NoSuchHistory, HistoryTwice, OperandRange, NothingOrders}
use Rattle.forms.specs.declared.Refusal.TheVariants.{IdPending, AlreadyDone, ReadOvertaken, HighestVersion, TableFull, WrongState, NoRoom}
use Rattle.forms.specs.declared.Refusal.TheVariants.{AboveLimit, OutOfTurn, BadLog}
use Rattle.rules.specs.Checks.{check, and_then, form_refusal, updates_refusal, changes_refusal}
use Rattle.rules.specs.Log.{Journal, journal, no_journal, read_log}
use Rattle.rules.specs.State.{Operation, State, Reply, refused, ok, settle, log_bytes}
use Rattle.rules.specs.Calls.{unless, nothing_orders, id_pending, id_done, already_done, read_overtaken, at_highest, table_full, stale}
use Rattle.rules.specs.Calls.{log_full, add_refusal, added, add, in_progress, finished, finish_found, finish, withdraw_refusal, withdraw}
use Rattle.rules.specs.Calls.{persistent, stable, show, end, stable_refusal, restart_as, cut_above, base_cut, cut_refusal, cut, changeover}
use Rattle.rules.specs.Calls.{redo_refusal, delivered, redo_read, redo, Call}
use Rattle.rules.specs.Trim.{trim_above, trim_full, trim_text, trim_refusal}
use Rattle.rules.specs.Calls.{Add, Finish, Withdraw, Persistent, Stable, Show, Cut, Changeover, Redo, End, writable, perform, step}
use Rattle.rules.specs.Calls.{stable_refusal}
use Rattle.rule_laws.specs.CheckLaws.{refused_not_ok, some-not_none, unless_ok, unless-check}
use Rattle.rules.specs.When.{add_when, redo_read_when, redo_when, lastly, cut_when, changeover_when, perform_when, step_when, meets}
use Rattle.rule_laws.specs.Good.{Good}
use Rattle.rule_laws.specs.GoodLaws.{good-step}
use Rattle.rules.specs.Checks.{changes_refusal_with}

-- ### Checks before 10

-- A refusal with another number is not 10.
unfoldable pub is_tenth : Refusal → Bool
is_tenth r = eqb (number_of r) 10

pub differs : (r : Refusal) → is_tenth r ≡ false → r ≡ TableFull → ⊥
unfolding number_of is_tenth
differs r e p = false_T (is_tenth TableFull) (sym (ap is_tenth p) ∙ e) tt

pub refused_same : (r q : Refusal) → refused r ≡ refused q → r ≡ q
refused_same r q e = cc

-- Checks that stand before others: they refuse whatever follows, and not with 10, or leave all to what follows.
abbrev pub Settles : (Option Refusal → Option Refusal) → Type 0
Settles f = ((r : Refusal) × (r ≡ TableFull → ⊥) × ((o : Option Refusal) → f o ≡ some r)) ⊎ ((o : Option Refusal) → f o ≡ o)

check_settles : (b : Bool) (r : Refusal) → is_tenth r ≡ false → Settles (check b r)
unfolding check
check_settles true r e = inl (r, differs r e, λ o. refl)
check_settles false r e = inr (λ o. refl)

and_then_settles : (o : Option Refusal) → (o ≡ some TableFull → ⊥) → Settles (and_then o)
unfolding and_then
and_then_settles (some r) h = inl (r, λ e. h (ap some e), λ o. refl)
and_then_settles none h = inr (λ o. refl)

then_settles : (f g : Option Refusal → Option Refusal) → Settles f → Settles g → Settles (λ o. f (g o))
then_settles f g (inl (r, q, e)) s = inl (r, q, λ o. e (g o))
then_settles f g (inr e) (inl (r, q, p)) = inl (r, q, λ o. e (g o) ∙ p o)
then_settles f g (inr e) (inr p) = inr (λ o. e (g o) ∙ p o)

-- 2 to 5 are not 10.
some_same : (r q : Refusal) → some r ≡ some q → r ≡ q
some_same r q e = cc

pub check-not-ten : (b : Bool) (r : Refusal) (o : Option Refusal) → is_tenth r ≡ false → (o ≡ some TableFull → ⊥) →
    check b r o ≡ some TableFull → ⊥
unfolding check
check-not-ten true r o e h p = differs r e (some_same r TableFull p)
check-not-ten false r o e h p = h p

pub none_not-ten : none ≡ some TableFull → ⊥
none_not-ten e = some-not_none TableFull (sym e)

form_not-ten : {A : Type 0} (history : A → ℕ) (misfits : A → Bool) (n : ℕ) (xs : List A) →
    form_refusal history misfits n xs ≡ some TableFull → ⊥
unfolding form_refusal is_tenth number_of
form_not-ten history misfits n xs =
    check-not-ten _ WrongCount _ refl
    (check-not-ten _ NoSuchHistory _ refl (check-not-ten _ HistoryTwice _ refl (check-not-ten _ OperandRange _ refl none_not-ten)))

-- the checks of an add before 10
abbrev pub add_before : ℕ → List Update → State → Option Refusal → Option Refusal
add_before i us st o =
    check st.restoring OutOfTurn
    (and_then (updates_refusal st.histories us)
    (check (nothing_orders us) NothingOrders
    (check (id_pending i st) IdPending
    (check (id_done i st || any (already_done st) us) AlreadyDone
    (check (any (read_overtaken st) us) ReadOvertaken
    (check (any (at_highest st) us) HighestVersion o))))))

add_settles : (i : ℕ) (us : List Update) (st : State) → Settles (add_before i us st)
unfolding updates_refusal is_tenth number_of
add_settles i us st =
    then_settles (check st.restoring OutOfTurn) _ (check_settles st.restoring OutOfTurn refl)
    (then_settles (and_then (updates_refusal st.histories us)) _
    (and_then_settles (updates_refusal st.histories us) (form_not-ten _ _ st.histories us))
    (then_settles (check (nothing_orders us) NothingOrders) _ (check_settles (nothing_orders us) NothingOrders refl)
    (then_settles (check (id_pending i st) IdPending) _ (check_settles (id_pending i st) IdPending refl)
    (then_settles (check (id_done i st || any (already_done st) us) AlreadyDone) _
    (check_settles (id_done i st || any (already_done st) us) AlreadyDone refl)
    (then_settles (check (any (read_overtaken st) us) ReadOvertaken) (check (any (at_highest st) us) HighestVersion)
    (check_settles (any (read_overtaken st) us) ReadOvertaken refl) (check_settles (any (at_highest st) us) HighestVersion refl))))))

-- the checks of a redo before 10
abbrev pub redo_before : Did → State → Option Refusal → Option Refusal
redo_before d st o =
    check (not st.restoring) OutOfTurn
    (and_then (changes_refusal st.histories d.changes)
    (check (id_pending d.id st) IdPending
    (check (any (stale st) d.changes || id_done d.id st) AlreadyDone o)))

redo_settles : (d : Did) (st : State) → Settles (redo_before d st)
unfolding changes_refusal_with is_tenth number_of
redo_settles d st =
    then_settles (check (not st.restoring) OutOfTurn) _ (check_settles (not st.restoring) OutOfTurn refl)
    (then_settles (and_then (changes_refusal st.histories d.changes)) _
    (and_then_settles (changes_refusal st.histories d.changes) (form_not-ten _ _ st.histories d.changes))
    (then_settles (check (id_pending d.id st) IdPending) (check (any (stale st) d.changes || id_done d.id st) AlreadyDone)
    (check_settles (id_pending d.id st) IdPending refl)
    (check_settles (any (stale st) d.changes || id_done d.id st) AlreadyDone refl)))

-- ### One call, with 10 and without

-- A reply is 10, or it is what the reply is without 10.
abbrev pub TenOr : Reply → Reply → Type 0
TenOr x y = (x ≡ refused TableFull) ⊎ (x ≡ y)

chain_ten : (f : Option Refusal → Option Refusal) (full own : Bool) (later : Option Refusal) (x : Reply) → Settles f →
    TenOr (unless (f (check (full || own) TableFull later)) x) (unless (f (check (false || own) TableFull later)) x)
unfolding unless check
chain_ten f full own later x (inl (r, q, e)) = inr (ap (λ (o : Option Refusal). unless o x) (e _ ∙ sym (e _)))
chain_ten f true own later x (inr e) = inl (ap (λ (o : Option Refusal). unless o x) (e _))
chain_ten f false own later x (inr e) = inr refl

pub unless-ten : (o : Option Refusal) (x y : Reply) → TenOr x y → TenOr (unless o x) (unless o y)
unfolding unless
unless-ten (some r) x y t = inr refl
unless-ten none x y t = t

pub lastly-ten : (full : Bool) (x : Reply) → TenOr (lastly full x) x
unfolding lastly unless check
lastly-ten full (refused r) = inr refl
lastly-ten true (ok st answer) = inl refl
lastly-ten false (ok st answer) = inr refl

lastly_off : (x : Reply) → lastly false x ≡ x
unfolding lastly unless check
lastly_off (refused r) = refl
lastly_off (ok st answer) = refl

add-ten : (full : Bool) (i : ℕ) (us : List Update) (st : State) → TenOr (add_when full i us st) (add i us st)
unfolding add_when add add_refusal
add-ten full i us st = chain_ten (add_before i us st) full (table_full st) none (added i us st) (add_settles i us st)

redo-ten : (full : Bool) (x : Step Did) (st : State) → TenOr (redo_read_when full x st) (redo_read x st)
unfolding redo_read_when redo_read redo_refusal
redo-ten full bad st = inr refl
redo-ten full (got d rest) st =
    chain_ten (redo_before d st) full (table_full st) (check (log_full d st) NoRoom none) (delivered d st) (redo_settles d st)

perform-ten : (full : Bool) (c : Call) (st : State) → TenOr (perform_when full c st) (perform c st)
unfolding perform_when perform redo_when redo cut_when cut changeover_when changeover
perform-ten full (Add i us) st = add-ten full i us st
perform-ten full (Finish i) st = inr refl
perform-ten full (Withdraw i) st = inr refl
perform-ten full (Persistent n) st = inr refl
perform-ten full (Stable n) st = inr refl
perform-ten full (Show h) st = inr refl
perform-ten full (Cut k room) st =
    unless-ten (cut_refusal k room st) _ _ (lastly-ten full (restart_as room (read_log (take k (log_bytes st)))))
perform-ten full (Changeover n room) st =
    unless-ten (trim_refusal n room st) _ _ (lastly-ten full (restart_as room (read_log (trim_text n st))))
perform-ten full (Redo line) st = redo-ten full (read_did line) st
perform-ten full End st = inr refl

-- The law of the flag: a call is refused 10, or it is the call of 01.
pub step-ten : (full : Bool) (c : Call) (st : State) → TenOr (step_when full c st) (step c st)
unfolding step_when step
step-ten full c st = unless-ten (check (not (writable c)) Unreadable none) (perform_when full c st) (perform c st) (perform-ten full c st)

-- 01 is the rule without a flag.
perform_off : (c : Call) (st : State) → perform_when false c st ≡ perform c st
unfolding perform_when perform add_when add add_refusal redo_when redo redo_read_when redo_read redo_refusal cut_when cut changeover_when changeover
perform_off (Add i us) st = refl
perform_off (Finish i) st = refl
perform_off (Withdraw i) st = refl
perform_off (Persistent n) st = refl
perform_off (Stable n) st = refl
perform_off (Show h) st = refl
perform_off (Cut k room) st =
    ap (λ (x : Reply). unless (cut_refusal k room st) x) (lastly_off (restart_as room (read_log (take k (log_bytes st)))))
perform_off (Changeover n room) st =
    ap (λ (x : Reply). unless (trim_refusal n room st) x) (lastly_off (restart_as room (read_log (trim_text n st))))
perform_off (Redo line) st = go (read_did line)
  where
    go : (x : Step Did) → redo_read_when false x st ≡ redo_read x st
    go bad = refl
    go (got d rest) = refl
perform_off End st = refl

pub step_off : (c : Call) (st : State) → step c st ≡ step_when false c st
unfolding step_when step
step_off c st = ap (λ (x : Reply). unless (check (not (writable c)) Unreadable none) x) (sym (perform_off c st))

-- ### Where 10 is met

-- An accepted call is that of 01.
pub when_ok : (full : Bool) (c : Call) (st after : State) (answer : Answer) → step_when full c st ≡ ok after answer →
    step c st ≡ ok after answer
when_ok full c st after answer e = go (step-ten full c st)
  where
    go : TenOr (step_when full c st) (step c st) → step c st ≡ ok after answer
    go (inl p) = absurd (refused_not_ok TableFull after answer (sym p ∙ e))
    go (inr p) = sym p ∙ e

-- A call, with whatever flag, keeps the invariant.
pub good_when : (full : Bool) (c : Call) (st : State) → Good st → Good (settle (step_when full c st) st)
unfolding settle
good_when full c st G = go (step-ten full c st)
  where
    go : TenOr (step_when full c st) (step c st) → Good (settle (step_when full c st) st)
    go (inl p) = subst (λ (x : Reply). Good (settle x st)) (sym p) G
    go (inr p) = subst (λ (x : Reply). Good (settle x st)) (sym p) (good-step c st G)

-- ### A call refused 10

pub unless-not-ten : (o : Option Refusal) (x : Reply) → (o ≡ some TableFull → ⊥) → (x ≡ refused TableFull → ⊥) →
    unless o x ≡ refused TableFull → ⊥
unfolding unless
unless-not-ten (some r) x ho hx p = ho (ap some (refused_same r TableFull p))
unless-not-ten none x ho hx p = hx p

pub unless-over : (o : Option Refusal) (x : Reply) → (o ≡ some TableFull → ⊥) → unless o x ≡ refused TableFull → x ≡ refused TableFull
unfolding unless
unless-over (some r) x ho p = absurd (ho (ap some (refused_same r TableFull p)))
unless-over none x ho p = p

ok_not-ten : (st : State) (a : Answer) → ok st a ≡ refused TableFull → ⊥
ok_not-ten st a e = refused_not_ok TableFull st a (sym e)

-- Checks, then 10, then others: 10 only if it is met.
chain_why : (f : Option Refusal → Option Refusal) (met : Bool) (later : Option Refusal) (x : Reply) → Settles f →
    (later ≡ some TableFull → ⊥) → (x ≡ refused TableFull → ⊥) → unless (f (check met TableFull later)) x ≡ refused TableFull → T met
unfolding check unless
chain_why f met later x (inl (r, q, e)) hl hx p =
    absurd (q (refused_same r TableFull (sym (ap (λ (o : Option Refusal). unless o x) (e _)) ∙ p)))
chain_why f true later x (inr e) hl hx p = tt
chain_why f false later x (inr e) hl hx p = absurd (unless-not-ten later x hl hx (sym (ap (λ (o : Option Refusal). unless o x) (e _)) ∙ p))

-- Checks, then 10, then others: accepted only if 10 is not met.
chain_ok : (f : Option Refusal → Option Refusal) (met : Bool) (later : Option Refusal) (x : Reply) → Settles f →
    (st : State) (a : Answer) → unless (f (check met TableFull later)) x ≡ ok st a → T met → ⊥
unfolding check unless
chain_ok f met later x (inl (r, q, e)) st a p t = refused_not_ok r st a (sym (ap (λ (o : Option Refusal). unless o x) (e _)) ∙ p)
chain_ok f true later x (inr e) st a p t = refused_not_ok TableFull st a (sym (ap (λ (o : Option Refusal). unless o x) (e _)) ∙ p)
chain_ok f false later x (inr e) st a p t = t

pub lastly_why : (full : Bool) (x : Reply) → (x ≡ refused TableFull → ⊥) → lastly full x ≡ refused TableFull → T full
unfolding lastly unless check
lastly_why full (refused r) h p = absurd (h p)
lastly_why true (ok st a) h p = tt
lastly_why false (ok st a) h p = absurd (h p)

pub lastly_ok : (full : Bool) (x : Reply) (st : State) (a : Answer) → lastly full x ≡ ok st a → T full → ⊥
unfolding lastly unless check
lastly_ok full (refused r) st a p t = refused_not_ok r st a p
lastly_ok true (ok s b) st a p t = refused_not_ok TableFull st a p
lastly_ok false (ok s b) st a p t = t

pub restart-not-ten : (room : ℕ) (j : Journal) → restart_as room j ≡ refused TableFull → ⊥
unfolding restart_as is_tenth number_of
restart-not-ten room (journal n β lines) p = ok_not-ten _ _ p
restart-not-ten room no_journal p = differs BadLog refl (refused_same BadLog TableFull p)

finish-not-ten : (x : Option Operation) (st : State) → finish_found x st ≡ refused TableFull → ⊥
unfolding finish_found finished is_tenth number_of
finish-not-ten none st p = differs WrongState refl (refused_same WrongState TableFull p)
finish-not-ten (some x) st p = unless-not-ten _ _ (check-not-ten _ NoRoom none refl none_not-ten) (ok_not-ten _ _) p

perform_why : (full : Bool) (c : Call) (st : State) → perform_when full c st ≡ refused TableFull → T (meets full c st)
unfolding perform_when add_when redo_when redo_read_when cut_when changeover_when trim_refusal finish withdraw withdraw_refusal persistent stable
    stable_refusal show end delivered is_tenth number_of
perform_why full (Add i us) st p =
    chain_why (add_before i us st) (full || table_full st) none (added i us st) (add_settles i us st) none_not-ten (ok_not-ten _ _) p
perform_why full (Finish i) st p =
    unless-not-ten _ _ (check-not-ten _ OutOfTurn none refl none_not-ten) (finish-not-ten (find (in_progress i) st.pending) st) p
perform_why full (Withdraw i) st p =
    unless-not-ten _ _ (check-not-ten _ OutOfTurn _ refl (check-not-ten _ WrongState none refl none_not-ten)) (ok_not-ten _ _) p
perform_why full (Persistent n) st p = unless-not-ten _ _ (check-not-ten _ AboveLimit none refl none_not-ten) (ok_not-ten _ _) p
perform_why full (Stable n) st p =
    unless-not-ten _ _
    (check-not-ten _ OutOfTurn _ refl (check-not-ten _ NoRoom _ refl (check-not-ten _ AboveLimit none refl none_not-ten)))
    (ok_not-ten _ _) p
perform_why full (Show h) st p = unless-not-ten _ _ (check-not-ten _ NoSuchHistory none refl none_not-ten) (ok_not-ten _ _) p
perform_why full (Cut k room) st p =
    lastly_why full (restart_as room (read_log (take k (log_bytes st)))) (restart-not-ten room (read_log (take k (log_bytes st))))
    (unless-over _ _ (check-not-ten (cut_above k room st) AboveLimit _ refl (check-not-ten (base_cut k st) BadLog none refl none_not-ten)) p)
perform_why full (Changeover n room) st p =
    lastly_why full (restart_as room (read_log (trim_text n st))) (restart-not-ten room (read_log (trim_text n st)))
    (unless-over _ _ (check-not-ten (trim_above n room st) AboveLimit _ refl
    (check-not-ten (trim_full n room st) NoRoom none refl none_not-ten)) p)
perform_why full (Redo line) st p = go (read_did line) p
  where
    go : (x : Step Did) → redo_read_when full x st ≡ refused TableFull → T (full || table_full st)
    go bad q = absurd (differs Unreadable refl (refused_same Unreadable TableFull q))
    go (got d rest) q =
        chain_why (redo_before d st) (full || table_full st) (check (log_full d st) NoRoom none) (delivered d st) (redo_settles d st)
        (check-not-ten _ NoRoom none refl none_not-ten) (ok_not-ten _ _) q
perform_why full End st p = unless-not-ten _ _ (check-not-ten _ OutOfTurn none refl none_not-ten) (ok_not-ten _ _) p

-- A call is refused 10 only if it meets the test.
pub ten_why : (full : Bool) (c : Call) (st : State) → step_when full c st ≡ refused TableFull → T (meets full c st)
unfolding step_when is_tenth number_of
ten_why full c st p = perform_why full c st (unless-over _ _ (check-not-ten (not (writable c)) Unreadable none refl none_not-ten) p)

perform_met : (full : Bool) (c : Call) (st after : State) (a : Answer) → perform_when full c st ≡ ok after a → T (meets full c st) → ⊥
unfolding perform_when add_when redo_when redo_read_when cut_when changeover_when
perform_met full (Add i us) st after a p t =
    chain_ok (add_before i us st) (full || table_full st) none (added i us st) (add_settles i us st) after a p t
perform_met full (Finish i) st after a p t = t
perform_met full (Withdraw i) st after a p t = t
perform_met full (Persistent n) st after a p t = t
perform_met full (Stable n) st after a p t = t
perform_met full (Show h) st after a p t = t
perform_met full (Cut k room) st after a p t =
    lastly_ok full (restart_as room (read_log (take k (log_bytes st)))) after a (unless_ok (cut_refusal k room st) _ after a p).1 t
perform_met full (Changeover n room) st after a p t =
    lastly_ok full (restart_as room (read_log (trim_text n st))) after a (unless_ok (trim_refusal n room st) _ after a p).1 t
perform_met full (Redo line) st after a p t = go (read_did line) p
  where
    go : (x : Step Did) → redo_read_when full x st ≡ ok after a → ⊥
    go bad q = refused_not_ok Unreadable after a q
    go (got d rest) q =
        chain_ok (redo_before d st) (full || table_full st) (check (log_full d st) NoRoom none) (delivered d st)
        (redo_settles d st) after a q t
perform_met full End st after a p t = t

-- A call that meets the test is not accepted.
pub ten_met : (full : Bool) (c : Call) (st after : State) (a : Answer) → step_when full c st ≡ ok after a → T (meets full c st) → ⊥
unfolding step_when
ten_met full c st after a p t = perform_met full c st after a (unless-check (not (writable c)) Unreadable _ after a p).1 t

-- "exactly when": a call that 01 accepts is refused 10 exactly when it meets the test.
pub ten_exactly : (full : Bool) (c : Call) (st after : State) (a : Answer) → step c st ≡ ok after a →
    step_when full c st ≡ refused TableFull ↔ T (meets full c st)
ten_exactly full c st after a e = (ten_why full c st, λ t. go t (step-ten full c st))
  where
    go : T (meets full c st) → TenOr (step_when full c st) (step c st) → step_when full c st ≡ refused TableFull
    go t (inl p) = p
    go t (inr p) = absurd (ten_met full c st after a (p ∙ e) t)
