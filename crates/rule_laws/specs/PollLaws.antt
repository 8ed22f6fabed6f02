-- The number of a history's future, in-progress and volatile updates: 0 exactly if the history is dry, and what each call makes of it.
use Rattle.std.specs.Prelude.{◌≡◌, refl, Bool, true, false, cond, not, ◌&&◌, ◌||◌, List, [], ◌∷◌, ◌++◌, map, ℕ, zero, suc, ◌+◌, ◌-◌, ◌≤◌, ◌<◌, T, leb, eqb, length, take, drop}
use Rattle.std.proofs.Common.{sym, ap, ap₂, subst, ◌∙◌, arith, ne_eqb, eqb→eq, length-drop, take-append-drop}
use Rattle.std.proofs.lemmas.List.{map-append, drop-append-le}
use mathlib.Core.List.Memᴰ
use mathlib.Core.List.Memᴰ.{head as here}
use mathlib.Core.List.Memᴰ.{tail as there}
use mathlib.Core.List.{Memᴰ as Mem}
use Rattle.std.proofs.Math.Option.{Option, none}
use Rattle.std.proofs.Math.Dec.{eqb_refl}
use Rattle.forms.specs.Lists.{any, keep, sum}
use Rattle.forms.specs.ListLaws.{Nodup, nodup_right, nodup_mid, mem_split, mem_along, sum-append, sum_mid, keep_append, keep_all, T_true}
use Rattle.forms.specs.ListLaws.{true_T}
use Rattle.forms.specs.Forms.{Base, Update, Change, Did, Line}
use Rattle.rules.specs.Log.{dids}
use Rattle.forms.specs.declared.Refusal.TheVariants.{NoSuchHistory}
use Rattle.rules.specs.Book.{base_of, touches}
use Rattle.rules.specs.Checks.{changes_refusal}
use Rattle.forms.specs.Limits.{live_limit}
use Rattle.rules.specs.State.{Operation, State, start_of, done_in, asks, dry, live, live_done, with_pending, with_log, with_waiting}
use Rattle.rules.specs.State.{with_marks}
use Rattle.rules.specs.Calls.{attempt, try_all, overtaken, not_overtaken, arrived, change_of, line_of, without, restarted}
use Rattle.rule_laws.specs.Good.{Good, operation_ids, did_ids}
use Rattle.rule_laws.specs.CheckLaws.{formed_updates, formed_changes}
use Rattle.rule_laws.specs.PendingLaws.{try_same}
use Rattle.rules.specs.Poll.{volatile, tell, asks_in, changes_in, busy, PollRefused, PollDry, PollBusy, poll}

-- ### None of them, and a number that is 0

-- a sum is 0 exactly if both parts are
both_zero : (a b : ℕ) → (eqb a 0 && eqb b 0) ≡ eqb (a + b) 0
both_zero zero b = let z : b ≡ 0 + b = omega arith in ap (λ (n : ℕ). eqb n 0) z
both_zero (suc a) b =
    ap (λ (t : Bool). t && eqb b 0) (ne_eqb (suc a) 0 (λ e. omega (arith, e)))
    ∙ sym (ne_eqb (suc a + b) 0 (λ e. omega (arith, e)))

not-or : (a b : Bool) → not (a || b) ≡ (not a && not b)
not-or true b = refl
not-or false b = refl

-- No element passes a test exactly if the numbers that say so add up to 0.
none_sum : {A : Type 0} (p : A → Bool) (n : A → ℕ) → ((x : A) → not (p x) ≡ eqb (n x) 0) → (l : List A) → not (any p l) ≡ eqb (sum n l) 0
none_sum p n is [] = refl
none_sum p n is (x ∷ l) =
    not-or (p x) (any p l)
    ∙ ap₂ (λ (a b : Bool). a && b) (is x) (none_sum p n is l)
    ∙ both_zero (n x) (sum n l)

tells : (b : Bool) → not b ≡ eqb (tell b) 0
tells true = refl
tells false = refl

-- "dry: no future, in-progress or volatile update", by the number
pub dry_is : (st : State) (h : ℕ) → dry st h ≡ eqb (busy st h) 0
unfolding dry busy asks touches asks_in changes_in
dry_is st h =
    ap₂ (λ (a b : Bool). a && b)
    (none_sum (asks h) (asks_in h) (λ x. none_sum (λ (u : Update). eqb u.history h) (λ u. tell (eqb u.history h))
    (λ u. tells (eqb u.history h)) x.updates) st.pending)
    (none_sum (touches h) (changes_in h)
    (λ d. none_sum (λ (x : Change). eqb x.history h) (λ x. tell (eqb x.history h)) (λ x. tells (eqb x.history h)) d.changes)
    (volatile st))
    ∙ both_zero (sum (asks_in h) st.pending) (sum (changes_in h) (volatile st))

-- The poll by the number alone.
pub poll_is : (h : ℕ) (st : State) → poll h st ≡ cond (leb st.histories h) (PollRefused NoSuchHistory)
    (cond (eqb (busy st h) 0) PollDry PollBusy)
unfolding poll
poll_is h st = ap (λ (b : Bool). cond (leb st.histories h) (PollRefused NoSuchHistory) (cond b PollDry PollBusy)) (dry_is st h)

-- ### What each call makes of the number

sum-map : {A : Type 0} (f : A → ℕ) (l : List A) → sum (λ (n : ℕ). n) (map f l) ≡ sum f l
sum-map f [] = refl
sum-map f (x ∷ l) = ap (λ (n : ℕ). f x + n) (sum-map f l)

-- Tries change no update.
pub asks_tried : (σ : Base) (h : ℕ) (log : List Did) (xs : List Operation) → sum (asks_in h) (try_all σ log xs) ≡ sum (asks_in h) xs
unfolding asks_in attempt
asks_tried σ h log xs =
    sym (sum-map (asks_in h) (try_all σ log xs))
    ∙ ap (sum (λ (n : ℕ). n)) (try_same σ (asks_in h) log (λ others x. refl) xs)
    ∙ sum-map (asks_in h) xs

-- A line has an update in the histories of its operation.
pub line-asks : (σ : Base) (h : ℕ) (log : List Did) (x : Operation) → changes_in h (line_of σ log x) ≡ asks_in h x
unfolding changes_in asks_in line_of change_of
line-asks σ h log x = go x.updates
  where
    go : (us : List Update) →
        sum (λ (y : Change). tell (eqb y.history h)) (map (change_of σ log) us) ≡ sum (λ (u : Update). tell (eqb u.history h)) us
    go [] = refl
    go (u ∷ us) = ap (λ (n : ℕ). tell (eqb u.history h) + n) (go us)

-- An operation added: its updates more.
pub busy-added : (i : ℕ) (us : List Update) (st : State) (h : ℕ) →
    busy (with_pending (try_all (start_of st) st.log (arrived i us st)) st) h ≡ busy st h + asks_in h
    (record { id = i; updates = us; running = false })
unfolding busy arrived
busy-added i us st h =
    let x : Operation = record { id = i; updates = us; running = false } in
    omega (arith, (asks_tried (start_of st)) h st.log (st.pending ++ (x ∷ [])), sum-append (asks_in h) st.pending (x ∷ []))

-- Without the one of distinct ids: the others, as they stood.
pub without_mid : (a : List Operation) (x : Operation) (b : List Operation) → Nodup (operation_ids (a ++ x ∷ b)) →
    without x.id (a ++ x ∷ b) ≡ a ++ b
unfolding without
without_mid a x b once =
    keep_append other a (x ∷ b)
    ∙ ap₂ (λ (k l : List Operation). k ++ l) (keep_all other a (λ y m. away y (Memᴰ.append_left b m)))
    (rw (T_true (eqb x.id x.id) (eqb_refl x.id)) (keep_all other b (λ y m. away y (Memᴰ.append_right a m))))
  where
    other : Operation → Bool
    other y = not (eqb y.id x.id)

    ids : Operation → ℕ
    ids y = y.id

    apart : Mem x.id (operation_ids (a ++ b)) → ⊥
    apart m =
        (nodup_mid (operation_ids a) x.id (operation_ids b) (subst Nodup (map-append ids a (x ∷ b)) once)).0
        (mem_along (map-append ids a b) m)

    away : (y : Operation) → Mem y (a ++ b) → T (other y)
    away y m = rw (ne_eqb y.id x.id (λ e. apart (subst (λ (n : ℕ). Mem n (operation_ids (a ++ b))) e (Memᴰ.map ids m)))) tt

-- One of distinct ids taken out: its updates fewer.
pub asks-without : (h : ℕ) (x : Operation) (xs : List Operation) → Nodup (operation_ids xs) → Mem x xs →
    sum (asks_in h) (without x.id xs) + asks_in h x ≡ sum (asks_in h) xs
asks-without h x xs once m = go (mem_split m)
  where
    go : (a : List Operation) × (b : List Operation) × (xs ≡ a ++ x ∷ b) →
        sum (asks_in h) (without x.id xs) + asks_in h x ≡ sum (asks_in h) xs
    go (a, b, e) =
        let w : without x.id xs ≡ a ++ b = ap (without x.id) e
        ∙ without_mid a x b (subst (λ (l : List Operation). Nodup (operation_ids l)) e once) in
        omega (arith, ap (sum (asks_in h)) w, ap (sum (asks_in h)) e, sum_mid (asks_in h) a x b)

-- the ids of pending operations are distinct
pub pending_once : (st : State) → Good st → Nodup (operation_ids st.pending)
pending_once st G =
    nodup_right (did_ids st.waiting) (operation_ids st.pending)
    (nodup_right (did_ids (live_done st)) (did_ids st.waiting ++ operation_ids st.pending) G.ids)

-- An operation withdrawn: its updates fewer.
pub busy_withdrawn : (st : State) (x : Operation) (h : ℕ) → Good st → Mem x st.pending →
    busy (with_pending (without x.id st.pending) st) h + asks_in h x ≡ busy st h
unfolding busy
busy_withdrawn st x h G m = omega (arith, asks-without h x st.pending (pending_once st G) m)

-- What is done is volatile: lines behind the log add their updates.
volatile-more : (h p : ℕ) (log more : List Did) → p ≤ length log →
    sum (changes_in h) (drop p (log ++ more)) ≡ sum (changes_in h) (drop p log) + sum (changes_in h) more
volatile-more h p log more le = ap (sum (changes_in h)) (drop-append-le p log more le) ∙ sum-append (changes_in h) (drop p log) more

-- What a test leaves out and what it keeps add up to all of it.
sum-parts : {A : Type 0} (n : A → ℕ) (p : A → Bool) (l : List A) → sum n (keep (λ (x : A). not (p x)) l) + sum n (keep p l) ≡ sum n l
sum-parts n p [] = refl
sum-parts {A} n p (x ∷ l) = go (p x) (sum-parts n p l)
  where
    go : (b : Bool) → sum n (keep (λ (y : A). not (p y)) l) + sum n (keep p l) ≡ sum n l →
        sum n (cond (not b) (x ∷ keep (λ (y : A). not (p y)) l) (keep (λ (y : A). not (p y)) l)) + sum n (cond b (x ∷ keep p l) (keep p l))
        ≡ n x + sum n l
    go true e = omega (arith, e)
    go false e = omega (arith, e)

-- A finish: the updates that were in progress are volatile, those of the operations overtaken count no more. (They are dropped before the
-- tries here, which comes to the same: `drop-before_tries`.)
pub busy-finished : (st : State) (x : Operation) (h : ℕ) → Good st → Mem x st.pending →
    (let log = st.log ++ (line_of (start_of st) st.log x ∷ []) in
    let left = without x.id st.pending in
    busy (with_log log (with_pending (try_all (start_of st) log (not_overtaken (start_of st) log left)) st)) h + sum (asks_in h)
    (keep (overtaken (start_of st) log) left) ≡ busy st h)
unfolding busy not_overtaken
busy-finished st x h G m =
    let log = st.log ++ (line_of (start_of st) st.log x ∷ []) in
    let left = without x.id st.pending in
    omega (
      arith,
      sum-parts (asks_in h) (overtaken (start_of st) log) left,
      asks_tried (start_of st) h log (keep (λ (y : Operation). not (overtaken (start_of st) log y)) left),
      asks-without h x st.pending (pending_once st G) m,
      volatile-more h (st.persistent_to - (start_of st).up_to) st.log (line_of (start_of st) st.log x ∷ [])
          (omega (arith, G.persistent_below)),
      line-asks (start_of st) h st.log x,
    )

-- A redo: the updates of the lines that ran more; lines that wait do not count.
pub busy_redone : (st : State) (more waiting : List Did) (h : ℕ) → st.persistent_to ≤ done_in st →
    busy (with_log (st.log ++ more) (with_waiting waiting st)) h ≡ busy st h + sum (changes_in h) more
unfolding busy
busy_redone st more waiting h le = omega (arith, volatile-more h (st.persistent_to - (start_of st).up_to) st.log more (omega arith))

-- What stands from a position on, in two parts.
pub drop-take : {A : Type 0} (p q : ℕ) (l : List A) → p ≤ q → drop p l ≡ drop p (take q l) ++ drop q l
drop-take zero q l le = sym (take-append-drop q l)
drop-take (suc p) zero l le = absurd (omega arith)
drop-take (suc p) (suc q) [] le = refl
drop-take (suc p) (suc q) (x ∷ l) le = drop-take p q l (omega arith)

-- Persistent: the updates of the lines that are volatile no longer fewer.
pub busy-persistent : (st : State) (q s h : ℕ) → st.persistent_to ≤ q →
    busy (with_marks q s st) h + sum (changes_in h)
    (drop (st.persistent_to - (start_of st).up_to) (take (q - (start_of st).up_to) st.log)) ≡ busy st h
unfolding busy
busy-persistent st q s h le =
    let p = st.persistent_to - (start_of st).up_to in
    let q = q - (start_of st).up_to in
    omega (
      arith,
      ap (sum (changes_in h)) (drop-take p q st.log (omega arith)),
      sum-append (changes_in h) (drop p (take q st.log)) (drop q st.log),
    )

drop_all : {A : Type 0} (l : List A) → drop (length l) l ≡ []
drop_all [] = refl
drop_all (x ∷ l) = drop_all l

-- "After restart all are 0."
pub busy-restarted : (room n : ℕ) (β : Option Base) (lines : List Line) (h : ℕ) → busy (restarted room n β lines) h ≡ 0
unfolding busy restarted
busy-restarted room n β lines h =
    let q : (base_of β).up_to + length (dids lines) - (base_of β).up_to ≡ length (dids lines) = omega arith in
    omega (arith, ap (λ (i : ℕ). sum (changes_in h) (drop i (dids lines))) q, ap (sum (changes_in h)) (drop_all (dids lines)))

-- ### How large it can be

-- A history that no other has counts at most once.
once_few : {A : Type 0} (f : A → ℕ) (h : ℕ) (l : List A) → Nodup (map f l) → sum (λ (x : A). tell (eqb (f x) h)) l ≤ 1
once_few f h [] once = omega arith
once_few f h (x ∷ l) once = go (eqb (f x) h) refl (once_few f h l once.1)
  where
    rest : eqb (f x) h ≡ true → sum (λ y. tell (eqb (f y) h)) l ≡ 0
    rest e = none l (λ m. once.0 (subst (λ (k : ℕ). Mem k (map f l)) (sym (eqb→eq (f x) h (true_T (eqb (f x) h) e))) m))
      where
        none : (k : List _) → (Mem h (map f k) → ⊥) → sum (λ y. tell (eqb (f y) h)) k ≡ 0
        none [] out = refl
        none (y ∷ k) out = omega (arith, ap tell (ne_eqb (f y) h (λ e. out (here (sym e)))), none k (λ m. out (there m)))

    go : (b : Bool) → eqb (f x) h ≡ b → sum (λ y. tell (eqb (f y) h)) l ≤ 1 → tell b + sum (λ y. tell (eqb (f y) h)) l ≤ 1
    go true e below = omega (arith, rest e)
    go false e below = omega (arith, below)

-- a history that one of them has is among the first n, when theirs are
known_low : {A : Type 0} (f : A → ℕ) (n h : ℕ) (l : List A) → ((x : A) → Mem x l → f x < n) → 1 ≤ sum (λ (x : A). tell (eqb (f x) h)) l →
    h < n
known_low f n h [] low some = absurd (let z : 1 ≤ 0 = some in omega arith)
known_low f n h (x ∷ l) low some = by (eqb (f x) h) refl (known_low f n h l (λ y m. low y (there m))) some
  where
    by : (b : Bool) → eqb (f x) h ≡ b → (1 ≤ sum (λ y. tell (eqb (f y) h)) l → h < n) → 1 ≤ tell b + sum (λ y. tell (eqb (f y) h)) l → h < n
    by true e rest l = omega (arith, eqb→eq (f x) h (true_T (eqb (f x) h) e), low x (here refl))
    by false e rest l = rest (omega (arith, l))

-- A line that passed 2 to 5 counts at most once in a history, and not at all in one that is not there.
module _ (n h : ℕ) (d : Did) (formed : changes_refusal n d.changes ≡ none) where
  pub line_once : changes_in h d ≤ 1
  unfolding changes_in
  line_once = once_few (λ (x : Change). x.history) h d.changes (formed_changes n d.changes formed).once

  pub line_known : 1 ≤ changes_in h d → h < n
  unfolding changes_in
  line_known some = known_low (λ (x : Change). x.history) n h d.changes (formed_changes n d.changes formed).known some

-- .. so too of some lines
pub lines-known : (n h : ℕ) (ds : List Did) → ((d : Did) → Mem d ds → changes_refusal n d.changes ≡ none) → 1 ≤ sum (changes_in h) ds →
    h < n
lines-known n h [] formed some = absurd (let z : 1 ≤ 0 = some in omega arith)
lines-known n h (d ∷ ds) formed some =
    by (changes_in h d) refl (line_known n h d (formed d (here refl))) (lines-known n h ds (λ x m. formed x (there m))) some
  where
    by : (k : ℕ) → changes_in h d ≡ k → (1 ≤ changes_in h d → h < n) → (1 ≤ sum (changes_in h) ds → h < n) →
        1 ≤ changes_in h d + sum (changes_in h) ds → h < n
    by zero e one rest l = rest (omega (arith, e, l))
    by (suc k) e one rest l = one (omega (arith, e))

-- A live operation counts at most once, a line that waits not at all.
pub busy-live : (st : State) (h : ℕ) → Good st → busy st h + length st.waiting ≤ live st
unfolding busy asks_in changes_in live live_done
busy-live st h G =
    omega (
      arith,
      G.left_below,
      G.stable_below,
      few (asks_in h) st.pending asked,
      few (changes_in h) (volatile st) changed,
      length-drop (st.persistent_to - (start_of st).up_to) st.log,
      length-drop (st.left_to - (start_of st).up_to) st.log,
    )
  where
    few : {A : Type 0} (n : A → ℕ) (l : List A) → ((x : A) → Mem x l → n x ≤ 1) → sum n l ≤ length l
    few n [] one = omega arith
    few n (x ∷ l) one = let a = one x (here refl) in let b = few n l (λ y m. one y (there m)) in omega arith

    asked : (x : Operation) → Mem x st.pending → asks_in h x ≤ 1
    asked x m = once_few (λ (u : Update). u.history) h x.updates
        (formed_updates st.histories x.updates (G.pending_formed x m).passes).once

    changed : (d : Did) → Mem d (volatile st) → changes_in h d ≤ 1
    changed d m =
        line_once st.histories h d
        (G.formed d (mem_along (take-append-drop (st.persistent_to - (start_of st).up_to) st.log)
        (Memᴰ.append_right (take (st.persistent_to - (start_of st).up_to) st.log) m))).passes

-- "each at most 64"
pub busy_few : (st : State) (h : ℕ) → Good st → busy st h ≤ live_limit
busy_few st h G = omega (arith, G.few, busy-live st h G)
