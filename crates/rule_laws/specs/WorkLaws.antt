-- Add, finish and withdraw keep the invariant.
use Rattle.std.specs.Prelude.{◌≡◌, refl, ◌⊎◌, Bool, true, false, cond, not, List, [], ◌∷◌, ◌++◌, ℕ, ◌+◌, ◌-◌, ◌≤◌, ◌<◌, T, eqb, length, drop}
use Rattle.std.proofs.Common.{sym, ap, ◌∙◌, subst, inl, inr, arith, T_not, length-append, length-drop}
use mathlib.Core.List.Memᴰ
use Rattle.std.proofs.lemmas.List.{map-append}
use mathlib.Core.List.Memᴰ.{head as here}
use mathlib.Core.List.Memᴰ.{tail as there}
use mathlib.Core.List.{Memᴰ as Mem}
use Rattle.std.proofs.Math.Option.{Option, none, some}
use Rattle.std.proofs.Math.Dec.{eqb_refl}
use Rattle.forms.specs.Decimal.{top}
use Rattle.forms.specs.Lists.{all, any, keep, find, sum}
use Rattle.forms.specs.ListLaws.{Nodup, nodup_right, nodup_apart, mem_along, mem_snoc, mem_of_keep, length-keep, length-keep_less, true_T}
use Rattle.forms.specs.ListLaws.{and_right, all-at}
use Rattle.forms.specs.Forms.{Update, Did, Answer, did_line}
use Rattle.forms.specs.declared.Refusal.TheVariants.{NothingOrders, IdPending, AlreadyDone, ReadOvertaken, HighestVersion, TableFull}
use Rattle.forms.specs.declared.Refusal.TheVariants.{WrongState, NoRoom, OutOfTurn}
use Rattle.forms.specs.Limits.{live_limit}
use Rattle.rules.specs.State.{Operation, State, ok, log_bytes, start_of, live_done, live, line_bytes, with_pending, with_log, lines_in}
use Rattle.rules.specs.Calls.{may_run_now, try_all, never_now, holds_never, overtaken, not_overtaken, id_pending, id_done, already_done}
use Rattle.rules.specs.Calls.{table_full}
use Rattle.rules.specs.Calls.{add_refusal, arrived, add, line_of, in_progress, without, log_full, finished, finish_found, finish}
use Rattle.rules.specs.Calls.{withdraw_refusal}
use Rattle.rules.specs.Calls.{withdraw}
use Rattle.rules.specs.Calls.{writable_update}
use Rattle.rule_laws.specs.Good.{Good, FormedDid, FormedOperation, did_ids, operation_ids, Rises}
use Rattle.rule_laws.specs.FitLaws.{length-grown, few_did_lines}
use Rattle.rule_laws.specs.HeadLaws.{head_low, head_places}
use Rattle.rules.specs.Book.{start_cell}
use Rattle.rule_laws.specs.CheckLaws.{refused_not_ok, check_none, and_then_none, unless_ok, unless-check}
use Rattle.rule_laws.specs.CheckLaws.{not-lt, not-le, or_false_left}
use Rattle.rule_laws.specs.CheckLaws.{or_false_right}
use Rattle.rule_laws.specs.WeaveLaws.{weave-append, mark-dids, rises-did}
use Rattle.rules.specs.Log.{weave, mark}
use Rattle.rule_laws.specs.BookLaws.{each_once, ran_snoc}
use Rattle.rule_laws.specs.PendingLaws.{Pending, unblocked_apart, apart_unblocked, pending_try, pending_part, pending_more, try_ids}
use Rattle.rule_laws.specs.PendingLaws.{try_length}
use Rattle.rule_laws.specs.OvertakenLaws.{stay_no_never, added_no_never, drop-before_tries}
use Rattle.rule_laws.specs.FinishLaws.{line-runs, line-good, still_may}
use Rattle.rule_laws.specs.IdLaws.{Fresh, fresh_tested, ids-without, ids_snoc, ids_pend, ids_do}

-- An accepted call's state is the one that it was shown to give.
pub good_ok : (s t : State) (a b : Answer) → ok s a ≡ ok t b → Good s → Good t
good_ok s t a b e G = let p : s ≡ t = cc in subst Good p G

pub true_not_false : (b : Bool) → b ≡ true → b ≡ false → ⊥
true_not_false b p q = let z : ◌≡◌ {A = ℕ} 0 1 = cc in omega arith

-- ### Other pending operations

good_pending : (st : State) → Good st → Pending (start_of st) st.histories (operation_ids st.pending) st.log st.pending
good_pending st G =
    record {
      ids_are = refl;
      formed = G.pending_formed;
      may = G.running;
      no_never = G.no_never;
      apart = unblocked_apart st.pending G.apart;
    }

module _ (st : State) (xs : List Operation) where
  -- The same site with other pending operations.
  good_with : Good st → st.restoring ≡ false → Pending (start_of st) st.histories (operation_ids xs) st.log xs →
      length st.waiting + length xs + length (live_done st) ≤ live_limit →
      Nodup (did_ids (live_done st) ++ (did_ids st.waiting ++ operation_ids xs)) → Good (with_pending xs st)
  unfolding live live_done log_bytes
  good_with G off P few ids =
      record {
        histories = G.histories;
        head = G.head;
        formed = G.formed;
        ran = G.ran;
        waiting_formed = G.waiting_formed;
        quiet = G.quiet;
        fits = G.fits;
        room_limit = G.room_limit;
        rises = G.rises;
        below = G.below;
        base_below = G.base_below;
        left_below = G.left_below;
        stable_below = G.stable_below;
        persistent_below = G.persistent_below;
        few = few;
        ids = ids;
        idle = λ on. absurd (true_not_false st.restoring on off);
        nobody_waits = G.nobody_waits;
        pending_formed = P.formed;
        running = P.may;
        no_never = P.no_never;
        apart =
            apart_unblocked (start_of st) st.histories (operation_ids xs) st.log xs P
            (nodup_right (did_ids st.waiting) (operation_ids xs)
            (nodup_right (did_ids (live_done st)) (did_ids st.waiting ++ operation_ids xs) ids));
      }

-- "the future operations are tried once"
good_tried : (st : State) → Good st → st.restoring ≡ false → Good (with_pending (try_all (start_of st) st.log st.pending) st)
unfolding live
good_tried st G off =
    let n = st.histories in
    let log = st.log in
    let xs = st.pending in
    good_with st (try_all (start_of st) log xs) G off
    (subst (λ (ids : List ℕ). Pending (start_of st) n ids log (try_all (start_of st) log xs)) (sym (try_ids (start_of st) log xs))
    (pending_try (start_of st) n (operation_ids xs) log xs (good_pending st G)))
    (omega (arith, G.few, try_length (start_of st) st.log st.pending))
    (subst (λ (ids : List ℕ). Nodup (did_ids (live_done st) ++ (did_ids st.waiting ++ ids))) (sym (try_ids (start_of st) log xs)) G.ids)

-- ### Add

add-good : (i : ℕ) (us : List Update) (st : State) → Good st → st.restoring ≡ false →
    FormedOperation st.histories (record { id = i; updates = us; running = false }) → id_pending i st ≡ false →
    id_done i st ≡ false → (T (any (never_now (start_of st) st.log) us) → ⊥) → live st < live_limit → Good (with_pending (arrived i us st) st)
unfolding arrived live holds_never
add-good i us st G off F e7 e8 never e10 =
    good_with st (st.pending ++ x ∷ []) G off
    (subst (λ (ids : List ℕ). Pending (start_of st) st.histories ids st.log (st.pending ++ x ∷ [])) (sym more)
    (pending_more (start_of st) st.histories (operation_ids st.pending) st.log st.pending x (good_pending st G) F refl never))
    (omega (arith, length-append st.pending (x ∷ [])))
    (subst (λ (ids : List ℕ). Nodup (did_ids (live_done st) ++ (did_ids st.waiting ++ ids))) (sym more)
    (ids_pend i (did_ids (live_done st)) (did_ids st.waiting) (operation_ids st.pending) (fresh_tested i st e7 e8) G.ids))
  where
    x : Operation
    x = record { id = i; updates = us; running = false }

    more : operation_ids (st.pending ++ x ∷ []) ≡ operation_ids st.pending ++ i ∷ []
    more = map-append (λ (y : Operation). y.id) st.pending (x ∷ [])

pub good-add : (i : ℕ) (us : List Update) (st st' : State) (a : Answer) → Good st → i ≤ top → T (all writable_update us) →
    add i us st ≡ ok st' a → Good st'
unfolding add add_refusal table_full
good-add i us st st' a G le w e =
    let q = unless_ok _ _ st' a e in
    let q14 = check_none _ OutOfTurn _ q.0 in
    let q25 = and_then_none _ _ q14.1 in
    let q6 = check_none _ NothingOrders _ q25.1 in
    let q7 = check_none _ IdPending _ q6.1 in
    let q8 = check_none _ AlreadyDone _ q7.1 in
    let q9 = check_none _ ReadOvertaken _ q8.1 in
    let q17 = check_none _ HighestVersion _ q9.1 in
    let q10 = check_none _ TableFull _ q17.1 in
    let F : FormedOperation st.histories (record { id = i; updates = us; running = false }) =
    record { passes = q25.0; orders = q6.0; id = le; writable = all-at writable_update us w } in
    good_ok _ st' _ a q.1
    (good_tried (with_pending (arrived i us st) st)
    (add-good i us st G q14.0 F q7.0 (or_false_left (id_done i st) (any (already_done st) us) q8.0)
    (added_no_never st us (or_false_right (id_done i st) (any (already_done st) us) q8.0) q9.0 q17.0)
    (not-le live_limit (live st) q10.0))
    q14.0)

-- ### Withdraw

-- What is left of the pending operations may still run.
pending_without : (i : ℕ) (st : State) → Good st →
    Pending (start_of st) st.histories (operation_ids (without i st.pending)) st.log (without i st.pending)
unfolding without
pending_without i st G =
    let f : Operation → Bool = λ x. not (eqb x.id i) in
    pending_part (start_of st) st.histories (operation_ids st.pending) st.log st.pending (keep f st.pending) st.log
    (good_pending st G)
    (λ y k. (mem_of_keep f st.pending k).0)
    (λ y k r. G.running y (mem_of_keep f st.pending k).0 r)
    (λ y k t. G.no_never y (mem_of_keep f st.pending k).0 t)

pub good-withdraw : (i : ℕ) (st st' : State) (a : Answer) → Good st → withdraw i st ≡ ok st' a → Good st'
unfolding withdraw withdraw_refusal without live
good-withdraw i st st' a G e =
    let f : Operation → Bool = λ x. not (eqb x.id i) in
    let q = unless_ok _ _ st' a e in
    let q14 = check_none _ OutOfTurn _ q.0 in
    good_ok _ st' _ a q.1
    (good_with st (without i st.pending) G q14.0 (pending_without i st G)
    (omega (arith, G.few, length-keep f st.pending))
    (ids-without (did_ids (live_done st)) (did_ids st.waiting) f st.pending G.ids))

-- ### Finish

module _ {A : Type 0} (f : A → Bool) where
  pub find_at : (l : List A) (x : A) → find f l ≡ some x → Mem x l × T (f x)
  find_at [] x e = absurd (let z : ◌≡◌ {A = ℕ} 0 1 = cc in omega arith)
  find_at (y ∷ l) x e = go (f y) refl e (λ k. find_at l x k)
    where
      up : Mem x l × T (f x) → Mem x (y ∷ l) × T (f x)
      up q = (there q.0, q.1)

      go : (b : Bool) → f y ≡ b → cond b (some y) (find f l) ≡ some x → (find f l ≡ some x → Mem x l × T (f x)) → Mem x (y ∷ l) × T (f x)
      go true p k below = let same : y ≡ x = cc in (here (sym same), subst (λ (z : A). T (f z)) same (true_T (f y) p))
      go false p k below = up (below k)

-- An operation in progress done, and taken from the pending ones, with those that it overtook.
finish-good : (st : State) (x : Operation) → Good st → Mem x st.pending → T x.running → st.restoring ≡ false →
    length (log_bytes st) + sum line_bytes st.waiting + line_bytes (line_of (start_of st) st.log x) ≤ st.room →
    (let log = st.log ++ line_of (start_of st) st.log x ∷ [] in
    Good (with_log log (with_pending (not_overtaken (start_of st) log (without x.id st.pending)) st)))
unfolding live live_done log_bytes without not_overtaken line_of
finish-good st x G at on off fits =
    record {
      histories = G.histories;
      head = G.head;
      formed = λ e k. formed_one e (mem_snoc st.log k);
      ran = ran_snoc (start_of st) st.log d G.ran (line-runs (start_of st) st.log x may);
      waiting_formed = G.waiting_formed;
      quiet = λ e k. absurd (Memᴰ.not-nil (mem_along (G.nobody_waits off) k));
      fits = omega (arith, length-grown st.histories st.base st.log (d ∷ []) st.stables G.below);
      room_limit = G.room_limit;
      rises = subst (Rises (start_of st)) (sym lines') (rises-did (start_of st) (lines_in st) d G.rises);
      below = λ s k. let le = G.below s k in omega (arith, length-append st.log (d ∷ []));
      base_below = G.base_below;
      left_below = omega (arith, G.left_below, mark');
      stable_below = omega (arith, G.stable_below, mark');
      persistent_below = omega (arith, G.persistent_below, length-append st.log (d ∷ []));
      few =
          omega (
            arith,
            G.few,
            length-append st.log (d ∷ []),
            length-drop (st.left_to - (start_of st).up_to) st.log,
            length-drop (st.left_to - (start_of st).up_to) log',
            length-keep_less f at gone,
            length-keep stays (keep f st.pending),
            low,
          );
      ids = ids;
      idle = λ restoring. absurd (true_not_false st.restoring restoring off);
      nobody_waits = G.nobody_waits;
      pending_formed = P.formed;
      running = P.may;
      no_never = P.no_never;
      apart =
          apart_unblocked (start_of st) st.histories (operation_ids left) log' left P
          (nodup_right W (operation_ids left) (nodup_right D (W ++ operation_ids left) fewer));
    }
  where
    d : Did
    d = line_of (start_of st) st.log x

    log' : List Did
    log' = st.log ++ d ∷ []

    lines' : weave log' st.stables ≡ lines_in st ++ did_line d ∷ []
    lines' = weave-append st.log (d ∷ []) st.stables G.below

    mark' : mark (start_of st) (weave log' st.stables) ≡ mark (start_of st) (lines_in st)
    mark' = ap (mark (start_of st)) lines' ∙ mark-dids (start_of st) (lines_in st) (d ∷ [])

    f : Operation → Bool
    f y = not (eqb y.id x.id)

    stays : Operation → Bool
    stays y = not (overtaken (start_of st) log' y)

    left : List Operation
    left = keep stays (keep f st.pending)

    -- one that is left was there before, and was not the one done
    from : (y : Operation) → Mem y left → Mem y st.pending × T (f y)
    from y k = mem_of_keep f st.pending (mem_of_keep stays (keep f st.pending) k).0

    D : List ℕ
    D = did_ids (drop (st.left_to - (start_of st).up_to) st.log)

    W : List ℕ
    W = did_ids st.waiting

    may : T (all (may_run_now (start_of st) st.log) x.updates)
    may = G.running x at on

    low : st.left_to - (start_of st).up_to ≤ length st.log
    low = omega (arith, G.left_below, G.stable_below, G.persistent_below)

    short : (h : ℕ) → (start_cell (start_of st) h).place + length st.log < top
    short h = omega (
      arith,
      G.fits,
      G.room_limit,
      few_did_lines st.histories st.base st.log st.stables,
      head_low st.histories st.base G.head,
      head_places st.histories st.base G.head h,
    )

    formed_one : (e : Did) → (e ≡ d) ⊎ Mem e st.log → FormedDid st.histories e
    formed_one e (inl p) =
        subst (FormedDid st.histories) (sym p)
        (line-good (start_of st) st.histories st.log x (each_once st.histories st.log G.formed) short
        (G.pending_formed x at) may)
    formed_one e (inr k) = G.formed e k

    gone : T (f x) → ⊥
    gone t = T_not (eqb x.id x.id) t (eqb_refl x.id)

    other : (y : Operation) → Mem y left → x.id ≡ y.id → ⊥
    other y k e = T_not (eqb y.id x.id) (from y k).1 (rw e (eqb_refl y.id))

    still : (y : Operation) → Mem y left → T y.running → T (all (may_run_now (start_of st) log') y.updates)
    still y k r =
        let q = (from y k).0 in
        still_may (start_of st) st.log x y (unblocked_apart st.pending G.apart x y at q (other y k) on r) (G.running y q r)

    P : Pending (start_of st) st.histories (operation_ids left) log' left
    P =
        pending_part (start_of st) st.histories (operation_ids st.pending) st.log st.pending left log' (good_pending st G)
        (λ y k. (from y k).0)
        still
        (λ y k. stay_no_never (start_of st) log' y (mem_of_keep stays (keep f st.pending) k).1 (still y k))

    fewer : Nodup (D ++ (W ++ operation_ids left))
    fewer = ids-without D W stays (keep f st.pending) (ids-without D W f st.pending G.ids)

    mine : Mem x.id (operation_ids st.pending)
    mine = Memᴰ.map (λ (y : Operation). y.id) at

    out : (y : Operation) × Mem y left × (y.id ≡ x.id) → ⊥
    out (y, k, e) = other y k (sym e)

    fresh : Fresh x.id D W (operation_ids left)
    fresh =
        record {
          done = λ k. nodup_apart D G.ids k (Memᴰ.append_right W mine);
          waits = λ k. nodup_apart W (nodup_right D (W ++ operation_ids st.pending) G.ids) k mine;
          pends = λ k. out (Memᴰ.of_map (λ (y : Operation). y.id) left k);
        }

    ids : Nodup (did_ids (drop (st.left_to - (start_of st).up_to) log') ++ (W ++ operation_ids left))
    ids =
        rw (ids_snoc (λ (e : Did). e.id) (st.left_to - (start_of st).up_to) st.log d low)
        (ids_do x.id D W (operation_ids left) fresh fewer)

pub good-finish : (i : ℕ) (st st' : State) (a : Answer) → Good st → finish i st ≡ ok st' a → Good st'
unfolding finish finish_found finished in_progress log_full
good-finish i st st' a G e =
    let q = unless-check _ OutOfTurn _ st' a e in
    go (find (in_progress i) st.pending) refl q.0 q.1
  where
    go : (o : Option Operation) → find (in_progress i) st.pending ≡ o → st.restoring ≡ false → finish_found o st ≡ ok st' a → Good st'
    go none p off r = absurd (refused_not_ok WrongState st' a r)
    go (some x) p off r =
        let b = unless-check _ NoRoom _ st' a r in
        let k = find_at (in_progress i) st.pending x p in
        let log = st.log ++ line_of (start_of st) st.log x ∷ [] in
        let left = without x.id st.pending in
        good_ok _ st' _ a b.1
        (subst (λ (xs : List Operation). Good (with_log log (with_pending xs st))) (sym (drop-before_tries (start_of st) log left).left)
        (good_tried (with_log log (with_pending (not_overtaken (start_of st) log left) st))
        (finish-good st x G k.0 (and_right (eqb x.id i) x.running k.1) off (not-lt st.room _ b.0))
        off))
