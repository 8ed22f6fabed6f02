-- Redo and end keep the invariant.
use Rattle.std.specs.Prelude.{◌≡◌, refl, ◌⊎◌, true, false, List, [], ◌∷◌, ◌++◌, map, ℕ, suc, ◌+◌, ◌-◌, ◌*◌, ◌≤◌, ◌<◌, T, length, drop}
use Rattle.std.proofs.Common.{sym, ap, ◌∙◌, subst, inl, inr, append_assoc, append-nil, arith, add-one, length-append, length-drop}
use Rattle.std.proofs.lemmas.List.{map-append}
use mathlib.Core.List.Memᴰ
use mathlib.Core.List.{Memᴰ as Mem}
use Rattle.forms.specs.Decimal.{Step}
use Rattle.forms.specs.Decimal.Step.{got, bad}
use Rattle.forms.specs.Lists.{any, sum}
use Rattle.forms.specs.ListLaws.{Nodup, nodup_right, nodup_sub, nodup_move, mem-at, mem_along, mem_snoc, mem_widen, sum_mid, sum-append}
use Rattle.forms.specs.ListLaws.{Prefix}
use Rattle.forms.specs.Forms.{Base, Did, Answer, Redone, did_line}
use Rattle.forms.specs.Reading.{read_did}
use Rattle.forms.specs.DidLaws.{read_did_read}
use Rattle.forms.specs.declared.Refusal.TheVariants.{Unreadable, IdPending, AlreadyDone, TableFull, NoRoom, OutOfTurn}
use Rattle.rules.specs.Book.{can_run}
use Rattle.forms.specs.Limits.{live_limit}
use Rattle.rules.specs.State.{State, ok, log_bytes, start_of, live_done, live, line_bytes, with_log, with_waiting, lines_in}
use Rattle.rules.specs.Calls.{id_pending, id_done, table_full, log_full, stale, redo_refusal, drain, delivered, redo_read, redo, end, Call}
use Rattle.rules.specs.Calls.{perform, step}
use Rattle.rule_laws.specs.Good.{Good, FormedDid, Ran, did_ids, operation_ids, Rises}
use Rattle.rule_laws.specs.FitLaws.{length-grown}
use Rattle.rule_laws.specs.WeaveLaws.{weave-append, mark-dids, rises-dids}
use Rattle.rules.specs.Log.{weave, mark, log_text}
use Rattle.rule_laws.specs.CheckLaws.{refused_not_ok, check_none, and_then_none, unless_ok, unless-check, not-lt, not-le, not-false}
use Rattle.rule_laws.specs.CheckLaws.{or_false_right}
use Rattle.rule_laws.specs.BookLaws.{ran_snoc}
use Rattle.rule_laws.specs.DrainLaws.{drain_keeps, drain-quiet, drain_longer, drain_examines}
use Rattle.rule_laws.specs.IdLaws.{fresh_tested, ids_snoc, ids_wait}
use Rattle.rule_laws.specs.WorkLaws.{good_ok, true_not_false}

-- ### The drain

-- What each run of a waiting line keeps, in a site of n histories with marks s and p: the lines, their bytes and their number, and the live
-- ids.
record Draining (σ : Base) (n s p bytes count : ℕ) (C : List ℕ) (old log waiting : List Did) : Type 0 where
  front : Prefix old log
  formed : (d : Did) → Mem d log → FormedDid n d
  ran : Ran σ log
  waiting_formed : (d : Did) → Mem d waiting → FormedDid n d
  weight : sum line_bytes log + sum line_bytes waiting ≡ bytes
  number : length log + length waiting ≡ count
  low : p ≤ length log
  ids : Nodup (did_ids (drop s log) ++ (did_ids waiting ++ C))

draining_one : (σ : Base) (n s p bytes count : ℕ) (C : List ℕ) (old : List Did) → s ≤ p → (log a : List Did) (d : Did) (b : List Did) →
    T (can_run σ log d) →
    Draining σ n s p bytes count C old log (a ++ d ∷ b) → Draining σ n s p bytes count C old (log ++ d ∷ []) (a ++ b)
draining_one σ n s p bytes count C old le log a d b t D =
    record {
      front = (D.front.0 ++ d ∷ [], ap {B = List Did} (λ l. l ++ d ∷ []) D.front.1 ∙ append_assoc old D.front.0 (d ∷ []));
      formed = λ e m. formed_one e (mem_snoc log m);
      ran = ran_snoc σ log d D.ran t;
      waiting_formed = λ e m. D.waiting_formed e (mem_widen d a b m);
      weight = omega (arith, D.weight, sum_mid line_bytes a d b, sum-append line_bytes log (d ∷ []));
      number = omega (arith, D.number, length-append a (d ∷ b), length-append a b, length-append log (d ∷ []));
      low = omega (arith, D.low, length-append log (d ∷ []));
      ids =
          rw (ids_snoc id s log d (omega (arith, D.low)), map-append id a b, append_assoc (map id a) (map id b) C)
          (nodup_move (map id (drop s log)) (map id a) d.id (map id b ++ C)
          (rw (map-append id a (d ∷ b), append_assoc (map id a) (d.id ∷ map id b) C) at D.ids));
    }
  where
    id : Did → ℕ
    id e = e.id

    formed_one : (e : Did) → (e ≡ d) ⊎ Mem e log → FormedDid n e
    formed_one e (inl q) = subst (FormedDid n) (sym q) (D.waiting_formed d (mem-at d a b))
    formed_one e (inr m) = D.formed e m

-- ### Redo

redo-good : (d : Did) (st : State) → Good st → FormedDid st.histories d → st.restoring ≡ true → id_pending d.id st ≡ false →
    id_done d.id st ≡ false →
    live st < live_limit → length (log_bytes st) + sum line_bytes st.waiting + line_bytes d ≤ st.room →
    (let out =
    drain (start_of st) (suc (length st.waiting)) st.log (st.waiting ++ d ∷ []) in
    Good (with_log out.log (with_waiting out.waiting st)))
unfolding live live_done log_bytes
redo-good d st G F on e7 e8 e10 e12 =
    record {
      histories = G.histories;
      head = G.head;
      formed = D.formed;
      ran = D.ran;
      waiting_formed = D.waiting_formed;
      quiet = drain-quiet (start_of st) (suc (length st.waiting)) st.log lines (omega (arith, length-append st.waiting (d ∷ [])));
      fits =
          omega (
            arith,
            D.weight,
            ap (sum line_bytes) grown,
            sum-append line_bytes st.log more,
            ap (λ (l : List Did). length (log_text st.histories st.base (weave l st.stables))) grown,
            length-grown st.histories st.base st.log more st.stables G.below,
          );
      room_limit = G.room_limit;
      rises = subst (Rises (start_of st)) (sym lines') (rises-dids (start_of st) (lines_in st) more G.rises);
      below = λ s k. let le = G.below s k in omega (arith, ap length grown, length-append st.log more);
      base_below = G.base_below;
      left_below = omega (arith, G.left_below, mark');
      stable_below = omega (arith, G.stable_below, mark');
      persistent_below = omega (arith, D.low);
      few =
          omega (
            arith,
            D.number,
            D.low,
            G.base_below,
            G.left_below,
            G.stable_below,
            G.persistent_below,
            length-drop (st.left_to - (start_of st).up_to) st.log,
            length-drop (st.left_to - (start_of st).up_to) log',
          );
      ids = D.ids;
      idle = G.idle;
      nobody_waits = λ off. absurd (true_not_false st.restoring on off);
      pending_formed = G.pending_formed;
      running = λ x m. absurd (Memᴰ.not-nil (mem_along (G.idle on) m));
      no_never = λ x m. absurd (Memᴰ.not-nil (mem_along (G.idle on) m));
      apart = G.apart;
    }
  where
    lines : List Did
    lines = st.waiting ++ d ∷ []

    log' : List Did
    log' = (drain (start_of st) (suc (length st.waiting)) st.log lines).log

    bytes : ℕ
    bytes = sum line_bytes st.log + (sum line_bytes st.waiting + line_bytes d)

    count : ℕ
    count = length st.log + suc (length st.waiting)

    C : List ℕ
    C = operation_ids st.pending

    Keeps : List Did → List Did → Type 0
    Keeps log waiting =
        Draining (start_of st) st.histories (st.left_to - (start_of st).up_to) (st.persistent_to - (start_of st).up_to) bytes count C
        st.log log waiting

    formed_new : (e : Did) → (e ≡ d) ⊎ Mem e st.waiting → FormedDid st.histories e
    formed_new e (inl p) = subst (FormedDid st.histories) (sym p) F
    formed_new e (inr k) = G.waiting_formed e k

    before : Keeps st.log lines
    before =
        record {
          front = ([], sym (append-nil st.log));
          formed = G.formed;
          ran = G.ran;
          waiting_formed = λ e k. formed_new e (mem_snoc st.waiting k);
          weight = omega (arith, sum-append line_bytes st.waiting (d ∷ []));
          number = omega (arith, length-append st.waiting (d ∷ []));
          low = omega (arith, G.persistent_below);
          ids =
              rw (map-append (λ (e : Did). e.id) st.waiting (d ∷ []))
              (ids_wait d.id (did_ids (drop (st.left_to - (start_of st).up_to) st.log)) (did_ids st.waiting) C
              (fresh_tested d.id st e7 e8) G.ids);
        }

    D : Keeps log' (drain (start_of st) (suc (length st.waiting)) st.log lines).waiting
    D =
        drain_keeps (start_of st) Keeps
        (λ log a e b t I. draining_one (start_of st) st.histories (st.left_to - (start_of st).up_to)
        (st.persistent_to - (start_of st).up_to) bytes count C st.log (omega (arith, G.left_below, G.stable_below)) log a e b t I)
        (suc (length st.waiting)) st.log lines before

    more : List Did
    more = D.front.0

    grown : log' ≡ st.log ++ more
    grown = D.front.1

    lines' : weave log' st.stables ≡ lines_in st ++ map did_line more
    lines' = ap (λ (l : List Did). weave l st.stables) grown ∙ weave-append st.log more st.stables G.below

    mark' : mark (start_of st) (weave log' st.stables) ≡ mark (start_of st) (lines_in st)
    mark' = ap (mark (start_of st)) lines' ∙ mark-dids (start_of st) (lines_in st) more

pub good-redo : (line : List ℕ) (st st' : State) (a : Answer) → Good st → redo line st ≡ ok st' a → Good st'
unfolding redo redo_read redo_refusal delivered table_full log_full
good-redo line st st' a G e = go (read_did line) refl e
  where
    go : (s : Step Did) → read_did line ≡ s → redo_read s st ≡ ok st' a → Good st'
    go bad p q = absurd (refused_not_ok Unreadable st' a q)
    go (got d rest) p q =
        let r = unless_ok _ _ st' a q in
        let r14 = check_none _ OutOfTurn _ r.0 in
        let r25 = and_then_none _ _ r14.1 in
        let r7 = check_none _ IdPending _ r25.1 in
        let r8 = check_none _ AlreadyDone _ r7.1 in
        let r10 = check_none _ TableFull _ r8.1 in
        let r12 = check_none _ NoRoom _ r10.1 in
        let F : FormedDid st.histories d = record { passes = r25.0; writable = (read_did_read line d rest p).2 } in
        good_ok _ st' _ a r.1
        (redo-good d st G F (not-false st.restoring r14.0) r7.0
        (or_false_right (any (stale st) d.changes) (id_done d.id st) r8.0)
        (not-le live_limit (live st) r10.0) (not-lt st.room _ r12.0))

-- ### How often redo looks

-- 02: "With w lines waiting, the new one included, S is at most (R + 1) × w."
pub redo_examines : (line : List ℕ) (st st' : State) (ran examined : ℕ) → step (Call.Redo line) st ≡ ok st' (Redone ran examined) →
    examined ≤ (ran + 1) * (length st.waiting + 1)
unfolding step perform redo redo_read delivered
redo_examines line st st' ran examined e = go (read_did line) (unless_ok _ _ st' _ e).1
  where
    go : (s : Step Did) → redo_read s st ≡ ok st' (Redone ran examined) → examined ≤ (ran + 1) * (length st.waiting + 1)
    go bad q = absurd (refused_not_ok Unreadable st' _ q)
    go (got d rest) q =
        let k = suc (length st.waiting) in
        let lines = st.waiting ++ d ∷ [] in
        let out = drain (start_of st) k st.log lines in
        let r : ok (with_log out.log (with_waiting out.waiting st)) (Redone (length out.log - length st.log) out.examined)
        ≡ ok st' (Redone ran examined) = (unless_ok _ _ st' _ q).1 in
        let runs : length out.log - length st.log ≡ ran = cc in
        let looks : out.examined ≡ examined = cc in
        let most : out.examined ≤ suc ran * length lines =
        drain_examines (start_of st) k st.log lines ran (omega (arith, runs, drain_longer (start_of st) k st.log lines)) in
        let w : length lines ≡ length st.waiting + 1 = length-append st.waiting (d ∷ []) in
        rw (sym looks, sym w, add-one ran) most

-- ### End

pub good-end : (st st' : State) (a : Answer) → Good st → end st ≡ ok st' a → Good st'
unfolding end live live_done log_bytes
good-end st st' a G e =
    let q = unless-check _ OutOfTurn _ st' a e in
    good_ok _ st' _ a q.1
    (record {
      histories = G.histories;
      head = G.head;
      formed = G.formed;
      ran = G.ran;
      waiting_formed = λ d k. absurd (Memᴰ.not-nil k);
      quiet = λ d k. absurd (Memᴰ.not-nil k);
      fits = omega (arith, G.fits);
      room_limit = G.room_limit;
      rises = G.rises;
      below = G.below;
      base_below = G.base_below;
      left_below = G.left_below;
      stable_below = G.stable_below;
      persistent_below = omega (arith, G.persistent_below);
      few = omega (arith, G.few);
      ids = nodup_sub D (W ++ C) C G.ids (nodup_right W C (nodup_right D (W ++ C) G.ids)) (λ i k. Memᴰ.append_right W k);
      idle = λ on. absurd (true_not_false false on refl);
      nobody_waits = λ off. refl;
      pending_formed = G.pending_formed;
      running = G.running;
      no_never = G.no_never;
      apart = G.apart;
    })
  where
    D : List ℕ
    D = did_ids (live_done st)

    W : List ℕ
    W = did_ids st.waiting

    C : List ℕ
    C = operation_ids st.pending
