-- Every call keeps the invariant, and so does every list of calls.
use Rattle.std.specs.Prelude.{◌≡◌, refl, Bool, true, false, not, ◌&&◌, ◌⊎◌, List, [], ◌∷◌, ◌++◌, ℕ, ◌+◌, ◌-◌, ◌≤◌, ◌<◌, max, T, leb, length}
use Rattle.std.proofs.Common.{sym, ap, ◌∙◌, subst, inl, inr, arith, leb→le, ltb→lt, length-drop}
use mathlib.Core.List.{Memᴰ as Mem}
use Rattle.forms.specs.Decimal.{top}
use Rattle.forms.specs.Lists.{all, sum}
use Rattle.forms.specs.ListLaws.{true_T, and_left, and_right, mem_snoc}
use Rattle.forms.specs.Forms.{Did, Answer, Line, stable_line}
use Rattle.forms.specs.declared.Refusal.TheVariants.{Unreadable, NoSuchHistory, AboveLimit, OutOfTurn, NoRoom}
use Rattle.rules.specs.State.{State, Reply, refused, ok, log_bytes, start_of, done_in, live_done, live, with_marks, settle, lines_in}
use Rattle.rules.specs.State.{stable_to, line_bytes}
use Rattle.rule_laws.specs.HeadLaws.{head_low}
use Rattle.rules.specs.State.{bytes_of, with_stables}
use Rattle.rules.specs.Calls.{open_site, restart, persistent, stable, show, Call, Add, Finish, Withdraw, Persistent, Stable, Show, Cut}
use Rattle.rules.specs.Calls.{Changeover}
use Rattle.rules.specs.Calls.{Redo, End, writable_update, above_mark, stable_full, stable_refusal, stabled}
use Rattle.rules.specs.Log.{StableAt, weave, mark, reported, log_text}
use Rattle.rule_laws.specs.WeaveLaws.{dids-weave, weave-stable, mark-stable, mark-front, rises-stable, reported-front}
use Rattle.rule_laws.specs.FitLaws.{length_log_snoc, few_did_lines}
use Rattle.rules.specs.Calls.{writable, perform, step}
use Rattle.rule_laws.specs.Good.{Good, NoNever, did_ids, operation_ids, Risen, Rises}
use Rattle.rule_laws.specs.CheckLaws.{unless-check, not-lt, not-false, check_none, unless_ok}
use Rattle.rule_laws.specs.IdLaws.{ids-later}
use Rattle.rule_laws.specs.WorkLaws.{good_ok, true_not_false, good-add, good-finish, good-withdraw}
use Rattle.rule_laws.specs.RedoLaws.{good-redo, good-end}
use Rattle.rule_laws.specs.StartLaws.{good-cut, good-changeover}
-- a site just opened, or restarted from any bytes that are accepted, has the invariant
pub use Rattle.rule_laws.specs.StartLaws.{good_open, good-restart}
use Rattle.rules.specs.Run.{run}

-- ### Marks and show

-- Marks that rise, and stay in order and within the log.
good_marks : (p t : ℕ) (st : State) → Good st → st.left_to ≤ t → t ≤ stable_to st → stable_to st ≤ p → p ≤ done_in st →
    Good (with_marks p t st)
unfolding live live_done log_bytes
good_marks p t st G up low mid high =
    record {
      histories = G.histories;
      head = G.head;
      formed = G.formed;
      ran = G.ran;
      waiting_formed = G.waiting_formed;
      quiet = G.quiet;
      fits = G.fits;
      room_limit = G.room_limit;
      rises = G.rises;
      below = G.below;
      base_below = omega (arith, G.base_below);
      left_below = low;
      stable_below = mid;
      persistent_below = high;
      few = omega (arith, G.few, length-drop (st.left_to - (start_of st).up_to) st.log, length-drop (t - (start_of st).up_to) st.log);
      ids =
          ids-later (λ (d : Did). d.id) (st.left_to - (start_of st).up_to) (t - (start_of st).up_to) (omega arith) st.log
          (did_ids st.waiting ++ operation_ids st.pending) G.ids;
      idle = G.idle;
      nobody_waits = G.nobody_waits;
      pending_formed = G.pending_formed;
      running = G.running;
      no_never = G.no_never;
      apart = G.apart;
    }

good-persistent : (n : ℕ) (st st' : State) (a : Answer) → Good st → persistent n st ≡ ok st' a → Good st'
unfolding persistent
good-persistent n st st' a G e =
    let q = unless-check _ AboveLimit _ st' a e in
    let le = not-lt (done_in st) n q.0 in
    good_ok _ st' _ a q.1
    (good_marks (max st.persistent_to n) (max st.left_to (mark (start_of st) (reported (start_of st) n (lines_in st)))) st G (omega arith)
    (omega (
      arith,
      G.left_below,
      mark-front (start_of st) (reported (start_of st) n (lines_in st)) (lines_in st) (reported-front (start_of st) n (lines_in st)) G.rises,
    ))
    (omega (arith, G.stable_below)) (omega (arith, G.persistent_below)))

-- A stable line more: its operations stay in the table.
stable-good : (n : ℕ) (st : State) → Good st → st.restoring ≡ false → stable_to st < n → n ≤ st.persistent_to →
    length (log_bytes st) + bytes_of (stable_line n) ≤ st.room →
    Good (with_stables (st.stables ++ record { behind = length st.log; up_to = n } ∷ []) st)
unfolding live live_done log_bytes
stable-good n st G off up le fits =
    record {
      histories = G.histories;
      head = G.head;
      formed = G.formed;
      ran = G.ran;
      waiting_formed = G.waiting_formed;
      quiet = G.quiet;
      fits =
          omega (
            arith,
            ap (λ (x : List Line). length (log_text st.histories st.base x)) lines',
            length_log_snoc st.histories st.base (lines_in st) (stable_line n),
            ap (sum line_bytes) (G.nobody_waits off),
          );
      room_limit = G.room_limit;
      rises = subst (Rises (start_of st)) (sym lines') (rises-stable (start_of st) (lines_in st) n G.rises risen);
      below = λ s m. one s (mem_snoc st.stables m);
      base_below = G.base_below;
      left_below = omega (arith, G.left_below, mark');
      stable_below = omega (arith, mark');
      persistent_below = G.persistent_below;
      few = G.few;
      ids = G.ids;
      idle = G.idle;
      nobody_waits = G.nobody_waits;
      pending_formed = G.pending_formed;
      running = G.running;
      no_never = G.no_never;
      apart = G.apart;
    }
  where
    ss : List StableAt
    ss = st.stables ++ record { behind = length st.log; up_to = n } ∷ []

    lines' : weave st.log ss ≡ lines_in st ++ stable_line n ∷ []
    lines' = weave-stable st.log st.stables n

    mark' : mark (start_of st) (weave st.log ss) ≡ n
    mark' = ap (mark (start_of st)) lines' ∙ mark-stable (start_of st) (lines_in st) n

    risen : Risen (start_of st) (lines_in st) n
    risen =
        record {
          above = up;
          within = omega (arith, G.persistent_below, ap length (dids-weave st.log st.stables));
          writable =
              omega (
                arith,
                head_low st.histories st.base G.head,
                G.persistent_below,
                G.fits,
                G.room_limit,
                few_did_lines st.histories st.base st.log st.stables,
              );
        }

    one : (s : StableAt) → (s ≡ record { behind = length st.log; up_to = n }) ⊎ Mem s st.stables → s.behind ≤ length st.log
    one s (inl e) = let z : s.behind ≡ length st.log = ap (λ (x : StableAt). x.behind) e in omega arith
    one s (inr m) = G.below s m

and-false : (a b : Bool) → a ≡ true → (a && b) ≡ false → b ≡ false
and-false true b e p = p
and-false false b e p = absurd (true_not_false false e refl)

above_is : (n : ℕ) (st : State) → above_mark n st ≡ true → stable_to st < n
unfolding above_mark
above_is n st e = ltb→lt (stable_to st) n (true_T (above_mark n st) e)

fits_is : (n : ℕ) (st : State) → stable_full n st ≡ false → length (log_bytes st) + bytes_of (stable_line n) ≤ st.room
unfolding stable_full
fits_is n st e = not-lt st.room (length (log_bytes st) + bytes_of (stable_line n)) e

good-stable : (n : ℕ) (st st' : State) (a : Answer) → Good st → stable n st ≡ ok st' a → Good st'
unfolding stable stable_refusal stabled
good-stable n st st' a G e =
    let q = unless_ok _ _ st' a e in
    let q14 = check_none _ OutOfTurn _ q.0 in
    let q12 = check_none _ NoRoom _ q14.1 in
    let q13 = check_none _ AboveLimit _ q12.1 in
    good_ok _ st' _ a q.1 (go (above_mark n st) refl q14.0 q12.0 (not-lt st.persistent_to n q13.0))
  where
    go : (b : Bool) → above_mark n st ≡ b → (above_mark n st && st.restoring) ≡ false → (above_mark n st && stable_full n st) ≡ false →
        n ≤ st.persistent_to →
        Good (elim b [ true ↦ with_stables (st.stables ++ (record { behind = length st.log; up_to = n } ∷ [])) st | false ↦ st ])
    go true p e14 e12 le =
        stable-good n st G (and-false (above_mark n st) st.restoring p e14) (above_is n st p) le
        (fits_is n st (and-false (above_mark n st) (stable_full n st) p e12))
    go false p e14 e12 le = G

good-show : (h : ℕ) (st st' : State) (a : Answer) → Good st → show h st ≡ ok st' a → Good st'
unfolding show
good-show h st st' a G e = good_ok st st' _ a (unless-check _ NoSuchHistory _ st' a e).1 G

-- ### Every call

good-perform : (c : Call) (st st' : State) (a : Answer) → Good st → T (writable c) → perform c st ≡ ok st' a → Good st'
unfolding perform writable
good-perform (Add i us) st st' a G w e =
    good-add i us st st' a G (leb→le i top (and_left (leb i top) (all writable_update us) w))
    (and_right (leb i top) (all writable_update us) w) e
good-perform (Finish i) st st' a G w e = good-finish i st st' a G e
good-perform (Withdraw i) st st' a G w e = good-withdraw i st st' a G e
good-perform (Persistent n) st st' a G w e = good-persistent n st st' a G e
good-perform (Stable n) st st' a G w e = good-stable n st st' a G e
good-perform (Show h) st st' a G w e = good-show h st st' a G e
good-perform (Cut k room) st st' a G w e = good-cut k room st st' a e
good-perform (Changeover n room) st st' a G w e = good-changeover n room st st' a e
good-perform (Redo line) st st' a G w e = good-redo line st st' a G e
good-perform End st st' a G w e = good-end st st' a G e

-- A call, accepted or refused, keeps the invariant.
pub good-step : (c : Call) (st : State) → Good st → Good (settle (step c st) st)
unfolding settle step
good-step c st G = go (step c st) refl
  where
    go : (r : Reply) → step c st ≡ r → Good (settle r st)
    go (refused r) e = G
    go (ok st' a) e =
        let q = unless-check (not (writable c)) Unreadable (perform c st) st' a e in
        good-perform c st st' a G (true_T (writable c) (not-false (writable c) q.0)) q.1

-- A list of calls keeps it.
pub good-run : (cs : List Call) (st : State) → Good st → Good (run cs st)
unfolding run
good-run [] st G = G
good-run (c ∷ cs) st G = good-run cs (settle (step c st) st) (good-step c st G)

-- 02 (b), in every state that calls reach: a future operation holds no never, and neither does one in progress. From a site just opened ..
pub opened_no_never : (n room : ℕ) (st : State) (a : Answer) → open_site n room ≡ ok st a → (cs : List Call) → NoNever (run cs st)
opened_no_never n room st a e cs = (good-run cs st (good_open n room st a e)).no_never

-- .. and from one restarted from any log that restart accepts.
pub restarted_no_never : (buffer : List ℕ) (k : ℕ) (st : State) (a : Answer) → restart buffer k ≡ ok st a →
    (cs : List Call) → NoNever (run cs st)
restarted_no_never buffer k st a e cs = (good-run cs st (good-restart buffer k st a e)).no_never
