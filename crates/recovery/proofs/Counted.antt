-- The lines counted persistent reach up to the stable line whose operations have left the table, and no call takes a line off that is
-- counted.
use Rattle.std.specs.Prelude.{◌≡◌, refl, List, [], ◌∷◌, ℕ, zero, suc, ◌≤◌, max, length, take, drop}
use Rattle.std.proofs.Common.{sym, ap, ◌∙◌, subst, not-suc-le-zero, le_of_suc-le-suc, arith, length-append, take-append-drop}
use Rattle.std.proofs.Math.Option.{Option}
use Rattle.std.proofs.lemmas.List.{take-append-le}
use Rattle.std.proofs.Math.Seq.{take-length}
use Rattle.forms.specs.Lists.{find}
use Rattle.forms.specs.ListLaws.{Prefix}
use Rattle.forms.specs.Forms.{Base, Line, Answer}
use Rattle.forms.specs.Reading.{read_did}
use Rattle.forms.specs.declared.Refusal.TheVariants.{Unreadable, AboveLimit, OutOfTurn, NoSuchHistory}
use Rattle.rules.specs.Log.{dids, stables_of, weave, mark, reported, Journal, journal, no_journal, read_log}
use Rattle.rules.specs.State.{State, Reply, refused, ok, settle, lines_in, start_of, log_bytes, with_marks}
use Rattle.rules.specs.Calls.{opened, open_site, in_progress, finish, add, withdraw, persistent}
use Rattle.rules.specs.Calls.{stable, show, restarted, restart_as, restart, cut, redo, end, Call, Add}
use Rattle.rules.specs.Calls.{Finish, Withdraw, Persistent, Stable, Show, Cut, Changeover, Redo, End, changeover, perform, step}
use Rattle.rules.specs.Trim.{trim_text}
use Rattle.rule_laws.specs.CheckLaws.{refused_not_ok, unless_ok, unless-check}
use Rattle.rule_laws.specs.Good.{Good, Rises}
use Rattle.rule_laws.specs.GoodLaws.{good-step}
use Rattle.rules.specs.Book.{base_of}
use Rattle.rule_laws.specs.WeaveLaws.{unweave, mark-front, rises-front, reported-front}
use Rattle.rule_laws.specs.GrowLaws.{ok_state, Grows, grows_as, grows_same, grows_finish, grows_redo, grows_stable}
use Rattle.rules.specs.Run.{run}
use Rattle.recovery.specs.Claim.{Start, just_opened, just_restarted, counted_after, counted}

-- ### What is counted

-- m lines are counted persistent: they are lines of the log, and the operations that have left the table did so by a stable line among
-- them.
pub record Counts (m : ℕ) (st : State) : Type 0 where
  pub within : m ≤ length (lines_in st)
  pub left : st.left_to ≤ mark (start_of st) (take m (lines_in st))

take-front : (m : ℕ) (a b : List Line) → Prefix a b → m ≤ length a → take m b ≡ take m a
take-front m a b (r, e) le = ap (take m) e ∙ take-append-le m a r le

counts-grown : (m : ℕ) (st after : State) → Grows st after → Counts m st → Counts m after
counts-grown m st after g c =
    record {
      within = omega (arith, c.within, ap length g.continues.lines.1, length-append (lines_in st) g.continues.lines.0);
      left = omega (
        arith,
        c.left,
        g.left,
        ap (mark (start_of st)) (take-front m (lines_in st) (lines_in after) g.continues.lines c.within),
        ap (λ (b : Option Base). mark (base_of b) (take m (lines_in after))) g.continues.base,
      );
    }

-- ### Every call

counts-kept : (room n : ℕ) (β : Option Base) (lines : List Line) →
    Counts (length (lines_in (restarted room n β lines))) (restarted room n β lines)
unfolding restarted
counts-kept room n β lines =
    record {
      within = omega arith;
      left = omega (arith, ap (mark (base_of β)) (take-length (weave (dids lines) (stables_of lines))), ap (mark (base_of β)) (unweave lines));
    }

counts-restart : (room : ℕ) (j : Journal) (after : State) (answer : Answer) → restart_as room j ≡ ok after answer →
    Counts (length (lines_in after)) after
unfolding restart_as
counts-restart room (journal n β lines) after answer e =
    subst (λ (s : State). Counts (length (lines_in s)) s) (ok_state (restarted room n β lines) after _ answer e) (counts-kept room n β lines)
counts-restart room no_journal after answer e = absurd (refused_not_ok _ after answer e)

take_less : (j k : ℕ) (l : List Line) → j ≤ k → Prefix (take j l) (take k l)
take_less zero k l le = (take k l, refl)
take_less (suc j) zero l le = absurd (not-suc-le-zero le)
take_less (suc j) (suc k) [] le = ([], refl)
take_less (suc j) (suc k) (x ∷ l) le = let q = take_less j k l (le_of_suc-le-suc le) in (q.0, ap (λ (z : List Line). x ∷ z) q.1)

pub take_begins : (m : ℕ) (l : List Line) → Prefix (take m l) l
take_begins m l = (drop m l, sym (take-append-drop m l))

-- A report counts the lines up to the did line that it names.
counts-persistent : (m n : ℕ) (st : State) (p : ℕ) → Good st → Counts m st →
    Counts (max m (length (reported (start_of st) n (lines_in st))))
    (with_marks p (max st.left_to (mark (start_of st) (reported (start_of st) n (lines_in st)))) st)
counts-persistent m n st p G c =
    record {
      within = omega (arith, c.within, ap length front.1, length-append R front.0);
      left =
          omega (
            arith,
            c.left,
            mark-front (start_of st) (take m L) (take M L) (take_less m M L (omega arith)) up,
            mark-front (start_of st) R (take M L) rest up,
          );
    }
  where
    L : List Line
    L = lines_in st

    R : List Line
    R = reported (start_of st) n L

    M : ℕ
    M = max m (length R)

    front : Prefix R L
    front = reported-front (start_of st) n L

    up : Rises (start_of st) (take M L)
    up = rises-front (start_of st) (take M L) L (take_begins M L) G.rises

    rest : Prefix R (take M L)
    rest =
        subst (λ (x : List Line). Prefix x (take M L)) (take-front (length R) R L front (omega arith) ∙ take-length R)
        (take_less (length R) M L (omega arith))

counts_ok : (c : Call) (m : ℕ) (st after : State) (answer : Answer) → Good st → Counts m st → perform c st ≡ ok after answer →
    Counts (counted_after c (ok after answer) m) after
unfolding counted_after perform add finish withdraw persistent stable show cut changeover redo end
counts_ok (Add i us) m st after answer G C e =
    counts-grown m st after (grows_as st _ after _ answer (unless_ok _ _ after answer e).1 (grows_same st _ refl refl refl refl)) C
counts_ok (Finish i) m st after answer G C e =
    counts-grown m st after
    (grows_finish (find (in_progress i) st.pending) st after answer G (unless-check _ OutOfTurn _ after answer e).1) C
counts_ok (Withdraw i) m st after answer G C e =
    counts-grown m st after (grows_as st _ after _ answer (unless_ok _ _ after answer e).1 (grows_same st _ refl refl refl refl)) C
counts_ok (Persistent n) m st after answer G C e =
    subst (λ (s : State). Counts (max m (length (reported (start_of s) n (lines_in s)))) s)
    (ok_state _ after _ answer (unless-check _ AboveLimit _ after answer e).1)
    (counts-persistent m n st _ G C)
counts_ok (Stable n) m st after answer G C e =
    counts-grown m st after (grows_as st _ after _ answer (unless_ok _ _ after answer e).1 (grows_stable n st)) C
counts_ok (Show h) m st after answer G C e =
    counts-grown m st after
    (grows_as st st after _ answer (unless-check _ NoSuchHistory _ after answer e).1 (grows_same st st refl refl refl refl)) C
counts_ok (Cut k room) m st after answer G C e =
    counts-restart room (read_log (take k (log_bytes st))) after answer (unless_ok _ _ after answer e).1
counts_ok (Changeover n room) m st after answer G C e =
    counts-restart room (read_log (trim_text n st)) after answer (unless_ok _ _ after answer e).1
counts_ok (Redo line) m st after answer G C e = counts-grown m st after (grows_redo (read_did line) st after answer G e) C
counts_ok End m st after answer G C e =
    counts-grown m st after
    (grows_as st _ after _ answer (unless-check _ OutOfTurn _ after answer e).1 (grows_same st _ refl refl refl refl)) C

pub counts_step : (c : Call) (m : ℕ) (st : State) → Good st → Counts m st → Counts (counted_after c (step c st) m) (settle (step c st) st)
unfolding step settle counted_after
counts_step c m st G C = go (step c st) refl
  where
    go : (x : Reply) → step c st ≡ x → Counts (counted_after c x m) (settle x st)
    go (refused r) e = C
    go (ok after answer) e = counts_ok c m st after answer G C (unless-check _ Unreadable _ after answer e).1

pub counted_is : (cs : List Call) (m : ℕ) (st : State) → Good st → Counts m st → Counts (counted m cs st) (run cs st)
unfolding counted run
counted_is [] m st G C = C
counted_is (c ∷ cs) m st G C =
    counted_is cs (counted_after c (step c st) m) (settle (step c st) st) (good-step c st G) (counts_step c m st G C)

counts_none : (n room : ℕ) → Counts 0 (opened n room)
unfolding opened
counts_none n room = record { within = omega arith; left = omega arith }

pub counted_start : (m : ℕ) (s : State) → Start m s → Counts m s
unfolding open_site restart
counted_start m s (just_opened n room t answer e) =
    subst (Counts 0) (ok_state (opened n room) t _ answer (unless_ok _ _ t answer e).1) (counts_none n room)
counted_start m s (just_restarted buffer k t answer e) =
    counts-restart (length buffer) (read_log (take k buffer)) t answer (unless-check _ AboveLimit _ t answer e).1
