-- A site just opened, restarted or cut has the invariant.
use Rattle.std.specs.Prelude.{◌≡◌, refl, Bool, true, false, not, ◌||◌, List, [], ◌++◌, ℕ, ◌+◌, ◌-◌, ◌≤◌, T, leb, ltb, length, take, drop}
use Rattle.std.proofs.Common.{sym, ap, subst, append-nil, le_refl, arith, T_not, leb→le, length-append, length-take}
use mathlib.Core.List.Memᴰ
use Rattle.forms.specs.ListLaws.{Nodup, true_T, T_false, and_left, and_right, mem-at, mem_along}
use Rattle.forms.specs.Forms.{Base, Line, Answer, site_text}
use Rattle.forms.specs.declared.Refusal.TheVariants.{WrongCount, NoRoom, AboveLimit, BadLog}
use Rattle.rules.specs.Log.{Journal, journal, no_journal, histories_fit, ended, head_text, log_text, rest_of, read_log, dids, stables_from}
use Rattle.rules.specs.Log.{stables_of}
use Rattle.rules.specs.Log.{mark_from, mark, live_in, table_holds, lines_text}
use Rattle.rules.specs.State.{start_of, stable_to}
use Rattle.forms.specs.Limits.{live_limit, log_limit, base_top}
use Rattle.rules.specs.State.{State, ok, log_bytes, live_done, live}
use Rattle.rules.specs.Calls.{open_full, open_refusal, opened, open_site, restarted, restart_as, restart, cut_above, cut, changeover}
use Rattle.rules.specs.Trim.{trim_text, trim_above, trim_full, trim_refusal}
use Rattle.rule_laws.specs.Good.{Good, Rises, FitHead, did_ids}
use Rattle.rule_laws.specs.AcceptedLaws.{read_accepted}
use Rattle.rules.specs.Book.{blank_base, base_of}
use Rattle.std.proofs.Math.Option.{Option, none}
use Rattle.rule_laws.specs.LogLaws.{Stand, stand_nil}
use Rattle.rule_laws.specs.WeaveLaws.{unweave, stables_below, mark-within, mark-least}
use Rattle.rules.specs.Checks.{history_twice}
use Rattle.rule_laws.specs.CheckLaws.{twice_once, refused_not_ok, check_none, unless_ok, unless-check}
use Rattle.rule_laws.specs.CheckLaws.{not-lt, not-false, or_false_left}
use Rattle.rule_laws.specs.CheckLaws.{or_false_right}
use Rattle.rule_laws.specs.WorkLaws.{good_ok}

-- What the test of the table says.
holds_few : (σ : Base) (lines : List Line) → table_holds σ lines ≡ true → length (live_in σ lines) ≤ live_limit
unfolding table_holds
holds_few σ lines e =
    leb→le (length (live_in σ lines)) live_limit
    (and_left (leb (length (live_in σ lines)) live_limit) (not (history_twice (did_ids (live_in σ lines)))) (true_T (table_holds σ lines) e))

holds_once : (σ : Base) (lines : List Line) → table_holds σ lines ≡ true → Nodup (did_ids (live_in σ lines))
unfolding table_holds
holds_once σ lines e =
    twice_once (did_ids (live_in σ lines))
    (T_false (history_twice (did_ids (live_in σ lines)))
    (T_not (history_twice (did_ids (live_in σ lines)))
    (and_right (leb (length (live_in σ lines)) live_limit) (not (history_twice (did_ids (live_in σ lines)))) (true_T (table_holds σ lines) e))))

-- A log that restart accepts, in a buffer that holds it, with the lines above its last stable line live.
pub at_rest : (room n : ℕ) (β : Option Base) (lines : List Line) (restoring : Bool) → T (histories_fit n) → FitHead n β →
    Stand (base_of β) n lines → table_holds (base_of β) lines ≡ true →
    length (log_text n β lines) ≤ room → room ≤ log_limit →
    Good (record {
      histories = n;
      room = room;
      base = β;
      log = dids lines;
      stables = stables_of lines;
      pending = [];
      waiting = [];
      persistent_to = (base_of β).up_to + length (dids lines);
      left_to = mark (base_of β) lines;
      restoring = restoring;
    })
unfolding live live_done log_bytes live_in
at_rest room n β lines restoring h F S t fits limit =
    let σ = base_of β in
    record {
      histories = h;
      head = F;
      formed = S.formed;
      ran = S.ran;
      waiting_formed = λ d m. absurd (Memᴰ.not-nil m);
      quiet = λ d m. absurd (Memᴰ.not-nil m);
      fits = omega (arith, ap (λ (x : List Line). length (log_text n β x)) (unweave lines));
      room_limit = limit;
      rises = subst (Rises σ) (sym (unweave lines)) S.rises;
      below = stables_below lines;
      base_below = mark-least σ lines S.rises;
      left_below = omega (arith, ap (mark σ) (unweave lines));
      stable_below = omega (arith, ap (mark σ) (unweave lines), mark-within σ lines S.rises);
      persistent_below = le_refl _;
      few = omega (arith, holds_few σ lines t);
      ids = subst Nodup (sym (append-nil (did_ids (drop (mark σ lines - σ.up_to) (dids lines))))) (holds_once σ lines t);
      idle = λ on. refl;
      nobody_waits = λ off. refl;
      pending_formed = λ x m. absurd (Memᴰ.not-nil m);
      running = λ x m. absurd (Memᴰ.not-nil m);
      no_never = λ x m. absurd (Memᴰ.not-nil m);
      apart = λ a x b e. absurd (Memᴰ.not-nil (mem_along (sym e) (mem-at x a b)));
    }

none_holds : table_holds blank_base [] ≡ true
unfolding table_holds live_in mark_from history_twice
none_holds = refl

-- ### Open

pub good_open : (n room : ℕ) (st : State) (a : Answer) → open_site n room ≡ ok st a → Good st
unfolding open_site open_refusal open_full opened log_text head_text lines_text stables_from mark_from
good_open n room st a e =
    let q = unless_ok _ _ st a e in
    let q2 = check_none _ WrongCount _ q.0 in
    let q12 = check_none _ NoRoom _ q2.1 in
    let q13 = check_none _ AboveLimit _ q12.1 in
    good_ok _ st _ a q.1
    (at_rest room n none [] false (true_T (histories_fit n) (not-false (histories_fit n) q2.0)) tt (stand_nil blank_base n) none_holds
    (omega (
      arith,
      length-append (ended (site_text n)) [],
      length-append (ended (site_text n) ++ []) [],
      not-lt room (length (ended (site_text n))) q12.0,
    ))
    (not-lt log_limit room q13.0))

-- ### Restart and cut

-- From any bytes that the buffer holds.
good-restarted : (room : ℕ) (bs : List ℕ) (st : State) (a : Answer) → length bs ≤ room → room ≤ log_limit →
    restart_as room (read_log bs) ≡ ok st a → Good st
unfolding restart_as restarted
good-restarted room bs st a fits limit e = go (read_log bs) refl e
  where
    go : (j : Journal) → read_log bs ≡ j → restart_as room j ≡ ok st a → Good st
    go no_journal p q = absurd (refused_not_ok BadLog st a q)
    go (journal n β log) p q =
        let R = read_accepted bs n β log p in
        good_ok _ st _ a q
        (at_rest room n β log true R.histories R.head R.stand R.holds
        (omega (arith, ap length R.same, length-append (log_text n β log) (rest_of bs))) limit)

pub good-restart : (buffer : List ℕ) (k : ℕ) (st : State) (a : Answer) → restart buffer k ≡ ok st a → Good st
unfolding restart
good-restart buffer k st a e =
    let q = unless-check _ AboveLimit _ st a e in
    let le = not-lt log_limit (length buffer) (or_false_right (ltb (length buffer) k) (ltb log_limit (length buffer)) q.0) in
    good-restarted (length buffer) (take k buffer) st a (omega (arith, length-take k buffer)) le q.1

pub good-changeover : (n room : ℕ) (st st' : State) (a : Answer) → changeover n room st ≡ ok st' a → Good st'
unfolding changeover trim_refusal trim_above trim_full
good-changeover n room st st' a e =
    let p = unless_ok _ _ st' a e in
    let q13 = check_none _ AboveLimit _ p.0 in
    let q12 = check_none _ NoRoom _ q13.1 in
    let limit =
    not-lt log_limit room
    (or_false_right (ltb n (start_of st).up_to) (ltb log_limit room)
    (or_false_right (ltb (stable_to st) n || ltb base_top n) (ltb n (start_of st).up_to || ltb log_limit room) q13.0)) in
    good-restarted room (trim_text n st) st' a (not-lt room (length (trim_text n st)) q12.0) limit p.1

pub good-cut : (k room : ℕ) (st st' : State) (a : Answer) → cut k room st ≡ ok st' a → Good st'
unfolding cut cut_above
good-cut k room st st' a e =
    let p = unless_ok _ _ st' a e in
    let q13 = check_none _ AboveLimit _ p.0 in
    let two = or_false_left (ltb (length (log_bytes st)) k || ltb room k) (ltb log_limit room) q13.0 in
    let le = not-lt room k (or_false_right (ltb (length (log_bytes st)) k) (ltb room k) two) in
    let limit = not-lt log_limit room (or_false_right (ltb (length (log_bytes st)) k || ltb room k) (ltb log_limit room) q13.0) in
    good-restarted room (take k (log_bytes st)) st' a (omega (arith, length-take k (log_bytes st))) limit p.1
