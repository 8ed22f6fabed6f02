-- How many operations are live after a call.
use Rattle.std.specs.Prelude.{◌≡◌, refl, Bool, true, false, not, List, [], ◌∷◌, ◌++◌, ℕ, suc, ◌+◌, ◌-◌, ◌≤◌, max, eqb, length, take}
use Rattle.std.proofs.Common.{ap, sym, ◌∙◌, subst, arith, T_not, length-append, length-drop}
use Rattle.std.proofs.Math.Option.{Option, none, some}
use Rattle.std.proofs.Math.Dec.{eqb_refl}
use Rattle.forms.specs.Decimal.{Step}
use Rattle.forms.specs.Decimal.Step.{got, bad}
use Rattle.forms.specs.Lists.{find}
use Rattle.forms.specs.ListLaws.{length-keep, length-keep_less}
use Rattle.forms.specs.Forms.{Did, Answer}
use Rattle.forms.specs.Reading.{read_did}
use Rattle.forms.specs.declared.Refusal.TheVariants.{Unreadable, WrongState, NoRoom, AboveLimit, OutOfTurn, NoSuchHistory, BadLog}
use Rattle.rules.specs.Log.{Journal, journal, no_journal, read_log, mark, reported}
use Rattle.rules.specs.State.{Operation, State, start_of, stable_to, ok, log_bytes, live_done, live, lines_in, with_stables}
use Rattle.rules.specs.Calls.{try_all, overtaken, not_overtaken, arrived, add, line_of, in_progress, without, finished, finish_found}
use Rattle.rules.specs.Calls.{finish, withdraw, persistent, stable, show, restarted, restart_as, restart, cut, drain, delivered}
use Rattle.rules.specs.Calls.{redo_read, redo, end, Call, Add, Finish, Withdraw, Persistent, Stable, Show, Cut, Changeover, Redo, End}
use Rattle.rules.specs.Calls.{perform, changeover}
use Rattle.rules.specs.Calls.{step, opened, open_site, above_mark, stabled}
use Rattle.forms.specs.Limits.{live_limit}
use Rattle.rule_laws.specs.Good.{Good}
use Rattle.rule_laws.specs.CheckLaws.{refused_not_ok, unless_ok, unless-check}
use Rattle.rule_laws.specs.DrainLaws.{drain_keeps}
use Rattle.rule_laws.specs.PendingLaws.{try_length}
use Rattle.rule_laws.specs.WorkLaws.{find_at}
use Rattle.rule_laws.specs.StartLaws.{good-cut, good-changeover}
use Rattle.rules.specs.Trim.{trim_text, trim_refusal}
use Rattle.rule_laws.specs.TrimLaws.{copied, trim_same, changes_over_lem}

-- the entries that an accepted call takes at most
abbrev pub takes : Call → ℕ
takes (Add i us) = 1
takes (Finish i) = 0
takes (Withdraw i) = 0
takes (Persistent n) = 0
takes (Stable n) = 0
takes (Show h) = 0
takes (Cut k room) = live_limit
takes (Changeover n room) = live_limit
takes (Redo line) = 1
takes End = 0

ok_live : (n : ℕ) (x y : State) (a b : Answer) → ok x a ≡ ok y b → live x ≤ n → live y ≤ n
ok_live n x y a b e le = let same : x ≡ y = cc in subst (λ (s : State). live s ≤ n) same le

live-finish : (st after : State) (a : Answer) → Good st → (i : ℕ) (o : Option Operation) → find (in_progress i) st.pending ≡ o →
    finish_found o st ≡ ok after a → live after ≤ live st + 0
unfolding finish_found finished not_overtaken live live_done without
live-finish st after a G i none p e = absurd (refused_not_ok WrongState after a e)
live-finish st after a G i (some x) p e =
    let q = unless-check _ NoRoom _ after a e in
    let at = find_at (in_progress i) st.pending x p in
    let f : Operation → Bool = λ y. not (eqb y.id x.id) in
    let log = st.log ++ line_of (start_of st) st.log x ∷ [] in
    ok_live _ _ after _ a q.1
    (omega (
      arith,
      length-keep (λ (y : Operation). not (overtaken (start_of st) log y)) (try_all (start_of st) log (without x.id st.pending)),
      try_length (start_of st) log (without x.id st.pending),
      length-keep_less f at.0 (λ t. T_not (eqb x.id x.id) t (eqb_refl x.id)),
      length-drop (st.left_to - (start_of st).up_to) st.log,
      length-drop (st.left_to - (start_of st).up_to) log,
      length-append st.log (line_of (start_of st) st.log x ∷ []),
      G.base_below,
      G.left_below,
      G.stable_below,
      G.persistent_below,
    ))

live-redo : (x : Step Did) (st after : State) (a : Answer) → Good st → redo_read x st ≡ ok after a → live after ≤ live st + 1
unfolding redo_read delivered live live_done
live-redo bad st after a G e = absurd (refused_not_ok Unreadable after a e)
live-redo (got d rest) st after a G e =
    let q = unless_ok _ _ after a e in
    let out = drain (start_of st) (suc (length st.waiting)) st.log (st.waiting ++ d ∷ []) in
    let D =
    drain_keeps (start_of st)
    (λ log wait. (length log + length wait ≡ length st.log + length st.waiting + 1) × (length st.log ≤ length log))
    (λ log a y b t I. (
      omega (arith, I.0, length-append log (y ∷ []), length-append a (y ∷ b), length-append a b),
      omega (arith, I.1, length-append log (y ∷ [])),
    ))
    (suc (length st.waiting)) st.log (st.waiting ++ d ∷ []) (omega (arith, length-append st.waiting (d ∷ [])), omega arith) in
    ok_live _ _ after _ a q.1
    (omega (
      arith,
      D.0,
      D.1,
      length-drop (st.left_to - (start_of st).up_to) st.log,
      length-drop (st.left_to - (start_of st).up_to) out.log,
      G.base_below,
      G.left_below,
      G.stable_below,
      G.persistent_below,
    ))

live-stabled : (n : ℕ) (st : State) → live (stabled n st) ≤ live st + 0
unfolding stabled live live_done
live-stabled n st = go (above_mark n st)
  where
    go : (b : Bool) →
        live (elim b [
          | true ↦ with_stables (st.stables
              ++ (record { behind = length st.log; up_to = n } ∷ [])) st
          | false ↦ st
        ]) ≤ live st + 0
    go true = omega arith
    go false = omega arith

live-perform : (c : Call) (st after : State) (a : Answer) → Good st → perform c st ≡ ok after a → live after ≤ live st + takes c
unfolding perform add arrived finish withdraw without persistent stable show redo end live live_done
live-perform (Add i us) st after a G e =
    ok_live _ _ after _ a (unless_ok _ _ after a e).1
    (omega (
      arith,
      try_length (start_of st) st.log (arrived i us st),
      length-append st.pending (record { id = i; updates = us; running = false } ∷ []),
    ))
live-perform (Finish i) st after a G e =
    live-finish st after a G i (find (in_progress i) st.pending) refl (unless-check _ OutOfTurn _ after a e).1
live-perform (Withdraw i) st after a G e =
    let f : Operation → Bool = λ y. not (eqb y.id i) in
    ok_live _ _ after _ a (unless_ok _ _ after a e).1 (omega (arith, length-keep f st.pending))
live-perform (Persistent n) st after a G e =
    let t = max st.left_to (mark (start_of st) (reported (start_of st) n (lines_in st))) in
    ok_live _ _ after _ a (unless-check _ AboveLimit _ after a e).1
    (omega (arith, length-drop (st.left_to - (start_of st).up_to) st.log, length-drop (t - (start_of st).up_to) st.log))
live-perform (Stable n) st after a G e = ok_live _ (stabled n st) after _ a (unless_ok _ _ after a e).1 (live-stabled n st)
live-perform (Show h) st after a G e = ok_live _ _ after _ a (unless-check _ NoSuchHistory _ after a e).1 (omega arith)
live-perform (Cut k room) st after a G e = let le = (good-cut k room st after a e).few in omega arith
live-perform (Changeover n room) st after a G e = let le = (good-changeover n room st after a e).few in omega arith
live-perform (Redo line) st after a G e = live-redo (read_did line) st after a G e
live-perform End st after a G e = ok_live _ _ after _ a (unless-check _ OutOfTurn _ after a e).1 (omega arith)

-- A call that is accepted takes no more entries than that.
pub live-step : (c : Call) (st after : State) (a : Answer) → Good st → step c st ≡ ok after a → live after ≤ live st + takes c
unfolding step
live-step c st after a G e = live-perform c st after a G (unless-check _ Unreadable _ after a e).1

-- After a changeover no more are live than before it: it keeps the mark.
pub live-changeover : (n room : ℕ) (st after : State) (a : Answer) → Good st → step (Changeover n room) st ≡ ok after a →
    live after ≤ live st
unfolding step perform changeover live live_done restarted
live-changeover n room st after a G e =
    let p = (unless-check _ Unreadable _ after a e).1 in
    let free = (unless_ok (trim_refusal n room st) _ after a p).0 in
    ok_live (live st) (copied n room st G free) after _ a (sym (changes_over_lem n room st G free) ∙ p)
    (omega (
      arith,
      ap length (trim_same n room st G free).lines,
      length-drop (stable_to st - (start_of st).up_to) st.log,
      length-drop (st.left_to - (start_of st).up_to) st.log,
      G.left_below,
    ))

-- Nothing is live after an opening.
pub live-opened : (n room : ℕ) (after : State) (a : Answer) → open_site n room ≡ ok after a → live after ≤ 0
unfolding open_site opened live live_done
live-opened n room after a e = ok_live 0 (opened n room) after _ a (unless_ok _ _ after a e).1 (omega arith)

-- ### Restoring

-- whether the site is restoring after a call
abbrev pub restores : Call → Bool → Bool
restores (Add i us) b = b
restores (Finish i) b = b
restores (Withdraw i) b = b
restores (Persistent n) b = b
restores (Stable n) b = b
restores (Show h) b = b
restores (Cut k room) b = true
restores (Changeover n room) b = true
restores (Redo line) b = b
restores End b = false

flag : (x y : State) (a b : Answer) → ok x a ≡ ok y b → x.restoring ≡ y.restoring
flag x y a b e = let same : x ≡ y = cc in ap (λ (s : State). s.restoring) same

flag-restart : (room : ℕ) (j : Journal) (after : State) (a : Answer) → restart_as room j ≡ ok after a → true ≡ after.restoring
unfolding restart_as restarted
flag-restart room (journal n β log) after a e = flag (restarted room n β log) after _ a e
flag-restart room no_journal after a e = absurd (refused_not_ok BadLog after a e)

flag-finish : (x : Option Operation) (st after : State) (a : Answer) → finish_found x st ≡ ok after a → st.restoring ≡ after.restoring
unfolding finish_found finished
flag-finish none st after a e = absurd (refused_not_ok WrongState after a e)
flag-finish (some x) st after a e = flag _ after _ a (unless-check _ NoRoom _ after a e).1

flag-redo : (x : Step Did) (st after : State) (a : Answer) → redo_read x st ≡ ok after a → st.restoring ≡ after.restoring
unfolding redo_read delivered
flag-redo bad st after a e = absurd (refused_not_ok Unreadable after a e)
flag-redo (got d rest) st after a e = flag _ after _ a (unless_ok _ _ after a e).1

-- both restore, or neither
abbrev SameFlag : State → State → Type 0
SameFlag x y = x.restoring ≡ y.restoring

flag-stabled : (n : ℕ) (st : State) → st.restoring ≡ (stabled n st).restoring
unfolding stabled
flag-stabled n st = go (above_mark n st)
  where
    go : (b : Bool) →
        SameFlag st (elim b [ true ↦ with_stables (st.stables ++ (record { behind = length st.log; up_to = n } ∷ [])) st | false ↦ st ])
    go true = refl
    go false = refl

flag-perform : (c : Call) (st after : State) (a : Answer) → perform c st ≡ ok after a → restores c st.restoring ≡ after.restoring
unfolding perform add finish withdraw persistent stable show cut changeover redo end
flag-perform (Add i us) st after a e = flag _ after _ a (unless_ok _ _ after a e).1
flag-perform (Finish i) st after a e = flag-finish (find (in_progress i) st.pending) st after a (unless-check _ OutOfTurn _ after a e).1
flag-perform (Withdraw i) st after a e = flag _ after _ a (unless_ok _ _ after a e).1
flag-perform (Persistent n) st after a e = flag _ after _ a (unless-check _ AboveLimit _ after a e).1
flag-perform (Stable n) st after a e = flag-stabled n st ∙ flag (stabled n st) after _ a (unless_ok _ _ after a e).1
flag-perform (Show h) st after a e = flag _ after _ a (unless-check _ NoSuchHistory _ after a e).1
flag-perform (Cut k room) st after a e =
    flag-restart room (read_log (take k (log_bytes st))) after a (unless_ok _ _ after a e).1
flag-perform (Changeover n room) st after a e =
    flag-restart room (read_log (trim_text n st)) after a (unless_ok _ _ after a e).1
flag-perform (Redo line) st after a e = flag-redo (read_did line) st after a e
flag-perform End st after a e = flag _ after _ a (unless-check _ OutOfTurn _ after a e).1

pub restoring_step : (c : Call) (st after : State) (a : Answer) → step c st ≡ ok after a → restores c st.restoring ≡ after.restoring
unfolding step
restoring_step c st after a e = flag-perform c st after a (unless-check _ Unreadable _ after a e).1

pub restoring_restarted : (buffer : List ℕ) (k : ℕ) (after : State) (a : Answer) → restart buffer k ≡ ok after a → true ≡ after.restoring
unfolding restart
restoring_restarted buffer k after a e =
    flag-restart (length buffer) (read_log (take k buffer)) after a (unless-check _ AboveLimit _ after a e).1
