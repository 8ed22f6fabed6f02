-- The recovery claim of the code's site, proved: a chain of calls that keep their contracts is `run` of the list of calls.
use Rattle.std.specs.Prelude.{◌≡◌, refl, Bool, true, false, not, ◌||◌, List, ◌∷◌, ◌++◌, ℕ, ◌≤◌, leb, ltb, length, take, Result, Ok, Err}
use Rattle.std.proofs.Common.{sym, ap, ap₂, ◌∙◌, subst, inl, inr, arith, le→leb, length-take-le, take-take}
use Rattle.std.proofs.Math.Option.{Option}
use Rattle.std.proofs.Math.Option as option
use Rattle.forms.specs.Decimal.{top}
use Rattle.forms.specs.ListLaws.{T_true}
use Rattle.forms.specs.Limits.{log_limit, live_limit}
use Rattle.forms.specs.Forms.{Base, Did, Line, Answer, Restarted}
use Rattle.forms.specs.declared.Refusal.{Refusal}
use Rattle.forms.specs.declared.Refusal.TheVariants.{Unreadable, AboveLimit}
use Rattle.forms.specs.Lists.{below}
use Rattle.rules.specs.Book.{Cell, base_of, cell}
use Rattle.rules.specs.Trim.{Trimmed, not_trimmed, trimmed, trim_unless, trim_text, trim_refusal, trim}
use Rattle.rule_laws.specs.TrimLaws.{bounds, copied, changes_over_lem}
use Rattle.rule_laws.specs.TrimShows.{Trims, trim-holds, trimmed_restarts}
use Rattle.trim.specs.Model.{Copies, CopiesLog}
use Rattle.rules.specs.Checks.{check}
use Rattle.rule_laws.specs.CheckLaws.{unless_none, none_check, le_not_lt}
use Rattle.rule_laws.specs.CutLaws.{cut_plain}
use Rattle.rules.specs.Log.{dids, dids_text, log_text, read_log}
use Rattle.rules.specs.State.{State, Reply, refused, ok, settle, lines_in, done_in, log_bytes}
use Rattle.rules.specs.Calls.{unless, restart_as, restart, cut_above, changeover, Call, Cut, Changeover, writable, perform, step}
use Rattle.rule_laws.specs.PollLaws.{busy_few}
use Rattle.rule_laws.specs.Good.{Good}
use Rattle.rules.specs.Run.{run}
use Rattle.recovery.specs.Claim.{Start, just_opened, just_restarted, counted, Fair, lost_by, came, Asked, Shows, Recovered}
use Rattle.recovery.proofs.Cuts.{Cutting, cutting, lost-dids}
use Rattle.recovery.proofs.Recovery.{run-append, recovery}
use Rattle.site.specs.declared.CallResult.{CallResult}
use Rattle.site.specs.Representation.{Sound}
use Rattle.site.specs.OpenLaws.{blank_site}
use Rattle.site.specs.ModelLaws.{steps_alone}
use Rattle.table.specs.OrderLaws.{same_length}
use Rattle.history.specs.WordLaws.{below_long}
use Rattle.site.specs.EntryOf.{entry_is}
use Rattle.site.specs.Model.{Lent, represented, AcceptedAs, Does, Opens}
use Rattle.site.specs.RestartLaws.{cut-restarts, log_limit_lem, used_limit}
use Rattle.end_to_end.specs.SiteCalls.{EntryClaim, PollsAs, PollClaim, Memory, memory, state_in, ValidIn, Alone, log_in, goes_on_from}
use Rattle.end_to_end.specs.SiteCalls.{KeepsBase}
use Rattle.end_to_end.specs.SiteCalls.{Transition, calls, restarts, changes_over, stays_with}
use Rattle.end_to_end.specs.SiteCalls.{Execution, none, next}
use Rattle.end_to_end.specs.SiteCalls.{StartsSite, opens, restarted, AnswersCall, ShowsIn, RecoveredIn, SiteCallsClaim}

-- A site and what is lent to it after calls: valid, alone, and the state that the specification's calls give.
pub record RunsAs (x : Memory) (st : State) : Type 0 where
  pub valid : ValidIn x
  pub alone : Alone x
  pub state : state_in x ≡ st

-- ### What the invariant says

-- The bytes in use are the log's text.
pub log_bytes_lem : (x : Memory) → ValidIn x → log_in x ≡ log_bytes (state_in x)
unfolding Sound
log_bytes_lem x v = v.sound.carries.text

-- .. as many as the site says
pub used_in_lem : (x : Memory) → ValidIn x → x.site.used ≡ length (log_in x)
unfolding Sound
used_in_lem x v = sym (length-take-le x.site.used x.lent.log v.sound.carries.within)

-- It is a state that calls reach.
pub good_in : (x : Memory) → ValidIn x → Good (state_in x)
unfolding Sound
good_in x v = v.sound.good

-- ### One call

-- An accepted call leaves as many entries as there are numbers.
pub alone-after : (numbers : List ℕ) (old : Lent) (st : State) (a : Answer) (r : CallResult) (new : Lent) → length numbers ≡ live_limit →
    AcceptedAs numbers old st a r new → Alone (memory r.site new)
alone-after numbers old st a r new e A = same_length new.order numbers A.same ∙ e

-- A call that keeps its contract gives the next state of the specification, and keeps the invariant.
call_runs : (x : Memory) → ValidIn x → Alone x → (reply : Reply) (r : CallResult) (new : Lent) → Does x.site x.lent reply r new →
    RunsAs (memory r.site new) (settle reply (state_in x))
unfolding settle
call_runs x v one (refused q) r new d =
    subst (λ (y : Memory). RunsAs y (state_in x)) (λ i. memory (sym d.site i) (sym d.kept i))
    (record { valid = v; alone = one; state = refl })
call_runs x v one (ok st a) r new d =
    record { valid = d.valid; alone = alone-after x.lent.order x.lent st a r new one d; state = d.state }

-- .. and so does a restart into another buffer
restart-runs : (x : Memory) → ValidIn x → Alone x → (reply : Reply) (buffer : Lent) (r : CallResult) (new : Lent) →
    Opens blank_site buffer reply r new →
    RunsAs (goes_on_from reply x (memory r.site new)) (settle reply (state_in x))
unfolding settle
restart-runs x v one (refused q) buffer r new d = record { valid = v; alone = one; state = refl }
restart-runs x v one (ok st a) buffer r new d =
    record { valid = d.valid; alone = alone-after (below live_limit) buffer st a r new (below_long live_limit) d; state = d.state }

-- Without a base line a restart from any of the first bytes is a cut.
plain_restarts : (x : Memory) → ValidIn x → (buffer : List ℕ) (k : ℕ) → k ≤ top → (state_in x).base ≡ option.none → k ≤ x.site.used →
    take k buffer ≡ take k x.lent.log → step (Cut k (length buffer)) (state_in x) ≡ restart buffer k
unfolding step writable perform cut_above restart
plain_restarts x v buffer k low e le same =
    unless_none _ _ (none_check _ Unreadable option.none (ap not (T_true (leb k top) (le→leb k top low))) refl)
    ∙ cut_plain k (length buffer) (state_in x) e
    ∙ (λ i.
    unless (check (free i || ltb (length buffer) k || ltb log_limit (length buffer)) AboveLimit option.none)
    (restart_as (length buffer) (read_log (bytes i))))
  where
    free : ltb (length (log_bytes (state_in x))) k ≡ false
    free = le_not_lt (length (log_bytes (state_in x))) k (omega (arith, le, used_in_lem x v, ap length (log_bytes_lem x v)))

    bytes : take k (log_bytes (state_in x)) ≡ take k buffer
    bytes = ap (take k) (sym (log_bytes_lem x v)) ∙ take-take k x.site.used x.lent.log le ∙ sym same

-- ### Trim, and the changeover

-- What the code's `trim` of a site does is what the specification says of its state.
pub copies_state : (x : Memory) → ValidIn x → (n : ℕ) (fresh : List ℕ) (c : Result ℕ Refusal) (copy : List ℕ) →
    CopiesLog x.site x.lent.log n fresh c copy → Copies (trim n fresh (state_in x)) fresh c copy
copies_state x v n fresh c copy T = T x.lent.rows x.lent.order x.lent.book v

-- A trim that replies the bytes used has made the copy.
copied_by : (t : Trimmed) (fresh : List ℕ) (c : Result ℕ Refusal) (copy : List ℕ) → Copies t fresh c copy → (used : ℕ) → c ≡ Ok used →
    t ≡ trimmed copy used
copied_by (not_trimmed q) fresh c copy T used e =
    let clash : Err q ≡ Ok used = sym T.reply ∙ e in let z : ◌≡◌ {A = ℕ} 0 1 = cc in absurd (omega arith)
copied_by (trimmed bytes n) fresh c copy T used e =
    let same : Ok n ≡ Ok used = sym T.reply ∙ e in
    let counts : n ≡ used = cc in ap₂ trimmed (sym T.bytes) counts

pub copy_made : (x : Memory) → ValidIn x → (n : ℕ) (fresh : List ℕ) (c : Result ℕ Refusal) (copy : List ℕ) →
    CopiesLog x.site x.lent.log n fresh c copy → (used : ℕ) → c ≡ Ok used → Trims n fresh (state_in x) copy used
copy_made x v n fresh c copy T used e =
    trim-holds n fresh (state_in x) copy used (copied_by (trim n fresh (state_in x)) fresh c copy (copies_state x v n fresh c copy T) used e)

-- A trim that is refused has this number by the specification, and leaves the fresh buffer as it was.
pub record RefusedCopy (n : ℕ) (fresh : List ℕ) (st : State) (q : Refusal) (copy : List ℕ) : Type 0 where
  pub number : trim_refusal n (length fresh) st ≡ option.some q
  pub kept : copy ≡ fresh

pub copy_refused : (x : Memory) → ValidIn x → (n : ℕ) (fresh : List ℕ) (c : Result ℕ Refusal) (copy : List ℕ) →
    CopiesLog x.site x.lent.log n fresh c copy → (q : Refusal) → c ≡ Err q → RefusedCopy n fresh (state_in x) q copy
unfolding trim
copy_refused x v n fresh c copy T q e = go (trim_refusal n (length fresh) (state_in x)) refl (copies_state x v n fresh c copy T)
  where
    go : (o : Option Refusal) → trim_refusal n (length fresh) (state_in x) ≡ o →
        Copies (trim_unless o fresh (trim_text n (state_in x))) fresh c copy → RefusedCopy n fresh (state_in x) q copy
    go (option.some p) f C =
        let clash : Err p ≡ Err q = sym C.reply ∙ e in
        let same : p ≡ q = cc in record { number = f ∙ ap (λ (y : Refusal). option.some y) same; kept = C.bytes }
    go option.none f C =
        let clash : Ok (length (trim_text n (state_in x))) ≡ Err q = sym C.reply ∙ e in
        let z : ◌≡◌ {A = ℕ} 0 1 = cc in absurd (omega arith)

-- A changeover that the specification does not refuse is a call with a number of 64 bits.
pub changeover-step : (n room : ℕ) (st : State) → Good st → trim_refusal n room st ≡ option.none →
    step (Changeover n room) st ≡ changeover n room st
unfolding step writable perform
changeover-step n room st G free =
    unless_none _ _ (none_check _ Unreadable option.none (ap not (T_true (leb n top) (le→leb n top low))) refl)
  where
    low : n ≤ top
    low = let b = (bounds n room st G free).limit in omega arith

-- .. and one that it refuses leaves the state as it is.
changeover-stays : (n room : ℕ) (st : State) (q : Refusal) → trim_refusal n room st ≡ option.some q →
    settle (step (Changeover n room) st) st ≡ st
unfolding step writable perform changeover unless check settle
changeover-stays n room st q e = go (leb n top)
  where
    go : (b : Bool) → settle (unless (check (not b) Unreadable option.none)
        (unless (trim_refusal n room st) (restart_as room (read_log (trim_text n st))))) st ≡ st
    go false = refl
    go true = ap (λ (o : Option Refusal). settle (unless o (restart_as room (read_log (trim_text n st)))) st) e

-- A restart from the whole copy is the changeover.
changed-runs : (x : Memory) → ValidIn x → (n : ℕ) (fresh copy : List ℕ) (used : ℕ) → Trims n fresh (state_in x) copy used →
    (buffer : Lent) → buffer.log ≡ copy → (r : CallResult) (new : Lent) → Opens blank_site buffer (restart buffer.log used) r new →
    RunsAs (memory r.site new) (settle (step (Changeover n (length fresh)) (state_in x)) (state_in x))
unfolding settle
changed-runs x v n fresh copy used t buffer is r new d =
    record {
      valid = A.valid;
      alone = alone-after (below live_limit) buffer after _ r new (below_long live_limit) A;
      state = A.state ∙ sym (ap (λ (reply : Reply). settle reply (state_in x)) (stepped ∙ over));
    }
  where
    G : Good (state_in x)
    G = good_in x v

    after : State
    after = copied n (length fresh) (state_in x) G t.free

    stepped : step (Changeover n (length fresh)) (state_in x) ≡ changeover n (length fresh) (state_in x)
    stepped = changeover-step n (length fresh) (state_in x) G t.free

    over : changeover n (length fresh) (state_in x) ≡ ok after (Restarted (done_in (state_in x)) (length (trim_text n (state_in x))))
    over = changes_over_lem n (length fresh) (state_in x) G t.free

    A : AcceptedAs (below live_limit) buffer after (Restarted (done_in (state_in x)) (length (trim_text n (state_in x)))) r new
    A =
        subst (λ (reply : Reply). Opens blank_site buffer reply r new)
        (ap (λ (b : List ℕ). restart b used) is ∙ trimmed_restarts n fresh (state_in x) G copy used t ∙ over) d

-- One call of the list gives the next state.
pub makes_runs : {x y : Memory} {c : Call} → ValidIn x → Alone x → Transition x c y → RunsAs y (settle (step c (state_in x)) (state_in x))
makes_runs {x} v one (calls c r new d) =
    call_runs x v one (step c (state_in x)) r new (steps_alone x.site x.lent c r new one d)
makes_runs {x} v one (restarts k buffer r new whole le same d) =
    subst (λ (reply : Reply). RunsAs (goes_on_from (restart buffer.log k) x (memory r.site new)) (settle reply (state_in x)))
    (sym (go whole))
    (restart-runs x v one (restart buffer.log k) buffer r new d)
  where
    low : k ≤ top
    low =
        let a = log_limit_lem (represented x.site x.lent) x.lent.log v.sound in
        let b = used_limit (represented x.site x.lent) x.lent.log v.sound in
        omega (arith, le, a, b)

    go : KeepsBase x k → step (Cut k (length buffer.log)) (state_in x) ≡ restart buffer.log k
    go (inl none_of) = plain_restarts x v buffer.log k low none_of le same
    go (inr h) = cut-restarts (represented x.site x.lent) x.lent.log v.sound buffer.log k low h le same
makes_runs {x} v one (changes_over n fresh c copy T used e buffer is r new d) =
    changed-runs x v n fresh copy used (copy_made x v n fresh c copy T used e) buffer is r new d
makes_runs {x} v one (stays_with n fresh c copy T q e) =
    record {
      valid = v;
      alone = one;
      state = sym (changeover-stays n (length fresh) (state_in x) q (copy_refused x v n fresh c copy T q e).number);
    }

-- ### A list of calls

-- Calls that keep their contracts are `run` of the list of calls.
pub calls-run : {x y : Memory} {cs : List Call} → ValidIn x → Alone x → Execution x cs y → RunsAs y (run cs (state_in x))
unfolding run
calls-run v one (none x) = record { valid = v; alone = one; state = refl }
calls-run v one (next {cs = cs} first more) =
    let a = makes_runs v one first in
    let b = calls-run a.valid a.alone more in
    record { valid = b.valid; alone = b.alone; state = b.state ∙ ap (run cs) a.state }

-- A list starts with a valid site, in a state at which the claim's lists start.
pub starts_at : {m : ℕ} {x : Memory} → StartsSite m x → ValidIn x × Alone x × Start m (state_in x)
starts_at (opens n old r new st a d e) =
    let q : AcceptedAs (below live_limit) old st a r new = subst (λ (reply : Reply). Opens blank_site old reply r new) e d in (
      q.valid,
      alone-after (below live_limit) old st a r new (below_long live_limit) q,
      subst (Start 0) (sym q.state) (just_opened n (length old.log) st a e),
    )
starts_at (restarted k old r new st a d e) =
    let q : AcceptedAs (below live_limit) old st a r new = subst (λ (reply : Reply). Opens blank_site old reply r new) e d in (
      q.valid,
      alone-after (below live_limit) old st a r new (below_long live_limit) q,
      subst (λ (s : State). Start (length (lines_in s)) s) (sym q.state) (just_restarted old.log k st a e),
    )

-- ### What the site shows

-- The reply that the specification gives a call is the one that its contract gives.
pub answers : (x : Memory) (c : Call) (st : State) (a : Answer) → step c (state_in x) ≡ ok st a → AnswersCall x c a
answers x c st a e = λ r new d. (st, subst (λ (reply : Reply). Does x.site x.lent reply r new) e d)

shows_in : (x : Memory) (h : ℕ) (c : Cell) → Shows (state_in x) h c → ShowsIn x h c
shows_in x h c (persistent, stable, e) = (persistent, stable, answers x _ (state_in x) _ e)

-- From the claim about the states to what the site shows.
recovered_in : (before after : Memory) (lost : List Did) (chosen : Did → Bool) (lines : List (List ℕ)) (final : Memory) →
    ValidIn before → ValidIn final →
    (gone : List Line) → lines_in (state_in before) ≡ lines_in (state_in after) ++ gone → dids gone ≡ lost →
    Recovered (state_in before) (state_in after) lost chosen lines (state_in final) → RecoveredIn before after lost chosen lines final
unfolding log_bytes
recovered_in before after lost chosen lines final v w gone parts are R =
    record {
      claim = R;
      valid = w;
      gone = gone;
      gone_are = are;
      first_bytes = log_bytes_lem before v ∙ ap (log_text before.site.count (state_in before).base) parts;
      bytes =
          log_bytes_lem final w ∙ R.bytes
          ∙ ap (λ (β : Option Base). log_text before.site.count β (lines_in (state_in after)) ++ dids_text R.ran) R.same_base;
      names = answers final _ R.named.0 _ R.named.1;
      shows = λ h lt.
          subst (λ (β : Option Base). ShowsIn final h (cell (base_of β) h ((state_in after).log ++ R.fed))) R.same_base
          (shows_in final h _ (R.shows h lt));
      shows_first = λ every h lt.
          let q = R.shows_first every h lt in
          (q.0, shows_in before h q.0 q.1, shows_in final h q.0 q.2);
    }

-- The recovery claim, where the states before the picked cut and at the end are given by equations.
claim_at : (m : ℕ) (s : State) → Start m s → (xs : List Call) (k room : ℕ) (ys : List Call) →
    (before after final : State) (chosen : Did → Bool) →
    run xs s ≡ before → run (xs ++ Cut k room ∷ ys) s ≡ final → Fair (counted m xs s) k room before after →
    Asked m s (λ a. xs ++ Cut k room ∷ a) ys (lost_by before after) chosen →
    Recovered before after (lost_by before after) chosen (came (xs ++ Cut k room ∷ ys) s) final
claim_at m s start xs k room ys before after final chosen e f fair asked =
    subst (Recovered before after (lost_by before after) chosen (came (xs ++ Cut k room ∷ ys) s)) f (at before e fair asked)
  where
    at : (st : State) → run xs s ≡ st → Fair (counted m xs s) k room st after →
        Asked m s (λ a. xs ++ Cut k room ∷ a) ys (lost_by st after) chosen →
        Recovered st after (lost_by st after) chosen (came (xs ++ Cut k room ∷ ys) s) (run (xs ++ Cut k room ∷ ys) s)
    at st p fa as' =
        subst (λ (b : State). Recovered b after (lost_by b after) chosen (came (xs ++ Cut k room ∷ ys) s) (run (xs ++ Cut k room ∷ ys) s)) p
        (recovery m s start xs k room ys after chosen (subst (λ (b : State). Fair (counted m xs s) k room b after) (sym p) fa)
        (subst (λ (b : State). Asked m s (λ a. xs ++ Cut k room ∷ a) ys (lost_by b after) chosen) (sym p) as'))

-- "Demand 3", of the calls of the code's site.
pub site-calls : SiteCallsClaim
unfolding run
site-calls m start begins xs before first k room after cut ys final later chosen fair asked =
    recovered_in before after (lost_by (state_in before) (state_in after)) chosen (came (xs ++ Cut k room ∷ ys) (state_in start)) final
    a.valid c.valid C.lines.0 C.lines.1 (sym (lost-dids room (state_in before) (state_in after) C))
    (claim_at m (state_in start) at_start_lem.2 xs k room ys (state_in before) (state_in after) (state_in final) chosen (sym a.state)
    (sym (c.state ∙ ap (run ys) (b.state ∙ ap (λ (st : State). settle (step (Cut k room) st) st) a.state)
    ∙ sym (run-append xs (Cut k room ∷ ys) (state_in start)))) fair asked)
  where
    at_start_lem : ValidIn start × Alone start × Start m (state_in start)
    at_start_lem = starts_at begins

    a : RunsAs before (run xs (state_in start))
    a = calls-run at_start_lem.0 at_start_lem.1 first

    b : RunsAs after (settle (step (Cut k room) (state_in before)) (state_in before))
    b = makes_runs a.valid a.alone cut

    C : Cutting room (state_in before) (state_in after)
    C = cutting k room (state_in before) (state_in after) fair.answer (good_in before a.valid) fair.accepted

    c : RunsAs final (run ys (state_in after))
    c = calls-run b.valid b.alone later

-- ### The entry of an id

-- Calls keep the invariant, and a valid site gives the one entry of a live id.
pub entry_claim : EntryClaim
entry_claim m start begins cs x made id =
    let b = starts_at begins in
    let r = calls-run b.0 b.1 made in
    (r.state, entry_is x.site x.lent r.valid id)

-- ### The poll of a history

-- The numbers are a part of the invariant, and the poll's contract holds with the log, rows and order that the site has.
polls_as : (x : Memory) (st : State) → RunsAs x st → PollsAs x st
unfolding Sound
polls_as x st r =
    subst (PollsAs x) r.state
    (record {
      state = refl;
      number = λ h lt. r.valid.sound.carries.busy h lt;
      few = λ h lt. omega (arith, r.valid.sound.carries.busy h lt, busy_few (state_in x) h r.valid.sound.good);
      answer = λ h a p. p x.lent.log x.lent.rows x.lent.order r.valid;
    })

pub poll_claim : PollClaim
poll_claim m start begins cs x made =
    let b = starts_at begins in
    polls_as x (run cs (state_in start)) (calls-run b.0 b.1 made)
