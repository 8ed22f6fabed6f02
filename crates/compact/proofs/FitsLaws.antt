-- Every call of the module keeps the invariant; and what it says of refusal 10.
use Rattle.std.specs.Prelude.{◌≡◌, refl, ◌⊎◌, ◌↔◌, Bool, true, false, List, [], ◌∷◌, ltb, length, take}
use Rattle.std.proofs.Common.{sym, ◌∙◌, inl, inr}
use Rattle.std.proofs.Math.Path.{ap, subst}
use Rattle.std.proofs.Math.Option.{Option, none, some}
use Prim.Native.Nat.{ℕ, ◌+◌, ◌≤◌, ◌<◌, max}
use native.Mathlib.Omega.{arith}
use Rattle.std.proofs.Math.Dec.{T, leb→le}
use Rattle.forms.specs.Lists.{sum}
use Rattle.forms.specs.ListLaws.{false_T, T_false, or_cases, or_left}
use Rattle.forms.specs.Forms.{Answer}
use Rattle.forms.specs.Refusals.{number_of}
use Rattle.forms.specs.declared.Refusal.TheVariants.{AboveLimit, OutOfTurn, TableFull}
use Rattle.rules.specs.Checks.{check}
use Rattle.rules.specs.Log.{read_log}
use Rattle.forms.specs.Limits.{live_limit}
use Rattle.rules.specs.State.{State, Reply, refused, ok, live, settle}
use Rattle.rules.specs.Calls.{unless, table_full, restart, Call, Add, Finish, Withdraw, Persistent, Stable, Show, Cut, Changeover, Redo, End}
use Rattle.rules.specs.Calls.{step}
use Rattle.rules.specs.When.{lastly, step_when, meets}
use Rattle.rule_laws.specs.WhenLaws.{when_ok, ten_why, ten_met, ten_exactly, lastly-ten}
use Rattle.rule_laws.specs.WhenLaws.{lastly_ok, lastly_why, restart-not-ten, unless-over}
use Rattle.rule_laws.specs.WhenLaws.{unless-not-ten, check-not-ten, none_not-ten, is_tenth, differs, refused_same}
use Rattle.rule_laws.specs.Good.{Good}
use Rattle.rule_laws.specs.GoodLaws.{good-step, good_open, good-restart}
use Rattle.rule_laws.specs.CheckLaws.{refused_not_ok, unless_ok, unless-check, not-lt, or_false_left}
use Rattle.rule_laws.specs.LiveLaws.{takes, live-step, live-changeover, live-opened, restores, restoring_step, restoring_restarted}
use Rattle.compact.specs.Module.{slot_limit, entry_limit, least, Slot, Module, slot_at, with_slot, others, live_in, restoring_in, opened_in}
use Rattle.compact.specs.Module.{live_of, taken, uncovered, kept_live, meets_ten, restarts_site, promised_again, promise_after, Move, At}
use Rattle.compact.specs.Module.{Open, Restart, slot_of, call_at, reply_of, promise_of, settle_in, next_of, run_all}
use Rattle.compact.specs.Fits.{claims, GoodSlot, Fits}
use Rattle.compact.proofs.Fits.{opened-below, parted, taken_is, not_taken_lem, uncovered_is, covered, fits_with}
use Rattle.compact.proofs.Fits.{mine}

-- ### The promise after a cut or restart

pub record Again (s : Slot) : Type 0 where
  pub low : least ≤ promised_again s
  pub high : promised_again s ≤ live_limit
  pub within : promised_again s ≤ claims s
  -- "over further cuts the largest number holds"
  pub more : s.promise ≤ promised_again s
  -- "promised as many as it had live"
  pub as_live : live_of s ≤ promised_again s

pub again : (s : Slot) → GoodSlot s → live_of s ≤ live_limit → Again s
unfolding promised_again claims
again s g le = go (restoring_in s.site) refl
  where
    go : (b : Bool) → restoring_in s.site ≡ b → Again s
    go true e =
        record {
          low = rw e (omega (arith, g.promised));
          high = rw e (omega (arith, g.may_use));
          within = rw e (omega (arith, g.promised));
          more = rw e (omega arith);
          as_live = rw e (omega arith);
        }
    go false e =
        record {
          low = rw e (omega arith);
          high = rw e (omega arith);
          within = rw e (omega (arith, g.promised));
          more = rw e (omega (arith, g.ended e));
          as_live = rw e (omega arith);
        }

-- ### A call of a slot

true_false : true ≡ false → ⊥
true_false e = false_T true e tt

module _ (i : ℕ) (m : Module) (F : Fits m) (st : State) (at : (slot_at i m).site ≡ some st) where
  pub below : i < slot_limit
  below = omega (arith, opened-below i m st at, F.four)

  pub slot_good : GoodSlot (slot_at i m)
  slot_good = mine i m F below

  pub site-good : Good st
  site-good = slot_good.good st at

  pub live_is : live_of (slot_at i m) ≡ live st
  unfolding live_of
  live_is = ap live_in at

  part : max (live st) (slot_at i m).promise + sum claims (others i m) ≤ entry_limit
  unfolding claims
  part = omega (arith, parted i m F below, live_is)

  pub slot_again : Again (slot_at i m)
  slot_again = again (slot_at i m) slot_good (omega (arith, live_is, site-good.few))

  module _ (after : State) (good : Good after) where
    new : ℕ → Slot
    new p = record { site = some after; promise = p }

    new-fits : (p : ℕ) → least ≤ p → p ≤ live_limit → (after.restoring ≡ false → p ≡ least) →
        max (live after) p + sum claims (others i m) ≤ entry_limit →
        Fits (with_slot i (new p) m)
    unfolding new claims live_of
    new-fits p low high ended le =
        fits_with i m F below (new p)
        (record { good = λ s e. subst Good (same after s e) good; promised = low; may_use = high; ended = ended }) le
      where
        same : (a b : State) → some a ≡ some b → a ≡ b
        same a b e = cc

    -- the promise stays, and so does restoring
    stays : (k : ℕ) → live after ≤ live st + k → live st + k + sum claims (others i m) ≤ entry_limit ⊎ (k ≡ 0) →
        st.restoring ≡ after.restoring →
        Fits (with_slot i (new (slot_at i m).promise) m)
    stays k le room e =
        new-fits (slot_at i m).promise slot_good.promised slot_good.may_use (λ off. slot_good.ended (ap restoring_in at ∙ e ∙ off))
        (go room)
      where
        go : live st + k + sum claims (others i m) ≤ entry_limit ⊎ (k ≡ 0) →
            max (live after) (slot_at i m).promise + sum claims (others i m) ≤ entry_limit
        go (inl r) = omega (arith, part)
        go (inr z) = omega (arith, part)

    room_left : taken i m ≡ false → live st + 1 + sum claims (others i m) ≤ entry_limit
    room_left e = omega (arith, not_taken_lem i m F below e, live_is)

    by_call_lem : (c : Call) → live after ≤ live st + takes c → (T (meets (meets_ten i c st m) c st) → ⊥) →
        restores c st.restoring ≡ after.restoring →
        live after ≤ kept_live (step c st) → Fits (with_slot i (new (promise_after c (slot_at i m))) m)
    unfolding meets_ten
    by_call_lem (Add n us) le free e k = stays 1 le (inl (room_left (T_false (taken i m) (λ t. free (or_left (taken i m) (table_full st) t))))) e
    by_call_lem (Finish n) le free e k = stays 0 le (inr refl) e
    by_call_lem (Withdraw n) le free e k = stays 0 le (inr refl) e
    by_call_lem (Persistent n) le free e k = stays 0 le (inr refl) e
    by_call_lem (Stable n) le free e k = stays 0 le (inr refl) e
    by_call_lem (Show h) le free e k = stays 0 le (inr refl) e
    by_call_lem (Cut n room) le free e k =
        new-fits (promised_again (slot_at i m)) slot_again.low slot_again.high (λ off. absurd (true_false (e ∙ off)))
        (let c =
        covered i m F below (kept_live (step (Cut n room) st)) (T_false _ free) in omega (arith, slot_again.within, parted i m F below))
    by_call_lem (Changeover n room) le free e k =
        new-fits (promised_again (slot_at i m)) slot_again.low slot_again.high (λ off. absurd (true_false (e ∙ off)))
        (let c = covered i m F below (kept_live (step (Changeover n room) st)) (T_false _ free) in
        omega (arith, slot_again.within, parted i m F below))
    by_call_lem (Redo line) le free e k =
        stays 1 le (inl (room_left (T_false (taken i m) (λ t. free (or_left (taken i m) (table_full st) t))))) e
    by_call_lem End le free e k = new-fits least (omega arith) (omega arith) (λ off. refl) (omega (arith, part, slot_good.promised))

  pub fits_call : (c : Call) (after : State) (answer : Answer) → step_when (meets_ten i c st m) c st ≡ ok after answer →
      Fits (with_slot i (record { site = some after; promise = promise_after c (slot_at i m) }) m)
  unfolding new settle
  fits_call c after answer e =
      let s : step c st ≡ ok after answer = when_ok (meets_ten i c st m) c st after answer e in
      by_call_lem after (subst (λ (r : Reply). Good (settle r st)) s (good-step c st site-good)) c
      (live-step c st after answer site-good s)
      (ten_met (meets_ten i c st m) c st after answer e)
      (restoring_step c st after answer s)
      (let z = ap kept_live s in omega arith)

-- ### Every call

not_opened : (i : ℕ) (c : Call) (m : Module) (after : State) (answer : Answer) → call_at none i c m ≡ ok after answer → ⊥
not_opened i c m after answer e = refused_not_ok OutOfTurn after answer (unless_ok _ _ after answer e).1

pub ok_restart : (full : Bool) (x : Reply) (after : State) (answer : Answer) → lastly full x ≡ ok after answer → x ≡ ok after answer
ok_restart full x after answer e = go (lastly-ten full x)
  where
    go : (lastly full x ≡ refused TableFull) ⊎ (lastly full x ≡ x) → x ≡ ok after answer
    go (inl p) = absurd (refused_not_ok TableFull after answer (sym p ∙ e))
    go (inr p) = sym p ∙ e

good-some : (after s : State) → Good after → some after ≡ some s → Good s
good-some after s g e = let same : after ≡ s = cc in subst Good same g

fits_ok : (x : Move) (m : Module) → Fits m → (after : State) (answer : Answer) → reply_of x m ≡ ok after answer →
    Fits (with_slot (slot_of x) (record { site = some after; promise = promise_of x (slot_at (slot_of x) m) }) m)
unfolding reply_of promise_of claims live_of
fits_ok (At i c) m F after answer e = go (slot_at i m).site refl e
  where
    go : (o : Option State) → (slot_at i m).site ≡ o → call_at o i c m ≡ ok after answer →
        Fits (with_slot i (record { site = some after; promise = promise_after c (slot_at i m) }) m)
    go none p q = absurd (not_opened i c m after answer q)
    go (some st) p q = fits_call i m F st p c after answer q
fits_ok (Open i n room) m F after answer e =
    let q = unless-check _ OutOfTurn _ after answer e in
    let le = not-lt 3 i (or_false_left (ltb 3 i) (opened_in (slot_at i m).site) q.0) in
    let lt : i < slot_limit = omega arith in
    fits_with i m F lt _
    (record {
      good = λ s p. good-some after s (good_open n room after answer q.1) p;
      promised = omega arith;
      may_use = omega arith;
      ended = λ off. refl;
    })
    (omega (arith, parted i m F lt, (mine i m F lt).promised, live-opened n room after answer q.1))
fits_ok (Restart i buffer k) m F after answer e =
    let q = unless-check _ OutOfTurn _ after answer e in
    let le = not-lt 3 i q.0 in
    let lt : i < slot_limit = omega arith in
    let s = ok_restart _ (restart buffer k) after answer q.1 in
    let g = mine i m F lt in
    let A = again (slot_at i m) g (small (slot_at i m) g) in
    let c = covered i m F lt (kept_live (restart buffer k)) (T_false _ (lastly_ok _ (restart buffer k) after answer q.1)) in
    fits_with i m F lt _
    (record {
      good = λ t p. good-some after t (good-restart buffer k after answer s) p;
      promised = A.low;
      may_use = A.high;
      ended = λ off. absurd (true_false (restoring_restarted buffer k after answer s ∙ off));
    })
    (let z = ap kept_live s in omega (arith, parted i m F lt, A.within))
  where
    small : (s : Slot) → GoodSlot s → live_of s ≤ live_limit
    small s g = go s.site refl
      where
        go : (o : Option State) → s.site ≡ o → live_in s.site ≤ live_limit
        go none p = rw p (omega arith)
        go (some st) p = rw p (g.good st p).few

pub fits_next : (x : Move) (m : Module) → Fits m → Fits (next_of x m)
unfolding next_of
fits_next x m F = go (reply_of x m) refl
  where
    go : (r : Reply) → reply_of x m ≡ r → Fits (settle_in (slot_of x) r (promise_of x (slot_at (slot_of x) m)) m)
    go (refused r) e = F
    go (ok after answer) e = fits_ok x m F after answer e

pub fits-run : (xs : List Move) (m : Module) → Fits m → Fits (run_all xs m)
unfolding run_all
fits-run [] m F = F
fits-run (x ∷ xs) m F = fits-run xs (next_of x m) (fits_next x m F)

-- ### Refusal 10

live-claims : (l : Module) → sum live_of l ≤ sum claims l
unfolding claims
live-claims [] = omega arith
live-claims (s ∷ l) = let e = live-claims l in omega arith

-- "on 128 live entries"
pub table_fits : (m : Module) → Fits m → sum live_of m ≤ entry_limit
table_fits m F = omega (arith, F.enough, live-claims m)

module _ (i : ℕ) (m : Module) (F : Fits m) (st : State) (at : (slot_at i m).site ≡ some st) where
  not_outside : live st < (slot_at i m).promise → T (taken i m) → ⊥
  not_outside lt t = omega (arith, taken_is i m F (below i m F st at) t, part i m F st at, live_is i m F st at)

  not_own : live st < (slot_at i m).promise → T (table_full st) → ⊥
  unfolding table_full
  not_own lt t = let le = leb→le live_limit (live st) t in omega (arith, (slot_good i m F st at).may_use)

  -- A cut or changeover that keeps no more live than the site had or is promised.
  not-again : (kept : ℕ) → kept ≤ max (live st) (slot_at i m).promise → T (uncovered i kept m) → ⊥
  not-again kept le t = omega (arith, uncovered_is i m F (below i m F st at) kept t, part i m F st at)

  -- The tests of 10 of a site that has fewer live than it is promised.
  none_meets : live st < (slot_at i m).promise → (c : Call) → restarts_site c ≡ false → T (meets (meets_ten i c st m) c st) → ⊥
  unfolding meets_ten
  none_meets lt (Add n us) on t = go (or_cases (taken i m) (table_full st) t)
    where
      go : T (taken i m) ⊎ T (table_full st) → ⊥
      go (inl q) = not_outside lt q
      go (inr q) = not_own lt q
  none_meets lt (Finish n) on t = t
  none_meets lt (Withdraw n) on t = t
  none_meets lt (Persistent n) on t = t
  none_meets lt (Stable n) on t = t
  none_meets lt (Show h) on t = t
  none_meets lt (Cut k room) on t = true_false on
  none_meets lt (Changeover n room) on t = true_false on
  none_meets lt (Redo line) on t = go (or_cases (taken i m) (table_full st) t)
    where
      go : T (taken i m) ⊎ T (table_full st) → ⊥
      go (inl q) = not_outside lt q
      go (inr q) = not_own lt q
  none_meets lt End on t = t

  pub call_is : (c : Call) → reply_of (At i c) m ≡ step_when (meets_ten i c st m) c st
  unfolding reply_of
  call_is c = ap (λ (o : Option State). call_at o i c m) at

  -- A site with fewer live than it is promised is never refused 10, but where it is restarted.
  pub promise_kept : live st < (slot_at i m).promise → (c : Call) → restarts_site c ≡ false → reply_of (At i c) m ≡ refused TableFull → ⊥
  promise_kept lt c on e = none_meets lt c on (ten_why (meets_ten i c st m) c st (sym (call_is c) ∙ e))

  -- A cut is never refused 10 that keeps no more live than the site had or is promised.
  pub cut_never : (k room : ℕ) → kept_live (step (Cut k room) st) ≤ max (live st) (slot_at i m).promise →
      reply_of (At i (Cut k room)) m ≡ refused TableFull → ⊥
  unfolding meets_ten
  cut_never k room le e =
      not-again (kept_live (step (Cut k room) st)) le
      (ten_why (meets_ten i (Cut k room) st m) (Cut k room) st (sym (call_is (Cut k room)) ∙ e))

  -- A changeover is never refused 10, whatever the neighbours did: it leaves no more live than were.
  pub changeover_never : (n room : ℕ) → reply_of (At i (Changeover n room)) m ≡ refused TableFull → ⊥
  unfolding meets_ten
  changeover_never n room e =
      not-again (kept_live (step (Changeover n room) st)) (few (step (Changeover n room) st) refl)
      (ten_why (meets_ten i (Changeover n room) st m) (Changeover n room) st (sym (call_is (Changeover n room)) ∙ e))
    where
      few : (x : Reply) → step (Changeover n room) st ≡ x → kept_live x ≤ max (live st) (slot_at i m).promise
      few (refused r) q = omega arith
      few (ok after answer) q = omega (arith, live-changeover n room st after answer ((slot_good i m F st at).good st at) q)

  -- "exactly": a cut that the site alone accepts is refused 10 exactly when its kept live lines and the others' claims exceed the table.
  pub cut_exactly : (k room : ℕ) (after : State) (answer : Answer) → step (Cut k room) st ≡ ok after answer →
      reply_of (At i (Cut k room)) m ≡ refused TableFull ↔ entry_limit < live after + sum claims (others i m)
  unfolding meets_ten
  cut_exactly k room after answer e = (
    λ ten. let t = uncovered_is i m F (below i m F st at) (kept_live (step (Cut k room) st)) (met.0 (sym (call_is (Cut k room)) ∙ ten)) in
        omega (arith, kept),
    λ lt. call_is (Cut k room) ∙ met.1 (more_than lt (uncovered i (kept_live (step (Cut k room) st)) m) refl),
  )
    where
      met : step_when (meets_ten i (Cut k room) st m) (Cut k room) st ≡ refused TableFull ↔ T
          (uncovered i (kept_live (step (Cut k room) st)) m)
      met = ten_exactly (meets_ten i (Cut k room) st m) (Cut k room) st after answer e

      kept : kept_live (step (Cut k room) st) ≡ live after
      kept = ap kept_live e

      more_than : entry_limit < live after + sum claims (others i m) → (b : Bool) → uncovered i (kept_live (step (Cut k room) st)) m ≡ b → T b
      more_than lt true q = tt
      more_than lt false q = absurd (let c = covered i m F (below i m F st at) (kept_live (step (Cut k room) st)) q in omega (arith, kept))

restart-other : (buffer : List ℕ) (k : ℕ) → restart buffer k ≡ refused TableFull → ⊥
unfolding restart is_tenth number_of
restart-other buffer k =
    unless-not-ten _ _ (check-not-ten _ AboveLimit none refl none_not-ten) (restart-not-ten (length buffer) (read_log (take k buffer)))

-- Nor is a restart that keeps no more live than the slot had or is promised.
pub restart_never : (i : ℕ) (buffer : List ℕ) (k : ℕ) (m : Module) → Fits m → kept_live (restart buffer k) ≤ claims (slot_at i m) →
    reply_of (Restart i buffer k) m ≡ refused TableFull → ⊥
unfolding reply_of is_tenth number_of unless check
restart_never i buffer k m F few e = go (ltb 3 i) refl e
  where
    mark : T (uncovered i (kept_live (restart buffer k)) m)
    mark =
        lastly_why (uncovered i (kept_live (restart buffer k)) m) (restart buffer k)
        (restart-other buffer k)
        (unless-over (check (ltb 3 i) OutOfTurn none) (lastly (uncovered i (kept_live (restart buffer k)) m) (restart buffer k))
        (check-not-ten (ltb 3 i) OutOfTurn none refl none_not-ten) e)

    go : (b : Bool) → ltb 3 i ≡ b →
        unless (check b OutOfTurn none) (lastly (uncovered i (kept_live (restart buffer k)) m) (restart buffer k)) ≡ refused TableFull → ⊥
    go true p q = differs OutOfTurn refl (refused_same OutOfTurn TableFull q)
    go false p q =
        let le = not-lt 3 i p in
        let lt : i < slot_limit = omega arith in
        omega (arith, uncovered_is i m F lt (kept_live (restart buffer k)) mark, few, parted i m F lt)
