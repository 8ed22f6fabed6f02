-- A changeover of a slot's log (02, (h) and (m)): the code's `trim` of the slot's site and `Module::restart` from the whole copy are the
-- one step `Changeover` of the slot, by their contracts alone. It is accepted whenever the trim is: it leaves no more live, so 10 is never
-- met.
use Rattle.std.specs.Prelude.{ℕ, ◌≡◌, Bool, not, List, leb, length, Result, Ok, Err}
use native.Mathlib.Omega.{arith}
use Rattle.std.proofs.Math.Path.{refl, sym, ap}
use Rattle.std.proofs.Common.{subst, ◌∙◌, le-ltb}
use Rattle.std.proofs.Math.Bool.{true, false}
use Rattle.std.proofs.Math.Option.{Option, none, some}
use Rattle.forms.specs.ListLaws.{true_T}
use Rattle.forms.specs.Decimal.{top}
use Rattle.forms.specs.Forms.{Answer, Restarted}
use Rattle.forms.specs.declared.Refusal.{Refusal}
use Rattle.forms.specs.declared.Refusal.TheVariants.{Unreadable, OutOfTurn}
use Rattle.rules.specs.Checks.{check}
use Rattle.rules.specs.State.{State, Reply, refused, ok, live, done_in}
use Rattle.rules.specs.Log.{read_log}
use Rattle.rules.specs.Calls.{unless, restart_as, restart, Call, Changeover, writable, step}
use Rattle.rules.specs.Trim.{trim_text, trim_refusal}
use Rattle.rule_laws.specs.TrimLaws.{copied, changes_over_lem}
use Rattle.rule_laws.specs.TrimShows.{Trims, trimmed_restarts}
use Rattle.rule_laws.specs.LiveLaws.{live-changeover}
use Rattle.rule_laws.specs.Good.{Good}
use Rattle.rules.specs.When.{lastly, changeover_when, perform_when, step_when}
use Rattle.rule_laws.specs.WhenLaws.{step_off}
use Rattle.compact.specs.Module.{Module as ModuleState, slot_at, uncovered, meets_ten, kept_live, promised_again, promise_after}
use Rattle.compact.specs.Module.{At, Restart, reply_of, promise_of, settle_in, next_of}
use Rattle.compact.specs.Fits.{claims, Fits}
use Rattle.compact.proofs.Fits.{uncovered_is, parted}
use Rattle.compact.proofs.FitsLaws.{below, site-good, live_is, call_is}
use Rattle.site.specs.Model.{Lent, lent, Valid}
use Rattle.trim.specs.Model.{CopiesLog}
use Rattle.module.specs.declared.ModuleResult.{ModuleResult}
use Rattle.module.specs.Model.{slot_in, lent_at, state_at, Memory, ValidModule, view_of, around, AcceptedIn, DoesFrom, MovesAnew}
use Rattle.module.specs.CallLaws.{opened-below, site-some}
use Rattle.module.specs.Reached.{World, world, ValidWorld, state_of, lent_of, goes_on, restarts, around-same, StepsTo, step-world}
use Rattle.module.specs.Replies.{said_by, outcome_from}
use Rattle.end_to_end.specs.SiteCalls.{memory}
use Rattle.end_to_end.proofs.SiteCallsLaws.{copy_made, copy_refused, changeover-step}

-- ### By the definitions

module _ (i : ℕ) (m : ModuleState) (F : Fits m) (st : State) (at : (slot_at i m).site ≡ some st) where
  module _ (n : ℕ) (fresh copy : List ℕ) (used : ℕ) (t : Trims n fresh st copy used) where
    abbrev good : Good st
    good = site-good i m F st at

    abbrev after : State
    after = copied n (length fresh) st good t.free

    -- what both reply
    abbrev answer : Answer
    answer = Restarted (done_in st) (length (trim_text n st))

    over : step (Changeover n (length fresh)) st ≡ ok after answer
    over = changeover-step n (length fresh) st good t.free ∙ changes_over_lem n (length fresh) st good t.free

    covered : uncovered i (live after) m ≡ false
    unfolding claims
    covered = go (uncovered i (live after) m) refl
      where
        go : (b : Bool) → uncovered i (live after) m ≡ b → b ≡ false
        go false e = refl
        go true e =
            absurd
            (omega (
              arith,
              uncovered_is i m F (below i m F st at) (live after) (true_T (uncovered i (live after) m) e),
              parted i m F (below i m F st at),
              live_is i m F st at,
              live-changeover n (length fresh) st after answer good over,
            ))

    pub changeover_reply : reply_of (At i (Changeover n (length fresh))) m ≡ ok after answer
    unfolding meets_ten
    changeover_reply =
        let c = Changeover n (length fresh) in
        call_is i m F st at c
        ∙ ap (λ (f : Bool). step_when f c st) (ap (λ (x : Reply). uncovered i (kept_live x) m) over ∙ covered)
        ∙ sym (step_off c st)
        ∙ over

    restart_reply : reply_of (Restart i copy used) m ≡ ok after answer
    unfolding reply_of check unless lastly
    restart_reply =
        ap (λ (b : Bool). unless (check b OutOfTurn none) (lastly (uncovered i (kept_live (restart copy used)) m) (restart copy used)))
        (le-ltb 3 i (let lt = below i m F st at in omega (arith, lt)))
        ∙ ap (λ (x : Reply). lastly (uncovered i (kept_live x) m) x)
        (trimmed_restarts n fresh st good copy used t ∙ changes_over_lem n (length fresh) st good t.free)
        ∙ ap (λ (b : Bool). lastly b (ok after answer)) covered

    -- A restart of the slot from the whole copy is the changeover.
    restarts-over : next_of (Restart i copy used) m ≡ next_of (At i (Changeover n (length fresh))) m
    unfolding next_of promise_of
    restarts-over = ap (λ (x : Reply). settle_in i x (promised_again (slot_at i m)) m) (restart_reply ∙ sym changeover_reply)

  -- Where the trim is refused, so is the changeover.
  refused_over : (n room : ℕ) (q : Refusal) → trim_refusal n room st ≡ some q → next_of (At i (Changeover n room)) m ≡ m
  unfolding next_of promise_of step_when perform_when changeover_when writable check unless
  refused_over n room q e = ap (λ (x : Reply). settle_in i x (promise_after c (slot_at i m)) m) (call_is i m F st at c) ∙ go (leb n top) flag
    where
      c : Call
      c = Changeover n room

      flag : Bool
      flag = meets_ten i c st m

      late : (f : Bool) → changeover_when f n room st ≡ refused q
      late f = ap (λ (o : Option Refusal). unless o (lastly f (restart_as room (read_log (trim_text n st))))) e

      go : (b f : Bool) →
          settle_in i (unless (check (not b) Unreadable none) (changeover_when f n room st)) (promise_after c (slot_at i m)) m ≡ m
      go true f = ap (λ (x : Reply). settle_in i x (promise_after c (slot_at i m)) m) (late f)
      go false f = refl

-- ### By the code

module _ (u : World) (v : ValidWorld u) (i : ℕ) (on : (slot_in u.code.slots i).opened ≡ true) (n : ℕ) (fresh : List ℕ) (c : Result ℕ Refusal)
    (copy : List ℕ) (T : CopiesLog (slot_in u.code.slots i).site (u.memory.logs i) n fresh c copy) where
  abbrev st : State
  st = state_at u.code.slots u.memory i

  at : (slot_at i (state_of u)).site ≡ some st
  at = site-some u.code.slots u.memory v i on

  valid : Valid (slot_in u.code.slots i).site (lent_at u.code.slots u.memory i)
  valid = v.each i (opened-below u.code.slots u.memory v i on) on

  -- "the owner changes over, by a restart from the whole fresh log": the module's step, and its reply.
  pub slot_changes_over : (used : ℕ) → c ≡ Ok used → (book ns : List ℕ) (r : ModuleResult) (new : Lent) →
      MovesAnew u.code (Restart i copy used) (lent copy u.memory.rows u.memory.numbers book ns) r new →
      StepsTo u (At i (Changeover n (length fresh))) (world r.after (around i new u.memory.logs u.memory.books))
      × (said_by r new ≡ outcome_from (reply_of (At i (Changeover n (length fresh))) (state_of u)))
  slot_changes_over used e book ns r new D =
      let t = copy_made (memory (slot_in u.code.slots i).site (lent_at u.code.slots u.memory i)) valid n fresh c copy T used e in
      let back = restart_reply i (state_of u) v.fits st at n fresh copy used t in
      let over = changeover_reply i (state_of u) v.fits st at n fresh copy used t in
      let after = world r.after (around i new u.memory.logs u.memory.books) in
      let s : StepsTo u (Restart i copy used) after =
      subst (λ (x : Reply). StepsTo u (Restart i copy used) (goes_on x u after)) back
      (step-world u v (restarts i used copy book ns r new D)) in
      let same = around-same u i ns in
      let A : AcceptedIn i (lent copy u.memory.rows u.memory.numbers book ns)
      (next_of (Restart i copy used) (view_of u.code (around i (lent_of u i ns) u.memory.logs u.memory.books)))
      (Restarted (done_in st) (length (trim_text n st))) r new (around i new u.memory.logs u.memory.books) =
      subst (λ (x : Reply). DoesFrom u.code (Restart i copy used) (lent_of u i ns)
      (lent copy u.memory.rows u.memory.numbers book ns) u.memory.logs u.memory.books x r new)
      (ap (λ (b : Memory). reply_of (Restart i copy used) (view_of u.code b)) same ∙ back)
      (D (u.memory.logs i) (u.memory.books i) u.memory.logs u.memory.books (subst (ValidModule u.code) (sym same) v)) in (
        record { valid = s.valid; state = s.state ∙ restarts-over i (state_of u) v.fits st at n fresh copy used t },
        A.answer.outcome ∙ ap outcome_from (sym over),
      )

  -- A refused trim is a refused changeover: the module stays, and the fresh buffer too.
  pub slot_stays : (q : Refusal) → c ≡ Err q → (next_of (At i (Changeover n (length fresh))) (state_of u) ≡ state_of u) × (copy ≡ fresh)
  slot_stays q e =
      let k = copy_refused (memory (slot_in u.code.slots i).site (lent_at u.code.slots u.memory i)) valid n fresh c copy T q e in
      (refused_over i (state_of u) v.fits st at n (length fresh) q k.number, k.kept)
