-- A slot's site in the module: where lists of its calls start, and that a fair cut of it is never refused 10, whatever the neighbours did.
use Rattle.std.specs.Prelude.{◌≡◌, ◌⊎◌, List, ℕ, ◌≤◌, T, ltb, length, take}
use Rattle.std.proofs.Common.{sym, ap, ◌∙◌, subst, inl, inr, arith}
use mathlib.Core.List.{Memᴰ as Mem}
use Rattle.std.proofs.Math.Option.{some}
use Rattle.forms.specs.Lists.{all}
use Rattle.forms.specs.Forms.{Line, Answer}
use Rattle.forms.specs.declared.Refusal.TheVariants.{OutOfTurn, TableFull}
use Rattle.rules.specs.State.{State, Reply, refused, ok, lines_in, live}
use Rattle.rules.specs.Calls.{restart, Cut, step}
use Rattle.rules.specs.When.{step_when}
use Rattle.rule_laws.specs.WhenLaws.{step-ten}
use Rattle.rule_laws.specs.Good.{Good}
use Rattle.rule_laws.specs.CheckLaws.{unless-check, not-lt, or_false_left}
use Rattle.recovery.specs.Claim.{Start, just_opened, just_restarted}
use Rattle.recovery.proofs.Counted.{Counts, counted_start}
use Rattle.recovery.proofs.Recovery.{start-good}
use Rattle.recovery.specs.Host.{run_in, counted_in}
use Rattle.recovery.proofs.HostLaws.{good_in, counted_in_lem, fair_live}
use Rattle.compact.specs.Module.{Slot, Module, slot_at, opened_in, kept_live, meets_ten, Move, At, Open}
use Rattle.compact.specs.Module.{Restart, reply_of, promise_of, settle_in, next_of}
use Rattle.compact.specs.Fits.{Fits}
use Rattle.compact.proofs.Fits.{at_with}
use Rattle.compact.proofs.FitsLaws.{ok_restart, cut_never, call_is}
use Rattle.compact.specs.Claim.{site_or, in_slot, goes_on, FairCutAccepted}
use Rattle.compact.proofs.ClaimLaws.{plays_all, opened-all, fits_all, Opened}

-- ### A fair cut

-- What the site of a slot is after a list of the module's calls.
module _ (i counts : ℕ) (start : Module) (F : Fits start) (site : State) (at : (slot_at i start).site ≡ some site)
    (begins : Start counts site)
    (xs : List Move) (on : T (all (goes_on i) xs)) where
  here_open : Opened i (run_in (in_slot i) xs start)
  here_open = opened-all i xs start (site, at) on

  site_is : site_or (slot_at i (run_in (in_slot i) xs start)).site ≡ here_open.0
  site_is = ap site_or here_open.1

  start_is : Good (site_or (slot_at i start).site)
  start_is = start-good counts (site_or (slot_at i start).site) (subst (Start counts) (sym (ap site_or at)) begins)

  pub slot_good-after : Good (site_or (slot_at i (run_in (in_slot i) xs start)).site)
  slot_good-after = good_in (in_slot i) xs start (plays_all i xs start (site, at) on) start_is

  pub slot_counts : Counts (counted_in (in_slot i) counts xs start) (site_or (slot_at i (run_in (in_slot i) xs start)).site)
  slot_counts =
      counted_in_lem (in_slot i) xs counts start (plays_all i xs start (site, at) on) start_is
      (counted_start counts (site_or (slot_at i start).site) (subst (Start counts) (sym (ap site_or at)) begins))

  pub fair_cut_lem : (k room : ℕ) (after : State) (answer : Answer) →
      step (Cut k room) (site_or (slot_at i (run_in (in_slot i) xs start)).site) ≡ ok after answer →
      ((x : Line) → Mem x (take (counted_in (in_slot i) counts xs start) (lines_in (site_or (slot_at i (run_in (in_slot i) xs start)).site))) →
      Mem x (lines_in after)) →
      reply_of (At i (Cut k room)) (run_in (in_slot i) xs start) ≡ ok after answer
  fair_cut_lem k room after answer e keeps = go (step-ten (meets_ten i (Cut k room) st m) (Cut k room) st)
    where
      m : Module
      m = run_in (in_slot i) xs start

      st : State
      st = here_open.0

      fits : Fits m
      fits = fits_all i xs start F

      accepted : step (Cut k room) st ≡ ok after answer
      accepted = ap (step (Cut k room)) (sym site_is) ∙ e

      few : live after ≤ live st
      few =
          fair_live (in_slot i) (counted_in (in_slot i) counts xs start) k room st after answer
          (subst Good site_is slot_good-after)
          (subst (Counts (counted_in (in_slot i) counts xs start)) site_is slot_counts) accepted
          (subst (λ (s : State). (x : Line) → Mem x (take (counted_in (in_slot i) counts xs start) (lines_in s)) →
          Mem x (lines_in after)) site_is keeps)

      not-ten : reply_of (At i (Cut k room)) m ≡ refused TableFull → ⊥
      not-ten = cut_never i m fits st here_open.1 k room (let z = ap kept_live accepted in omega (arith, few))

      go : (step_when (meets_ten i (Cut k room) st m) (Cut k room) st ≡ refused TableFull)
          ⊎ (step_when (meets_ten i (Cut k room) st m) (Cut k room) st ≡ step (Cut k room) st) →
          reply_of (At i (Cut k room)) m ≡ ok after answer
      go (inl q) = absurd (not-ten (call_is i m fits st here_open.1 (Cut k room) ∙ q))
      go (inr q) = call_is i m fits st here_open.1 (Cut k room) ∙ q ∙ accepted

-- A fair cut is never refused 10, whatever the neighbours did: what the site alone accepts the module accepts.
pub fair_cut_accepted : FairCutAccepted
fair_cut_accepted i counts start F site at begins xs on k room after f =
    fair_cut_lem i counts start F site at begins xs on k room after f.answer f.accepted f.keeps

-- ### Where lists start

-- After an accepted restart or opening of a slot a list of it may start: "a site just opened, or restarted from any log that restart
-- accepts".
pub slot_restarted : (i : ℕ) (buffer : List ℕ) (k : ℕ) (m : Module) (after : State) (answer : Answer) → Fits m →
    reply_of (Restart i buffer k) m ≡ ok after answer →
    ((slot_at i (next_of (Restart i buffer k) m)).site ≡ some after) × Start (length (lines_in after)) after
unfolding next_of reply_of
slot_restarted i buffer k m after answer F e =
    let q = unless-check _ OutOfTurn _ after answer e in
    let le = not-lt 3 i q.0 in (
      ap (λ (r : Reply). (slot_at i (settle_in i r (promise_of (Restart i buffer k) (slot_at i m)) m)).site) e
          ∙ ap (λ (s : Slot). s.site) (at_with i _ m (omega (arith, F.four))),
      just_restarted buffer k after answer (ok_restart _ (restart buffer k) after answer q.1),
    )

pub slot_opened : (i n room : ℕ) (m : Module) (after : State) (answer : Answer) → Fits m → reply_of (Open i n room) m ≡ ok after answer →
    ((slot_at i (next_of (Open i n room) m)).site ≡ some after) × Start 0 after
unfolding next_of reply_of
slot_opened i n room m after answer F e =
    let q = unless-check _ OutOfTurn _ after answer e in
    let le = not-lt 3 i (or_false_left (ltb 3 i) (opened_in (slot_at i m).site) q.0) in (
      ap (λ (r : Reply). (slot_at i (settle_in i r (promise_of (Open i n room) (slot_at i m)) m)).site) e
          ∙ ap (λ (s : Slot). s.site) (at_with i _ m (omega (arith, F.four))),
      just_opened n room after answer q.1,
    )
