-- An instance of the recovery claim as calls of the code's site: whatever the site does with the calls by its contracts, the claim of its
-- calls speaks of it, and the bytes of its log are those of the instance's states.
use Rattle.std.specs.Prelude.{ℕ, ◌≡◌, Bool, List, ◌∷◌, ◌++◌, length}
use Rattle.std.proofs.Math.Path.{sym, ap}
use Rattle.std.proofs.Common.{◌∙◌, subst}
use Rattle.forms.specs.Limits.{live_limit}
use Rattle.forms.specs.Lists.{below}
use Rattle.forms.specs.Forms.{Did, Opened}
use Rattle.rules.specs.State.{State, Reply, ok, settle, log_bytes}
use Rattle.rules.specs.Calls.{open_site, Call, Cut, step}
use Rattle.rules.specs.Run.{run}
use Rattle.recovery.specs.Claim.{counted, Fair, lost_by, came, Asked}
use Rattle.recovery.proofs.Recovery.{run-append}
use Rattle.site.specs.declared.CallResult.{CallResult}
use Rattle.site.specs.OpenLaws.{blank_site}
use Rattle.history.specs.WordLaws.{below_long}
use Rattle.site.specs.Model.{Lent, AcceptedAs, Opens}
use Rattle.end_to_end.specs.SiteCalls.{Memory, memory, state_in, log_in, Transition, Execution, StartsSite, opens, RecoveredIn}
use Rattle.end_to_end.proofs.SiteCallsLaws.{RunsAs, alone-after, makes_runs, calls-run, log_bytes_lem, site-calls}

-- A site of n histories in `room` bytes, calls, a fair cut, and calls behind it that are as asked.
pub record Instance (n room : ℕ) : Type 0 where
  pub site : State
  pub opened : open_site n room ≡ ok site Opened
  pub earlier : List Call
  pub kept : ℕ
  pub later : List Call
  pub picked : State
  pub chosen : Did → Bool
  pub fair : Fair (counted 0 earlier site) kept room (run earlier site) picked
  pub asked : Asked 0 site (λ a. earlier ++ Cut kept room ∷ a) later (lost_by (run earlier site) picked) chosen

-- The states just before the picked cut, and at the end.
abbrev pub state_before : {n room : ℕ} → Instance n room → State
state_before i = run i.earlier i.site

abbrev pub state_at_end : {n room : ℕ} → Instance n room → State
state_at_end {n} {room} i = run (i.earlier ++ Cut i.kept room ∷ i.later) i.site

-- The site is opened over a buffer of `room` bytes, and the instance's calls are made of it.
module _ (n room : ℕ) (i : Instance n room) (lends : Lent) (size : length lends.log ≡ room) (r : CallResult) (new : Lent)
    (opening : Opens blank_site lends (open_site n (length lends.log)) r new)
    (before after final : Memory) (first : Execution (memory r.site new) i.earlier before)
    (cut : Transition before (Cut i.kept room) after)
    (rest : Execution after i.later final) where
  -- the site just opened
  abbrev start : Memory
  start = memory r.site new

  -- the calls up to some behind the cut
  abbrev up_to : List Call → List Call
  up_to a = i.earlier ++ Cut i.kept room ∷ a

  accepted : open_site n (length lends.log) ≡ ok i.site Opened
  accepted = ap (open_site n) size ∙ i.opened

  begun : AcceptedAs (below live_limit) lends i.site Opened r new
  begun = subst (λ (reply : Reply). Opens blank_site lends reply r new) accepted opening

  begins : StartsSite 0 start
  begins = opens n lends r new i.site Opened opening accepted

  a : RunsAs before (run i.earlier (state_in start))
  a = calls-run begun.valid (alone-after (below live_limit) lends i.site Opened r new (below_long live_limit) begun) first

  -- Before the cut, behind it, and at the end the site is the state that the instance says.
  at_before : state_in before ≡ state_before i
  at_before = a.state ∙ ap (run i.earlier) begun.state

  b : RunsAs after (settle (step (Cut i.kept room) (state_in before)) (state_in before))
  b = makes_runs a.valid a.alone cut

  at_cut : state_in after ≡ settle (step (Cut i.kept room) (state_before i)) (state_before i)
  at_cut = b.state ∙ ap (λ (st : State). settle (step (Cut i.kept room) st) st) at_before

  at_after : state_in after ≡ i.picked
  unfolding settle
  at_after = at_cut ∙ ap (λ (reply : Reply). settle reply (state_before i)) i.fair.accepted

  c : RunsAs final (run i.later (state_in after))
  c = calls-run b.valid b.alone rest

  at_end_lem : state_in final ≡ state_at_end i
  unfolding run
  at_end_lem = c.state ∙ ap (run i.later) at_cut ∙ sym (run-append i.earlier (Cut i.kept room ∷ i.later) i.site)

  -- The cut is fair, and the calls behind it are as asked.
  fair : Fair (counted 0 i.earlier (state_in start)) i.kept room (state_in before) (state_in after)
  fair =
      subst (λ (s : State). Fair (counted 0 i.earlier s) i.kept room (state_in before) (state_in after)) (sym begun.state)
      (subst (λ (s : State). Fair (counted 0 i.earlier i.site) i.kept room s (state_in after)) (sym at_before)
      (subst (λ (s : State). Fair (counted 0 i.earlier i.site) i.kept room (state_before i) s) (sym at_after) i.fair))

  asked : Asked 0 (state_in start) up_to i.later (lost_by (state_in before) (state_in after)) i.chosen
  asked =
      subst (λ (s : State). Asked 0 s up_to i.later (lost_by (state_in before) (state_in after)) i.chosen) (sym begun.state)
      (subst (λ (s : State). Asked 0 i.site up_to i.later (lost_by s (state_in after)) i.chosen) (sym at_before)
      (subst (λ (s : State). Asked 0 i.site up_to i.later (lost_by (state_before i) s) i.chosen) (sym at_after) i.asked))

  -- The claim of the site's calls, and the bytes of its log just before the cut and at the end.
  pub by_calls : RecoveredIn before after (lost_by (state_in before) (state_in after)) i.chosen
      (came (i.earlier ++ Cut i.kept room ∷ i.later) (state_in start)) final
      × (log_in before ≡ log_bytes (state_before i)) × (log_in final ≡ log_bytes (state_at_end i))
  by_calls = (
    site-calls 0 start begins i.earlier before first i.kept room after cut i.later final rest i.chosen fair asked,
    log_bytes_lem before a.valid ∙ ap log_bytes at_before,
    log_bytes_lem final c.valid ∙ ap log_bytes at_end_lem,
  )
