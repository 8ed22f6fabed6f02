-- Request (n) of the code's calls, proved: calls that keep their contracts are `run` of the list, and the did lines in the bytes of a valid
-- site's log are those of its state.
use Rattle.std.specs.Prelude.{◌≡◌, List, ◌∷◌, ◌++◌, ℕ}
use Rattle.std.proofs.Common.{sym, ap, ◌∙◌, subst}
use Rattle.forms.specs.Forms.{Did}
use Rattle.rules.specs.State.{State, settle}
use Rattle.rules.specs.Calls.{Call, Cut, step}
use Rattle.rules.specs.Run.{run}
use Rattle.recovery.specs.Claim.{Start, counted, Fair, lost_by, Asked}
use Rattle.recovery.proofs.Recovery.{run-append}
use Rattle.recovery.specs.Arrival.{did_lines, every, SameWork}
use Rattle.recovery.proofs.ArrivalLaws.{did_lines_lem, arrival, all_three}
use Rattle.end_to_end.specs.SiteCalls.{Memory, state_in, ValidIn, Alone, log_in}
use Rattle.end_to_end.proofs.SiteCallsLaws.{RunsAs, log_bytes_lem, good_in, makes_runs, calls-run, starts_at}
use Rattle.end_to_end.specs.ArrivalCalls.{lines_before, lines_at_end, SiteArrivalClaim, SiteOrdersClaim}

-- The did lines in the bytes of a valid site's log.
lines_in_lem : (x : Memory) → ValidIn x → did_lines (log_in x) ≡ (state_in x).log
lines_in_lem x v = ap did_lines (log_bytes_lem x v) ∙ did_lines_lem (state_in x) (good_in x v)

-- `arrival`, where the states before the picked cut and at the end are given by equations.
arrives_at : (m : ℕ) (s : State) → Start m s → (xs : List Call) (k room : ℕ) (ys : List Call) (before after final : State) →
    run xs s ≡ before → run (xs ++ Cut k room ∷ ys) s ≡ final → Fair (counted m xs s) k room before after →
    Asked m s (λ a. xs ++ Cut k room ∷ a) ys (lost_by before after) every → SameWork before.log final.log
arrives_at m s start xs k room ys before after final e f fair asked =
    subst (λ (z : State). SameWork before.log z.log) f
    (subst (λ (z : State). SameWork z.log (run (xs ++ Cut k room ∷ ys) s).log) e
    (arrival
    (record {
      counts = m;
      site = s;
      start = start;
      calls = xs;
      kept = k;
      room = room;
      further = ys;
      after = after;
      fair = subst (λ (b : State). Fair (counted m xs s) k room b after) (sym e) fair;
      asked = subst (λ (b : State). Asked m s (λ a. xs ++ Cut k room ∷ a) ys (lost_by b after) every) (sym e) asked;
    })))

pub site_arrival : SiteArrivalClaim
unfolding run
site_arrival D =
    subst (λ (l : List Did). SameWork l (lines_at_end D)) (sym (lines_in_lem D.before a.valid))
    (subst (λ (l : List Did). SameWork (state_in D.before).log l) (sym (lines_in_lem D.final c.valid))
    (arrives_at D.counts (state_in D.start) at_start_lem.2 D.calls D.kept D.room D.further
    (state_in D.before) (state_in D.after) (state_in D.final) (sym a.state)
    (sym (c.state ∙ ap (run D.further) (b.state ∙ ap (λ (st : State). settle (step (Cut D.kept D.room) st) st) a.state)
    ∙ sym (run-append D.calls (Cut D.kept D.room ∷ D.further) (state_in D.start)))) D.fair D.asked))
  where
    at_start_lem : ValidIn D.start × Alone D.start × Start D.counts (state_in D.start)
    at_start_lem = starts_at D.starts

    a : RunsAs D.before (run D.calls (state_in D.start))
    a = calls-run at_start_lem.0 at_start_lem.1 D.makes

    b : RunsAs D.after (settle (step (Cut D.kept D.room) (state_in D.before)) (state_in D.before))
    b = makes_runs a.valid a.alone D.cuts

    c : RunsAs D.final (run D.further (state_in D.after))
    c = calls-run b.valid b.alone D.resends

pub site_orders : SiteOrdersClaim
site_orders D E same =
    all_three (lines_before D) (lines_before E) (lines_at_end D) (lines_at_end E) same (site_arrival D) (site_arrival E)
