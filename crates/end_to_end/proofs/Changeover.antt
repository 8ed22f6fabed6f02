-- "At the changeover" (02, (g)): an older log, changed over by the code's `upgrade` and then restarted by its `Site::restart`, starts a
-- list of calls of the recovery claim (`SiteCallsClaim`), with its own did lines, all of them persistent and stable, and nothing live.
use Rattle.std.proofs.Common.{arith, sym, ap, ap₂, ◌∙◌, subst}
use Rattle.std.specs.Prelude.{◌≡◌, refl, List, ◌++◌, map, ℕ, ◌^◌, ◌<◌, length, take, drop, Result, Ok, Err}
use Rattle.std.proofs.Math.Option.{Option, none}
use Rattle.forms.specs.declared.Refusal.{Refusal}
use Rattle.forms.specs.Lists.{below}
use Rattle.forms.specs.Forms.{Base, Did, Line, did_line, Restarted}
use Rattle.forms.specs.Limits.{live_limit}
use Rattle.rules.specs.Book.{blank_base, cell}
use Rattle.rules.specs.Log.{dids, closing, journal, log_text}
use Rattle.rules.specs.State.{State, Reply, ok, lines_in, log_bytes, stable_to, live}
use Rattle.rules.specs.Calls.{restart, restarted}
use Rattle.rules.specs.OldLog.{Upgrade, not_upgraded, upgrade, upgraded}
use Rattle.rule_laws.specs.OldLogLaws.{Upgraded, upgrade-holds, RestartsAs, upgraded_restarts}
use Rattle.rule_laws.specs.OlderLogs.{read_alike}
use Rattle.rule_laws.specs.WeaveLaws.{dids-map}
use Rattle.recovery.proofs.Cuts.{lines-restarted}
use Rattle.older_log.specs.Model.{Upgrades}
use Rattle.site.specs.OpenLaws.{blank_site}
use Rattle.site.specs.Model.{AcceptedAs, Opens}
use Rattle.end_to_end.specs.SiteCalls as site-calls
use Rattle.end_to_end.specs.SiteCalls.{memory, state_in, log_in, StartsSite}
use Rattle.end_to_end.proofs.SiteCallsLaws.{log_bytes_lem, used_in_lem}
use Rattle.end_to_end.specs.Changeover.{ChangeoverClaim}

-- The log of a restarted site is the text of the lines that it was given.
restarted-bytes : (room n : ℕ) (β : Option Base) (lines : List Line) → log_bytes (restarted room n β lines) ≡ log_text n β lines
unfolding log_bytes restarted
restarted-bytes room n β lines = ap (log_text n β) (lines-restarted room n β lines)

-- .. and its base line the one that it was given.
restarted-base : (room n : ℕ) (β : Option Base) (lines : List Line) → (restarted room n β lines).base ≡ β
unfolding restarted
restarted-base room n β lines = refl

same_lines : (n m : ℕ) (a b : List Line) → journal n none a ≡ journal m none b → a ≡ b
same_lines n m a b e = cc

-- A changeover that replies the bytes used has written what the specification writes.
written_by : (u : Upgrade) (old : List ℕ) (c : Result ℕ Refusal) (buffer : List ℕ) → Upgrades u old c buffer → (used : ℕ) → c ≡ Ok used →
    u ≡ upgraded buffer used
written_by (not_upgraded q) old c buffer U used e =
    let clash : Err q ≡ Ok used = sym U.reply ∙ e in let z : ◌≡◌ {A = ℕ} 0 1 = cc in absurd (omega arith)
written_by (upgraded bytes n) old c buffer U used e =
    let same : Ok n ≡ Ok used = sym U.reply ∙ e in
    let counts : n ≡ used = cc in ap₂ upgraded (sym U.bytes) counts

-- By the two contracts, from what the changeover writes.
pub changeover : ChangeoverClaim
changeover old k c buffer over used replied m is r new opens =
    record {
      starts = begins;
      n = U.n;
      log = U.log;
      read = U.read;
      same = same_log;
      no_base = ap (λ (s : State). s.base) A.state ∙ restarted-base (length buffer) U.n none _;
      bytes = text;
      in_use = in_use_lem;
      past =
          subst (λ (i : ℕ). drop i new.log ≡ drop i m.log) in_use_lem A.past ∙ ap (drop used) is ∙ U.past;
      persistent = ap (λ (s : State). s.persistent_to) A.state ∙ S.persistent;
      stable = ap stable_to A.state ∙ S.stable;
      nothing = ap live A.state ∙ S.nothing;
      older = λ i lines e h.
          let alike = read_alike (take k old) i lines e in
          let log_is : dids lines ≡ x_log =
          ap dids (same_lines i U.n lines (map did_line U.log) (sym alike.accepted ∙ U.read)) ∙ dids-map U.log
          ∙ sym same_log in (
            sym (ap (cell blank_base h) log_is) ∙ alike.book h,
            subst (λ (l : List Did). (cell blank_base h l).profile < 2 ^ 32) log_is (alike.low h),
          );
    }
  where
    U : Upgraded old buffer k used
    U = upgrade-holds old k buffer used (written_by (upgrade old k) old c buffer over used replied)

    site : State
    site = restarted (length buffer) U.n none (map did_line U.log ++ closing 0 (length U.log))

    S : RestartsAs buffer used U.n U.log site
    S = upgraded_restarts old buffer k used U

    accepted : restart m.log used ≡ ok site (Restarted (length U.log) used)
    accepted = ap (λ (b : List ℕ). restart b used) is ∙ S.accepted

    A : AcceptedAs (below live_limit) m site (Restarted (length U.log) used) r new
    A = subst (λ (reply : Reply). Opens blank_site m reply r new) accepted opens

    x_log : List Did
    x_log = (state_in (memory r.site new)).log

    same_log : x_log ≡ U.log
    same_log = ap (λ (s : State). s.log) A.state ∙ S.same

    begins : StartsSite (length (lines_in (state_in (memory r.site new)))) (memory r.site new)
    begins = site-calls.restarted used m r new site (Restarted (length U.log) used) opens accepted

    text : log_in (memory r.site new) ≡ log_text U.n none (map did_line U.log ++ closing 0 (length U.log))
    text =
        log_bytes_lem (memory r.site new) A.valid ∙ ap log_bytes A.state
        ∙ restarted-bytes (length buffer) U.n none (map did_line U.log ++ closing 0 (length U.log))

    in_use_lem : r.site.used ≡ used
    in_use_lem = used_in_lem (memory r.site new) A.valid ∙ ap length text ∙ sym U.used_is
