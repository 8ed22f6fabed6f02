-- 02 (c): "Old logs read with the same meaning, and recovery covers both". A log of four parts is older than stable lines, so it is changed
-- over first ((g)): restart accepts the result, each history is as its own book says, and the recovery claim holds from there.
use Rattle.std.specs.Prelude.{◌≡◌, Bool, List, ◌∷◌, ◌++◌, map, ℕ, ◌^◌, ◌<◌, length, take}
use Rattle.std.proofs.Common.{sym, ap, ◌∙◌, subst}
use Rattle.std.proofs.Math.Option.{none}
use Rattle.forms.specs.Forms.{Did, Line, did_line}
use Rattle.rules.specs.Book.{blank_base, cell, cell_with}
use Rattle.rules.specs.Log.{dids, closing, journal}
use Rattle.rules.specs.State.{State, lines_in}
use Rattle.rules.specs.Calls.{restarted, Call, Cut}
use Rattle.rules.specs.OldLog.{read_old_with, upgrade, upgraded}
use Rattle.rule_laws.specs.OldLogLaws.{Upgraded, upgrade-holds, RestartsAs, upgraded_restarts}
use Rattle.rule_laws.specs.OlderLogs.{older_parts, ReadAlike, read_alike}
use Rattle.rule_laws.specs.WeaveLaws.{dids-map}
use Rattle.rules.specs.Run.{run}
use Rattle.recovery.specs.Claim.{Start, just_restarted, Fair, Asked, Recovered, counted, came, lost_by}
use Rattle.recovery.proofs.Recovery.{recovery}

same_lines : (n m : ℕ) (a b : List Line) → journal n none a ≡ journal m none b → a ≡ b
same_lines n m a b e = cc

-- A log of four parts, in the first k bytes of a buffer, and the buffer after its changeover.
module _ (old : List ℕ) (k n : ℕ) (lines : List Line) (buffer : List ℕ) (used : ℕ)
    (older : read_old_with older_parts (take k old) ≡ journal n none lines) (over : upgrade old k ≡ upgraded buffer used) where
  pub U : Upgraded old buffer k used
  U = upgrade-holds old k buffer used over

  alike : ReadAlike (take k old) n lines
  alike = read_alike (take k old) n lines older

  -- the site that restart gives from it
  pub site : State
  site = restarted (length buffer) U.n none (map did_line U.log ++ closing 0 (length U.log))

  -- Restart accepts it: all its lines are persistent and stable, and nothing is live.
  pub older_restarts : RestartsAs buffer used U.n U.log site
  unfolding site
  older_restarts = upgraded_restarts old buffer k used U

  -- .. so a list of calls may start there.
  pub older_start : Start (length (lines_in site)) site
  older_start = just_restarted buffer used site _ older_restarts.accepted

  -- the same did lines
  same_log : site.log ≡ dids lines
  same_log =
      older_restarts.same ∙ sym (dids-map U.log) ∙ ap dids
      (same_lines U.n n (map did_line U.log) lines (sym U.read ∙ alike.accepted))

  -- Each history has the profile, version and place that it had with four parts.
  pub older_book : (h : ℕ) → cell blank_base h site.log ≡ cell_with older_parts blank_base h (dids lines)
  older_book h = ap (cell blank_base h) same_log ∙ alike.book h

  pub older_low : (h : ℕ) → (cell blank_base h site.log).profile < 2 ^ 32
  older_low h = subst (λ (l : List Did). (cell blank_base h l).profile < 2 ^ 32) (sym same_log) (alike.low h)

  -- The recovery claim from there.
  pub older_recovery : (xs : List Call) (cut_at room : ℕ) (ys : List Call) (after : State) (chosen : Did → Bool) →
      Fair (counted (length (lines_in site)) xs site) cut_at room (run xs site) after →
      Asked (length (lines_in site)) site (λ a. xs ++ Cut cut_at room ∷ a) ys (lost_by (run xs site) after) chosen →
      Recovered (run xs site) after (lost_by (run xs site) after) chosen (came (xs ++ Cut cut_at room ∷ ys) site)
      (run (xs ++ Cut cut_at room ∷ ys) site)
  older_recovery = recovery (length (lines_in site)) site older_start
