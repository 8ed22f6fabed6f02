-- "At the changeover" (02, (g)): an older log, changed over by the code's `upgrade` and then restarted by its `Site::restart`, starts a
-- list of calls of the recovery claim (`SiteCallsClaim`), with its own did lines, all of them persistent and stable, and nothing live.
use Rattle.std.specs.Prelude.{◌≡◌, List, ◌++◌, map, ℕ, ◌^◌, ◌<◌, length, take, drop, Result, Ok}
use Rattle.std.proofs.Math.Option.{none}
use Rattle.forms.specs.declared.Refusal.{Refusal}
use Rattle.forms.specs.Forms.{Did, Line, did_line}
use Rattle.rules.specs.Book.{blank_base, cell, cell_with}
use Rattle.rules.specs.Log.{dids, closing, journal, log_text}
use Rattle.rules.specs.State.{lines_in, stable_to, live}
use Rattle.rules.specs.Calls.{restart}
use Rattle.rules.specs.OldLog.{read_old_with, read_old, upgrade}
use Rattle.rule_laws.specs.OlderLogs.{older_parts}
use Rattle.older_log.specs.Model.{Upgrades}
use Rattle.site.specs.declared.CallResult.{CallResult}
use Rattle.site.specs.OpenLaws.{blank_site}
use Rattle.site.specs.Model.{Lent, Opens}
use Rattle.end_to_end.specs.SiteCalls.{Memory, memory, state_in, log_in, StartsSite}

-- What the code's site is, restarted from an older log in the first k bytes of a buffer that was changed over.
pub record ChangedOver (old : List ℕ) (k used : ℕ) (x : Memory) : Type 0 where
  -- a list of calls may start there, with all its lines counted persistent, the new stable line too: "which counts as persistent from then
  -- on"
  pub starts : StartsSite (length (lines_in (state_in x))) x
  -- the did lines of the older log, "read and refused as before"
  pub n : ℕ
  pub log : List Did
  pub read : read_old (take k old) ≡ journal n none (map did_line log)
  pub same : (state_in x).log ≡ log
  -- it gets no base line
  pub no_base : (state_in x).base ≡ none
  -- "is given a stable line of their number behind its whole lines"
  pub bytes : log_in x ≡ log_text n none (map did_line log ++ closing 0 (length log))
  -- "the bytes used are replied"; the bytes past them are as they were
  pub in_use : x.site.used ≡ used
  pub past : drop used x.lent.log ≡ drop used old
  -- all of them are persistent and stable, and nothing is live
  pub persistent : (state_in x).persistent_to ≡ length log
  pub stable : stable_to (state_in x) ≡ length log
  pub nothing : live (state_in x) ≡ 0
  -- of a log of four parts, each history has the profile, version and place that it had, the profile below 2^32
  pub older : (m : ℕ) (lines : List Line) → read_old_with older_parts (take k old) ≡ journal m none lines → (h : ℕ) →
      (cell blank_base h (state_in x).log ≡ cell_with older_parts blank_base h (dids lines))
      × ((cell blank_base h (state_in x).log).profile < 2 ^ 32)

-- For every older log that is changed over, whatever is lent beside its buffer: by the contracts of `upgrade`, which replies the bytes
-- used and leaves `buffer`, and of `Site::restart`.
abbrev pub ChangeoverClaim : Type 0
ChangeoverClaim =
    (old : List ℕ) (k : ℕ) (c : Result ℕ Refusal) (buffer : List ℕ) → Upgrades (upgrade old k) old c buffer → (used : ℕ) → c ≡ Ok used →
    (m : Lent) → m.log ≡ buffer → (r : CallResult) (new : Lent) → Opens blank_site m (restart m.log used) r new →
    ChangedOver old k used (memory r.site new)
