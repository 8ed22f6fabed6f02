-- "A shorter log" (02, (h)): the code's `trim` copies the log of a site, and `Site::restart` from the copy shows the same histories, marks
-- and log numbers as from the full log, by their contracts alone.
use Rattle.std.specs.Prelude.{ℕ, ◌≤◌, ◌<◌, ◌≡◌, List, length, take, Result, Ok}
use Rattle.forms.specs.declared.Refusal.{Refusal}
use Rattle.forms.specs.Limits.{log_limit}
use Rattle.forms.specs.Forms.{Answer}
use Rattle.rules.specs.State.{lines_in}
use Rattle.rules.specs.Calls.{restart, Show}
use Rattle.rules.specs.Trim.{trim_text}
use Rattle.rule_laws.specs.TrimShows.{ShowsAlike, Trims}
use Rattle.site.specs.declared.CallResult.{CallResult}
use Rattle.site.specs.OpenLaws.{blank_site}
use Rattle.site.specs.Model.{Lent, Opens}
use Rattle.trim.specs.Model.{CopiesLog}
use Rattle.end_to_end.specs.SiteCalls.{Memory, memory, state_in, ValidIn, log_in, StartsSite, AnswersCall}

-- ### What is said

-- Two sites show the same histories, marks and log numbers.
pub record AlikeIn (short full : Memory) : Type 0 where
  -- "the same histories": whatever `show` of each hands back by its contract, the same reply
  pub shows : (h : ℕ) → h < full.site.count → (answer : Answer) × AnswersCall short (Show h) answer × AnswersCall full (Show h) answer
  -- .. "marks and log numbers": how many operations are done, persistent, stable, and have left the table, as the sites hold them
  pub done : short.site.done.0 ≡ full.site.done.0
  pub persistent : short.site.persistent.0 ≡ full.site.persistent.0
  pub stable : short.site.stable.0 ≡ full.site.stable.0
  pub left : short.site.left.0 ≡ full.site.left.0
  -- .. and of the states, with the live operations
  pub states : ShowsAlike (state_in short) (state_in full)

-- A trim of the site x to n operations left `copy` in a fresh buffer and replied the bytes used; `short` was restarted from all of these,
-- and `full` from all bytes of the log of x.
pub record Shortened (x : Memory) (n : ℕ) (fresh copy : List ℕ) (used : ℕ) (short full : Memory) : Type 0 where
  -- the bytes of the copy at the front, and "no byte of a lent buffer past those in use" altered
  pub made : Trims n fresh (state_in x) copy used
  -- the restart from the copy is accepted, and a list of calls may start there with all its lines counted persistent
  pub starts : StartsSite (length (lines_in (state_in short))) short
  pub valid : ValidIn short
  pub bytes : log_in short ≡ trim_text n (state_in x)
  pub in_use : short.site.used ≡ used
  pub base : short.site.base.0 ≡ n
  -- "Restart from the shorter log shows the same .. as from the full one."
  pub alike : AlikeIn short full

-- For every valid site, any n and fresh buffer with which `trim` replies the bytes used, whatever is lent beside the copy and beside
-- another buffer that holds the full log.
abbrev pub TrimClaim : Type 0
TrimClaim =
    (x : Memory) → ValidIn x →
    (n : ℕ) (fresh : List ℕ) (c : Result ℕ Refusal) (copy : List ℕ) → CopiesLog x.site x.lent.log n fresh c copy → (used : ℕ) → c ≡ Ok used →
    (buffer : Lent) → buffer.log ≡ copy →
    (r : CallResult) (new : Lent) → Opens blank_site buffer (restart buffer.log used) r new →
    (other : Lent) → take x.site.used other.log ≡ log_in x → length other.log ≤ log_limit →
    (q : CallResult) (old : Lent) → Opens blank_site other (restart other.log x.site.used) q old →
    Shortened x n fresh copy used (memory r.site new) (memory q.site old)
