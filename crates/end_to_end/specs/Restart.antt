-- Restart accepts the log of every reached state, whole, with or without a base line, and gives the same book and the same marks.
use Rattle.std.specs.Prelude.{◌≡◌, ℕ, ◌-◌, ◌≤◌, ◌<◌, take, drop}
use mathlib.Core.List.{List}
use Rattle.std.proofs.Math.ListN.{length}
use Rattle.forms.specs.Forms.{Restarted}
use Rattle.rules.specs.Book.{cell}
use Rattle.forms.specs.Limits.{log_limit}
use Rattle.rules.specs.State.{State, ok, lines_in, start_of, done_in, log_bytes, stable_to, version_at, live_done}
use Rattle.rules.specs.Calls.{restart}
use Rattle.recovery.specs.Claim.{Shows}

-- The buffer holds the log of the site st in its first bytes; what stands behind them is free.
pub record HoldsLog (buffer : List ℕ) (st : State) : Type 0 where
  pub within : length buffer ≤ log_limit
  pub bytes : take (length (log_bytes st)) buffer ≡ log_bytes st

-- A restart of st from all bytes of its log is accepted and keeps every line; each history shows the same version, place and profile, and
-- the stable version that it showed: "Stable means stable after a restart too". "kept operations above it are live again".
pub record Restarts (st : State) (buffer : List ℕ) : Type 0 where
  pub site : State
  pub accepted : restart buffer (length (log_bytes st)) ≡ ok site (Restarted (done_in st) (length (log_bytes st)))
  pub lines : lines_in site ≡ lines_in st
  pub log : site.log ≡ st.log
  pub bytes : log_bytes site ≡ log_bytes st
  pub histories : site.histories ≡ st.histories
  pub base : site.base ≡ st.base
  -- the log numbers go on behind the last did line, and all of them are persistent
  pub done : done_in site ≡ done_in st
  pub persistent : site.persistent_to ≡ done_in st
  pub shows : (h : ℕ) → h < st.histories → Shows st h (cell (start_of st) h st.log) × Shows site h (cell (start_of st) h st.log)
  pub stable : stable_to site ≡ stable_to st
  pub stable_version : (h : ℕ) → version_at (stable_to site) h site ≡ version_at (stable_to st) h st
  pub live_again : live_done site ≡ drop (stable_to st - (start_of st).up_to) st.log
