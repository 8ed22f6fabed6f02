-- Restart accepts the log of every reached state, whole, with or without a base line, and gives the same book and the same marks.
use Rattle.std.specs.Prelude.{◌≡◌, refl, false, not, ℕ, ◌+◌, ◌-◌, ◌≤◌, leb, take, drop}
use Rattle.std.proofs.Math.Path.{ap, ap₂, subst}
use Rattle.std.proofs.Common.{◌∙◌, arith, le→leb, length-take, length-append}
use Rattle.std.proofs.Math.Option.{none}
use mathlib.Core.List.{List}
use Rattle.std.proofs.Math.ListN.{length}
use Rattle.std.proofs.Math.Seq.{take-length}
use Rattle.forms.specs.ListLaws.{T_true}
use Rattle.forms.specs.Decimal.{top}
use Rattle.forms.specs.Forms.{Did, Restarted}
use Rattle.forms.specs.declared.Refusal.TheVariants.{Unreadable, AboveLimit, BadLog}
use Rattle.rules.specs.Book.{cell}
use Rattle.rules.specs.Log.{mark, journal, head_text, lines_text, log_text, read_log}
use Rattle.rule_laws.specs.WeaveLaws.{dids-weave}
use Rattle.rule_laws.specs.KeptLaws.{good_reads}
use Rattle.forms.specs.Limits.{log_limit}
use Rattle.rules.specs.State.{State, ok, lines_in, start_of, done_in, log_bytes, stable_to, version_at, live_done}
use Rattle.rules.specs.Calls.{restarted, restart_as, restart, cut_above, base_cut, cut, Call, writable, perform, step}
use Rattle.rule_laws.specs.CheckLaws.{unless_none, none_check, le_not_lt, or-false}
use Rattle.rule_laws.specs.Good.{Good}
use Rattle.rule_laws.specs.GoodLaws.{good-restart, good-run}
use Rattle.rules.specs.Run.{run}
use Rattle.recovery.specs.Claim.{Start, Shows}
use Rattle.recovery.proofs.Cuts.{lines-restarted}
use Rattle.recovery.proofs.Recovery.{start-good, show_is}
use Rattle.end_to_end.specs.Restart.{HoldsLog, Restarts}

-- The site that restart gives from the log of st, in a buffer of `room` bytes.
module _ (st : State) (room : ℕ) where
  abbrev pub again : State
  again = restarted room st.histories st.base (lines_in st)

  same_lines : lines_in again ≡ lines_in st
  same_lines = lines-restarted room st.histories st.base (lines_in st)

  same_log : again.log ≡ st.log
  unfolding restarted
  same_log = dids-weave st.log st.stables

  same_bytes_lem : log_bytes again ≡ log_bytes st
  unfolding log_bytes restarted
  same_bytes_lem = ap (log_text st.histories st.base) same_lines

  -- What restart replies.
  restarts_as : restart_as room (journal st.histories st.base (lines_in st)) ≡ ok again (Restarted (done_in st) (length (log_bytes st)))
  unfolding restart_as
  restarts_as =
      ap₂ (λ (i j : ℕ). ok again (Restarted ((start_of st).up_to + i) j)) (ap length (dids-weave st.log st.stables))
      (ap length same_bytes_lem)

module _ (st : State) (G : Good st) (buffer : List ℕ) (held : HoldsLog buffer st) where
  long : length (log_bytes st) ≤ length buffer
  long = omega (arith, ap length held.bytes, length-take (length (log_bytes st)) buffer)

  at-restart : restart buffer (length (log_bytes st)) ≡ ok (again st (length buffer)) (Restarted (done_in st) (length (log_bytes st)))
  unfolding restart
  at-restart =
      unless_none _ _ (none_check _ AboveLimit none
      (or-false _ _ (le_not_lt (length buffer) (length (log_bytes st)) long) (le_not_lt log_limit (length buffer) held.within)) refl)
      ∙ ap (λ (x : List ℕ). restart_as (length buffer) (read_log x)) held.bytes
      ∙ ap (restart_as (length buffer)) (good_reads st G)
      ∙ restarts_as st (length buffer)

  -- Over every good state.
  pub restart-good : Restarts st buffer
  unfolding restarted version_at live_done
  restart-good =
      record {
        site = again st (length buffer);
        accepted = at-restart;
        lines = same_lines st (length buffer);
        log = same_log st (length buffer);
        bytes = same_bytes_lem st (length buffer);
        histories = refl;
        base = refl;
        done = ap (λ (l : List Did). (start_of st).up_to + length l) (same_log st (length buffer));
        persistent = ap (λ (l : List Did). (start_of st).up_to + length l) (same_log st (length buffer));
        shows = λ h lt. (
          show_is h st G lt,
          subst (λ (l : List Did). Shows (again st (length buffer)) h (cell (start_of st) h l)) (same_log st (length buffer))
              (show_is h (again st (length buffer)) (good-restart buffer _ _ _ at-restart) lt),
        );
        stable = ap (mark (start_of st)) (same_lines st (length buffer));
        stable_version = λ h.
            ap₂ (λ (i : ℕ) (l : List Did). (cell (start_of st) h (take (i - (start_of st).up_to) l)).version)
            (ap (mark (start_of st)) (same_lines st (length buffer)))
            (same_log st (length buffer));
        live_again = ap (drop (stable_to st - (start_of st).up_to)) (same_log st (length buffer));
      }

head_within : (st : State) → length (head_text st.histories st.base) ≤ length (log_bytes st)
unfolding log_bytes log_text
head_within st = omega (arith, length-append (head_text st.histories st.base) (lines_text (lines_in st)))

-- The session's way: a cut at the last byte in use loses nothing.
pub cut-whole : (st : State) (room : ℕ) → Good st → length (log_bytes st) ≤ room → room ≤ log_limit →
    step (Call.Cut (length (log_bytes st)) room) st ≡ ok (again st room) (Restarted (done_in st) (length (log_bytes st)))
unfolding step writable perform cut cut_above base_cut
cut-whole st room G fits limit =
    unless_none _ _ (none_check _ Unreadable none (le_not (length (log_bytes st)) top (omega arith)) refl)
    ∙ unless_none _ _ (none_check _ AboveLimit _
    (or-false _ _ (or-false _ _ (le_not_lt (length (log_bytes st)) (length (log_bytes st)) (omega arith))
    (le_not_lt room (length (log_bytes st)) fits))
    (le_not_lt log_limit room limit)) (none_check _ BadLog none (le_not_lt (length (log_bytes st)) _ (head_within st)) refl))
    ∙ ap (λ (x : List ℕ). restart_as room (read_log x)) (take-length (log_bytes st))
    ∙ ap (restart_as room) (good_reads st G)
    ∙ restarts_as st room
  where
    le_not : (a b : ℕ) → a ≤ b → not (leb a b) ≡ false
    le_not a b h = rw (T_true (leb a b) (le→leb a b h))

-- Over every state that calls reach: from a site just opened, or restarted from any log that restart accepts, after any list of calls,
-- refused ones included.
pub restart_reached : (m : ℕ) (s : State) → Start m s → (cs : List Call) (buffer : List ℕ) → HoldsLog buffer (run cs s) →
    Restarts (run cs s) buffer
restart_reached m s start cs buffer held = restart-good (run cs s) (good-run cs s (start-good m s start)) buffer held
