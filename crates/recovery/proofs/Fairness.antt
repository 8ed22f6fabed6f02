-- Fairness in bytes: a cut of as many bytes as the lines counted persistent take is never refused 15, and is fair.
use Rattle.std.specs.Prelude.{◌≡◌, refl, List, ℕ, ◌-◌, ◌≤◌, leb, take}
use Rattle.std.proofs.Common.{sym, ◌∙◌, le→leb}
use Rattle.std.proofs.Math.Path.{ap}
use Rattle.std.proofs.Math.Bool.{false, not}
use Rattle.std.proofs.Math.Option.{none}
use mathlib.Core.List.Memᴰ
use native.Mathlib.Omega.{arith}
use Rattle.std.proofs.Math.ListN.{length}
use Rattle.forms.specs.Decimal.{top}
use Rattle.forms.specs.ListLaws.{Prefix, mem_along, T_true}
use Rattle.forms.specs.Forms.{Line}
use Rattle.forms.specs.declared.Refusal.TheVariants.{BadLog, Unreadable, AboveLimit}
use Rattle.rules.specs.Log.{head_text, mark, journal, log_text, read_log}
use Rattle.forms.specs.Limits.{log_limit}
use Rattle.rules.specs.State.{start_of, State, lines_in, log_bytes}
use Rattle.rules.specs.Calls.{base_cut, restarted, restart_as, cut_above, cut, writable, perform, step}
use Rattle.rule_laws.specs.Good.{Good}
use Rattle.rule_laws.specs.CheckLaws.{none_check, unless_none, le_not_lt, or-false}
use Rattle.rule_laws.specs.FitLaws.{fit, fit_prefix, fit_keeps, length_log}
use Rattle.rule_laws.specs.WeaveLaws.{mark-front, rises-front}
use Rattle.rule_laws.specs.LogLaws.{read_end}
use Rattle.rule_laws.specs.CutLaws.{cut_reads}
use Rattle.recovery.specs.Claim.{Fair}
use Rattle.recovery.proofs.Counted.{Counts, take_begins}
use Rattle.rule_laws.specs.KeptLaws.{good_stand, kept-holds}
use Rattle.recovery.proofs.Cuts.{lines-restarted}

module _ (m k room : ℕ) (st : State) (G : Good st) (C : Counts m st) where
  kept : List Line
  kept = fit (k - length (head_text st.histories st.base)) (lines_in st)

  -- The bytes that the site line, the base line and the counted lines take.
  abbrev pub safe : ℕ
  safe = length (log_text st.histories st.base (take m (lines_in st)))

  module _ (enough : safe ≤ k) (within : k ≤ length (log_bytes st)) (fits : k ≤ room) (limit : room ≤ log_limit) where
    counted-front : Prefix (take m (lines_in st)) kept
    unfolding kept
    counted-front =
        fit_keeps (k - length (head_text st.histories st.base)) (take m (lines_in st)) (lines_in st) (take_begins m (lines_in st))
        (omega (arith, length_log st.histories st.base (take m (lines_in st))))

    left-kept : st.left_to ≤ mark (start_of st) kept
    unfolding kept
    left-kept =
        omega (
          arith,
          C.left,
          mark-front (start_of st) (take m (lines_in st)) kept counted-front
              (rises-front (start_of st) kept (lines_in st) (fit_prefix (k - length (head_text st.histories st.base)) (lines_in st))
              G.rises),
        )

    pub after : State
    after = restarted room st.histories st.base kept

    read_is : read_log (take k (log_bytes st)) ≡ journal st.histories st.base kept
    unfolding kept log_bytes
    read_is =
        cut_reads st.histories st.base (lines_in st) k G.histories G.head (good_stand st G)
        (omega (arith, length_log st.histories st.base (take m (lines_in st))))
        ∙ read_end st.base st.histories kept
        (kept-holds st kept G (fit_prefix (k - length (head_text st.histories st.base)) (lines_in st)) left-kept)

    -- 13 and 15 do not refuse it.
    cut_accepted : cut k room st ≡ restart_as room (journal st.histories st.base kept)
    unfolding cut cut_above base_cut
    cut_accepted =
        unless_none _ (restart_as room (read_log (take k (log_bytes st))))
        (none_check _ AboveLimit _
        (or-false _ _ (or-false _ _ (le_not_lt (length (log_bytes st)) k within) (le_not_lt room k fits)) (le_not_lt log_limit room limit))
        (none_check _ BadLog none
        (le_not_lt k (length (head_text st.histories st.base))
        (omega (arith, length_log st.histories st.base (take m (lines_in st))))) refl))
        ∙ ap (restart_as room) read_is

    -- A cut of the bytes that count, in a buffer that is no shorter, is fair.
    pub fair_bytes : st.room ≤ room → Fair m k room st after
    unfolding step writable perform after restart_as
    fair_bytes wide =
        record {
          answer = _;
          accepted = unless_none _ (cut k room st) (none_check _ Unreadable none readable refl) ∙ cut_accepted;
          keeps =
              λ l q. mem_along (sym (lines-restarted room st.histories st.base kept))
              (mem_along (sym counted-front.1) (Memᴰ.append_left counted-front.0 q));
          no_shorter = wide;
        }
      where
        readable : not (leb k top) ≡ false
        readable = ap not (T_true (leb k top) (le→leb k top (omega arith)))
