-- "A shorter log" (02, (h)): the code's `trim` copies the log of a site, and `Site::restart` from the copy shows the same histories, marks
-- and log numbers as from the full log, by their contracts alone.
use Rattle.std.specs.Prelude.{ℕ, ◌≤◌, ◌≡◌, refl, not, List, leb, length, take}
use Rattle.std.proofs.Common.{arith, sym, ap, ◌∙◌, subst, le→leb, length-take}
use Rattle.std.proofs.Math.Option.{none, some}
use Rattle.forms.specs.ListLaws.{T_true}
use Rattle.forms.specs.Lists.{below}
use Rattle.forms.specs.Limits.{live_limit}
use Rattle.forms.specs.Decimal.{top}
use Rattle.forms.specs.Forms.{Restarted}
use Rattle.forms.specs.declared.Refusal.TheVariants.{Unreadable}
use Rattle.rule_laws.specs.CheckLaws.{unless_none, none_check}
use Rattle.rules.specs.State.{State, Reply, ok, start_of, done_in, log_bytes}
use Rattle.rules.specs.Calls.{restart, restarted, show, Show, writable, perform, step}
use Rattle.rules.specs.Log.{log_text}
use Rattle.rule_laws.specs.LogLaws.{histories_most}
use Rattle.rule_laws.specs.Good.{Good}
use Rattle.rules.specs.Trim.{trimmed_base, trimmed_lines, trim_text}
use Rattle.rule_laws.specs.TrimLaws.{copied, changes_over_lem}
use Rattle.rule_laws.specs.TrimShows.{ShowsAlike, shows_alike, Trims, trimmed_restarts, full_restart, full-restarts}
use Rattle.recovery.proofs.Cuts.{lines-restarted}
use Rattle.site.specs.Representation.{Sound}
use Rattle.site.specs.OpenLaws.{blank_site}
use Rattle.site.specs.Model.{AcceptedAs, Opens}
use Rattle.end_to_end.specs.SiteCalls as site-calls
use Rattle.end_to_end.specs.SiteCalls.{Memory, memory, state_in, ValidIn, log_in}
use Rattle.end_to_end.proofs.SiteCallsLaws.{log_bytes_lem, used_in_lem, good_in, answers, copy_made}
use Rattle.end_to_end.specs.TrimCalls.{AlikeIn, TrimClaim}

-- ### Proof

-- The reply of `show` for a history that a site has.
show-step : (h : ℕ) (st : State) → h ≤ top → step (Show h) st ≡ show h st
unfolding step writable perform
show-step h st low = unless_none _ _ (none_check _ Unreadable none (ap not (T_true (leb h top) (le→leb h top low))) refl)

alike_in : (short full : Memory) → ValidIn short → ValidIn full → ShowsAlike (state_in short) (state_in full) → AlikeIn short full
unfolding Sound
alike_in short full v w A =
    record {
      shows = λ h lt.
          let low : h ≤ top = let few = histories_most (state_in full).histories (good_in full w).histories in omega arith in
          let z = A.shows h lt in (
            z.0,
            answers short (Show h) (state_in short) z.0 (show-step h (state_in short) low ∙ z.1),
            answers full (Show h) (state_in full) z.0 (show-step h (state_in full) low ∙ z.2),
          );
      done = v.sound.carries.done ∙ A.done ∙ sym w.sound.carries.done;
      persistent = v.sound.carries.persistent ∙ A.persistent ∙ sym w.sound.carries.persistent;
      stable = v.sound.carries.stable ∙ A.stable ∙ sym w.sound.carries.stable;
      left = v.sound.carries.left ∙ A.left ∙ sym w.sound.carries.left;
      states = A;
    }

copied-bytes : (n room : ℕ) (st : State) →
    log_bytes (restarted room st.histories (some (trimmed_base n st)) (trimmed_lines n st)) ≡ trim_text n st
unfolding log_bytes restarted trim_text
copied-bytes n room st =
    ap (log_text st.histories (some (trimmed_base n st)))
    (lines-restarted room st.histories (some (trimmed_base n st)) (trimmed_lines n st))

copied-base : (n room : ℕ) (st : State) →
    (start_of (restarted room st.histories (some (trimmed_base n st)) (trimmed_lines n st))).up_to ≡ n
unfolding restarted trimmed_base
copied-base n room st = refl

base_in : (x : Memory) → ValidIn x → x.site.base.0 ≡ (start_of (state_in x)).up_to
unfolding Sound
base_in x v = v.sound.carries.base

-- By the contracts of the two calls, from what the specification says of the copy.
pub trim-calls : TrimClaim
trim-calls x v n fresh c copy T used e buffer is r new opens other holds limit q old reopens =
    record {
      made = t;
      starts = site-calls.restarted used buffer r new after _ opens accepted;
      valid = A.valid;
      bytes = text;
      in_use = used_in_lem short A.valid ∙ ap length text ∙ sym t.used_is;
      base = base_in short A.valid ∙ ap (λ (s : State). (start_of s).up_to) A.state ∙ copied-base n (length fresh) st;
      alike =
          alike_in short full A.valid B.valid
          (subst (λ (s : State). ShowsAlike s (state_in full)) (sym A.state)
          (subst (ShowsAlike after) (sym B.state) (shows_alike n (length fresh) (length other.log) st G t.free)));
    }
  where
    st : State
    st = state_in x

    G : Good (state_in x)
    G = good_in x v

    short : Memory
    short = memory r.site new

    full : Memory
    full = memory q.site old

    t : Trims n fresh (state_in x) copy used
    t = copy_made x v n fresh c copy T used e

    after : State
    after = copied n (length fresh) (state_in x) (good_in x v) t.free

    accepted : restart buffer.log used ≡ ok after (Restarted (done_in (state_in x)) (length (trim_text n (state_in x))))
    accepted =
        ap (λ (b : List ℕ). restart b used) is ∙ trimmed_restarts n fresh (state_in x) G copy used t
        ∙ changes_over_lem n (length fresh) (state_in x) G t.free

    A : AcceptedAs (below live_limit) buffer after (Restarted (done_in (state_in x)) (length (trim_text n (state_in x)))) r new
    A = subst (λ (reply : Reply). Opens blank_site buffer reply r new) accepted opens

    -- the bytes in use are the log's, and stand at the front of the other buffer
    same_used : x.site.used ≡ length (log_bytes (state_in x))
    same_used = used_in_lem x v ∙ ap length (log_bytes_lem x v)

    front : take (length (log_bytes (state_in x))) other.log ≡ log_bytes (state_in x)
    front = subst (λ (i : ℕ). take i other.log ≡ log_bytes (state_in x)) same_used (holds ∙ log_bytes_lem x v)

    long : length (log_bytes (state_in x)) ≤ length other.log
    long = omega (arith, ap length front, length-take (length (log_bytes (state_in x))) other.log)

    B : AcceptedAs (below live_limit) other (full_restart (length other.log) (state_in x))
        (Restarted (done_in (state_in x)) (length (log_bytes (state_in x)))) q old
    B =
        subst (λ (reply : Reply). Opens blank_site other reply q old)
        (ap (restart other.log) same_used ∙ full-restarts (state_in x) G other.log front long limit) reopens

    text : log_in (memory r.site new) ≡ trim_text n (state_in x)
    text = log_bytes_lem (memory r.site new) A.valid ∙ ap log_bytes A.state ∙ copied-bytes n (length fresh) (state_in x)
