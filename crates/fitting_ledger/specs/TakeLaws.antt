-- A turn of the session that the counters are, and its reply written.
use Rattle.std.specs.Prelude.{ℕ, ◌≤◌, ◌<◌, ◌≡◌, refl, Bool, List, [], ◌++◌, length, drop, Option as Held, Some, None}
use Rattle.std.proofs.Common.{arith, sym, ap, subst, ◌∙◌, le-leb}
use Rattle.std.proofs.Math.Option.{Option}
use Rattle.std.proofs.lemmas.Bool.{lt-leb}
use Rattle.forms.specs.Forms.{Outcome, Refused, Accepted, outcome_text}
use Rattle.forms.specs.Limits.{reply_limit}
use Rattle.forms.specs.Held.{replied, outcome_of}
use Rattle.forms.specs.Write.{placed, Wrote, with_end}
use Rattle.rules.specs.State.{State}
use Rattle.rules.specs.Log.{ended}
use Rattle.rules.specs.Session.{Turn, turn}
use Rattle.site.specs.declared.Site.{Site}
use Rattle.site.specs.Model.{Lent, lent}
use Rattle.session.specs.declared.Session.{Session}
use Rattle.session.specs.declared.LineResult.{LineResult}
use Rattle.session.specs.Model.{view_of, session_view, used_of, ValidOpened, ValidSession, Keeps, Turns, TurnsLine}
use Rattle.stream.specs.Model.{Fronts}
use Rattle.stream.specs.LoggingLaws.{turn_logs}
use Rattle.call_words.specs.Used.{used_by, site_used}
use Rattle.fitting_ledger.specs.Counters.{session_at, held_counters, words_of, counters_after, words_again}
use Rattle.fitting_ledger.specs.Model.{state_at, ValidState, UnusedLeft, KeepsAs, Takes, Answers, AnswersIf, AnswersIfRoom}
use Rattle.fitting_ledger.specs.CounterLaws.{session_of, words_valid, opened-words, closed-words, closed-again, closed-same}

-- What is lent, without the lists of a reply.
abbrev bare : Lent → Lent
bare m = lent m.log m.rows m.order m.book []

-- The state does not look at them.
view-bare : (s : Session) (m : Lent) → session_view s m ≡ session_view s (bare m)
view-bare s m = by_site s.site
  where
    by_site : (h : Held Site) → view_of h m ≡ view_of h (bare m)
    by_site (Some x) = refl
    by_site None = refl

-- The counters of the session after its turn.
module _ (ws : List ℕ) (old : Lent) (t : Turn) (r : LineResult) (new : Lent) (after : List ℕ) (v : ValidState ws (bare old))
    (h : Turns (session_at ws) old t r new) (e : after ≡ counters_after ws r.session.site) where
  -- what they say, whether there is a site or not
  after_by : (x : Held Site) → r.session.site ≡ x → after ≡ counters_after ws x → (session_at after ≡ r.session) × (words_again after ≡ after)
  unfolding words_of
  after_by (Some x) o k =
      let w : after ≡ words_of r.session = k ∙ ap held_counters (sym o) in
      (session_of r.session after w, (words_valid r.session after (bare new) w h.valid).words)
  after_by None o k = (
    ap session_at k ∙ (λ i. record { site = (closed-words ws ∙ sym o) i }),
    subst (λ (x : List ℕ). words_again x ≡ x) (sym k) (closed-again ws v.words),
  )

  said-session : session_at after ≡ r.session
  said-session = (after_by r.session.site refl e).0

  -- a session that is as it was has the counters that were
  same-counters : r.session ≡ session_at ws → after ≡ ws
  same-counters k = by_site r.session.site refl e
    where
      by_site : (x : Held Site) → r.session.site ≡ x → after ≡ counters_after ws x → after ≡ ws
      by_site (Some x) o z = z ∙ opened-words ws x v.words (sym (ap (λ (y : Session). y.site) k) ∙ o)
      by_site None o z = z ∙ closed-same ws v.words (sym (ap (λ (y : Session). y.site) k) ∙ o)

  pub takes : Takes ws (bare old) t after (bare new)
  takes =
      record {
        state = ap (λ (x : Session). session_view x (bare new)) said-session ∙ sym (view-bare r.session new) ∙ h.after;
        valid = record {
          words = (after_by r.session.site refl e).1;
          session = subst (λ (x : Session). ValidSession x (bare new)) (sym said-session) h.valid;
        };
        log = turn_logs (session_at ws) old t r new v.session h;
        keeps = by_reply t.reply h.keeps;
      }
    where
      by_reply : (o : Outcome) → Keeps o (session_at ws) old r new → KeepsAs o ws (bare old) after (bare new)
      by_reply (Refused q) k = record { counters = same-counters k.session; kept = ap bare k.kept }
      by_reply (Accepted a) k =
          subst (λ (x : Session). UnusedLeft (bare old) x (bare new)) (sym said-session)
          (record { frame = k.frame; past_histories = k.past_histories })

-- .. with its reply written
answers : (ws : List ℕ) (old : Lent) (t : Turn) (r : LineResult) (new : Lent) (after out page : List ℕ) (n : ℕ) →
    ValidState ws (bare old) → Turns (session_at ws) old t r new → after ≡ counters_after ws r.session.site →
    Wrote out 0 (with_end (outcome_text (outcome_of (replied r.reply new.lists)))) n page →
    Answers ws (bare old) t n after (bare new) out page
unfolding ended placed
answers ws old t r new after out page n v h e w =
    record {
      takes = takes ws old t r new after v h e;
      reply = fronts (subst (λ (o : Outcome). Wrote out 0 (with_end (outcome_text o)) n page) h.answer.outcome w);
    }
  where
    text : List ℕ
    text = with_end (outcome_text t.reply)

    fronts : Wrote out 0 text n page → Fronts text out page n
    fronts x = record { count = omega (arith, x.behind); bytes = x.bytes ∙ ap (λ (k : ℕ). text ++ drop k out) (sym x.behind) }

-- A line is answered where there is room for the longest reply.
pub answers-line : (s : Session) (ws : List ℕ) (old : Lent) (line : List ℕ) (r : LineResult) (new : Lent) (after out page : List ℕ)
    (n : ℕ) → s ≡ session_at ws → reply_limit ≤ length out → ValidState ws (bare old) → TurnsLine s old line r new →
    after ≡ counters_after ws r.session.site → Wrote out 0 (with_end (outcome_text (outcome_of (replied r.reply new.lists)))) n page →
    AnswersIfRoom ws (bare old) (turn (length old.log) line (state_at ws (bare old))) n after (bare new) out page
answers-line s ws old line r new after out page n is room v h e w =
    subst (λ (b : Bool). AnswersIf b ws (bare old) t n after (bare new) out page) (sym (le-leb reply_limit (length out) room))
    (answers ws old t r new after out page n v turns e w)
  where
    t : Turn
    t = turn (length old.log) line (state_at ws (bare old))

    turns : Turns (session_at ws) old t r new
    turns =
        subst (λ (x : Turn). Turns (session_at ws) old x r new)
        (ap (λ (x : Option State). turn (length old.log) line x) (view-bare (session_at ws) old))
        (subst (λ (x : Session). TurnsLine x old line r new) is h)

-- Too little room.
pub answers-short : (ws : List ℕ) (old : Lent) (t : Turn) (out : List ℕ) → length out < reply_limit
    → AnswersIfRoom ws old t reply_limit ws old out out
answers-short ws old t out short =
    subst (λ (b : Bool). AnswersIf b ws old t reply_limit ws old out out) (sym (lt-leb reply_limit (length out) short))
    (record { answer = refl; same = record { counters = refl; kept = refl }; unwritten = refl })

-- ### The bytes in use

-- The bytes in use are those of the specification's log.
pub used_is : (ws : List ℕ) (m : Lent) → ValidState ws m → used_of (session_at ws).site ≡ used_by (state_at ws m)
unfolding used_by
used_is ws m v = by_site (session_at ws).site v.session
  where
    by_site : (h : Held Site) → ValidOpened h m.log m.rows m.order m.book → used_of h ≡ used_by (view_of h m)
    by_site (Some x) o = site_used x m (o.site x refl)
    by_site None o = refl
