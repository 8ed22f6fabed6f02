-- A call of the open site as a turn of the state.
use Rattle.std.specs.Prelude.{ℕ, ◌≡◌, refl, List, length, Option as Held, Some, None}
use Rattle.std.proofs.Common.{sym, ap, subst, ◌∙◌}
use Rattle.std.proofs.Math.Option.{some}
use Rattle.forms.specs.Refusals.{number_of}
use Rattle.forms.specs.Limits.{live_limit}
use Rattle.forms.specs.declared.Refusal.TheVariants.{OutOfTurn}
use Rattle.rules.specs.State.{State, Reply, refused, ok}
use Rattle.rules.specs.Calls.{Call, step}
use Rattle.rules.specs.Session.{turn_of, calling}
use Rattle.site.specs.declared.Site.{Site}
use Rattle.site.specs.declared.CallResult.{CallResult}
use Rattle.site.specs.Model.{Lent, view, Valid, Does, Steps, StepsWithin}
use Rattle.site.specs.ModelLaws.{steps_alone}
use Rattle.session.specs.declared.Session.{Session}
use Rattle.session.specs.Model.{view_of, session_view}
use Rattle.session.specs.TurnLaws.{opened_valid}
use Rattle.stream.specs.Logging.{overlaid}
use Rattle.stream.specs.LoggingLaws.{over-site}
use Rattle.call_words.specs.AnswerLaws.{puts_refused, puts_accepted}
use Rattle.fitting_ledger.specs.Counters.{session_at, site_counters, words_of}
use Rattle.fitting_ledger.specs.Model.{ValidState, UnusedLeft, Takes}
use Rattle.fitting_ledger.specs.Calls.{Performs, PerformsCall, PutsCall}
use Rattle.fitting_ledger.specs.CounterLaws.{session_of, words_valid, opened-words}

-- ### The state

-- What the open site does of a reply is a turn.
does_takes : (ws : List ℕ) (site : Site) (old : Lent) (reply : Reply) (r : CallResult) (new : Lent) (after : List ℕ) →
    (session_at ws).site ≡ Some site → ValidState ws old → Does site old reply r new → after ≡ site_counters r.site →
    Takes ws old (turn_of reply (some (view site old))) after new
unfolding turn_of overlaid words_of
does_takes ws site old (refused q) r new after o v d e =
    record {
      state = ap (λ (x : Session). session_view x new) is ∙ (λ i. some (view (d.site i) (d.kept i)));
      valid = words_valid (record { site = Some r.site }) after new e (opened_valid r.site new good);
      log = ap (λ (x : Lent). x.log) d.kept ∙ over-site site old old.log (v.session.site site o) refl;
      keeps = record { counters = e ∙ ap site_counters d.site ∙ opened-words ws site v.words o; kept = d.kept };
    }
  where
    is : session_at after ≡ record { site = Some r.site }
    is = session_of (record { site = Some r.site }) after e

    good : Valid r.site new
    good =
        subst (λ (x : Lent). Valid r.site x) (sym d.kept)
        (subst (λ (x : Site). Valid x old) (sym d.site) (v.session.site site o))
does_takes ws site old (ok st a) r new after o v d e =
    record {
      state = ap (λ (x : Session). session_view x new) is ∙ ap some d.state;
      valid = words_valid (record { site = Some r.site }) after new e (opened_valid r.site new d.valid);
      log = over-site r.site new old.log d.valid d.past ∙ ap (λ (x : State). overlaid (some x) old.log) d.state;
      keeps = subst (λ (x : Session). UnusedLeft old x new) (sym is) (record { frame = d.frame; past_histories = d.past_histories });
    }
  where
    is : session_at after ≡ record { site = Some r.site }
    is = session_of (record { site = Some r.site }) after e

-- ### The answer

does_says : (ws : List ℕ) (site : Site) (old : Lent) (reply : Reply) (r : CallResult) (new : Lent) (n : ℕ) (after head said : List ℕ) →
    (session_at ws).site ≡ Some site → ValidState ws old → Does site old reply r new → PutsCall r n after head said →
    Performs ws old (turn_of reply (some (view site old))) n after new head said
unfolding turn_of
does_says ws site old (refused q) r new n after head said o v d p =
    record {
      takes = does_takes ws site old (refused q) r new after o v d p.counters;
      answer = puts_refused r.reply new.lists q n head said p.reply d.answer;
    }
does_says ws site old (ok st a) r new n after head said o v d p =
    record {
      takes = does_takes ws site old (ok st a) r new after o v d p.counters;
      answer = puts_accepted r.reply old.lists new.lists a n head said p.reply d.answer d.past_lists;
    }

-- ### A call

-- .. of an open site
pub performs : (site : Site) (ws : List ℕ) (old : Lent) (c : Call) (r : CallResult) (new : Lent) (n : ℕ)
    (after head said : List ℕ) → (session_at ws).site ≡ Some site → ValidState ws old → Steps site old c r new →
    PutsCall r n after head said → PerformsCall ws old c n after new head said
unfolding calling
performs site ws old c r new n after head said o v h p =
    subst (λ (x : Held Site). Performs ws old (calling c (view_of x old)) n after new head said) (sym o)
    (does_says ws site old (step c (view site old)) r new n after head said o v h p)

-- .. of one that takes entries: the site is lent an order of 64
pub performs_alone : (site : Site) (ws : List ℕ) (old : Lent) (c : Call) (r : CallResult) (new : Lent) (n : ℕ)
    (after head said : List ℕ) → length old.order ≡ live_limit → (session_at ws).site ≡ Some site → ValidState ws old →
    StepsWithin site old c r new → PutsCall r n after head said → PerformsCall ws old c n after new head said
performs_alone site ws old c r new n after head said long o v h p =
    performs site ws old c r new n after head said o v (steps_alone site old c r new long h) p

-- .. "before site"
pub performs_not : (ws : List ℕ) (old : Lent) (c : Call) (head : List ℕ) → (session_at ws).site ≡ None → ValidState ws old →
    PerformsCall ws old c (number_of OutOfTurn) ws old head head
unfolding calling turn_of overlaid
performs_not ws old c head o v =
    subst (λ (x : Held Site). Performs ws old (calling c (view_of x old)) (number_of OutOfTurn) ws old head head) (sym o)
    (record {
      takes =
          record {
            state = ap (λ (x : Held Site). view_of x old) o;
            valid = v;
            log = refl;
            keeps = record { counters = refl; kept = refl };
          };
      answer = record { number = refl; kept = refl };
    })
