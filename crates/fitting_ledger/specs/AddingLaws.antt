-- An add is a call where its rules' numbers are those of rules, and refused with 1 where not.
use Rattle.std.specs.Prelude.{ℕ, ◌≡◌, refl, Bool, true, false, List, Option as Held, Some, None}
use Rattle.std.proofs.Common.{subst}
use Rattle.forms.specs.Refusals.{number_of}
use Rattle.forms.specs.Held.{AskedHeld}
use Rattle.forms.specs.declared.Refusal.{Refusal}
use Rattle.forms.specs.declared.Refusal.TheVariants.{Unreadable}
use Rattle.rules.specs.State.{refused}
use Rattle.rules.specs.Calls.{Call}
use Rattle.rules.specs.Session.{turn_of}
use Rattle.site.specs.declared.Site.{Site}
use Rattle.site.specs.Model.{Lent}
use Rattle.site.specs.Trim.{updates_held}
use Rattle.session.specs.Model.{view_of, ValidOpened}
use Rattle.stream.specs.Logging.{overlaid}
use Rattle.stream.specs.LoggingLaws.{over-site}
use Rattle.call_words.specs.Adding.{held_in, rules_known}
use Rattle.fitting_ledger.specs.Counters.{session_at}
use Rattle.fitting_ledger.specs.Model.{state_at, ValidState, Takes}
use Rattle.fitting_ledger.specs.Calls.{Performs, PerformsCall}
use Rattle.fitting_ledger.specs.Adding.{adding, PerformsAdd}

-- A turn that is refused leaves the state as it is.
refused_takes : (ws : List ℕ) (old : Lent) (q : Refusal) → ValidState ws old → Takes ws old (turn_of (refused q) (state_at ws old)) ws old
unfolding turn_of overlaid
refused_takes ws old q v =
    record { state = refl; valid = v; log = by_site (session_at ws).site v.session; keeps = record { counters = refl; kept = refl } }
  where
    by_site : (h : Held Site) → ValidOpened h old.log old.rows old.order old.book → old.log ≡ overlaid (view_of h old) old.log
    by_site (Some s) o = over-site s old old.log (o.site s refl) refl
    by_site None o = refl

-- All rules are known: it is the call.
pub performs_add : (ws : List ℕ) (old : Lent) (id count : ℕ) (updates : List ℕ) (held : AskedHeld) (n : ℕ) (after : List ℕ) (new : Lent)
    (head said : List ℕ) → true ≡ rules_known updates → held ≡ held_in count updates →
    PerformsCall ws old (Call.Add id (updates_held held)) n after new head said → PerformsAdd ws old id count updates n after new head said
performs_add ws old id count updates held n after new head said known is h =
    subst
    (λ (b : Bool). Performs ws old (adding b id (updates_held (held_in count updates)) (state_at ws old)) n after new head said) known
    (subst (λ (x : AskedHeld). PerformsCall ws old (Call.Add id (updates_held x)) n after new head said) is h)

-- One is not: it is refused with 1.
pub performs_unread : (ws : List ℕ) (old : Lent) (id count : ℕ) (updates head : List ℕ) → false ≡ rules_known updates → ValidState ws old →
    PerformsAdd ws old id count updates (number_of Unreadable) ws old head head
unfolding turn_of
performs_unread ws old id count updates head unknown v =
    subst
    (λ (b : Bool).
    Performs ws old (adding b id (updates_held (held_in count updates)) (state_at ws old)) (number_of Unreadable) ws old head head) unknown
    (record { takes = refused_takes ws old Unreadable v; answer = record { number = refl; kept = refl } })
