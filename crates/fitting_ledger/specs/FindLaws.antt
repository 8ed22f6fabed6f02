-- A found cut's number and the bytes that it keeps are those of the specification.
use Rattle.std.specs.Prelude.{ℕ, ◌≡◌, List, Option as Held, Some, None, Result}
use Rattle.std.proofs.Math.Path.{refl, subst}
use Rattle.std.proofs.Common.{sym, ap, ◌∙◌}
use Rattle.forms.specs.Refusals.{number_of}
use Rattle.forms.specs.declared.Refusal.{Refusal}
use Rattle.forms.specs.declared.Refusal.TheVariants.{OutOfTurn}
use Rattle.rules.specs.FindCut.{FoundCut, not_found, keep, find_cut}
use Rattle.site.specs.declared.Site.{Site}
use Rattle.site.specs.Model.{Lent, view}
use Rattle.session.specs.Model.{view_of}
use Rattle.find_cut.specs.Model.{answer_of}
use Rattle.fitting_ledger.specs.Counters.{session_at}
use Rattle.call_words.specs.Said.{said_number, said_value}
use Rattle.fitting_ledger.specs.Finds.{find_number, find_kept, find_of, FindsCut, FindsState}

-- The number and the bytes kept are those of the specification's answer.
finds : (f : FoundCut) (c : Result ℕ Refusal) (r before after : ℕ) → c ≡ answer_of f → r ≡ said_number c → after ≡ said_value c before →
    FindsCut f r before after
unfolding said_number find_number said_value find_kept
finds f c r before after h e g =
    record {
      answer = e ∙ ap said_number h ∙ number f;
      kept = g ∙ ap (λ (x : Result ℕ Refusal). said_value x before) h ∙ bytes f;
    }
  where
    number : (v : FoundCut) → said_number (answer_of v) ≡ find_number v
    number (not_found q) = refl
    number (keep k) = refl

    bytes : (v : FoundCut) → said_value (answer_of v) before ≡ find_kept v before
    bytes (not_found q) = refl
    bytes (keep k) = refl

module _ (ws : List ℕ) (m : Lent) (asked : List ℕ) where
  -- .. of an open site
  pub finds_opened : (site : Site) (c : Result ℕ Refusal) (r before after : ℕ) → (session_at ws).site ≡ Some site →
      c ≡ answer_of (find_cut asked (view site m)) → r ≡ said_number c → after ≡ said_value c before → FindsState ws m asked r before after
  unfolding find_of
  finds_opened site c r before after o h e g =
      subst (λ (x : Held Site). FindsCut (find_of asked (view_of x m)) r before after) (sym o)
      (finds (find_cut asked (view site m)) c r before after h e g)

  -- .. "before site"
  pub finds_before : (before : ℕ) → (session_at ws).site ≡ None → FindsState ws m asked (number_of OutOfTurn) before before
  unfolding find_of find_number find_kept
  finds_before before o =
      subst (λ (x : Held Site). FindsCut (find_of asked (view_of x m)) (number_of OutOfTurn) before before) (sym o)
      (record { answer = refl; kept = refl })
