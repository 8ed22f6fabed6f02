-- A trim's number and the bytes of its fresh buffer are those of the specification.
use Rattle.std.specs.Prelude.{ℕ, ◌≡◌, refl, List, Option as Held, Some, None, Result}
use Rattle.std.proofs.Common.{sym, subst}
use Rattle.forms.specs.Refusals.{number_of}
use Rattle.forms.specs.declared.Refusal.{Refusal}
use Rattle.forms.specs.declared.Refusal.TheVariants.{OutOfTurn}
use Rattle.rules.specs.Trim.{trim}
use Rattle.site.specs.declared.Site.{Site}
use Rattle.site.specs.Model.{Lent, view}
use Rattle.session.specs.Model.{view_of}
use Rattle.trim.specs.Model.{Copies}
use Rattle.call_words.specs.Said.{said_number, said_value}
use Rattle.call_words.specs.Trims.{trim_number, trim_used, trim_of, Trims, trims}
use Rattle.fitting_ledger.specs.Counters.{session_at}
use Rattle.fitting_ledger.specs.Trims.{TrimsState}

module _ (ws : List ℕ) (m : Lent) (n : ℕ) (old : List ℕ) where
  -- The copy of an open site.
  pub trims_opened : (site : Site) (c : Result ℕ Refusal) (new : List ℕ) (r before after : ℕ) → (session_at ws).site ≡ Some site →
      Copies (trim n old (view site m)) old c new → r ≡ said_number c → after ≡ said_value c before →
      TrimsState ws m n old r new before after
  unfolding trim_of
  trims_opened site c new r before after o h e f =
      subst (λ (x : Held Site). Trims (trim_of n old (view_of x m)) old r new before after) (sym o)
      (trims (trim n old (view site m)) old c new r before after h e f)

  -- .. "before site"
  pub trims_before : (before : ℕ) → (session_at ws).site ≡ None → TrimsState ws m n old (number_of OutOfTurn) old before before
  unfolding trim_of trim_number trim_used
  trims_before before o =
      subst (λ (x : Held Site). Trims (trim_of n old (view_of x m)) old (number_of OutOfTurn) old before before) (sym o)
      (record { answer = refl; bytes = refl; used = refl })
