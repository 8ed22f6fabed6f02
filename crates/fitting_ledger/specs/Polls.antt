-- The poll of a history, in a number: "says dry exactly when a walk over the entries would; a history that is not there is refused 3".
use Rattle.std.specs.Prelude.{ℕ, ◌≡◌, List, Option as Held, Some, None}
use Rattle.std.proofs.Common.{sym, ap, ◌∙◌}
use Rattle.std.proofs.Math.Option.{Option, none, some}
use Rattle.forms.specs.Refusals.{number_of}
use Rattle.forms.specs.declared.Refusal.TheVariants.{OutOfTurn}
use Rattle.rules.specs.State.{State}
use Rattle.rules.specs.Poll.{Polled, poll}
use Rattle.site.specs.declared.Site.{Site}
use Rattle.site.specs.Model.{Lent, view}
use Rattle.session.specs.Model.{view_of}
unfoldable pub use Rattle.session.specs.Polls.{polled_number}
use Rattle.fitting_ledger.specs.Counters.{session_at}
use Rattle.fitting_ledger.specs.Model.{state_at}

-- The poll of a history of the state: 14 "before site".
unfoldable pub poll_of : Option State → ℕ → ℕ
poll_of none h = number_of OutOfTurn
poll_of (some st) h = polled_number (poll h st)

module _ (ws : List ℕ) (m : Lent) (h : ℕ) where
  -- .. of an open site
  pub poll-opened : (site : Site) (n : ℕ) (p : Polled) → (session_at ws).site ≡ Some site → n ≡ polled_number p →
      p ≡ poll h (view site m) → n ≡ poll_of (state_at ws m) h
  unfolding poll_of
  poll-opened site n p o e f = e ∙ ap polled_number f ∙ sym (ap (λ (x : Held Site). poll_of (view_of x m) h) o)

  -- .. "before site"
  pub poll-before : (session_at ws).site ≡ None → number_of OutOfTurn ≡ poll_of (state_at ws m) h
  unfolding poll_of
  poll-before o = sym (ap (λ (x : Held Site). poll_of (view_of x m) h) o)
