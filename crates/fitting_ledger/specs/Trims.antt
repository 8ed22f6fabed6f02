-- A trim of the state.
use Rattle.std.specs.Prelude.{ℕ, List}
use Rattle.site.specs.Model.{Lent}
use Rattle.call_words.specs.Trims.{trim_of, Trims}
use Rattle.fitting_ledger.specs.Model.{state_at}

-- The trim of the state that the counters and what is lent beside them are.
abbrev pub TrimsState : List ℕ → Lent → ℕ → List ℕ → ℕ → List ℕ → ℕ → ℕ → Type 0
TrimsState ws m n old r new before after = Trims (trim_of n old (state_at ws m)) old r new before after
