-- Calls without text: what they answer in numbers, by the specification's calls.
use Rattle.std.specs.Prelude.{ℕ, ◌≡◌, List}
use Rattle.rules.specs.Calls.{Call}
use Rattle.rules.specs.Session.{Turn, calling}
use Rattle.site.specs.declared.CallResult.{CallResult}
use Rattle.site.specs.Model.{Lent}
use Rattle.call_words.specs.Answers.{SaysAs, PutsAnswer}
use Rattle.fitting_ledger.specs.Counters.{site_counters}
use Rattle.fitting_ledger.specs.Model.{state_at, Takes}

-- The state takes the turn t, and the answer, which was `head` and is `said`, is its reply.
pub record Performs (ws : List ℕ) (old : Lent) (t : Turn) (n : ℕ) (after : List ℕ) (new : Lent) (head said : List ℕ) : Type 0 where
  pub takes : Takes ws old t after new
  pub answer : SaysAs t.reply n old.lists new.lists head said

-- .. the turn of a call: 14 "before site"
abbrev pub PerformsCall : List ℕ → Lent → Call → ℕ → List ℕ → Lent → List ℕ → List ℕ → Type 0
PerformsCall ws old c n after new head said = Performs ws old (calling c (state_at ws old)) n after new head said

-- What an open site handed back is put away: its counters, and its reply.
pub record PutsCall (r : CallResult) (n : ℕ) (after head said : List ℕ) : Type 0 where
  pub counters : after ≡ site_counters r.site
  pub reply : PutsAnswer r.reply n head said
