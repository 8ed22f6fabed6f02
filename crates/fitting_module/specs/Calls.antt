-- Calls of a slot without text: what they answer in numbers, by the specification's calls.
use Rattle.std.specs.Prelude.{ℕ, ◌≡◌, Bool, true, false, List}
use Rattle.std.proofs.Math.Option.{Option, none, some}
use Rattle.forms.specs.Forms.{Update}
use Rattle.rules.specs.Calls.{Call}
use Rattle.compact.specs.Module.{Move}
use Rattle.site.specs.Model.{Lent}
use Rattle.site.specs.Trim.{updates_held}
use Rattle.module.specs.declared.ModuleResult.{ModuleResult}
use Rattle.module.specs.Model.{around}
use Rattle.module.specs.Replies.{outcome_from}
use Rattle.call_words.specs.Answers.{SaysAs, PutsAnswer}
use Rattle.call_words.specs.Adding.{held_in, rules_known}
use Rattle.fitting_module.specs.Words.{Words, words_in}
use Rattle.fitting_module.specs.Model.{state_at, ValidWords, Takes}
use Rattle.fitting_module.specs.Lines.{line_reply, line_next}

-- The call is made (none is refused with 1), and the answer, which was `head` and is `said`, is its reply; its lists are among what is
-- lent.
pub record Performs (i : ℕ) (ws : Words) (old : Lent) (x : Option Move) (n : ℕ) (after : Words) (new : Lent) (head said : List ℕ)
    (logs books : ℕ → List ℕ) : Type 0 where
  pub takes : Takes i ws old (line_reply x (state_at ws (around i old logs books))) (line_next x (state_at ws (around i old logs books))) after
      new (around i new logs books)
  pub answer : SaysAs (outcome_from (line_reply x (state_at ws (around i old logs books)))) n old.lists new.lists head said

-- .. whatever logs and words the other slots have with which the state is valid
abbrev pub PerformsMove : ℕ → Words → Lent → Option Move → ℕ → Words → Lent → List ℕ → List ℕ → Type 0
PerformsMove i ws old x n after new head said =
    (logs books : ℕ → List ℕ) → ValidWords ws (around i old logs books) → Performs i ws old x n after new head said logs books

-- A call of the site in slot i.
abbrev pub PerformsCall : ℕ → Words → Lent → Call → ℕ → Words → Lent → List ℕ → List ℕ → Type 0
PerformsCall i ws old c n after new head said = PerformsMove i ws old (some (Move.At i c)) n after new head said

-- "1: unreadable line": no line has another rule.
abbrev pub add_move : Bool → ℕ → ℕ → List Update → Option Move
add_move true i id us = some (Move.At i (Call.Add id us))
add_move false i id us = none

-- the call that an add on numbers is
abbrev pub add_of : ℕ → ℕ → ℕ → List ℕ → Option Move
add_of i id count updates = add_move (rules_known updates) i id (updates_held (held_in count updates))

-- An add in slot i.
abbrev pub PerformsAdd : ℕ → Words → Lent → ℕ → ℕ → List ℕ → ℕ → Words → Lent → List ℕ → List ℕ → Type 0
PerformsAdd i ws old id count updates n after new head said =
    PerformsMove i ws old (add_of i id count updates) n after new head said

-- What a call of the module handed back is put away: its counters, and its reply.
pub record PutsCall (r : ModuleResult) (n : ℕ) (after : Words) (head said : List ℕ) : Type 0 where
  pub counters : after ≡ words_in r.after.slots
  pub reply : PutsAnswer r.reply n head said
