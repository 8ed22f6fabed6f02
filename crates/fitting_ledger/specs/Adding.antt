-- An add on numbers.
use Rattle.std.specs.Prelude.{ℕ, Bool, true, false, List}
use Rattle.std.proofs.Math.Option.{Option}
use Rattle.forms.specs.Forms.{Update}
use Rattle.forms.specs.declared.Refusal.TheVariants.{Unreadable}
use Rattle.rules.specs.State.{State, refused}
use Rattle.rules.specs.Calls.{Call}
use Rattle.rules.specs.Session.{Turn, turn_of, calling}
use Rattle.site.specs.Model.{Lent}
use Rattle.site.specs.Trim.{updates_held}
use Rattle.call_words.specs.Adding.{held_in, rules_known}
use Rattle.fitting_ledger.specs.Model.{state_at}
use Rattle.fitting_ledger.specs.Calls.{Performs}

-- "1: unreadable line": no line has another rule.
abbrev pub adding : Bool → ℕ → List Update → Option State → Turn
adding true id us s = calling (Call.Add id us) s
adding false id us s = turn_of (refused Unreadable) s

-- The state takes the turn of an add.
abbrev pub PerformsAdd : List ℕ → Lent → ℕ → ℕ → List ℕ → ℕ → List ℕ → Lent → List ℕ → List ℕ → Type 0
PerformsAdd ws old id count updates n after new head said =
    Performs ws old (adding (rules_known updates) id (updates_held (held_in count updates)) (state_at ws old)) n after new head said
