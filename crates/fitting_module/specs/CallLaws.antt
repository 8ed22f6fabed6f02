-- A call of the module, with its counters put away and its reply in numbers, is what is asked of the slot.
use Rattle.std.specs.Prelude.{ℕ, ◌≡◌, refl, Bool, true, false, List, length}
use Rattle.std.proofs.Common.{subst}
use Rattle.std.proofs.Math.Option.{Option, some}
use Rattle.forms.specs.Refusals.{number_of}
use Rattle.forms.specs.Held.{AskedHeld}
use Rattle.forms.specs.declared.Refusal.TheVariants.{Unreadable}
use Rattle.rules.specs.State.{Reply, refused, ok}
use Rattle.rules.specs.Calls.{Call}
use Rattle.compact.specs.Module.{Module as ModuleState, Move}
use Rattle.site.specs.Model.{Lent}
use Rattle.site.specs.Trim.{updates_held}
use Rattle.module.specs.declared.Module.{Module}
use Rattle.module.specs.declared.ModuleResult.{ModuleResult}
use Rattle.module.specs.Model.{around, Moves}
use Rattle.module.specs.Replies.{outcome_from}
use Rattle.call_words.specs.Answers.{SaysAs}
use Rattle.call_words.specs.AnswerLaws.{puts_refused, puts_accepted}
use Rattle.call_words.specs.Adding.{held_in, rules_known}
use Rattle.fitting_module.specs.Words.{Words, module_at}
use Rattle.fitting_module.specs.Model.{state_at, ValidState}
use Rattle.fitting_module.specs.Lines.{line_reply, line_next, DoesCall, Obeys}
use Rattle.fitting_module.specs.LineLaws.{moves_obeys, obeys_size, module_valid, takes}
use Rattle.fitting_module.specs.Calls.{PerformsMove, PerformsCall, add_move, PerformsAdd, PutsCall}

-- ### A call

performs : (i : ℕ) (m : Module) (ws : Words) (old : Lent) (x : Option Move) (r : ModuleResult) (new : Lent) (n : ℕ) (after : Words)
    (head said : List ℕ) → m ≡ module_at ws → Obeys i m x old r new → PutsCall r n after head said →
    PerformsMove i ws old x n after new head said
performs i m ws old x r new n after head said is h p logs books v =
    record { takes = takes i ws x old r new after p.counters logs books v (line_reply x s) refl d; answer = answer (line_reply x s) d }
  where
    s : ModuleState
    s = state_at ws (around i old logs books)

    d : DoesCall i (module_at ws) old logs books (line_reply x s) (line_next x s) r new
    d = subst (λ (k : Module). Obeys i k x old r new) is h logs books v.valid

    answer : (y : Reply) → DoesCall i (module_at ws) old logs books y (line_next x s) r new →
        SaysAs (outcome_from y) n old.lists new.lists head said
    answer (refused q) a = puts_refused r.reply new.lists q n head said p.reply a.answer
    answer (ok st k) a = puts_accepted r.reply old.lists new.lists k n head said p.reply a.answer a.past_lists

module _ (i : ℕ) (m : Module) (ws : Words) (old : Lent) (c : Call) (r : ModuleResult) (new : Lent) (is : m ≡ module_at ws)
    (h : Moves m (Move.At i c) old r new)
  where
    -- The module after a call has four slots.
    pub call_size : ValidState ws i old → length r.after.slots ≡ 4
    call_size v =
        obeys_size i m (some (Move.At i c)) old r new (module_valid i m ws old is v) (moves_obeys m (Move.At i c) old r new h)

    -- The slot's call is made, and answered.
    pub performs_call : (n : ℕ) (after : Words) (head said : List ℕ) → PutsCall r n after head said →
        PerformsCall i ws old c n after new head said
    performs_call n after head said p =
        performs i m ws old (some (Move.At i c)) r new n after head said is (moves_obeys m (Move.At i c) old r new h) p

-- ### An add

-- All rules are known: it is the call.
pub performs_add : (i : ℕ) (ws : Words) (old : Lent) (id count : ℕ) (updates : List ℕ) (held : AskedHeld) (n : ℕ) (after : Words)
    (new : Lent) (head said : List ℕ) → true ≡ rules_known updates → held ≡ held_in count updates →
    PerformsCall i ws old (Call.Add id (updates_held held)) n after new head said →
    PerformsAdd i ws old id count updates n after new head said
performs_add i ws old id count updates held n after new head said known is h =
    subst
    (λ (b : Bool). PerformsMove i ws old (add_move b i id (updates_held (held_in count updates))) n after new head said) known
    (subst (λ (x : AskedHeld). PerformsCall i ws old (Call.Add id (updates_held x)) n after new head said) is h)

-- One is not: it is refused with 1.
pub performs_unread : (i : ℕ) (ws : Words) (old : Lent) (id count : ℕ) (updates head : List ℕ) → false ≡ rules_known updates →
    PerformsAdd i ws old id count updates (number_of Unreadable) ws old head head
unfolding line_reply line_next
performs_unread i ws old id count updates head unknown =
    subst
    (λ (b : Bool). PerformsMove i ws old (add_move b i id (updates_held (held_in count updates))) (number_of Unreadable) ws old head head)
    unknown
    (λ logs books v.
    record {
      takes = record { state = refl; valid = v; keeps = record { counters = refl; kept = refl } };
      answer = record { number = refl; kept = refl };
    })
