-- A call of a slot, with the module's counters put away and its reply written, is what the line asks for.
use Rattle.std.specs.Prelude.{ℕ, ◌≤◌, ◌<◌, ◌≡◌, refl, Bool, List, [], ◌++◌, length, drop, Some}
use Rattle.std.proofs.Common.{arith, sym, ap, subst, ◌∙◌, le-leb}
use Rattle.std.proofs.Math.Option.{Option, none, some}
use Rattle.std.proofs.lemmas.Bool.{lt-leb}
use Rattle.forms.specs.Forms.{Outcome, outcome_text}
use Rattle.forms.specs.Limits.{reply_limit}
use Rattle.forms.specs.Held.{replied, outcome_of}
use Rattle.forms.specs.Write.{placed, Wrote, with_end}
use Rattle.forms.specs.declared.Refusal.{Refusal}
use Rattle.forms.specs.declared.Refusal.TheVariants.{Unreadable}
use Rattle.forms.specs.declared.reader.CommandForm.{CommandForm}
use Rattle.rules.specs.State.{Reply, refused, ok}
use Rattle.rules.specs.Log.{ended}
use Rattle.compact.specs.Module.{Module as ModuleState, slot_at, Move, slot_of, reply_of, promise_of, settle_in, next_of}
use Rattle.site.specs.Model.{Lent, lent, Printable}
use Rattle.stream.specs.Model.{Fronts}
use Rattle.module.specs.declared.Module.{Module}
use Rattle.module.specs.declared.ModuleResult.{ModuleResult}
use Rattle.module.specs.Model.{Memory, ValidModule, ValidWith, view_of, around, RefusedIn, DoesIn, Moves}
use Rattle.module.specs.Replies.{outcome_from}
use Rattle.fitting_module.specs.Words.{Words, module_at, words_in}
use Rattle.fitting_module.specs.WordLaws.{module_words}
use Rattle.fitting_module.specs.Model.{state_at, ValidWords, ValidState, UnusedLeft, Takes}
use Rattle.fitting_module.specs.Lines.{line_move, line_reply, line_next, Answers, AnswersIf, AnswersLine, form_move}
use Rattle.fitting_module.specs.Lines.{DoesCall, Obeys, ObeysForm}

-- What is lent, without the lists of a reply.
abbrev pub bare : Lent → Lent
bare m = lent m.log m.rows m.order m.book []

-- ### Calls of the module

-- A call of the module does what is asked of its slot.
pub moves_obeys : (m : Module) (x : Move) (old : Lent) (r : ModuleResult) (new : Lent) → Moves m x old r new →
    Obeys (slot_of x) m (some x) old r new
unfolding line_reply line_next
moves_obeys m x old r new h logs books v = go (reply_of x s) (h logs books v)
  where
    s : ModuleState
    s = view_of m (around (slot_of x) old logs books)

    go : (y : Reply) → DoesIn m x old logs books y r new → DoesCall (slot_of x) m old logs books y (next_of x s) r new
    go (refused q) d = d
    go (ok st a) d = d

-- .. and a line that is not readable is refused
pub unread_obeys : (i : ℕ) (m : Module) (old : Lent) (r : ModuleResult) → RefusedIn m old Unreadable r old → Obeys i m none old r old
unfolding line_reply line_next
unread_obeys i m old r d logs books v = d

-- What is asked of the form that was told: it is this call of the slot's.
pub formed : (i : ℕ) (m : Module) (old : Lent) (line : List ℕ) (c : CommandForm) (r : ModuleResult) (new : Lent) (f : CommandForm) →
    c ≡ f → Obeys i m (form_move i (length old.log) line (Some f)) old r new → ObeysForm i m old line (Some c) r new
formed i m old line c r new f e h =
    subst (λ (z : CommandForm). Obeys i m (form_move i (length old.log) line (Some z)) old r new) (sym e) h

-- A refused call leaves the module.
pub stays : (x : Option Move) (s : ModuleState) (q : Refusal) → line_reply x s ≡ refused q → line_next x s ≡ s
unfolding line_reply line_next next_of
stays none s q e = refl
stays (some x) s q e = ap (λ (y : Reply). settle_in (slot_of x) y (promise_of x (slot_at (slot_of x) s)) s) e

-- ### What is known of a call's result

module _ (i : ℕ) (m : Module) (x : Option Move) (old : Lent) (r : ModuleResult) (new : Lent) (v : ValidWith m i old)
    (h : Obeys i m x old r new)
  where
    -- The module after it has four slots.
    pub obeys_size : length r.after.slots ≡ 4
    obeys_size = go (line_reply x (view_of m (around i old v.0 v.1))) (h v.0 v.1 v.2)
      where
        go : (y : Reply) → DoesCall i m old v.0 v.1 y (line_next x (view_of m (around i old v.0 v.1))) r new →
            length r.after.slots ≡ 4
        go (refused q) d = ap (λ (k : Module). length k.slots) d.same ∙ v.2.size
        go (ok st a) d = d.valid.size

    -- Its reply can be printed.
    pub obeys_printable : Printable (replied r.reply new.lists)
    obeys_printable = go (line_reply x (view_of m (around i old v.0 v.1))) (h v.0 v.1 v.2)
      where
        go : (y : Reply) → DoesCall i m old v.0 v.1 y (line_next x (view_of m (around i old v.0 v.1))) r new →
            Printable (replied r.reply new.lists)
        go (refused q) d = d.answer.printable
        go (ok st a) d = d.answer.printable

-- ### The counters put away

module _ (i : ℕ) (ws : Words) (x : Option Move) (old : Lent) (r : ModuleResult) (new : Lent) (after : Words)
    (put : after ≡ words_in r.after.slots) (logs books : ℕ → List ℕ) (v : ValidWords ws (around i old logs books)) where
  abbrev s : ModuleState
  s = state_at ws (around i old logs books)

  pub takes : (y : Reply) → line_reply x s ≡ y → DoesCall i (module_at ws) old logs books y (line_next x s) r new →
      Takes i ws old y (line_next x s) after new (around i new logs books)
  takes (refused q) e d =
      record {
        state = (λ t. state_at (same t) (around i (d.kept t) logs books)) ∙ sym (stays x s q e);
        valid =
            subst (λ (w : Words). ValidWords w (around i new logs books)) (sym same)
            (subst (λ (k : Lent). ValidWords ws (around i k logs books)) (sym d.kept) v);
        keeps = record { counters = same; kept = d.kept };
      }
    where
      same : after ≡ ws
      same = put ∙ ap (λ (m : Module). words_in m.slots) d.same ∙ v.words
  takes (ok st a) e d =
      record {
        state = ap (λ (m : Module). view_of m (around i new logs books)) is ∙ d.state;
        valid =
            record {
              words = ap (λ (m : Module). words_in m.slots) is ∙ sym put;
              valid = subst (λ (m : Module). ValidModule m (around i new logs books)) (sym is) d.valid;
            };
        keeps =
            subst (λ (m : Module). UnusedLeft i old m new) (sym is)
            (record { past = d.past; frame = d.frame; past_numbers = d.past_numbers; past_histories = d.past_histories });
      }
    where
      is : module_at after ≡ r.after
      is = ap module_at put ∙ module_words r.after d.valid.size

-- .. without the lists of a reply
takes-bare : (i : ℕ) (ws : Words) (old : Lent) (y : Reply) (next : ModuleState) (after : Words) (new : Lent) (b : Memory) →
    Takes i ws old y next after new b → Takes i ws (bare old) y next after (bare new) b
takes-bare i ws old (refused q) next after new b t =
    let k = t.keeps in
    record { state = t.state; valid = t.valid; keeps = record { counters = k.counters; kept = ap bare k.kept } }
takes-bare i ws old (ok st a) next after new b t =
    let k = t.keeps in
    record {
      state = t.state;
      valid = t.valid;
      keeps = record { past = k.past; frame = k.frame; past_numbers = k.past_numbers; past_histories = k.past_histories };
    }

-- What the code's reply says is what the specification's says.
says : (i : ℕ) (m : Module) (old : Lent) (logs books : ℕ → List ℕ) (y : Reply) (next : ModuleState) (r : ModuleResult) (new : Lent) →
    DoesCall i m old logs books y next r new → outcome_of (replied r.reply new.lists) ≡ outcome_from y
says i m old logs books (refused q) next r new d = d.answer.outcome
says i m old logs books (ok st a) next r new d = d.answer.outcome

-- ### A line

-- A line is answered where there is room for the longest reply.
pub answers-line : (i : ℕ) (m : Module) (ws : Words) (old : Lent) (line : List ℕ) (r : ModuleResult) (new : Lent) (after : Words)
    (out page : List ℕ) (n : ℕ) → m ≡ module_at ws → reply_limit ≤ length out →
    Obeys i m (line_move i (length old.log) line) old r new → after ≡ words_in r.after.slots →
    Wrote out 0 (with_end (outcome_text (outcome_of (replied r.reply new.lists)))) n page →
    AnswersLine i ws (bare old) line n after (bare new) out page
unfolding ended placed
answers-line i m ws old line r new after out page n is room h put w =
    subst (λ (b : Bool). AnswersIf b i ws (bare old) x n after (bare new) out page) (sym (le-leb reply_limit (length out) room)) answers
  where
    x : Option Move
    x = line_move i (length old.log) line

    fronts : (text : List ℕ) → Wrote out 0 text n page → Fronts text out page n
    fronts text k = record { count = omega (arith, k.behind); bytes = k.bytes ∙ ap (λ (j : ℕ). text ++ drop j out) (sym k.behind) }

    answers : (logs books : ℕ → List ℕ) → ValidWords ws (around i old logs books) →
        Answers i ws (bare old) x n after (bare new) out page logs books
    answers logs books v =
        let s = state_at ws (around i old logs books) in
        let y = line_reply x s in
        let d = subst (λ (k : Module). Obeys i k x old r new) is h logs books v.valid in
        record {
          takes =
              takes-bare i ws old y (line_next x s) after new (around i new logs books)
              (takes i ws x old r new after put logs books v y refl d);
          reply = fronts (with_end (outcome_text (outcome_from y)))
              (subst (λ (o : Outcome). Wrote out 0 (with_end (outcome_text o)) n page)
              (says i (module_at ws) old logs books y (line_next x s) r new d) w);
        }

-- Too little room.
pub answers-short : (i : ℕ) (ws : Words) (old : Lent) (line out : List ℕ) → length out < reply_limit →
    AnswersLine i ws old line reply_limit ws old out out
answers-short i ws old line out short =
    subst (λ (b : Bool). AnswersIf b i ws old (line_move i (length old.log) line) reply_limit ws old out out)
    (sym (lt-leb reply_limit (length out) short))
    (record { answer = refl; same = record { counters = refl; kept = refl }; unwritten = refl })

-- The module that valid counters are is valid.
pub module_valid : (i : ℕ) (m : Module) (ws : Words) (w : Lent) → m ≡ module_at ws → ValidState ws i w → ValidWith m i w
module_valid i m ws w is (logs, books, v) =
    subst (λ (k : Module). ValidWith k i w) (sym is) (logs, books, v.valid)
