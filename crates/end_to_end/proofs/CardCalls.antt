-- The last W lines on one card (02, (j)): "after every call and cut the card equals one counted afresh from the log then held", of the
-- code's site and the code's card, by their contracts alone.
use Rattle.std.specs.Prelude.{◌≡◌, refl, false, List, [], ◌∷◌, ◌++◌, ℕ, ◌*◌, drop, Result, Ok, Err}
use Rattle.std.proofs.Common.{sym, ap, ◌∙◌, subst, append-nil, append_assoc, arith}
use mathlib.Core.List.Memᴰ.{head as here}
use mathlib.Core.List.Memᴰ.{tail as there}
use mathlib.Core.List.{Memᴰ as Mem}
use Rattle.forms.specs.declared.Refusal.{Refusal}
use Rattle.forms.specs.Forms.{Line}
use Rattle.rules.specs.State.{State, settle, lines_in}
use Rattle.rules.specs.Calls.{Call, step}
use Rattle.rules.specs.Run.{run}
use Rattle.rule_laws.specs.Good.{Good}
use Rattle.rule_laws.specs.GoodLaws.{good-step}
use Rattle.rule_laws.specs.GrowLaws.{Continues, continues_step}
use Rattle.rules.specs.Card.{Carded, not_carded, carded, card, takes_back}
use Rattle.recovery.proofs.Recovery.{run-append}
use Rattle.site.specs.Representation.{Sound}
use Rattle.card.specs.declared.Card.{Card}
use Rattle.card.specs.Model.{row_width, LogOf, IsCard, MadeAs, CountsAfresh}
use Rattle.end_to_end.specs.SiteCalls.{Memory, state_in, ValidIn, Alone, log_in}
use Rattle.end_to_end.proofs.SiteCallsLaws.{log_bytes_lem, good_in, calls-run, starts_at}
use Rattle.end_to_end.specs.CardCalls.{CardMemory, CardStep, CardSteps, CardIs, CardClaim}
use Rattle.end_to_end.specs.CardCalls.CardStep.{follows, afresh}
use Rattle.end_to_end.specs.CardCalls.CardSteps.{none, next}

-- ### Proof

-- Calls that are no cut and no changeover: the log goes on where it stood.
continues_run : (cs : List Call) (st : State) → ((c : Call) → Mem c cs → takes_back c ≡ false) → Good st → Continues st (run cs st)
unfolding run
continues_run [] st f G = record { histories = refl; base = refl; lines = ([], sym (append-nil (lines_in st))) }
continues_run (c ∷ cs) st f G =
    let a = continues_step c st (f c (here refl)) G in
    let b = continues_run cs (settle (step c st) st) (λ d m. f d (there m)) (good-step c st G) in
    record {
      histories = b.histories ∙ a.histories;
      base = b.base ∙ a.base;
      lines = (
        a.lines.0 ++ b.lines.0,
        b.lines.1 ∙ ap (λ (l : List Line). l ++ b.lines.0) a.lines.1 ∙ append_assoc (lines_in st) a.lines.0 b.lines.0,
      );
    }

-- The bytes in use of a valid site are a log of its state.
pub log_of_lem : (x : Memory) → ValidIn x → LogOf (state_in x) (log_in x) x.site.count x.site.head
unfolding Sound
log_of_lem x v = record { good = good_in x v; text = log_bytes_lem x v; count = refl; head_is = v.sound.carries.head }

-- A card that was made is the state's.
made-card : (q : Carded) (w : ℕ) (st : State) (old : List ℕ) (made : Result Card Refusal) (new : List ℕ) → MadeAs q w st old made new → (c : Card) →
    made ≡ Ok c → (past : List ℕ) × IsCard w st c new past
made-card (not_carded r) w st old made new (e, same) c is =
    let clash : Err r ≡ Ok c = sym e ∙ is in let z : ◌≡◌ {A = ℕ} 0 1 = cc in absurd (omega arith)
made-card (carded rows) w st old made new (d, e, K) c is =
    let both : Ok d ≡ Ok c = sym e ∙ is in
    let same : d ≡ c = cc in
    (drop (row_width * st.histories) old, subst (λ (r : Card). IsCard w st r new (drop (row_width * st.histories) old)) same K)

card_is : (w : ℕ) (x : Memory) (c : Card) (counts past : List ℕ) → ValidIn x → Alone x → IsCard w (state_in x) c counts past →
    CardIs w x (record { card = c; counts = counts }) (state_in x)
card_is w x c counts past v one K = record { valid = v; alone = one; state = refl; past = past; numbers = K.numbers; goes_on = K }

afresh_is : (w : ℕ) (x : Memory) (old : List ℕ) (made : Result Card Refusal) (new : List ℕ) → ValidIn x → Alone x →
    CountsAfresh w (log_in x) x.site.count x.site.head old made new → (c : Card) → made ≡ Ok c →
    CardIs w x (record { card = c; counts = new }) (state_in x)
afresh_is w x old made new v one A c is =
    let K = made-card (card w (state_in x)) w (state_in x) old made new (A (state_in x) (log_of_lem x v)) c is in
    card_is w x c new K.0 v one K.1

-- One step.
step_is : {w : ℕ} {x y : Memory} {k l : CardMemory} {cs : List Call} → CardIs w x k (state_in x) → CardStep w x k cs y l →
    CardIs w y l (state_in y)
step_is {w} {x} {k = k} I (follows cs y plain made r new F) =
    let R = calls-run I.valid I.alone made in
    card_is w y r new I.past R.valid R.alone
    (F w (state_in x) (state_in y) I.past
    (record {
      card = I.goes_on;
      good = good_in y R.valid;
      goes_on = subst (Continues (state_in x)) (sym R.state) (continues_run cs (state_in x) plain (good_in x I.valid));
      text = log_bytes_lem y R.valid;
    }))
step_is {w} {x} {k = k} I (afresh cs y made given new A r is) =
    let R = calls-run I.valid I.alone made in
    afresh_is w y k.counts given new R.valid R.alone A r is

step-runs : {w : ℕ} {x y : Memory} {k l : CardMemory} {cs : List Call} → ValidIn x → Alone x → CardStep w x k cs y l →
    state_in y ≡ run cs (state_in x)
step-runs v one (follows cs y plain made r new F) = (calls-run v one made).state
step-runs v one (afresh cs y made given new A r is) = (calls-run v one made).state

steps_are : {w : ℕ} {x y : Memory} {k l : CardMemory} {cs : List Call} → CardIs w x k (state_in x) → CardSteps w x k cs y l →
    CardIs w y l (run cs (state_in x))
unfolding run
steps_are I (none x k) = I
steps_are {w} {x} I (next {y = y} {z = z} {m = m} {cs = cs} {ds = ds} one more) =
    subst (CardIs w z m) (sym (run-append cs ds (state_in x) ∙ ap (run ds) (sym (step-runs I.valid I.alone one))))
    (steps_are (step_is I one) more)

-- "after every call and cut the card equals one counted afresh from the log then held"
pub card-calls : CardClaim
card-calls w m start begins old made new A c is cs x k s =
    let b = starts_at begins in steps_are (afresh_is w start old made new b.0 b.1 A c is) s
