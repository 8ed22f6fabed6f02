-- What the module's code replies in a list of calls: slot by slot it is what the definitions reply. So a site below its promise is never
-- refused 10, and a slot's replies depend on its own calls and on where its 10s fell, and on nothing else.
use Rattle.std.specs.Prelude.{ℕ, ◌<◌, ◌≡◌, refl, Bool, true, false, cond, List, [], ◌∷◌, map, eqb}
use Rattle.std.proofs.Common.{sym, ap, ap₂, subst, ◌∙◌}
use Rattle.std.proofs.Math.Option.{some}
use Rattle.forms.specs.Forms.{Outcome, Refused, Accepted}
use Rattle.forms.specs.Held.{replied, outcome_of}
use Rattle.forms.specs.Refusals.{number_of}
use Rattle.forms.specs.declared.Refusal.{Refusal}
use Rattle.forms.specs.declared.Refusal.TheVariants.{OutOfTurn, TableFull}
use Rattle.rules.specs.State.{State, Reply, refused, ok, live}
use Rattle.rules.specs.Calls.{Call}
use Rattle.compact.specs.Module.{Module as ModuleState, slot_limit, slot_at, restarts_site, Move, At, Restart, slot_of, reply_of, next_of}
use Rattle.compact.specs.Alone.{own_calls, replies_of, is_ten, alone}
use Rattle.compact.proofs.AloneLaws.{replies-alone, only_through_ten}
use Rattle.compact.proofs.FitsLaws.{promise_kept}
use Rattle.site.specs.Model.{Lent, lent, Says}
use Rattle.module.specs.declared.ModuleResult.{ModuleResult}
use Rattle.module.specs.Four.{true_false}
use Rattle.module.specs.Model.{Memory, ValidModule, view_of, around, DoesFrom, Moves}
use Rattle.module.specs.Reached.{World, ValidWorld, state_of, lent_of, Transition, calls, restarts, Execution, none, next}
use Rattle.module.specs.Reached.{around-same, step-world}

-- ### One call

-- what a reply of the definitions says
abbrev pub outcome_from : Reply → Outcome
outcome_from (refused q) = Refused q
outcome_from (ok st a) = Accepted a

-- what the code's reply says
abbrev pub said_by : ModuleResult → Lent → Outcome
said_by r new = outcome_of (replied r.reply new.lists)

says-from : (u : World) (x : Move) (old came : Lent) (logs books : ℕ → List ℕ) (X : Reply) (r : ModuleResult) (new : Lent) →
    DoesFrom u.code x old came logs books X r new → said_by r new ≡ outcome_from X
says-from u x old came logs books (refused q) r new D = D.answer.outcome
says-from u x old came logs books (ok st a) r new D = D.answer.outcome

-- A call that keeps its contract replies what the definitions reply.
pub call_says : (u : World) → ValidWorld u → (x : Move) (ns : List ℕ) (r : ModuleResult) (new : Lent) →
    Moves u.code x (lent_of u (slot_of x) ns) r new → said_by r new ≡ outcome_from (reply_of x (state_of u))
call_says u v x ns r new D =
    let same = around-same u (slot_of x) ns in
    says-from u x (lent_of u (slot_of x) ns) (lent_of u (slot_of x) ns) u.memory.logs u.memory.books
    (reply_of x (view_of u.code (around (slot_of x) (lent_of u (slot_of x) ns) u.memory.logs u.memory.books))) r new
    (D u.memory.logs u.memory.books (subst (ValidModule u.code) (sym same) v))
    ∙ ap (λ (b : Memory). outcome_from (reply_of x (view_of u.code b))) same

-- the refusal that is said, if it is one
abbrev refusal_in : Outcome → Refusal
refusal_in (Refused q) = q
refusal_in (Accepted a) = OutOfTurn

abbrev is_refusal : Outcome → Bool
is_refusal (Refused q) = true
is_refusal (Accepted a) = false

says-ten : (X : Reply) → Refused TableFull ≡ outcome_from X → X ≡ refused TableFull
says-ten (refused q) e = ap refused (sym (ap refusal_in e))
says-ten (ok st a) e = absurd (true_false (ap is_refusal e))

-- "Each site .. is promised 16 and may use 64": a site with fewer live than it is promised is never refused 10, but where it is restarted.
pub code_keeps_promise : (u : World) → ValidWorld u → (i : ℕ) (st : State) → (slot_at i (state_of u)).site ≡ some st →
    live st < (slot_at i (state_of u)).promise → (c : Call) → restarts_site c ≡ false → (ns : List ℕ) (r : ModuleResult) (new : Lent) →
    Moves u.code (At i c) (lent_of u i ns) r new → Says (replied r.reply new.lists) (Refused TableFull) → ⊥
code_keeps_promise u v i st at lt c on ns r new D S =
    promise_kept i (state_of u) v.fits st at lt c on
    (says-ten (reply_of (At i c) (state_of u)) (sym S.outcome ∙ call_says u v (At i c) ns r new D))

-- ### Lists of calls

-- what a call of a list replied
abbrev pub said_in : {u : World} {x : Move} {w : World} → Transition u x w → Outcome
said_in (calls x ns r new D) = said_by r new
said_in (restarts i k buffer book ns r new D) = said_by r new

said_is : (u : World) {x : Move} {w : World} → ValidWorld u → (t : Transition u x w) → said_in t ≡ outcome_from (reply_of x (state_of u))
said_is u v (calls x ns r new D) = call_says u v x ns r new D
said_is u v (restarts i k buffer book ns r new D) =
    let same = around-same u i ns in
    says-from u (Restart i buffer k) (lent_of u i ns) (lent buffer u.memory.rows u.memory.numbers book ns) u.memory.logs
    u.memory.books
    (reply_of (Restart i buffer k) (view_of u.code (around i (lent_of u i ns) u.memory.logs u.memory.books))) r new
    (D (u.memory.logs i) (u.memory.books i) u.memory.logs u.memory.books (subst (ValidModule u.code) (sym same) v))
    ∙ ap (λ (b : Memory). outcome_from (reply_of (Restart i buffer k) (view_of u.code b))) same

-- what the code replied to the calls of slot i, one after the other
unfoldable pub said_of : ℕ → {u : World} {xs : List Move} {w : World} → Execution u xs w → List Outcome
said_of i (none w) = []
said_of i (next {u} {v} {w} {x} {xs} one rest) = cond (eqb (slot_of x) i) (said_in one ∷ said_of i rest) (said_of i rest)

-- It is what the definitions reply.
pub said_all : (i : ℕ) {u : World} {xs : List Move} {w : World} → ValidWorld u → (ex : Execution u xs w) →
    said_of i ex ≡ map outcome_from (replies_of i xs (state_of u))
unfolding said_of replies_of
said_all i good (none w) = refl
said_all i good (next {u} {v} {w} {x} {xs} one rest) =
    let s = step-world u good one in
    go (eqb (slot_of x) i) (said_is u good one)
    (said_all i s.valid rest ∙ ap (λ (m : ModuleState). map outcome_from (replies_of i xs m)) s.state)
  where
    rs : List Reply
    rs = replies_of i xs (next_of x (state_of u))

    go : (b : Bool) → said_in one ≡ outcome_from (reply_of x (state_of u)) → said_of i rest ≡ map outcome_from rs →
        cond b (said_in one ∷ said_of i rest) (said_of i rest) ≡ map outcome_from (cond b (reply_of x (state_of u) ∷ rs) rs)
    go true e es = ap₂ (λ (o : Outcome) (os : List Outcome). o ∷ os) e es
    go false e es = es

-- "its refusals 10"
abbrev pub said_ten : Outcome → Bool
said_ten (Refused q) = eqb (number_of q) 10
said_ten (Accepted a) = false

ten_said : (rs : List Reply) → map said_ten (map outcome_from rs) ≡ map is_ten rs
unfolding is_ten
ten_said [] = refl
ten_said (refused q ∷ rs) = ap (λ (l : List Bool). eqb (number_of q) 10 ∷ l) (ten_said rs)
ten_said (ok st a ∷ rs) = ap (λ (l : List Bool). false ∷ l) (ten_said rs)

tens_of : (i : ℕ) {u : World} {xs : List Move} {w : World} → ValidWorld u → (ex : Execution u xs w) →
    map said_ten (said_of i ex) ≡ map is_ten (replies_of i xs (state_of u))
tens_of i {u} {xs} v ex = ap (map said_ten) (said_all i v ex) ∙ ten_said (replies_of i xs (state_of u))

-- The code's replies to a slot's calls are a function of these calls, of the site that the slot had, and of where its 10s fell.
pub code_alone : (i : ℕ) → i < slot_limit → {u : World} {xs : List Move} {w : World} → ValidWorld u → (ex : Execution u xs w) →
    said_of i ex ≡ map outcome_from (alone (own_calls i xs) (map said_ten (said_of i ex)) (slot_at i (state_of u)).site)
code_alone i lt {u} {xs} v ex =
    said_all i v ex
    ∙ ap (map outcome_from)
    (replies-alone i lt xs (state_of u) v.fits.four
    ∙ ap (λ (ts : List Bool). alone (own_calls i xs) ts (slot_at i (state_of u)).site) (sym (tens_of i v ex)))

-- "A neighbour's calls can alter this site's replies only through refusal 10: from one start and for the same calls of its own, if its
-- refusals 10 fall at the same ones, all its replies are the same."
pub code_only_through_ten : (i : ℕ) → i < slot_limit →
    {u : World} {xs : List Move} {w : World} → ValidWorld u → (ex : Execution u xs w) →
    {u' : World} {ys : List Move} {w' : World} → ValidWorld u' → (ey : Execution u' ys w') →
    (slot_at i (state_of u)).site ≡ (slot_at i (state_of u')).site → own_calls i xs ≡ own_calls i ys →
    map said_ten (said_of i ex) ≡ map said_ten (said_of i ey) → said_of i ex ≡ said_of i ey
code_only_through_ten i lt {u} {xs} v ex {u'} {ys} v' ey start own tens =
    said_all i v ex
    ∙ ap (map outcome_from)
    (only_through_ten i lt xs ys (state_of u) (state_of u') v.fits.four v'.fits.four start own
    (sym (tens_of i v ex) ∙ tens ∙ tens_of i v' ey))
    ∙ sym (said_all i v' ey)
