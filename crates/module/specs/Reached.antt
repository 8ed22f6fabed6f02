-- Every list of the module's calls, each keeping its contract, is a run of the specification: so what is claimed of `run_all` and of a
-- slot's site in it (crates/compact) is so of what the code has (Claims.antt, Replies.antt).
use Rattle.std.specs.Prelude.{ℕ, ◌*◌, ◌≡◌, refl, Bool, true, false, cond, List, [], ◌∷◌, eqb, length}
use Rattle.std.proofs.Common.{sym, ap, subst, ◌∙◌, eqb-true}
use Rattle.forms.specs.declared.Refusal.{Refusal}
use Rattle.rules.specs.State.{Reply, refused, ok}
use Rattle.compact.specs.Module.{Module as ModuleState, slot_at, made, Move, Restart, slot_of, reply_of, promise_of, settle_in, next_of, run_all}
use Rattle.table.specs.Rows.{row_width}
use Rattle.site.specs.Model.{Lent, lent}
use Rattle.module.specs.declared.Module.{Module}
use Rattle.module.specs.declared.ModuleResult.{ModuleResult}
use Rattle.module.specs.Parts.{table_room}
use Rattle.module.specs.Model.{Memory, ValidModule, view_of, put, around, DoesFrom, DoesIn, Moves, MovesAnew}
use Rattle.module.specs.Start.{Made}

-- A module by value, and what its owner keeps for it.
pub record World : Type 0 where
  pub code : Module
  pub memory : Memory

abbrev pub world : Module → Memory → World
world m b = record { code = m; memory = b }

abbrev pub ValidWorld : World → Type 0
ValidWorld w = ValidModule w.code w.memory

-- the module of the specification that they are
abbrev pub state_of : World → ModuleState
state_of w = view_of w.code w.memory

-- what a call of slot i is lent: the slot's log and words, the rows, the numbers, and an array for the lists of the reply
abbrev pub lent_of : World → ℕ → List ℕ → Lent
lent_of w i ns = lent (w.memory.logs i) w.memory.rows w.memory.numbers (w.memory.books i) ns

-- "a refused one unchanged"
abbrev pub goes_on : Reply → World → World → World
goes_on (refused q) u w = u
goes_on (ok st a) u w = w

-- One call that keeps its contract: the owner keeps what it left.
pub data Transition (w : World) : Move → World → Type 0 where
  calls : (x : Move) (ns : List ℕ) (r : ModuleResult) (new : Lent) → Moves w.code x (lent_of w (slot_of x) ns) r new →
      Transition w x (world r.after (around (slot_of x) new w.memory.logs w.memory.books))
  -- a restart of a slot, in its own buffer or another: the owner keeps the buffer only if it is accepted
  restarts : (i k : ℕ) (buffer book ns : List ℕ) (r : ModuleResult) (new : Lent) →
      MovesAnew w.code (Restart i buffer k) (lent buffer w.memory.rows w.memory.numbers book ns) r new →
      Transition w (Restart i buffer k)
      (goes_on (reply_of (Restart i buffer k) (state_of w)) w (world r.after (around i new w.memory.logs w.memory.books)))

-- A list of calls, one after the other.
pub data Execution : World → List Move → World → Type 0 where
  none : (w : World) → Execution w [] w
  next : {u v w : World} {x : Move} {xs : List Move} → Transition u x v → Execution v xs w → Execution u (x ∷ xs) w

-- what is put back as it was
put_same : (i : ℕ) (f : ℕ → List ℕ) → put i (f i) f ≡ f
unfolding put
put_same i f = λ t j. at j (eqb j i) refl t
  where
    at : (j : ℕ) (b : Bool) → eqb j i ≡ b → cond (eqb j i) (f i) (f j) ≡ f j
    at j true e = ap (λ (c : Bool). cond c (f i) (f j)) e ∙ ap f (sym (eqb-true j i e))
    at j false e = ap (λ (c : Bool). cond c (f i) (f j)) e

pub around-same : (w : World) (i : ℕ) (ns : List ℕ) → around i (lent_of w i ns) w.memory.logs w.memory.books ≡ w.memory
around-same w i ns =
    let b = w.memory in
    λ t. record { rows = b.rows; numbers = b.numbers; logs = put_same i b.logs t; books = put_same i b.books t }

pub record Reaches (u : World) (xs : List Move) (w : World) : Type 0 where
  pub valid : ValidWorld w
  pub state : state_of w ≡ run_all xs (state_of u)

-- One call is one step of the specification.
pub record StepsTo (u : World) (x : Move) (w : World) : Type 0 where
  pub valid : ValidWorld w
  pub state : state_of w ≡ next_of x (state_of u)

refused_stays : (x : Move) (s : ModuleState) (q : Refusal) → reply_of x s ≡ refused q → next_of x s ≡ s
unfolding next_of
refused_stays x s q e = ap (λ (y : Reply). settle_in (slot_of x) y (promise_of x (slot_at (slot_of x) s)) s) e

pub step-world : (u : World) {x : Move} {w : World} → ValidWorld u → Transition u x w → StepsTo u x w
step-world u v (calls x ns r new D) =
    go (reply_of x (view_of u.code here)) refl (D u.memory.logs u.memory.books v')
  where
    i : ℕ
    i = slot_of x

    here : Memory
    here = around i (lent_of u i ns) u.memory.logs u.memory.books

    same : here ≡ u.memory
    same = around-same u i ns

    v' : ValidModule u.code here
    v' = subst (ValidModule u.code) (sym same) v

    after : Memory
    after = around i new u.memory.logs u.memory.books

    go : (X : Reply) → reply_of x (view_of u.code here) ≡ X → DoesIn u.code x (lent_of u i ns) u.memory.logs
        u.memory.books X r new →
        StepsTo u x (world r.after after)
    go (refused q) e A =
        let em : after ≡ u.memory = ap (λ (z : Lent). around i z u.memory.logs u.memory.books) A.kept ∙ same in
        let ec : r.after ≡ u.code = A.same in
        let ew : world r.after after ≡ u = λ t. world (ec t) (em t) in
        record {
          valid = subst ValidWorld (sym ew) v;
          state = ap state_of ew ∙ sym (refused_stays x (state_of u) q (sym (ap (λ (b : Memory). reply_of x (view_of u.code b)) same) ∙ e));
        }
    go (ok st a) e A =
        record { valid = A.valid; state = A.state ∙ ap (λ (b : Memory). next_of x (view_of u.code b)) same }
step-world u v (restarts i k buffer book ns r new D) =
    subst (λ (y : Reply). StepsTo u x (goes_on y u after)) (ap (λ (b : Memory). reply_of x (view_of u.code b)) same)
    (go (reply_of x (view_of u.code here)) (sym (ap (λ (b : Memory). reply_of x (view_of u.code b)) same))
    (D (u.memory.logs i) (u.memory.books i) u.memory.logs u.memory.books (subst (ValidModule u.code) (sym same) v)))
  where
    x : Move
    x = Restart i buffer k

    here : Memory
    here = around i (lent_of u i ns) u.memory.logs u.memory.books

    same : here ≡ u.memory
    same = around-same u i ns

    after : World
    after = world r.after (around i new u.memory.logs u.memory.books)

    go : (X : Reply) → reply_of x (state_of u) ≡ X →
        DoesFrom u.code x (lent_of u i ns) (lent buffer u.memory.rows u.memory.numbers book ns) u.memory.logs
        u.memory.books X r new →
        StepsTo u x (goes_on X u after)
    go (refused q) e A = record { valid = v; state = sym (refused_stays x (state_of u) q e) }
    go (ok st a) e A = record { valid = A.valid; state = A.state ∙ ap (λ (b : Memory). next_of x (view_of u.code b)) same }

-- Every list of calls from a valid module.
pub executes : {u : World} {xs : List Move} {w : World} → ValidWorld u → Execution u xs w → Reaches u xs w
unfolding run_all
executes good (none w) = record { valid = good; state = refl }
executes good (next {u} {v} {w} {x} {xs} one rest) =
    let s = step-world u good one in
    let e = executes s.valid rest in
    record { valid = e.valid; state = e.state ∙ ap (run_all xs) s.state }

-- .. from a module as it is made, whatever the rows, logs and words are before
pub from-made : (m : Module) (ns rows : List ℕ) (logs books : ℕ → List ℕ) → Made m ns → length rows ≡ table_room * row_width →
    (xs : List Move) (w : World) →
    Execution (world m (record { rows = rows; numbers = ns; logs = logs; books = books })) xs w →
    ValidWorld w × (state_of w ≡ run_all xs made)
from-made m ns rows logs books M long xs w ex =
    let s = M rows logs books long in
    let e = executes s.valid ex in
    (e.valid, e.state ∙ ap (run_all xs) s.state)
