-- Every list of calls on a state that fm_start has filled, each keeping its contract, is a run of the specification's module: so what is
-- claimed of `run_all` and of a slot's site in it (crates/compact) is so of what the library's owner has.
use Rattle.std.specs.Prelude.{ℕ, ◌≤◌, ◌<◌, ◌≡◌, refl, Bool, true, false, cond, List, [], ◌∷◌, ◌++◌, eqb, ltb, length}
use Rattle.std.proofs.Common.{arith, sym, ap, subst, ◌∙◌, eqb-true, le-leb, lt-ltb, ltb-false}
use Rattle.std.proofs.Math.Option.{Option, none, some}
use Rattle.std.proofs.lemmas.Bool.{lt-leb}
use Rattle.forms.specs.Limits.{reply_limit}
use Rattle.forms.specs.declared.Refusal.{Refusal}
use Rattle.rules.specs.State.{Reply, refused, ok}
use Rattle.rules.specs.Calls.{Call}
use Rattle.compact.specs.Module.{Module as ModuleState, slot_at, made, Move, slot_of, reply_of, promise_of, settle_in, next_of, run_all}
use Rattle.site.specs.Model.{Lent, lent}
use Rattle.module.specs.Model.{Memory, put, around}
use Rattle.site.specs.Trim.{updates_held}
use Rattle.call_words.specs.Adding.{held_in, rules_known}
use Rattle.fitting_module.specs.Words.{Words, module_at}
use Rattle.fitting_module.specs.Model.{state_at, ValidWords, ValidState, Same, KeepsAs, Takes}
use Rattle.fitting_module.specs.Lines.{line_move, line_reply, line_next, AnswersIf, AnswersLine}
use Rattle.fitting_module.specs.LineLaws.{stays}
use Rattle.fitting_module.specs.Starts.{Starts}
use Rattle.fitting_module.specs.Calls.{PerformsCall, add_of, PerformsAdd}
use Rattle.fitting_module.specs.PastLaws.{view-same, valid_same, Asks, called, line-asks, add-asks, past_refused}
use Rattle.fitting_module.specs.Polls.{PollsSlot}
use Rattle.fitting_module.specs.Used.{UsedIn}
use Rattle.fitting_module.specs.Trims.{TrimsSlot}
use Rattle.fitting_module.specs.Restarts.{RestartsBy, RestartsSlot}

-- the slot whose log and words a call of slot i is lent: those of a slot above 3 are slot 0's
unfoldable pub lent_slot : ℕ → ℕ
lent_slot i = cond (ltb i 4) i 0

-- what a call of slot i is lent beside the counters, with room for the lists of a reply, or with none
abbrev pub lent_with : List ℕ → Memory → ℕ → Lent
lent_with ns b i = lent (b.logs (lent_slot i)) b.rows b.numbers (b.books (lent_slot i)) ns

abbrev pub lent_of : Memory → ℕ → Lent
lent_of b i = lent_with [] b i

-- .. and what its owner has afterwards
abbrev pub left_by : ℕ → Lent → Memory → Memory
left_by i new b = around (lent_slot i) new b.logs b.books

-- the call that a line is, if it is readable
abbrev pub calls_of : Option Move → List Move
calls_of none = []
calls_of (some x) = x ∷ []

-- the owner keeps a buffer from which a slot was restarted only if it is accepted
abbrev pub kept_by : Reply → Memory → Memory → Memory
kept_by (refused q) old new = old
kept_by (ok st a) old new = new

-- One call that keeps its contract, of all that the library has: what it makes of the counters and of all that is lent beside them.
pub data Called (ws : Words) (b : Memory) : List Move → Words → Memory → Type 0 where
  line : (i : ℕ) (text : List ℕ) (n : ℕ) (after : Words) (new : Lent) (out page : List ℕ) → reply_limit ≤ length out →
      AnswersLine i ws (lent_of b i) text n after new out page →
      Called ws b (calls_of (line_move i (length (b.logs (lent_slot i))) text)) after (left_by i new b)
  -- a line without room for the longest reply
  short : (i : ℕ) (text : List ℕ) (n : ℕ) (after : Words) (new : Lent) (out page : List ℕ) → length out < reply_limit →
      AnswersLine i ws (lent_of b i) text n after new out page → Called ws b [] after (left_by i new b)
  restart : (i k n : ℕ) (buffer : List ℕ) (after : Words) (new : Lent) →
      RestartsSlot i ws (lent buffer b.rows b.numbers (b.books (lent_slot i)) []) k n after new →
      Called ws b (Move.Restart i buffer k ∷ []) after
      (kept_by (reply_of (Move.Restart i buffer k) (state_at ws b)) b (around i new b.logs b.books))
  -- the calls on numbers
  call : (i : ℕ) (c : Call) (ns : List ℕ) (n : ℕ) (after : Words) (new : Lent) (head said : List ℕ) →
      PerformsCall i ws (lent_with ns b i) c n after new head said →
      Called ws b (Move.At i c ∷ []) after (left_by i new b)
  add : (i id count : ℕ) (updates ns : List ℕ) (n : ℕ) (after : Words) (new : Lent) (head said : List ℕ) →
      PerformsAdd i ws (lent_with ns b i) id count updates n after new head said →
      Called ws b (calls_of (add_of i id count updates)) after (left_by i new b)
  -- the calls that only read the state
  poll : (i h n : ℕ) → PollsSlot ws i (lent_of b i) h n → Called ws b [] ws b
  used : (i n : ℕ) → UsedIn ws i (lent_of b i) n → Called ws b [] ws b
  trim : (i n : ℕ) (old : List ℕ) (r : ℕ) (new : List ℕ) (before after : ℕ) → TrimsSlot ws i (lent_of b i) n old r new before after →
      Called ws b [] ws b

-- A list of calls, one after the other.
pub data Calls (ws : Words) (b : Memory) : List Move → Words → Memory → Type 0 where
  start : Calls ws b [] ws b
  next : {xs ys : List Move} {w v : Words} {c d : Memory} → Calls ws b xs w c → Called w c ys v d → Calls ws b (xs ++ ys) v d

pub record Reaches (ws : Words) (b : Memory) (xs : List Move) (after : Words) (c : Memory) : Type 0 where
  pub valid : ValidWords after c
  pub state : state_at after c ≡ run_all xs (state_at ws b)

-- what is put back as it was
put_same : (i : ℕ) (f : ℕ → List ℕ) → put i (f i) f ≡ f
unfolding put
put_same i f = λ t j. at j (eqb j i) refl t
  where
    at : (j : ℕ) (b : Bool) → eqb j i ≡ b → cond (eqb j i) (f i) (f j) ≡ f j
    at j true e = ap (λ (c : Bool). cond c (f i) (f j)) e ∙ ap f (sym (eqb-true j i e))
    at j false e = ap (λ (c : Bool). cond c (f i) (f j)) e

around-same : (b : Memory) (i : ℕ) → around i (lent (b.logs i) b.rows b.numbers (b.books i) []) b.logs b.books ≡ b
around-same b i = λ t.
    record { rows = b.rows; numbers = b.numbers; logs = put_same i b.logs t; books = put_same i b.books t }

-- ### What a call is lent

slot_below : (i : ℕ) → ltb i 4 ≡ true → lent_slot i ≡ i
unfolding lent_slot
slot_below i e = ap (λ (t : Bool). cond t i 0) e

-- Of the slots 0 to 3 it is what the state has.
put-lent : (f : ℕ → List ℕ) (i j : ℕ) → j < 4 → f j ≡ put i (f (lent_slot i)) f j
unfolding put
put-lent f i j lt = go (eqb j i) refl
  where
    go : (t : Bool) → eqb j i ≡ t → f j ≡ cond (eqb j i) (f (lent_slot i)) (f j)
    go true e =
        let is : j ≡ i = eqb-true j i e in
        ap f (sym (slot_below j (lt-ltb j 4 lt)) ∙ ap lent_slot is) ∙ sym (ap (λ (c : Bool). cond c (f (lent_slot i)) (f j)) e)
    go false e = sym (ap (λ (c : Bool). cond c (f (lent_slot i)) (f j)) e)

module _ (ws : Words) (b : Memory) (i : ℕ) (ns : List ℕ) where
  -- the memory with which the contract of a call of slot i speaks
  abbrev here : Memory
  here = around i (lent_with ns b i) b.logs b.books

  state_here : state_at ws here ≡ state_at ws b
  state_here = sym (view-same (module_at ws).slots b here.logs here.books (put-lent b.logs i) (put-lent b.books i))

  valid_here : ValidWords ws b → ValidWords ws here
  valid_here v =
      record {
        words = v.words;
        valid = valid_same (module_at ws).slots b here.logs here.books (put-lent b.logs i) (put-lent b.books i) v.valid;
      }

-- What a valid state lends to a call of any slot is what the call requires.
pub lent_valid : (ws : Words) (b : Memory) (i : ℕ) → ValidWords ws b → ValidState ws i (lent_of b i)
lent_valid ws b i v = (b.logs, b.books, valid_here ws b i [] v)

run-line : (x : Option Move) (s : ModuleState) → line_next x s ≡ run_all (calls_of x) s
unfolding line_next run_all
run-line none s = refl
run-line (some x) s = refl

run-append : (xs ys : List Move) (s : ModuleState) → run_all (xs ++ ys) s ≡ run_all ys (run_all xs s)
unfolding run_all
run-append [] ys s = refl
run-append (x ∷ xs) ys s = run-append xs ys (next_of x s)

refused_stays : (x : Move) (s : ModuleState) (q : Refusal) → reply_of x s ≡ refused q → next_of x s ≡ s
unfolding next_of
refused_stays x s q e = ap (λ (y : Reply). settle_in (slot_of x) y (promise_of x (slot_at (slot_of x) s)) s) e

-- A call that hands back what it was lent.
handed_back : (ws : Words) (b : Memory) (i : ℕ) (ns : List ℕ) (after : Words) (new : Lent) → ValidWords ws b →
    Same ws (lent_with ns b i) after new → Reaches ws b [] after (left_by i new b)
unfolding run_all
handed_back ws b i ns after new v k =
    record {
      valid = subst (ValidWords after) (sym m) (subst (λ (w : Words). ValidWords w b) (sym k.counters) v);
      state = λ t. state_at (k.counters t) (m t);
    }
  where
    m : left_by i new b ≡ b
    m = ap (λ (w : Lent). around (lent_slot i) w b.logs b.books) k.kept ∙ around-same b (lent_slot i)

-- A call on numbers, or a line: the call that it is. One of a slot above 3 is refused.
taken : (ws : Words) (b : Memory) (i : ℕ) (x : Option Move) (ns : List ℕ) (after : Words) (new : Lent) → ValidWords ws b → Asks i x →
    Takes i ws (lent_with ns b i) (line_reply x (state_at ws (here ws b i ns))) (line_next x (state_at ws (here ws b i ns))) after new
    (around i new b.logs b.books) →
    Reaches ws b (calls_of x) after (left_by i new b)
unfolding run_all
taken ws b i x ns after new v A t = go (ltb i 4) refl
  where
    go : (k : Bool) → ltb i 4 ≡ k → Reaches ws b (calls_of x) after (left_by i new b)
    go true e =
        subst (λ (j : ℕ). Reaches ws b (calls_of x) after (around j new b.logs b.books)) (sym (slot_below i e))
        (record { valid = t.valid; state = t.state ∙ ap (line_next x) (state_here ws b i ns) ∙ run-line x (state_at ws b) })
    go false e =
        let q = ltb-false i 4 e in
        let past : 4 ≤ i = omega (arith, q) in
        let r = past_refused ws (here ws b i ns) i (valid_here ws b i ns v) A past in
        let k : Same ws (lent_with ns b i) after new =
        subst (λ (y : Reply). KeepsAs y i ws (lent_with ns b i) after new) r.1 t.keeps in
        let h = handed_back ws b i ns after new v k in
        let o = past_refused ws b i v A past in
        record { valid = h.valid; state = h.state ∙ sym (stays x (state_at ws b) o.0 o.1) ∙ run-line x (state_at ws b) }

-- One call is one step of the specification, or none.
step : (ws : Words) (b : Memory) {xs : List Move} {after : Words} {c : Memory} → ValidWords ws b → Called ws b xs after c →
    Reaches ws b xs after c
unfolding run_all
step ws b v (line i text n after new out page room A) =
    let x = line_move i (length (b.logs (lent_slot i))) text in
    taken ws b i x [] after new v (line-asks i (length (b.logs (lent_slot i))) text)
    (subst (λ (k : Bool). AnswersIf k i ws (lent_of b i) x n after new out page) (le-leb reply_limit (length out) room) A b.logs
    b.books (valid_here ws b i [] v)).takes
step ws b v (short i text n after new out page lack A) =
    handed_back ws b i [] after new v
    (subst (λ (k : Bool). AnswersIf k i ws (lent_of b i) (line_move i (length (b.logs (lent_slot i))) text) n after new out page)
    (lt-leb reply_limit (length out) lack) A).same
step ws b v (call i c ns n after new head said P) =
    taken ws b i (some (Move.At i c)) ns after new v (called c) (P b.logs b.books (valid_here ws b i ns v)).takes
step ws b v (add i id count updates ns n after new head said P) =
    taken ws b i (add_of i id count updates) ns after new v
    (add-asks (rules_known updates) i id (updates_held (held_in count updates))) (P b.logs b.books (valid_here ws b i ns v)).takes
step ws b v (poll i h n P) = record { valid = v; state = refl }
step ws b v (used i n U) = record { valid = v; state = refl }
step ws b v (trim i n old r new before after T) = record { valid = v; state = refl }
step ws b v (restart i k n buffer after new A) =
    subst (λ (y : Reply). Reaches ws b (x ∷ []) after (kept_by y b left)) (ap (λ (m : Memory). reply_of x (state_at ws m)) same)
    (go (reply_of x (state_at ws own)) refl
    (A (b.logs i) (b.books i) b.logs b.books (subst (ValidWords ws) (sym same) v)))
  where
    x : Move
    x = Move.Restart i buffer k

    came : Lent
    came = lent buffer b.rows b.numbers (b.books (lent_slot i)) []

    own : Memory
    own = around i (lent (b.logs i) b.rows b.numbers (b.books i) []) b.logs b.books

    same : own ≡ b
    same = around-same b i

    left : Memory
    left = around i new b.logs b.books

    go : (y : Reply) → reply_of x (state_at ws own) ≡ y →
        RestartsBy y (next_of x (state_at ws own)) i ws came n after new b.logs b.books →
        Reaches ws b (x ∷ []) after (kept_by y b left)
    go (refused q) e r =
        record {
          valid = subst (λ (w : Words). ValidWords w b) (sym r.same.counters) v;
          state = ap (λ (w : Words). state_at w b) r.same.counters
              ∙ sym (refused_stays x (state_at ws b) q (sym (ap (λ (m : Memory). reply_of x (state_at ws m)) same) ∙ e));
        }
    go (ok st a) e r = record { valid = r.valid; state = r.state ∙ ap (λ (m : Memory). next_of x (state_at ws m)) same }

-- Every list of calls on a valid state.
pub calls-run : {ws : Words} {b : Memory} {xs : List Move} {after : Words} {c : Memory} → ValidWords ws b → Calls ws b xs after c →
    Reaches ws b xs after c
unfolding run_all
calls-run good start = record { valid = good; state = refl }
calls-run {ws} {b} good (next {xs} {ys} {w} {v} {c} {d} before one) =
    let r = calls-run good before in
    let s = step w c r.valid one in
    record { valid = s.valid; state = s.state ∙ ap (run_all ys) r.state ∙ sym (run-append xs ys (state_at ws b)) }

-- .. on one that fm_start has filled, whatever the rows, logs and words are before
pub started_run : {ws : Words} {rows numbers : List ℕ} → Starts ws rows numbers → (logs books : ℕ → List ℕ) {xs : List Move} {after : Words}
    {c : Memory} → Calls ws (record { rows = rows; numbers = numbers; logs = logs; books = books }) xs after c →
    ValidWords after c × (state_at after c ≡ run_all xs made)
started_run S logs books {xs} cs =
    let r = calls-run (S logs books).valid cs in
    (r.valid, r.state ∙ ap (run_all xs) (S logs books).state)
