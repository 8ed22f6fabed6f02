-- A slot whose neighbours are not opened goes on as a site alone: they claim 48 entries of the 128, so 10 is met at 64 live as in 01.
use Rattle.std.specs.Prelude.{ℕ, zero, suc, ◌*◌, ◌-◌, ◌≤◌, ◌<◌, ◌≡◌, Bool, true, false, ◌||◌, ◌⊎◌, List, [], ◌∷◌, ◌++◌, drop}
use Rattle.std.proofs.Common.{arith, subst, ◌∙◌, inl, inr, length-take-le, lt-ltb}
use Rattle.std.proofs.Math.Path.{refl, sym, ap, ap₂}
use Rattle.std.proofs.Math.Option.{Option, none, some}
use Rattle.std.proofs.Math.ListN.{length}
use Rattle.std.proofs.lemmas.Bool.{lt-leb}
use Rattle.forms.specs.Limits.{live_limit}
use Rattle.forms.specs.Lists.{sum}
use Rattle.forms.specs.Forms.{Answer, Update}
use Rattle.forms.specs.declared.Refusal.TheVariants.{OutOfTurn}
use Rattle.rules.specs.Checks.{check}
use Rattle.rules.specs.State.{State, Reply, refused, ok, settle, live, log_bytes}
use Rattle.rules.specs.Calls.{Call, unless, open_site, step}
use Rattle.rules.specs.When.{step_when}
use Rattle.rule_laws.specs.WhenLaws.{step_off}
use Rattle.rules.specs.Run.{run}
use Rattle.recovery.proofs.Recovery.{run-append}
use Rattle.compact.specs.Module.{Slot as SlotState, Module as ModuleState, least, slot_at, with_slot, others, opened_in, live_of, lacks}
use Rattle.compact.specs.Module.{free, taken}
use Rattle.compact.specs.Module.{meets_ten, promise_after, At, Open, call_at, reply_of, promise_of, settle_in, next_of, made}
use Rattle.compact.proofs.Fits.{sum_slots, at_with, others_with, length_with}
use Rattle.compact.proofs.FitsLaws.{site-good}
use Rattle.compact.specs.Claim.{site_or}
use Rattle.stream.specs.Logging.{overlaid}
use Rattle.stream.specs.LoggingLaws.{over-site}
use Rattle.site.specs.Representation.{Sound}
use Rattle.site.specs.Model.{Lent, lent}
use Rattle.module.specs.declared.Module.{Module}
use Rattle.module.specs.declared.ModuleResult.{ModuleResult}
use Rattle.table.specs.Rows.{row_width}
use Rattle.module.specs.Four.{true_false}
use Rattle.module.specs.Parts.{table_room}
use Rattle.module.specs.Start.{Made}
use Rattle.module.specs.Model.{Memory, ValidModule, view_of, put, around, slot_in, lent_at, state_at, AcceptedIn, DoesIn, Moves}
use Rattle.module.specs.AcceptLaws.{put-own}
use Rattle.module.specs.CallLaws.{site-some, site_none}
use Rattle.c_api.specs.Rounds.{written, work_calls, marked_if, round_calls, rounds_calls, Rounds}
use Rattle.c_api.specs.RoundsLaws.{written-append}
use Rattle.c_api.specs.SlotRounds.{lone, LoneAt, nothing, Lone, ReachesFrom, ReachesIn, ServesFrom, Serves}

-- ### A slot alone

with_with : (i : ℕ) (x y : SlotState) (m : ModuleState) → with_slot i x (with_slot i y m) ≡ with_slot i x m
unfolding with_slot
with_with i x y [] = refl
with_with zero x y (s ∷ m) = refl
with_with (suc i) x y (s ∷ m) = ap {B = ModuleState} (λ l. s ∷ l) (with_with i x y m)

lone_slot : (i : ℕ) → i < 4 → (st : State) → slot_at i (lone i st) ≡ record { site = some st; promise = least }
lone_slot i lt st = at_with i (record { site = some st; promise = least }) made lt

-- the three others lack 48, and have nothing live
others_lack : (i : ℕ) → i < 4 → sum lacks (others i made) ≡ 48
unfolding others lacks live_of
others_lack zero lt = refl
others_lack (suc zero) lt = refl
others_lack (suc (suc zero)) lt = refl
others_lack (suc (suc (suc zero))) lt = refl
others_lack (suc (suc (suc (suc i)))) lt = absurd (omega (arith, lt))

others_none : (i : ℕ) → i < 4 → sum live_of (others i made) ≡ 0
unfolding others live_of
others_none zero lt = refl
others_none (suc zero) lt = refl
others_none (suc (suc zero)) lt = refl
others_none (suc (suc (suc zero))) lt = refl
others_none (suc (suc (suc (suc i)))) lt = absurd (omega (arith, lt))

lone-live : (i : ℕ) → i < 4 → (st : State) → sum live_of (lone i st) ≡ live st
unfolding live_of
lone-live i lt st =
    omega (
      arith,
      sum_slots live_of i (lone i st) (omega (arith, lt, length_with i (record { site = some st; promise = least }) made)),
      ap live_of (lone_slot i lt st),
      ap (sum live_of) (others_with i (record { site = some st; promise = least }) made),
      others_none i lt,
    )

lone-taken : (i : ℕ) → i < 4 → (st : State) → live st ≤ live_limit → taken i (lone i st) ≡ false
unfolding taken free
lone-taken i lt st few =
    let a = lone-live i lt st in
    let b : sum lacks (others i (lone i st)) ≡ 48 =
    ap (sum lacks) (others_with i (record { site = some st; promise = least }) made) ∙ others_lack i lt in
    lt-leb (128 - sum live_of (lone i st)) (sum lacks (others i (lone i st))) (omega (arith, a, b, few))

-- ### The calls of a round

abbrev pub is_round : Call → Bool
is_round (Call.Add n us) = true
is_round (Call.Finish n) = true
is_round (Call.Withdraw n) = false
is_round (Call.Persistent n) = true
is_round (Call.Stable n) = true
is_round (Call.Show h) = false
is_round (Call.Cut k room) = false
is_round (Call.Changeover n room) = false
is_round (Call.Redo line) = false
is_round Call.End = false

round_flag : (i : ℕ) → i < 4 → (c : Call) (st : State) → live st ≤ live_limit → is_round c ≡ true → meets_ten i c st (lone i st) ≡ false
unfolding meets_ten
round_flag i lt (Call.Add n us) st few e = lone-taken i lt st few
round_flag i lt (Call.Finish n) st few e = refl
round_flag i lt (Call.Withdraw n) st few e = refl
round_flag i lt (Call.Persistent n) st few e = refl
round_flag i lt (Call.Stable n) st few e = refl
round_flag i lt (Call.Show h) st few e = refl
round_flag i lt (Call.Cut k room) st few e = absurd (true_false (sym e))
round_flag i lt (Call.Changeover n room) st few e = absurd (true_false (sym e))
round_flag i lt (Call.Redo line) st few e = absurd (true_false (sym e))
round_flag i lt Call.End st few e = refl

round_promise : (c : Call) (s : SlotState) → is_round c ≡ true → promise_after c s ≡ s.promise
round_promise (Call.Add n us) s e = refl
round_promise (Call.Finish n) s e = refl
round_promise (Call.Withdraw n) s e = refl
round_promise (Call.Persistent n) s e = refl
round_promise (Call.Stable n) s e = refl
round_promise (Call.Show h) s e = refl
round_promise (Call.Cut k room) s e = absurd (true_false (sym e))
round_promise (Call.Changeover n room) s e = absurd (true_false (sym e))
round_promise (Call.Redo line) s e = refl
round_promise Call.End s e = absurd (true_false (sym e))

module _ (i : ℕ) (lt : i < 4) (c : Call) (st : State) (few : live st ≤ live_limit) (e : is_round c ≡ true) where
  -- the reply is the site's own
  lone_reply : reply_of (At i c) (lone i st) ≡ step c st
  unfolding reply_of
  lone_reply =
      ap (λ (s : SlotState). call_at s.site i c (lone i st)) (lone_slot i lt st)
      ∙ ap (λ (f : Bool). step_when f c st) (round_flag i lt c st few e)
      ∙ sym (step_off c st)

  lone-next : next_of (At i c) (lone i st) ≡ lone i (settle (step c st) st)
  unfolding next_of promise_of settle
  lone-next =
      ap₂ (λ (x : Reply) (p : ℕ). settle_in i x p (lone i st)) lone_reply
      (round_promise c (slot_at i (lone i st)) e ∙ ap (λ (s : SlotState). s.promise) (lone_slot i lt st))
      ∙ go (step c st)
    where
      go : (x : Reply) → settle_in i x least (lone i st) ≡ lone i (settle x st)
      go (refused q) = refl
      go (ok after a) =
          with_with i (record { site = some after; promise = least }) (record { site = some st; promise = least }) made

-- ### The code's module

module _ (i : ℕ) (m : Module) (b : Memory) (st : State) (L : LoneAt i m b st) where
  site_is : (slot_at i (view_of m b)).site ≡ some st
  site_is = ap (λ (x : ModuleState). (slot_at i x).site) L.state ∙ ap (λ (s : SlotState). s.site) (lone_slot i L.own st)

  pub lone-opened : (slot_in m.slots i).opened ≡ true
  lone-opened = go (slot_in m.slots i).opened refl
    where
      go : (o : Bool) → (slot_in m.slots i).opened ≡ o → o ≡ true
      go true e = refl
      go false e =
          absurd (true_false (ap (λ (o : Option State). opened_in o) (sym site_is ∙ site_none m.slots b L.valid i e)))

  lone_state : state_at m.slots b i ≡ st
  lone_state = ap site_or (sym (site-some m.slots b L.valid i lone-opened) ∙ site_is)

  lone_few : live st ≤ live_limit
  lone_few = (site-good i (view_of m b) L.valid.fits st site_is).few

  -- the slot's log stands at the front of its buffer
  lone-over : (other : List ℕ) → drop (slot_in m.slots i).site.used (b.logs i) ≡ drop (slot_in m.slots i).site.used other →
      b.logs i ≡ overlaid (some st) other
  unfolding overlaid
  lone-over other past =
      over-site (slot_in m.slots i).site (lent_at m.slots b i) other (L.valid.each i L.own lone-opened) past
      ∙ ap (λ (x : State). overlaid (some x) other) lone_state

  -- the bytes in use
  pub lone_used : (slot_in m.slots i).site.used ≡ length (log_bytes st)
  unfolding Sound
  lone_used =
      let v = L.valid.each i L.own lone-opened in
      sym (length-take-le (slot_in m.slots i).site.used (b.logs i) v.sound.carries.within)
      ∙ ap length v.sound.carries.text
      ∙ ap (λ (x : State). length (log_bytes x)) lone_state

-- One call.
pub slot_call : (i : ℕ) (m : Module) (old : Lent) (c : Call) (r : ModuleResult) (new : Lent) → is_round c ≡ true →
    Moves m (At i c) old r new → ReachesIn i m old (c ∷ []) r.after new
unfolding run settle written
slot_call i m old c r new e D st L =
    go (step c st) refl
    (subst (λ (x : Reply). DoesIn m (At i c) old nothing nothing x r new) reply (D nothing nothing L.valid))
  where
    here : Memory
    here = around i old nothing nothing

    there : Memory
    there = around i new nothing nothing

    few : live st ≤ live_limit
    few = lone_few i m here st L

    reply : reply_of (At i c) (view_of m here) ≡ step c st
    reply = ap (reply_of (At i c)) L.state ∙ lone_reply i L.own c st few e

    next : next_of (At i c) (view_of m here) ≡ lone i (settle (step c st) st)
    next = ap (next_of (At i c)) L.state ∙ lone-next i L.own c st few e

    reached : (x : LoneAt i r.after there (settle (step c st) st)) →
        drop (slot_in r.after.slots i).site.used new.log ≡ drop (slot_in r.after.slots i).site.used old.log →
        ReachesFrom i st old.log (c ∷ []) there r.after new.log
    reached x past =
        let el : there.logs i ≡ new.log = put-own i new.log nothing in
        record {
          at = x;
          bytes =
              sym el
              ∙ lone-over i r.after there (settle (step c st) st) x old.log
              (ap (drop (slot_in r.after.slots i).site.used) el ∙ past);
        }

    go : (x : Reply) → step c st ≡ x → DoesIn m (At i c) old nothing nothing x r new →
        ReachesFrom i st old.log (c ∷ []) there r.after new.log
    go (refused q) f A =
        let same : LoneAt i m here st = L in
        let moved : LoneAt i r.after there st =
        subst (λ (x : Module). LoneAt i x there st) (sym A.same)
        (subst (λ (w : Lent). LoneAt i m (around i w nothing nothing) st) (sym A.kept) same) in
        reached (subst (LoneAt i r.after there) (sym (ap (λ (x : Reply). settle x st) f)) moved)
        (ap (λ (w : Lent). drop (slot_in r.after.slots i).site.used w.log) A.kept)
    go (ok after a) f A = reached (record { own = L.own; valid = A.valid; state = A.state ∙ next }) A.past

-- Calls, and then others.
pub slot_then : (i : ℕ) (m : Module) (old : Lent) (cs : List Call) (r : Module) (mid : Lent) (ds : List Call) (t : Module) (new : Lent) →
    ReachesIn i m old cs r mid → ReachesIn i r mid ds t new → ReachesIn i m old (cs ++ ds) t new
slot_then i m old cs r mid ds t new x y st L =
    let a = x st L in
    let b = y (run cs st) a.at in
    record {
      at = subst (LoneAt i t (around i new nothing nothing)) (sym (run-append cs ds st)) b.at;
      bytes = b.bytes ∙ ap (written ds (run cs st)) a.bytes ∙ sym (written-append cs ds st old.log);
    }

-- A call, and then another.
pub slot_two : (i : ℕ) (m : Module) (old : Lent) (c : Call) (r : ModuleResult) (mid : Lent) (d : Call) (t : ModuleResult) (new : Lent) →
    is_round c ≡ true → is_round d ≡ true → Moves m (At i c) old r mid → Moves r.after (At i d) mid t new →
    ReachesIn i m old (c ∷ d ∷ []) t.after new
slot_two i m old c r mid d t new ec ed x y =
    slot_then i m old (c ∷ []) r.after mid (d ∷ []) t.after new (slot_call i m old c r mid ec x)
    (slot_call i r.after mid d t new ed y)

-- An add of these updates.
pub slot_adds : (i : ℕ) (m : Module) (old : Lent) (id : ℕ) (us vs : List Update) (r : ModuleResult) (new : Lent) → us ≡ vs →
    Moves m (At i (Call.Add id us)) old r new → Moves m (At i (Call.Add id vs)) old r new
slot_adds i m old id us vs r new e d = subst (λ (x : List Update). Moves m (At i (Call.Add id x)) old r new) e d

-- The marks after every 32nd operation.
pub slot_marked : (i : ℕ) (m : Module) (old : Lent) (id : ℕ) (r : Module) (mid : Lent) (t : Module) (new : Lent) (b : Bool) → b ≡ true →
    ReachesIn i m old (work_calls id) r mid → ReachesIn i r mid (marked_if true id) t new →
    ReachesIn i m old (work_calls id ++ marked_if b id) t new
slot_marked i m old id r mid t new b e x y =
    subst (λ (z : Bool). ReachesIn i m old (work_calls id ++ marked_if z id) t new) (sym e)
    (slot_then i m old (work_calls id) r mid (marked_if true id) t new x y)

pub slot_unmarked : (i : ℕ) (m : Module) (old : Lent) (id : ℕ) (r : Module) (mid : Lent) (b : Bool) → b ≡ false →
    ReachesIn i m old (work_calls id) r mid → ReachesIn i m old (work_calls id ++ marked_if b id) r mid
slot_unmarked i m old id r mid b e x = subst (λ (z : Bool). ReachesIn i m old (work_calls id ++ marked_if z id) r mid) (sym e) x

-- ### From the opening on

-- One round more.
pub slot_more : (i : ℕ) (st : State) (old : List ℕ) (n m : ℕ) (r : Module) (mid : Lent) (t : Module) (new : Lent) → m ≡ suc n →
    ReachesFrom i st old (rounds_calls n) (around i mid nothing nothing) r mid.log → ReachesIn i r mid (round_calls n) t new →
    ReachesFrom i st old (rounds_calls m) (around i new nothing nothing) t new.log
unfolding rounds_calls
slot_more i st old n m r mid t new e a y =
    subst (λ (k : ℕ). ReachesFrom i st old (rounds_calls k) (around i new nothing nothing) t new.log) (sym e)
    (let b = y (run (rounds_calls n) st) a.at in
    record {
      at = subst (LoneAt i t (around i new nothing nothing)) (sym (run-append (rounds_calls n) (round_calls n) st)) b.at;
      bytes = b.bytes ∙ ap (written (round_calls n) (run (rounds_calls n) st)) a.bytes
          ∙ sym (written-append (rounds_calls n) (round_calls n) st old);
    })

-- No round yet.
pub slot_none : (i : ℕ) (st : State) (old : List ℕ) (m : Module) (b : Memory) → LoneAt i m b st →
    ReachesFrom i st old (rounds_calls 0) b m old
unfolding rounds_calls run written
slot_none i st old m b L = record { at = L; bytes = refl }

-- After the last round.
pub slot_served : (i : ℕ) (st : State) (n id : ℕ) (old : List ℕ) (b : Memory) (m : Module) (new : List ℕ) → id ≡ n →
    ReachesFrom i st old (rounds_calls id) b m new → ServesFrom st n old (slot_in m.slots i).site.used new
slot_served i st n id old b m new e a =
    record {
      used = lone_used i m b (run (rounds_calls id) st) a.at ∙ ap (λ (k : ℕ). length (log_bytes (run (rounds_calls k) st))) e;
      bytes = a.bytes ∙ ap (λ (k : ℕ). written (rounds_calls k) st old) e;
    }

open_past : (i n room : ℕ) → 4 ≤ i → reply_of (Open i n room) made ≡ refused OutOfTurn
unfolding reply_of check unless
open_past i n room le =
    ap (λ (t : Bool). unless (check (t || opened_in (slot_at i made).site) OutOfTurn none) (open_site n room))
    (lt-ltb 3 i (omega (arith, le)))

made_none : (i : ℕ) → (slot_at i made).site ≡ none
unfolding slot_at
made_none zero = refl
made_none (suc zero) = refl
made_none (suc (suc zero)) = refl
made_none (suc (suc (suc zero))) = refl
made_none (suc (suc (suc (suc i)))) = refl

open_next : (i n room : ℕ) (st : State) (a : Answer) → reply_of (Open i n room) made ≡ ok st a → next_of (Open i n room) made ≡ lone i st
unfolding next_of promise_of
open_next i n room st a e = ap (λ (x : Reply). settle_in i x least made) e

abbrev is_ok : Reply → Bool
is_ok (refused q) = false
is_ok (ok st a) = true

-- a module as it is made, with whatever rows, log and words
module _ (i : ℕ) (m : Module) (ns : List ℕ) (M : Made m ns) (log rows book ls : List ℕ) (long : length rows ≡ table_room * row_width) where
  pub made_valid : ValidModule m (around i (lent log rows ns book ls) nothing nothing)
  made_valid = (M rows (put i log nothing) (put i book nothing) long).valid

  pub made_state : view_of m (around i (lent log rows ns book ls) nothing nothing) ≡ made
  made_state = (M rows (put i log nothing) (put i book nothing) long).state

-- The slot of a module as it is made is opened.
module _ (i room : ℕ) (m : Module) (old : Lent) (valid : ValidModule m (around i old nothing nothing))
    (start : view_of m (around i old nothing nothing) ≡ made) (r : ModuleResult) (new : Lent) (D : Moves m (Open i 4 room) old r new) where
  does : DoesIn m (Open i 4 room) old nothing nothing (reply_of (Open i 4 room) made) r new
  does =
      subst (λ (x : Reply). DoesIn m (Open i 4 room) old nothing nothing x r new) (ap (reply_of (Open i 4 room)) start)
      (D nothing nothing valid)

  -- nothing was opened before
  was_shut : (slot_in m.slots i).opened ≡ true → ⊥
  was_shut on =
      true_false
      (ap opened_in
      (sym (site-some m.slots (around i old nothing nothing) valid i on)
      ∙ ap (λ (x : ModuleState). (slot_at i x).site) start
      ∙ made_none i))

  opens : (st : State) (a : Answer) → reply_of (Open i 4 room) made ≡ ok st a →
      AcceptedIn i old (next_of (Open i 4 room) (view_of m (around i old nothing nothing))) a r new (around i new nothing nothing) →
      i < 4 → Lone i r.after new st
  opens st a e A lt =
      record { own = lt; valid = A.valid; state = A.state ∙ ap (next_of (Open i 4 room)) start ∙ open_next i 4 room st a e }

  pub slot_ready : i < 4 → (slot_in r.after.slots i).opened ≡ true → (st : State) × Lone i r.after new st
  slot_ready lt on = go (reply_of (Open i 4 room) made) refl does
    where
      go : (x : Reply) → reply_of (Open i 4 room) made ≡ x → DoesIn m (Open i 4 room) old nothing nothing x r new →
          (st : State) × Lone i r.after new st
      go (refused q) e A = absurd (was_shut (subst (λ (z : Module). (slot_in z.slots i).opened ≡ true) A.same on))
      go (ok st a) e A = (st, opens st a e A lt)

  -- What the rounds of an opened slot leave is what those of a site leave.
  pub slot_rounds : i < 4 → (slot_in r.after.slots i).opened ≡ true → (n used : ℕ) (final : List ℕ) →
      Serves i r.after new n used final → Rounds (reply_of (Open i 4 room) made) n old.log used final
  slot_rounds lt on n used final F = go (reply_of (Open i 4 room) made) refl does
    where
      go : (x : Reply) → reply_of (Open i 4 room) made ≡ x → DoesIn m (Open i 4 room) old nothing nothing x r new →
          Rounds x n old.log used final
      go (refused q) e A = absurd (was_shut (subst (λ (z : Module). (slot_in z.slots i).opened ≡ true) A.same on))
      go (ok st a) e A =
          let L = opens st a e A lt in
          let el : (around i new nothing nothing).logs i ≡ new.log = put-own i new.log nothing in
          record {
            used = (F st L).used;
            bytes = (F st L).bytes
                ∙ ap (written (rounds_calls n) st)
                (sym el
                ∙ lone-over i r.after (around i new nothing nothing) st L old.log
                (ap (drop (slot_in r.after.slots i).site.used) el ∙ A.past));
          }

  -- Where it is not opened, nothing is written.
  pub slot_shut : (n : ℕ) → (4 ≤ i) ⊎ ((i < 4) × ((slot_in r.after.slots i).opened ≡ false)) →
      Rounds (reply_of (Open i 4 room) made) n old.log 0 new.log
  slot_shut n off = go (reply_of (Open i 4 room) made) refl does off
    where
      go : (x : Reply) → reply_of (Open i 4 room) made ≡ x → DoesIn m (Open i 4 room) old nothing nothing x r new →
          (4 ≤ i) ⊎ ((i < 4) × ((slot_in r.after.slots i).opened ≡ false)) → Rounds x n old.log 0 new.log
      go (refused q) e A w = (refl, ap (λ (z : Lent). z.log) A.kept)
      go (ok st a) e A (inl le) = absurd (true_false (ap is_ok (sym e ∙ open_past i 4 room le)))
      go (ok st a) e A (inr q) =
          absurd (true_false (sym (lone-opened i r.after (around i new nothing nothing) st (opens st a e A q.0)) ∙ q.1))
