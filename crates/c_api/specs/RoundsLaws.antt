-- Calls of a site one after the other reach what the specification's list of calls reaches.
use Rattle.std.specs.Prelude.{ℕ, suc, ◌≡◌, refl, Bool, true, false, List, [], ◌∷◌, ◌++◌, length, drop}
use Rattle.std.proofs.Common.{sym, ap, ap₂, subst, ◌∙◌, length-take-le, arith}
use Rattle.std.proofs.Math.Option.{some}
use Rattle.forms.specs.Forms.{Update}
use Rattle.forms.specs.Held.{as_asked}
use Rattle.forms.specs.declared.Asked.{Asked}
use Rattle.rules.specs.State.{State, Reply, refused, ok, settle, log_bytes}
use Rattle.rules.specs.Calls.{Call, step}
use Rattle.rule_laws.specs.LogLaws.{histories_least}
use Rattle.rules.specs.Run.{run}
use Rattle.recovery.proofs.Recovery.{run-append}
use Rattle.site.specs.declared.Site.{Site}
use Rattle.site.specs.declared.CallResult.{CallResult}
use Rattle.site.specs.Representation.{Sound}
use Rattle.site.specs.Model.{Lent, view, Valid, Does, Opens}
use Rattle.site.specs.OpenLaws.{blank_site}
use Rattle.site.specs.Trim.{updates_held}
use Rattle.stream.specs.Logging.{overlaid}
use Rattle.stream.specs.LoggingLaws.{over-site}
use Rattle.c_api.specs.Rounds.{written, Reaches, inc_of, round_calls, rounds_calls, marked_if, work_calls, Rounds}

-- A site whose state is st, over a buffer that is as `old` was behind the log.
stands_over : (r : Site) (old : List ℕ) (new : Lent) (st : State) → Valid r new → view r new ≡ st →
    drop r.used new.log ≡ drop r.used old
    → new.log ≡ overlaid (some st) old
unfolding overlaid
stands_over r old new st v e past = over-site r new old v past ∙ ap (λ (x : State). overlaid (some x) old) e

-- One call.
pub call_reaches : (s : Site) (old : Lent) (c : Call) (r : CallResult) (new : Lent) → Valid s old → Does s old (step c (view s old)) r new →
    Reaches s old (c ∷ []) r.site new
unfolding run settle written
call_reaches s old c r new v d = go (step c (view s old)) refl d
  where
    settled : (x : Reply) → step c (view s old) ≡ x → settle x (view s old) ≡ settle (step c (view s old)) (view s old)
    settled x e = sym (ap (λ (y : Reply). settle y (view s old)) e)

    reached : (st : State) → st ≡ settle (step c (view s old)) (view s old) → Valid r.site new → view r.site new ≡ st
        → drop r.site.used new.log ≡ drop r.site.used old.log → Reaches s old (c ∷ []) r.site new
    reached st e w same past = record { valid = w; state = same ∙ e; bytes = stands_over r.site old.log new _ w (same ∙ e) past }

    go : (x : Reply) → step c (view s old) ≡ x → Does s old x r new → Reaches s old (c ∷ []) r.site new
    go (refused q) e h =
        reached (view s old) (settled (refused q) e)
        (subst (λ (m : Lent). Valid r.site m) (sym h.kept) (subst (λ (x : Site). Valid x old) (sym h.site) v))
        (ap₂ (λ (x : Site) (m : Lent). view x m) h.site h.kept) (ap (λ (m : Lent). drop r.site.used m.log) h.kept)
    go (ok st a) e h = reached st (settled (ok st a) e) h.valid h.state h.past

-- The buffer after calls, and then others.
pub written-append : (cs ds : List Call) (st : State) (bytes : List ℕ) →
    written (cs ++ ds) st bytes ≡ written ds (run cs st) (written cs st bytes)
unfolding run written
written-append [] ds st bytes = refl
written-append (c ∷ cs) ds st bytes = written-append cs ds (settle (step c st) st) (overlaid (some (settle (step c st) st)) bytes)

-- Calls, and then others.
pub reaches_then : (s : Site) (old : Lent) (cs : List Call) (r : Site) (mid : Lent) (ds : List Call) (t : Site) (new : Lent) →
    Reaches s old cs r mid → Reaches r mid ds t new → Reaches s old (cs ++ ds) t new
reaches_then s old cs r mid ds t new a b =
    record {
      valid = b.valid;
      state = b.state ∙ ap (λ (st : State). run ds st) a.state ∙ sym (run-append cs ds (view s old));
      bytes = b.bytes ∙ ap₂ (λ (st : State) (l : List ℕ). written ds st l) a.state a.bytes
          ∙ sym (written-append cs ds (view s old) old.log);
    }

-- No call.
pub reaches_none : (s : Site) (old : Lent) → Valid s old → Reaches s old [] s old
unfolding run written
reaches_none s old v = record { valid = v; state = refl; bytes = refl }

-- A call, and then another.
pub two_reach : (s : Site) (old : Lent) (c : Call) (r : CallResult) (mid : Lent) (d : Call) (t : CallResult) (new : Lent) → Valid s old →
    Does s old (step c (view s old)) r mid → Does r.site mid (step d (view r.site mid)) t new →
    Reaches s old (c ∷ d ∷ []) t.site new
two_reach s old c r mid d t new v a b =
    let first = call_reaches s old c r mid v a in
    reaches_then s old (c ∷ []) r.site mid (d ∷ []) t.site new first (call_reaches r.site mid d t new first.valid b)

-- An add of these updates.
pub adds_updates : (s : Site) (old : Lent) (id : ℕ) (us vs : List Update) (r : CallResult) (new : Lent) → us ≡ vs →
    Does s old (step (Call.Add id us) (view s old)) r new → Does s old (step (Call.Add id vs) (view s old)) r new
adds_updates s old id us vs r new e d = subst (λ (x : List Update). Does s old (step (Call.Add id x) (view s old)) r new) e d

-- The marks after every 32nd operation.
pub marked_reach : (s : Site) (old : Lent) (id : ℕ) (r : Site) (mid : Lent) (t : Site) (new : Lent) (b : Bool) → b ≡ true →
    Reaches s old (work_calls id) r mid → Reaches r mid (marked_if true id) t new → Reaches s old (work_calls id ++ marked_if b id) t new
marked_reach s old id r mid t new b e x y =
    subst (λ (z : Bool). Reaches s old (work_calls id ++ marked_if z id) t new) (sym e)
    (reaches_then s old (work_calls id) r mid (marked_if true id) t new x y)

pub unmarked_reach : (s : Site) (old : Lent) (id : ℕ) (r : Site) (mid : Lent) (b : Bool) → b ≡ false →
    Reaches s old (work_calls id) r mid → Reaches s old (work_calls id ++ marked_if b id) r mid
unmarked_reach s old id r mid b e x = subst (λ (z : Bool). Reaches s old (work_calls id ++ marked_if z id) r mid) (sym e) x

-- One round more.
pub round_more : (s : Site) (old : Lent) (n m : ℕ) (r : Site) (mid : Lent) (t : Site) (new : Lent) → m ≡ suc n →
    Reaches s old (rounds_calls n) r mid → Reaches r mid (round_calls n) t new → Reaches s old (rounds_calls m) t new
unfolding rounds_calls
round_more s old n m r mid t new e a b =
    subst (λ (k : ℕ). Reaches s old (rounds_calls k) t new) (sym e) (reaches_then s old (rounds_calls n) r mid (round_calls n) t new a b)

-- No round yet.
pub no_round : (s : Site) (old : Lent) → Valid s old → Reaches s old (rounds_calls 0) s old
unfolding rounds_calls
no_round s old v = reaches_none s old v

-- ### Opened or not

-- A valid site has histories.
no_histories : (s : Site) (m : Lent) → Valid s m → s.count ≡ 0 → ⊥
unfolding Sound
no_histories s m v e = let least = histories_least s.count v.sound.good.histories in omega arith

-- Where no site was opened.
pub not_opened : (reply : Reply) (n : ℕ) (old : Lent) (c : CallResult) (new : Lent) → Opens blank_site old reply c new → c.site.count ≡ 0 →
    Rounds reply n old.log 0 new.log
not_opened (refused q) n old c new d e = (refl, ap (λ (m : Lent). m.log) d.kept)
not_opened (ok st a) n old c new d e = absurd (no_histories c.site new d.valid e)

-- An opened site is valid.
pub opened_valid : (reply : Reply) (old : Lent) (c : CallResult) (new : Lent) → Opens blank_site old reply c new → (c.site.count ≡ 0 → ⊥) →
    Valid c.site new
opened_valid (refused q) old c new d e = absurd (e (ap (λ (s : Site). s.count) d.site))
opened_valid (ok st a) old c new d e = d.valid

-- What stands in the buffer after the rounds.
pub rounds_stand : (reply : Reply) (n id : ℕ) (old : Lent) (c : CallResult) (mid : Lent) (t : Site) (new : Lent) →
    Opens blank_site old reply c mid →
    (c.site.count ≡ 0 → ⊥) → id ≡ n → Reaches c.site mid (rounds_calls id) t new → Rounds reply n old.log t.used new.log
unfolding Sound
rounds_stand (refused q) n id old c mid t new d e same r = absurd (e (ap (λ (s : Site). s.count) d.site))
rounds_stand (ok st a) n id old c mid t new d e same r =
    record {
      used = size ∙ ap (λ (x : State). length (log_bytes x)) reached;
      bytes = r.bytes
          ∙ ap₂ (λ (x : State) (l : List ℕ). written (rounds_calls id) x l) d.state
          (stands_over c.site old.log mid st d.valid d.state d.past)
          ∙ ap (λ (i : ℕ). written (rounds_calls i) st (overlaid (some st) old.log)) same;
    }
  where
    size : t.used ≡ length (log_bytes (view t new))
    size = sym (length-take-le t.used new.log r.valid.sound.carries.within) ∙ ap length r.valid.sound.carries.text

    reached : view t new ≡ run (rounds_calls n) st
    reached = r.state ∙ ap₂ (λ (x : State) (i : ℕ). run (rounds_calls i) x) d.state same

-- ### What is asked

-- One update is held of one that is counted.
pub held_one : (h v : ℕ) → (xs : List Asked) → updates_held (record { count = 1; first = as_asked (inc_of h v) ∷ xs }) ≡ inc_of h v ∷ []
held_one h v xs = refl
