-- The recovery claim for each slot, proved: the module plays by the rules of a host, and keeps room for the lost lines.
use Rattle.std.specs.Prelude.{◌≡◌, ◌⊎◌, Bool, true, false, cond, ◌&&◌, List, [], ◌∷◌, ◌++◌, ℕ, ◌≤◌, T, eqb, ltb}
use Rattle.std.proofs.Math.Path.{refl, ap}
use Rattle.std.proofs.Common.{sym, ap₂, ◌∙◌, subst, inl, inr, append_assoc, T_not, eqb→eq}
use mathlib.Core.List.{Memᴰ as Mem}
use Rattle.std.proofs.Math.Option.{Option, none, some}
use native.Mathlib.Omega.{arith}
use Rattle.std.proofs.Math.Dec.{eqb_refl}
use Rattle.forms.specs.Lists.{all}
use Rattle.forms.specs.ListLaws.{T_true, true_T, false_T, and_intro, and_left, and_right}
use Rattle.forms.specs.Forms.{Did, did_text, Answer}
use Rattle.forms.specs.declared.Refusal.TheVariants.{OutOfTurn, TableFull}
use Rattle.rules.specs.State.{State, Reply, refused, ok, settle, live}
use Rattle.rules.specs.Calls.{Call, Add, Finish, Withdraw, Persistent, Stable, Show, Cut, Changeover, Redo, End, step}
use Rattle.rules.specs.When.{step_when}
use Rattle.rule_laws.specs.WhenLaws.{step-ten}
use Rattle.rule_laws.specs.CheckLaws.{unless-check, or_false_right}
use Rattle.recovery.specs.Claim.{Start, lost_by}
use Rattle.recovery.specs.Arrival.{every}
use Rattle.recovery.proofs.ArrivalLaws.{all_three}
use Rattle.recovery.specs.Host.{Host, Plays, run_in, Playing, Roomy, ListIn}
use Rattle.recovery.proofs.HostLaws.{run-append, never_ten, host_recovery, host_arrival}
use Rattle.compact.specs.Module.{Slot, Module, slot_at, opened_in, meets_ten, promised_again, promise_after, Move, At, Open}
use Rattle.compact.specs.Module.{Restart, slot_of, call_at, reply_of, promise_of, settle_in, next_of}
use Rattle.compact.specs.Fits.{Fits}
use Rattle.compact.proofs.Fits.{at_with, at_other, opened-below}
use Rattle.compact.proofs.FitsLaws.{Again, slot_again, live_is, fits_next, promise_kept}
use Rattle.compact.specs.Claim.{site_or, own_of, in_slot, goes_on, SlotList, before_cut, at_end, SlotClaim, SlotArrival}
use Rattle.compact.specs.Claim.{SlotOrders}

-- ### Another slot's call

settle_other : (i j : ℕ) (r : Reply) (p : ℕ) (m : Module) → (j ≡ i → ⊥) → slot_at i (settle_in j r p m) ≡ slot_at i m
settle_other i j (refused r) p m out = refl
settle_other i j (ok after answer) p m out = at_other i j _ m out

pub next-other : (i : ℕ) (x : Move) (m : Module) → (slot_of x ≡ i → ⊥) → slot_at i (next_of x m) ≡ slot_at i m
unfolding next_of
next-other i x m out = settle_other i (slot_of x) (reply_of x m) _ m out

-- ### The module plays by the rules

abbrev pub Opened : ℕ → Module → Type 0
Opened i m = (st : State) × ((slot_at i m).site ≡ some st)

-- What a move does to slot i's site.
abbrev Does : ℕ → Option Call → Move → Module → Type 0
Does i o x m = Plays (in_slot i) o x m × Opened i (next_of x m)

does_other : (i : ℕ) (x : Move) (m : Module) → (slot_of x ≡ i → ⊥) → Opened i m → Does i none x m
does_other i x m out (st, at) =
    let e = ap (λ (s : Slot). s.site) (next-other i x m out) in (ap site_or e, (st, e ∙ at))

-- A slot as a reply leaves it.
settle-own : (i : ℕ) (r : Reply) (p : ℕ) (m : Module) (st : State) → (slot_at i m).site ≡ some st →
    (slot_at i (settle_in i r p m)).site ≡ some (settle r st)
unfolding settle
settle-own i (refused r) p m st at = at
settle-own i (ok after answer) p m st at = ap (λ (s : Slot). s.site) (at_with i _ m (opened-below i m st at))

next-own : (i : ℕ) (c : Call) (m : Module) (st : State) → (slot_at i m).site ≡ some st →
    (slot_at i (next_of (At i c) m)).site ≡ some (settle (reply_of (At i c) m) st)
unfolding next_of
next-own i c m st at = settle-own i (reply_of (At i c) m) _ m st at

does_own : (i : ℕ) (c : Call) (m : Module) → Opened i m → Does i (some c) (At i c) m
unfolding reply_of
does_own i c m (st, at) = (
  (
    ap site_or (next-own i c m st at) ∙ ap (λ (s : State). settle (reply_of (At i c) m) s) (sym (ap site_or at)),
    go (step-ten (meets_ten i c st m) c st),
  ),
  (settle (reply_of (At i c) m) st, next-own i c m st at),
)
  where
    is : reply_of (At i c) m ≡ step_when (meets_ten i c st m) c st
    is = ap (λ (o : Option State). call_at o i c m) at

    go : (step_when (meets_ten i c st m) c st ≡ refused TableFull) ⊎ (step_when (meets_ten i c st m) c st ≡ step c st) →
        (reply_of (At i c) m ≡ refused TableFull) ⊎ (reply_of (At i c) m ≡ step c (site_or (slot_at i m).site))
    go (inl e) = inl (is ∙ e)
    go (inr e) = inr (is ∙ e ∙ ap (λ (o : Option State). step c (site_or o)) (sym at))

-- An opened slot is not opened again.
open_refused : (i n room : ℕ) (m : Module) → Opened i m → next_of (Open i n room) m ≡ m
unfolding next_of reply_of
open_refused i n room m (st, at) = go (reply_of (Open i n room) m) refl
  where
    go : (r : Reply) → reply_of (Open i n room) m ≡ r → settle_in i r (promise_of (Open i n room) (slot_at i m)) m ≡ m
    go (refused r) e = refl
    go (ok after answer) e =
        absurd (false_T (opened_in (slot_at i m).site)
        (or_false_right (ltb 3 i) (opened_in (slot_at i m).site) (unless-check _ OutOfTurn _ after answer e).0)
        (true_T (opened_in (slot_at i m).site) (ap opened_in at)))

pub not_eq : (i j : ℕ) → eqb j i ≡ false → j ≡ i → ⊥
not_eq i j e p = false_T (eqb j i) e (subst (λ (k : ℕ). T (eqb j k)) p (eqb_refl j))

does : (i : ℕ) (x : Move) (m : Module) → Opened i m → T (goes_on i x) → Does i (own_of i x) x m
does i (At j c) m o t = go (eqb j i) refl
  where
    go : (b : Bool) → eqb j i ≡ b → Does i (cond b (some c) none) (At j c) m
    go true e = subst (λ (k : ℕ). Does i (some c) (At k c) m) (sym (eqb→eq j i (true_T (eqb j i) e))) (does_own i c m o)
    go false e = does_other i (At j c) m (not_eq i j e) o
does i (Open j n room) m o t = go (eqb j i) refl
  where
    same : next_of (Open i n room) m ≡ m → Does i none (Open i n room) m
    same e = (ap (λ (w : Module). site_or (slot_at i w).site) e, (o.0, ap (λ (w : Module). (slot_at i w).site) e ∙ o.1))

    go : (b : Bool) → eqb j i ≡ b → Does i none (Open j n room) m
    go true e = subst (λ (k : ℕ). Does i none (Open k n room) m) (sym (eqb→eq j i (true_T (eqb j i) e))) (same (open_refused i n room m o))
    go false e = does_other i (Open j n room) m (not_eq i j e) o
does i (Restart j buffer k) m o t =
    does_other i (Restart j buffer k) m (λ p. T_not (eqb j i) t (subst (λ (n : ℕ). T (eqb j n)) p (eqb_refl j))) o

pub plays_all : (i : ℕ) (xs : List Move) (m : Module) → Opened i m → T (all (goes_on i) xs) → Playing (in_slot i) xs m
plays_all i [] m o t = tt
plays_all i (x ∷ xs) m o t =
    let d = does i x m o (and_left (goes_on i x) (all (goes_on i) xs) t) in
    (d.0, plays_all i xs (next_of x m) d.1 (and_right (goes_on i x) (all (goes_on i) xs) t))

pub opened-all : (i : ℕ) (xs : List Move) (m : Module) → Opened i m → T (all (goes_on i) xs) → Opened i (run_in (in_slot i) xs m)
unfolding run_in
opened-all i [] m o t = o
opened-all i (x ∷ xs) m o t =
    opened-all i xs (next_of x m) (does i x m o (and_left (goes_on i x) (all (goes_on i) xs) t)).1
    (and_right (goes_on i x) (all (goes_on i) xs) t)

pub fits_all : (i : ℕ) (xs : List Move) (m : Module) → Fits m → Fits (run_in (in_slot i) xs m)
unfolding run_in
fits_all i [] m F = F
fits_all i (x ∷ xs) m F = fits_all i xs (next_of x m) (fits_next x m F)

-- ### The promise stays

-- Only an accepted end lowers what a slot is promised.
call_promise : (c : Call) (s : Slot) → (c ≡ End → ⊥) → Again s → s.promise ≤ promise_after c s
call_promise (Add n us) s out A = omega arith
call_promise (Finish n) s out A = omega arith
call_promise (Withdraw n) s out A = omega arith
call_promise (Persistent n) s out A = omega arith
call_promise (Stable n) s out A = omega arith
call_promise (Show h) s out A = omega arith
call_promise (Cut k room) s out A = A.more
call_promise (Changeover n room) s out A = A.more
call_promise (Redo line) s out A = omega arith
call_promise End s out A = absurd (out refl)

own_promise : (i : ℕ) (c : Call) (m : Module) → Fits m → Opened i m →
    ((after : State) (answer : Answer) → c ≡ End → reply_of (At i c) m ≡ ok after answer → ⊥) →
    (slot_at i m).promise ≤ (slot_at i (next_of (At i c) m)).promise
unfolding next_of promise_of
own_promise i c m F (st, at) out = go (reply_of (At i c) m) refl
  where
    go : (r : Reply) → reply_of (At i c) m ≡ r → (slot_at i m).promise ≤ (slot_at i (settle_in i r (promise_of (At i c) (slot_at i m)) m)).promise
    go (refused r) e = omega arith
    go (ok after answer) e =
        omega (
          arith,
          call_promise c (slot_at i m) (λ p. out after answer p e) (slot_again i m F st at),
          ap (λ (s : Slot). s.promise) (at_with i (record { site = some after; promise = promise_after c (slot_at i m) }) m
              (opened-below i m st at)),
        )

same_promise : (i : ℕ) (m w : Module) → slot_at i w ≡ slot_at i m → (slot_at i m).promise ≤ (slot_at i w).promise
same_promise i m w e = omega (arith, ap (λ (s : Slot). s.promise) e)

next_promise : (i : ℕ) (x : Move) (m : Module) → Fits m → Opened i m → T (goes_on i x) →
    ((after : State) (answer : Answer) → own_of i x ≡ some End → reply_of x m ≡ ok after answer → ⊥) → (slot_at i m).promise ≤ (slot_at i
    (next_of x m)).promise
next_promise i (At j c) m F o t out = go (eqb j i) refl (λ after answer p e. out after answer p e)
  where
    go : (b : Bool) → eqb j i ≡ b →
        ((after : State) (answer : Answer) → cond b (some c) none ≡ some End → reply_of (At j c) m ≡ ok after answer → ⊥) →
        (slot_at i m).promise ≤ (slot_at i (next_of (At j c) m)).promise
    go true e h =
        subst (λ (k : ℕ). ((after : State) (answer : Answer) → some c ≡ some End → reply_of (At k c) m ≡ ok after answer → ⊥) →
        (slot_at i m).promise ≤ (slot_at i (next_of (At k c) m)).promise)
        (sym (eqb→eq j i (true_T (eqb j i) e))) (λ g. own_promise i c m F o (λ after answer p q. g after answer (ap some p) q)) h
    go false e h = same_promise i m (next_of (At j c) m) (next-other i (At j c) m (not_eq i j e))
next_promise i (Open j n room) m F o t out = go (eqb j i) refl
  where
    go : (b : Bool) → eqb j i ≡ b → (slot_at i m).promise ≤ (slot_at i (next_of (Open j n room) m)).promise
    go true e =
        subst (λ (k : ℕ). (slot_at i m).promise ≤ (slot_at i (next_of (Open k n room) m)).promise) (sym (eqb→eq j i (true_T (eqb j i) e)))
        (same_promise i m (next_of (Open i n room) m) (ap (slot_at i) (open_refused i n room m o)))
    go false e = same_promise i m (next_of (Open j n room) m) (next-other i (Open j n room) m (not_eq i j e))
next_promise i (Restart j buffer k) m F o t out =
    same_promise i m (next_of (Restart j buffer k) m)
    (next-other i (Restart j buffer k) m (λ p. T_not (eqb j i) t (subst (λ (n : ℕ). T (eqb j n)) p (eqb_refl j))))

all_promise : (i : ℕ) (xs : List Move) (m : Module) → Fits m → Opened i m → T (all (goes_on i) xs) →
    ((a : List Move) (x : Move) (b : List Move) (after : State) (answer : Answer) → xs ≡ a ++ x ∷ b → own_of i x ≡ some End →
    reply_of x (run_in (in_slot i) a m) ≡ ok after answer → ⊥) → (slot_at i m).promise ≤ (slot_at i (run_in (in_slot i) xs m)).promise
unfolding run_in
all_promise i [] m F o t out = omega arith
all_promise i (x ∷ xs) m F o t out =
    let on = and_left (goes_on i x) (all (goes_on i) xs) t in
    omega (
      arith,
      next_promise i x m F o on (λ after answer p e. out [] x xs after answer refl p e),
      all_promise i xs (next_of x m) (fits_next x m F) (does i x m o on).1 (and_right (goes_on i x) (all (goes_on i) xs) t)
          (λ a y b after answer p q e. out (x ∷ a) y b after answer (ap {B = List Move} (λ l. x ∷ l) p) q e),
    )

-- ### Room for the lost lines

all_first : (f : Move → Bool) (a b : List Move) → T (all f (a ++ b)) → T (all f a)
all_first f [] b t = tt
all_first f (x ∷ a) b t =
    and_intro (f x) (all f a) (and_left (f x) (all f (a ++ b)) t) (all_first f a b (and_right (f x) (all f (a ++ b)) t))

all-last : (f : Move → Bool) (a b : List Move) → T (all f (a ++ b)) → T (all f b)
all-last f [] b t = t
all-last f (x ∷ a) b t = all-last f a b (and_right (f x) (all f (a ++ b)) t)

own_at : (i : ℕ) (x : Move) (c : Call) → own_of i x ≡ some c → x ≡ At i c
own_at i (At j d) c p = go (eqb j i) refl p
  where
    some_one : (a b : Call) → some a ≡ some b → a ≡ b
    some_one a b e = cc

    go : (b : Bool) → eqb j i ≡ b → cond b (some d) none ≡ some c → At j d ≡ At i c
    go true e q = ap₂ At (eqb→eq j i (true_T (eqb j i) e)) (some_one d c q)
    go false e q = absurd (let z : ◌≡◌ {A = ℕ} 0 1 = cc in omega arith)
own_at i (Open j n room) c p = absurd (let z : ◌≡◌ {A = ℕ} 0 1 = cc in omega arith)
own_at i (Restart j buffer k) c p = absurd (let z : ◌≡◌ {A = ℕ} 0 1 = cc in omega arith)

-- An accepted cut raises the promise to what was live.
cut_promise : (i : ℕ) (x : Move) (k room : ℕ) (m : Module) (after : State) (answer : Answer) → Fits m → (o : Opened i m) →
    x ≡ At i (Cut k room) →
    reply_of x m ≡ ok after answer → live o.0 ≤ (slot_at i (next_of x m)).promise
unfolding next_of promise_of
cut_promise i x k room m after answer F (st, at) p e =
    omega (arith, (slot_again i m F st at).as_live, live_is i m F st at, ap (λ (s : Slot). s.promise) is)
  where
    new : Slot
    new = record { site = some after; promise = promised_again (slot_at i m) }

    is : slot_at i (next_of x m) ≡ new
    is =
        ap (λ (y : Move). slot_at i (next_of y m)) p
        ∙ ap (λ (r : Reply). slot_at i (settle_in i r (promised_again (slot_at i m)) m)) (ap (λ (y : Move). reply_of y m) (sym p) ∙ e)
        ∙ at_with i new m (opened-below i m st at)

module _ (i : ℕ) (chosen : Did → Bool) (l : SlotList i chosen) where
  abbrev H : Host
  H = in_slot i

  first : Module
  first = run_in (in_slot i) l.xs l.start

  begin_open : Opened i l.start
  begin_open = (l.site, l.is_open)

  begins : Start l.counts (site_or (slot_at i l.start).site)
  begins = subst (Start l.counts) (sym (ap site_or l.is_open)) l.begins

  plays : Playing (in_slot i) (l.xs ++ l.x ∷ l.ys) l.start
  plays = plays_all i (l.xs ++ l.x ∷ l.ys) l.start begin_open l.on

  on_first : T (all (goes_on i) l.xs)
  on_first = all_first (goes_on i) l.xs (l.x ∷ l.ys) l.on

  on_last : T (goes_on i l.x && all (goes_on i) l.ys)
  on_last = all-last (goes_on i) l.xs (l.x ∷ l.ys) l.on

  first_fits : Fits first
  unfolding first
  first_fits = fits_all i l.xs l.start l.fits

  first_open : Opened i first
  unfolding first
  first_open = opened-all i l.xs l.start begin_open on_first

  next_open : Opened i (next_of l.x first)
  next_open = (does i l.x first first_open (and_left (goes_on i l.x) (all (goes_on i) l.ys) on_last)).1

  -- Just after the picked cut the slot is promised as many as it had live.
  promised_first : live (site_or (slot_at i first).site) ≤ (slot_at i (next_of l.x first)).promise
  unfolding first
  promised_first =
      omega (
        arith,
        ap (λ (o : Option State). live (site_or o)) first_open.1,
        cut_promise i l.x l.k l.room first l.after l.fair.answer first_fits first_open
            (own_at i l.x (Cut l.k l.room) l.fair.is_cut) l.fair.accepted,
      )

  world_is : (a : List Move) → run_in (in_slot i) (l.xs ++ l.x ∷ a) l.start ≡ run_in (in_slot i) a (next_of l.x first)
  unfolding first run_in
  world_is a = run-append (in_slot i) l.xs (l.x ∷ a) l.start

  -- and at every later moment
  promised_on : (a b : List Move) → l.ys ≡ a ++ b →
      live (site_or (slot_at i first).site) ≤ (slot_at i (run_in (in_slot i) a (next_of l.x first))).promise
  promised_on a b e =
      omega (
        arith,
        promised_first,
        all_promise i a (next_of l.x first) (fits_next l.x first first_fits) next_open
            (all_first (goes_on i) a b (subst (λ (z : List Move). T (all (goes_on i) z)) e
            (and_right (goes_on i l.x) (all (goes_on i) l.ys) on_last)))
            (λ p y q after answer s own r. l.asked.ends p y (q ++ b) after answer
            (e ∙ ap {B = List Move} (λ z. z ++ b) s ∙ append_assoc p (y ∷ q) b) own (ap (λ (w : Module). reply_of y w) (world_is p) ∙ r)),
      )

  -- No redo is refused 10 while fewer are live than were before the picked cut.
  roomy : Roomy (in_slot i) l.start (λ a. l.xs ++ l.x ∷ a) l.ys (before_cut l)
  unfolding first
  roomy a y b line e own lt ten =
      promise_kept i world fits is_open.0 is_open.1
      (omega (
        arith,
        promised_on a (y ∷ b) e,
        ap (λ (o : Option State). live (site_or o)) is_open.1,
        ap (λ (w : Module). live (site_or (slot_at i w).site)) (world_is a),
      ))
      (Redo line) refl
      (ap (λ (x : Move). reply_of x world) (sym (own_at i y (Redo line) own)) ∙ ap (λ (w : Module). reply_of y w) (sym (world_is a)) ∙ ten)
    where
      world : Module
      world = run_in (in_slot i) a (next_of l.x first)

      fits : Fits world
      fits = fits_all i a (next_of l.x first) (fits_next l.x first first_fits)

      is_open : Opened i world
      is_open =
          opened-all i a (next_of l.x first) next_open
          (all_first (goes_on i) a (y ∷ b) (subst (λ (z : List Move). T (all (goes_on i) z)) e
          (and_right (goes_on i l.x) (all (goes_on i) l.ys) on_last)))

  pub hosted : ListIn (in_slot i) chosen
  hosted =
      record {
        m = l.counts;
        start = l.start;
        begins = begins;
        xs = l.xs;
        x = l.x;
        k = l.k;
        room = l.room;
        ys = l.ys;
        after = l.after;
        plays = plays;
        fair = l.fair;
        asked = l.asked;
        roomy = roomy;
      }

-- ### The claims

pub slot_recovery : SlotClaim
unfolding hosted
slot_recovery i chosen l = host_recovery (in_slot i) chosen (hosted i chosen l)

pub slot_arrival : SlotArrival
unfolding hosted
slot_arrival i l = host_arrival (in_slot i) (hosted i every l)

pub slot_orders : SlotOrders
slot_orders i j l k same =
    all_three (before_cut l).log (before_cut k).log (at_end l).log (at_end k).log same (slot_arrival i l) (slot_arrival j k)

-- After the picked cut a chosen line that neither waits nor has run is never refused 10, whatever the neighbours do.
pub slot_never_ten : (i : ℕ) (chosen : Did → Bool) (l : SlotList i chosen) (a : List Move) (b : List Move) (d : Did) →
    l.ys ≡ a ++ At i (Redo (did_text d)) ∷ b →
    Mem d (lost_by (before_cut l) l.after) → (Mem d (site_or (slot_at i (run_in (in_slot i) (l.xs ++ l.x ∷ a) l.start)).site).log → ⊥) →
    (Mem d (site_or (slot_at i (run_in (in_slot i) (l.xs ++ l.x ∷ a) l.start)).site).waiting → ⊥) →
    reply_of (At i (Redo (did_text d))) (run_in (in_slot i) (l.xs ++ l.x ∷ a) l.start) ≡ refused TableFull → ⊥
unfolding hosted
slot_never_ten i chosen l a b d e lost out-log out-wait ten =
    never_ten (in_slot i) chosen (hosted i chosen l) a (At i (Redo (did_text d))) b d e
    (ap (λ (t : Bool). cond t (some (Redo (did_text d))) none) (T_true (eqb i i) (eqb_refl i))) lost out-log out-wait ten
