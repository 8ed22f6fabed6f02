-- Operations that are future or in progress: those in progress may run, and none is in another's way.
use Rattle.std.specs.Prelude.{◌≡◌, refl, ◌⊎◌, Bool, true, false, not, ◌&&◌, ◌||◌, T, eqb, length}
use Rattle.std.proofs.Math.Path.{sym}
use Rattle.std.proofs.Common.{ap, ◌∙◌, subst, inl, inr, T_not, eqb→eq}
use mathlib.Core.List.Memᴰ
use mathlib.Core.List.{List, [], ◌∷◌, ◌++◌, map, map-append, append_assoc, append-nil}
use mathlib.Core.List.Memᴰ.{head as here}
use mathlib.Core.List.{Memᴰ as Mem}
use Prim.Native.Nat.{ℕ}
use Rattle.std.proofs.Math.Dec.{eqb_refl}
use Rattle.std.proofs.lemmas.List.{length-map}
use Rattle.forms.specs.Lists.{all}
use Rattle.forms.specs.ListLaws.{Nodup, nodup_mid, mem_split, mem-at, mem_snoc, mem_along, mem_mid, mem_widen}
use Rattle.forms.specs.ListLaws.{false_T, and_intro, and_left, and_right, or_cases, all-at, all_of, any_at, any_of}
use Rattle.forms.specs.Forms.{Base, Update, Did}
use Rattle.rules.specs.Rules.{strong}
use Rattle.rules.specs.State.{Operation}
use Rattle.rules.specs.Calls.{blocked_by, blocked, may_run_now, ready, attempt, try_from, try_all, holds_never}
use Rattle.rule_laws.specs.Good.{FormedOperation, operation_ids}

-- Each update of the operation may run after the log.
abbrev pub MayRun : (σ : Base) → List Did → Operation → Type 0
MayRun σ log x = T (all (may_run_now σ log) x.updates)

-- No update of one operation is in the way of one of the other.
abbrev pub Apart : Operation → Operation → Type 0
Apart x y =
    (u w : Update) → Mem u x.updates → Mem w y.updates → u.history ≡ w.history → T (strong u.rule || strong w.rule) → ⊥

-- What holds of the operations with these ids that are not done.
pub record Pending (σ : Base) (n : ℕ) (ids : List ℕ) (log : List Did) (xs : List Operation) : Type 0 where
  pub ids_are : operation_ids xs ≡ ids
  pub formed : (x : Operation) → Mem x xs → FormedOperation n x
  pub may : (x : Operation) → Mem x xs → T x.running → MayRun σ log x
  pub no_never : (x : Operation) → Mem x xs → T (holds_never σ log x) → ⊥
  pub apart : (x y : Operation) → Mem x xs → Mem y xs → (x.id ≡ y.id → ⊥) → T x.running → T y.running → Apart x y

or_swap : (a b : Bool) → T (a || b) → T (b || a)
or_swap true true t = tt
or_swap true false t = tt
or_swap false true t = tt
or_swap false false t = t

apart_swap : (x y : Operation) → Apart x y → Apart y x
apart_swap x y h u w m k e t = h w u k m (sym e) (or_swap (strong u.rule) (strong w.rule) t)

-- ### Blocked and ready

pub blocked_of : (others : List Operation) (y : Operation) (u w : Update) → Mem y others → T y.running → Mem w y.updates →
    w.history ≡ u.history → T (strong u.rule || strong w.rule) → T (blocked others u)
unfolding blocked blocked_by
blocked_of others y u w k r q e s =
    any_of (blocked_by u) k
    (and_intro y.running _ r
    (any_of (λ (v : Update). eqb v.history u.history && (strong u.rule || strong v.rule)) q
    (and_intro (eqb w.history u.history) (strong u.rule || strong w.rule) (rw e (eqb_refl u.history)) s)))

-- An operation in progress among the others, and its update that is in the way of u.
pub record Blocker (others : List Operation) (u : Update) : Type 0 where
  pub operation : Operation
  pub update : Update
  pub among : Mem operation others
  pub in_progress : T operation.running
  pub has : Mem update operation.updates
  pub here : update.history ≡ u.history
  pub strong : T (strong u.rule || strong update.rule)

pub blocked-at : (others : List Operation) (u : Update) → T (blocked others u) → Blocker others u
unfolding blocked blocked_by
blocked-at others u t =
    let p = any_at (blocked_by u) others t in
    let y = p.0 in
    let q = any_at (λ (v : Update). eqb v.history u.history && (strong u.rule || strong v.rule)) y.updates
    (and_right y.running _ p.2) in
    let w = q.0 in
    record {
      operation = y;
      update = w;
      among = p.1;
      in_progress = and_left y.running _ p.2;
      has = q.1;
      here = eqb→eq w.history u.history (and_left (eqb w.history u.history) (strong u.rule || strong w.rule) q.2);
      strong = and_right (eqb w.history u.history) (strong u.rule || strong w.rule) q.2;
    }

ready_at_lem : (σ : Base) → (log : List Did) (others : List Operation) (x : Operation) → T (ready σ log others x) → (u : Update) →
    Mem u x.updates →
    T (may_run_now σ log u) × T (not (blocked others u))
unfolding ready
ready_at_lem σ log others x t u m =
    let s = all-at (λ w. may_run_now σ log w && not (blocked others w)) x.updates t u m in
    (and_left (may_run_now σ log u) (not (blocked others u)) s, and_right (may_run_now σ log u) (not (blocked others u)) s)

pub ready_may : (σ : Base) → (log : List Did) (others : List Operation) (x : Operation) → T (ready σ log others x) → MayRun σ log x
ready_may σ log others x t = all_of (may_run_now σ log) x.updates (λ u m. (ready_at_lem σ log others x t u m).0)

ready_apart : (σ : Base) → (log : List Did) (others : List Operation) (x : Operation) → T (ready σ log others x) → (y : Operation) →
    Mem y others → T y.running → Apart x y
ready_apart σ log others x t y k r u w m q e s =
    T_not (blocked others u) (ready_at_lem σ log others x t u m).1 (blocked_of others y u w k r q (sym e) s)

-- ### The tries

-- Whatever one try keeps, the tries keep.
module _
    (σ : Base)
    (P : List Operation → Type 0)
    (log : List Did)
    (one : (a : List Operation) (x : Operation) (b : List Operation) → P (a ++ x ∷ b) → P (a ++ (attempt σ) log (a ++ b) x ∷ b)) where
  pub try_keeps : (xs tried : List Operation) → P (tried ++ xs) → P (try_from σ log tried xs)
  unfolding try_from
  try_keeps [] tried h = rw append-nil at h
  try_keeps (x ∷ xs) tried h = try_keeps xs (tried ++ (attempt σ) log (tried ++ xs) x ∷ []) (rw append_assoc (one tried x xs h))

-- The tries change nothing but `running`.
pub try_same : (σ : Base) → {B : Type 0} (f : Operation → B) (log : List Did) →
    ((others : List Operation) (x : Operation) → f (attempt σ log others x) ≡ f x) →
    (xs : List Operation) → map f (try_all σ log xs) ≡ map f xs
try_same σ {B} f log same xs = try_keeps σ (λ ys. map f ys ≡ map f xs) log (λ a x b e. map_mid a x b ∙ e) xs [] refl
  where
    map_mid : (a : List Operation) (x : Operation) (b : List Operation) → map f (a ++ (attempt σ) log (a ++ b) x ∷ b) ≡ map f (a ++ x ∷ b)
    map_mid a x b =
        map-append f a (attempt σ log (a ++ b) x ∷ b)
        ∙ ap (λ (z : B). map f a ++ z ∷ map f b) (same (a ++ b) x)
        ∙ sym (map-append f a (x ∷ b))

pub try_ids : (σ : Base) → (log : List Did) (xs : List Operation) → operation_ids (try_all σ log xs) ≡ operation_ids xs
unfolding attempt
try_ids σ log xs = try_same σ (λ (x : Operation). x.id) log (λ others x. refl) xs

pub try_length : (σ : Base) → (log : List Did) (xs : List Operation) → length (try_all σ log xs) ≡ length xs
try_length σ log xs =
    sym (length-map (try_all σ log xs) (λ (x : Operation). x.id)) ∙ ap length (try_ids σ log xs) ∙ length-map xs (λ (x : Operation). x.id)

module _ (σ : Base) (n : ℕ) (ids : List ℕ) (log : List Did) where
  pending_one : (a : List Operation) (x : Operation) (b : List Operation) → Pending σ n ids log (a ++ x ∷ b) →
      Pending σ n ids log (a ++ (attempt σ) log (a ++ b) x ∷ b)
  unfolding attempt holds_never
  pending_one a x b G =
      record {
        ids_are = map-append id a (x' ∷ b) ∙ sym (map-append id a (x ∷ b)) ∙ G.ids_are;
        formed = λ y m. formed_one y (mem_mid a b m);
        may = λ y m r. may_one y (mem_mid a b m) r;
        no_never = λ y m t. never_one y (mem_mid a b m) t;
        apart = λ y z m k ne r s. apart_one y z (mem_mid a b m) (mem_mid a b k) ne r s;
      }
    where
      id : Operation → ℕ
      id y = y.id

      x' : Operation
      x' = attempt σ log (a ++ b) x

      at : Mem x (a ++ x ∷ b)
      at = mem-at x a b

      formed_new : FormedOperation n x → FormedOperation n x'
      formed_new F = record { passes = F.passes; orders = F.orders; id = F.id; writable = F.writable }

      formed_one : (y : Operation) → (y ≡ x') ⊎ Mem y (a ++ b) → FormedOperation n y
      formed_one y (inl e) = subst (FormedOperation n) (sym e) (formed_new (G.formed x at))
      formed_one y (inr m) = G.formed y (mem_widen x a b m)

      may_new : T x.running ⊎ T (ready σ log (a ++ b) x) → MayRun σ log x'
      may_new (inl r) = G.may x at r
      may_new (inr r) = ready_may σ log (a ++ b) x r

      started : (y : Operation) → y ≡ x' → T y.running → T x.running ⊎ T (ready σ log (a ++ b) x)
      started y e r = or_cases x.running (ready σ log (a ++ b) x) (subst (λ (z : Operation). T z.running) e r)

      may_one : (y : Operation) → (y ≡ x') ⊎ Mem y (a ++ b) → T y.running → MayRun σ log y
      may_one y (inl e) r = subst (MayRun σ log) (sym e) (may_new (started y e r))
      may_one y (inr m) r = G.may y (mem_widen x a b m) r

      never_one : (y : Operation) → (y ≡ x') ⊎ Mem y (a ++ b) → T (holds_never σ log y) → ⊥
      never_one y (inl e) t = G.no_never x at (subst (λ (z : Operation). T (holds_never σ log z)) e t)
      never_one y (inr m) t = G.no_never y (mem_widen x a b m) t

      apart_new : (z : Operation) → Mem z (a ++ b) → (x.id ≡ z.id → ⊥) → T z.running → T x.running ⊎ T (ready σ log (a ++ b) x) →
          Apart x' z
      apart_new z k ne s (inl r) = G.apart x z at (mem_widen x a b k) ne r s
      apart_new z k ne s (inr r) = ready_apart σ log (a ++ b) x r z k s

      apart_one : (y z : Operation) → (y ≡ x') ⊎ Mem y (a ++ b) → (z ≡ x') ⊎ Mem z (a ++ b) → (y.id ≡ z.id → ⊥) → T y.running →
          T z.running → Apart y z
      apart_one y z (inl e) (inl f) ne r s = absurd (ne (ap id (e ∙ sym f)))
      apart_one y z (inl e) (inr k) ne r s =
          subst (λ (w : Operation). Apart w z) (sym e) (apart_new z k (λ q. ne (ap id e ∙ q)) s (started y e r))
      apart_one y z (inr m) (inl f) ne r s =
          apart_swap z y (subst (λ (w : Operation). Apart w y) (sym f) (apart_new y m (λ q. ne (sym q ∙ sym (ap id f))) r (started z f s)))
      apart_one y z (inr m) (inr k) ne r s = G.apart y z (mem_widen x a b m) (mem_widen x a b k) ne r s

  -- "the future operations are tried once": those in progress after it may run and are not in each other's way.
  pub pending_try : (xs : List Operation) → Pending σ n ids log xs → Pending σ n ids log (try_all σ log xs)
  pending_try xs G = try_keeps σ (Pending σ n ids log) log pending_one xs [] G

-- A part of the operations, after another log after which those in progress still may run.
pub pending_part : (σ : Base) → (n : ℕ) (ids : List ℕ) (log : List Did) (xs ys : List Operation) (log' : List Did) →
    Pending σ n ids log xs →
    ((y : Operation) → Mem y ys → Mem y xs) → ((y : Operation) → Mem y ys → T y.running → MayRun σ log' y) →
    ((y : Operation) → Mem y ys → T (holds_never σ log' y) → ⊥) → Pending σ n (operation_ids ys) log' ys
pending_part σ n ids log xs ys log' G into may' never' =
    record {
      ids_are = refl;
      formed = λ y m. G.formed y (into y m);
      may = may';
      no_never = never';
      apart = λ y z m k ne r s. G.apart y z (into y m) (into z k) ne r s;
    }

-- One more future operation.
pub pending_more : (σ : Base) → (n : ℕ) (ids : List ℕ) (log : List Did) (xs : List Operation) (x : Operation) → Pending σ n ids log xs →
    FormedOperation n x →
    x.running ≡ false → (T (holds_never σ log x) → ⊥) → Pending σ n (ids ++ x.id ∷ []) log (xs ++ x ∷ [])
pending_more σ n ids log xs x G F idle never =
    record {
      ids_are = map-append (λ (z : Operation). z.id) xs (x ∷ []) ∙ ap {B = List ℕ} (λ l. l ++ x.id ∷ []) G.ids_are;
      formed = λ y m. formed_one y (mem_snoc xs m);
      may = λ y m r. may_one y (mem_snoc xs m) r;
      no_never = λ y m t. never_one y (mem_snoc xs m) t;
      apart = λ y z m k ne r s. apart_one y z (mem_snoc xs m) (mem_snoc xs k) ne r s;
    }
  where
    formed_one : (y : Operation) → (y ≡ x) ⊎ Mem y xs → FormedOperation n y
    formed_one y (inl e) = subst (FormedOperation n) (sym e) F
    formed_one y (inr m) = G.formed y m

    stopped : (y : Operation) → y ≡ x → T y.running → ⊥
    stopped y e r = false_T x.running idle (subst (λ (z : Operation). T z.running) e r)

    may_one : (y : Operation) → (y ≡ x) ⊎ Mem y xs → T y.running → MayRun σ log y
    may_one y (inl e) r = absurd (stopped y e r)
    may_one y (inr m) r = G.may y m r

    never_one : (y : Operation) → (y ≡ x) ⊎ Mem y xs → T (holds_never σ log y) → ⊥
    never_one y (inl e) t = never (subst (λ (z : Operation). T (holds_never σ log z)) e t)
    never_one y (inr m) t = G.no_never y m t

    apart_one : (y z : Operation) → (y ≡ x) ⊎ Mem y xs → (z ≡ x) ⊎ Mem z xs → (y.id ≡ z.id → ⊥) → T y.running → T z.running →
        Apart y z
    apart_one y z (inl e) k ne r s = absurd (stopped y e r)
    apart_one y z (inr m) (inl e) ne r s = absurd (stopped z e s)
    apart_one y z (inr m) (inr k) ne r s = G.apart y z m k ne r s

-- No operation in progress is blocked by another.
abbrev pub Unblocked : List Operation → Type 0
Unblocked xs =
    (a : List Operation) (x : Operation) (b : List Operation) → xs ≡ a ++ x ∷ b → T x.running →
    (u : Update) → Mem u x.updates → T (blocked (a ++ b) u) → ⊥

-- With distinct ids, "not in each other's way" is "not blocked by another in progress".
pub apart_unblocked : (σ : Base) → (n : ℕ) (ids : List ℕ) (log : List Did) (xs : List Operation) → Pending σ n ids log xs → Nodup ids →
    Unblocked xs
apart_unblocked σ n ids log xs G once a x b e r u m t =
    let B = blocked-at (a ++ b) u t in
    G.apart x B.operation (mem_along (sym e) (mem-at x a b)) (mem_along (sym e) (mem_widen x a b B.among))
    (other B.operation B.among) r
    B.in_progress u B.update m B.has (sym B.here) B.strong
  where
    id : Operation → ℕ
    id y = y.id

    other : (y : Operation) → Mem y (a ++ b) → x.id ≡ y.id → ⊥
    other y k p =
        (nodup_mid (map id a) x.id (map id b) (rw (ap (map id) e ∙ map-append id a (x ∷ b)) at (rw (sym G.ids_are) at once))).0
        (Memᴰ.cast p (rw (map-append id a b) at (Memᴰ.map id k)))

pub unblocked_apart : (xs : List Operation) → Unblocked xs →
    (x y : Operation) → Mem x xs → Mem y xs → (x.id ≡ y.id → ⊥) → T x.running → T y.running → Apart x y
unblocked_apart xs free x y m k ne r s u w p q e t = go (mem_split m)
  where
    go : (a : List Operation) × (b : List Operation) × (xs ≡ a ++ x ∷ b) → ⊥
    go (a, b, i) = cases (mem_mid a b (mem_along i k))
      where
        cases : (y ≡ x) ⊎ Mem y (a ++ b) → ⊥
        cases (inl z) = ne (ap (λ (v : Operation). v.id) (sym z))
        cases (inr z) = free a x b i r u p (blocked_of (a ++ b) y u w z s q (sym e) t)
