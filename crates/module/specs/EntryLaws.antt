-- Add, redo, cut and restart of a slot: from the contract of the site's call, with the numbers that were lent to it, to that of the slot's.
use Rattle.std.specs.Prelude.{ℕ, ◌+◌, ◌*◌, ◌≤◌, ◌<◌, min, ◌≡◌, Bool, true, length, take, drop}
use Rattle.std.proofs.Common.{arith, sym, subst, ◌∙◌, lt-ltb}
use Rattle.std.proofs.Math.Path.{refl, ap}
use mathlib.Core.List.{List, [], ◌++◌}
use Rattle.forms.specs.Limits.{live_limit}
use Rattle.forms.specs.Forms.{Update}
use Rattle.std.proofs.Math.Option.{none}
use Rattle.forms.specs.declared.Refusal.TheVariants.{OutOfTurn}
use Rattle.rules.specs.Checks.{check}
use Rattle.rules.specs.State.{refused}
use Rattle.rules.specs.Calls.{Call, unless, restart}
use Rattle.rules.specs.When.{lastly}
use Rattle.rules.specs.Within.{kept_live, step_within, restart_within}
use Rattle.compact.specs.Module.{Slot as SlotState, slot_at, uncovered, At, Restart, reply_of, promise_of}
use Rattle.table.specs.Tables.{Owns}
use Rattle.site.specs.declared.CallResult.{CallResult}
use Rattle.site.specs.OpenLaws.{blank_site}
use Rattle.site.specs.TableLaws.{empty_table}
use Rattle.site.specs.Model.{Lent, lent, view, Valid, Does, StepsWithin}
use Rattle.module.specs.declared.Slot.{Slot}
use Rattle.module.specs.declared.Module.{Module}
use Rattle.module.specs.declared.ModuleResult.{ModuleResult}
use Rattle.module.specs.declared.Loan.{Loan}
use Rattle.module.specs.Parts.{part_room, part_of}
use Rattle.module.specs.PartLaws.{part_long, part-within}
use Rattle.module.specs.Model.{slot_in, live_in, held_in, Memory, view_at, view_in, ValidModule, ValidWith, view_of, around, Moves}
use Rattle.module.specs.Model.{MovesAnew}
use Rattle.module.specs.Gather.{MayGather}
use Rattle.module.specs.ViewLaws.{slot_at_lem}
use Rattle.module.specs.RoomLaws.{room_in, may_use}
use Rattle.module.specs.Calls.{Claims, Lends, Settles}
use Rattle.module.specs.CallLaws.{put_same, usables, li, valid_lent}
use Rattle.module.specs.LoanLaws.{claims_of, may_gather, live_may, owns_free, again_in, again_is, reply_add, reply_redo, reply_cut}
use Rattle.module.specs.LoanLaws.{reply_restart, serves_loan}

-- ### What a call's `requires` gives

module _ (m : Module) (i : ℕ) (w : Lent) (vw : ValidWith m i w) (lt : i < 4) where
  pub with_claims : Claims m.slots i
  with_claims = claims_of m.slots (around i w vw.0 vw.1) vw.2 i lt

  pub with_gather : (n : ℕ) → n ≤ may_use m.slots i → MayGather m.slots w.order i n
  with_gather n le = may_gather m.slots (around i w vw.0 vw.1) vw.2 i lt n le

  -- a slot may use its live operations' entries
  pub with_may : live_in m.slots i ≤ may_use m.slots i
  with_may = live_may m.slots (around i w vw.0 vw.1) vw.2 i lt

  module _ (n : ℕ) (loan : Loan) (ns : List ℕ) (L : Lends m.slots w.order i n loan ns) (k : ℕ) (ek : k ≡ n) where
    -- the site is valid with the numbers that it was lent
    pub with_loan : (slot_in m.slots i).opened ≡ true → live_in m.slots i ≤ n → (ls : List ℕ) →
        Valid (slot_in m.slots i).site (lent w.log w.rows (part_of i k ns) w.book ls)
    with_loan on few ls =
        valid_lent m i w vw.0 vw.1 vw.2 on loan.slots ns L.gathered.into k (omega (arith, few, ek))
        (omega (arith, L.gathered.reached, ek)) ls

    -- .. or they are all free, once its own are given back
    pub with_free : Owns empty_table (part_of i k ns) w.rows
    with_free =
        owns_free (part_of i k ns) w.rows
        (usables (held_in loan.slots) ns L.gathered.into.gathers.shared w.rows vw.2.rows i k lt
        (omega (arith, L.gathered.reached, ek))
        empty_table (omega arith))

-- ### The calls

promise_same : (m : Module) (i : ℕ) (old : Lent) (logs books : ℕ → List ℕ) → i < 4 →
    (slot_in m.slots i).promise ≡ (slot_at i (view_of m (around i old logs books))).promise
promise_same m i old logs books lt =
    sym (ap (λ (s : SlotState). s.promise) (slot_at_lem (view_at m.slots (around i old logs books)) i lt))

module _ (m : Module) (i : ℕ) (old : Lent) (on : (slot_in m.slots i).opened ≡ true) (n : ℕ) (loan : Loan) (ns : List ℕ)
    (L : Lends m.slots old.order i n loan ns) (k : ℕ) (ek : k ≡ n) (r : CallResult) (log rows o book lists : List ℕ)
    (same : length o ≡ length (part_of i k ns)) (result : ModuleResult) (final : List ℕ) where
  abbrev here : Lent
  here = lent old.log old.rows (part_of i k ns) old.book old.lists

  abbrev there : Lent
  there = lent log rows o book lists

  abbrev numbers : List ℕ
  numbers = take (part_room * i) ns ++ (o ++ drop k (drop (part_room * i) ns))

  lends : Lends m.slots old.order i k loan ns
  lends = subst (λ (z : ℕ). Lends m.slots old.order i z loan ns) (sym ek) L

  module _ (en : n ≡ min (live_in m.slots i + 1) (may_use m.slots i)) (logs books : ℕ → List ℕ)
      (v : ValidModule m (around i old logs books)) where
    lt : i < 4
    lt = li m i old logs books v on

    few : live_in m.slots i ≤ k
    few = omega (arith, en, ek, live_may m.slots (around i old logs books) v i lt)

    enough : k ≤ held_in loan.slots i
    enough = omega (arith, L.gathered.reached, ek)

    add_is : (id : ℕ) (us : List Update) →
        (reply_of (At i (Call.Add id us)) (view_of m (around i old logs books)) ≡ step_within (length here.order) (Call.Add id us)
        (view (slot_in m.slots i).site here))
        × ((slot_in m.slots i).promise ≡ promise_of (At i (Call.Add id us)) (slot_at i (view_of m (around i old logs books))))
    unfolding promise_of
    add_is id us = (
      reply_add m i old logs books v on loan.slots ns L.gathered.into k few enough id us
          (omega (arith, en, ek)),
      promise_same m i old logs books lt,
    )

    redo_is : (line : List ℕ) →
        (reply_of (At i (Call.Redo line)) (view_of m (around i old logs books)) ≡ step_within (length here.order) (Call.Redo line)
        (view (slot_in m.slots i).site here))
        × ((slot_in m.slots i).promise ≡ promise_of (At i (Call.Redo line)) (slot_at i (view_of m (around i old logs books))))
    unfolding promise_of
    redo_is line = (
      reply_redo m i old logs books v on loan.slots ns L.gathered.into k few enough line
          (omega (arith, en, ek)),
      promise_same m i old logs books lt,
    )

  pub serves_redo : i < 4 → n ≡ min (live_in m.slots i + 1) (may_use m.slots i) → (line : List ℕ) →
      StepsWithin (slot_in m.slots i).site here (Call.Redo line) r there →
      Settles m i loan r (slot_in m.slots i).promise numbers result final → Moves m (At i (Call.Redo line)) old result
      (lent log rows final book lists)
  serves_redo lt en line D S =
      λ logs books v. let is = redo_is en logs books v line in
      serves_loan m (At i (Call.Redo line)) old lt k loan ns lends old.log old.book
      (slot_in m.slots i).site r log rows o book lists same
      (step_within (length here.order) (Call.Redo line) (view (slot_in m.slots i).site here)) D
      (slot_in m.slots i).promise result final S
      logs books v is.0 is.1

  pub serves_add : i < 4 → n ≡ min (live_in m.slots i + 1) (may_use m.slots i) → (id : ℕ) (us : List Update) → o ≡ part_of i k ns →
      StepsWithin (slot_in m.slots i).site here (Call.Add id us) r there →
      Settles m i loan r (slot_in m.slots i).promise ns result final → Moves m (At i (Call.Add id us)) old result
      (lent log rows final book lists)
  serves_add lt en id us eo D S =
      λ logs books v. let is = add_is en logs books v id us in
      serves_loan m (At i (Call.Add id us)) old lt k loan ns lends old.log old.book
      (slot_in m.slots i).site r log rows o book lists same
      (step_within (length here.order) (Call.Add id us) (view (slot_in m.slots i).site here)) D
      (slot_in m.slots i).promise result final
      (subst (λ (z : List ℕ). Settles m i loan r (slot_in m.slots i).promise z result final) (sym (put_same i k ns o eo)) S)
      logs books v is.0 is.1

  pub serves_cut : i < 4 → n ≡ may_use m.slots i → (kept room : ℕ) → o ≡ part_of i k ns →
      StepsWithin (slot_in m.slots i).site here (Call.Cut kept room) r there →
      Settles m i loan r (again_in (slot_in m.slots i)) ns result final → Moves m (At i (Call.Cut kept room)) old result
      (lent log rows final book lists)
  unfolding promise_of
  serves_cut lt en kept room eo D S =
      λ logs books v.
      serves_loan m (At i (Call.Cut kept room)) old lt k loan ns lends old.log old.book
      (slot_in m.slots i).site r log rows o book lists same
      (step_within (length here.order) (Call.Cut kept room) (view (slot_in m.slots i).site here)) D
      (again_in (slot_in m.slots i)) result final
      (subst (λ (z : List ℕ). Settles m i loan r (again_in (slot_in m.slots i)) z result final) (sym (put_same i k ns o eo)) S)
      logs books v
      (reply_cut m i old logs books v on loan.slots ns L.gathered.into k
      (omega (arith, en, ek, live_may m.slots (around i old logs books) v i lt)) (omega (arith, L.gathered.reached, ek)) kept room
      (omega (arith, en, ek)))
      (again_is m.slots (around i old logs books) v i lt)

module _ (m : Module) (i : ℕ) (came : Lent) (n : ℕ) (loan : Loan) (ns : List ℕ)
    (L : Lends m.slots came.order i n loan ns) (k : ℕ) (ek : k ≡ n) (r : CallResult) (log rows book : List ℕ)
    (result : ModuleResult) (final : List ℕ) where
  pub serves_restart : i < 4 → n ≡ may_use m.slots i → (kept : ℕ) →
      Does blank_site (lent came.log came.rows (part_of i k ns) came.book came.lists)
      (restart_within (length (part_of i k ns)) came.log kept) r
      (lent log rows (part_of i k ns) book came.lists) →
      Settles m i loan r (again_in (slot_in m.slots i)) ns result final →
      MovesAnew m (Restart i came.log kept) came result (lent log rows final book came.lists)
  unfolding promise_of
  serves_restart lt en kept D S log₀ book₀ logs books v =
      serves_loan m (Restart i came.log kept) (lent log₀ came.rows came.order book₀ came.lists) lt k loan ns
      (subst (λ (z : ℕ). Lends m.slots came.order i z loan ns) (sym ek) L) came.log came.book blank_site r log rows
      (part_of i k ns) book
      came.lists refl
      (restart_within (length (part_of i k ns)) came.log kept) D (again_in (slot_in m.slots i)) result final
      (subst (λ (z : List ℕ). Settles m i loan r (again_in (slot_in m.slots i)) z result final)
      (sym (put_same i k ns (part_of i k ns) refl)) S)
      logs books v
      (reply_restart m.slots (around i (lent log₀ came.rows came.order book₀ []) logs books) v i k came.log kept lt
      (omega (arith, en, ek))
      ∙ ap (λ (z : ℕ). restart_within z came.log kept)
      (sym (part_long i k ns (part-within (held_in loan.slots) ns L.gathered.into.gathers.shared i k lt
      (omega (arith, L.gathered.reached, ek))))))
      (again_is m.slots (around i (lent log₀ came.rows came.order book₀ []) logs books) v i lt)

-- ### Numbers

pub may_most : (l : List Slot) (i : ℕ) → may_use l i ≤ live_limit
may_most l i = low (room_in l i)
  where
    low : (x : ℕ) → min live_limit x ≤ live_limit
    low x = omega arith

pub count_may : (n x y : ℕ) → n ≡ min (x + 1) y → n ≤ y
count_may n x y e = omega (arith, e)

pub lent-live : (n x y : ℕ) → n ≡ min (x + 1) y → x ≤ y → x ≤ n
lent-live n x y e le = omega (arith, e, le)

pub again_settles : (m : Module) (i : ℕ) (loan : Loan) (r : CallResult) (p q : ℕ) (ns : List ℕ) (x : ModuleResult) (final : List ℕ)
    → p ≡ q →
    Settles m i loan r p ns x final → Settles m i loan r q ns x final
again_settles m i loan r p q ns x final e s = subst (λ (z : ℕ). Settles m i loan r z ns x final) e s

-- 14 for a slot above 3
pub past_four : (l : List Slot) (b : Memory) (i : ℕ) (buffer : List ℕ) (k : ℕ) → 4 ≤ i → reply_of (Restart i buffer k)
    (view_in l b) ≡ refused OutOfTurn
unfolding reply_of check unless
past_four l b i buffer k le =
    ap (λ (t : Bool). unless (check t OutOfTurn none) (lastly (uncovered i (kept_live (restart buffer k)) (view_in l b)) (restart buffer k)))
    (lt-ltb 3 i (omega (arith, le)))
