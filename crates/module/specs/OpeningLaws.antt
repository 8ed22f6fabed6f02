-- Opening a slot: no entry is taken, and the table is not lent.
use Rattle.std.specs.Prelude.{ℕ, ◌≤◌, ◌<◌, ◌≡◌, Bool, true, false, ◌||◌, ltb, length}
use Rattle.std.proofs.Common.{arith, sym, ◌∙◌, lt-ltb, le-ltb}
use Rattle.std.proofs.Math.Path.{refl, ap, subst}
use mathlib.Core.List.{List}
use Rattle.std.proofs.Math.Option.{Option, none}
use Rattle.forms.specs.declared.Refusal.TheVariants.{OutOfTurn}
use Rattle.rules.specs.Checks.{check}
use Rattle.rules.specs.State.{State, Reply, refused, ok}
use Rattle.rules.specs.Calls.{unless, open_site}
use Rattle.compact.specs.Module.{slot_at, opened_in, Open, reply_of, promise_of, next_of}
use Rattle.table.specs.Tables.{Owns}
use Rattle.site.specs.declared.CallResult.{CallResult}
use Rattle.site.specs.OpenLaws.{blank_site}
use Rattle.site.specs.TableLaws.{empty_table}
use Rattle.site.specs.Model.{Lent, lent, Does}
use Rattle.module.specs.declared.Slot.{Slot}
use Rattle.module.specs.declared.Module.{Module}
use Rattle.module.specs.declared.ModuleResult.{ModuleResult}
use Rattle.module.specs.Parts.{part_of}
use Rattle.module.specs.PartLaws.{part_long, part-within}
use Rattle.module.specs.Model.{slot_in, held_in, Memory, view_in, ValidSlots, ValidModule, ValidSome, view_of, around, RefusedIn}
use Rattle.module.specs.Model.{AcceptedIn, DoesIn, Moves}
use Rattle.module.specs.Calls.{answered, Concludes, ConcludesAs}
use Rattle.module.specs.CallLaws.{says_refused, says_accepted, site-some, site_none, gathers_none, usables, accepts, put_same}
use Rattle.module.specs.LoanLaws.{owns_free}

pub some_size : (m : Module) (i : ℕ) (log book : List ℕ) → ValidSome m i log book → length m.slots ≡ 4
some_size m i log book v = v.4.size

-- ### 14

or-true : (a : Bool) → (a || true) ≡ true
or-true true = refl
or-true false = refl

module _ (l : List Slot) (b : Memory) (v : ValidSlots l b) (i n room : ℕ) where
  abbrev asked : Bool → Reply
  asked t = unless (check t OutOfTurn none) (open_site n room)

  -- "site twice"
  pub open_again : (slot_in l i).opened ≡ true → reply_of (Open i n room) (view_in l b) ≡ refused OutOfTurn
  unfolding reply_of check unless
  open_again on =
      ap (λ (o : Option State). asked (ltb 3 i || opened_in o)) (site-some l b v i on) ∙ ap asked (or-true (ltb 3 i))

  pub open_past : 4 ≤ i → reply_of (Open i n room) (view_in l b) ≡ refused OutOfTurn
  unfolding reply_of check unless
  open_past le = ap (λ (t : Bool). asked (t || opened_in (slot_at i (view_in l b)).site)) (lt-ltb 3 i (omega (arith, le)))

  pub open_new : i < 4 → (slot_in l i).opened ≡ false → reply_of (Open i n room) (view_in l b) ≡ open_site n room
  unfolding reply_of check unless
  open_new lt off =
      ap (λ (o : Option State). asked (ltb 3 i || opened_in o)) (site_none l b v i off)
      ∙ ap (λ (t : Bool). asked (t || false)) (le-ltb 3 i (omega (arith, lt)))

-- ### A new site

module _ (m : Module) (i n : ℕ) (old : Lent) (lt : i < 4) (off : (slot_in m.slots i).opened ≡ false)
    (r : CallResult) (log book : List ℕ) (x : ModuleResult) (C : Concludes m i r 16 x)
    (D : (rows order ns : List ℕ) → Owns empty_table order rows →
    Does blank_site (lent old.log rows order old.book ns) (open_site n (length old.log)) r (lent log rows order book ns)) where
  abbrev later : Lent
  later = lent log old.rows old.order book old.lists

  module _ (logs books : ℕ → List ℕ) (v : ValidModule m (around i old logs books)) where
    abbrev none_lent : List ℕ
    none_lent = part_of i 0 old.order

    owns : Owns empty_table none_lent old.rows
    owns =
        owns_free none_lent old.rows
        (usables (held_in m.slots) old.order v.shared old.rows v.rows i 0 lt (omega arith) empty_table (omega arith))

    long : length none_lent ≡ 0
    long = part_long i 0 old.order (part-within (held_in m.slots) old.order v.shared i 0 lt (omega arith))

    new_is : reply_of (Open i n (length old.log)) (view_of m (around i old logs books)) ≡ open_site n (length old.log)
    new_is = open_new m.slots (around i old logs books) v i n (length old.log) lt off

    opens : (X : Reply) → open_site n (length old.log) ≡ X →
        Does blank_site (lent old.log old.rows none_lent old.book old.lists) X r
        (lent log old.rows none_lent book old.lists) →
        DoesIn m (Open i n (length old.log)) old logs books X x later
    unfolding promise_of
    opens (refused q) e A =
        let w : x ≡ record { after = m; reply = r.reply } =
        subst (λ (t : Bool). ConcludesAs t m i r 16 x) (says_refused r.reply old.lists q A.answer) C in
        let el : log ≡ old.log = ap (λ (z : Lent). z.log) A.kept in
        let eb : book ≡ old.book = ap (λ (z : Lent). z.book) A.kept in
        subst (λ (z : ModuleResult). RefusedIn m old q z later) (sym w)
        (record { answer = A.answer; same = refl; kept = λ t. lent (el t) old.rows old.order (eb t) old.lists })
    opens (ok st a) e A =
        let w : x ≡ answered m.slots i r 16 =
        subst (λ (t : Bool). ConcludesAs t m i r 16 x) (says_accepted r.reply old.lists a A.answer) C in
        let states = view_of m (around i old logs books) in
        subst (λ (z : ModuleResult). AcceptedIn i old (next_of (Open i n (length old.log)) states) a z later
        (around i later logs books)) (sym w)
        (subst (λ (z : List ℕ). AcceptedIn i old (next_of (Open i n (length old.log)) states) a (answered m.slots i r 16)
        (lent log old.rows z book old.lists) (around i (lent log old.rows z book old.lists) logs books))
        (put_same i 0 old.order none_lent refl)
        (accepts m (Open i n (length old.log)) old logs books v lt m.slots old.order
        (gathers_none m.slots (around i old logs books) v i) 0 (omega arith) old.log old.book r log old.rows none_lent book
        old.lists long 16 refl
        st a (new_is ∙ e) A))

  pub serves_open : Moves m (Open i n (length old.log)) old x later
  serves_open logs books v =
      subst (λ (y : Reply). DoesIn m (Open i n (length old.log)) old logs books y x later) (sym (new_is logs books v))
      (opens logs books v (open_site n (length old.log)) refl
      (D old.rows (part_of i 0 old.order) old.lists (owns logs books v)))
