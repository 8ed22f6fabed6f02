-- Calls of a slot that take entries: what the slot may use is lent to its site, and 10 is met exactly where the specification's is.
use Rattle.std.specs.Prelude.{ℕ, ◌+◌, ◌*◌, ◌≤◌, ◌<◌, min, max, ◌≡◌, refl, Bool, true, false, cond, ◌||◌, ◌&&◌, List, ◌++◌, length, take, drop}
use Rattle.std.proofs.Common.{arith, ap₂, ◌∙◌, leb-true, leb-false, le-leb, le-ltb, lt-ltb, ltb-true, ltb-false}
use Rattle.std.proofs.Math.Path.{sym, ap, subst}
use Rattle.std.proofs.Math.Option.{none}
use Rattle.std.proofs.Math.Dec.{leb, ltb}
use Rattle.std.proofs.lemmas.Bool.{lt-leb}
use Rattle.forms.specs.Limits.{live_limit}
use Rattle.forms.specs.Forms.{Update, Answer}
use Rattle.forms.specs.declared.Refusal.{Refusal}
use Rattle.forms.specs.declared.Refusal.TheVariants.{OutOfTurn}
use Rattle.rules.specs.Checks.{check}
use Rattle.rules.specs.State.{State, Reply, refused, ok, live, settle}
use Rattle.rules.specs.Calls.{Call, unless, step, table_full, restart}
use Rattle.rules.specs.When.{lastly, step_when}
use Rattle.rules.specs.Within.{kept_live, step_within, restart_within}
use Rattle.rule_laws.specs.Good.{Good}
use Rattle.rule_laws.specs.GoodLaws.{good-step, good-restart}
use Rattle.compact.specs.Module.{least, slot_at, restoring_in, live_of, taken, uncovered, meets_ten, promised_again, Move, At, Restart, slot_of}
use Rattle.compact.specs.Module.{reply_of, promise_of, next_of}
use Rattle.compact.specs.Module as compact
use Rattle.table.specs.Tables.{live_count, Owns}
use Rattle.site.specs.declared.Site.{Site}
use Rattle.site.specs.declared.CallResult.{CallResult}
use Rattle.site.specs.Representation.{Sound}
use Rattle.site.specs.TableLaws.{empty_table}
use Rattle.site.specs.Model.{Lent, lent, view, RefusedAs, Does}
use Rattle.module.specs.declared.Slot.{Slot}
use Rattle.module.specs.declared.Module.{Module}
use Rattle.module.specs.declared.ModuleResult.{ModuleResult}
use Rattle.module.specs.declared.Loan.{Loan}
use Rattle.module.specs.Four.{true_false}
use Rattle.module.specs.Parts.{part_room, part_of}
use Rattle.module.specs.PartLaws.{part_long, part-within, put_back}
use Rattle.module.specs.Model.{slot_in, live_in, held_in, Memory, state_at, site_if, view_at, view_in, ValidSlots, ValidModule}
use Rattle.module.specs.Model.{view_of, around, RefusedIn, AcceptedIn, DoesFrom}
use Rattle.module.specs.Gather.{MayGather, GathersIn}
use Rattle.module.specs.ViewLaws.{slot_at_lem}
use Rattle.module.specs.SiteLaws.{Usables}
use Rattle.module.specs.RoomLaws.{room_in, may_use, live_state, live_at, claims-fit, live_room, live_few, taken_room, covered_room}
use Rattle.module.specs.RoomLaws.{enough_free, add-flag, redo-flag}
use Rattle.module.specs.Calls.{Claims, answered, Lends, GivesBack, KeepsLoan, Settles, SettlesAs}
use Rattle.module.specs.CallLaws.{says_refused, says_accepted, put_same, accepts, li, reply_is, view-lent}
use Rattle.module.specs.CallLaws.{order_long}

-- ### What may be lent

module _ (l : List Slot) (b : Memory) (v : ValidSlots l b) (i : ℕ) (lt : i < 4) where
  pub claims_of : Claims l i
  claims_of =
      record { size = v.size; own = lt; few = λ j lj. live_few l b v j lj; fit = claims-fit l b v }

  pub may_gather : (n : ℕ) → n ≤ may_use l i → MayGather l b.numbers i n
  may_gather n le =
      record {
        size = v.size;
        own = lt;
        few = v.few;
        shared = v.shared;
        most = omega (arith, le);
        enough = omega (arith, le, enough_free l b v i lt);
      }

  -- a slot's live operations are no more than it may use
  pub live_may : live_in l i ≤ may_use l i
  live_may = omega (arith, live_room l b v i lt, live_few l b v i lt)

-- all entries of a list free
pub owns_free : (o ws : List ℕ) → Usables empty_table o ws → Owns empty_table o ws
owns_free o ws u =
    record {
      usable =
          record {
            long = u.long;
            few = omega arith;
            within = λ i lt. absurd (omega (arith, lt));
            each = λ i lt. absurd (omega (arith, lt));
          };
      within = u.within;
      once = u.once;
    }

-- ### 10

-- "add or redo is refused 10 exactly when live ≥ min(64, 128 − what the others claim)"
flag_uses : (n count room : ℕ) → n ≡ min (count + 1) (min 64 room) → (leb n count || leb 64 count) ≡ (leb room count || leb 64 count)
flag_uses n count room e = go (leb room count) refl (leb 64 count) refl
  where
    true_or : (a b : Bool) → a ≡ true → (a || b) ≡ true
    true_or true b q = refl
    true_or false b q = absurd (true_false (sym q))

    or-true : (a : Bool) → (a || true) ≡ true
    or-true true = refl
    or-true false = refl

    go : (a : Bool) → leb room count ≡ a → (c : Bool) → leb 64 count ≡ c → (leb n count || leb 64 count) ≡ (leb room count || leb 64 count)
    go true p c q =
        true_or (leb n count) (leb 64 count) (le-leb n count (omega (arith, e, leb-true room count p)))
        ∙ sym (true_or (leb room count) (leb 64 count) p)
    go false p true q =
        ap (λ (t : Bool). leb n count || t) q ∙ or-true (leb n count) ∙ sym
        (ap (λ (t : Bool). leb room count || t) q ∙ or-true (leb room count))
    go false p false q =
        ap (λ (t : Bool). t || leb 64 count) (lt-leb n count (omega (arith, e, leb-false room count p, leb-false 64 count q)) ∙ sym p)

-- "a cut or restart exactly when its kept live lines exceed 128 − what the others claim": they are at most 64
flag_keeps : (kept room : ℕ) → kept ≤ live_limit → ltb (min live_limit room) kept ≡ ltb room kept
flag_keeps kept room le = go (ltb room kept) refl
  where
    go : (a : Bool) → ltb room kept ≡ a → ltb (min live_limit room) kept ≡ a
    go true p = lt-ltb (min live_limit room) kept (omega (arith, ltb-true room kept p))
    go false p = le-ltb (min live_limit room) kept (omega (arith, ltb-false room kept p, le))

kept-good : (x : Reply) → ((after : State) (a : Answer) → x ≡ ok after a → Good after) → kept_live x ≤ live_limit
kept-good (refused q) g = omega arith
kept-good (ok after a) g = (g after a refl).few

module _ (m : Module) (i : ℕ) (old : Lent) (logs books : ℕ → List ℕ) (v : ValidModule m (around i old logs books))
    (on : (slot_in m.slots i).opened ≡ true) (k : List Slot) (ns : List ℕ) (g : GathersIn m.slots old.order i k ns)
    (n : ℕ) (few : live_in m.slots i ≤ n) (le : n ≤ held_in k i) where
  abbrev l : List Slot
  l = m.slots

  abbrev b : Memory
  b = around i old logs books

  abbrev st : State
  st = state_at l b i

  abbrev order : List ℕ
  order = part_of i n ns

  abbrev here : Lent
  here = lent old.log old.rows order old.book old.lists

  within_is : (c : Call) → step_within n c st ≡ step_within (length order) c (view (slot_in l i).site here)
  within_is c =
      ap₂ (λ (z : ℕ) (s : State). step_within z c s) (sym (order_long m i old logs books v on k ns g n few le))
      (sym (view-lent m i old logs books v on k ns g n few le old.lists))

  live_is : live st ≡ live_in l i
  live_is = live_state l b v i (li m i old logs books v on) on

  uses : n ≡ min (live_in l i + 1) (may_use l i) → (taken i (view_in l b) || table_full st) ≡ (leb n (live st) || table_full st)
  unfolding table_full
  uses en =
      ap (λ (t : Bool). t || leb 64 (live st)) (taken_room l b v i (li m i old logs books v on) ∙ ap (leb (room_in l i)) (sym live_is))
      ∙ sym (flag_uses n (live st) (room_in l i) (omega (arith, en, live_is)))

  pub reply_add : (id : ℕ) (us : List Update) → n ≡ min (live_in l i + 1) (may_use l i) →
      reply_of (At i (Call.Add id us)) (view_in l b) ≡ step_within (length order) (Call.Add id us) (view (slot_in l i).site here)
  unfolding meets_ten step_within
  reply_add id us en =
      reply_is m i old logs books v on (Call.Add id us)
      ∙ add-flag (taken i (view_in l b)) (leb n (live st)) st (uses en) id us
      ∙ within_is (Call.Add id us)

  pub reply_redo : (line : List ℕ) → n ≡ min (live_in l i + 1) (may_use l i) →
      reply_of (At i (Call.Redo line)) (view_in l b) ≡ step_within (length order) (Call.Redo line) (view (slot_in l i).site here)
  unfolding meets_ten step_within
  reply_redo line en =
      reply_is m i old logs books v on (Call.Redo line)
      ∙ redo-flag (taken i (view_in l b)) (leb n (live st)) st (uses en) line
      ∙ within_is (Call.Redo line)

  good : Good st
  unfolding Sound
  good = (v.each i (li m i old logs books v on) on).sound.good

  pub reply_cut : (kept room : ℕ) → n ≡ may_use l i →
      reply_of (At i (Call.Cut kept room)) (view_in l b) ≡ step_within (length order) (Call.Cut kept room) (view (slot_in l i).site here)
  unfolding meets_ten step_within settle
  reply_cut kept room en =
      let c = Call.Cut kept room in
      reply_is m i old logs books v on c
      ∙ ap (λ (t : Bool). step_when t c st)
      (covered_room l b v i (li m i old logs books v on) (kept_live (step c st))
      ∙ sym (flag_keeps (kept_live (step c st)) (room_in l i)
      (kept-good (step c st) (λ after a e. subst (λ (x : Reply). Good (settle x st)) e (good-step c st good))))
      ∙ ap (λ (z : ℕ). ltb z (kept_live (step c st))) (sym en))
      ∙ within_is c

pub reply_restart : (l : List Slot) (b : Memory) (v : ValidSlots l b) (i n : ℕ) (buffer : List ℕ) (k : ℕ) → i < 4 → n ≡ may_use l i →
    reply_of (Restart i buffer k) (view_in l b) ≡ restart_within n buffer k
unfolding reply_of check unless
reply_restart l b v i n buffer k lt en =
    ap (λ (t : Bool). unless (check t OutOfTurn none) (lastly (uncovered i (kept_live (restart buffer k)) (view_in l b)) (restart buffer k)))
    (le-ltb 3 i (omega (arith, lt)))
    ∙ ap (λ (t : Bool). lastly t (restart buffer k))
    (covered_room l b v i lt (kept_live (restart buffer k))
    ∙ sym (flag_keeps (kept_live (restart buffer k)) (room_in l i)
    (kept-good (restart buffer k) (λ after a e. good-restart buffer k after a e)))
    ∙ ap (λ (z : ℕ). ltb z (kept_live (restart buffer k))) (sym en))

-- ### The promise after a cut or restart

-- "promised as many as it had live, if more than 16; over further cuts the largest number holds"
abbrev pub again_in : Slot → ℕ
again_in s = max (max least (live_count s.site.table)) (cond (s.opened && s.site.restoring) s.promise least)

pub again_is : (l : List Slot) (b : Memory) (v : ValidSlots l b) (i : ℕ) → i < 4 → again_in (slot_in l i) ≡ promised_again
    (slot_at i (view_in l b))
unfolding promised_again
again_is l b v i lt =
    let s = slot_in l i in
    let at = slot_at_lem (view_at l b) i lt in
    ap₂ (λ (x y : ℕ). max (max least x) y)
    (sym (ap live_of at ∙ live_at l b v i lt))
    (restores s.opened refl)
    ∙ ap (λ (z : compact.Slot). max (max least (live_of (slot_at i (view_in l b)))) (cond (restoring_in z.site) z.promise least)) (sym at)
  where
    restores : (o : Bool) → (slot_in l i).opened ≡ o →
        cond ((slot_in l i).opened && (slot_in l i).site.restoring) (slot_in l i).promise least
        ≡ cond (restoring_in (site_if (slot_in l i).opened (state_at l b i))) (slot_in l i).promise least
    restores true e =
        ap (λ (o : Bool). cond (o && (slot_in l i).site.restoring) (slot_in l i).promise least) e
        ∙ sym (ap (λ (o : Bool). cond (restoring_in (site_if o (state_at l b i))) (slot_in l i).promise least) e)
    restores false e =
        ap (λ (o : Bool). cond (o && (slot_in l i).site.restoring) (slot_in l i).promise least) e
        ∙ sym (ap (λ (o : Bool). cond (restoring_in (site_if o (state_at l b i))) (slot_in l i).promise least) e)

-- ### From the contract of the site's call to that of the slot's

module _ (m : Module) (x : Move) (old : Lent) (lt : slot_of x < 4) (n : ℕ) (loan : Loan) (ns : List ℕ)
    (L : Lends m.slots old.order (slot_of x) n loan ns) (lg bk : List ℕ) (s : Site) (r : CallResult) (log rows o book lists : List ℕ)
    (same : length o ≡ length (part_of (slot_of x) n ns))
    (X : Reply)
    (D : Does s (lent lg old.rows (part_of (slot_of x) n ns) bk old.lists) X r (lent log rows o book lists))
    (p : ℕ) (result : ModuleResult) (final : List ℕ)
    (S : Settles m (slot_of x) loan r p (take (part_room * slot_of x) ns ++ (o ++ drop n (drop (part_room * slot_of x) ns))) result final) where
  abbrev i : ℕ
  i = slot_of x

  abbrev numbers : List ℕ
  numbers = take (part_room * i) ns ++ (o ++ drop n (drop (part_room * i) ns))

  abbrev later : Lent
  later = lent log rows final book lists

  -- what was lent to the call
  abbrev came : Lent
  came = lent lg old.rows old.order bk old.lists

  module _ (logs books : ℕ → List ℕ) (v : ValidModule m (around i old logs books))
      (e : reply_of x (view_of m (around i old logs books)) ≡ X) (pe : p ≡ promise_of x (slot_at i (view_of m (around i old logs books)))) where
    g : GathersIn m.slots old.order i loan.slots ns
    g = L.gathered.into

    le : n ≤ held_in loan.slots i
    le = L.gathered.reached

    back : (q : Refusal) → RefusedAs s (lent lg old.rows (part_of i n ns) bk old.lists) q r (lent log rows o book lists) →
        final ≡ take (part_room * i) numbers ++ (loan.saved ++ drop (part_room * i + part_room) numbers) → later ≡ came
    back q A f =
        let ek : numbers ≡ ns = put_same i n ns o (ap (λ (w : Lent). w.order) A.kept) in
        let el : log ≡ lg = ap (λ (w : Lent). w.log) A.kept in
        let er : rows ≡ old.rows = ap (λ (w : Lent). w.rows) A.kept in
        let eo : final ≡ old.order =
        f
        ∙ ap (λ (z : List ℕ). take (part_room * i) z ++ (loan.saved ++ drop (part_room * i + part_room) z)) ek
        ∙ ap (λ (z : List ℕ). take (part_room * i) ns ++ (z ++ drop (part_room * i + part_room) ns)) L.saved
        ∙ put_back i (live_in m.slots) (held_in m.slots) (held_in loan.slots) old.order ns g.gathers lt v.shared.long in
        let eb : book ≡ bk = ap (λ (w : Lent). w.book) A.kept in
        let es : lists ≡ old.lists = ap (λ (w : Lent). w.lists) A.kept in
        λ t. lent (el t) (er t) (eo t) (eb t) (es t)

    lo : length o ≡ n
    lo = same ∙ part_long i n ns (part-within (held_in loan.slots) ns g.gathers.shared i n lt le)

    settled : (Y : Reply) → X ≡ Y → Does s (lent lg old.rows (part_of i n ns) bk old.lists) Y r (lent log rows o book lists) →
        DoesFrom m x old came logs books Y result later
    settled (refused q) f A =
        let B : GivesBack m i loan r numbers result final =
        subst (λ (t : Bool). SettlesAs t m i loan r p numbers result final) (says_refused r.reply lists q A.answer) S in
        subst (λ (z : ModuleResult). RefusedIn m came q z later) (sym B.result)
        (record { answer = A.answer; same = refl; kept = back q A B.numbers })
    settled (ok st a) f A =
        let B : KeepsLoan i loan r p numbers result final =
        subst (λ (t : Bool). SettlesAs t m i loan r p numbers result final) (says_accepted r.reply lists a A.answer) S in
        subst (λ (z : ModuleResult). AcceptedIn i came (next_of x (view_of m (around i old logs books))) a z later
        (around i later logs books)) (sym B.result)
        (subst (λ (z : List ℕ). AcceptedIn i came (next_of x (view_of m (around i old logs books))) a (answered loan.slots i r p)
        (lent log rows z book lists) (around i (lent log rows z book lists) logs books)) (sym B.numbers)
        (accepts m x old logs books v lt loan.slots ns g n le lg bk r log rows o book lists lo p pe st a (e ∙ f) A))

  pub serves_loan : (logs books : ℕ → List ℕ) (v : ValidModule m (around i old logs books)) →
      reply_of x (view_of m (around i old logs books)) ≡ X → p ≡ promise_of x (slot_at i (view_of m (around i old logs books))) →
      DoesFrom m x old came logs books (reply_of x (view_of m (around i old logs books))) result later
  serves_loan logs books v e pe =
      subst (λ (y : Reply). DoesFrom m x old came logs books y result later) (sym e) (settled logs books v e pe X refl D)
