-- A call of a slot, from the contract of its site's call: what the site is lent is valid, its reply is the specification's, and so the call
-- does what the specification says.
use Rattle.std.specs.Prelude.{ℕ, ◌*◌, ◌≤◌, ◌<◌, ◌≡◌, refl, Bool, true, false, not, List, [], ◌++◌, ltb, length, take, drop}
use Rattle.std.proofs.Common.{arith, subst, ◌∙◌, take-append-drop, take-take, ltb-true, ltb-false}
use Rattle.std.proofs.Math.Path.{sym, ap}
use Rattle.std.proofs.Math.Option.{Option, none, some}
use Rattle.std.proofs.Math.ListN.{get_or-eq_default}
use Rattle.forms.specs.Limits.{live_limit}
use Rattle.forms.specs.Forms.{Answer, Outcome, Refused, Accepted}
use Rattle.forms.specs.Held.{replied, outcome_with, outcome_of}
use Rattle.forms.specs.declared.ReplyForm.{ReplyForm}
use Rattle.forms.specs.declared.ReplyLine.{ReplyLine}
use Rattle.forms.specs.declared.Refusal.{Refusal}
use Rattle.forms.specs.declared.Refusal.TheVariants.{Unreadable, OutOfTurn}
use Rattle.rules.specs.Checks.{check}
use Rattle.rules.specs.State.{State, Reply, refused, ok}
use Rattle.rules.specs.Calls.{Call, unless, step}
use Rattle.rules.specs.When.{step_when}
use Rattle.rule_laws.specs.WhenLaws.{step_off}
use Rattle.compact.specs.Module.{Slot as SlotState, Module as ModuleState, slot_at, with_slot, meets_ten, promise_after, Move, At, slot_of}
use Rattle.compact.specs.Module.{readable, call_at, reply_of, promise_of, settle_in, next_of}
use Rattle.compact.proofs.FitsLaws.{call_is, fits_next}
use Rattle.table.specs.declared.Table.{Table}
use Rattle.table.specs.Rows.{row_width}
use Rattle.table.specs.Tables.{live_count}
use Rattle.site.specs.declared.Site.{Site}
use Rattle.site.specs.declared.CallResult.{CallResult}
use Rattle.site.specs.Model.{Lent, lent, view, Valid, Says, RefusedAs, AcceptedAs, Does, Steps}
use Rattle.module.specs.declared.Slot.{Slot}
use Rattle.module.specs.declared.Module.{Module}
use Rattle.module.specs.declared.ModuleResult.{ModuleResult}
use Rattle.module.specs.Four.{true_false}
use Rattle.module.specs.Parts.{part_room, table_room, part_of, Shared}
use Rattle.module.specs.PartLaws.{part_long, part-fewer, part-within, held_once, held_below, gathers_start, gathered_own}
use Rattle.module.specs.Model.{no_slot, slot_in, live_in, held_in, Memory, state_at, site_if, view_at, view_in, ValidSlots}
use Rattle.module.specs.Model.{ValidModule, ValidWith, view_of, around, RefusedIn, AcceptedIn, DoesFrom, DoesIn, Moves}
use Rattle.module.specs.Model.{MovesAnew}
use Rattle.module.specs.Gather.{GathersIn}
use Rattle.module.specs.ViewLaws.{slot_at_lem, slot_past}
use Rattle.module.specs.SiteLaws.{Usables, valid_order, view-order}
use Rattle.module.specs.Calls.{refuses, answered, Concludes, ConcludesAs, Turns}
use Rattle.module.specs.AcceptLaws.{put-own, accepted_in}

-- ### Replies

unfoldable is_refusal : Outcome → Bool
is_refusal (Refused q) = true
is_refusal (Accepted a) = false

form_refuses : (f : ReplyForm) (xs ys : List ℕ) → refuses f ≡ is_refusal (outcome_with f xs ys)
unfolding refuses is_refusal outcome_with
form_refuses (ReplyForm.Refused q) xs ys = refl
form_refuses ReplyForm.Opened xs ys = refl
form_refuses ReplyForm.Added xs ys = refl
form_refuses (ReplyForm.Finished n k) xs ys = refl
form_refuses ReplyForm.Withdrawn xs ys = refl
form_refuses ReplyForm.Persisted xs ys = refl
form_refuses ReplyForm.Stabilised xs ys = refl
form_refuses (ReplyForm.Shows s) xs ys = refl
form_refuses (ReplyForm.Restarted lines used) xs ys = refl
form_refuses (ReplyForm.Redone ran examined) xs ys = refl
form_refuses ReplyForm.Ended xs ys = refl

-- what a reply says is a refusal exactly if its form is one
pub says_refused : (r : ReplyLine) (ns : List ℕ) (q : Refusal) → Says (replied r ns) (Refused q) → refuses r.form ≡ true
unfolding is_refusal outcome_of
says_refused r ns q s = form_refuses r.form _ _ ∙ ap is_refusal s.outcome

pub says_accepted : (r : ReplyLine) (ns : List ℕ) (a : Answer) → Says (replied r ns) (Accepted a) → refuses r.form ≡ false
unfolding is_refusal outcome_of
says_accepted r ns a s = form_refuses r.form _ _ ∙ ap is_refusal s.outcome

-- ### Slots that are opened, and not

pub past_last : (l : List Slot) (i : ℕ) → length l ≡ 4 → 4 ≤ i → false ≡ (slot_in l i).opened
past_last l i size more = sym (ap (λ (s : Slot). s.opened) (get_or-eq_default l no_slot (omega (arith, size, more))))

module _ (l : List Slot) (b : Memory) (v : ValidSlots l b) (i : ℕ) where
  pub opened-below : (slot_in l i).opened ≡ true → i < 4
  opened-below on = go (ltb i 4) refl
    where
      go : (t : Bool) → ltb i 4 ≡ t → i < 4
      go true e = ltb-true i 4 e
      go false e =
          absurd
          (true_false
          (sym on
          ∙ ap (λ (s : Slot). s.opened) (get_or-eq_default l no_slot (let q = ltb-false i 4 e in omega (arith, q, v.size)))))

  pub site-some : (slot_in l i).opened ≡ true → (slot_at i (view_in l b)).site ≡ some (state_at l b i)
  site-some on =
      ap (λ (s : SlotState). s.site) (slot_at_lem (view_at l b) i (opened-below on)) ∙ ap (λ (t : Bool). site_if t (state_at l b i)) on

  pub site_none : (slot_in l i).opened ≡ false → (slot_at i (view_in l b)).site ≡ none
  site_none off = go (ltb i 4) refl
    where
      go : (t : Bool) → ltb i 4 ≡ t → (slot_at i (view_in l b)).site ≡ none
      go true e =
          ap (λ (s : SlotState). s.site) (slot_at_lem (view_at l b) i (ltb-true i 4 e)) ∙ ap (λ (t : Bool). site_if t (state_at l b i)) off
      go false e = ap (λ (s : SlotState). s.site) (slot_past (view_at l b) i (let q = ltb-false i 4 e in omega (arith, q)))

  -- 14, but 1 before it
  pub turned_away : (c : Call) → (slot_in l i).opened ≡ false → readable c ≡ true → reply_of (At i c) (view_in l b) ≡ refused OutOfTurn
  unfolding reply_of check unless
  turned_away c off may =
      ap (λ (o : Option State). call_at o i c (view_in l b)) (site_none off)
      ∙ ap (λ (t : Bool). unless (check (not t) Unreadable none) (refused OutOfTurn)) may

  pub turned_unread : (c : Call) → (slot_in l i).opened ≡ false → readable c ≡ false → reply_of (At i c) (view_in l b) ≡ refused Unreadable
  unfolding reply_of check unless
  turned_unread c off cannot =
      ap (λ (o : Option State). call_at o i c (view_in l b)) (site_none off)
      ∙ ap (λ (t : Bool). unless (check (not t) Unreadable none) (refused OutOfTurn)) cannot

-- A call that is refused before it comes to a site.
pub turns : (m : Module) (x : Move) (old : Lent) (q : Refusal) (r : ModuleResult) → Turns m q r →
    ((b : Memory) → ValidSlots m.slots b → reply_of x (view_in m.slots b) ≡ refused q) → Moves m x old r old
turns m x old q r t e logs books v =
    subst (λ (y : Reply). DoesIn m x old logs books y r old) (sym (e _ v))
    (record { answer = t.answer old.lists; same = t.same; kept = refl })

pub turns_anew : (m : Module) (x : Move) (came : Lent) (q : Refusal) (r : ModuleResult) → Turns m q r →
    ((b : Memory) → ValidSlots m.slots b → reply_of x (view_in m.slots b) ≡ refused q) → MovesAnew m x came r came
turns_anew m x came q r t e log book logs books v =
    subst (λ (y : Reply). DoesFrom m x (lent log came.rows came.order book came.lists) came logs books y r came) (sym (e _ v))
    (record { answer = t.answer came.lists; same = t.same; kept = refl })

-- ### What the site of a slot is lent

-- none have been gathered
pub gathers_none : (l : List Slot) (b : Memory) (v : ValidSlots l b) (i : ℕ) → GathersIn l b.numbers i l b.numbers
gathers_none l b v i =
    record { size = v.size; slots = λ j. refl; gathers = gathers_start i (live_in l) (held_in l) b.numbers v.shared v.few }

-- numbers that a slot holds may be used
pub usables : (h : ℕ → ℕ) (ns : List ℕ) → Shared h ns → (rows : List ℕ) → length rows ≡ table_room * row_width → (i n : ℕ) → i < 4 → n ≤ h i →
    (t : Table) → live_count t ≤ n → Usables t (part_of i n ns) rows
usables h ns s rows long i n li le t few =
    let ln = part_long i n ns (part-within h ns s i n li le) in
    record {
      long = omega (arith, ln, le, s.few i li);
      few = omega (arith, ln, few);
      within = λ p lp. omega (arith, held_below h ns s i n p li le (omega (arith, lp, ln)), long);
      once = λ e. held_once h ns s e i n li le;
    }

module _ (m : Module) (i : ℕ) (old : Lent) (logs books : ℕ → List ℕ) (v : ValidModule m (around i old logs books))
    (on : (slot_in m.slots i).opened ≡ true) where
  abbrev l : List Slot
  l = m.slots

  abbrev b : Memory
  b = around i old logs books

  abbrev site : Site
  site = (slot_in l i).site

  pub li : i < 4
  li = opened-below l b v i on

  module _ (k : List Slot) (ns : List ℕ) (g : GathersIn l old.order i k ns) (n : ℕ) (few : live_in l i ≤ n) (le : n ≤ held_in k i) where
    abbrev order : List ℕ
    order = part_of i n ns

    first : take (live_in l i) (part_of i (live_in l i) old.order) ≡ take (live_in l i) order
    first =
        take-take (live_in l i) (live_in l i) (drop (part_room * i) old.order) (omega arith)
        ∙ sym (gathered_own i (live_in l) (held_in l) (held_in k) old.order ns g.gathers li v.shared.long (live_in l i) (v.few i li))
        ∙ sym (part-fewer i (live_in l i) n ns few)

    pub valid_lent : (ls : List ℕ) → Valid site (lent old.log old.rows order old.book ls)
    valid_lent ls =
        let el : b.logs i ≡ old.log = put-own i old.log logs in
        let eb : b.books i ≡ old.book = put-own i old.book books in
        subst (λ (T : Type 0). T) (λ t. Valid site (lent (el t) old.rows order (eb t) ls))
        (valid_order site (b.logs i) old.rows (part_of i (live_in l i) old.order) order (b.books i) [] ls first (v.each i li on)
        (usables (held_in k) ns g.gathers.shared old.rows v.rows i n li le site.table few))

    pub view-lent : (ls : List ℕ) → view site (lent old.log old.rows order old.book ls) ≡ state_at l b i
    view-lent ls =
        let el : old.log ≡ b.logs i = sym (put-own i old.log logs) in
        let eb : old.book ≡ b.books i = sym (put-own i old.book books) in
        (λ t. view site (lent (el t) old.rows order (eb t) ls))
        ∙ sym (view-order site (b.logs i) old.rows (part_of i (live_in l i) old.order) order (b.books i) [] ls first)

    pub order_long : length order ≡ n
    order_long = part_long i n ns (part-within (held_in k) ns g.gathers.shared i n li le)

  -- ### What the call does

  abbrev states : ModuleState
  states = view_in l b

  pub reply_is : (c : Call) → reply_of (At i c) states ≡ step_when (meets_ten i c (state_at l b i) states) c (state_at l b i)
  reply_is c = call_is i states v.fits (state_at l b i) (site-some l b v i on) c

-- ### What a call's `requires` gives

module _ (m : Module) (i : ℕ) (w : Lent) (vw : ValidWith m i w) where
  pub with_size : length m.slots ≡ 4
  with_size = vw.2.size

  pub with_long : length w.order ≡ 256
  with_long = vw.2.shared.long

  pub with_few : i < 4 → live_in m.slots i ≤ live_limit
  with_few lt = omega (arith, vw.2.few i lt, vw.2.shared.few i lt)

  pub with_below : (slot_in m.slots i).opened ≡ true → i < 4
  with_below on = opened-below m.slots (around i w vw.0 vw.1) vw.2 i on

  -- the site is valid with the numbers of its live operations
  pub with_live : (slot_in m.slots i).opened ≡ true → (n : ℕ) → n ≡ live_in m.slots i → (ls : List ℕ) →
      Valid (slot_in m.slots i).site (lent w.log w.rows (part_of i n w.order) w.book ls)
  with_live on n en ls =
      let lt = with_below on in
      valid_lent m i w vw.0 vw.1 vw.2 on m.slots w.order (gathers_none m.slots (around i w vw.0 vw.1) vw.2 i) n
      (omega (arith, en)) (omega (arith, en, vw.2.few i lt)) ls

-- What a call of an opened slot knows of it, and of what its site is lent.
pub record Lending (m : Module) (i : ℕ) (w : Lent) : Type 0 where
  pub on : (slot_in m.slots i).opened ≡ true
  pub below : i < 4
  pub size : length m.slots ≡ 4
  pub long : length w.order ≡ 256
  pub few : live_in m.slots i ≤ live_limit
  pub valid : (n : ℕ) → n ≡ live_in m.slots i → (ls : List ℕ) →
      Valid (slot_in m.slots i).site (lent w.log w.rows (part_of i n w.order) w.book ls)

pub lending : (m : Module) (i : ℕ) (w : Lent) → ValidWith m i w → (slot_in m.slots i).opened ≡ true → Lending m i w
lending m i w vw on =
    record {
      on = on;
      below = with_below m i w vw on;
      size = with_size m i w vw;
      long = with_long m i w vw;
      few = with_few m i w vw (with_below m i w vw on);
      valid = with_live m i w vw on;
    }

-- ### An accepted call

module _ (m : Module) (x : Move) (old : Lent) (logs books : ℕ → List ℕ) (v : ValidModule m (around (slot_of x) old logs books))
    (lt : slot_of x < 4)
    (k : List Slot) (ns : List ℕ) (g : GathersIn m.slots old.order (slot_of x) k ns) (n : ℕ) (le : n ≤ held_in k (slot_of x))
    (lg bk : List ℕ) (r : CallResult) (log rows o book lists : List ℕ) (lo : length o ≡ n) (p : ℕ)
    (pe : p ≡ promise_of x (slot_at (slot_of x) (view_of m (around (slot_of x) old logs books)))) where
  pub accepts : (st : State) (a : Answer) → reply_of x (view_of m (around (slot_of x) old logs books)) ≡ ok st a →
      AcceptedAs (part_of (slot_of x) n ns) (lent lg old.rows (part_of (slot_of x) n ns) bk old.lists) st a r
      (lent log rows o book lists) →
      AcceptedIn (slot_of x) (lent lg old.rows old.order bk old.lists) (next_of x (view_of m (around (slot_of x) old logs books))) a
      (answered k (slot_of x) r p)
      (lent log rows (take (part_room * slot_of x) ns ++ (o ++ drop n (drop (part_room * slot_of x) ns))) book lists)
      (around (slot_of x) (lent log rows (take (part_room * slot_of x) ns ++
      (o ++ drop n (drop (part_room * slot_of x) ns))) book lists) logs books)
  unfolding next_of
  accepts st a e A =
      let i = slot_of x in
      let states = view_of m (around i old logs books) in
      accepted_in m.slots i lt old logs books v k ns g n le lg bk st a r log rows o book lists lo A p (next_of x states)
      (ap (λ (z : ℕ). with_slot i (record { site = some st; promise = z }) states) pe
      ∙ sym (ap (λ (y : Reply). settle_in i y (promise_of x (slot_at i states)) states) e))
      (fits_next x states v.fits)

-- ### Calls that take no entries

-- a part put back as it was
pub put_same : (i n : ℕ) (ns o : List ℕ) → o ≡ part_of i n ns → take (part_room * i) ns ++ (o ++ drop n (drop (part_room * i) ns)) ≡ ns
put_same i n ns o e =
    ap (λ (z : List ℕ). take (part_room * i) ns ++ (z ++ drop n (drop (part_room * i) ns))) e
    ∙ ap (λ (z : List ℕ). take (part_room * i) ns ++ z) (take-append-drop n (drop (part_room * i) ns))
    ∙ take-append-drop (part_room * i) ns

-- the calls that take no entries, and give no 10
abbrev pub is_plain : Call → Bool
is_plain (Call.Add n us) = false
is_plain (Call.Finish n) = true
is_plain (Call.Withdraw n) = true
is_plain (Call.Persistent n) = true
is_plain (Call.Stable n) = true
is_plain (Call.Show h) = true
is_plain (Call.Cut k room) = false
is_plain (Call.Changeover n room) = false
is_plain (Call.Redo line) = false
is_plain Call.End = true

-- the number of a call that has one
abbrev pub number_in : Call → ℕ
number_in (Call.Add n us) = n
number_in (Call.Finish n) = n
number_in (Call.Withdraw n) = n
number_in (Call.Persistent n) = n
number_in (Call.Stable n) = n
number_in (Call.Show h) = h
number_in (Call.Cut k room) = k
number_in (Call.Changeover n room) = n
number_in (Call.Redo line) = 0
number_in Call.End = 0

plain_flag : (i : ℕ) (c : Call) (st : State) (M : ModuleState) → is_plain c ≡ true → meets_ten i c st M ≡ false
unfolding meets_ten
plain_flag i (Call.Add n us) st M e = absurd (true_false (sym e))
plain_flag i (Call.Finish n) st M e = refl
plain_flag i (Call.Withdraw n) st M e = refl
plain_flag i (Call.Persistent n) st M e = refl
plain_flag i (Call.Stable n) st M e = refl
plain_flag i (Call.Show h) st M e = refl
plain_flag i (Call.Cut k room) st M e = absurd (true_false (sym e))
plain_flag i (Call.Changeover n room) st M e = absurd (true_false (sym e))
plain_flag i (Call.Redo line) st M e = absurd (true_false (sym e))
plain_flag i Call.End st M e = refl

module _ (m : Module) (i : ℕ) (c : Call) (old : Lent) (plain : is_plain c ≡ true) (on : (slot_in m.slots i).opened ≡ true)
    (n : ℕ) (en : n ≡ live_in m.slots i) (r : CallResult) (log rows o book lists : List ℕ)
    (same : length o ≡ length (part_of i n old.order))
    (p : ℕ) (pe : (s : SlotState) → s.promise ≡ (slot_in m.slots i).promise → p ≡ promise_after c s)
    (x : ModuleResult) (C : Concludes m i r p x) where
  abbrev here : Lent
  here = lent old.log old.rows (part_of i n old.order) old.book old.lists

  abbrev numbers : List ℕ
  numbers = take (part_room * i) old.order ++ (o ++ drop n (drop (part_room * i) old.order))

  abbrev later : Lent
  later = lent log rows numbers book lists

  -- what was refused is as it was
  kept_in : (q : Refusal) → RefusedAs (slot_in m.slots i).site here q r (lent log rows o book lists) → later ≡ old
  kept_in q A =
      let el : log ≡ old.log = ap (λ (w : Lent). w.log) A.kept in
      let er : rows ≡ old.rows = ap (λ (w : Lent). w.rows) A.kept in
      let eo : numbers ≡ old.order = put_same i n old.order o (ap (λ (w : Lent). w.order) A.kept) in
      let eb : book ≡ old.book = ap (λ (w : Lent). w.book) A.kept in
      let es : lists ≡ old.lists = ap (λ (w : Lent). w.lists) A.kept in
      λ t. lent (el t) (er t) (eo t) (eb t) (es t)

  module _ (logs books : ℕ → List ℕ) (v : ValidModule m (around i old logs books)) where
    abbrev sites : ModuleState
    sites = view_of m (around i old logs books)

    le : n ≤ held_in m.slots i
    le = omega (arith, en, v.few i (li m i old logs books v on))

    lo : length o ≡ n
    lo = same ∙ part_long i n old.order (part-within (held_in m.slots) old.order v.shared i n (li m i old logs books v on) le)

    promised : p ≡ promise_of (At i c) (slot_at i sites)
    unfolding promise_of
    promised = pe (slot_at i sites) (ap (λ (s : SlotState). s.promise)
        (slot_at_lem (view_at m.slots (around i old logs books)) i (li m i old logs books v on)))

    -- From the contract of the site's call to that of the slot's.
    concludes : (X : Reply) → reply_of (At i c) sites ≡ X → Does (slot_in m.slots i).site here X r (lent log rows o book lists) →
        DoesIn m (At i c) old logs books X x later
    concludes (refused q) e D =
        let w : x ≡ record { after = m; reply = r.reply } =
        subst (λ (t : Bool). ConcludesAs t m i r p x) (says_refused r.reply lists q D.answer) C in
        subst (λ (z : ModuleResult). RefusedIn m old q z later) (sym w)
        (record { answer = D.answer; same = refl; kept = kept_in q D })
    concludes (ok st a) e D =
        let w : x ≡ answered m.slots i r p =
        subst (λ (t : Bool). ConcludesAs t m i r p x) (says_accepted r.reply lists a D.answer) C in
        subst (λ (z : ModuleResult). AcceptedIn i old (next_of (At i c) sites) a z later (around i later logs books)) (sym w)
        (accepts m (At i c) old logs books v (li m i old logs books v on) m.slots old.order
        (gathers_none m.slots (around i old logs books) v i) n le old.log old.book r log rows o book lists lo p promised st a e D)

    reply_plain : reply_of (At i c) sites ≡ step c (view (slot_in m.slots i).site here)
    reply_plain =
        let st = state_at m.slots (around i old logs books) i in
        reply_is m i old logs books v on c
        ∙ ap (λ (f : Bool). step_when f c st) (plain_flag i c st sites plain)
        ∙ sym (step_off c st)
        ∙ ap (step c)
        (sym (view-lent m i old logs books v on m.slots old.order (gathers_none m.slots (around i old logs books) v i) n
        (omega (arith, en)) le old.lists))

  pub serves : Steps (slot_in m.slots i).site here c r (lent log rows o book lists) → Moves m (At i c) old x later
  serves D logs books v =
      subst (λ (y : Reply). DoesIn m (At i c) old logs books y x later) (sym (reply_plain logs books v))
      (concludes logs books v (step c (view (slot_in m.slots i).site here)) (reply_plain logs books v) D)

  -- .. where the numbers are only read
  pub serves_read : o ≡ part_of i n old.order → Steps (slot_in m.slots i).site here c r (lent log rows o book lists) →
      Moves m (At i c) old x (lent log rows old.order book lists)
  serves_read e D =
      subst (λ (z : List ℕ). Moves m (At i c) old x (lent log rows z book lists)) (put_same i n old.order o e) (serves D)
