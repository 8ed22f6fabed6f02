-- Add against the specification.
use Rattle.std.specs.Prelude.{ℕ, ◌+◌, ◌≤◌, ◌<◌, ◌≡◌, Bool, true, false, ◌&&◌, ◌||◌, ◌⊎◌, T, length, get_or}
use native.Mathlib.Omega.{arith}
use Rattle.std.proofs.Math.Path.{refl, sym, ap}
use Rattle.std.proofs.Common.{ap₂, subst, ◌∙◌, inl, inr, le-leb}
use Rattle.std.proofs.Math.Bool.{not}
use mathlib.Core.List.{List, [], ◌∷◌, ◌++◌, map, map-append}
use mathlib.Core.List.{Memᴰ as Mem}
use Rattle.std.proofs.Math.Option.{Option, none, some}
use Rattle.forms.specs.Decimal.{top}
use Rattle.forms.specs.Lists.{all, any, sum}
use Rattle.forms.specs.ListLaws.{T_true, mem_snoc}
use Rattle.forms.specs.Forms.{Update, Added}
use Rattle.forms.specs.Held.{outcome_with, updates_of, Numbers, listed}
use Rattle.forms.specs.Limits.{history_limit}
use Rattle.forms.specs.Held.{AskedHeld}
use Rattle.forms.specs.declared.ReplyForm.{ReplyForm}
use Rattle.forms.specs.declared.Refusal.{Refusal}
use Rattle.forms.specs.declared.Refusal.TheVariants.{NothingOrders, IdPending, AlreadyDone, ReadOvertaken, HighestVersion, TableFull}
use Rattle.forms.specs.declared.Refusal.TheVariants.{OutOfTurn}
use Rattle.rules.specs.Book.{Cell}
use Rattle.rules.specs.Checks.{check, and_then, updates_refusal}
use Rattle.rule_laws.specs.CheckLaws.{check_none, and_then_none, formed_updates, not-le, or_false_left}
use Rattle.rules.specs.Poll.{asks_in, busy}
use Rattle.rule_laws.specs.PollLaws.{busy-added, busy_few}
use Rattle.rules.specs.State.{Operation, State, refused, ok, start_of, live, with_pending}
use Rattle.rules.specs.Calls.{Call, unless, writable, writable_update, perform, step, try_all, made_ready}
use Rattle.rules.specs.Calls.{add, add_refusal_when, add_refusal, arrived, nothing_orders, id_pending, id_done, already_done, read_overtaken}
use Rattle.rules.specs.Calls.{at_highest, table_full}
use Rattle.rules.specs.When.{add_when, perform_when, step_when}
use Rattle.rules.specs.Within.{uses_all, step_within}
use Rattle.history.specs.declared.History.{History}
use Rattle.history.specs.declared.Entry.{Entry}
use Rattle.history.specs.declared.Findings.{Findings}
use Rattle.history.specs.Asking.{HoldsUpdates, Enters}
use Rattle.history.specs.Entries.{cells_of, operation_of, InFirst}
use Rattle.history.specs.Words.{entry_in}
use Rattle.history.specs.BusyLaws.{items-asked, all_in_first, entry_few}
use Rattle.history.specs.Cells.{already_done_in, read_overtaken_in, at_highest_in, findings_in}
use Rattle.history.specs.AtLog.{asked-first, already_done_book, read_overtaken_book, at_highest_book}
use Rattle.table.specs.Tries.{try_all_in, operations_of}
use Rattle.table.specs.TryLaws.{try_all_is}
use Rattle.site.specs.declared.seen.CheckInputs.{CheckInputs}
use Rattle.site.specs.Representation.{Representation, state_of, pending_in, waiting_in, Sound}
use Rattle.site.specs.ModelLaws.{AcceptsCall, step_performs, accepts-step, says_lists, Means, means_is, means_none}
use Rattle.site.specs.QueueLaws.{with_queue, carries_queue}
use Rattle.site.specs.ShowLaws.{count_most}
use Rattle.site.specs.CheckInputs.{Sees, conflict_refusal, entry_refusal, added_operation}
use Rattle.site.specs.SeenLaws.{live_is}

-- ### Refusals

module _ (x : CheckInputs) (hs : List History) (i : ℕ) (us : List Update) (full : Bool) (st : State) (s : Sees x hs i full st) where
  -- the checks behind turn and form, by what was read
  abbrev others : Option Refusal
  others =
      check (nothing_orders us) NothingOrders
      (conflict_refusal x.pending (x.done || any (already_done st) us) (any (read_overtaken st) us) (any (at_highest st) us)
      x.full false)

  pub add_refusal_is : add_refusal_when full i us st ≡ check x.restoring OutOfTurn (and_then (updates_refusal x.count us) others)
  unfolding conflict_refusal check
  add_refusal_is =
      sym (λ j. check (s.restoring j) OutOfTurn (and_then (updates_refusal (s.count j) us) (check (nothing_orders us) NothingOrders
      (conflict_refusal (s.pending j) (s.done j || any (already_done st) us) (any (read_overtaken st) us) (any (at_highest st) us)
      (s.full j) false))))

  pub entry_is : updates_refusal x.count us ≡ none → (e : Entry) → Enters (added_operation i us) e →
      entry_refusal x (cells_of hs) (operation_of e).updates ≡ others
  unfolding entry_refusal
  entry_is formed e enters =
      λ j. check (nothing j) NothingOrders (conflict_refusal x.pending (ran j) (late j) (top_is j) x.full false)
    where
      within : InFirst x.count e
      within =
          asked-first x.count e enters.usable
          (ap (λ (y : Operation). updates_refusal x.count y.updates) enters.operation ∙ formed)

      nothing : nothing_orders (operation_of e).updates ≡ nothing_orders us
      nothing = ap (λ (y : Operation). nothing_orders y.updates) enters.operation

      ran : (x.done || any (already_done_in (cells_of hs)) (operation_of e).updates) ≡ (x.done || any (already_done st) us)
      ran =
          ap (◌||◌ x.done) (already_done_book x.count hs st s.book e within
          ∙ ap (λ (y : Operation). any (already_done st) y.updates) enters.operation)

      late : any (read_overtaken_in (cells_of hs)) (operation_of e).updates ≡ any (read_overtaken st) us
      late =
          read_overtaken_book x.count hs st s.book e within
          ∙ ap (λ (y : Operation). any (read_overtaken st) y.updates) enters.operation

      top_is : any (at_highest_in (cells_of hs)) (operation_of e).updates ≡ any (at_highest st) us
      top_is =
          at_highest_book x.count hs st s.book e within
          ∙ ap (λ (y : Operation). any (at_highest st) y.updates) enters.operation

-- ### By what one pass has found

module _ (x : CheckInputs) (cells : ℕ → Cell) (us : List Update) (f : Findings) (e : f ≡ findings_in cells us) where
  -- 6
  orders_is : nothing_orders us ≡ (f.strong && not f.orders)
  unfolding nothing_orders findings_in
  orders_is = sym (ap (λ (g : Findings). g.strong && not g.orders) e)

  pub nothing_orders_is : (f.strong && not f.orders) ≡ true → entry_refusal x cells us ≡ some NothingOrders
  unfolding check entry_refusal
  nothing_orders_is z = rw (orders_is ∙ z) refl

  pub conflict_is : (f.strong && not f.orders) ≡ false → (done : Bool) → done ≡ (x.done || f.ran) →
      conflict_refusal x.pending done f.overtaken f.highest x.full false ≡ entry_refusal x cells us
  unfolding check entry_refusal findings_in
  conflict_is z done d = λ j.
      check (sym (orders_is ∙ z) j) NothingOrders
      (conflict_refusal x.pending ((d ∙ ap (λ (g : Findings). x.done || g.ran) e) j) (e j).overtaken (e j).highest x.full false)

-- What passed all checks: `full` does not say that the site may use no more entries.
pub record Free (full : Bool) (i : ℕ) (us : List Update) (st : State) : Type 0 where
  pub turn : st.restoring ≡ false
  pub formed : updates_refusal st.histories us ≡ none
  pub own : full ≡ false

free_when : (full : Bool) (i : ℕ) (us : List Update) (st : State) → add_refusal_when full i us st ≡ none → Free full i us st
free_when full i us st e =
    let a = check_none st.restoring OutOfTurn _ e in
    let b = and_then_none (updates_refusal st.histories us) _ a.1 in
    let c = check_none (nothing_orders us) NothingOrders _ b.1 in
    let d = check_none (id_pending i st) IdPending _ c.1 in
    let f = check_none (id_done i st || any (already_done st) us) AlreadyDone _ d.1 in
    let g = check_none (any (read_overtaken st) us) ReadOvertaken _ f.1 in
    let u = check_none (any (at_highest st) us) HighestVersion _ g.1 in
    let h = check_none (full || table_full st) TableFull none u.1 in
    record { turn = a.0; formed = b.0; own = or_false_left full (table_full st) h.0 }

-- .. then the checks of a site alone passed
pub free_own : (full : Bool) (i : ℕ) (us : List Update) (st : State) → add_refusal_when full i us st ≡ none →
    (full ≡ false) × (add_refusal i us st ≡ none)
unfolding add_refusal
free_own full i us st e =
    let own = (free_when full i us st e).own in
    (own, subst (λ (b : Bool). add_refusal_when b i us st ≡ none) own e)

pub free_of : (i : ℕ) (us : List Update) (st : State) → add_refusal i us st ≡ none → Free false i us st
unfolding add_refusal
free_of i us st e = free_when false i us st e

-- updates that passed 2 to 5 are those of the entry made of them
pub asked_enters : (i n : ℕ) (a : AskedHeld) (us : List Update) → HoldsUpdates a us → updates_refusal n us ≡ none →
    (e : Entry) → Enters (added_operation i (updates_of a)) e → Enters (added_operation i us) e
unfolding updates_of
asked_enters i n a us h f e x =
    subst (λ (l : List Update). Enters (added_operation i l) e) (h.first (omega (arith, h.count, (formed_updates n us f).few))) x

-- ### The call

pub add_performs : (i : ℕ) (us : List Update) (st : State) → i ≤ top → T (all writable_update us) → step (Call.Add i us) st ≡ add i us st
unfolding writable perform
add_performs i us st le w = step_performs (Call.Add i us) st (ap₂ ◌&&◌ (le-leb i top le) (T_true (all writable_update us) w))

pub add_refused_lem : (n i : ℕ) (us : List Update) (st : State) → i ≤ top → T (all writable_update us) → (q : Refusal) →
    add_refusal_when (uses_all n st) i us st ≡ some q →
    step_within n (Call.Add i us) st ≡ refused q
unfolding step_within step_when perform_when add_when writable check unless
add_refused_lem n i us st le w q e = rw (le-leb i top le, T_true (all writable_update us) w, e) refl

pub add_accepted : (i : ℕ) (us : List Update) (st : State) → i ≤ top → T (all writable_update us) → add_refusal i us st ≡ none →
    step (Call.Add i us) st ≡ ok (with_pending (try_all (start_of st) st.log (arrived i us st)) st)
    (Added (made_ready (arrived i us st) (try_all (start_of st) st.log (arrived i us st))))
unfolding add unless
add_accepted i us st le w e = add_performs i us st le w ∙ rw e refl

module _ (s : Representation) (bytes : List ℕ) (v : Sound s bytes) (i : ℕ) (us : List Update) (le : i ≤ top) (w : T (all writable_update us))
    (free : add_refusal i us (state_of s bytes) ≡ none) (e : Entry) (x : Enters (added_operation i us) e)
    (q : List Entry) (more : q ≡ s.queue ++ (e ∷ [])) (tq : List Entry)
    (queue : operations_of tq ≡ try_all_in (cells_of s.histories) (operations_of q)) (ns : Numbers)
    (ids : Means ns (made_ready (operations_of q) (try_all_in (cells_of s.histories) (operations_of q))))
    (numbers : List ℕ) (counts : (h : ℕ) → h < history_limit → get_or numbers h 0 ≡ get_or s.busy h 0 + sum (entry_in h) (e ∷ [])) where
  abbrev st : State
  st = state_of s bytes

  idle : s.restoring ≡ false
  idle = (free_of i us st free).turn

  entries : operations_of q ≡ arrived i us st
  unfolding arrived
  entries =
      ap (map operation_of) more
      ∙ map-append operation_of s.queue (e ∷ [])
      ∙ ap (λ (y : Operation). map operation_of s.queue ++ (y ∷ [])) x.operation
      ∙ ap (λ (b : Bool). pending_in b s ++ (added_operation i us ∷ [])) (sym idle)

  -- the histories of the operations are those of the site
  arrived_low : (y : Operation) → Mem y (arrived i us st) → (u : Update) → Mem u y.updates → u.history < s.count
  unfolding Sound arrived
  arrived_low y m u k = go (mem_snoc st.pending m)
    where
      go : (y ≡ added_operation i us) ⊎ Mem y st.pending → u.history < s.count
      go (inl e) =
          (formed_updates s.count us (free_of i us st free).formed).known u (subst (λ (z : Operation). Mem u z.updates) e k)
      go (inr p) = (formed_updates s.count y.updates (v.good.pending_formed y p).passes).known u k

  tried : try_all_in (cells_of s.histories) (operations_of q) ≡ try_all (start_of st) st.log (arrived i us st)
  unfolding Sound
  tried =
      ap (try_all_in (cells_of s.histories)) entries
      ∙ try_all_is (start_of st) s.count st.log s.histories (arrived i us st) v.carries.book arrived_low

  ready : Means ns (made_ready (arrived i us st) (try_all (start_of st) st.log (arrived i us st)))
  ready = means_is ids (ap₂ made_ready entries tried)

  abbrev after : Representation
  after = with_queue tq s.restoring s.reserved numbers s

  counted : (h : ℕ) → h < s.count → get_or numbers h 0 ≡ busy (with_pending (try_all (start_of st) st.log (arrived i us st)) st) h
  unfolding Sound
  counted h lt =
      omega (
        arith,
        counts h (omega (arith, lt, count_most s bytes v)),
        v.carries.busy h lt,
        busy-added i us st h,
        items-asked h e,
        ap (asks_in h) x.operation,
      )

  pub add_does : (ys : List ℕ) →
      AcceptsCall bytes (step (Call.Add i us) st)
      (record { site = after; reply = record { form = ReplyForm.Added; first = ns; second = listed 0 ys } }) bytes
  unfolding Sound outcome_with
  add_does ys =
      accepts-step s bytes (Call.Add i us) (with_pending (try_all (start_of st) st.log (arrived i us st)) st)
      (Added (made_ready (arrived i us st) (try_all (start_of st) st.log (arrived i us st)))) _ bytes v
      (add_accepted i us st le w free)
      (says_lists _ (made_ready (arrived i us st) (try_all (start_of st) st.log (arrived i us st))) [] ready (means_none ys) tt)
      (carries_queue s bytes st v.carries tq s.restoring s.reserved numbers (try_all (start_of st) st.log (arrived i us st))
      st.waiting
      (ap (λ (z : Bool). pending_in z after) idle ∙ queue ∙ tried)
      (ap (λ (z : Bool). waiting_in z after) idle ∙ sym (ap (λ (z : Bool). waiting_in z s) idle))
      v.carries.reserved counted)
      refl

-- ### From the code's tests

-- there is room for one entry more
pub room_left : (s : Representation) (bytes : List ℕ) → Sound s bytes → (n : ℕ) → uses_all n (state_of s bytes) ≡ false →
    length s.finished + length s.queue < n
unfolding Sound
room_left s bytes v n own = omega (arith, live_is s bytes v.carries, not-le n (live (state_of s bytes)) own)

-- an add that passed all checks
module _ (s : Representation) (bytes : List ℕ) (v : Sound s bytes) (i : ℕ) (us : List Update)
    (free : add_refusal i us (state_of s bytes) ≡ none) where
  -- its histories are those of the site, whose numbers are small
  pub passed_first : (e : Entry) → Enters (added_operation i us) e → InFirst s.count e
  passed_first e x =
      asked-first s.count e x.usable
      (ap (λ (y : Operation). updates_refusal s.count y.updates) x.operation ∙ (free_of i us (state_of s bytes) free).formed)

  pub passed-counts : (e : Entry) → Enters (added_operation i us) e → (k : ℕ) → 1 ≤ entry_in k e → get_or s.busy k 0 + entry_in k e ≤ top
  unfolding Sound
  passed-counts e x k one =
      let lt : k < s.count = all_in_first s.count e (passed_first e x) k (omega (arith, one)) in
      omega (arith, v.carries.busy k lt, busy_few (state_of s bytes) k v.good, entry_few k e x.usable)
