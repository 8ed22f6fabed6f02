-- Laws of one pass over the future operations: each round tries one entry of a list, and at the end the list is the specification's.
use Rattle.std.specs.Prelude.{ℕ, suc, ◌+◌, ◌≤◌, ◌<◌, ◌≡◌, refl, ◌⊎◌, Bool, true, not, ◌&&◌, ◌||◌, length, get_or, take, drop, set}
use Rattle.std.proofs.Common.{add-one, arith, ◌∙◌, inl, inr, drop_of_length-le, drop-cons, get_or-drop, take_all, length-take-le}
use Rattle.std.proofs.Math.Path.{sym, ap, ap₂, subst}
use Rattle.std.proofs.Math.Bool.{false, cond, or_assoc, or_comm, and-not_self}
use mathlib.Core.List.{List, [], ◌∷◌, ◌++◌, map-append, append-nil}
use mathlib.Core.List.{Memᴰ as Mem}
use Rattle.std.proofs.Math.ListN.{length-set}
use Rattle.std.proofs.lemmas.List.{length-map, set_split, set-get_or}
use Rattle.std.proofs.Math.Seq.{split_at, drop-drop, drop-set-lt}
use Rattle.forms.specs.Lists.{any}
use Rattle.forms.specs.ListLaws.{mem-at}
use Rattle.forms.specs.Held.{Numbers, listed}
use Rattle.forms.specs.Forms.{Update}
use Rattle.forms.specs.Write.{Wrote}
use Rattle.forms.specs.Limits.{live_limit}
use Rattle.rules.specs.Book.{Cell}
use Rattle.rules.specs.State.{Operation}
use Rattle.rules.specs.Calls.{made_ready}
use Rattle.history.specs.declared.Entry.{Entry}
use Rattle.history.specs.Entries.{operation_of, UsableEntry}
use Rattle.table.specs.declared.Marks.{Marks}
use Rattle.history.specs.Lists.{Lists}
use Rattle.table.specs.Lists.{IsNumbers}
use Rattle.table.specs.Rows.{begun}
use Rattle.table.specs.Tries.{attempt_in, try_from_in, try_all_in, gather, held, held_of, entry_updates, MarksOf, More, starts_by}
use Rattle.table.specs.Tries.{operations_of}
use Rattle.table.specs.LoopLaws.{take_push, take_next, mem-set, any_append}
use Rattle.table.specs.NumberLaws.{no_numbers}
use Rattle.table.specs.RangeLaws.{past_entry}
use Rattle.table.specs.EntryLaws.{usable_history}
use Rattle.table.specs.MarkLaws.{gather_append, gather-map, marked_like, marked_more}
use Rattle.table.specs.TryLaws.{attempt_yes, attempt_no}

made_snoc : (a b : List Operation) (x y : Operation) → length a ≡ length b
    → made_ready (a ++ (x ∷ [])) (b ++ (y ∷ [])) ≡ made_ready a b ++ cond (y.running && not x.running) (y.id ∷ []) []
unfolding made_ready
made_snoc [] [] x y e = refl
made_snoc [] (z ∷ b) x y e = absurd (omega arith)
made_snoc (z ∷ a) [] x y e = absurd (omega arith)
made_snoc (z ∷ a) (w ∷ b) x y e = go (w.running && not z.running) (made_snoc a b x y (omega arith))
  where
    go : (t : Bool) → made_ready (a ++ (x ∷ [])) (b ++ (y ∷ [])) ≡ made_ready a b ++ cond (y.running && not x.running) (y.id ∷ []) []
        → cond t (w.id ∷ made_ready (a ++ (x ∷ [])) (b ++ (y ∷ []))) (made_ready (a ++ (x ∷ [])) (b ++ (y ∷ [])))
        ≡ cond t (w.id ∷ made_ready a b) (made_ready a b) ++ cond (y.running && not x.running) (y.id ∷ []) []
    go true q = ap (λ (l : List ℕ). w.id ∷ l) q
    go false q = q

-- After the first i entries of `before` have been tried: the entries now, the marks of those in progress, and the ids made ready.
pub record TriedTo (cells : ℕ → Cell) (before now : List Entry) (m : Marks) (old : List ℕ) (start : ℕ) (ns : Numbers) (i : ℕ) : Type 0 where
  pub each : (e : Entry) → Mem e now → UsableEntry e
  pub same : length now ≡ length before
  pub behind : drop i now ≡ drop i before
  pub tries : try_from_in cells (operations_of (take i now)) (operations_of (drop i now)) ≡ try_all_in cells (operations_of before)
  pub few : ns.count ≤ i
  pub ready : IsNumbers old start ns.count ns.values (made_ready (operations_of (take i before)) (operations_of (take i now)))
  pub marks : MarksOf m (gather held_of now)

pub passed_none : (cells : ℕ → Cell) (l : List Entry) (m : Marks) (old : List ℕ) (start : ℕ) → ((e : Entry) → Mem e l → UsableEntry e)
    → MarksOf m (gather held_of l)
    → length old ≡ 68 → TriedTo cells l l m old start (listed 0 old) 0
unfolding made_ready
passed_none cells [] m old start each marks long =
    record { each = each; same = refl; behind = refl; tries = refl; few = omega arith; ready = no_numbers old start long; marks = marks }
passed_none cells (x ∷ l) m old start each marks long =
    record { each = each; same = refl; behind = refl; tries = refl; few = omega arith; ready = no_numbers old start long; marks = marks }

module _ (cells : ℕ → Cell) (before now : List Entry) (m : Marks) (old₀ : List ℕ) (start : ℕ) (ns : Numbers) (i : ℕ)
    (p : TriedTo cells before now m old₀ start ns i) (lt : i < length now) where
  -- the ids made ready so far
  abbrev pub ids : List ℕ
  ids = made_ready (operations_of (take i before)) (operations_of (take i now))

  -- the entry that is tried, and those around it
  abbrev this : Entry
  this = get_or now i past_entry

  split : operations_of now ≡ operations_of (take i now) ++ operation_of this ∷ operations_of (drop (suc i) now)
  split = ap operations_of (split_at now i past_entry lt) ∙ map-append operation_of (take i now) (this ∷ drop (suc i) now)

  pub here_usable : UsableEntry this
  here_usable = p.each this (subst (Mem this) (sym (split_at now i past_entry lt)) (mem-at this (take i now) (drop (suc i) now)))

  untried : get_or before i past_entry ≡ this
  untried =
      let z : i + 0 ≡ i = omega arith in
      ap (λ (k : ℕ). get_or before k past_entry) (sym z)
      ∙ sym (get_or-drop i before 0 past_entry)
      ∙ ap (λ (l : List Entry). get_or l 0 past_entry) (sym p.behind)
      ∙ get_or-drop i now 0 past_entry
      ∙ ap (λ (k : ℕ). get_or now k past_entry) z

  marked_here : MarksOf m (gather held (operations_of (take i now) ++ operation_of this ∷ operations_of (drop (suc i) now)))
  marked_here = subst (MarksOf m) (sym (gather-map operation_of held now) ∙ ap (gather held) split) p.marks

  -- One try: the entry becomes e.
  step : (e : Entry) (r : Marks) (ks : Numbers) → UsableEntry e
      → operation_of e ≡ attempt_in cells (operations_of (take i now) ++ operations_of (drop (suc i) now)) (operation_of this)
      → MarksOf r (gather held_of (set now i e)) → ks.count ≤ i + 1
      → IsNumbers old₀ start ks.count ks.values (ids ++ cond (e.running && not this.running) (e.id ∷ []) [])
      → TriedTo cells before (set now i e) r old₀ start ks (i + 1)
  unfolding operation_of try_from_in
  step e r ks w att marks few is = record {
    each = λ x k. cases x (mem-set now i e k);
    same = length-set now i e ∙ p.same;
    behind = drop-set-lt (i + 1) now i e (omega arith) ∙ sym (drop-drop 1 i now) ∙ ap (drop 1) p.behind ∙ drop-drop 1 i before;
    tries =
        ap₂ (try_from_in cells) front rest
        ∙ ap (λ (y : Operation). try_from_in cells (operations_of (take i now) ++ (y ∷ [])) (operations_of (drop (suc i) now))) att
        ∙ sym (ap (λ (l : List Operation). try_from_in cells (operations_of (take i now)) l) (ap operations_of (drop-cons now i past_entry lt)))
        ∙ p.tries;
    few = few;
    ready = subst (IsNumbers old₀ start ks.count ks.values) (sym made) is;
    marks = marks;
  }
    where
      cases : (x : Entry) → (x ≡ e) ⊎ Mem x now → UsableEntry x
      cases x (inl q) = subst UsableEntry (sym q) w
      cases x (inr k) = p.each x k

      front : operations_of (take (i + 1) (set now i e)) ≡ operations_of (take i now) ++ (operation_of e ∷ [])
      front = ap operations_of (take_push now i e lt) ∙ map-append operation_of (take i now) (e ∷ [])

      rest : operations_of (drop (i + 1) (set now i e)) ≡ operations_of (drop (suc i) now)
      rest = ap operations_of (drop-set-lt (i + 1) now i e (omega arith) ∙ ap (λ (k : ℕ). drop k now) (add-one i))

      old : operations_of (take (i + 1) before) ≡ operations_of (take i before) ++ (operation_of this ∷ [])
      old =
          ap operations_of (take_next before past_entry i (omega (arith, p.same)))
          ∙ map-append operation_of (take i before) (get_or before i past_entry ∷ [])
          ∙ ap (λ (x : Entry). operations_of (take i before) ++ (operation_of x ∷ [])) untried

      long : length (operations_of (take i before)) ≡ length (operations_of (take i now))
      long =
          length-map (take i before) operation_of
          ∙ length-take-le i before (omega (arith, p.same))
          ∙ sym (length-map (take i now) operation_of ∙ length-take-le i now (omega arith))

      made : made_ready (operations_of (take (i + 1) before)) (operations_of (take (i + 1) (set now i e)))
          ≡ made_ready (operations_of (take i before)) (operations_of (take i now)) ++ cond (e.running && not this.running) (e.id ∷ []) []
      made =
          ap₂ made_ready old front
          ∙ made_snoc (operations_of (take i before)) (operations_of (take i now)) (operation_of this) (operation_of e) long

  -- the marks with those of the entry in progress
  begun_marks : (r : Marks) → this.running ≡ false → More r m (entry_updates this) → MarksOf r (gather held_of (set now i (begun this)))
  unfolding gather operation_of
  begun_marks r e more =
      marked_like r (gather held_of now ++ entry_updates this) (gather held_of (set now i (begun this))) same
      (marked_more m r (gather held_of now) (entry_updates this) p.marks more)
    where
      a : List Update
      a = gather held_of (take i now)

      b : List Update
      b = gather held_of (drop (suc i) now)

      was : gather held_of now ≡ a ++ b
      was =
          ap (gather held_of) (split_at now i past_entry lt)
          ∙ gather_append held_of (take i now) (this ∷ drop (suc i) now)
          ∙ ap (λ (t : Bool). a ++ (cond t (entry_updates this) [] ++ b)) e

      is : gather held_of (set now i (begun this)) ≡ a ++ (entry_updates this ++ b)
      is = ap (gather held_of) (set_split now i (begun this) lt) ∙ gather_append held_of (take i now) (begun this ∷ drop (suc i) now)

      turn : (x y z : Bool) → (x || y || z) ≡ (x || (z || y))
      turn x y z = or_assoc x y z ∙ ap (λ (t : Bool). x || t) (or_comm y z)

      same : (q : Update → Bool) → any q (gather held_of now ++ entry_updates this) ≡ any q (gather held_of (set now i (begun this)))
      same q =
          any_append q (gather held_of now) (entry_updates this)
          ∙ ap (λ (l : List Update). any q l || any q (entry_updates this)) was
          ∙ ap (λ (t : Bool). t || any q (entry_updates this)) (any_append q a b)
          ∙ turn (any q a) (any q b) (any q (entry_updates this))
          ∙ sym
          (ap (any q) is ∙ any_append q a (entry_updates this ++ b) ∙ ap (λ (t : Bool). any q a || t) (any_append q (entry_updates this) b))

  pub step_yes : (r : Marks) (ks : Numbers) → starts_by cells m (operation_of this) ≡ true → More r m (entry_updates this)
      → IsNumbers old₀ start ks.count ks.values (ids ++ (this.id ∷ [])) → ks.count ≡ ns.count + 1
      → TriedTo cells before (set now i (begun this)) r old₀ start ks (i + 1)
  unfolding operation_of
  step_yes r ks s more is n =
      let y = attempt_yes cells m (operations_of (take i now)) (operation_of this) (operations_of (drop (suc i) now)) marked_here
      (usable_history this here_usable) s in
      let f : this.running ≡ false = y.0 in
      step (begun this) r ks (record { few = here_usable.few; long = here_usable.long; each = here_usable.each }) (sym y.1)
      (begun_marks r f more)
      (omega (arith, p.few))
      (subst (λ (t : Bool). IsNumbers old₀ start ks.count ks.values (ids ++ cond (not t) (this.id ∷ []) [])) (sym f) is)

  pub step_no : starts_by cells m (operation_of this) ≡ false → TriedTo cells before now m old₀ start ns (i + 1)
  unfolding operation_of
  step_no s =
      subst (λ (l : List Entry). TriedTo cells before l m old₀ start ns (i + 1)) (set-get_or now i past_entry)
      (step this m ns here_usable
      (sym (attempt_no cells m (operations_of (take i now)) (operation_of this) (operations_of (drop (suc i) now)) marked_here
      (usable_history this here_usable) s))
      (subst (λ (l : List Entry). MarksOf m (gather held_of l)) (sym (set-get_or now i past_entry)) p.marks)
      (omega (arith, p.few))
      (subst (IsNumbers old₀ start ns.count ns.values)
      (sym (append-nil ids) ∙ ap (λ (b : Bool). ids ++ cond b (this.id ∷ []) []) (sym (and-not_self this.running))) p.ready))

-- The end of the pass: the entries are as the specification tries them, and the ids made ready are written.
module _ (cells : ℕ → Cell) (l k : List Entry) (m : Marks) (old : List ℕ) (start : ℕ) (ready : Numbers) (i : ℕ)
    (p : TriedTo cells l k m old start ready i)
    (whole : i ≡ length l) where
  done : (xs ys : List Operation) → ys ≡ [] → try_from_in cells xs ys ≡ xs
  unfolding try_from_in
  done xs ys e = ap (try_from_in cells xs) e

  all : take i k ≡ k
  all = take_all i k (omega (arith, p.same))

  pub tried_all : operations_of k ≡ try_all_in cells (operations_of l)
  tried_all =
      let h : length k ≤ i = omega (arith, p.same) in
      ap operations_of (sym all)
      ∙ sym (done (operations_of (take i k)) (operations_of (drop i k)) (ap operations_of (drop_of_length-le k h)))
      ∙ p.tries

  pub ready-all : start + i ≤ 68 → i ≤ live_limit
      → Lists old start (made_ready (operations_of l) (try_all_in cells (operations_of l))) ready.count ready.values
  ready-all early few = record {
    few = omega (arith, p.few);
    room = omega (arith, early, p.few, p.ready.long);
    wrote =
        subst (λ (ids : List ℕ). Wrote old start ids (start + ready.count) ready.values)
        (ap₂ made_ready (ap operations_of (take_all i l (omega arith))) (ap operations_of all ∙ tried_all)) p.ready.wrote;
  }
