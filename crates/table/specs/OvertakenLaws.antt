-- Laws of the walk that lets overtaken operations leave: what has left and what stays, one entry after the other.
use Rattle.std.specs.Prelude.{ℕ, suc, ◌+◌, ◌-◌, ◌≤◌, ◌<◌, ◌≡◌, refl, Bool, true, false, cond, not, ◌||◌, List, [], ◌∷◌, ◌++◌, map, ltb, length, get_or, take, drop}
use Rattle.std.proofs.Common.{add-one, arith, sym, ap, ap₂, subst, ◌∙◌, append_assoc, append-nil, ltb-true, ltb-false, length-append, take_all, take_at, length-take-le}
use Rattle.std.proofs.lemmas.List.{map-append}
use Rattle.std.proofs.Math.ListN.{get_or-eq_default}
use Rattle.std.proofs.Math.Seq.{split_at}
use Rattle.forms.specs.Lists.{any, keep, sum}
use Rattle.forms.specs.ListLaws.{keep_append, sum_mid}
use Rattle.forms.specs.Write.{Wrote}
use Rattle.forms.specs.Limits.{history_limit, live_limit}
use Rattle.history.specs.declared.Entry.{Entry}
use Rattle.history.specs.declared.History.{History}
use Rattle.history.specs.BusyLaws.{counts_none, counts_then}
use Rattle.history.specs.Cells.{overtaken_in}
use Rattle.history.specs.Entries.{cells_of, operation_of}
use Rattle.history.specs.Tests.{or_false_parts}
use Rattle.history.specs.Words.{busy_in, entry_in, CountsMore}
use Rattle.history.specs.WordLaws.{column_long}
use Rattle.table.specs.declared.Table.{Table}
use Rattle.table.specs.declared.Dropped.{Dropped}
use Rattle.table.specs.Lists.{IsNumbers}
use Rattle.table.specs.LoopLaws.{any-more}
use Rattle.table.specs.NumberLaws.{numbers-next, no_numbers}
use Rattle.table.specs.Overtaken.{overtaken_entry, stays_entry, row_in, Covers, Leaves, Examines, Drops}
use Rattle.table.specs.RangeLaws.{past_entry}
use Rattle.table.specs.StepLaws.{frame_same, becomes_same}
use Rattle.table.specs.TableLaws.{queue-length, queue-at, removed, removed_done}
use Rattle.table.specs.Tables.{finished_rows, queue_rows, live_numbers, id_of, Owns, Becomes}

-- ### One element leaves a list

module _ {A : Type 0} (p : A → Bool) where
  -- of elements none of which passes the test none leaves, and all stay
  pub none_leave : (l : List A) → any p l ≡ false → keep p l ≡ []
  none_leave [] e = refl
  none_leave (x ∷ l) e = let q = or_false_parts (p x) (any p l) e in rw q.0 (none_leave l q.1)

  pub all_stay : (l : List A) → any p l ≡ false → keep (λ (x : A). not (p x)) l ≡ l
  all_stay [] e = refl
  all_stay (x ∷ l) e =
      let q = or_false_parts (p x) (any p l) e in rw q.0 (ap (λ (k : List A). x ∷ k) (all_stay l q.1))

module _ {A : Type 0} (d : A) (l : List A) (i : ℕ) (lt : i < length l) where
  -- the list around the element at i
  pub around : l ≡ take i l ++ get_or l i d ∷ drop (i + 1) l
  around = split_at l i d lt ∙ ap (λ (k : ℕ). take i l ++ get_or l i d ∷ drop k l) (sym (add-one i))

  -- the first that passes the test is the first to leave
  pub first-leaves : (p : A → Bool) → any p (take i l) ≡ false → p (get_or l i d) ≡ true
      → keep p l ≡ get_or l i d ∷ keep p (take i l ++ drop (i + 1) l)
  first-leaves p none hit =
      let x = get_or l i d in
      let a = take i l in
      let b = drop (i + 1) l in
      ap (keep p) around
      ∙ keep_append p a (x ∷ b)
      ∙ ap₂ (λ (m : List A) (t : Bool). m ++ cond t (x ∷ keep p b) (keep p b)) (none_leave p a none) hit
      ∙ ap (λ (m : List A). x ∷ (m ++ keep p b)) (sym (none_leave p a none))
      ∙ ap (λ (m : List A). x ∷ m) (sym (keep_append p a b))

  -- .. and those that stay are the same without it
  pub others-stay : (p : A → Bool) → p (get_or l i d) ≡ true
      → keep (λ (x : A). not (p x)) (take i l ++ drop (i + 1) l) ≡ keep (λ (x : A). not (p x)) l
  others-stay p hit =
      let stays : A → Bool = λ (x : A). not (p x) in
      let a = take i l in
      let b = drop (i + 1) l in
      keep_append stays a b
      ∙ sym
      (ap (keep stays) around
      ∙ keep_append stays a (get_or l i d ∷ b)
      ∙ ap (λ (t : Bool). keep stays a ++ cond (not t) (get_or l i d ∷ keep stays b) (keep stays b)) hit)

  -- what it weighs, the others weigh less
  pub sum-without : (f : A → ℕ) → sum f l ≡ f (get_or l i d) + sum f (take i l ++ drop (i + 1) l)
  sum-without f = ap (sum f) around ∙ sum_mid f (take i l) (get_or l i d) (drop (i + 1) l)

  -- those before it are as they were
  pub same-before : take i (take i l ++ drop (i + 1) l) ≡ take i l
  same-before = take_at (take i l) (drop (i + 1) l) i (length-take-le i l (omega arith))

-- ### The busy numbers

-- a history that is not there has none
none_past : (book : List ℕ) (h : ℕ) → history_limit ≤ h → get_or (busy_in book) h 0 ≡ 0
none_past book h le = get_or-eq_default (busy_in book) 0 {n = h} (omega (arith, column_long 5 book, le))

-- what is left in a list of entries is covered after one has left
covers_less : (book book' : List ℕ) (l : List Entry) (i : ℕ) → i < length l → Covers book l
    → CountsMore (get_or l i past_entry ∷ []) book' book → Covers book' (take i l ++ drop (i + 1) l)
covers_less book book' l i lt enough less h some = go (ltb h history_limit) refl
  where
    rest : List Entry
    rest = take i l ++ drop (i + 1) l

    whole : sum (entry_in h) l ≡ entry_in h (get_or l i past_entry) + sum (entry_in h) rest
    whole = sum-without past_entry l i lt (entry_in h)

    covered : sum (entry_in h) l ≤ get_or (busy_in book) h 0
    covered = enough h (omega (arith, whole, some))

    go : (b : Bool) → ltb h history_limit ≡ b → sum (entry_in h) rest ≤ get_or (busy_in book') h 0
    go true e = omega (arith, whole, covered, less.numbers h (ltb-true h history_limit e))
    go false e = absurd (omega (arith, whole, some, covered, none_past book h (ltb-false h history_limit e)))

-- ### The walk

-- After the first entries were examined: those that have left, and i that stay before the next.
pub record Dropping (t : Table) (o ws book lists : List ℕ) (at : ℕ) (d : Dropped) (p book' lists' : List ℕ) (i : ℕ) : Type 0 where
  pub out : List Entry
  pub becomes : Becomes o ws d.table p ws (finished_rows t o ws) (queue_rows d.table p ws)
  pub done : take d.table.finished p ≡ take t.finished o
  pub passed : any (overtaken_entry book) (take i (queue_rows d.table p ws)) ≡ false
  pub stay : keep (stays_entry book) (queue_rows d.table p ws) ≡ keep (stays_entry book) (queue_rows t o ws)
  pub leave : out ++ keep (overtaken_entry book) (queue_rows d.table p ws) ≡ keep (overtaken_entry book) (queue_rows t o ws)
  pub many : d.count ≡ length out
  pub room : at + d.count ≤ length lists
  pub left : d.table.queue + d.count ≡ t.queue
  pub named : IsNumbers lists at d.count lists' (map id_of out)
  pub counts : CountsMore out book' book
  pub enough : Covers book' (queue_rows d.table p ws)

-- at first
pub dropping_none : (t : Table) (o ws book lists : List ℕ) (at : ℕ) → Owns t o ws → Covers book (queue_rows t o ws) → length lists ≡ 68
    → at ≤ 68 → Dropping t o ws book lists at (record { table = t; count = 0 }) o book lists 0
dropping_none t o ws book lists at own enough long early =
    record {
      out = [];
      becomes = becomes_same t o ws own;
      done = refl;
      passed = refl;
      stay = refl;
      leave = refl;
      many = refl;
      room = omega (arith, long, early);
      left = omega arith;
      named = no_numbers lists at long;
      counts = counts_none book;
      enough = enough;
    }

-- an entry of a list that is covered
covers_one : (book : List ℕ) (l : List Entry) (i : ℕ) → i < length l → Covers book l → Covers book (get_or l i past_entry ∷ [])
covers_one book l i lt enough h some =
    let z = sum-without past_entry l i lt (entry_in h) in omega (arith, z, enough h (omega (arith, z, some)))

module _ (t : Table) (o ws book lists : List ℕ) (at : ℕ) (d : Dropped) (p book' lists' : List ℕ) (i : ℕ)
    (s : Dropping t o ws book lists at d p book' lists' i) (low : i < d.table.queue) where
  abbrev queue : List Entry
  queue = queue_rows d.table p ws

  own : Owns d.table p ws
  own = s.becomes.owns

  there : i < length queue
  there = omega (arith, low, queue-length d.table p ws own)

  -- the entry that is examined
  here : get_or queue i past_entry ≡ row_in d.table p ws i
  here = queue-at d.table p ws own i past_entry low

  -- the test against the book as it is now is the test against the book as it was
  same_test : (e : Entry) → overtaken_entry book' e ≡ overtaken_entry book e
  same_test e = ap (λ (hs : List History). overtaken_in (cells_of hs) (operation_of e)) (sym s.counts.histories)

  pub dropping_covers : Covers book' (row_in d.table p ws i ∷ [])
  dropping_covers = subst (λ (e : Entry). Covers book' (e ∷ [])) here (covers_one book' queue i there s.enough)

  -- one more that leaves is among those that leave in all
  pub dropping_room : at + length (keep (overtaken_entry book) (queue_rows t o ws)) ≤ 68
      → overtaken_entry book' (row_in d.table p ws i) ≡ true → at + d.count < 68
  dropping_room room hit =
      let first = first-leaves past_entry queue i there (overtaken_entry book) s.passed
      (ap (overtaken_entry book) here ∙ sym (same_test (row_in d.table p ws i)) ∙ hit) in
      let whole : length (s.out ++ keep (overtaken_entry book) queue) ≡ length (keep (overtaken_entry book) (queue_rows t o ws)) =
      ap (λ (l : List Entry). length l) s.leave in
      let more : length (keep (overtaken_entry book) queue)
      ≡ suc (length (keep (overtaken_entry book) (take i queue ++ drop (i + 1) queue))) =
      ap (λ (l : List Entry). length l) first in
      omega (arith, room, whole, more, length-append s.out (keep (overtaken_entry book) queue), s.many)

  -- The entry leaves.
  leaves : (r : Dropped) (p' book'' lists'' : List ℕ) → at + d.count < 68 → overtaken_entry book (row_in d.table p ws i) ≡ true
      → Leaves (row_in d.table p ws i) d i p book' lists' at r p' book'' lists''
      → Dropping t o ws book lists at r p' book'' lists'' i
  leaves r p' book'' lists'' room hit l =
      subst (λ (x : Dropped). Dropping t o ws book lists at x p' book'' lists'' i) (sym l.dropped)
      (record {
        out = s.out ++ (e ∷ []);
        becomes =
            record {
              owns = gone.owns;
              same = λ k. gone.same k ∙ s.becomes.same k;
              frame = frame_same (live_numbers u p') ws;
              finished_is = gone.finished_is ∙ s.becomes.finished_is;
              queue_is = refl;
            };
        done = removed_done d.table p ws own i low p' l.order ∙ s.done;
        passed = ap (any test) (ap (take i) gone.queue_is ∙ same-before past_entry queue i there) ∙ s.passed;
        stay = ap (keep (stays_entry book)) gone.queue_is ∙ others-stay past_entry queue i there test passes ∙ s.stay;
        leave = out-next;
        many = omega (arith, s.many, length-append s.out (e ∷ []));
        room = omega (arith, room, s.named.long);
        left = omega (arith, low, s.left);
        named =
            numbers-next lists at d.count lists' e.id (map id_of s.out) (map id_of (s.out ++ (e ∷ []))) lists'' s.named l.named
            room (map-append id_of s.out (e ∷ []));
        counts = counts_then s.out (e ∷ []) book'' book' book l.counts s.counts;
        enough =
            subst (Covers book'') (sym gone.queue_is)
            (covers_less book' book'' queue i there s.enough
            (subst (λ (x : Entry). CountsMore (x ∷ []) book'' book') (sym here) l.counts));
      })
    where
      u : Table
      u = record { finished = d.table.finished; queue = d.table.queue - 1 }

      e : Entry
      e = row_in d.table p ws i

      test : Entry → Bool
      test = overtaken_entry book

      passes : test (get_or queue i past_entry) ≡ true
      passes = ap test here ∙ hit

      gone : Becomes p ws u p' ws (finished_rows d.table p ws) (take i queue ++ drop (i + 1) queue)
      gone = removed d.table p ws own i low p' l.order

      out-next : (s.out ++ (e ∷ [])) ++ keep test (queue_rows u p' ws) ≡ keep test (queue_rows t o ws)
      out-next =
          append_assoc s.out (e ∷ []) (keep test (queue_rows u p' ws))
          ∙ ap (λ (k : List Entry). s.out ++ (e ∷ keep test k)) gone.queue_is
          ∙ ap (λ (x : Entry). s.out ++ (x ∷ keep test (take i queue ++ drop (i + 1) queue))) (sym here)
          ∙ ap (λ (k : List Entry). s.out ++ k) (sym (first-leaves past_entry queue i there test s.passed passes))
          ∙ s.leave

  -- The entry stays.
  stays : overtaken_entry book (row_in d.table p ws i) ≡ false → Dropping t o ws book lists at d p book' lists' (i + 1)
  stays miss =
      record {
        out = s.out;
        becomes = s.becomes;
        done = s.done;
        passed =
            any-more (overtaken_entry book) queue past_entry i there
            ∙ ap₂ ◌||◌ s.passed (ap (overtaken_entry book) here ∙ miss);
        stay = s.stay;
        leave = s.leave;
        many = s.many;
        room = s.room;
        left = s.left;
        named = s.named;
        counts = s.counts;
        enough = s.enough;
      }

  -- One entry more is examined, the k-th in all.
  pub dropping_next : (k : ℕ) → i ≡ k - d.count → d.count ≤ k → (r : Dropped) (p' book'' lists'' : List ℕ)
      → at + length (keep (overtaken_entry book) (queue_rows t o ws)) ≤ 68
      → Examines (overtaken_entry book' (row_in d.table p ws i)) (row_in d.table p ws i) d i p book' lists' at r p' book'' lists''
      → (r.count ≤ k + 1) × Dropping t o ws book lists at r p' book'' lists'' (k + 1 - r.count)
  dropping_next k at_place few r p' book'' lists'' room x = go (overtaken_entry book' (row_in d.table p ws i)) refl x
    where
      e : Entry
      e = row_in d.table p ws i

      go : (b : Bool) → overtaken_entry book' e ≡ b → Examines b e d i p book' lists' at r p' book'' lists''
          → (r.count ≤ k + 1) × Dropping t o ws book lists at r p' book'' lists'' (k + 1 - r.count)
      go true q l =
          let n : r.count ≡ d.count + 1 = ap (λ (x : Dropped). x.count) l.dropped in
          let z : i ≡ k + 1 - r.count = omega (arith, at_place, few, n) in (
            omega (arith, few, n),
            subst (Dropping t o ws book lists at r p' book'' lists'') z
                (leaves r p' book'' lists'' (dropping_room room q) (sym (same_test e) ∙ q) l),
          )
      go false q l =
          let n : r.count ≡ d.count = ap (λ (x : Dropped). x.count) l.dropped in
          let z : i + 1 ≡ k + 1 - r.count = omega (arith, at_place, few, n) in (
            omega (arith, few, n),
            subst (Dropping t o ws book lists at r p' book'' lists'') z
                (subst (λ (x : Dropped). Dropping t o ws book lists at x p' book'' lists'' (i + 1)) (sym l.dropped)
                (subst (λ (m : List ℕ). Dropping t o ws book lists at d m book'' lists'' (i + 1)) (sym l.order)
                (subst (λ (m : List ℕ). Dropping t o ws book lists at d p m lists'' (i + 1)) (sym l.book)
                (subst (λ (m : List ℕ). Dropping t o ws book lists at d p book' m (i + 1)) (sym l.lists)
                (stays (sym (same_test e) ∙ q)))))),
          )

-- All were examined.
pub dropping_all : (t : Table) (o ws book lists : List ℕ) (at : ℕ) (d : Dropped) (p book' lists' : List ℕ) (i : ℕ) → i ≡ d.table.queue
    → t.queue ≤ live_limit → Dropping t o ws book lists at d p book' lists' i → Drops t o ws book lists at d p book' lists'
dropping_all t o ws book lists at d p book' lists' i end few s =
    record {
      becomes =
          record {
            owns = s.becomes.owns;
            same = s.becomes.same;
            frame = s.becomes.frame;
            finished_is = s.becomes.finished_is;
            queue_is = sym (all_stay test queue none) ∙ s.stay;
          };
      done = s.done;
      named =
          record {
            few = omega (arith, s.left, few);
            room = s.room;
            wrote = subst (λ (l : List Entry). Wrote lists at (map id_of l) (at + d.count) lists') out_is s.named.wrote;
          };
      counts = subst (λ (l : List Entry). CountsMore l book' book) out_is s.counts;
    }
  where
    queue : List Entry
    queue = queue_rows d.table p ws

    test : Entry → Bool
    test = overtaken_entry book

    none : any test queue ≡ false
    none = ap (any test) (sym (take_all i queue (omega (arith, end, queue-length d.table p ws s.becomes.owns)))) ∙ s.passed

    out_is : s.out ≡ keep test (queue_rows t o ws)
    out_is = sym (append-nil s.out) ∙ ap (λ (l : List Entry). s.out ++ l) (sym (none_leave test queue none)) ∙ s.leave
