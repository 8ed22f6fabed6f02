-- Laws of the table: what each of its operations makes of the two lists of rows, and what it leaves alone.
use Rattle.std.specs.Prelude.{ℕ, suc, ◌+◌, ◌-◌, ◌*◌, ◌≤◌, ◌<◌, ◌≡◌, refl, Bool, true, false, cond, List, [], ◌∷◌, ◌++◌, eqb, ltb, length, get_or, take, drop, set}
use Rattle.std.proofs.Common.{arith, sym, ap, ap₂, subst, ◌∙◌, append_assoc, eqb-true, ltb-true, length-append, length-drop, take-append-drop, drop-cons, take_at, drop_at, length-take-le, get_or-take, get_or-drop}
use Rattle.std.proofs.lemmas.List.{map-append, length-map}
use Rattle.std.proofs.lemmas.Bool.{eqb-false}
use Rattle.std.proofs.Math.ListN.{get_or-map}
use Rattle.std.proofs.Math.Seq.{append_snoc}
use Rattle.forms.specs.Lists.{below}
use Rattle.forms.specs.Limits.{live_limit}
use Rattle.history.specs.declared.Entry.{Entry}
use Rattle.history.specs.Entries.{UsableEntry}
use Rattle.history.specs.WordLaws.{below_long, get_d_any}
use Rattle.table.specs.declared.Table.{Table}
use Rattle.table.specs.Order.{tally, moved, turned}
use Rattle.table.specs.OrderLaws.{tally-append, tally-one, tally_snoc, tally-cons, tally-other, tally-parts, tally-omit, tally-moved}
use Rattle.table.specs.OrderLaws.{tally-turned, tally-at, tally-below, stands, length-omit, length_moved, length-turned}
use Rattle.table.specs.OrderLaws.{omit-parts, map-take, map-drop, take-parts, length_part, moved-forward, moved_back, turned-parts}
use Rattle.table.specs.Rows.{row_width, row_at, HasRow, PutRow}
use Rattle.table.specs.RowLaws.{word_kept, row_same, rows_same, row_other, rows_other, rows-set}
use Rattle.table.specs.Tables.{rows_of, live_count, finished_rows, queue_rows, live_numbers, Owns, Frame, Becomes}

-- ### Numbers by how often they stand in the order

module _ (t : Table) (o ws : List ℕ) (own : Owns t o ws) where
  -- a number of the order has a row
  pub row_of : (e : ℕ) → 1 ≤ tally e o → HasRow ws e
  row_of e h =
      let s = stands e o h in
      subst (HasRow ws) s.is (own.within s.place s.low)

  -- .. and that of a live one can be used
  pub usable_row : (e : ℕ) → 1 ≤ tally e (live_numbers t o) → UsableEntry (row_at ws e)
  usable_row e h =
      let n = live_count t in
      let s = stands e (take n o) h in
      let low : s.place < n = omega (arith, s.low, length-take-le n o own.usable.few) in
      subst (λ (x : ℕ). UsableEntry (row_at ws x)) (sym (get_or-take n o s.place 0 low) ∙ s.is) (own.usable.each s.place low)

-- The invariant, by how often a number stands where.
pub owns_of : (t : Table) (o ws : List ℕ) → length o ≤ live_limit → live_count t ≤ length o → ((e : ℕ) → 1 ≤ tally e o → HasRow ws e)
    → ((e : ℕ) → 1 ≤ tally e (live_numbers t o) → UsableEntry (row_at ws e)) → ((e : ℕ) → tally e o ≤ 1) → Owns t o ws
owns_of t o ws long few rows usable once =
    record {
      usable =
          record {
            long = long;
            few = few;
            within = λ i h. rows (get_or o i 0) (tally-at i o (omega (arith, few, h)));
            each =
                λ i h.
                let n = live_count t in
                let e : get_or (take n o) i 0 ≡ get_or o i 0 = get_or-take n o i 0 h in
                let l : i < length (take n o) = omega (arith, h, length-take-le n o few) in
                usable (get_or o i 0) (subst (λ (x : ℕ). 1 ≤ tally x (take n o)) e (tally-at i (take n o) l));
          };
      within = λ i h. rows (get_or o i 0) (tally-at i o h);
      once = once;
    }

-- ### The order in parts: the done ones, the others, the free ones

-- What the two lists are, where the order is given in its parts.
module _ (t : Table) (o f q r : List ℕ) (whole : o ≡ f ++ (q ++ r)) (done : length f ≡ t.finished) (others : length q ≡ t.queue) where
  pub live-parts : live_numbers t o ≡ f ++ q
  live-parts =
      ap (take (live_count t)) (whole ∙ sym (append_assoc f q r))
      ∙ take_at (f ++ q) r (live_count t) (omega (arith, length-append f q, done, others))

  pub finished-parts : (ws : List ℕ) → finished_rows t o ws ≡ rows_of ws f
  finished-parts ws = ap (λ (l : List ℕ). rows_of ws l) (ap (take t.finished) whole ∙ take_at f (q ++ r) t.finished done)

  pub queue-parts : (ws : List ℕ) → queue_rows t o ws ≡ rows_of ws q
  queue-parts ws = ap (λ (l : List ℕ). rows_of ws l) (ap (drop t.finished) live-parts ∙ drop_at f q t.finished done)

-- The parts of an order.
abbrev pub done_numbers : Table → List ℕ → List ℕ
done_numbers t o = take t.finished o

abbrev pub queue_numbers : Table → List ℕ → List ℕ
queue_numbers t o = drop t.finished (take (live_count t) o)

abbrev pub free_numbers : Table → List ℕ → List ℕ
free_numbers t o = drop (live_count t) o

module _ (t : Table) (o : List ℕ) where
  pub whole_parts : o ≡ done_numbers t o ++ (queue_numbers t o ++ free_numbers t o)
  whole_parts =
      sym (take-append-drop (live_count t) o)
      ∙ ap (λ (l : List ℕ). l ++ free_numbers t o) (sym (take-parts o t.finished (live_count t) (omega arith)))
      ∙ append_assoc (done_numbers t o) (queue_numbers t o) (free_numbers t o)

  pub live-tally : (e : ℕ) → tally e (live_numbers t o) ≡ tally e (done_numbers t o) + tally e (queue_numbers t o)
  live-tally e =
      ap (tally e) (sym (take-parts o t.finished (live_count t) (omega arith))) ∙ tally-append e (done_numbers t o) (queue_numbers t o)

  pub done_long : live_count t ≤ length o → length (done_numbers t o) ≡ t.finished
  done_long h = length-take-le t.finished o (omega arith)

  pub queue_long : live_count t ≤ length o → length (queue_numbers t o) ≡ t.queue
  queue_long h = length_part o t.finished (live_count t) h ∙ (let z : live_count t - t.finished ≡ t.queue = omega arith in z)

  -- the number at place i of those not done
  pub queue-number : (i : ℕ) → i < t.queue → get_or (queue_numbers t o) i 0 ≡ get_or o (t.finished + i) 0
  queue-number i h =
      get_or-drop t.finished (take (live_count t) o) i 0 ∙ get_or-take (live_count t) o (t.finished + i) 0 (omega arith)

-- ### The two lists of rows

module _ (t : Table) (o ws : List ℕ) (own : Owns t o ws) where
  pub live_low : live_count t ≤ length o
  live_low = own.usable.few

  -- they are as long as the table says
  pub finished-length : length (finished_rows t o ws) ≡ t.finished
  finished-length = length-map (done_numbers t o) (row_at ws) ∙ done_long t o live_low

  pub queue-length : length (queue_rows t o ws) ≡ t.queue
  queue-length = length-map (queue_numbers t o) (row_at ws) ∙ queue_long t o live_low

  -- the row at place i of those not done, and at place i of the done ones
  pub queue-at : (i : ℕ) (d : Entry) → i < t.queue → get_or (queue_rows t o ws) i d ≡ row_at ws (get_or o (t.finished + i) 0)
  queue-at i d h =
      get_d_any (queue_rows t o ws) i d (row_at ws 0) (omega (arith, h, queue-length))
      ∙ get_or-map (row_at ws) (queue_numbers t o) i 0
      ∙ ap (row_at ws) (queue-number t o i h)

  -- each of them can be used
  pub queue_usable : (i : ℕ) → i < t.queue → UsableEntry (row_at ws (get_or o (t.finished + i) 0))
  queue_usable i h = own.usable.each (t.finished + i) (omega (arith, h))

-- ### Operations that write no row

-- rows of a list without the element at i
rows-without : (ws l : List ℕ) (i : ℕ) → rows_of ws (take i l ++ drop (i + 1) l) ≡ take i (rows_of ws l) ++ drop (i + 1) (rows_of ws l)
rows-without ws l i =
    map-append (row_at ws) (take i l) (drop (i + 1) l)
    ∙ ap₂ (λ (a b : List Entry). a ++ b) (map-take (row_at ws) i l) (map-drop (row_at ws) (i + 1) l)

-- A call that moves numbers and writes no row.
moves : (t : Table) (o ws : List ℕ) → Owns t o ws → (u : Table) (p f q r : List ℕ) (finished queue : List Entry) → p ≡ f ++ (q ++ r)
    → length f ≡ u.finished → length q ≡ u.queue → length p ≡ length o → live_count u ≤ live_count t → ((e : ℕ) → tally e p ≡ tally e o)
    → ((e : ℕ) → tally e f + tally e q ≤ tally e (live_numbers t o)) → rows_of ws f ≡ finished → rows_of ws q ≡ queue
    → Becomes o ws u p ws finished queue
moves t o ws own u p f q r finished queue whole done others long few same live is are =
    record {
      owns =
          owns_of u p ws (omega (arith, long, own.usable.long)) (omega (arith, long, few, own.usable.few))
          (λ e h. row_of t o ws own e (omega (arith, h, same e)))
          (λ e h.
          usable_row t o ws own e (omega (arith, h, live e, ap (tally e) (live-parts u p f q r whole done others), tally-append e f q)))
          (λ e. omega (arith, same e, own.once e));
      same = same;
      frame = record { long = refl; rest = λ e j l z. refl };
      finished_is = finished-parts u p f q r whole done others ws ∙ is;
      queue_is = queue-parts u p f q r whole done others ws ∙ are;
    }

module _ (t : Table) (o ws : List ℕ) (own : Owns t o ws) where
  abbrev F : List ℕ
  F = done_numbers t o

  abbrev Q : List ℕ
  Q = queue_numbers t o

  abbrev R : List ℕ
  R = free_numbers t o

  low : live_count t ≤ length o
  low = live_low t o ws own

  module _ (i : ℕ) (h : i < t.queue) where
    abbrev rest : List ℕ
    rest = take i Q ++ drop (i + 1) Q

    there : i < length Q
    there = omega (arith, h, queue_long t o low)

    rest_long : length rest ≡ t.queue - 1
    rest_long = omega (arith, h, queue_long t o low, length-omit i Q there, ap (λ (l : List ℕ). length l) (omit-parts i Q))

    rest-tally : (e : ℕ) → tally e Q ≡ tally e rest + tally e (get_or Q i 0 ∷ [])
    rest-tally e = tally-omit e i Q there ∙ ap (λ (l : List ℕ). tally e l + tally e (get_or Q i 0 ∷ [])) (omit-parts i Q)

    at_place : t.finished + i < length o
    at_place = omega (arith, h, low)

    -- An operation is done: its number is the last of the done ones.
    abbrev done_table : Table
    done_table = record { finished = t.finished + 1; queue = t.queue - 1 }

    abbrev done_first : List ℕ
    done_first = F ++ (get_or Q i 0 ∷ [])

    pub done-whole : (p : List ℕ) → p ≡ moved (t.finished + i) t.finished o → p ≡ done_first ++ (rest ++ R)
    done-whole p e =
        e
        ∙ ap (moved (t.finished + i) t.finished) (whole_parts t o)
        ∙ moved-forward F Q R t.finished i (done_long t o low) there

    pub done_first_long : length done_first ≡ t.finished + 1
    done_first_long = omega (arith, length-append F (get_or Q i 0 ∷ []), done_long t o low)

    done-tally : (k : ℕ) → tally k done_first + tally k rest ≡ tally k (live_numbers t o)
    done-tally k = omega (arith, tally_snoc k F (get_or Q i 0), rest-tally k, live-tally t o k)

    -- the same entries are live
    pub finished-live : (p : List ℕ) → p ≡ moved (t.finished + i) t.finished o → (k : ℕ)
        → tally k (live_numbers done_table p) ≡ tally k (live_numbers t o)
    finished-live p e k =
        ap (tally k) (live-parts done_table p done_first rest R (done-whole p e) done_first_long rest_long)
        ∙ tally-append k done_first rest
        ∙ done-tally k

    pub finished : (d : Entry) (p : List ℕ) → p ≡ moved (t.finished + i) t.finished o
        → Becomes o ws done_table p ws (finished_rows t o ws ++ (get_or (queue_rows t o ws) i d ∷ []))
        (take i (queue_rows t o ws) ++ drop (i + 1) (queue_rows t o ws))
    finished d p e =
        let x = get_or Q i 0 in
        moves t o ws own done_table p done_first rest R _ _ (done-whole p e) done_first_long rest_long
        (ap (λ (l : List ℕ). length l) e ∙ length_moved (t.finished + i) t.finished o at_place) (omega (arith, h))
        (λ k. ap (tally k) e ∙ tally-moved k (t.finished + i) t.finished o at_place) (λ k. omega (arith, done-tally k))
        (map-append (row_at ws) F (x ∷ [])
        ∙ ap (λ (r : Entry). finished_rows t o ws ++ (r ∷ [])) (ap (row_at ws) (queue-number t o i h) ∙ sym (queue-at t o ws own i d h)))
        (rows-without ws Q i)

    removed_whole : (p : List ℕ) → p ≡ moved (t.finished + i) (live_count t - 1) o → p ≡ F ++ (rest ++ (get_or Q i 0 ∷ R))
    removed_whole p e =
        let all : t.finished + length Q ≡ (live_count t - 1) + 1 = omega (arith, h, queue_long t o low) in
        e ∙ ap (moved (t.finished + i) (live_count t - 1)) (whole_parts t o)
        ∙ moved_back F Q R t.finished i (done_long t o low) there (live_count t - 1) all

    -- the done ones are where they were
    pub removed_done : (p : List ℕ) → p ≡ moved (t.finished + i) (live_count t - 1) o → take t.finished p ≡ take t.finished o
    removed_done p e = ap (take t.finished) (removed_whole p e) ∙ take_at F (rest ++ (get_or Q i 0 ∷ R)) t.finished (done_long t o low)

    -- An operation leaves: its number is the first of the free ones.
    pub removed : (p : List ℕ) → p ≡ moved (t.finished + i) (live_count t - 1) o
        → Becomes o ws (record { finished = t.finished; queue = t.queue - 1 }) p ws
        (finished_rows t o ws) (take i (queue_rows t o ws) ++ drop (i + 1) (queue_rows t o ws))
    removed p e =
        let x = get_or Q i 0 in
        let u : Table = record { finished = t.finished; queue = t.queue - 1 } in
        moves t o ws own u p F rest (x ∷ R) _ _ (removed_whole p e) (done_long t o low) rest_long
        (ap (λ (l : List ℕ). length l) e ∙ length_moved (t.finished + i) (live_count t - 1) o at_place) (omega (arith, h))
        (λ k. ap (tally k) e ∙ tally-moved k (t.finished + i) (live_count t - 1) o at_place)
        (λ k. omega (arith, rest-tally k, live-tally t o k)) refl (rows-without ws Q i)

  dropped_whole : (k : ℕ) → k ≤ t.finished → (p : List ℕ) → p ≡ turned k (live_count t) o → p ≡ drop k F ++ (Q ++ (take k F ++ R))
  dropped_whole k h p e =
      e ∙ ap (turned k (live_count t)) (whole_parts t o)
      ∙ turned-parts F Q R k (live_count t) (omega (arith, h, done_long t o low)) (omega (arith, done_long t o low, queue_long t o low))

  -- the other done ones come first
  pub dropped_done : (k : ℕ) → k ≤ t.finished → (p : List ℕ) → p ≡ turned k (live_count t) o
      → take (t.finished - k) p ≡ drop k (take t.finished o)
  dropped_done k h p e =
      ap (take (t.finished - k)) (dropped_whole k h p e)
      ∙ take_at (drop k F) (Q ++ (take k F ++ R)) (t.finished - k) (omega (arith, length-drop k F, done_long t o low))

  -- The first k done operations leave: their numbers are the first of the free ones.
  pub dropped : (k : ℕ) → k ≤ t.finished → (p : List ℕ) → p ≡ turned k (live_count t) o
      → Becomes o ws (record { finished = t.finished - k; queue = t.queue }) p ws (drop k (finished_rows t o ws)) (queue_rows t o ws)
  dropped k h p e =
      let u : Table = record { finished = t.finished - k; queue = t.queue } in
      moves t o ws own u p (drop k F) Q (take k F ++ R) _ _ (dropped_whole k h p e)
      (omega (arith, length-drop k F, done_long t o low)) (queue_long t o low)
      (ap (λ (l : List ℕ). length l) e ∙ length-turned k (live_count t) o (omega (arith, h)) low) (omega (arith, h))
      (λ x. ap (tally x) e ∙ tally-turned x k (live_count t) o (omega (arith, h)))
      (λ x. omega (arith, tally-parts x k F, live-tally t o x)) (map-drop (row_at ws) k F) refl

-- ### Operations that write a row

-- the words of an entry that is not live are those of an entry that was not written
one_row_lem : (x : ℕ) (e : Entry) (old new live : List ℕ) → PutRow x e old new → 1 ≤ tally x live → Frame live old new
one_row_lem x e old new live put h =
    record {
      long = put.long;
      rest = λ k j l z. word_kept x old new put.rest k j (λ q. omega (arith, h, z, ap (λ (m : ℕ). tally m live) q)) l;
    }

-- a row that can be used is written: all that were usable are, and the one written
one_usable : (x : ℕ) (e : Entry) (old new : List ℕ) → PutRow x e old new → UsableEntry e → (k : ℕ)
    → ((x ≡ k → ⊥) → UsableEntry (row_at old k)) → UsableEntry (row_at new k)
one_usable x e old new put good k others = go (eqb x k) refl
  where
    go : (b : Bool) → eqb x k ≡ b → UsableEntry (row_at new k)
    go true q = subst (λ (m : ℕ). UsableEntry (row_at new m)) (eqb-true x k q) (subst UsableEntry (sym put.row) good)
    go false q =
        let ne = eqb-false x k q in
        subst UsableEntry (sym (row_other x e old new put k (λ s. ne (sym s)))) (others ne)

module _ (t : Table) (o ws : List ℕ) (own : Owns t o ws) (e : Entry) (new : List ℕ) (good : UsableEntry e) where
  long : length o ≤ live_limit
  long = own.usable.long

  abbrev done : List ℕ
  done = done_numbers t o

  abbrev queue : List ℕ
  queue = queue_numbers t o

  -- an entry has one place in the order only
  parts_once : (x : ℕ) → tally x done + tally x queue + tally x (free_numbers t o) ≤ 1
  parts_once x = omega (arith, own.once x, tally-parts x (live_count t) o, live-tally t o x)

  -- One operation more, in the first entry that is free.
  pub pushed : live_count t < length o → PutRow (get_or o (live_count t) 0) e ws new
      → Becomes o ws (record { finished = t.finished; queue = t.queue + 1 }) o new (finished_rows t o ws) (queue_rows t o ws ++ (e ∷ []))
  pushed h put =
      record {
        owns =
            owns_of u o new long (omega (arith, h)) (λ k l. omega (arith, put.long, row_of t o ws own k l))
            (λ k l.
            one_usable x e ws new put good k
            (λ ne. usable_row t o ws own k (omega (arith, l, live k, tally-other k x ne, live-tally t o k))))
            own.once;
        same = λ k. refl;
        frame = one_row_lem x e ws new (live_numbers u o) put (omega (arith, live x, tally-one x));
        finished_is =
            finished-parts u o done (queue ++ (x ∷ [])) rest whole few many new ∙ rows_other x e ws new put done (omega (arith, none));
        queue_is =
            queue-parts u o done (queue ++ (x ∷ [])) rest whole few many new
            ∙ map-append (row_at new) queue (x ∷ [])
            ∙ ap₂ (λ (a : List Entry) (b : Entry). a ++ (b ∷ [])) (rows_other x e ws new put queue (omega (arith, none))) put.row;
      }
    where
      u : Table
      u = record { finished = t.finished; queue = t.queue + 1 }

      x : ℕ
      x = get_or o (live_count t) 0

      rest : List ℕ
      rest = drop (suc (live_count t)) o

      free : free_numbers t o ≡ x ∷ rest
      free = drop-cons o (live_count t) 0 h

      whole : o ≡ done ++ ((queue ++ (x ∷ [])) ++ rest)
      whole =
          whole_parts t o
          ∙ ap (λ (l : List ℕ). done ++ (queue ++ l)) free
          ∙ ap (λ (l : List ℕ). done ++ l) (sym (append_snoc queue x rest))

      few : length done ≡ t.finished
      few = done_long t o (live_low t o ws own)

      many : length (queue ++ (x ∷ [])) ≡ t.queue + 1
      many = omega (arith, length-append queue (x ∷ []), queue_long t o (live_low t o ws own))

      live : (k : ℕ) → tally k (live_numbers u o) ≡ tally k done + tally k queue + tally k (x ∷ [])
      live k =
          ap (tally k) (live-parts u o done (queue ++ (x ∷ [])) rest whole few many)
          ∙ (let z : tally k (done ++ (queue ++ (x ∷ []))) ≡ tally k done + tally k queue + tally k (x ∷ []) =
          omega (arith, tally-append k done (queue ++ (x ∷ [])), tally_snoc k queue x) in z)

      none : tally x done + tally x queue ≡ 0
      none = omega (arith, parts_once x, ap (tally x) free, tally-cons x x rest, tally-one x)

  -- The row at place i of the done ones is another.
  pub rewritten : (i : ℕ) → i < t.finished → PutRow (get_or o i 0) e ws new
      → Becomes o ws t o new (set (finished_rows t o ws) i e) (queue_rows t o ws)
  rewritten i h put =
      record {
        owns =
            owns_of t o new long own.usable.few (λ k l. omega (arith, put.long, row_of t o ws own k l))
            (λ k l. one_usable x e ws new put good k (λ ne. usable_row t o ws own k l)) own.once;
        same = λ k. refl;
        frame = one_row_lem x e ws new (live_numbers t o) put (omega (arith, in_done, live-tally t o x));
        finished_is = rows-set e ws new done i (subst (λ (k : ℕ). PutRow k e ws new) (sym is) put) there only;
        queue_is = rows_other x e ws new put queue (omega (arith, in_done, parts_once x));
      }
    where
      x : ℕ
      x = get_or o i 0

      is : get_or done i 0 ≡ x
      is = get_or-take t.finished o i 0 h

      there : i < length done
      there = omega (arith, h, done_long t o (live_low t o ws own))

      in_done : 1 ≤ tally x done
      in_done = subst (λ (k : ℕ). 1 ≤ tally k done) is (tally-at i done there)

      only : tally (get_or done i 0) done ≤ 1
      only = omega (arith, parts_once (get_or done i 0))

-- ### Neighbours and the start

-- The rows of entries that are not live after a call are as they were: those of other sites, and those that are free.
pub neighbours : (live old new es : List ℕ) → Frame live old new → ((e : ℕ) → 1 ≤ tally e es → tally e live ≡ 0)
    → rows_of new es ≡ rows_of old es
neighbours live old new es f apart = rows_same old new es (λ e l. row_same old new e (λ j k. f.rest e j k (apart e l)))

-- A table with no operations, all of its 64 entries free.
pub numbered : (o ws : List ℕ) → o ≡ below live_limit → length ws ≡ live_limit * row_width → Owns (record { finished = 0; queue = 0 }) o ws
unfolding tally
numbered o ws e long =
    owns_of (record { finished = 0; queue = 0 }) o ws (omega (arith, count-all)) (omega arith) rows
    (λ k l. absurd (let z : 1 ≤ 0 = l in omega arith)) once
  where
    count-all : length o ≡ live_limit
    count-all = ap (λ (l : List ℕ). length l) e ∙ below_long live_limit

    count : (k : ℕ) → tally k o ≡ cond (ltb k live_limit) 1 0
    count k = ap (tally k) e ∙ tally-below k live_limit

    once : (k : ℕ) → tally k o ≤ 1
    once k = go (ltb k live_limit) (count k)
      where
        go : (b : Bool) → tally k o ≡ cond b 1 0 → tally k o ≤ 1
        go true q = omega (arith, q)
        go false q = omega (arith, q)

    rows : (k : ℕ) → 1 ≤ tally k o → HasRow ws k
    rows k h = go (ltb k live_limit) refl (count k)
      where
        go : (b : Bool) → ltb k live_limit ≡ b → tally k o ≡ cond b 1 0 → HasRow ws k
        go true q c = omega (arith, ltb-true k live_limit q, long)
        go false q c = absurd (omega (arith, c, h))
