-- Laws of the pass over the entries of a range: a round writes one row, and every other row, word and number is as it was.
use Rattle.std.specs.Prelude.{ℕ, ◌+◌, ◌-◌, ◌≤◌, ◌<◌, ◌≡◌, refl, Bool, true, false, List, [], ◌∷◌, ◌++◌, map, eqb, length, get_or, take, drop, set}
use Rattle.std.proofs.Common.{arith, sym, ap, subst, ◌∙◌, eqb-true, length-drop, get_or-drop, get_or-take, length-take-le}
use Rattle.std.proofs.lemmas.Bool.{eqb-false}
use Rattle.forms.specs.Held.{listed}
use Rattle.forms.specs.Write.{Wrote}
use Rattle.forms.specs.Limits.{live_limit}
use Rattle.rules.specs.Book.{Cell}
use Rattle.history.specs.declared.Entry.{Entry}
use Rattle.history.specs.Entries.{UsableEntry, operation_of}
use Rattle.table.specs.declared.Marks.{Marks}
use Rattle.table.specs.declared.Table.{Table}
use Rattle.table.specs.Order.{tally}
use Rattle.table.specs.OrderLaws.{tally-at, tally-parts}
use Rattle.table.specs.Rows.{row_at, mark_at, begun, HasRow, PutRow}
use Rattle.table.specs.RowLaws.{word_kept, row_other, rows_other, rows-set}
use Rattle.table.specs.NotedLaws.{row_marks}
use Rattle.table.specs.Tables.{rows_in, live_count, Usable, Owns, Frame}
use Rattle.table.specs.Tries.{gather, held_of, entry_updates, MarksOf, More, starts_by, Tries}
use Rattle.table.specs.NumberLaws.{numbers-next}
use Rattle.table.specs.RangeLaws.{past_entry, range_at, range_long, usable_range}
use Rattle.table.specs.PassLaws.{TriedTo, passed_none, ids, step_yes, step_no, tried_all, ready-all}

-- a row that is started can still be used
pub begun_usable : (e : Entry) → UsableEntry e → UsableEntry (begun e)
begun_usable e u = record { few = u.few; long = u.long; each = u.each }

-- A row started: the row at place i of an order that has no number twice.
module _ (o old new : List ℕ) (i : ℕ) (long : length o ≤ live_limit) (once : (e : ℕ) → tally e o ≤ 1) (low : i < length o)
    (put : PutRow (get_or o i 0) (begun (row_at old (get_or o i 0))) old new) where
  abbrev number : ℕ
  number = get_or o i 0

  -- it stands in each part of the order around i, and in no other
  inside : (from to : ℕ) → from ≤ i → i < to → to ≤ length o → get_or (drop from (take to o)) (i - from) 0 ≡ number
  inside from to h l g =
      let z : from + (i - from) ≡ i = omega arith in
      get_or-drop from (take to o) (i - from) 0 ∙ ap (λ (k : ℕ). get_or (take to o) k 0) z ∙ get_or-take to o i 0 l

  part_once : (from to e : ℕ) → tally e (drop from (take to o)) ≤ 1
  part_once from to e = omega (arith, once e, tally-parts e to o, tally-parts e from (take to o))

  pub rows-begun : (from to : ℕ) → from ≤ i → i < to → to ≤ length o
      → rows_in o new from to ≡ set (rows_in o old from to) (i - from) (begun (row_at old number))
  rows-begun from to h l g =
      let e = inside from to h l g in
      rows-set (begun (row_at old number)) old new (drop from (take to o)) (i - from)
      (subst (λ (k : ℕ). PutRow k (begun (row_at old number)) old new) (sym e) put)
      (omega (arith, length-drop from (take to o), length-take-le to o g))
      (part_once from to (get_or (drop from (take to o)) (i - from) 0))

  -- .. not in the part before
  not-before : (from : ℕ) → from ≤ i → tally number (take from o) ≡ 0
  not-before from h =
      let z : from + (i - from) ≡ i = omega arith in
      let e : get_or (drop from o) (i - from) 0 ≡ number = get_or-drop from o (i - from) 0 ∙ ap (λ (k : ℕ). get_or o k 0) z in
      let w : 1 ≤ tally number (drop from o) =
      subst (λ (k : ℕ). 1 ≤ tally k (drop from o)) e (tally-at (i - from) (drop from o) (omega (arith, length-drop from o, low))) in
      omega (arith, w, once number, tally-parts number from o)

  pub rows_before : (from : ℕ) → from ≤ i → rows_in o new 0 from ≡ rows_in o old 0 from
  rows_before from h = rows_other number (begun (row_at old number)) old new put (take from o) (not-before from h)

  pub marks_before_lem : (from : ℕ) → map (mark_at new) (take from o) ≡ map (mark_at old) (take from o)
  marks_before_lem from = row_marks number (begun (row_at old number)) old new put (take from o)

  pub begun-within : (e : ℕ) → HasRow old e → HasRow new e
  begun-within e h = omega (arith, h, put.long)

  pub usable_begun : (to : ℕ) → i < to → Usable o old to → Usable o new to
  usable_begun to l u = record {
    long = long;
    few = u.few;
    within = λ k h. begun-within (get_or o k 0) (u.within k h);
    each = λ k h. go k h (eqb (get_or o k 0) number) refl;
  }
    where
      go : (k : ℕ) → k < to → (b : Bool) → eqb (get_or o k 0) number ≡ b → UsableEntry (row_at new (get_or o k 0))
      go k h true q =
          subst (λ (e : ℕ). UsableEntry (row_at new e)) (sym (eqb-true (get_or o k 0) number q))
          (subst UsableEntry (sym put.row) (begun_usable (row_at old number) (u.each i l)))
      go k h false q =
          subst UsableEntry (sym (row_other number (begun (row_at old number)) old new put (get_or o k 0) (eqb-false (get_or o k 0) number q)))
          (u.each k h)

  pub frame_begun : (first : List ℕ) (to : ℕ) → i < to → to ≤ length o → Frame (take to o) first old → Frame (take to o) first new
  frame_begun first to l g f = record {
    long = put.long ∙ f.long;
    rest = λ e j h none.
        word_kept number old new put.rest e j
        (λ q. omega (arith, none, ap (λ (k : ℕ). tally k (take to o)) q, here))
        h
        ∙ f.rest e j h none;
  }
    where
      here : 1 ≤ tally number (take to o)
      here =
          subst (λ (k : ℕ). 1 ≤ tally k (take to o)) (get_or-take to o i 0 l)
          (tally-at i (take to o) (omega (arith, length-take-le to o g)))

-- After the entries from `from` to i have been tried: the words now, the marks of those in progress, and the ids made ready.
pub record Passing (cells : ℕ → Cell) (o old new : List ℕ) (from to : ℕ) (m : Marks) (first : List ℕ) (start ready : ℕ) (lists : List ℕ)
    (i : ℕ) : Type 0 where
  pub usable : Usable o new to
  pub within : (k : ℕ) → k < length o → HasRow new (get_or o k 0)
  pub once : (e : ℕ) → tally e o ≤ 1
  pub frame : Frame (take to o) old new
  pub finished : rows_in o new 0 from ≡ rows_in o old 0 from
  pub noted : map (mark_at new) (take from o) ≡ map (mark_at old) (take from o)
  pub tried : TriedTo cells (rows_in o old from to) (rows_in o new from to) m first start (listed ready lists) (i - from)

pub passing_none : (cells : ℕ → Cell) (t : Table) (o ws : List ℕ) (m : Marks) (first : List ℕ) (start : ℕ) → Owns t o ws
    → MarksOf m (gather held_of (rows_in o ws t.finished (live_count t))) → length first ≡ 68
    → Passing cells o ws ws t.finished (live_count t) m first start 0 first t.finished
passing_none cells t o ws m first start w marks long =
    let z : 0 ≡ t.finished - t.finished = omega arith in
    let rows = rows_in o ws t.finished (live_count t) in
    record {
      usable = w.usable;
      within = w.within;
      once = w.once;
      frame = record { long = refl; rest = λ e j h n. refl };
      finished = refl;
      noted = refl;
      tried =
          subst (TriedTo cells rows rows m first start (listed 0 first)) z
          (passed_none cells rows m first start (usable_range o ws t.finished (live_count t) w.usable (omega arith)) marks long);
    }

module _ (cells : ℕ → Cell) (o old new : List ℕ) (from to : ℕ) (m : Marks) (first : List ℕ) (start ready : ℕ) (lists : List ℕ) (i : ℕ)
    (x : Entry)
    (read : x ≡ row_at new (get_or o i 0)) (p : Passing cells o old new from to m first start ready lists i) (h : from ≤ i) (l : i < to) where
  -- the entry that is tried
  at : get_or (rows_in o new from to) (i - from) past_entry ≡ x
  at =
      let z : from + (i - from) ≡ i = omega arith in
      range_at o new from to (i - from) (omega arith) p.usable.few
      ∙ ap (λ (k : ℕ). row_at new (get_or o k 0)) z ∙ sym read

  inside_range : i - from < length (rows_in o new from to)
  inside_range = omega (arith, range_long o new from to (omega arith) p.usable.few)

  next : i - from + 1 ≡ i + 1 - from
  next = omega arith

  pub passing_yes : (r : Marks) (words vs : List ℕ) → starts_by cells m (operation_of x) ≡ true → More r m (entry_updates x)
      → PutRow (get_or o i 0) (begun (row_at new (get_or o i 0))) new words
      → (n : ℕ) → n ≡ x.id → Wrote lists (start + ready) (n ∷ []) (start + ready + 1) vs → start + ready < 68
      → Passing cells o old words from to r first start (ready + 1) vs (i + 1)
  passing_yes r words vs s more put n same w room = record {
    usable = usable_begun o new words i p.usable.long p.once small put to l p.usable;
    within = λ k g. begun-within o new words i p.usable.long p.once small put (get_or o k 0) (p.within k g);
    once = p.once;
    frame = frame_begun o new words i p.usable.long p.once small put old to l p.usable.few p.frame;
    finished = rows_before o new words i p.usable.long p.once small put from h ∙ p.finished;
    noted = marks_before_lem o new words i p.usable.long p.once small put from ∙ p.noted;
    tried =
        subst (λ (k : List Entry). TriedTo cells (rows_in o old from to) k r first start (listed (ready + 1) vs) (i + 1 - from)) (sym rows)
        (subst (TriedTo cells (rows_in o old from to) (set now (i - from) (begun (get_or now (i - from) past_entry))) r first start
        (listed (ready + 1) vs)) next
        (step_yes cells (rows_in o old from to) now m first start (listed ready lists) (i - from) p.tried inside_range r
        (listed (ready + 1) vs)
        (ap (λ (y : Entry). starts_by cells m (operation_of y)) at ∙ s)
        (subst (λ (y : Entry). More r m (entry_updates y)) (sym at) more)
        (numbers-next first start ready lists x.id _ _ vs p.tried.ready
        (subst (λ (k : ℕ). Wrote lists (start + ready) (k ∷ []) (start + ready + 1) vs) same w) room
        (ap (λ (y : Entry). ids cells (rows_in o old from to) now m first start (listed ready lists) (i - from) p.tried inside_range ++
        (y.id ∷ [])) at))
        refl));
  }
    where
      now : List Entry
      now = rows_in o new from to

      small : i < length o
      small = omega (arith, p.usable.few)

      rows : rows_in o words from to ≡ set now (i - from) (begun (get_or now (i - from) past_entry))
      rows =
          rows-begun o new words i p.usable.long p.once small put from to h l p.usable.few
          ∙ ap (λ (y : Entry). set now (i - from) (begun y)) (sym (at ∙ read))

  pub passing_no : starts_by cells m (operation_of x) ≡ false → Passing cells o old new from to m first start ready lists (i + 1)
  passing_no s = record {
    usable = p.usable;
    within = p.within;
    once = p.once;
    frame = p.frame;
    finished = p.finished;
    noted = p.noted;
    tried =
        subst (TriedTo cells (rows_in o old from to) (rows_in o new from to) m first start (listed ready lists)) next
        (step_no cells (rows_in o old from to) (rows_in o new from to) m first start (listed ready lists) (i - from) p.tried inside_range
        (ap (λ (y : Entry). starts_by cells m (operation_of y)) at ∙ s));
  }

-- the same round under other names
pub passing_at : (cells : ℕ → Cell) (o old new words : List ℕ) (from to : ℕ) (m r : Marks) (first : List ℕ) (start ready n : ℕ)
    (lists vs : List ℕ) (i : ℕ)
    → r ≡ m → words ≡ new → n ≡ ready → vs ≡ lists → Passing cells o old new from to m first start ready lists i
    → Passing cells o old words from to r first start n vs i
passing_at cells o old new words from to m r first start ready n lists vs i e f g k p =
    subst (λ (x : Marks). Passing cells o old words from to x first start n vs i) (sym e)
    (subst (λ (x : List ℕ). Passing cells o old x from to m first start n vs i) (sym f)
    (subst (λ (x : ℕ). Passing cells o old new from to m first start x vs i) (sym g)
    (subst (λ (x : List ℕ). Passing cells o old new from to m first start ready x i) (sym k) p)))

-- The end of the pass.
pub passing_all : (cells : ℕ → Cell) (t : Table) (o old new : List ℕ) (m : Marks) (first : List ℕ) (start ready : ℕ) (lists : List ℕ)
    (i : ℕ)
    → start + t.queue ≤ 68 → i ≡ live_count t → Passing cells o old new t.finished (live_count t) m first start ready lists i
    → Tries cells t o old new first start ready lists
passing_all cells t o old new m first start ready lists i early e p = record {
  owns = record { usable = p.usable; within = p.within; once = p.once };
  frame = p.frame;
  finished = p.finished;
  noted = p.noted;
  queue = tried_all cells l k m first start (listed ready lists) (i - t.finished) p.tried whole;
  ready = ready-all cells l k m first start (listed ready lists) (i - t.finished) p.tried whole (omega (arith, early, e))
      (omega (arith, p.usable.few, p.usable.long));
}
  where
    l : List Entry
    l = rows_in o old t.finished (live_count t)

    k : List Entry
    k = rows_in o new t.finished (live_count t)

    whole : i - t.finished ≡ length l
    whole = omega (arith, range_long o old t.finished (live_count t) (omega arith) p.usable.few)
