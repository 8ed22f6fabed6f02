-- A valid site with other entries to use, and with rows that a neighbour has changed: it is valid, and its view is the same.
use Rattle.std.specs.Prelude.{ℕ, ◌≤◌, ◌<◌, ◌≡◌, List, [], map, length, get_or, take, drop}
use Rattle.std.proofs.Common.{arith, sym, ap, subst, ◌∙◌, length-take-le, take-take, get_or-take}
use Rattle.forms.specs.Limits.{live_limit}
use Rattle.history.specs.Entries.{UsableEntry}
use Rattle.table.specs.declared.Table.{Table}
use Rattle.table.specs.Order.{tally}
use Rattle.table.specs.OrderLaws.{tally-parts, tally-at}
use Rattle.table.specs.Rows.{row_at, mark_at, HasRow}
use Rattle.table.specs.RowLaws.{row_same, each_same}
use Rattle.table.specs.Tables.{rows_of, live_count, finished_rows, marks_in, queue_rows, Owns, Frame}
use Rattle.table.specs.TableLaws.{neighbours}
use Rattle.site.specs.declared.Site.{Site}
use Rattle.site.specs.Representation.{Representation, state_of, Sound}
use Rattle.site.specs.Model.{lent, represented, view, Valid}
use Rattle.site.specs.ModelLaws.{with_rows}

-- ### Other entries to use

-- the entries of an order that a site may use, the live ones first
pub record Usables (t : Table) (o ws : List ℕ) : Type 0 where
  pub long : length o ≤ live_limit
  pub few : live_count t ≤ length o
  pub within : (i : ℕ) → i < length o → HasRow ws (get_or o i 0)
  pub once : (e : ℕ) → tally e o ≤ 1

module _ (t : Table) (o p ws : List ℕ) (e : take (live_count t) o ≡ take (live_count t) p) where
  first-same : (n : ℕ) → n ≤ live_count t → take n o ≡ take n p
  first-same n le = sym (take-take n (live_count t) o le) ∙ ap (take n) e ∙ take-take n (live_count t) p le

  pub owns_other : Owns t o ws → Usables t p ws → Owns t p ws
  owns_other own u =
      record {
        usable =
            record {
              long = u.long;
              few = u.few;
              within = λ i lt. u.within i (omega (arith, lt, u.few));
              each = λ i lt. subst (λ (n : ℕ). UsableEntry (row_at ws n)) (at i lt) (own.usable.each i lt);
            };
        within = u.within;
        once = u.once;
      }
    where
      at : (i : ℕ) → i < live_count t → get_or o i 0 ≡ get_or p i 0
      at i lt = sym (get_or-take (live_count t) o i 0 lt) ∙ ap (λ (l : List ℕ). get_or l i 0) e ∙ get_or-take (live_count t) p i 0 lt

module _ (s : Site) (log rows o p book ls ks : List ℕ) (e : take (live_count s.table) o ≡ take (live_count s.table) p) where
  pub same-order : represented s (lent log rows o book ls) ≡ represented s (lent log rows p book ks)
  same-order =
      let t = s.table in
      let f : finished_rows t o rows ≡ finished_rows t p rows = ap (λ (l : List ℕ). rows_of rows (drop 0 l))
      (first-same t o p rows e t.finished (omega arith)) in
      let k : marks_in t o rows ≡ marks_in t p rows = ap (map (mark_at rows)) (first-same t o p rows e t.finished (omega arith)) in
      let q : queue_rows t o rows ≡ queue_rows t p rows = ap (λ (l : List ℕ). rows_of rows (drop t.finished l)) e in
      λ i. with_rows (f i) (k i) (q i) (represented s (lent log rows o book ls))

  pub valid_order : Valid s (lent log rows o book ls) → Usables s.table p rows → Valid s (lent log rows p book ks)
  valid_order v u =
      record {
        sound = subst (λ (w : Representation). Sound w log) same-order v.sound;
        owns = owns_other s.table o p rows e v.owns u;
      }

  pub view-order : view s (lent log rows o book ls) ≡ view s (lent log rows p book ks)
  view-order = ap (λ (w : Representation). state_of w log) same-order

-- only the live ones
pub valid_fewer : (s : Site) (log rows o book ls : List ℕ) → Valid s (lent log rows o book ls) →
    Valid s (lent log rows (take (live_count s.table) o) book [])
valid_fewer s log rows o book ls v =
    valid_order s log rows o (take n o) book ls [] (sym (take-take n n o (omega arith))) v
    (record {
      long = omega (arith, long, v.owns.usable.few, v.owns.usable.long);
      few = omega (arith, long);
      within = λ i lt. subst (HasRow rows) (sym (get_or-take n o i 0 (omega (arith, lt, long))))
          (v.owns.within i (omega (arith, lt, long, v.owns.usable.few)));
      once = λ e. omega (arith, tally-parts e n o, v.owns.once e);
    })
  where
    n : ℕ
    n = live_count s.table

    long : length (take n o) ≡ n
    long = length-take-le n o v.owns.usable.few

pub view-fewer : (s : Site) (log rows o book ls : List ℕ) →
    view s (lent log rows o book ls) ≡ view s (lent log rows (take (live_count s.table) o) book [])
view-fewer s log rows o book ls =
    let n = live_count s.table in
    view-order s log rows o (take n o) book ls [] (sym (take-take n n o (omega arith)))

-- ### Rows of neighbours

-- The words of entries that are live in another slot have changed, and no other.
module _ (s : Site) (log rows new o book ls ks live : List ℕ) (f : Frame live rows new)
    (apart : (e : ℕ) → 1 ≤ tally e (take (live_count s.table) o) → tally e live ≡ 0) where
  abbrev t : Table
  t = s.table

  abbrev n : ℕ
  n = live_count t

  part_apart : (from to : ℕ) → to ≤ n → (e : ℕ) → 1 ≤ tally e (drop from (take to o)) → tally e live ≡ 0
  part_apart from to le e one =
      apart e
      (omega (arith, one, tally-parts e from (take to o), tally-parts e to (take n o), ap (tally e) (take-take to n o le)))

  finished-same : finished_rows t o new ≡ finished_rows t o rows
  finished-same = neighbours live rows new (drop 0 (take t.finished o)) f (part_apart 0 t.finished (omega arith))

  queue-same : queue_rows t o new ≡ queue_rows t o rows
  queue-same = neighbours live rows new (drop t.finished (take n o)) f (part_apart t.finished n (omega arith))

  marks_same : marks_in t o new ≡ marks_in t o rows
  marks_same =
      each_same (mark_at rows) (mark_at new) (take t.finished o)
      (λ e one. f.rest e 23 (omega arith) (part_apart 0 t.finished (omega arith) e one))

  pub same_rows : represented s (lent log rows o book ls) ≡ represented s (lent log new o book ks)
  same_rows = λ i. with_rows (sym finished-same i) (sym marks_same i) (sym queue-same i) (represented s (lent log rows o book ls))

  pub valid_rows : Valid s (lent log rows o book ls) → Valid s (lent log new o book ks)
  valid_rows v =
      record {
        sound = subst (λ (w : Representation). Sound w log) same_rows v.sound;
        owns =
            record {
              usable =
                  record {
                    long = v.owns.usable.long;
                    few = v.owns.usable.few;
                    within = λ i lt. omega (arith, v.owns.usable.within i lt, f.long);
                    each = λ i lt. subst UsableEntry (sym (row i lt)) (v.owns.usable.each i lt);
                  };
              within = λ i lt. omega (arith, v.owns.within i lt, f.long);
              once = v.owns.once;
            };
      }
    where
      row : (i : ℕ) → i < n → row_at new (get_or o i 0) ≡ row_at rows (get_or o i 0)
      row i lt =
          row_same rows new (get_or o i 0)
          (λ j l. f.rest (get_or o i 0) j l
          (apart (get_or o i 0)
          (subst (λ (e : ℕ). 1 ≤ tally e (take n o)) (get_or-take n o i 0 lt)
          (tally-at i (take n o) (omega (arith, lt, length-take-le n o v.owns.usable.few))))))

  pub view-rows : view s (lent log rows o book ls) ≡ view s (lent log new o book ks)
  view-rows = ap (λ (w : Representation). state_of w log) same_rows
