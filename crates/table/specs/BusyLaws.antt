-- Laws of the numbers of updates that are not persistent: those of one operation of a range fewer, one operation after the other.
use Rattle.std.specs.Prelude.{ℕ, suc, ◌+◌, ◌≤◌, ◌<◌, ◌≡◌, List, [], ◌∷◌, ◌++◌, length, get_or}
use Rattle.std.proofs.Common.{arith, sym, ap, subst, ◌∙◌}
use Rattle.forms.specs.Lists.{sum}
use Rattle.forms.specs.ListLaws.{sum-append}
use Rattle.forms.specs.Limits.{history_limit}
use Rattle.history.specs.declared.Entry.{Entry}
use Rattle.history.specs.Entries.{UsableEntry}
use Rattle.history.specs.Words.{busy_in, entry_in, CountsMore}
use Rattle.history.specs.BusyLaws.{counts_none, counts_then, all_in_first}
use Rattle.table.specs.Rows.{row_at}
use Rattle.table.specs.Tables.{rows_in}
use Rattle.table.specs.RangeLaws.{range_none, range_next, range_split}

module _ (o ws : List ℕ) (from : ℕ) where
  pub lowered_start : (book : List ℕ) → CountsMore (rows_in o ws from from) book book
  lowered_start book = subst (λ (es : List Entry). CountsMore es book book) (sym (range_none o ws from)) (counts_none book)

  -- the operation at place i of the order
  module _ (i : ℕ) (h : from ≤ i) (e : Entry) (read : e ≡ row_at ws (get_or o i 0)) (mid high : List ℕ)
      (before : CountsMore (rows_in o ws from i) mid high) where
    pub lowered_next : (low : List ℕ) → i < length o → CountsMore (e ∷ []) low mid → CountsMore (rows_in o ws from (i + 1)) low high
    lowered_next low l a =
        subst (λ (es : List Entry). CountsMore es low high)
        (ap (λ (x : Entry). rows_in o ws from i ++ (x ∷ [])) read ∙ sym (range_next o ws from i h l))
        (counts_then (rows_in o ws from i) (e ∷ []) low mid high a before)

    -- its updates are among those that are still counted
    pub lowered_some : (to : ℕ) → i < to → to ≤ length o → UsableEntry e →
        ((k : ℕ) → 1 ≤ sum (entry_in k) (rows_in o ws from to) → sum (entry_in k) (rows_in o ws from to) ≤ get_or (busy_in high) k 0) →
        (k : ℕ) → 1 ≤ entry_in k e → entry_in k e ≤ get_or (busy_in mid) k 0
    lowered_some to l g u all k some =
        let low : k < history_limit = all_in_first history_limit e (λ j lt. (u.each j lt).history) k (omega (arith, some)) in
        let parts : sum (entry_in k) (rows_in o ws from to)
        ≡ sum (entry_in k) (rows_in o ws from i) + (entry_in k e + sum (entry_in k) (rows_in o ws (suc i) to)) =
        ap (sum (entry_in k)) (range_split o ws from i to h l g)
        ∙ sum-append (entry_in k) (rows_in o ws from i) (row_at ws (get_or o i 0) ∷ rows_in o ws (suc i) to)
        ∙ ap (λ (x : Entry). sum (entry_in k) (rows_in o ws from i) + (entry_in k x + sum (entry_in k) (rows_in o ws (suc i) to))) (sym read)
        in
        omega (arith, some, parts, before.numbers k low, all k (omega (arith, parts, some)))
