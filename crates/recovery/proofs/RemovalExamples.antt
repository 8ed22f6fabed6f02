-- 02 (a): reports over logs, computed from the definitions on both sides of each rule's edge.
use Rattle.std.specs.Prelude.{◌≡◌, Bool, true, false, not, ◌&&◌, List, [], ◌∷◌, ℕ, T, eqb}
use mathlib.Core.List.{Memᴰ as Mem}
use Rattle.forms.specs.Lists.{all}
use Rattle.forms.specs.ListLaws.{T_true, all-at}
use Rattle.forms.specs.Words.{bytes, word}
use Rattle.forms.specs.Decimal.{digits_within, digits, more, number}
use Rattle.forms.specs.Reading as reading
use Rattle.forms.specs.Reading.{read_did, read_line, read_base, read_site, read_whole}
use Rattle.rules.specs.Rules.{profile_of, replaced_with}
use Rattle.rules.specs.Book.{start_cell, touches, runs_at, can_run_with, cell_from_with, cell_with, enter_all_with, enter_with, entered_with}
use Rattle.rules.specs.Checks.{check, and_then, wrong_count, no_such_history, history_twice, change_misfits_with, form_refusal, changes_refusal_with}
use Rattle.rules.specs.Log.{mark_from, lines_from, histories_fit, accepts_with, rises, follows, live_in, table_holds, in_order, base_fits}
use Rattle.rules.specs.Log.{read_lines, read_second, read_first, read_log}
use Rattle.recovery.specs.Claim.{beside, shares}
use Rattle.recovery.specs.Removal.{numbers_from, is_line, line_at, pairs_of, by_history, by_transaction, takes, grow, rounds, removal}
use Rattle.recovery.specs.Removal.{Report, refused, named, refuse_if, not_among, too_long, report_lines, report_log, report}

-- A log, pairs in numbers, lines lost, the room of the answer, and what the report says: a refusal's number, or 0 and the lines named.
pub record Row : Type 0 where
  pub log : List ℕ
  pub pairs : List ℕ
  pub lost : List ℕ
  pub room : ℕ
  pub refusal : ℕ
  pub lines : List ℕ

unfoldable pub same_numbers : List ℕ → List ℕ → Bool
same_numbers [] [] = true
same_numbers [] (y ∷ ys) = false
same_numbers (x ∷ xs) [] = false
same_numbers (x ∷ xs) (y ∷ ys) = eqb x y && same_numbers xs ys

unfoldable pub says : Report → ℕ → List ℕ → Bool
says (refused n) m ls = eqb n m
says (named ks) m ls = eqb m 0 && same_numbers ks ls

-- Five lines: 1 and 3 in history 0, 2 and 4 in history 1, both `not`, and 5 in history 2.
abbrev five : List ℕ
five =
    bytes "(site 3)\n(did 1 (set 0 1 1 10))\n(did 2 (not 1 0 1 0))\n(did 3 (set 0 2 2 20))\n(did 4 (not 1 0 2 0))\n(did 5 (set 2 1 1 30))\n"

-- A base line of 5 operations, and a stable line between two did lines.
abbrev based : List ℕ
based = bytes "(site 1)\n(base 5 (0 2 5 9))\n(did 6 (set 0 3 6 1))\n(stable 6)\n(did 7 (set 0 4 7 2))\n"

abbrev names : List ℕ → List ℕ → List ℕ → List ℕ → Row
names log pairs lost lines = record { log = log; pairs = pairs; lost = lost; room = 5; refusal = 0; lines = lines }

abbrev refuses : List ℕ → List ℕ → List ℕ → ℕ → ℕ → Row
refuses log pairs lost room n = record { log = log; pairs = pairs; lost = lost; room = room; refusal = n; lines = [] }

abbrev pub rows : List Row
rows =
    -- nothing lost, nothing named; "A lost line is itself removed", and takes "every later line", no earlier one
    names five [] [] []
    ∷ names five [] (1 ∷ []) (1 ∷ 3 ∷ [])
    ∷ names five [] (3 ∷ []) (3 ∷ [])
    -- "`not` beside `not` too"
    ∷ names five [] (2 ∷ []) (2 ∷ 4 ∷ [])
    -- rising, whatever the order, and once
    ∷ names five [] (5 ∷ 1 ∷ 5 ∷ []) (1 ∷ 3 ∷ 5 ∷ [])
    -- "A removed line removes all lines of its transactions, and these remove in their turn": earlier ones too
    ∷ names five (3 ∷ 70 ∷ 2 ∷ 70 ∷ []) (1 ∷ []) (1 ∷ 2 ∷ 3 ∷ 4 ∷ [])
    ∷ names five (3 ∷ 70 ∷ 2 ∷ 71 ∷ []) (1 ∷ []) (1 ∷ 3 ∷ [])
    -- "A line may be in several transactions or none": from 3 to 5 and from 5 to 2
    ∷ names five (5 ∷ 8 ∷ 3 ∷ 9 ∷ 5 ∷ 9 ∷ 2 ∷ 8 ∷ []) (1 ∷ []) (1 ∷ 2 ∷ 3 ∷ 4 ∷ 5 ∷ [])
    -- a last number without a partner is no pair
    ∷ names five (5 ∷ 0 ∷ 9 ∷ []) (5 ∷ []) (5 ∷ [])
    -- 02 (g), (h): stable lines have no numbers, and the first line behind a base line of 5 is 6
    ∷ names based [] (6 ∷ []) (6 ∷ 7 ∷ [])
    ∷ refuses based [] (5 ∷ []) 5 16
    ∷ refuses based (5 ∷ 1 ∷ []) (6 ∷ []) 5 16
    -- 15; then 16, of a line lost and of a pair, where nothing is lost too; then 12
    ∷ refuses (bytes "(site 0)\n") [] (0 ∷ []) 0 15
    ∷ refuses five [] (0 ∷ []) 5 16
    ∷ refuses five [] (6 ∷ 1 ∷ []) 0 16
    ∷ refuses five (6 ∷ 1 ∷ []) [] 5 16
    ∷ refuses five [] (1 ∷ []) 1 12
    ∷ names five [] (1 ∷ []) (1 ∷ 3 ∷ [])
    ∷ []

unfoldable holds : Row → Bool
holds r = says (report r.log (pairs_of r.pairs) r.lost r.room) r.refusal r.lines

computed : T (all holds rows)
computed =
    unfold holds same_numbers says word digits_within digits more number in
    unfold reading.field reading.done_rule reading.change reading.one reading.items reading.tail reading.did reading.line in
    unfold read_did read_line reading.base_cell reading.base read_base read_site read_whole in
    unfold replaced_with profile_of entered_with enter_with enter_all_with cell_from_with cell_with start_cell touches runs_at can_run_with in
    unfold check and_then wrong_count no_such_history history_twice change_misfits_with form_refusal changes_refusal_with in
    unfold mark_from lines_from histories_fit accepts_with rises follows live_in table_holds in_order base_fits in
    unfold read_lines read_second read_first read_log beside shares in
    unfold numbers_from is_line line_at pairs_of by_history by_transaction takes grow rounds removal in
    unfold refuse_if not_among too_long report_lines report_log report in
    tt

-- Every report says what its row has.
pub examples : (r : Row) → Mem r rows → says (report r.log (pairs_of r.pairs) r.lost r.room) r.refusal r.lines ≡ true
unfolding holds
examples r m = T_true (says (report r.log (pairs_of r.pairs) r.lost r.room) r.refusal r.lines)
    (all-at holds rows computed r m)
