-- 02 (i): cuts that leave given places, computed on both sides of each edge.
use Rattle.std.specs.Prelude.{◌≡◌, true, false, List, [], ◌∷◌, ◌++◌, ℕ, ◌+◌, length}
use Rattle.std.proofs.Math.Path.{refl}
use Rattle.forms.specs.Lists.{below}
use Rattle.forms.specs.Words.{bytes, word}
use Rattle.forms.specs.Decimal.{digits_within, digits, more, number}
use Rattle.forms.specs.Forms.{field_text, fields_text, items_text, tail_text, list_text, change_text, one_text}
use Rattle.forms.specs.Forms.{site_text, did_text, stable_text, line_text, base_cell_text, base_text}
use Rattle.forms.specs.Reading as reading
use Rattle.forms.specs.Reading.{read_base, read_did, read_line, read_site, read_whole}
use Rattle.forms.specs.declared.Refusal.TheVariants.{NoLengthFits}
use Rattle.rules.specs.Rules.{profile_of, replaced_with}
use Rattle.rules.specs.Book.{start_cell, touches, runs_at, can_run_with, cell_from_with, cell_with, enter_all_with, enter_with, entered_with}
use Rattle.rules.specs.Checks.{check, and_then, wrong_count, no_such_history, history_twice, change_misfits_with, form_refusal}
use Rattle.rules.specs.Checks.{changes_refusal_with}
use Rattle.rules.specs.Log.{read_second, base_fits, in_order, head_text, stables_from, stables_at, weave_from, mark_from}
use Rattle.rules.specs.Log.{ended, dids_text, lines_text, log_text, lines_from, histories_fit, accepts_with, rises, follows, live_in}
use Rattle.rules.specs.Log.{table_holds, read_lines, read_first, read_log}
use Rattle.rules.specs.State.{State, settle, log_bytes}
use Rattle.rules.specs.Calls.{unless, opened, restarted, restart_as, restart, cut_above, base_cut, cut}
use Rattle.rules.specs.Keeper.{same_bytes}
use Rattle.rules.proofs.StableExamples.{dones}
use Rattle.rules.specs.FindCut.{places_of, leaves, fits, first_from, not_found, keep, found, find_cut}

-- the site that a restart from all of these bytes gives
abbrev from : List ℕ → State
from log = settle (restart log (length log)) (opened 1 9)

-- 01's log of 71 bytes, and `(stable 1)` behind it
abbrev session : State
session = from (bytes "(site 2)\n(did 5 (inc 0 1 1 513)(not 1 0 1 0))\n(did 6 (set 1 4 2 1000))\n(stable 1)\n")

-- a copy of a log whose first operation was stable when its id came again: 9 + 22 + 22 + 11 bytes
abbrev again : State
again = from (bytes "(site 1)\n(did 1 (inc 0 1 1 0))\n(did 1 (inc 0 2 2 0))\n(stable 1)\n(did 2 (inc 0 3 3 0))\n")

-- a log with a base line, 9 + 19 + 22 bytes
abbrev based : State
based = from (bytes "(site 1)\n(base 5 (0 5 5 7))\n(did 6 (inc 0 6 6 0))\n")

-- so many did lines in one history, behind the site line
abbrev many : ℕ → List ℕ
many n = bytes "(site 1)\n" ++ dids_text (dones n)

-- an older log of 70 did lines, changed over
abbrev seventy : State
seventy = from (many 70 ++ bytes "(stable 70)\n")

-- How many bytes are kept.
record Finds : Type 0 where
  -- the smallest number, not the greatest: 46 to 70 leave the same, and 71 to 82
  nothing : find_cut (0 ∷ 0 ∷ []) session ≡ keep 9
  one : find_cut (1 ∷ 1 ∷ []) session ≡ keep 46
  all : find_cut (1 ∷ 2 ∷ []) session ≡ keep 71
  greatest : fits (1 ∷ 2 ∷ []) session 82 ≡ true
  -- places that no length leaves
  never : find_cut (0 ∷ 1 ∷ []) session ≡ not_found NoLengthFits
  above : find_cut (1 ∷ 3 ∷ []) session ≡ not_found NoLengthFits
  -- "A list with more or fewer places than the log has histories fits no length", also not by zeros
  empty : find_cut [] session ≡ not_found NoLengthFits
  shorter : find_cut (0 ∷ []) session ≡ not_found NoLengthFits
  longer : find_cut (0 ∷ 0 ∷ 0 ∷ []) session ≡ not_found NoLengthFits
  -- 15: two live kept lines of one id up to the stable line
  first : find_cut (1 ∷ []) again ≡ keep 31
  second : find_cut (2 ∷ []) again ≡ keep 64
  early : fits (2 ∷ []) again 53 ≡ false
  third : find_cut (3 ∷ []) again ≡ keep 86
  -- a cut without the whole base line is refused
  base : find_cut (5 ∷ []) based ≡ keep 28
  torn : find_cut (0 ∷ []) based ≡ not_found NoLengthFits
  behind : find_cut (6 ∷ []) based ≡ keep 50

-- 15 by 65 live kept lines: at the end of did line 64 and behind it, and only behind the stable line again.
record Seventy : Type 0 where
  at64 : fits (64 ∷ []) seventy (length (many 64)) ≡ true
  at65 : fits (65 ∷ []) seventy (length (many 65)) ≡ false
  at70 : fits (70 ∷ []) seventy (length (many 70)) ≡ false
  whole : fits (70 ∷ []) seventy (length (many 70) + 12) ≡ true

finds : Finds
finds =
    unfold places_of leaves fits first_from found find_cut settle same_bytes in
    unfold below word digits_within digits more number in
    unfold field_text fields_text items_text tail_text list_text change_text one_text site_text did_text base_cell_text base_text stable_text line_text in
    unfold reading.field reading.done_rule reading.change reading.one reading.items reading.tail reading.did in
    unfold reading.line in
    unfold read_did read_line reading.base_cell reading.base read_base read_site read_whole in
    unfold replaced_with profile_of entered_with enter_with enter_all_with cell_from_with cell_with start_cell touches runs_at can_run_with in
    unfold check and_then wrong_count no_such_history history_twice change_misfits_with form_refusal changes_refusal_with in
    unfold stables_from stables_at weave_from mark_from ended lines_text log_text head_text lines_from histories_fit in
    unfold accepts_with rises follows live_in table_holds in_order base_fits read_lines read_second read_first read_log in
    unfold log_bytes unless opened restarted restart_as restart cut_above base_cut cut in
    record {
      nothing = refl;
      one = refl;
      all = refl;
      greatest = refl;
      never = refl;
      above = refl;
      empty = refl;
      shorter = refl;
      longer = refl;
      first = refl;
      second = refl;
      early = refl;
      third = refl;
      base = refl;
      torn = refl;
      behind = refl;
    }

seventy-lines : Seventy
seventy-lines =
    unfold places_of leaves fits first_from found find_cut settle same_bytes dones dids_text in
    unfold below word digits_within digits more number in
    unfold field_text fields_text items_text tail_text list_text change_text one_text site_text did_text base_cell_text base_text stable_text line_text in
    unfold reading.field reading.done_rule reading.change reading.one reading.items reading.tail reading.did in
    unfold reading.line in
    unfold read_did read_line reading.base_cell reading.base read_base read_site read_whole in
    unfold replaced_with profile_of entered_with enter_with enter_all_with cell_from_with cell_with start_cell touches runs_at can_run_with in
    unfold check and_then wrong_count no_such_history history_twice change_misfits_with form_refusal changes_refusal_with in
    unfold stables_from stables_at weave_from mark_from ended lines_text log_text head_text lines_from histories_fit in
    unfold accepts_with rises follows live_in table_holds in_order base_fits read_lines read_second read_first read_log in
    unfold log_bytes unless opened restarted restart_as restart cut_above base_cut cut in
    record { at64 = refl; at65 = refl; at70 = refl; whole = refl }
