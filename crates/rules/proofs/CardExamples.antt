-- The card of the last W lines, computed from session texts, on both sides of each edge of 02's sentences; and an exchange of lines.
use Rattle.std.specs.Prelude.{◌≡◌, refl, Bool, false, List, [], ◌∷◌, ◌++◌, map, ℕ, ◌+◌, T}
use mathlib.Core.List.{Memᴰ as Mem}
use Rattle.std.proofs.Math.Option.{Option, none, some}
use Rattle.forms.specs.Lists.{all, below}
use Rattle.forms.specs.ListLaws.{all-at}
use Rattle.forms.specs.Words.{bytes, word}
use Rattle.forms.specs.Decimal.{digits_within, digits, more, number}
use Rattle.forms.specs.Refusals.{number_of}
use Rattle.forms.specs.Limits.{log_limit}
use Rattle.forms.specs.Forms.{field_text, fields_text, items_text, tail_text, list_text, update_text, change_text, one_text, site_text, did_text}
use Rattle.forms.specs.Forms.{stable_text, line_text, redo_text, base_cell_text, base_text, Change, Did}
use Rattle.forms.specs.declared.DoneRule.TheVariants.{DidInc, DidSet}
use Rattle.forms.specs.Reading as reading
use Rattle.forms.specs.Reading.{read_base, read_did, read_line, read_site, read_command, read_whole}
use Rattle.rules.specs.Book.{start_cell, touches, runs_at}
use Rattle.rules.specs.Checks.{check, and_then, wrong_count, no_such_history, history_twice, update_misfits, form_refusal, updates_refusal}
use Rattle.rules.specs.Log.{read_second, base_fits, in_order, head_text, ended, lines_text, log_text, lines_of, lines_from, rest_from}
use Rattle.rules.specs.Log.{histories_fit, stables_from, stables_at, weave_from}
use Rattle.rules.specs.Log.{closing, mark_from, up_to_did, reported, rises, follows, live_in, table_holds}
use Rattle.rules.specs.State.{State, settle, log_bytes, version_at, live_done, live, asks, dry, became_dry, rose, line_bytes, bytes_of}
use Rattle.rules.specs.Calls.{base_cut, unless, open_full, open_refusal, opened, open_site, blocked_by, blocked, may_run_now, ready, attempt}
use Rattle.rules.specs.Calls.{try_from, made_ready}
use Rattle.rules.specs.Calls.{never_now, holds_never, overtaken, not_overtaken, overtaken_ids, at_highest}
use Rattle.rules.specs.Calls.{nothing_orders, id_pending, id_done, already_done, read_overtaken, table_full, add_refusal}
use Rattle.rules.specs.Calls.{arrived, add, change_of, line_of}
use Rattle.rules.specs.Calls.{values_after, in_progress, future, without, log_full, finished, finish_found, finish}
use Rattle.rules.specs.Calls.{withdraw_refusal, withdraw, persistent}
use Rattle.rules.specs.Calls.{above_mark, stable_full, stable_refusal, stabled, stable, restarted, restart_as, restart, cut_above}
use Rattle.rules.specs.Calls.{cut, stale, redo_refusal, behind, pick, drain, delivered}
use Rattle.rules.specs.Calls.{redo_read, redo, end, changeover, writable_update, writable, perform, step}
use Rattle.rules.specs.Calls.{Call, Finish, Cut, Changeover, Redo}
use Rattle.rules.specs.Keeper.{same_bytes}
use Rattle.rules.specs.Session.{Session, turn_of, opening, calling, obey, on_command, turn}
use Rattle.rules.specs.Rules.{profile_of, replaced_with}
use Rattle.rules.specs.Book.{can_run_with, cell_from_with, cell_with, enter_all_with, enter_with, entered_with}
use Rattle.rules.specs.Checks.{change_misfits_with, changes_refusal_with}
use Rattle.rules.specs.Log.{accepts_with, read_lines, read_first, read_log}
use Rattle.rules.proofs.PollExamples.{after}
use Rattle.rules.proofs.Examples.{same_bytes_lem}
use Rattle.rules.specs.Trim.{base_cell_at, trimmed_base, trimmed_lines, trim_text, trim_above, trim_full, trim_refusal}
use Rattle.rules.specs.Card.{Carded, not_carded, carded, column_of, tallied, updates_in, updates_over, last_lines, rows_over}
use Rattle.rules.specs.Card.{row_over, comes_in, all_come_in, takes_back, followed, followed_by}
use Rattle.rules.specs.Card.{card_afresh, card_numbers, window_out, card_refusal, card}

-- the numbers of a card, or that of the refusal
unfoldable pub told : Carded → List ℕ
told (not_carded q) = number_of q ∷ []
told (carded rows) = card_numbers rows

-- a site, or the one changed over to a copy of its log from n operations on
unfoldable pub changed : Option ℕ → State → State
changed none st = st
changed (some n) st = settle (step (Changeover n log_limit) st) st

-- the card of W lines of a site; or the one that it had, followed by one call more
unfoldable pub card_then : ℕ → Option Call → State → List ℕ
card_then w none st = told (card w st)
card_then w (some c) st = card_numbers (rows_over st.histories (followed_by w (c ∷ []) st (last_lines w st.log)))

-- .. of a session's site
unfoldable pub asked : ℕ → Option ℕ → Option Call → Session → List ℕ
asked w over next none = []
asked w over next (some st) = card_then w next (changed over st)

-- A session of a site of two histories, a changeover behind it or none, a call that the card follows or none, and the card of W lines then:
-- inc, set and not of history 0, and of history 1.
pub record Row : Type 0 where
  pub window : ℕ
  pub calls : List ℕ
  pub over : Option ℕ
  pub next : Option Call
  pub told : List ℕ

abbrev row : ℕ → List ℕ → List ℕ → Row
row w calls told = record { window = w; calls = calls; over = none; next = none; told = told }

abbrev row_behind : ℕ → List ℕ → ℕ → List ℕ → Row
row_behind w calls n told = record { window = w; calls = calls; over = some n; next = none; told = told }

abbrev row_next : ℕ → List ℕ → Call → List ℕ → Row
row_next w calls c told = record { window = w; calls = calls; over = none; next = some c; told = told }

-- six numbers
abbrev six : ℕ → ℕ → ℕ → ℕ → ℕ → ℕ → List ℕ
six a b c d e f = a ∷ b ∷ c ∷ d ∷ e ∷ f ∷ []

-- 01's two operations: `(did 5 (inc 0 1 1 513)(not 1 0 1 0))`, `(did 6 (set 1 4 2 1000))`
abbrev added : List ℕ
added = bytes "(add 5 (inc 0 1 513)(not 1 0 0))\n(add 6 (set 1 4 1000))\n"

abbrev both : List ℕ
both = added ++ bytes "(finish 5)\n(finish 6)\n"

-- two lines that wait for a third
abbrev waiting : List ℕ
waiting = bytes "(cut 9)\n(redo (did 8 (inc 0 3 3 0)))\n(redo (did 7 (inc 0 2 2 0)))\n"

abbrev pub edges : List Row
edges =
    -- 22: "W is chosen from 1 to 1,024"
    row 0 both (22 ∷ [])
    ∷ row 1 both (six 0 0 0 0 1 0)
    ∷ row 1024 both (six 1 0 0 0 1 1)
    ∷ row 1025 both (22 ∷ [])
    -- "over the last W did lines"; "with fewer lines in the log all count"
    ∷ row 2 both (six 1 0 0 0 1 1)
    ∷ row 3 both (six 1 0 0 0 1 1)
    -- a future operation and one in progress have no line
    ∷ row 2 added (six 0 0 0 0 0 0)
    ∷ row 2 (added ++ bytes "(finish 5)\n") (six 1 0 0 0 0 1)
    -- an unk is logged as inc
    ∷ row 1 (bytes "(add 5 (set 0 1 0)(unk 1 0 0))\n(finish 5)\n") (six 0 1 0 1 0 0)
    -- a stable line does not count
    ∷ row 1 (both ++ bytes "(persistent 2)\n(stable 2)\n") (six 0 0 0 0 1 0)
    -- "after every call and cut": what was overtaken by a newer line comes back into view
    ∷ row 1 (both ++ bytes "(cut 46)\n") (six 1 0 0 0 0 1)
    ∷ row 1 (both ++ bytes "(cut 45)\n") (six 0 0 0 0 0 0)
    -- a refused call changes nothing
    ∷ row 1 (both ++ bytes "(cut 3)\n(finish 5)\n") (six 0 0 0 0 1 0)
    -- a line that waits does not count
    ∷ row 3 waiting (six 0 0 0 0 0 0)
    -- a redo that runs three counts three
    ∷ row 3 (waiting ++ bytes "(redo (did 6 (inc 0 1 1 0)))\n") (six 3 0 0 0 0 0)
    ∷ row 2 (waiting ++ bytes "(redo (did 6 (inc 0 1 1 0)))\n") (six 2 0 0 0 0 0)
    -- (h): only lines that stand in the log
    ∷ row_behind 2 (both ++ bytes "(persistent 2)\n(stable 1)\n") 0 (six 1 0 0 0 1 1)
    ∷ row_behind 2 (both ++ bytes "(persistent 2)\n(stable 1)\n") 1 (six 0 0 0 0 1 0)
    -- "When a line comes in and W already count, the oldest leaves", and not before
    ∷ row_next 1 (added ++ bytes "(finish 5)\n") (Finish 6) (six 0 0 0 0 1 0)
    ∷ row_next 2 (added ++ bytes "(finish 5)\n") (Finish 6) (six 1 0 0 0 1 1)
    -- behind a cut a card is counted afresh: the line that had left it is the last again
    ∷ row_next 1 both (Cut 46 log_limit) (six 1 0 0 0 0 1)
    ∷ row_next 1 both (Cut 3 log_limit) (six 0 0 0 0 1 0)
    -- behind a changeover too: the first line no longer stands in the log
    ∷ row_next 2 (both ++ bytes "(persistent 2)\n(stable 1)\n") (Changeover 1 log_limit) (six 0 0 0 0 1 0)
    -- all lines come in that a redo runs
    ∷ row_next 3 waiting (Redo (bytes "(did 6 (inc 0 1 1 0))")) (six 3 0 0 0 0 0)
    ∷ []

-- The test of a row.
unfoldable holds : Row → Bool
holds r = same_bytes (asked r.window r.over r.next (after (lines_of (bytes "(site 2)\n" ++ r.calls)) none)) r.told

-- The one computed test, over the whole table.
computed : T (all holds edges)
computed =
    unfold holds asked card_then changed after told same_bytes below word digits_within digits more number number_of in
    unfold field_text fields_text items_text tail_text list_text update_text change_text one_text site_text did_text stable_text line_text redo_text in
    unfold reading.field reading.rule reading.done_rule reading.update reading.change reading.one reading.items reading.tail reading.did in
    unfold reading.add_form in
    unfold reading.redo_form reading.numbered reading.command reading.line read_did read_line reading.base_cell reading.base read_base in
    unfold read_site read_command read_whole in
    unfold replaced_with profile_of entered_with enter_with enter_all_with cell_from_with cell_with start_cell touches runs_at can_run_with in
    unfold check and_then wrong_count no_such_history history_twice update_misfits change_misfits_with in
    unfold form_refusal updates_refusal changes_refusal_with in
    unfold stables_from stables_at weave_from mark_from up_to_did reported ended lines_text log_text head_text lines_from rest_from histories_fit in
    unfold accepts_with in
    unfold rises follows live_in table_holds in_order base_fits read_lines read_second read_first read_log in
    unfold log_bytes version_at live_done live asks dry became_dry rose line_bytes bytes_of in
    unfold unless open_full open_refusal opened open_site blocked_by blocked may_run_now ready attempt try_from made_ready in
    unfold nothing_orders id_pending id_done in
    unfold never_now holds_never overtaken not_overtaken overtaken_ids at_highest in
    unfold already_done read_overtaken table_full add_refusal arrived add change_of line_of values_after in_progress future in
    unfold without log_full finished in
    unfold finish_found finish withdraw_refusal withdraw persistent above_mark stable_full stable_refusal stabled stable restarted restart_as in
    unfold restart cut_above base_cut cut stale redo_refusal behind pick in
    unfold drain delivered redo_read redo end writable_update writable perform step in
    unfold turn_of opening calling obey on_command turn in
    unfold base_cell_text base_text closing settle base_cell_at trimmed_base trimmed_lines trim_text trim_above trim_full trim_refusal changeover in
    unfold column_of tallied updates_in updates_over last_lines row_over rows_over card_afresh card_numbers window_out card_refusal card in
    unfold comes_in all_come_in takes_back followed followed_by in
    tt

-- Each row holds.
pub cards_hold : (r : Row) → Mem r edges →
    asked r.window r.over r.next (after (lines_of (bytes "(site 2)\n" ++ r.calls)) none) ≡ r.told
unfolding holds
cards_hold r m =
    same_bytes_lem (asked r.window r.over r.next (after (lines_of (bytes "(site 2)\n" ++ r.calls)) none)) r.told
    (all-at holds edges computed r m)

-- ### Why no line may have a history twice

-- `(did 5 (inc 0 1 1 0)(inc 0 2 2 0))`, which refusal 4 keeps out of every log
abbrev twice : Did
twice = record { id = 5; changes = change 1 ∷ change 2 ∷ [] }
  where
    change : ℕ → Change
    change n = record { rule = DidInc; history = 0; version = n; place = n; operand = 0 }

-- `(did 6 (set 1 1 1 0))`
abbrev other : Did
other = record { id = 6; changes = record { rule = DidSet; history = 1; version = 1; place = 1; operand = 0 } ∷ [] }

-- Exchanged for a line with a history twice, a single line moves a count by 2: the other one has none twice.
pub exchange_twice : (history_twice (map (λ (x : Change). x.history) other.changes) ≡ false) ×
    (updates_over DidInc 0 (other ∷ []) + 2 ≡ updates_over DidInc 0 (twice ∷ []))
unfolding history_twice updates_over updates_in tallied column_of
exchange_twice = (refl, refl)
