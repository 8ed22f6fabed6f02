-- What a poll says, computed from session texts, on both sides of each edge of 02's sentence: "future, in-progress and volatile updates".
use Rattle.std.specs.Prelude.{◌≡◌, Bool, List, [], ◌∷◌, ◌++◌, map, ℕ, T}
use mathlib.Core.List.{Memᴰ as Mem}
use Rattle.std.proofs.Math.Option.{none, some}
use Rattle.forms.specs.Lists.{all, below}
use Rattle.forms.specs.ListLaws.{all-at}
use Rattle.forms.specs.Words.{bytes, word}
use Rattle.forms.specs.Decimal.{digits_within, digits, more, number}
use Rattle.forms.specs.Refusals.{number_of}
use Rattle.forms.specs.Limits.{log_limit}
use Rattle.forms.specs.Forms.{field_text, fields_text, items_text, tail_text, list_text, update_text, change_text, one_text, site_text, did_text}
use Rattle.forms.specs.Forms.{stable_text, line_text, redo_text}
use Rattle.forms.specs.Reading as reading
use Rattle.forms.specs.Reading.{read_base, read_did, read_line, read_site, read_command, read_whole}
use Rattle.rules.specs.Book.{start_cell, touches, runs_at}
use Rattle.rules.specs.Checks.{check, and_then, wrong_count, no_such_history, history_twice, update_misfits, form_refusal, updates_refusal}
use Rattle.rules.specs.Log.{read_second, base_fits, in_order, head_text, ended, lines_text, log_text, lines_of, lines_from, rest_from}
use Rattle.rules.specs.Log.{histories_fit, stables_from, stables_at, weave_from}
use Rattle.rules.specs.Log.{mark_from, up_to_did, reported, rises, follows, live_in, table_holds}
use Rattle.rules.specs.State.{log_bytes, version_at, live_done, live, asks, dry, became_dry, rose, line_bytes, bytes_of}
use Rattle.rules.specs.Calls.{base_cut, unless, open_full, open_refusal, opened, open_site, blocked_by, blocked, may_run_now, ready, attempt}
use Rattle.rules.specs.Calls.{try_from, made_ready}
use Rattle.rules.specs.Calls.{never_now, holds_never, overtaken, not_overtaken, overtaken_ids, at_highest}
use Rattle.rules.specs.Calls.{nothing_orders, id_pending, id_done, already_done, read_overtaken, table_full, add_refusal, arrived, add}
use Rattle.rules.specs.Calls.{change_of, line_of}
use Rattle.rules.specs.Calls.{values_after, in_progress, future, without, log_full, finished, finish_found, finish, withdraw_refusal}
use Rattle.rules.specs.Calls.{withdraw, persistent}
use Rattle.rules.specs.Calls.{above_mark, stable_full, stable_refusal, stabled, stable, restarted, restart_as, restart, cut_above, cut}
use Rattle.rules.specs.Calls.{stale, redo_refusal, behind, pick, drain, delivered}
use Rattle.rules.specs.Calls.{redo_read, redo, end, writable_update, writable, perform, step}
use Rattle.rules.specs.Keeper.{same_bytes}
use Rattle.rules.specs.Session.{Session, turn_of, opening, calling, obey, on_command, turn}
use Rattle.rules.specs.Rules.{profile_of, replaced_with}
use Rattle.rules.specs.Book.{can_run_with, cell_from_with, cell_with, enter_all_with, enter_with, entered_with}
use Rattle.rules.specs.Checks.{change_misfits_with, changes_refusal_with}
use Rattle.rules.specs.Log.{accepts_with, read_lines, read_first, read_log}
use Rattle.rules.specs.Poll.{Polled, PollRefused, PollDry, PollBusy, poll, asks_in, changes_in, busy}
use Rattle.rules.proofs.Examples.{same_bytes_lem}

-- 0 for dry, 1 for busy, and the number of a refusal
unfoldable pub told : Polled → ℕ
told PollDry = 0
told PollBusy = 1
told (PollRefused q) = number_of q

-- the session after some lines
unfoldable pub after : List (List ℕ) → Session → Session
after [] s = s
after (l ∷ ls) s = after ls (turn log_limit l s).after

-- what polls of histories 0, 1 and 2 say then, and the numbers that are kept for histories 0 and 1
unfoldable pub asked : Session → List ℕ
asked none = []
asked (some st) = map (λ (h : ℕ). told (poll h st)) (below 3) ++ map (busy st) (below 2)

-- what they say after the lines of a text
unfoldable pub polls : List ℕ → List ℕ
polls text = asked (after (lines_of text) none)

-- A session of a site of two histories, what the three polls at its end say, and the two numbers.
pub record Row : Type 0 where
  pub calls : List ℕ
  pub told : List ℕ

-- history 0 is dry or has one update on its way, history 1 is or has, and there is no history 2
abbrev dry_dry : List ℕ
dry_dry = 0 ∷ 0 ∷ 3 ∷ 0 ∷ 0 ∷ []

abbrev dry_busy : List ℕ
dry_busy = 0 ∷ 1 ∷ 3 ∷ 0 ∷ 1 ∷ []

abbrev busy_dry : List ℕ
busy_dry = 1 ∷ 0 ∷ 3 ∷ 1 ∷ 0 ∷ []

abbrev row : List ℕ → List ℕ → Row
row calls told = record { calls = calls; told = told }

-- an operation that is volatile
abbrev volatile : List ℕ
volatile = bytes "(add 5 (inc 0 1 0))\n(finish 5)\n"

abbrev pub edges : List Row
edges =
    row (bytes "") dry_dry
    -- a future update counts, and one that was withdrawn no more
    ∷ row (bytes "(add 5 (inc 0 2 0))\n") busy_dry
    ∷ row (bytes "(add 5 (inc 0 2 0))\n(withdraw 5)\n") dry_dry
    -- one in progress counts, a reading one too
    ∷ row (bytes "(add 5 (inc 0 1 0))\n") busy_dry
    ∷ row (bytes "(add 5 (not 1 0 0))\n") dry_busy
    -- a volatile one counts, a persistent one does not
    ∷ row volatile busy_dry
    ∷ row (volatile ++ bytes "(persistent 1)\n") dry_dry
    ∷ row (volatile ++ bytes "(persistent 1)\n(stable 1)\n") dry_dry
    -- the first of two is persistent, the second is volatile
    ∷ row (volatile ++ bytes "(add 6 (inc 1 1 0))\n(finish 6)\n(persistent 1)\n") dry_busy
    -- (b): the updates of an operation that a finish overtook count no more
    ∷ row (bytes "(add 5 (set 0 5 0))\n(add 6 (inc 0 2 0)(inc 1 1 0))\n(finish 5)\n") busy_dry
    ∷ row (bytes "(add 5 (set 0 5 0))\n(add 6 (inc 0 6 0)(inc 1 2 0))\n(finish 5)\n") (1 ∷ 1 ∷ 3 ∷ 2 ∷ 1 ∷ [])
    -- a refused call changes nothing
    ∷ row (volatile ++ bytes "(persistent 2)\n(withdraw 5)\n") busy_dry
    -- after a cut nothing counts, whether the line was kept or lost
    ∷ row (volatile ++ bytes "(cut 9)\n") dry_dry
    ∷ row (volatile ++ bytes "(cut 31)\n") dry_dry
    -- while restoring: a line that waits does not count, one that redo ran does
    ∷ row (volatile ++ bytes "(cut 9)\n(redo (did 6 (inc 0 2 2 0)))\n") dry_dry
    ∷ row (volatile ++ bytes "(cut 9)\n(redo (did 5 (inc 0 1 1 0)))\n") busy_dry
    -- .. and when it ends
    ∷ row (volatile ++ bytes "(cut 9)\n(redo (did 6 (inc 0 2 2 0)))\n(end)\n") dry_dry
    ∷ row (volatile ++ bytes "(cut 9)\n(redo (did 5 (inc 0 1 1 0)))\n(end)\n") busy_dry
    ∷ row (volatile ++ bytes "(cut 9)\n(redo (did 5 (inc 0 1 1 0)))\n(persistent 1)\n") dry_dry
    ∷ []

-- The test of a row.
unfoldable holds : Row → Bool
holds r = same_bytes (polls (bytes "(site 2)\n" ++ r.calls)) r.told

-- The one computed test, over the whole table.
computed : T (all holds edges)
computed =
    unfold holds polls asked after told same_bytes below word digits_within digits more number number_of in
    unfold field_text fields_text items_text tail_text list_text update_text change_text one_text site_text did_text stable_text line_text redo_text in
    unfold reading.field reading.rule reading.done_rule reading.update reading.change in
    unfold reading.one reading.items reading.tail reading.did reading.add_form in
    unfold reading.redo_form reading.numbered reading.command reading.line read_did read_line reading.base_cell reading.base read_base in
    unfold read_site read_command read_whole in
    unfold replaced_with profile_of entered_with enter_with enter_all_with cell_from_with cell_with start_cell touches runs_at can_run_with in
    unfold check and_then wrong_count no_such_history history_twice update_misfits change_misfits_with in
    unfold form_refusal updates_refusal changes_refusal_with in
    unfold stables_from stables_at weave_from mark_from up_to_did reported ended lines_text log_text head_text lines_from rest_from histories_fit in
    unfold accepts_with in
    unfold rises follows live_in table_holds in_order base_fits read_lines read_second read_first read_log in
    unfold log_bytes version_at live_done live asks dry became_dry rose line_bytes bytes_of in
    unfold unless open_full open_refusal opened open_site blocked_by blocked in
    unfold may_run_now ready attempt try_from made_ready nothing_orders id_pending id_done in
    unfold never_now holds_never overtaken not_overtaken overtaken_ids at_highest in
    unfold already_done read_overtaken table_full add_refusal arrived add change_of in
    unfold line_of values_after in_progress future without log_full finished in
    unfold finish_found finish withdraw_refusal withdraw persistent above_mark stable_full stable_refusal stabled stable restarted restart_as in
    unfold restart cut_above base_cut cut stale redo_refusal behind pick in
    unfold drain delivered redo_read redo end writable_update writable perform step in
    unfold turn_of opening calling obey on_command turn poll asks_in changes_in busy in
    tt

-- Each row holds.
pub polls_hold : (r : Row) → Mem r edges → polls (bytes "(site 2)\n" ++ r.calls) ≡ r.told
unfolding holds
polls_hold r m = same_bytes_lem (polls (bytes "(site 2)\n" ++ r.calls)) r.told (all-at holds edges computed r m)
