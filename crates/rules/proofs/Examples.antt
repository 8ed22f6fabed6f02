-- The session of "A session, whole", the cases P1 to P10 of "At the edges" and those of 02 (b) and (l), computed from the definitions.
use Rattle.std.specs.Prelude.{◌≡◌, Bool, true, false, not, ◌&&◌, List, [], ◌∷◌, ◌++◌, ℕ, zero, suc, ◌+◌, T, eqb}
use Rattle.std.proofs.Math.Path.{refl}
use Rattle.std.proofs.Common.{ap₂, eqb→eq}
use mathlib.Core.List.Memᴰ
use mathlib.Core.List.Memᴰ.{head as here}
use mathlib.Core.List.Memᴰ.{tail as there}
use mathlib.Core.List.{Memᴰ as Mem}
use Rattle.std.proofs.Math.Option.{none, some}
use Prim.Native.String.{String}
use Rattle.forms.specs.Lists.{all, below}
use Rattle.forms.specs.ListLaws.{and_left, and_right, all-at}
use Rattle.forms.specs.Words.{bytes, word}
use Rattle.forms.specs.Decimal.{top, digits_within, digits, more, number}
use Rattle.forms.specs.Refusals.{number_of}
use Rattle.forms.specs.Forms.{Update, Did, field_text, fields_text, items_text, tail_text, list_text, update_text, change_text, one_text, site_text}
use Rattle.forms.specs.Forms.{did_text, redo_text, stable_text, line_text}
use Rattle.forms.specs.Forms.{numbers_text, answer_text, outcome_text}
use Rattle.forms.specs.Reading as reading
use Rattle.forms.specs.Reading.{read_base, read_did, read_site, read_command, read_whole, read_line}
use Rattle.forms.specs.Limits.{log_limit}
use Rattle.forms.specs.declared.Rule.TheVariants.{Inc, Set, Unk}
use Rattle.forms.specs.declared.DoneRule.TheVariants.{DidSet}
use Rattle.forms.specs.declared.Refusal.TheVariants.{HighestVersion, TableFull}
use Rattle.rules.specs.Book.{blank_base, start_cell, touches, runs_at}
use Rattle.rules.specs.Checks.{check, and_then, wrong_count, no_such_history, history_twice, update_misfits, form_refusal, updates_refusal}
use Rattle.rules.specs.Log.{read_second, base_fits, in_order, head_text, ended, log_text, lines_from, rest_from, histories_fit, stables_from}
use Rattle.rules.specs.Log.{stables_at, weave_from, mark_from, up_to_did}
use Rattle.rules.specs.Log.{reported, lines_text, rises, follows, live_in, table_holds}
use Rattle.rules.specs.State.{Operation, State, log_bytes, version_at, live_done, live, asks, dry, became_dry, rose, line_bytes, bytes_of}
use Rattle.rules.specs.Calls.{base_cut, unless, open_full, open_refusal, opened, open_site, blocked_by, blocked, may_run_now, ready, attempt}
use Rattle.rules.specs.Calls.{try_from}
use Rattle.rules.specs.Calls.{made_ready, never_now, holds_never, overtaken, not_overtaken, overtaken_ids, nothing_orders, id_pending}
use Rattle.rules.specs.Calls.{id_done, already_done, read_overtaken, at_highest, table_full, add_refusal, arrived, add, change_of, line_of}
use Rattle.rules.specs.Calls.{values_after, in_progress, future, without, log_full, finished, finish_found, finish, withdraw_refusal}
use Rattle.rules.specs.Calls.{withdraw, persistent}
use Rattle.rules.specs.Calls.{above_mark, stable_full, stable_refusal, stabled, stable, show, restarted, restart_as, restart, cut_above}
use Rattle.rules.specs.Calls.{cut, stale, redo_refusal, behind, pick, drain, delivered}
use Rattle.rules.specs.Calls.{redo_read, redo, end, writable_update, writable, perform, step}
use Rattle.rules.specs.Keeper.{same_bytes}
use Rattle.rules.specs.Session.{turn_of, opening, calling, obey, on_command, turn, replies, rest_reply, session_in, session}
use Rattle.rules.specs.Rules.{profile_of, replaced_with}
use Rattle.rules.specs.Book.{blank_base, can_run_with, cell_from_with, cell_with, enter_all_with, enter_with, entered_with}
use Rattle.rules.specs.Checks.{change_misfits_with, changes_refusal_with}
use Rattle.rules.specs.Log.{accepts_with, read_lines, read_first, read_log}

-- A session: the text of its input, and the text of all its replies.
pub record Row : Type 0 where
  pub input : List ℕ
  pub replies : List ℕ

abbrev row : List ℕ → List ℕ → Row
row input replies = record { input = input; replies = replies }

-- "A session, whole", up to its cut.
abbrev to_cut : List ℕ
to_cut = bytes "(site 2)\n(add 5 (inc 0 1 513)(not 1 0 0))\n(add 6 (set 1 4 1000))\n(finish 5)\n(finish 6)\n(persistent 1)\n(show 0)\n"

abbrev to_cut_replies : List ℕ
to_cut_replies =
    bytes "(ok)\n(ok (ready 5))\n(ok (ready))\n(ok 1 (values 65536 0)(ready 6)(overtaken))\n(ok 2 (values 1000)(ready)(overtaken))\n"
    ++ bytes "(ok (histories 0)(dry 0))\n(history 0 1 1 0 1 65536)\n"

-- "A session, whole".
abbrev pub whole : Row
whole =
    row
    (to_cut ++ bytes "(cut 60)\n(show 1)\n(redo (did 6 (set 1 4 2 1000)))\n(redo (did 6 (set 1 4 2 1000)))\n(end)\n(show 1)\n")
    (to_cut_replies ++ bytes "(ok 1 46)\n(history 1 0 0 0 1 0)\n(ok 1 1)\n(refused 8)\n(ok (waiting))\n(history 1 4 0 0 2 1000)\n")

-- That session's 71 bytes of log, and more calls.
abbrev on71 : List ℕ → List ℕ → Row
on71 calls answers = row (to_cut ++ calls) (to_cut_replies ++ answers)

-- A site of one history at C = 0, and a call.
abbrev at0 : List ℕ → List ℕ → Row
at0 calls answers = row (bytes "(site 1)\n" ++ calls) (bytes "(ok)\n" ++ answers)

-- A site of one history at C = 4, with profile 65536, and more calls.
abbrev at4 : List ℕ → List ℕ → Row
at4 calls answers =
    row
    (bytes "(site 1)\n(add 1 (set 0 4 65536))\n(finish 1)\n" ++ calls)
    (bytes "(ok)\n(ok (ready 1))\n(ok 1 (values 65536)(ready)(overtaken))\n" ++ answers)

-- "At the edges": P1 to P10.
abbrev pub edges : List Row
edges =
    -- P1 to P6: "cut 8 refused 15; cut 9 and 45 `(ok 0 9)`; 46 `(ok 1 46)`; 71 `(ok 2 71)`; 72 refused 13"
    on71 (bytes "(cut 8)\n") (bytes "(refused 15)\n")
    ∷ on71 (bytes "(cut 9)\n") (bytes "(ok 0 9)\n")
    ∷ on71 (bytes "(cut 45)\n") (bytes "(ok 0 9)\n")
    ∷ on71 (bytes "(cut 46)\n") (bytes "(ok 1 46)\n")
    ∷ on71 (bytes "(cut 71)\n") (bytes "(ok 2 71)\n")
    ∷ on71 (bytes "(cut 72)\n") (bytes "(refused 13)\n")
    -- P7: "cut 9, redo of 6", and 02: "P7 reads `(ok 0 1)` and `(ok 2 3)`"
    ∷ on71
    (bytes "(cut 9)\n(redo (did 6 (set 1 4 2 1000)))\n(redo (did 5 (inc 0 1 1 513)(not 1 0 1 0)))\n")
    (bytes "(ok 0 9)\n(ok 0 1)\n(ok 2 3)\n")
    -- P8: "inc at C = 0: 1 runs, 2 waits, 0 refused 8"
    ∷ at0 (bytes "(add 5 (inc 0 1 0))\n") (bytes "(ok (ready 5))\n")
    ∷ at0 (bytes "(add 5 (inc 0 2 0))\n") (bytes "(ok (ready))\n")
    ∷ at0 (bytes "(add 5 (inc 0 0 0))\n") (bytes "(refused 8)\n")
    -- P9: "at C = 4: set 5 runs, set 4 refused 8; not 4 runs, not 3 refused 9, not 5 waits"
    ∷ at4 (bytes "(add 5 (set 0 5 0))\n") (bytes "(ok (ready 5))\n")
    ∷ at4 (bytes "(add 5 (set 0 4 0))\n") (bytes "(refused 8)\n")
    ∷ at4 (bytes "(add 5 (not 0 4 0))\n") (bytes "(ok (ready 5))\n")
    ∷ at4 (bytes "(add 5 (not 0 3 0))\n") (bytes "(refused 9)\n")
    ∷ at4 (bytes "(add 5 (not 0 5 0))\n") (bytes "(ok (ready))\n")
    -- P10: "profile 65536 with operand 255 becomes 65791; profile 0 with 1023 becomes 4278190080"
    ∷ at4 (bytes "(add 5 (inc 0 5 255))\n(finish 5)\n") (bytes "(ok (ready 5))\n(ok 2 (values 65791)(ready)(overtaken))\n")
    ∷ at0 (bytes "(add 5 (inc 0 1 1023))\n(finish 5)\n") (bytes "(ok (ready 5))\n(ok 1 (values 4278190080)(ready)(overtaken))\n")
    -- 02 (c), P10 at the two ends of part 7: profile 0 with 2047 becomes 18374686479671623680, profile 2^64 − 1 with 1792 becomes 2^56 − 1
    ∷ at0 (bytes "(add 5 (inc 0 1 2047))\n(finish 5)\n") (bytes "(ok (ready 5))\n(ok 1 (values 18374686479671623680)(ready)(overtaken))\n")
    ∷ at0
    (bytes "(add 5 (set 0 4 18446744073709551615))\n(finish 5)\n(add 6 (inc 0 5 1792))\n(finish 6)\n")
    (bytes "(ok (ready 5))\n(ok 1 (values 18446744073709551615)(ready)(overtaken))\n"
    ++ bytes "(ok (ready 6))\n(ok 2 (values 72057594037927935)(ready)(overtaken))\n")
    -- 02 (c): "01's refused 1024 is accepted and 2048 is refused 5"
    ∷ at0 (bytes "(add 5 (inc 0 1 1024))\n") (bytes "(ok (ready 5))\n")
    ∷ at0 (bytes "(add 5 (inc 0 1 2048))\n") (bytes "(refused 5)\n")
    ∷ []

-- A site of two histories, cut to its site line, and more calls.
abbrev bare : List ℕ → List ℕ → Row
bare calls answers = row (bytes "(site 2)\n(cut 9)\n" ++ calls) (bytes "(ok)\n(ok 0 9)\n" ++ answers)

-- 02, "S is the count of the written rule's own examinations": what redo replies beside the lines run.
abbrev pub looks : List Row
looks =
    -- the one that waits is looked at, then the new one, which runs, and then the one that waits again
    bare (bytes "(redo (did 1 (inc 0 2 2 0)))\n(redo (did 2 (inc 1 1 1 0)))\n") (bytes "(ok 0 1)\n(ok 1 3)\n")
    -- each round begins at the earliest delivered line, whatever runs: 1 2 3, 1 2, 1
    ∷ bare
    (bytes "(redo (did 1 (inc 0 3 3 0)))\n(redo (did 2 (inc 0 2 2 0)))\n(redo (did 3 (inc 0 1 1 0)))\n")
    (bytes "(ok 0 1)\n(ok 0 2)\n(ok 3 6)\n")
    -- the new line is the last of them: 1 2 3, 1, 2
    ∷ bare
    (bytes "(redo (did 1 (inc 0 2 2 0)))\n(redo (did 2 (inc 0 3 3 0)))\n(redo (did 3 (inc 0 1 1 0)))\n")
    (bytes "(ok 0 1)\n(ok 0 2)\n(ok 3 5)\n")
    -- a round in which none can run looks at all that wait; one over no lines at none
    ∷ bare
    (bytes "(redo (did 1 (inc 0 3 3 0)))\n(redo (did 2 (inc 1 2 2 0)))\n(redo (did 3 (inc 0 1 1 0)))\n(redo (did 4 (inc 0 2 2 0)))\n")
    (bytes "(ok 0 1)\n(ok 0 2)\n(ok 1 5)\n(ok 2 5)\n")
    ∷ []

-- A site of two histories and a set to version 4 in progress in history 0; then more calls.
abbrev under4 : List ℕ → List ℕ → Row
under4 calls answers = row (bytes "(site 2)\n(add 1 (set 0 4 7))\n" ++ calls) (bytes "(ok)\n(ok (ready 1))\n" ++ answers)

-- A site of three histories: history 0 at this version, history 2 at version 1; then an add.
abbrev near_top : String → String → String → Row
near_top version updates answer =
    row
    (bytes "(site 3)\n(add 1 (set 0 " ++ bytes version ++ bytes " 7)(inc 2 1 0))\n(finish 1)\n(add 2 " ++ bytes updates ++ bytes ")\n")
    (bytes "(ok)\n(ok (ready 1))\n(ok 1 (values 7 0)(ready)(overtaken))\n" ++ bytes answer ++ bytes "\n")

-- 02 (b): "A finish drops every future operation that holds a never and names it in a closing `(overtaken ..)` form".
abbrev pub overtakes : List Row
overtakes =
    -- set with U < C and U = C is never, with U = C + 1 now; "Withdrawing such an operation then meets 11", and its id is free at once
    under4
    (bytes "(add 2 (set 0 3 0))\n(add 3 (set 0 4 0))\n(add 4 (set 0 5 8))\n(finish 1)\n"
    ++ bytes "(withdraw 3)\n(finish 3)\n(add 3 (set 0 6 9))\n(finish 4)\n")
    (bytes "(ok (ready))\n(ok (ready))\n(ok (ready))\n(ok 1 (values 7)(ready 4)(overtaken 2 3))\n"
    ++ bytes "(refused 11)\n(refused 11)\n(ok (ready))\n(ok 2 (values 8)(ready 3)(overtaken))\n")
    -- inc with U < C and U = C is never, with U = C + 1 now, with U = C + 2 later
    ∷ under4
    (bytes "(add 2 (inc 0 3 0))\n(add 3 (inc 0 4 0))\n(add 4 (inc 0 5 8))\n(add 5 (inc 0 6 9))\n(finish 1)\n(finish 4)\n")
    (bytes "(ok (ready))\n(ok (ready))\n(ok (ready))\n(ok (ready))\n"
    ++ bytes "(ok 1 (values 7)(ready 4)(overtaken 2 3))\n(ok 2 (values 8)(ready 5)(overtaken))\n")
    -- not with U < C is never, with U = C now, with U = C + 1 later
    ∷ under4
    (bytes "(add 2 (not 0 0 0))\n(add 3 (not 0 3 0))\n(add 4 (not 0 4 0))\n(add 5 (not 0 5 0))\n(finish 1)\n(withdraw 5)\n")
    (bytes "(ok (ready))\n(ok (ready))\n(ok (ready))\n(ok (ready))\n(ok 1 (values 7)(ready 4)(overtaken 2 3))\n(ok (dry))\n")
    -- "`unk` at the highest version is never": one that waits for a set to 2^64 − 1, and one that waits for a set to 2^64 − 2
    ∷ row
    (bytes "(site 2)\n(add 1 (set 0 18446744073709551615 7))\n(add 2 (inc 1 1 0)(unk 0 0 0))\n(finish 1)\n")
    (bytes "(ok)\n(ok (ready 1))\n(ok (ready))\n(ok 1 (values 7)(ready)(overtaken 2))\n")
    ∷ row
    (bytes "(site 2)\n(add 1 (set 0 18446744073709551614 7))\n(add 2 (inc 1 1 0)(unk 0 0 0))\n(finish 1)\n")
    (bytes "(ok)\n(ok (ready 1))\n(ok (ready))\n(ok 1 (values 7)(ready 2)(overtaken))\n")
    -- "17, an added `unk` in a history at the highest version, after 9", on both sides
    ∷ near_top "18446744073709551615" "(inc 1 1 0)(unk 0 0 0)" "(refused 17)"
    ∷ near_top "18446744073709551614" "(inc 1 1 0)(unk 0 0 0)" "(ok (ready 2))"
    ∷ near_top "18446744073709551615" "(inc 1 1 0)(unk 0 0 0)(not 2 0 0)" "(refused 9)"
    ∷ near_top "18446744073709551615" "(inc 1 0 0)(unk 0 0 0)" "(refused 8)"
    ∷ near_top "18446744073709551615" "(inc 1 1 0)(not 0 18446744073709551615 0)" "(ok (ready 2))"
    -- "oldest arrival first", whatever the ids; one never among updates that may run or still could
    ∷ under4
    (bytes "(add 9 (set 0 4 0))\n(add 3 (inc 1 1 0)(not 0 2 0))\n(add 5 (inc 1 2 0))\n(add 4 (inc 1 7 0)(inc 0 4 0))\n"
    ++ bytes "(finish 1)\n(withdraw 5)\n")
    (bytes "(ok (ready))\n(ok (ready))\n(ok (ready))\n(ok (ready))\n(ok 1 (values 7)(ready)(overtaken 9 3 4))\n(ok (dry 1))\n")
    -- "one that a drop made dry is named by no call": history 1, which only 2 asked for. History 0 has a volatile update yet
    ∷ under4
    (bytes "(add 2 (set 0 4 0)(inc 1 1 0))\n(finish 1)\n(persistent 1)\n")
    (bytes "(ok (ready))\n(ok 1 (values 7)(ready)(overtaken 2))\n(ok (histories 0)(dry 0))\n")
    -- an operation in progress is not dropped: 2 runs beside 1, and is finished after it
    ∷ under4
    (bytes "(add 2 (inc 1 1 3))\n(add 3 (inc 1 1 0))\n(finish 1)\n(finish 2)\n")
    (bytes "(ok (ready 2))\n(ok (ready))\n(ok 1 (values 7)(ready)(overtaken))\n(ok 2 (values 3)(ready)(overtaken 3))\n")
    -- a finish that is refused drops nothing
    ∷ under4
    (bytes "(add 2 (set 0 4 0))\n(finish 2)\n(finish 1)\n")
    (bytes "(ok (ready))\n(refused 11)\n(ok 1 (values 7)(ready)(overtaken 2))\n")
    -- a waiting redo line with a never is neither refused nor dropped
    ∷ bare
    (bytes "(redo (did 1 (set 0 4 1 7)))\n(redo (did 2 (inc 0 2 2 0)))\n(redo (did 3 (inc 1 1 1 0)))\n(end)\n")
    (bytes "(ok 1 1)\n(ok 0 1)\n(ok 1 3)\n(ok (waiting 2))\n")
    ∷ []

-- A session whose log buffer has so many bytes.
pub record Short : Type 0 where
  pub room : ℕ
  pub row : Row

abbrev short : ℕ → Row → Short
short room r = record { room = room; row = r }

-- A finish of 1, whose line has 22 bytes, with an operation that it overtakes.
abbrev finishing : List ℕ → Row
finishing answers =
    row
    (bytes "(site 1)\n(add 1 (set 0 4 0))\n(add 2 (set 0 4 7))\n(finish 1)\n(withdraw 2)\n")
    (bytes "(ok)\n(ok (ready 1))\n(ok (ready))\n" ++ answers)

-- Two redos whose lines have 22 bytes each; the first waits.
abbrev redoing : List ℕ → Row
redoing answer =
    bare (bytes "(redo (did 1 (inc 0 2 2 0)))\n(redo (did 2 (inc 1 1 1 0)))\n") (bytes "(ok 0 1)\n" ++ answer)

-- 12, "log .. full; redo counts all waiting lines and this one", on both sides.
abbrev pub full_logs : List Short
full_logs =
    -- a finish that is refused drops nothing
    short 30 (finishing (bytes "(refused 12)\n(ok (dry))\n"))
    ∷ short 31 (finishing (bytes "(ok 1 (values 0)(ready)(overtaken 2))\n(refused 11)\n"))
    -- the line that waits counts
    ∷ short 52 (redoing (bytes "(refused 12)\n"))
    ∷ short 53 (redoing (bytes "(ok 1 3)\n"))
    ∷ []

-- The test of a row: the replies are these, byte for byte.
unfoldable holds : Row → Bool
holds r = same_bytes (session r.input) r.replies

-- .. in a log buffer of so many bytes
unfoldable holds_in : Short → Bool
holds_in s = same_bytes (session_in s.room s.row.input) s.row.replies

pub same_bytes_lem : (a b : List ℕ) → T (same_bytes a b) → a ≡ b
unfolding same_bytes
same_bytes_lem [] [] t = refl
same_bytes_lem [] (y ∷ b) t = absurd t
same_bytes_lem (x ∷ a) [] t = absurd t
same_bytes_lem (x ∷ a) (y ∷ b) t =
    ap₂ (λ (z : ℕ) (l : List ℕ). z ∷ l) (eqb→eq x y (and_left (eqb x y) (same_bytes a b) t))
    (same_bytes_lem a b (and_right (eqb x y) (same_bytes a b) t))

holds_is : (r : Row) → T (holds r) → session r.input ≡ r.replies
unfolding holds
holds_is r t = same_bytes_lem (session r.input) r.replies t

-- All rows: the session of 01, P1 to P10, and those of 02.
abbrev rows : List Row
rows = whole ∷ edges ++ (looks ++ overtakes)

-- The one computed test, over all rows, and the sessions with a short log.
computed : T (all holds rows && all holds_in full_logs)
computed =
    unfold holds holds_in same_bytes below word digits_within digits more number number_of in
    unfold field_text fields_text items_text tail_text list_text update_text change_text one_text in
    unfold site_text did_text stable_text line_text redo_text numbers_text answer_text outcome_text in
    unfold reading.field reading.rule reading.done_rule reading.update reading.change in
    unfold reading.one reading.items reading.tail reading.did reading.add_form in
    unfold reading.redo_form reading.numbered reading.command reading.line read_did read_line reading.base_cell reading.base read_base in
    unfold read_site read_command read_whole in
    unfold replaced_with profile_of start_cell entered_with enter_with enter_all_with cell_from_with cell_with touches runs_at can_run_with in
    unfold check and_then wrong_count no_such_history history_twice update_misfits change_misfits_with in
    unfold form_refusal updates_refusal changes_refusal_with in
    unfold stables_from stables_at weave_from mark_from up_to_did reported ended head_text lines_text log_text lines_from rest_from histories_fit in
    unfold accepts_with in
    unfold rises follows live_in table_holds in_order base_fits read_lines read_second read_first read_log in
    unfold log_bytes version_at live_done live asks dry became_dry rose line_bytes bytes_of in
    unfold unless open_full open_refusal opened open_site blocked_by blocked may_run_now ready attempt try_from made_ready in
    unfold never_now holds_never overtaken not_overtaken overtaken_ids nothing_orders id_pending id_done in
    unfold already_done read_overtaken at_highest table_full add_refusal arrived add change_of line_of values_after in_progress future in
    unfold without log_full finished in
    unfold finish_found finish withdraw_refusal withdraw persistent above_mark stable_full stable_refusal stabled stable show in
    unfold restarted restart_as restart cut_above base_cut cut stale redo_refusal behind pick in
    unfold drain delivered redo_read redo end writable_update writable perform step in
    unfold turn_of opening calling obey on_command turn replies rest_reply session_in session in
    tt

row-holds : (r : Row) → Mem r rows → session r.input ≡ r.replies
row-holds r m = holds_is r (all-at holds rows (and_left (all holds rows) _ computed) r m)

-- "A session, whole": that input gives these replies.
pub whole-session : session whole.input ≡ whole.replies
whole-session = row-holds whole (here refl)

-- P1 to P10 hold.
pub edges_hold : (r : Row) → Mem r edges → session r.input ≡ r.replies
edges_hold r m = row-holds r (there (Memᴰ.append_left (looks ++ overtakes) m))

-- .. and what redo says of how often it looks.
pub looks_hold : (r : Row) → Mem r looks → session r.input ≡ r.replies
looks_hold r m = row-holds r (there (Memᴰ.append_right edges (Memᴰ.append_left overtakes m)))

-- .. and whom a finish overtakes.
pub overtakes_hold : (r : Row) → Mem r overtakes → session r.input ≡ r.replies
overtakes_hold r m = row-holds r (there (Memᴰ.append_right edges (Memᴰ.append_right looks m)))

-- .. and when a log is full.
pub full_logs_hold : (s : Short) → Mem s full_logs → session_in s.room s.row.input ≡ s.row.replies
unfolding holds_in
full_logs_hold s m =
    same_bytes_lem (session_in s.room s.row.input) s.row.replies
    (all-at holds_in full_logs (and_right (all holds rows) _ computed) s m)

-- ### What no short session shows

-- (set 0 2^64 − 1 ..), done in history 0
abbrev top_line : Did
top_line = record { id = 1; changes = record { rule = DidSet; history = 0; version = top; place = 1; operand = 7 } ∷ [] }

-- so many future operations, each for a version of history 1 that is still to come
unfoldable futures : ℕ → List Operation
futures zero = []
futures (suc n) =
    record { id = n + 2; updates = record { rule = Inc; history = 1; version = 9; operand = 0 } ∷ []; running = false } ∷ futures n

-- a site of two histories with that line and so many future operations
abbrev having : ℕ → State
having n =
    record {
      histories = 2;
      room = log_limit;
      base = none;
      log = top_line ∷ [];
      stables = [];
      pending = futures n;
      waiting = [];
      persistent_to = 0;
      left_to = 0;
      restoring = false;
    }

-- an inc in history 1, and the same with an unk in history 0
abbrev an_inc : Update
an_inc = record { rule = Inc; history = 1; version = 1; operand = 0 }

abbrev an_unk : Update
an_unk = record { rule = Unk; history = 0; version = 0; operand = 0 }

-- an operation in history 0 with this version of a set
abbrev setting : ℕ → Bool → Operation
setting u running = record { id = u; updates = record { rule = Set; history = 0; version = u; operand = 0 } ∷ []; running = running }

-- What the tests say of such states and operations.
record OnEdge : Type 0 where
  -- "17 .., after 9" and so before 10: with 64 live an unk at the highest version is refused 17, and an add without it 10
  highest_first : add_refusal 100 (an_inc ∷ an_unk ∷ []) (having 63) ≡ some HighestVersion
  full : add_refusal 100 (an_inc ∷ []) (having 63) ≡ some TableFull
  last_free : add_refusal 100 (an_inc ∷ []) (having 62) ≡ none
  -- only a future operation is overtaken, and only by its version
  in_progress : overtaken blank_base (top_line ∷ []) (setting top true) ≡ false
  future : overtaken blank_base (top_line ∷ []) (setting top false) ≡ true

on_edge : OnEdge
on_edge =
    unfold add_refusal futures check and_then updates_refusal form_refusal wrong_count no_such_history history_twice update_misfits in
    unfold nothing_orders id_pending id_done live_done live already_done read_overtaken at_highest table_full in
    unfold overtaken holds_never never_now start_cell cell_with cell_from_with enter_all_with enter_with entered_with in
    record { highest_first = refl; full = refl; last_free = refl; in_progress = refl; future = refl }
