-- 02 (h): restarts from logs with a base line, and the copies of trim, computed on both sides of each edge.
use Rattle.std.specs.Prelude.{◌≡◌, refl, Bool, List, [], ◌∷◌, ◌++◌, map, T, length, replicate}
use mathlib.Core.List.{Memᴰ as Mem}
use Prim.Native.Nat.{◌+◌, ℕ, zero}
use Prim.Native.String.{String}
use Rattle.forms.specs.Lists.{all, below}
use Rattle.forms.specs.ListLaws.{all-at}
use Rattle.forms.specs.Words.{bytes, word}
use Rattle.forms.specs.Decimal.{digits_within, digits, more, number}
use Rattle.forms.specs.Refusals.{number_of}
use Rattle.forms.specs.Forms.{Did, field_text, fields_text, items_text, tail_text, list_text, update_text, change_text, one_text}
use Rattle.forms.specs.Forms.{site_text, did_text, stable_text, line_text, redo_text, numbers_text, answer_text, outcome_text}
use Rattle.forms.specs.Reading as reading
use Rattle.forms.specs.Reading.{read_base, read_did, read_line, read_site, read_command, read_whole}
use Rattle.forms.specs.declared.DoneRule.TheVariants.{DidInc}
use Rattle.forms.specs.declared.Refusal.TheVariants.{AboveLimit, NoRoom, BadLog}
use Rattle.rules.specs.Rules.{profile_of, replaced_with}
use Rattle.rules.specs.Book.{start_cell, touches, runs_at, can_run_with, cell_from_with, cell_with, enter_all_with, enter_with, entered_with}
use Rattle.rules.specs.Checks.{check, and_then, wrong_count, no_such_history, history_twice, update_misfits, change_misfits_with}
use Rattle.rules.specs.Checks.{form_refusal, updates_refusal, changes_refusal_with}
use Rattle.rules.specs.Log.{read_second, base_fits, in_order, head_text, stables_from, stables_at, weave_from, mark_from, up_to_did, reported}
use Rattle.rules.specs.Log.{ended, dids_text, lines_text, log_text}
use Rattle.rules.specs.Log.{lines_from, rest_from, histories_fit, accepts_with, rises, follows, live_in, table_holds}
use Rattle.rules.specs.Log.{closing, read_lines, read_first, read_log}
use Rattle.rules.specs.State.{log_bytes, version_at, live_done, live, asks, dry, became_dry, rose, line_bytes, bytes_of}
use Rattle.rules.specs.Calls.{base_cut, unless, open_full, open_refusal, opened, open_site, blocked_by, blocked, may_run_now, ready, attempt}
use Rattle.rules.specs.Calls.{try_from, made_ready, never_now, holds_never, overtaken, not_overtaken, overtaken_ids, nothing_orders}
use Rattle.rules.specs.Calls.{id_pending, id_done, already_done, read_overtaken, at_highest, table_full, add_refusal, arrived, add}
use Rattle.rules.specs.Calls.{change_of, line_of, values_after, in_progress, future, without, log_full, finished, finish_found, finish}
use Rattle.rules.specs.Calls.{persistent, above_mark, stable_full, stable_refusal, stabled, stable, show, restarted, restart_as}
use Rattle.rules.specs.Calls.{restart, cut_above, cut, stale, redo_refusal, behind, pick, drain, delivered, redo_read, redo, end}
use Rattle.rules.specs.Calls.{writable_update, writable, perform, step}
use Rattle.rules.specs.Keeper.{same_bytes}
use Rattle.rules.specs.Session.{turn_of, opening, calling, obey, on_command, turn, replies}
use Rattle.rules.proofs.Examples.{same_bytes_lem}
use Rattle.rules.proofs.RuleTable.{begins, answers}
use Rattle.forms.specs.declared.Rule.{Rule}
use Rattle.forms.specs.declared.Rule.TheVariants.{Inc, Set, Not}
use Rattle.forms.specs.Limits.{base_top}
use Rattle.forms.specs.Forms.{Update, did_line, stable_line, base_cell_text, base_text, Restarted, Finished}
use Rattle.rules.specs.State.{State, ok, refused, settle, done_in, stable_to}
use Rattle.rules.specs.Calls.{Add, Finish, Persistent, Stable, Cut, Changeover, End, changeover}
use Rattle.rules.specs.Trim.{base_cell_at, trimmed_base, trimmed_lines, trim_text, trim_above, trim_full, trim_refusal, not_trimmed, trimmed}
use Rattle.rules.specs.Trim.{trim}
use Rattle.rules.specs.Run.{run}
use Rattle.rules.proofs.StableExamples.{Reads, dones}
use Rattle.std.proofs.Math.Option.{none, some}

-- ### Restarts from logs with a base line

-- "(site 1)" and these lines, and the reply to the restart
abbrev kept : String → String → Reads
kept lines answer = record { log = bytes "(site 1)\n" ++ bytes lines; input = []; replies = bytes answer ++ bytes "\n" }

-- "(site 2)" and these lines
abbrev kept2 : String → String → Reads
kept2 lines answer = record { log = bytes "(site 2)\n" ++ bytes lines; input = []; replies = bytes answer ++ bytes "\n" }

-- these lines behind a base of five operations, none of them in its history
abbrev behind5 : List ℕ → String → Reads
behind5 lines answer =
    record { log = bytes "(site 1)\n(base 5 (0 0 0 0))\n" ++ lines; input = []; replies = bytes answer ++ bytes "\n" }

-- so many did lines, each with an inc
abbrev many : ℕ → List ℕ
many n = dids_text (dones n)

-- a history h of a base line, with the greatest numbers
abbrev greatest : List ℕ → List ℕ
greatest h = bytes "(" ++ (h ++ bytes " 18446744073709551615 9223372036854775808 18446744073709551615)")

-- "A base line may have 1,074 bytes with its end; the 1,024 of refusal 1 does not bind it."
abbrev longest : List ℕ
longest =
    bytes "(base 9223372036854775808 "
    ++ (greatest (bytes "0") ++ (greatest (bytes "1") ++ (greatest (bytes "2") ++ (greatest (bytes "3") ++ (greatest (bytes "4")
    ++ (greatest (bytes "5") ++ (greatest (bytes "6") ++ (greatest (bytes "7") ++ (greatest (bytes "8") ++ (greatest (bytes "9")
    ++ (greatest (bytes "10") ++ (greatest (bytes "11") ++ (greatest (bytes "12") ++ (greatest (bytes "13") ++ (greatest (bytes "14")
    ++ (greatest (bytes "15") ++ bytes ")\n"))))))))))))))))

-- 15 and where it is not met, and log numbers that go on behind the base.
abbrev pub restarts : List Reads
restarts =
    kept "(base 0 (0 0 0 0))\n" "(ok 0 28)" ∷ kept "(base 5 (0 5 5 7))\n" "(ok 5 28)"
    -- "a base line that is not the second line"
    ∷ kept "(did 1 (inc 0 1 1 0))\n(base 1 (0 1 1 0))\n" "(refused 15)" ∷ kept "(base 1 (0 1 1 0))\n(base 1 (0 1 1 0))\n" "(refused 15)"
    -- "lacks a history or the rising order"
    ∷ kept2 "(base 1 (0 1 1 65536)(1 0 1 0))\n" "(ok 1 41)" ∷ kept2 "(base 1 (0 1 1 65536))\n" "(refused 15)"
    ∷ kept2 "(base 1 (1 0 1 0)(0 1 1 65536))\n" "(refused 15)" ∷ kept2 "(base 1 (0 1 1 0)(0 1 1 0))\n" "(refused 15)"
    ∷ kept2 "(base 1 (0 1 1 0)(1 0 1 0)(2 0 0 0))\n" "(refused 15)" ∷ kept "(base 1 (1 1 1 0))\n" "(refused 15)"
    ∷ kept "(base 1)\n" "(refused 15)"
    -- "or has N above 2^63 or a place above N"; version and profile are free
    ∷ kept "(base 9223372036854775808 (0 0 0 0))\n" "(ok 9223372036854775808 46)"
    ∷ kept "(base 9223372036854775809 (0 0 0 0))\n" "(refused 15)"
    ∷ kept "(base 1 (0 1 1 0))\n" "(ok 1 28)" ∷ kept "(base 1 (0 1 2 0))\n" "(refused 15)"
    ∷ kept "(base 1 (0 18446744073709551615 0 18446744073709551615))\n" "(ok 1 66)"
    ∷ kept "(base 1 (0 1 1 18446744073709551616))\n" "(refused 15)" ∷ kept "(base 01 (0 1 1 0))\n" "(refused 15)"
    -- bytes alone cannot know that a torn line is a base line
    ∷ kept "(base 1 (0 1 1 0))" "(ok 0 9)"
    -- did lines behind it go on from its versions and places
    ∷ kept "(base 1 (0 1 1 0))\n(did 2 (inc 0 2 2 0))\n" "(ok 2 50)" ∷ kept "(base 1 (0 1 1 0))\n(did 2 (inc 0 2 1 0))\n" "(refused 15)"
    ∷ kept "(base 1 (0 1 1 0))\n(did 2 (inc 0 1 2 0))\n" "(refused 15)"
    -- "The N operations count among the did lines .. before a stable line too"; it has to rise above the base
    ∷ kept "(base 5 (0 5 5 0))\n(did 6 (inc 0 6 6 0))\n(stable 5)\n" "(refused 15)"
    ∷ kept "(base 5 (0 5 5 0))\n(did 6 (inc 0 6 6 0))\n(stable 6)\n" "(ok 6 61)"
    ∷ kept "(base 5 (0 5 5 0))\n(did 6 (inc 0 6 6 0))\n(stable 7)\n" "(refused 15)"
    -- 64 live lines behind the base, and 65
    ∷ behind5 (many 64) "(ok 69 1601)" ∷ behind5 (many 65) "(refused 15)" ∷ behind5 (many 65 ++ bytes "(stable 6)\n") "(ok 70 1637)"
    -- the longest base line, 10 + 1,074 bytes
    ∷ record { log = bytes "(site 16)\n" ++ longest; input = []; replies = bytes "(ok 9223372036854775808 1084)\n" }
    -- after base 5 the next finish replies 6, a report of 3 is accepted and does nothing
    ∷ record {
      log = bytes "(site 1)\n(base 5 (0 5 5 7))\n";
      input =
          bytes "(show 0)\n(end)\n(persistent 3)\n(add 9 (inc 0 6 0))\n(finish 9)\n(persistent 7)\n(persistent 6)\n(stable 5)\n(stable 6)\n"
          ++ bytes "(show 0)\n";
      replies =
          bytes "(ok 5 28)\n(history 0 5 5 5 5 7)\n(ok (waiting))\n(ok (histories)(dry))\n(ok (ready 9))\n"
          ++ bytes "(ok 6 (values 0)(ready)(overtaken))\n(refused 13)\n(ok (histories 0)(dry 0))\n(ok (histories))\n"
          ++ bytes "(ok (histories 0))\n(history 0 6 6 6 6 0)\n";
    }
    ∷ []

-- the replies are these, byte for byte
unfoldable read_holds : Reads → Bool
read_holds r = same_bytes (answers r.log r.input) r.replies

computed : T (all read_holds restarts)
computed =
    unfold read_holds begins answers dones dids_text same_bytes below word digits_within digits more number number_of in
    unfold field_text fields_text items_text tail_text list_text update_text change_text one_text site_text did_text base_cell_text base_text in
    unfold stable_text line_text redo_text in
    unfold numbers_text answer_text outcome_text in
    unfold reading.field reading.rule reading.done_rule reading.update reading.change reading.one reading.items reading.tail reading.did in
    unfold reading.add_form reading.redo_form reading.numbered reading.command reading.line in
    unfold read_did read_line reading.base_cell reading.base read_base read_site read_command read_whole in
    unfold replaced_with profile_of entered_with enter_with enter_all_with cell_from_with cell_with start_cell touches runs_at can_run_with in
    unfold check and_then wrong_count no_such_history history_twice update_misfits change_misfits_with in
    unfold form_refusal updates_refusal changes_refusal_with in
    unfold stables_from stables_at weave_from mark_from up_to_did reported ended lines_text log_text head_text lines_from rest_from in
    unfold histories_fit in
    unfold accepts_with rises follows live_in table_holds in_order base_fits read_lines read_second read_first read_log in
    unfold log_bytes version_at live_done live asks dry became_dry rose line_bytes bytes_of in
    unfold unless open_full open_refusal opened open_site blocked_by blocked may_run_now ready attempt try_from made_ready in
    unfold never_now holds_never overtaken not_overtaken overtaken_ids nothing_orders id_pending id_done in
    unfold already_done read_overtaken at_highest table_full add_refusal arrived add change_of line_of values_after in_progress future in
    unfold without log_full finished finish_found finish in
    unfold persistent above_mark stable_full stable_refusal stabled stable show in
    unfold restarted restart_as restart cut_above base_cut cut stale redo_refusal behind pick in
    unfold drain delivered redo_read redo end writable_update writable perform step in
    unfold turn_of opening calling obey on_command turn replies in
    tt

-- Every restart replies as is written here, with the lines behind it.
pub restarts_hold : (r : Reads) → Mem r restarts → answers r.log r.input ≡ r.replies
unfolding read_holds
restarts_hold r m = same_bytes_lem (answers r.log r.input) r.replies (all-at read_holds restarts computed r m)

-- ### Trim and changeover

-- (RULE H U O)
abbrev update : Rule → ℕ → ℕ → ℕ → Update
update r h u o = record { rule = r; history = h; version = u; operand = o }

-- 01's session with a report of 2 and `(stable 1)`, which no report covers: 71 bytes of log, and 11 of the stable line
abbrev held : State
held =
    run
    (Add 5 (update Inc 0 1 513 ∷ update Not 1 0 0 ∷ []) ∷ Add 6 (update Set 1 4 1000 ∷ []) ∷ Finish 5 ∷ Finish 6
    ∷ Persistent 2 ∷ Stable 1 ∷ [])
    (opened 2 65536)

-- its copy from 1 on: the site line, the base line and the line of 6, and no stable line, since the mark is 1
abbrev from1 : List ℕ
from1 = bytes "(site 2)\n(base 1 (0 1 1 65536)(1 0 1 0))\n(did 6 (set 1 4 2 1000))\n"

-- .. and from 0 on: a base of zeros, both did lines and `(stable 1)`
abbrev from0 : List ℕ
from0 =
    bytes "(site 2)\n(base 0 (0 0 0 0)(1 0 0 0))\n(did 5 (inc 0 1 1 513)(not 1 0 1 0))\n(did 6 (set 1 4 2 1000))\n(stable 1)\n"

-- the site after the changeover to the copy from 1 on
abbrev over : State
over = run (Changeover 1 65536 ∷ []) held

-- a site whose base line says 2^63, with one operation behind it that is stable
abbrev high : State
high =
    restarted 1000 1 (some (record { up_to = base_top; cells = record { history = 0; version = 0; place = 0; profile = 0 } ∷ [] }))
    (did_line (record { id = 1; changes = record { rule = DidInc; history = 0; version = 1; place = 1; operand = 0 } ∷ [] })
    ∷ stable_line (base_top + 1) ∷ [])

-- "A new call copies the log", on both sides of each edge.
record Trims : Type 0 where
  long : length (log_bytes held) ≡ 82
  -- 66 bytes, and the bytes past them stay
  one : trim 1 (replicate 66 7) held ≡ trimmed from1 66
  past : trim 1 (replicate 70 7) held ≡ trimmed (from1 ++ replicate 4 7) 66
  -- 110 bytes: the copy may be longer than the log
  zero : trim 0 (replicate 112 7) held ≡ trimmed (from0 ++ replicate 2 7) 110
  -- "only after that a full fresh buffer 12"
  full : trim 1 (replicate 65 7) held ≡ not_trimmed NoRoom
  -- "N above the stable mark": 13 before 12
  above : trim 2 (replicate 10 7) held ≡ not_trimmed AboveLimit
  -- ".. above 2^63"
  at_top : trim_refusal base_top 1000 high ≡ none
  above_top : trim_refusal (base_top + 1) 1000 high ≡ some AboveLimit
  -- ".. or below the log's own base"; at the base the copy is the log
  below : trim 0 (replicate 66 7) over ≡ not_trimmed AboveLimit
  again : trim 1 (replicate 66 7) over ≡ trimmed from1 66
  -- a fresh buffer above 65,536
  wide : trim_refusal 1 65537 held ≡ some AboveLimit
  widest : trim_refusal 1 65536 held ≡ none
  -- not tied to restoring: `over` is

-- The changeover to the 66 bytes, and cuts of them.
record Over : Type 0 where
  -- 2 done and persistent, 1 stable, 6 live
  done : done_in over ≡ 2
  persistent : over.persistent_to ≡ 2
  stable : stable_to over ≡ 1
  live : map (λ (d : Did). d.id) (live_done over) ≡ 6 ∷ []
  -- a cut without the whole base line is refused; to a restart the bytes alone are an empty log
  cut9 : step (Cut 9 65536) over ≡ refused BadLog
  cut40 : step (Cut 40 65536) over ≡ refused BadLog
  bytes40 : (st : State) × (restart from1 40 ≡ ok st (Restarted 0 9))
  cut41 : (st : State) × (step (Cut 41 65536) over ≡ ok st (Restarted 1 41))
  cut65 : (st : State) × (step (Cut 65 65536) over ≡ ok st (Restarted 1 41))
  cut66 : (st : State) × (step (Cut 66 65536) over ≡ ok st (Restarted 2 66))
  cut67 : step (Cut 67 65536) over ≡ refused AboveLimit
  -- the next finish replies 3, and the id 5 is free again
  next : (st : State) × (step (Finish 5) (run (End ∷ Add 5 (update Inc 0 2 0 ∷ []) ∷ []) over) ≡ ok st (Finished 3 (65536 ∷ []) [] []))
  -- refused as the trim is
  above : step (Changeover 2 65536) held ≡ refused AboveLimit
  full : step (Changeover 1 65) held ≡ refused NoRoom

trims : Trims
trims =
    unfold base_cell_at trimmed_base trimmed_lines trim_text trim_above trim_full trim_refusal trim changeover closing run settle in
    unfold below word digits_within digits more number in
    unfold field_text fields_text items_text tail_text list_text change_text one_text site_text did_text base_cell_text base_text stable_text line_text in
    unfold reading.field reading.done_rule reading.change reading.one reading.items reading.tail reading.did in
    unfold reading.line in
    unfold read_did read_line reading.base_cell reading.base read_base read_site read_whole in
    unfold replaced_with profile_of entered_with enter_with enter_all_with cell_from_with cell_with start_cell touches runs_at can_run_with in
    unfold check and_then wrong_count no_such_history history_twice update_misfits change_misfits_with in
    unfold form_refusal updates_refusal changes_refusal_with in
    unfold stables_from stables_at weave_from mark_from up_to_did reported ended lines_text log_text head_text lines_from rest_from in
    unfold histories_fit in
    unfold accepts_with rises follows live_in table_holds in_order base_fits read_lines read_second read_first read_log in
    unfold log_bytes version_at live_done live asks dry became_dry rose line_bytes bytes_of in
    unfold unless open_full open_refusal opened open_site blocked_by blocked may_run_now ready attempt try_from made_ready in
    unfold never_now holds_never overtaken not_overtaken overtaken_ids nothing_orders id_pending id_done in
    unfold already_done read_overtaken at_highest table_full add_refusal arrived add change_of line_of values_after in_progress future in
    unfold without log_full finished finish_found finish in
    unfold persistent above_mark stable_full stable_refusal stabled stable show in
    unfold restarted restart_as restart cut_above base_cut cut stale redo_refusal behind pick in
    unfold drain delivered redo_read redo end writable_update writable perform step in
    record {
      long = refl;
      one = refl;
      past = refl;
      zero = refl;
      full = refl;
      above = refl;
      at_top = refl;
      above_top = refl;
      below = refl;
      again = refl;
      wide = refl;
      widest = refl;
    }

changes_over_lem : Over
changes_over_lem =
    unfold base_cell_at trimmed_base trimmed_lines trim_text trim_above trim_full trim_refusal trim changeover closing run settle in
    unfold below word digits_within digits more number in
    unfold field_text fields_text items_text tail_text list_text change_text one_text site_text did_text base_cell_text base_text stable_text line_text in
    unfold reading.field reading.done_rule reading.change reading.one reading.items reading.tail reading.did in
    unfold reading.line in
    unfold read_did read_line reading.base_cell reading.base read_base read_site read_whole in
    unfold replaced_with profile_of entered_with enter_with enter_all_with cell_from_with cell_with start_cell touches runs_at can_run_with in
    unfold check and_then wrong_count no_such_history history_twice update_misfits change_misfits_with in
    unfold form_refusal updates_refusal changes_refusal_with in
    unfold stables_from stables_at weave_from mark_from up_to_did reported ended lines_text log_text head_text lines_from rest_from in
    unfold histories_fit in
    unfold accepts_with rises follows live_in table_holds in_order base_fits read_lines read_second read_first read_log in
    unfold log_bytes version_at live_done live asks dry became_dry rose line_bytes bytes_of in
    unfold unless open_full open_refusal opened open_site blocked_by blocked may_run_now ready attempt try_from made_ready in
    unfold never_now holds_never overtaken not_overtaken overtaken_ids nothing_orders id_pending id_done in
    unfold already_done read_overtaken at_highest table_full add_refusal arrived add change_of line_of values_after in_progress future in
    unfold without log_full finished finish_found finish in
    unfold persistent above_mark stable_full stable_refusal stabled stable show in
    unfold restarted restart_as restart cut_above base_cut cut stale redo_refusal behind pick in
    unfold drain delivered redo_read redo end writable_update writable perform step in
    record {
      done = refl;
      persistent = refl;
      stable = refl;
      live = refl;
      cut9 = refl;
      cut40 = refl;
      bytes40 = (_, refl);
      cut41 = (_, refl);
      cut65 = (_, refl);
      cut66 = (_, refl);
      cut67 = refl;
      next = (_, refl);
      above = refl;
      full = refl;
    }
