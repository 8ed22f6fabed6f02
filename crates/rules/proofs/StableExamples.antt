-- (g) on both sides of each of its edges: sessions, logs that restart reads, and changeovers, computed from the definitions.
use Rattle.std.specs.Prelude.{◌≡◌, refl, Bool, ◌&&◌, List, [], ◌∷◌, ◌++◌, ℕ, zero, suc, T, replicate}
use mathlib.Core.List.{Memᴰ as Mem}
use Prim.Native.String.{String}
use Rattle.forms.specs.Lists.{all, below}
use Rattle.forms.specs.ListLaws.{and_left, and_right, all-at}
use Rattle.forms.specs.Words.{bytes, word}
use Rattle.forms.specs.Decimal.{digits_within, digits, more, number}
use Rattle.forms.specs.Refusals.{number_of}
use Rattle.forms.specs.Forms.{Did, field_text, fields_text, items_text, tail_text, list_text, update_text, change_text, one_text}
use Rattle.forms.specs.Forms.{site_text, did_text, stable_text, line_text, redo_text, numbers_text, answer_text, outcome_text}
use Rattle.forms.specs.Reading as reading
use Rattle.forms.specs.Reading.{read_base, read_did, read_line, read_site, read_command, read_whole}
use Rattle.forms.specs.declared.DoneRule.TheVariants.{DidInc}
use Rattle.forms.specs.declared.Refusal.TheVariants.{AboveLimit, NoRoom, BadLog}
use Rattle.rules.specs.Rules.{profile_of, replaced_with}
use Rattle.rules.specs.Book.{start_cell, touches, runs_at, can_run_with, cell_from_with, cell_with, enter_all_with, enter_with, entered_with}
use Rattle.rules.specs.Checks.{check, and_then, wrong_count, no_such_history, history_twice, update_misfits, change_misfits_with}
use Rattle.rules.specs.Checks.{form_refusal, updates_refusal, changes_refusal_with}
use Rattle.rules.specs.Log.{read_second, base_fits, in_order, head_text, stables_from, stables_at, weave_from, mark_from, up_to_did, reported}
use Rattle.rules.specs.Log.{ended, dids_text, lines_text, log_text}
use Rattle.rules.specs.Log.{lines_from, rest_from, histories_fit, accepts_with, rises, follows, live_in, table_holds}
use Rattle.rules.specs.Log.{closing, read_lines, read_first, read_log}
use Rattle.rules.specs.State.{log_bytes, version_at, live_done, live, asks, dry, became_dry, rose, line_bytes, bytes_of}
use Rattle.rules.specs.Calls.{base_cut, unless, open_full, open_refusal, opened, open_site, blocked_by, blocked, may_run_now, ready, attempt}
use Rattle.rules.specs.Calls.{try_from, made_ready, never_now, holds_never, overtaken, not_overtaken, overtaken_ids, nothing_orders}
use Rattle.rules.specs.Calls.{id_pending, id_done, already_done, read_overtaken, at_highest, table_full, add_refusal, arrived, add}
use Rattle.rules.specs.Calls.{change_of, line_of, values_after, in_progress, future, without, log_full, finished, finish_found, finish}
use Rattle.rules.specs.Calls.{persistent, above_mark, stable_full, stable_refusal, stabled, stable, show, restarted, restart_as}
use Rattle.rules.specs.Calls.{restart, cut_above, cut, stale, redo_refusal, behind, pick, drain, delivered, redo_read, redo, end}
use Rattle.rules.specs.Calls.{writable_update, writable, perform, step}
use Rattle.rules.specs.Keeper.{same_bytes}
use Rattle.rules.specs.Session.{turn_of, opening, calling, obey, on_command, turn, replies, rest_reply, session_in}
use Rattle.rules.proofs.Examples.{same_bytes_lem}
use Rattle.rules.proofs.RuleTable.{begins, answers}
use Rattle.rules.specs.OldLog.{read_old_lines_with, read_old_first_with, read_old_with, not_upgraded, upgraded, upgraded_lines}
use Rattle.rules.specs.OldLog.{upgraded_text, upgrade_as, upgrade}

-- ### Sessions

-- A session over a log buffer of so many bytes: its input, and all its replies.
pub record Run : Type 0 where
  pub room : ℕ
  pub input : List ℕ
  pub replies : List ℕ

-- A site of one history with operation 1 done and persistent, 9 + 22 bytes of log; then more calls.
abbrev done1 : ℕ → List ℕ → List ℕ → Run
done1 room calls answers =
    record {
      room = room;
      input = bytes "(site 1)\n(add 1 (inc 0 1 0))\n(finish 1)\n(persistent 1)\n" ++ calls;
      replies = bytes "(ok)\n(ok (ready 1))\n(ok 1 (values 0)(ready)(overtaken))\n(ok (histories 0)(dry 0))\n" ++ answers;
    }

-- .. and stable, with the stable line's 11 bytes
abbrev stable1 : List ℕ → List ℕ → Run
stable1 calls answers = done1 1000 (bytes "(stable 1)\n" ++ calls) (bytes "(ok (histories 0))\n" ++ answers)

-- One with operations 1 and 2 done and persistent, and 1 stable: 9 + 22 + 22 + 11 bytes of log; then more calls.
abbrev two : List ℕ → List ℕ → Run
two calls answers =
    done1 1000 (bytes "(add 2 (inc 0 2 0))\n(finish 2)\n(persistent 2)\n(stable 1)\n" ++ calls)
    (bytes "(ok (ready 2))\n(ok 2 (values 0)(ready)(overtaken))\n(ok (histories 0)(dry 0))\n(ok (histories 0))\n" ++ answers)

-- Marks, covering and room.
abbrev pub sessions : List Run
sessions =
    -- "if that does not fit, 12 comes before 13": with one byte too few an N that is persistent, and one above; an N reached is accepted
    done1 41 (bytes "(stable 1)\n(stable 2)\n(stable 0)\n") (bytes "(refused 12)\n(refused 12)\n(ok (histories))\n")
    -- .. and with room for one line: 13, then the line; the same N again "is accepted and changes nothing", though no other line fits
    ∷ done1 42 (bytes "(stable 2)\n(stable 1)\n(stable 1)\n(stable 2)\n(cut 42)\n")
    (bytes "(refused 13)\n(ok (histories 0))\n(ok (histories))\n(refused 12)\n(ok 1 42)\n")
    -- "While restoring, any stable call with N above the mark meets 14", before 12 and 13; one not above is accepted
    ∷ done1 41 (bytes "(cut 31)\n(stable 1)\n(stable 2)\n(stable 0)\n(end)\n(stable 1)\n")
    (bytes "(ok 1 31)\n(refused 14)\n(refused 14)\n(ok (histories))\n(ok (waiting))\n(refused 12)\n")
    -- "A stable operation stays live, its id too", and leaves with "a later report of every line done, even if that n was reached before"
    ∷ stable1
    (bytes "(add 1 (inc 0 2 0))\n(persistent 1)\n(add 1 (inc 0 2 0))\n")
    (bytes "(refused 8)\n(ok (histories)(dry))\n(ok (ready 1))\n")
    -- not with a report of the lines before the stable line, once another is done; but with "a report of a did line after it"
    ∷ stable1
    (bytes "(add 2 (inc 0 2 0))\n(finish 2)\n(persistent 1)\n(add 1 (inc 0 3 0))\n(persistent 2)\n(add 1 (inc 0 3 0))\n")
    (bytes "(ok (ready 2))\n(ok 2 (values 0)(ready)(overtaken))\n(ok (histories)(dry))\n(refused 8)\n"
    ++ bytes "(ok (histories 0)(dry 0))\n(ok (ready 1))\n")
    -- .. also where more is done
    ∷ stable1
    (bytes "(add 2 (inc 0 2 0))\n(finish 2)\n(add 3 (inc 0 3 0))\n(finish 3)\n(persistent 1)\n(add 1 (inc 0 4 0))\n"
    ++ bytes "(persistent 2)\n(add 1 (inc 0 4 0))\n")
    (bytes "(ok (ready 2))\n(ok 2 (values 0)(ready)(overtaken))\n(ok (ready 3))\n(ok 3 (values 0)(ready)(overtaken))\n"
    ++ bytes "(ok (histories)(dry))\n(refused 8)\n(ok (histories 0)(dry))\n(ok (ready 1))\n")
    -- only the operations up to N leave; a report of line 1 is of a line before the stable line
    ∷ two (bytes "(persistent 1)\n(add 1 (inc 0 3 0))\n(persistent 2)\n(add 2 (inc 0 3 0))\n(add 1 (inc 0 3 0))\n")
    (bytes "(ok (histories)(dry))\n(refused 8)\n(ok (histories)(dry))\n(refused 8)\n(ok (ready 1))\n")
    -- "Restart takes the last such line kept, or 0": marks, lines did and bytes after cuts that keep it, tear line 3, tear the stable line
    ∷ two (bytes "(add 3 (inc 0 3 0))\n(finish 3)\n(cut 86)\n(show 0)\n(persistent 3)\n(cut 85)\n(show 0)\n(cut 63)\n(show 0)\n")
    (bytes "(ok (ready 3))\n(ok 3 (values 0)(ready)(overtaken))\n(ok 3 86)\n(history 0 3 3 1 3 0)\n(ok (histories)(dry))\n"
    ++ bytes "(ok 2 64)\n(history 0 2 2 1 2 0)\n(ok 2 53)\n(history 0 2 2 0 2 0)\n")
    -- "kept operations above it are live again": 1 is, until its stable line is covered
    ∷ done1 1000
    (bytes "(cut 31)\n(redo (did 1 (inc 0 2 2 0)))\n(end)\n(add 1 (inc 0 2 0))\n(stable 1)\n(add 1 (inc 0 2 0))\n"
    ++ bytes "(persistent 1)\n(add 1 (inc 0 2 0))\n")
    (bytes "(ok 1 31)\n(refused 8)\n(ok (waiting))\n(refused 8)\n(ok (histories 0))\n(refused 8)\n(ok (histories)(dry))\n(ok (ready 1))\n")
    -- .. and one up to it is not
    ∷ stable1 (bytes "(cut 42)\n(redo (did 1 (inc 0 2 2 0)))\n(show 0)\n") (bytes "(ok 1 42)\n(ok 1 1)\n(history 0 2 1 1 2 0)\n")
    ∷ []

-- ### Logs that restart reads

-- Bytes that restart takes, lines of a session behind it, and the replies to the restart and to them.
pub record Reads : Type 0 where
  pub log : List ℕ
  pub input : List ℕ
  pub replies : List ℕ

-- "(site 1)" and these lines, and the reply to the restart
abbrev kept : List ℕ → String → Reads
kept lines answer = record { log = bytes "(site 1)\n" ++ lines; input = []; replies = bytes answer ++ bytes "\n" }

-- (did J (inc 0 J J 0))
abbrev pub did : ℕ → Did
did j = record { id = j; changes = record { rule = DidInc; history = 0; version = j; place = j; operand = 0 } ∷ [] }

-- these, for J from 1 to n
unfoldable pub dones : ℕ → List Did
dones zero = []
dones (suc n) = dones n ++ (did (suc n) ∷ [])

-- these lines as they are printed
abbrev many : ℕ → List ℕ
many n = dids_text (dones n)

-- 15, and lines that are live again.
abbrev pub restarts : List Reads
restarts =
    -- "a stable line that does not rise or is above the did lines before it"
    kept (bytes "(stable 0)\n") "(refused 15)" ∷ kept (many 1 ++ bytes "(stable 0)\n") "(refused 15)"
    ∷ kept (many 1 ++ bytes "(stable 1)\n") "(ok 1 42)" ∷ kept (many 1 ++ bytes "(stable 2)\n") "(refused 15)"
    ∷ kept (bytes "(stable 1)\n" ++ many 1) "(refused 15)" ∷ kept (many 1 ++ bytes "(stable 1)\n(stable 1)\n") "(refused 15)"
    ∷ kept (many 2 ++ bytes "(stable 1)\n(stable 2)\n") "(ok 2 75)" ∷ kept (many 2 ++ bytes "(stable 2)\n(stable 1)\n") "(refused 15)"
    -- a torn one is ignored, and one that is not readable is a bad line
    ∷ kept (many 1 ++ bytes "(stable 1)") "(ok 1 31)" ∷ kept (many 1 ++ bytes "(stable 01)\n") "(refused 15)"
    ∷ kept (many 1 ++ bytes "(stable)\n") "(refused 15)"
    -- "two live kept lines of one id": not where one of them is stable
    ∷ kept (many 1 ++ bytes "(did 1 (inc 0 2 2 0))\n") "(refused 15)"
    ∷ kept (many 1 ++ bytes "(stable 1)\n(did 1 (inc 0 2 2 0))\n") "(ok 2 64)"
    ∷ kept (many 1 ++ bytes "(did 1 (inc 0 2 2 0))\n(stable 1)\n") "(ok 2 64)"
    ∷ kept (many 2 ++ bytes "(stable 1)\n(did 2 (inc 0 3 3 0))\n") "(refused 15)"
    -- "more than 64 live kept lines"
    ∷ kept (many 64) "(ok 64 1582)" ∷ kept (many 65) "(refused 15)" ∷ kept (many 65 ++ bytes "(stable 1)\n") "(ok 65 1618)"
    ∷ kept (many 66 ++ bytes "(stable 1)\n") "(refused 15)"
    -- "01's 65th add needs the covering report too"
    ∷ record {
      log = bytes "(site 1)\n" ++ many 64;
      input =
          bytes "(end)\n(add 70 (inc 0 65 0))\n(stable 1)\n(add 70 (inc 0 65 0))\n(persistent 63)\n(add 70 (inc 0 65 0))\n"
          ++ bytes "(persistent 64)\n(add 70 (inc 0 65 0))\n(add 71 (inc 0 66 0))\n";
      replies =
          bytes "(ok 64 1582)\n(ok (waiting))\n(refused 10)\n(ok (histories 0))\n(refused 10)\n(ok (histories)(dry))\n(refused 10)\n"
          ++ bytes "(ok (histories)(dry))\n(ok (ready 70))\n(refused 10)\n";
    }
    ∷ []

-- ### The tests

-- the replies are these, byte for byte
unfoldable run_holds : Run → Bool
run_holds r = same_bytes (session_in r.room r.input) r.replies

-- the same of a restart
unfoldable read_holds : Reads → Bool
read_holds r = same_bytes (answers r.log r.input) r.replies

computed : T (all run_holds sessions && all read_holds restarts)
computed =
    unfold run_holds read_holds begins answers dones same_bytes below word digits_within digits more number number_of in
    unfold field_text fields_text items_text tail_text list_text update_text change_text one_text site_text did_text stable_text line_text redo_text in
    unfold numbers_text answer_text outcome_text in
    unfold reading.field reading.rule reading.done_rule reading.update reading.change reading.one reading.items reading.tail reading.did in
    unfold reading.add_form reading.redo_form reading.numbered reading.command reading.line in
    unfold read_did read_line reading.base_cell reading.base read_base read_site read_command read_whole in
    unfold replaced_with profile_of entered_with enter_with enter_all_with cell_from_with cell_with start_cell touches runs_at can_run_with in
    unfold check and_then wrong_count no_such_history history_twice update_misfits change_misfits_with in
    unfold form_refusal updates_refusal changes_refusal_with in
    unfold stables_from stables_at weave_from mark_from up_to_did reported ended dids_text lines_text log_text head_text lines_from rest_from in
    unfold histories_fit in
    unfold accepts_with rises follows live_in table_holds in_order base_fits read_lines read_second read_first read_log in
    unfold log_bytes version_at live_done live asks dry became_dry rose line_bytes bytes_of in
    unfold unless open_full open_refusal opened open_site blocked_by blocked may_run_now ready attempt try_from made_ready in
    unfold never_now holds_never overtaken not_overtaken overtaken_ids nothing_orders id_pending id_done in
    unfold already_done read_overtaken at_highest table_full add_refusal arrived add change_of line_of values_after in_progress future in
    unfold without log_full finished finish_found finish in
    unfold persistent above_mark stable_full stable_refusal stabled stable show in
    unfold restarted restart_as restart cut_above base_cut cut stale redo_refusal behind pick in
    unfold drain delivered redo_read redo end writable_update writable perform step in
    unfold turn_of opening calling obey on_command turn replies rest_reply session_in in
    tt

-- Every session replies as is written here,
pub sessions_hold : (r : Run) → Mem r sessions → session_in r.room r.input ≡ r.replies
unfolding run_holds
sessions_hold r m =
    same_bytes_lem (session_in r.room r.input) r.replies
    (all-at run_holds sessions (and_left (all run_holds sessions) (all read_holds restarts) computed) r m)

-- and so does every restart, with the lines behind it.
pub restarts_hold : (r : Reads) → Mem r restarts → answers r.log r.input ≡ r.replies
unfolding read_holds
restarts_hold r m =
    same_bytes_lem (answers r.log r.input) r.replies
    (all-at read_holds restarts (and_right (all run_holds sessions) (all read_holds restarts) computed) r m)

-- ### Changeovers

-- an older log of one did line
abbrev one : List ℕ
one = bytes "(site 1)\n(did 1 (inc 0 1 1 0))\n"

-- .. and what becomes of it
abbrev over : List ℕ
over = bytes "(site 1)\n(did 1 (inc 0 1 1 0))\n(stable 1)\n"

-- "At the changeover", on both sides.
record Changeovers : Type 0 where
  -- "is given a stable line of their number behind its whole lines", over a torn rest; the bytes past it stay
  torn : upgrade (one ++ (bytes "(did 2 (inc 0 2" ++ replicate 3 7)) 40 ≡ upgraded (over ++ (bytes " 0 2" ++ replicate 3 7)) 42
  -- one without did lines is left as it is
  bare : upgrade (bytes "(site 1)\n" ++ replicate 20 7) 9 ≡ upgraded (bytes "(site 1)\n" ++ replicate 20 7) 9
  -- "12 if it does not fit"
  fits : upgrade (one ++ replicate 11 0) 31 ≡ upgraded over 42
  full : upgrade (one ++ replicate 10 0) 31 ≡ not_upgraded NoRoom
  -- "read and refused as before": a stable line in it is a bad line, an id may stand twice
  stable : upgrade (over ++ replicate 20 0) 42 ≡ not_upgraded BadLog
  twice : upgrade (one ++ (bytes "(did 1 (inc 0 2 2 0))\n" ++ replicate 11 0)) 53
      ≡ upgraded (one ++ bytes "(did 1 (inc 0 2 2 0))\n(stable 2)\n") 64
  -- 13 before 15
  above : upgrade one 32 ≡ not_upgraded AboveLimit
  none : upgrade (bytes "(site 1)") 8 ≡ not_upgraded BadLog

changeovers : Changeovers
changeovers =
    unfold upgrade upgrade_as upgraded_text upgraded_lines closing read_old_with read_old_first_with read_old_lines_with in
    unfold word digits_within digits more number field_text fields_text items_text tail_text list_text change_text one_text in
    unfold site_text did_text stable_text line_text read_did read_site read_whole in
    unfold reading.field reading.done_rule reading.change reading.one reading.items reading.tail reading.did in
    unfold replaced_with profile_of entered_with enter_with enter_all_with cell_from_with cell_with start_cell touches runs_at can_run_with in
    unfold check and_then wrong_count no_such_history history_twice change_misfits_with form_refusal changes_refusal_with in
    unfold ended lines_text log_text head_text lines_from histories_fit accepts_with in
    record {
      torn = refl;
      bare = refl;
      fits = refl;
      full = refl;
      stable = refl;
      twice = refl;
      above = refl;
      none = refl;
    }
