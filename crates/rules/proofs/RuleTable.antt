-- 01's rule table, cell by cell, on both sides of each edge: computed from the definitions, so that an edit of any rule makes a case false.
use Rattle.std.specs.Prelude.{◌≡◌, Bool, ◌&&◌, List, [], ◌∷◌, ◌++◌, ℕ, T, length, replicate}
use mathlib.Core.List.{Memᴰ as Mem}
use Rattle.std.proofs.Math.Option.{none, some}
use Prim.Native.String.{String}
use Rattle.forms.specs.Lists.{all, below}
use Rattle.forms.specs.ListLaws.{and_left, and_right, all-at}
use Rattle.forms.specs.Words.{bytes, word}
use Rattle.forms.specs.Decimal.{digits_within, digits, more, number}
use Rattle.forms.specs.Refusals.{number_of}
use Rattle.forms.specs.Forms.{field_text, fields_text, items_text, tail_text, list_text, update_text, change_text, one_text}
use Rattle.forms.specs.Forms.{site_text, did_text, stable_text, line_text, redo_text, numbers_text, answer_text, outcome_text}
use Rattle.forms.specs.Reading as reading
use Rattle.forms.specs.Reading.{read_base, read_did, read_site, read_command, read_whole, read_line}
use Rattle.rules.specs.Book.{start_cell, touches, runs_at}
use Rattle.rules.specs.Checks.{check, and_then, wrong_count, no_such_history, history_twice, update_misfits}
use Rattle.rules.specs.Checks.{form_refusal, updates_refusal}
use Rattle.rules.specs.Log.{read_second, base_fits, in_order, head_text, ended, lines_text, log_text, lines_from, lines_of, rest_from}
use Rattle.rules.specs.Log.{stables_from, stables_at, weave_from, mark_from}
use Rattle.rules.specs.Log.{histories_fit, rises, follows, live_in, table_holds}
use Rattle.rules.specs.State.{log_bytes, version_at, live_done, live, asks, dry, became_dry, rose, line_bytes}
use Rattle.rules.specs.Calls.{unless, blocked_by, blocked, may_run_now, ready, attempt, try_from, made_ready, never_now, holds_never}
use Rattle.rules.specs.Calls.{overtaken, not_overtaken, overtaken_ids}
use Rattle.rules.specs.Calls.{nothing_orders, id_pending, id_done, already_done, read_overtaken, at_highest, table_full, add_refusal, arrived}
use Rattle.rules.specs.Calls.{add, change_of, line_of}
use Rattle.rules.specs.Calls.{values_after, in_progress, future, without, log_full, finished, finish_found, finish}
use Rattle.rules.specs.Calls.{show, restarted, restart_as, restart, stale, redo_refusal, behind, pick, drain, delivered}
use Rattle.rules.specs.Calls.{redo_read, redo, end, writable_update, writable, perform, step}
use Rattle.rules.specs.Keeper.{same_bytes}
use Rattle.rules.specs.Session.{Session, Turn, turn_of, calling, obey, on_command, turn, replies, after_lines}
use Rattle.rules.proofs.Examples.{same_bytes_lem}
use Rattle.rules.specs.Rules.{profile_of, replaced_with}
use Rattle.rules.specs.Book.{can_run_with, cell_from_with, cell_with, enter_all_with, enter_with, entered_with}
use Rattle.rules.specs.Checks.{change_misfits_with, changes_refusal_with}
use Rattle.rules.specs.Log.{accepts_with, read_lines, read_first, read_log}

-- ### Cases: a log that restart reads, and then lines of a session

pub record Case : Type 0 where
  -- the bytes that restart takes
  pub log : List ℕ
  -- the lines of a session behind it
  pub input : List ℕ
  -- the reply to the restart, and those to the lines
  pub replies : List ℕ
  -- the log at the end; none where restart refuses
  pub after : List ℕ

-- restart from a log, with 300 bytes of the buffer behind it
unfoldable pub begins : List ℕ → Turn
begins log = turn_of (restart (log ++ replicate 300 0) (length log)) none

-- the reply to the restart, and those to the lines behind it
unfoldable pub answers : List ℕ → List ℕ → List ℕ
answers log input = ended (outcome_text (begins log).reply) ++ replies 0 (lines_of input) (begins log).after

-- the bytes of a session's log
unfoldable pub log_of : Session → List ℕ
log_of none = []
log_of (some st) = log_bytes st

-- the bytes of the log at the end
unfoldable pub leaves : List ℕ → List ℕ → List ℕ
leaves log input = log_of (after_lines 0 (lines_of input) (begins log).after)

-- The test of a case: replies and log are these, byte for byte.
unfoldable case_holds : Case → Bool
case_holds c = same_bytes (answers c.log c.input) c.replies && same_bytes (leaves c.log c.input) c.after

-- Version C = 4, place 1, and the parts 1 to 8, in history 0 of two.
abbrev at4 : List ℕ
at4 = bytes "(site 2)\n(did 1 (set 0 4 1 578437695752307201))\n"

-- lines of a session, each with its end
unfoldable pub lines : List (List ℕ) → List ℕ
lines [] = []
lines (l ∷ ls) = ended l ++ lines ls

-- A line with this change, to stand behind `at4`.
abbrev did2 : String → List ℕ
did2 change = bytes "(did 2 " ++ bytes change ++ bytes ")\n"

-- "have each place one above the last in its history, and may run there": restart takes the change, and counts so many bytes
abbrev taken : String → String → Case
taken change n =
    record { log = at4 ++ did2 change; input = []; replies = bytes "(ok 2 " ++ bytes n ++ bytes ")\n"; after = at4 ++ did2 change }

-- .. or does not: 15
abbrev bad : String → Case
bad change = record { log = at4 ++ did2 change; input = []; replies = bytes "(refused 15)\n"; after = [] }

-- A redo of the change, and `show`.
abbrev redoing : String → List ℕ → List ℕ → Case
redoing change answers after =
    record {
      log = at4;
      input = bytes "(redo (did 2 " ++ bytes change ++ bytes "))\n(show 0)\n";
      replies = bytes "(ok 1 48)\n" ++ answers;
      after = after;
    }

-- Redo of the change runs, and then `show` has version, persistent and stable version, place and profile.
abbrev reruns : String → String → Case
reruns change shown = redoing change (bytes "(ok 1 1)\n(history 0 " ++ bytes shown ++ bytes ")\n") (at4 ++ did2 change)

-- .. or waits
abbrev stays_back : String → Case
stays_back change = redoing change (bytes "(ok 0 1)\n(history 0 4 4 0 1 578437695752307201)\n") at4

-- .. or is refused
abbrev redo_refused : String → String → Case
redo_refused change n = redoing change (bytes "(refused " ++ bytes n ++ bytes ")\n(history 0 4 4 0 1 578437695752307201)\n") at4

-- An add of an operation, its finish, and `show`.
abbrev adding : List ℕ → String → List ℕ → List ℕ → Case
adding log updates answers after =
    record {
      log = log;
      input = bytes "(end)\n(add 2 " ++ bytes updates ++ bytes ")\n(finish 2)\n(show 0)\n";
      replies = answers;
      after = after;
    }

-- An added operation is ready; finishing it gives these values, logs these changes, and `show` has these numbers.
abbrev runs : String → String → String → String → Case
runs updates values changes shown =
    adding at4 updates
    (bytes "(ok 1 48)\n(ok (waiting))\n(ok (ready 2))\n(ok 2 (values " ++ bytes values
    ++ bytes ")(ready)(overtaken))\n(history 0 " ++ bytes shown ++ bytes ")\n")
    (at4 ++ did2 changes)

-- .. waits (finishing it is refused 11)
abbrev waits : String → Case
waits updates =
    adding at4 updates (bytes "(ok 1 48)\n(ok (waiting))\n(ok (ready))\n(refused 11)\n(history 0 4 4 0 1 578437695752307201)\n") at4

-- .. or is refused
abbrev add_refused : String → String → Case
add_refused updates n =
    adding at4 updates
    (bytes "(ok 1 48)\n(ok (waiting))\n(refused " ++ bytes n ++ bytes ")\n(refused 11)\n(history 0 4 4 0 1 578437695752307201)\n")
    at4

-- "may run if", at C = 4 and U = 3, 4, 5 and 6: of a line that restart reads, of a redo, and of an added operation.
abbrev pub versions : List Case
versions =
    -- inc: "U = C + 1"; "version U"
    bad "(inc 0 3 2 0)" ∷ bad "(inc 0 4 2 0)" ∷ taken "(inc 0 5 2 0)" "70" ∷ bad "(inc 0 6 2 0)"
    ∷ stays_back "(inc 0 3 2 0)" ∷ stays_back "(inc 0 4 2 0)" ∷ reruns "(inc 0 5 2 0)" "5 4 0 2 578437695752307200"
    ∷ stays_back "(inc 0 6 2 0)"
    ∷ add_refused "(inc 0 3 0)" "8" ∷ add_refused "(inc 0 4 0)" "8"
    ∷ runs "(inc 0 5 0)" "578437695752307200" "(inc 0 5 2 0)" "5 4 0 2 578437695752307200" ∷ waits "(inc 0 6 0)"
    -- set: "U > C"; "version U"
    ∷ bad "(set 0 3 2 7)" ∷ bad "(set 0 4 2 7)" ∷ taken "(set 0 5 2 7)" "70" ∷ taken "(set 0 6 2 7)" "70"
    ∷ stays_back "(set 0 3 2 7)" ∷ stays_back "(set 0 4 2 7)" ∷ reruns "(set 0 5 2 7)" "5 4 0 2 7" ∷ reruns "(set 0 6 2 7)" "6 4 0 2 7"
    ∷ add_refused "(set 0 3 7)" "8" ∷ add_refused "(set 0 4 7)" "8"
    ∷ runs "(set 0 5 7)" "7" "(set 0 5 2 7)" "5 4 0 2 7" ∷ runs "(set 0 6 7)" "7" "(set 0 6 2 7)" "6 4 0 2 7"
    -- not: "U = C"; "version kept"
    ∷ bad "(not 0 3 2 0)" ∷ taken "(not 0 4 2 0)" "70" ∷ bad "(not 0 5 2 0)" ∷ bad "(not 0 6 2 0)"
    ∷ stays_back "(not 0 3 2 0)" ∷ reruns "(not 0 4 2 0)" "4 4 0 2 578437695752307201"
    ∷ stays_back "(not 0 5 2 0)" ∷ stays_back "(not 0 6 2 0)"
    ∷ add_refused "(not 0 3 0)" "9" ∷ runs "(not 0 4 0)" "578437695752307201" "(not 0 4 2 0)" "4 4 0 2 578437695752307201"
    ∷ waits "(not 0 5 0)" ∷ waits "(not 0 6 0)"
    -- unk: "U is written 0"; "as inc; version C + 1", and recorded as inc
    ∷ runs "(inc 1 1 0)(unk 0 0 7)" "0 578437695752307207" "(inc 1 1 1 0)(inc 0 5 2 7)" "5 4 0 2 578437695752307207"
    ∷ add_refused "(inc 1 1 0)(unk 0 1 7)" "5" ∷ add_refused "(inc 1 1 0)(unk 0 4 7)" "5" ∷ add_refused "(inc 1 1 0)(unk 0 5 7)" "5"
    ∷ []

-- "each place one above the last in its history": equal, one and two above; "redo: a place not above the history's" is refused 8.
abbrev pub places : List Case
places =
    bad "(inc 0 5 1 0)" ∷ bad "(inc 0 5 3 0)" ∷ bad "(set 0 6 1 7)" ∷ bad "(set 0 6 3 7)" ∷ bad "(not 0 4 1 0)" ∷ bad "(not 0 4 3 0)"
    ∷ redo_refused "(inc 0 5 1 0)" "8" ∷ stays_back "(inc 0 5 3 0)" ∷ redo_refused "(set 0 6 1 7)" "8" ∷ stays_back "(set 0 6 3 7)"
    ∷ redo_refused "(not 0 4 1 0)" "8" ∷ stays_back "(not 0 4 3 0)" ∷ []

-- Operands at both ends of their range, and one behind it: 5, and 15 of a line that restart reads. 2^64 is no number of a line: 1.
abbrev pub operands : List Case
operands =
    taken "(inc 0 5 2 1023)" "73" ∷ taken "(inc 0 5 2 1024)" "73" ∷ taken "(inc 0 5 2 2047)" "73" ∷ bad "(inc 0 5 2 2048)"
    ∷ reruns "(inc 0 5 2 2047)" "5 4 0 2 18376663423120507393" ∷ redo_refused "(inc 0 5 2 2048)" "5"
    ∷ runs "(inc 0 5 1024)" "578437674277470721" "(inc 0 5 2 1024)" "5 4 0 2 578437674277470721"
    ∷ runs "(inc 0 5 2047)" "18376663423120507393" "(inc 0 5 2 2047)" "5 4 0 2 18376663423120507393" ∷ add_refused "(inc 0 5 2048)" "5"
    ∷ taken "(set 0 5 2 0)" "70" ∷ taken "(set 0 5 2 4294967296)" "79" ∷ taken "(set 0 5 2 18446744073709551615)" "89"
    ∷ bad "(set 0 5 2 18446744073709551616)"
    ∷ reruns "(set 0 5 2 4294967295)" "5 4 0 2 4294967295" ∷ reruns "(set 0 5 2 4294967296)" "5 4 0 2 4294967296"
    ∷ reruns "(set 0 5 2 18446744073709551615)" "5 4 0 2 18446744073709551615" ∷ redo_refused "(set 0 5 2 18446744073709551616)" "1"
    ∷ runs "(set 0 5 0)" "0" "(set 0 5 2 0)" "5 4 0 2 0"
    ∷ runs "(set 0 5 4294967296)" "4294967296" "(set 0 5 2 4294967296)" "5 4 0 2 4294967296"
    ∷ runs "(set 0 5 18446744073709551615)" "18446744073709551615" "(set 0 5 2 18446744073709551615)" "5 4 0 2 18446744073709551615"
    ∷ add_refused "(set 0 5 18446744073709551616)" "1"
    ∷ bad "(not 0 4 2 1)" ∷ redo_refused "(not 0 4 2 1)" "5" ∷ add_refused "(not 0 4 1)" "5"
    ∷ runs "(inc 1 1 0)(unk 0 0 2047)" "0 18376663423120507393" "(inc 1 1 1 0)(inc 0 5 2 2047)" "5 4 0 2 18376663423120507393"
    ∷ add_refused "(inc 1 1 0)(unk 0 0 2048)" "5" ∷ []

-- "one part replaced: operand = part × 256 + byte": each part with the bytes 0 and 255.
abbrev pub parts : List Case
parts =
    reruns "(inc 0 5 2 0)" "5 4 0 2 578437695752307200" ∷ reruns "(inc 0 5 2 255)" "5 4 0 2 578437695752307455"
    ∷ reruns "(inc 0 5 2 256)" "5 4 0 2 578437695752306689" ∷ reruns "(inc 0 5 2 511)" "5 4 0 2 578437695752371969"
    ∷ reruns "(inc 0 5 2 512)" "5 4 0 2 578437695752110593" ∷ reruns "(inc 0 5 2 767)" "5 4 0 2 578437695768822273"
    ∷ reruns "(inc 0 5 2 768)" "5 4 0 2 578437695685198337" ∷ reruns "(inc 0 5 2 1023)" "5 4 0 2 578437699963388417"
    ∷ reruns "(inc 0 5 2 1024)" "5 4 0 2 578437674277470721" ∷ reruns "(inc 0 5 2 1279)" "5 4 0 2 578438769494131201"
    ∷ reruns "(inc 0 5 2 1280)" "5 4 0 2 578431098682540545" ∷ reruns "(inc 0 5 2 1535)" "5 4 0 2 578711474147623425"
    ∷ reruns "(inc 0 5 2 1536)" "5 4 0 2 576467370915332609" ∷ reruns "(inc 0 5 2 1791)" "5 4 0 2 648243489976549889"
    ∷ reruns "(inc 0 5 2 1792)" "5 4 0 2 1976943448883713" ∷ reruns "(inc 0 5 2 2047)" "5 4 0 2 18376663423120507393" ∷ []

-- A version C near the highest in history 0.
abbrev at_high : String → List ℕ
at_high c = bytes "(site 2)\n(did 1 (set 0 " ++ bytes c ++ bytes " 1 7))\n"

-- At C = 2^64 − 2 an added operation runs, and the version after is 2^64 − 1.
abbrev runs_high : String → String → String → Case
runs_high updates values changes =
    adding (at_high "18446744073709551614") updates
    (bytes "(ok 1 50)\n(ok (waiting))\n(ok (ready 2))\n(ok 2 (values " ++ bytes values ++ bytes ")(ready)(overtaken))\n"
    ++ bytes "(history 0 18446744073709551615 18446744073709551614 0 2 0)\n")
    (at_high "18446744073709551614" ++ did2 changes)

-- At C = 2^64 − 1 it does not: it gets this reply.
abbrev stays_high : String → String → Case
stays_high updates answer =
    adding (at_high "18446744073709551615") updates
    (bytes "(ok 1 50)\n(ok (waiting))\n" ++ bytes answer ++ bytes "\n(refused 11)\n"
    ++ bytes "(history 0 18446744073709551615 18446744073709551615 0 1 7)\n")
    (at_high "18446744073709551615")

-- unk: "C is below 2^64 − 1", and 02's 17; inc: "a true sum"; set up to 2^64 − 1.
abbrev pub highest : List Case
highest =
    runs_high "(inc 1 1 0)(unk 0 0 0)" "0 0" "(inc 1 1 1 0)(inc 0 18446744073709551615 2 0)"
    ∷ runs_high "(inc 0 18446744073709551615 0)" "0" "(inc 0 18446744073709551615 2 0)"
    ∷ runs_high "(set 0 18446744073709551615 0)" "0" "(set 0 18446744073709551615 2 0)"
    ∷ stays_high "(inc 1 1 0)(unk 0 0 0)" "(refused 17)" ∷ stays_high "(inc 0 0 0)" "(refused 8)"
    ∷ stays_high "(inc 0 18446744073709551616 0)" "(refused 1)" ∷ stays_high "(set 0 18446744073709551615 0)" "(refused 8)"
    ∷ record { log = at_high "18446744073709551615" ++ did2 "(inc 0 0 2 0)"; input = []; replies = bytes "(refused 15)\n"; after = [] }
    ∷ []

-- Calls that finish nothing, and the replies to them.
abbrev calls : List (List ℕ) → List (List ℕ) → Case
calls input answers =
    record {
      log = at4;
      input = bytes "(end)\n" ++ lines input;
      replies = bytes "(ok 1 48)\n(ok (waiting))\n" ++ lines answers;
      after = at4;
    }

-- "`not` is weak, the others strong; all but `unk` are ordered": what blocks what, and what nothing orders (6).
abbrev pub strengths : List Case
strengths =
    calls
    (bytes "(add 2 (not 0 4 0))" ∷ bytes "(add 3 (not 0 4 0))" ∷ bytes "(add 4 (inc 0 5 0))" ∷ bytes "(add 5 (inc 1 1 0)(unk 0 0 0))" ∷ [])
    (bytes "(ok (ready 2))" ∷ bytes "(ok (ready 3))" ∷ bytes "(ok (ready))" ∷ bytes "(ok (ready))" ∷ [])
    ∷ calls
    (bytes "(add 2 (inc 0 5 0))" ∷ bytes "(add 3 (not 0 4 0))" ∷ bytes "(add 4 (set 0 5 0))" ∷ [])
    (bytes "(ok (ready 2))" ∷ bytes "(ok (ready))" ∷ bytes "(ok (ready))" ∷ [])
    ∷ calls
    (bytes "(add 2 (set 0 5 0))" ∷ bytes "(add 3 (not 0 4 0))" ∷ bytes "(add 4 (inc 0 5 0))" ∷ [])
    (bytes "(ok (ready 2))" ∷ bytes "(ok (ready))" ∷ bytes "(ok (ready))" ∷ [])
    ∷ calls
    (bytes "(add 2 (inc 1 1 0)(unk 0 0 0))" ∷ bytes "(add 3 (not 0 4 0))" ∷ bytes "(add 4 (inc 0 5 0))" ∷ [])
    (bytes "(ok (ready 2))" ∷ bytes "(ok (ready))" ∷ bytes "(ok (ready))" ∷ [])
    ∷ calls
    (bytes "(add 2 (unk 0 0 0))" ∷ bytes "(add 2 (unk 0 0 0)(not 1 0 0))" ∷ bytes "(add 2 (not 0 4 0)(not 1 0 0))" ∷ [])
    (bytes "(refused 6)" ∷ bytes "(refused 6)" ∷ bytes "(ok (ready 2))" ∷ [])
    ∷ []

-- ### The test

-- The whole table.
abbrev pub cases : List Case
cases = versions ++ places ++ operands ++ parts ++ highest ++ strengths

-- The one computed test, over the whole table.
computed : T (all case_holds cases)
computed =
    unfold case_holds begins answers log_of leaves lines same_bytes below word digits_within digits more number number_of in
    unfold field_text fields_text items_text tail_text list_text update_text change_text one_text site_text did_text stable_text line_text redo_text in
    unfold numbers_text answer_text outcome_text in
    unfold reading.field reading.rule reading.done_rule reading.update reading.change reading.one reading.items reading.tail in
    unfold reading.did reading.add_form reading.redo_form reading.numbered reading.command reading.line read_did read_line reading.base_cell in
    unfold reading.base read_base read_site read_command read_whole in
    unfold replaced_with profile_of entered_with enter_with enter_all_with cell_from_with cell_with start_cell touches runs_at can_run_with in
    unfold check and_then wrong_count no_such_history history_twice update_misfits change_misfits_with in
    unfold form_refusal updates_refusal changes_refusal_with in
    unfold stables_from stables_at weave_from mark_from ended lines_text log_text head_text lines_from rest_from histories_fit accepts_with in
    unfold rises follows live_in table_holds in_order base_fits read_lines read_second read_first read_log in
    unfold log_bytes version_at live_done live asks dry became_dry rose line_bytes in
    unfold unless blocked_by blocked may_run_now ready attempt try_from made_ready in
    unfold never_now holds_never overtaken not_overtaken overtaken_ids nothing_orders id_pending id_done in
    unfold already_done read_overtaken at_highest table_full add_refusal arrived add change_of line_of values_after in_progress future without in
    unfold log_full finished finish_found finish show restarted restart_as restart stale redo_refusal behind pick in
    unfold drain delivered redo_read redo end writable_update writable perform step in
    unfold turn_of calling obey on_command turn replies after_lines in
    tt

both : (a b c d : List ℕ) → T (same_bytes a b && same_bytes c d) → (a ≡ b) × (c ≡ d)
both a b c d t =
    (same_bytes_lem a b (and_left (same_bytes a b) (same_bytes c d) t), same_bytes_lem c d (and_right (same_bytes a b) (same_bytes c d) t))

-- Every case holds: the replies, and the log's bytes at the end.
pub cases_hold : (c : Case) → Mem c cases → (answers c.log c.input ≡ c.replies) × (leaves c.log c.input ≡ c.after)
unfolding case_holds
cases_hold c m =
    both _ _ _ _ (all-at case_holds cases computed c m)
