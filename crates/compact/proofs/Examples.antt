-- Tables filled to their edges: what the tests of 10 say.
use Rattle.std.specs.Prelude.{◌≡◌, refl, Bool, true, false, List, [], ◌∷◌, ◌++◌, ℕ, zero, suc}
use Rattle.std.proofs.Math.Option.{Option, none, some}
use Rattle.forms.specs.Lists.{below}
use Rattle.forms.specs.Words.{word}
use Rattle.forms.specs.Decimal.{digits_within, digits, more, number}
use Rattle.forms.specs.Forms.{Did, Answer, Restarted, field_text, fields_text, items_text, tail_text, list_text, change_text, one_text}
use Rattle.forms.specs.Forms.{site_text, did_text, stable_text, line_text}
use Rattle.forms.specs.Reading as reading
use Rattle.forms.specs.Reading.{read_base, read_did, read_line, read_site, read_whole}
use Rattle.forms.specs.declared.DoneRule.TheVariants.{DidInc}
use Rattle.forms.specs.declared.Refusal.TheVariants.{TableFull, AboveLimit, BadLog}
use Rattle.rules.specs.Rules.{profile_of, replaced_with}
use Rattle.rules.specs.Book.{start_cell, entered_with, enter_with, enter_all_with, cell_from_with, cell_with, touches, runs_at, can_run_with}
use Rattle.rules.specs.Log.{read_second, base_fits, in_order, head_text, stables_from, stables_at, weave_from, mark_from, up_to_did, reported, ended}
use Rattle.rules.specs.Log.{dids_text, lines_text, log_text, lines_from}
use Rattle.rules.specs.Log.{rest_from, histories_fit, accepts_with, rises, follows, live_in, table_holds, read_lines, read_first, read_log}
use Rattle.rules.specs.Checks.{check, and_then, wrong_count, no_such_history, history_twice, update_misfits, change_misfits_with, form_refusal}
use Rattle.rules.specs.Checks.{updates_refusal, changes_refusal_with}
use Rattle.rules.specs.Calls.{base_cut, never_now, holds_never, overtaken, not_overtaken, overtaken_ids, at_highest}
use Rattle.rules.specs.Calls.{Cut, unless, open_full, open_refusal, opened, open_site, blocked_by, blocked, may_run_now, ready, attempt, try_from}
use Rattle.rules.specs.Calls.{made_ready}
use Rattle.rules.specs.Calls.{nothing_orders, id_pending, id_done, already_done, read_overtaken, table_full, add_refusal, arrived, add, change_of}
use Rattle.rules.specs.Calls.{line_of, values_after, in_progress}
use Rattle.rules.specs.Calls.{future, without, log_full, finished, finish_found, finish, withdraw_refusal, withdraw, persistent, above_mark}
use Rattle.rules.specs.Calls.{stable_full, stable_refusal, stabled}
use Rattle.rules.specs.Calls.{stable, show, restarted, restart_as, restart, cut_above, cut, stale, redo_refusal, behind, pick, drain}
use Rattle.rules.specs.Calls.{delivered}
use Rattle.rules.specs.Calls.{redo_read, redo, end, writable_update, writable, perform, step}
use Rattle.rules.specs.When.{add_when, redo_read_when, redo_when, lastly, cut_when, perform_when, step_when}
use Rattle.rules.specs.State.{Operation, State, Reply, refused, ok, log_bytes, version_at, live_done, live, asks, dry, became_dry, rose}
use Rattle.rules.specs.State.{line_bytes, bytes_of, settle}
use Rattle.compact.specs.Module.{Slot, unopened, Module, slot_at, with_slot, others, live_of, lacks, free, taken, uncovered, meets_ten}
use Rattle.compact.specs.Module.{promised_again, At, reply_of, promise_of, next_of}

operations : ℕ → List Operation
operations zero = []
operations (suc n) = record { id = n; updates = []; running = false } ∷ operations n

-- a site with n operations live
having : ℕ → Bool → State
having n r =
    record {
      histories = 1;
      room = 1000;
      base = none;
      log = [];
      stables = [];
      pending = operations n;
      waiting = [];
      persistent_to = 0;
      left_to = 0;
      restoring = r;
    }

abbrev at : ℕ → Slot
at n = record { site = some (having n false); promise = 16 }

-- cut and restoring, with n back and p promised
abbrev back : ℕ → ℕ → Slot
back n p = record { site = some (having n true); promise = p }

-- 64; "then free must exceed the 32 that sites 2 and 3 (not opened) lack": 32
last_for_second : taken 1 (at 64 ∷ at 31 ∷ unopened ∷ unopened ∷ []) ≡ false
unfolding taken free lacks live_of live live_done others operations having
last_for_second = refl

none_for_second : taken 1 (at 64 ∷ at 32 ∷ unopened ∷ unopened ∷ []) ≡ true
unfolding taken free lacks live_of live live_done others operations having
none_for_second = refl

last_for_third : taken 2 (at 64 ∷ at 32 ∷ at 15 ∷ at 16 ∷ []) ≡ false
unfolding taken free lacks live_of live live_done others operations having
last_for_third = refl

all_used : free (at 64 ∷ at 32 ∷ at 16 ∷ at 16 ∷ []) ≡ 0
unfolding free live_of live live_done operations having
all_used = refl

-- 40 live before a cut, nothing after it: promised 40, and 128 - 40 - 16 - 16 = 56 are left for a neighbour
promised_forty : promised_again (at 40) ≡ 40
unfolding promised_again live_of live live_done operations having
promised_forty = refl

-- five came back, and it is cut again: "the largest number holds"
still_forty : promised_again (back 5 40) ≡ 40
unfolding promised_again live_of live live_done operations having
still_forty = refl

last-beside_forty : taken 1 (back 0 40 ∷ at 55 ∷ at 0 ∷ at 0 ∷ []) ≡ false
unfolding taken free lacks live_of live live_done others operations having
last-beside_forty = refl

none_beside_forty : taken 1 (back 0 40 ∷ at 56 ∷ at 0 ∷ at 0 ∷ []) ≡ true
unfolding taken free lacks live_of live live_done others operations having
none_beside_forty = refl

-- all forty come back on a full table
last_comes_back : taken 0 (back 39 40 ∷ at 56 ∷ at 16 ∷ at 16 ∷ []) ≡ false
unfolding taken free lacks live_of live live_done others operations having
last_comes_back = refl

-- with (g): 40 kept live lines, 16 free
forty_uncovered : uncovered 0 40 (at 0 ∷ at 64 ∷ at 32 ∷ at 16 ∷ []) ≡ true
unfolding uncovered free lacks live_of live live_done others slot_at operations having
forty_uncovered = refl

sixteen_covered : uncovered 0 16 (at 0 ∷ at 64 ∷ at 32 ∷ at 16 ∷ []) ≡ false
unfolding uncovered free lacks live_of live live_done others slot_at operations having
sixteen_covered = refl

-- ### A cut that would make forty live again

answer_to : Reply → Option Answer
answer_to (refused r) = none
answer_to (ok after answer) = some answer

-- (did J (inc 0 J J 7))
abbrev lined : ℕ → Did
lined j = record { id = j; changes = record { rule = DidInc; history = 0; version = j; place = j; operand = 7 } ∷ [] }

dones : ℕ → List Did
dones zero = []
dones (suc n) = dones n ++ lined (suc n) ∷ []

-- forty operations done, persistent and stable, their stable line covered: nothing is live
forty : State
forty =
    record {
      histories = 1;
      room = 65536;
      base = none;
      log = dones 40;
      stables = record { behind = 40; up_to = 40 } ∷ [];
      pending = [];
      waiting = [];
      persistent_to = 40;
      left_to = 40;
      restoring = false;
    }

-- that site, and neighbours with 64, 32 and 16 live
abbrev crowded : Module
crowded = record { site = some forty; promise = 16 } ∷ at 64 ∷ at 32 ∷ at 16 ∷ []

-- The log has 994 bytes, the last 12 of them the stable line. Without it all forty are live again, and 16 entries are free: 10.
record Forty : Type 0 where
  ten : reply_of (At 0 (Cut 982 65536)) crowded ≡ refused TableFull
  -- 13 and 15 come before it
  above : reply_of (At 0 (Cut 995 65536)) crowded ≡ refused AboveLimit
  torn : reply_of (At 0 (Cut 3 65536)) crowded ≡ refused BadLog
  -- sixteen kept live lines are covered
  sixteen : answer_to (reply_of (At 0 (Cut 382 65536)) crowded) ≡ some (Restarted 16 382)
  seventeen : reply_of (At 0 (Cut 407 65536)) crowded ≡ refused TableFull
  -- the whole log: the stable line is kept, nothing is live
  whole : answer_to (reply_of (At 0 (Cut 994 65536)) crowded) ≡ some (Restarted 40 994)

forty_cut : Forty
unfolding replaced_with profile_of entered_with enter_with enter_all_with cell_from_with cell_with start_cell touches runs_at can_run_with unless
    open_full open_refusal opened open_site blocked_by blocked may_run_now ready attempt try_from made_ready never_now holds_never overtaken
    not_overtaken overtaken_ids nothing_orders id_pending id_done already_done read_overtaken at_highest table_full add_refusal arrived add change_of
    line_of values_after in_progress future without log_full finished finish_found finish withdraw_refusal withdraw persistent above_mark
    stable_full stable_refusal stabled stable show restarted restart_as restart cut_above base_cut cut stale redo_refusal behind pick drain
    delivered redo_read redo end writable_update writable perform step check and_then wrong_count no_such_history history_twice update_misfits
    change_misfits_with form_refusal updates_refusal changes_refusal_with stables_from stables_at weave_from mark_from up_to_did reported ended dids_text
    lines_text log_text head_text lines_from rest_from histories_fit accepts_with rises follows live_in table_holds in_order base_fits read_lines
    read_second read_first read_log log_bytes version_at live_done live asks dry became_dry rose line_bytes bytes_of settle below digits_within digits
    more number word field_text fields_text items_text tail_text list_text change_text one_text site_text did_text stable_text line_text reading.field
    reading.done_rule reading.change reading.one reading.did reading.items reading.tail reading.line read_whole read_did read_line
    reading.base_cell reading.base read_base read_site add_when redo_read_when redo_when lastly cut_when perform_when step_when slot_at with_slot others
    live_of lacks free taken uncovered meets_ten promised_again reply_of promise_of next_of operations having dones forty answer_to
forty_cut = record { ten = refl; above = refl; torn = refl; sixteen = refl; seventeen = refl; whole = refl }
