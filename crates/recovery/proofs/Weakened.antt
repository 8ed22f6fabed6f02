-- Five of (g)'s rules, each made weaker, and for each a list of calls at whose end the redo of a lost line is refused, though every lost
-- line is chosen and comes, in first order, after a cut that keeps each line counted persistent. So none of them can be spared. Computed.
use Rattle.std.specs.Prelude.{◌≡◌, true, false, List, [], ◌∷◌, ◌++◌, map, ℕ, T, leb, length}
use Rattle.std.proofs.Math.Path.{refl}
use Rattle.std.proofs.Math.Option.{none}
use Rattle.forms.specs.Lists.{below}
use Rattle.forms.specs.Words.{word}
use Rattle.forms.specs.Decimal.{digits_within, digits, more, number}
use Rattle.forms.specs.Forms.{Update, Did, Line, did_line, stable_line, Restarted, field_text, fields_text, items_text, tail_text}
use Rattle.forms.specs.Forms.{list_text, change_text, one_text, site_text, did_text, stable_text, line_text}
use Rattle.forms.specs.Reading as reading
use Rattle.forms.specs.Reading.{read_base, read_did, read_line, read_site, read_whole}
use Rattle.forms.specs.declared.Rule.TheVariants.{Inc}
use Rattle.forms.specs.declared.DoneRule.TheVariants.{DidInc}
use Rattle.forms.specs.declared.Refusal.{Refusal}
use Rattle.forms.specs.declared.Refusal.TheVariants.{AlreadyDone, NoRoom}
use Rattle.rules.specs.Rules.{profile_of, replaced_with}
use Rattle.rules.specs.Book.{start_cell, touches, runs_at, can_run_with, cell_from_with, cell_with, enter_all_with, enter_with, entered_with}
use Rattle.rules.specs.Checks.{check, and_then, wrong_count, no_such_history, history_twice, update_misfits, change_misfits_with, form_refusal}
use Rattle.rules.specs.Checks.{updates_refusal, changes_refusal_with}
use Rattle.rules.specs.Log.{read_second, base_fits, in_order, head_text, stables_from, stables_at, weave_from, mark_from, up_to_did, reported, ended}
use Rattle.rules.specs.Log.{lines_text, log_text, lines_from, rest_from}
use Rattle.rules.specs.Log.{histories_fit, accepts_with, rises, follows, live_in, table_holds, read_lines, read_first, read_log}
use Rattle.rules.specs.State.{State, refused, ok, settle, lines_in, stable_to, with_marks, with_restoring, log_bytes, version_at, live_done, live}
use Rattle.rules.specs.State.{asks, dry, became_dry, rose, line_bytes, bytes_of}
use Rattle.rules.specs.Calls.{base_cut, Call, Add, Finish, Persistent, Stable, Cut, Redo, End, unless, opened, blocked_by, blocked, may_run_now}
use Rattle.rules.specs.Calls.{ready}
use Rattle.rules.specs.Calls.{attempt, try_from, made_ready, never_now, holds_never, overtaken, not_overtaken, overtaken_ids, nothing_orders}
use Rattle.rules.specs.Calls.{id_pending, id_done, already_done, read_overtaken, at_highest, table_full, add_refusal, arrived, add, change_of}
use Rattle.rules.specs.Calls.{line_of, values_after, in_progress, future, without, log_full, finished, finish_found, finish, persistent}
use Rattle.rules.specs.Calls.{above_mark, stable_full, stable_refusal, stabled, stable, restarted, restart_as, restart, cut_above, cut, stale}
use Rattle.rules.specs.Calls.{redo_refusal, behind, pick, drain, delivered, redo_read, redo, end, writable_update, writable, perform, step}
use Rattle.rules.specs.Run.{run}
use Rattle.recovery.specs.Claim.{none, counted, counted_after, lost_by}

-- ### The operations: all in history 0

-- (inc 0 V 0), as an add asks for it
abbrev asked : ℕ → List Update
asked v = record { rule = Inc; history = 0; version = v; operand = 0 } ∷ []

-- (did I (inc 0 V V 0))
abbrev did : ℕ → ℕ → Did
did i v = record { id = i; changes = record { rule = DidInc; history = 0; version = v; place = v; operand = 0 } ∷ [] }

-- operation 1 done, made persistent and stable: its stable line is not covered
abbrev stable1 : List Call
stable1 = Add 1 (asked 1) ∷ Finish 1 ∷ Persistent 1 ∷ Stable 1 ∷ []

-- the operations up to the stable mark leave the table
abbrev leave : State → State
leave st = with_marks st.persistent_to (stable_to st) st

-- each of them comes once
abbrev redos : List Did → List Call
redos ds = map (λ (d : Did). Redo (did_text d)) ds

-- Of the first log, with `counts` lines behind the site line counted persistent, a cut keeps so many lines or more. It loses the lines
-- `others` and behind them `line`; all of them come, in first order, after what `then` does, and `line` is refused: it neither runs
-- nor waits.
record Breaks (before : State) (counts : ℕ) (kept gone : List Line) (then : State → State) (others : List Did) (line : Did)
    (r : Refusal) : Type 0 where
  whole : lines_in before ≡ kept ++ gone
  enough : T (leb counts (length kept))
  cuts : step (Cut (length (log_text 1 none kept)) before.room) before
      ≡ ok (restarted before.room 1 none kept) (Restarted 1 (length (log_text 1 none kept)))
  lost : lost_by before (restarted before.room 1 none kept) ≡ others ++ line ∷ []
  refuses : step (Redo (did_text line)) (run (redos others) (then (restarted before.room 1 none kept))) ≡ refused r

-- ### The five

-- nothing is done between the cut and the redos
abbrev same : State → State
same st = st

-- "leaves the table only when a persistent report covers its stable line": here it leaves at the stable call, and its id is used again
abbrev at_once : State
at_once = run (Add 1 (asked 2) ∷ Finish 1 ∷ []) (leave (run stable1 (opened 1 1000)))

-- "Covered stable lines .. count as persistent": here the did lines up to the persistent mark alone
abbrev covered_lost : State
covered_lost = run (stable1 ++ Persistent 1 ∷ Add 1 (asked 2) ∷ Finish 1 ∷ []) (opened 1 1000)

-- ".. and those a restart kept": here the did lines that it kept alone
abbrev kept_lost : State
kept_lost = run (End ∷ Add 1 (asked 2) ∷ Finish 1 ∷ []) (restarted 1000 1 none (did_line (did 1 1) ∷ stable_line 1 ∷ []))

-- "While restoring, any stable call with N above the mark meets 14": here it is accepted, and its line takes the room of a lost one
abbrev full : State
full = run (Add 1 (asked 1) ∷ Finish 1 ∷ Persistent 1 ∷ Add 2 (asked 2) ∷ Finish 2 ∷ []) (opened 1 53)

-- the stable call after the cut, as if the site were not restoring
abbrev anyway : State → State
anyway st = with_restoring true (settle (step (Stable 1) (with_restoring false st)) (with_restoring false st))

-- "a report of a did line after it": here a report of the did line right before it covers it too, and its operation leaves
abbrev line_before : List Call
line_before = stable1 ++ Add 2 (asked 2) ∷ Finish 2 ∷ Persistent 1 ∷ []

-- .. and its id is used again
abbrev before1 : State
before1 = run (Add 1 (asked 3) ∷ Finish 1 ∷ []) (leave (run line_before (opened 1 1000)))

-- What each of them breaks.
record Weakened : Type 0 where
  counts-at_once : counted 0 stable1 (opened 1 1000) ≡ 1
  leaves-at_once : Breaks at_once 1 (did_line (did 1 1) ∷ []) (stable_line 1 ∷ did_line (did 1 2) ∷ []) same [] (did 1 2) AlreadyDone
  covered_not-counted :
      Breaks covered_lost (length (up_to_did covered_lost.persistent_to (lines_in covered_lost))) (did_line (did 1 1) ∷ [])
      (stable_line 1 ∷ did_line (did 1 2) ∷ []) same [] (did 1 2) AlreadyDone
  kept-not-counted :
      Breaks kept_lost (length (up_to_did kept_lost.persistent_to (lines_in kept_lost))) (did_line (did 1 1) ∷ [])
      (stable_line 1 ∷ did_line (did 1 2) ∷ []) same [] (did 1 2) AlreadyDone
  stable_while_restoring : Breaks full 1 (did_line (did 1 1) ∷ []) (did_line (did 2 2) ∷ []) anyway [] (did 2 2) NoRoom
  counts-before : counted 0 line_before (opened 1 1000) ≡ 1
  covered_by_the_line_before :
      Breaks before1 1 (did_line (did 1 1) ∷ []) (stable_line 1 ∷ did_line (did 2 2) ∷ did_line (did 1 3) ∷ []) same (did 2 2 ∷ []) (did 1 3)
      AlreadyDone

weakened : Weakened
weakened =
    unfold replaced_with profile_of entered_with enter_with enter_all_with cell_from_with cell_with start_cell touches runs_at can_run_with check in
    unfold and_then in
    unfold wrong_count no_such_history history_twice update_misfits change_misfits_with form_refusal updates_refusal changes_refusal_with in
    unfold stables_from stables_at weave_from mark_from up_to_did reported ended lines_text log_text head_text lines_from rest_from histories_fit in
    unfold accepts_with rises follows live_in table_holds in_order base_fits read_lines read_second read_first read_log settle log_bytes version_at in
    unfold live_done live asks dry in
    unfold became_dry rose line_bytes bytes_of unless opened blocked_by blocked may_run_now ready attempt try_from made_ready never_now in
    unfold holds_never overtaken not_overtaken overtaken_ids nothing_orders id_pending id_done already_done read_overtaken at_highest table_full in
    unfold add_refusal arrived add change_of line_of values_after in_progress future without log_full finished finish_found finish persistent in
    unfold above_mark stable_full stable_refusal stabled stable restarted restart_as restart cut_above base_cut cut stale redo_refusal behind in
    unfold pick in
    unfold drain delivered redo_read redo end writable_update writable perform step run counted counted_after lost_by below word in
    unfold digits_within digits more number field_text fields_text items_text tail_text list_text change_text one_text site_text did_text in
    unfold stable_text line_text reading.field reading.done_rule reading.change reading.one reading.items reading.tail reading.did in
    unfold reading.line read_did read_line reading.base_cell reading.base read_base read_site read_whole in
    record {
      counts-at_once = refl;
      leaves-at_once = record { whole = refl; enough = tt; cuts = refl; lost = refl; refuses = refl };
      covered_not-counted = record { whole = refl; enough = tt; cuts = refl; lost = refl; refuses = refl };
      kept-not-counted = record { whole = refl; enough = tt; cuts = refl; lost = refl; refuses = refl };
      stable_while_restoring = record { whole = refl; enough = tt; cuts = refl; lost = refl; refuses = refl };
      counts-before = refl;
      covered_by_the_line_before = record { whole = refl; enough = tt; cuts = refl; lost = refl; refuses = refl };
    }
