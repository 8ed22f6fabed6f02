-- The recovery claim is not empty for logs that were trimmed: a changeover before the picked cut, to a copy that has lines behind its
-- base line, and what the claims say of lists behind it.
use Rattle.std.specs.Prelude.{List, [], ◌∷◌, ◌++◌, map, take, ℕ, ◌≡◌, ◌<◌}
use Rattle.forms.specs.Lists.{below}
use Rattle.forms.specs.Words.{bytes, word}
use Rattle.forms.specs.Decimal.{digits_within, digits, more, number}
use Rattle.forms.specs.Forms.{Did, Line, did_line, stable_line, Restarted, field_text, fields_text, items_text, tail_text}
use Rattle.forms.specs.Forms.{list_text, change_text, one_text, site_text, did_text, stable_text, line_text}
use Rattle.forms.specs.Reading as reading
use Rattle.forms.specs.Reading.{read_base, read_did, read_line, read_site, read_whole}
use Rattle.forms.specs.declared.Rule.TheVariants.{Inc}
use Rattle.rules.specs.Rules.{profile_of, replaced_with}
use Rattle.rules.specs.Book.{start_cell, touches, runs_at, can_run_with, cell_from_with, cell_with, enter_all_with, enter_with, entered_with}
use Rattle.rules.specs.Checks.{check, and_then, wrong_count, no_such_history, history_twice, update_misfits, change_misfits_with, form_refusal}
use Rattle.rules.specs.Checks.{updates_refusal, changes_refusal_with}
use Rattle.rules.specs.Log.{read_second, base_fits, in_order, head_text, stables_from, stables_at, weave_from, mark_from, up_to_did, reported, ended}
use Rattle.rules.specs.Log.{lines_text, log_text, lines_from, rest_from}
use Rattle.rules.specs.Log.{histories_fit, accepts_with, rises, follows, live_in, table_holds, read_lines, read_first, read_log}
use Rattle.rules.specs.State.{refused, ok, settle, log_bytes, version_at, live_done, live}
use Rattle.rules.specs.State.{asks, dry, became_dry, rose, line_bytes, bytes_of}
use Rattle.rules.specs.Calls.{base_cut, Call, Add, Finish, Persistent, Stable, Cut, End, unless, opened, blocked_by, blocked, may_run_now}
use Rattle.rules.specs.Calls.{ready}
use Rattle.rules.specs.Calls.{attempt, try_from, made_ready, never_now, holds_never, overtaken, not_overtaken, overtaken_ids, nothing_orders}
use Rattle.rules.specs.Calls.{id_pending, id_done, already_done, read_overtaken, at_highest, table_full, add_refusal, arrived, add, change_of}
use Rattle.rules.specs.Calls.{line_of, values_after, in_progress, future, without, log_full, finished, finish_found, finish, persistent}
use Rattle.rules.specs.Calls.{above_mark, stable_full, stable_refusal, stabled, stable, restarted, restart_as, restart, cut_above, cut, stale}
use Rattle.rules.specs.Calls.{redo_refusal, behind, pick, drain, delivered, redo_read, redo, end, writable_update, writable, perform, step}
use Rattle.rules.specs.Run.{run}
use Rattle.recovery.specs.Claim.{counted, counted_after, lost_by}
use Rattle.std.proofs.Math.Option as option
use Rattle.std.proofs.Math.Path.{refl}
use Rattle.std.proofs.Common.{sym, subst}
use Rattle.forms.specs.Forms.{Base, base_cell_text, base_text, Restarted, Shown, Line, did_line, stable_line, Did}
use Rattle.forms.specs.declared.Rule.TheVariants.{Inc, Set, Not}
use Rattle.forms.specs.declared.Refusal.TheVariants.{BadLog}
use Rattle.rules.specs.Book.{Cell}
use Rattle.rules.specs.Log.{closing, dids_text}
use Rattle.rules.specs.Trim.{base_cell_at, trimmed_base, trimmed_lines, trim_text, trim_above, trim_full, trim_refusal}
use Rattle.rules.specs.Calls.{Changeover, changeover, open_full, open_refusal, open_site, show, withdraw_refusal, withdraw}
use Rattle.rules.specs.Keeper.{same_bytes}
use Rattle.recovery.specs.Claim.{comes_after, came_from, Shows}
use Rattle.recovery.proofs.Checking.{brings_chosen, all_fine, all_come}
use Rattle.recovery.specs.Arrival.{Delivery, AllThree}
use Rattle.recovery.proofs.ArrivalLaws.{orders}
use Rattle.recovery.proofs.Instance.{update, ten, eleven, twelve, fourteen, fifteen, again, start, started, every, brings}
use Rattle.recovery.proofs.Instance.{ToCut, fair, Computed, asked, result}

-- The log before the changeover, and the copy behind its base line: "(base 1 (0 0 0 0)(1 0 0 0)(2 1 1 0))", line 10 and `(stable 2)`.
abbrev base1 : Base
base1 =
    record {
      up_to = 1;
      cells =
          record { history = 0; version = 0; place = 0; profile = 0 } ∷ record { history = 1; version = 0; place = 0; profile = 0 }
          ∷ record { history = 2; version = 1; place = 1; profile = 0 } ∷ [];
    }

-- the lines of the copy
abbrev kept1 : List Line
kept1 = did_line ten ∷ stable_line 2 ∷ []

-- Lines 9 and 10 are done, persistent and stable. A changeover above the mark is refused, and one into 81 bytes; the third is to a copy of
-- 82 bytes with line 10 behind its base line. All of it counts as persistent from then on, and the id of line 9 is used again.
abbrev xs : List Call
xs =
    Add 9 (update Inc 2 1 256 ∷ []) ∷ Finish 9 ∷ Add 10 (update Inc 0 1 513 ∷ []) ∷ Finish 10 ∷ Persistent 2 ∷ Stable 2
    ∷ Changeover 3 65536 ∷ Changeover 1 81 ∷ Changeover 1 65536 ∷ End
    ∷ Add 11 (update Not 0 1 0 ∷ update Inc 1 1 7 ∷ []) ∷ Finish 11
    ∷ Add 12 (update Set 0 9 1000 ∷ []) ∷ Finish 12 ∷ Add 9 (update Inc 2 2 300 ∷ []) ∷ Finish 9
    ∷ Add 14 (update Inc 2 3 5 ∷ update Not 1 1 0 ∷ []) ∷ Finish 14 ∷ Add 15 (update Not 1 1 0 ∷ []) ∷ Finish 15 ∷ []

-- what the picked cut loses
abbrev lost : List Did
lost = eleven ∷ twelve ∷ again ∷ fourteen ∷ fifteen ∷ []

-- The picked cut keeps 90 bytes: the copy, and a torn part of line 11.
abbrev front : List ℕ
front = bytes "(site 3)\n(base 1 (0 0 0 0)(1 0 0 0)(2 1 1 0))\n(did 10 (inc 0 1 1 513))\n(stable 2)\n"

to_cut_lem : ToCut xs 90 (option.some base1) kept1 front 2 lost (Restarted 2 82)
to_cut_lem =
    unfold replaced_with profile_of entered_with enter_with enter_all_with cell_from_with cell_with start_cell touches runs_at can_run_with check in
    unfold and_then in
    unfold wrong_count no_such_history history_twice update_misfits change_misfits_with form_refusal updates_refusal changes_refusal_with in
    unfold stables_from stables_at weave_from mark_from up_to_did reported ended lines_text log_text head_text lines_from rest_from histories_fit in
    unfold accepts_with rises follows live_in table_holds in_order base_fits read_lines read_second read_first read_log settle log_bytes version_at in
    unfold live_done live asks dry in
    unfold became_dry rose line_bytes bytes_of unless opened blocked_by blocked may_run_now ready attempt try_from made_ready never_now in
    unfold holds_never overtaken not_overtaken overtaken_ids nothing_orders id_pending id_done already_done read_overtaken at_highest table_full in
    unfold add_refusal arrived add change_of line_of values_after in_progress future without log_full finished finish_found finish persistent in
    unfold above_mark stable_full stable_refusal stabled stable restarted restart_as restart cut_above base_cut cut stale redo_refusal behind in
    unfold pick in
    unfold drain delivered redo_read redo end writable_update writable perform step run counted counted_after lost_by below word in
    unfold digits_within digits more number field_text fields_text items_text tail_text list_text change_text one_text site_text did_text in
    unfold stable_text line_text reading.field reading.done_rule reading.change reading.one reading.items reading.tail reading.did in
    unfold reading.line read_did read_line reading.base_cell reading.base read_base read_site read_whole in
    unfold open_full open_refusal open_site show withdraw_refusal withdraw comes_after came_from all_fine brings_chosen all_come same_bytes in
    unfold base_cell_at trimmed_base trimmed_lines trim_text trim_above trim_full trim_refusal changeover closing dids_text base_cell_text base_text in
    record { cuts = refl; keeps = refl; enough = tt; wide = refl; histories = refl; kept_text = refl; lost_is = refl }

-- "A cut without the whole base line is refused 15, since the site knows that its log has one": 46 bytes are the site line and the base
-- line. "A restart from such bytes alone cannot know": it finds an empty log.
record Edges : Type 0 where
  alone : restart (take 45 (log_bytes (run xs start))) 45 ≡ ok (restarted 45 3 option.none []) (Restarted 0 9)
  -- .. and behind it no lost line comes back, though all come in first order
  never : (run (map brings lost) (restarted 65536 3 option.none [])).log ≡ []
  inside : step (Cut 45 65536) (run xs start) ≡ refused BadLog
  whole : step (Cut 46 65536) (run xs start) ≡ ok (restarted 65536 3 (option.some base1) []) (Restarted 1 46)

edges : Edges
edges =
    unfold replaced_with profile_of entered_with enter_with enter_all_with cell_from_with cell_with start_cell touches runs_at can_run_with check in
    unfold and_then in
    unfold wrong_count no_such_history history_twice update_misfits change_misfits_with form_refusal updates_refusal changes_refusal_with in
    unfold stables_from stables_at weave_from mark_from up_to_did reported ended lines_text log_text head_text lines_from rest_from histories_fit in
    unfold accepts_with rises follows live_in table_holds in_order base_fits read_lines read_second read_first read_log settle log_bytes version_at in
    unfold live_done live asks dry in
    unfold became_dry rose line_bytes bytes_of unless opened blocked_by blocked may_run_now ready attempt try_from made_ready never_now in
    unfold holds_never overtaken not_overtaken overtaken_ids nothing_orders id_pending id_done already_done read_overtaken at_highest table_full in
    unfold add_refusal arrived add change_of line_of values_after in_progress future without log_full finished finish_found finish persistent in
    unfold above_mark stable_full stable_refusal stabled stable restarted restart_as restart cut_above base_cut cut stale redo_refusal behind in
    unfold pick in
    unfold drain delivered redo_read redo end writable_update writable perform step run counted counted_after lost_by below word in
    unfold digits_within digits more number field_text fields_text items_text tail_text list_text change_text one_text site_text did_text in
    unfold stable_text line_text reading.field reading.done_rule reading.change reading.one reading.items reading.tail reading.did in
    unfold reading.line read_did read_line reading.base_cell reading.base read_base read_site read_whole in
    unfold open_full open_refusal open_site show withdraw_refusal withdraw comes_after came_from all_fine brings_chosen all_come same_bytes in
    unfold base_cell_at trimmed_base trimmed_lines trim_text trim_above trim_full trim_refusal changeover closing dids_text base_cell_text base_text in
    record { alone = refl; never = refl; inside = refl; whole = refl }

-- The lines come in the reverse order, and the last one lets those that wait run.
abbrev reversed : List Call
reversed = brings fifteen ∷ brings fourteen ∷ brings again ∷ brings twelve ∷ brings eleven ∷ []

-- the bytes that have run then, behind the copy
abbrev ran-reversed : List ℕ
ran-reversed =
    bytes "(did 9 (inc 2 2 2 300))\n(did 11 (not 0 1 2 0)(inc 1 1 1 7))\n(did 14 (inc 2 3 3 5)(not 1 1 2 0))\n(did 15 (not 1 1 3 0))\n"
    ++ bytes "(did 12 (set 0 9 3 1000))\n"

-- The lines come in first order, a further cut takes line 11 off again, and then all come anew, with a changeover that is refused.
abbrev forward : List Call
forward =
    brings eleven ∷ Cut 100 65536 ∷ Changeover 3 65536
    ∷ brings eleven ∷ brings twelve ∷ brings again ∷ brings fourteen ∷ brings fifteen ∷ []

-- .. and then
abbrev ran-forward : List ℕ
ran-forward =
    bytes "(did 11 (not 0 1 2 0)(inc 1 1 1 7))\n(did 12 (set 0 9 3 1000))\n(did 9 (inc 2 2 2 300))\n(did 14 (inc 2 3 3 5)(not 1 1 2 0))\n"
    ++ bytes "(did 15 (not 1 1 3 0))\n"

-- What the rules compute of a list behind that cut that brings back all lines: history 2 is as it was before the cut.
abbrev Returns : List Call → List ℕ → Type 0
Returns ys text = Computed xs 90 (option.some base1) kept1 front 2 lost (Restarted 2 82) to_cut_lem every ys text [] 2 (Shown 2 3 1 1 3 11269)

computed_reversed : Returns reversed ran-reversed
computed_reversed =
    unfold replaced_with profile_of entered_with enter_with enter_all_with cell_from_with cell_with start_cell touches runs_at can_run_with check in
    unfold and_then in
    unfold wrong_count no_such_history history_twice update_misfits change_misfits_with form_refusal updates_refusal changes_refusal_with in
    unfold stables_from stables_at weave_from mark_from up_to_did reported ended lines_text log_text head_text lines_from rest_from histories_fit in
    unfold accepts_with rises follows live_in table_holds in_order base_fits read_lines read_second read_first read_log settle log_bytes version_at in
    unfold live_done live asks dry in
    unfold became_dry rose line_bytes bytes_of unless opened blocked_by blocked may_run_now ready attempt try_from made_ready never_now in
    unfold holds_never overtaken not_overtaken overtaken_ids nothing_orders id_pending id_done already_done read_overtaken at_highest table_full in
    unfold add_refusal arrived add change_of line_of values_after in_progress future without log_full finished finish_found finish persistent in
    unfold above_mark stable_full stable_refusal stabled stable restarted restart_as restart cut_above base_cut cut stale redo_refusal behind in
    unfold pick in
    unfold drain delivered redo_read redo end writable_update writable perform step run counted counted_after lost_by below word in
    unfold digits_within digits more number field_text fields_text items_text tail_text list_text change_text one_text site_text did_text in
    unfold stable_text line_text reading.field reading.done_rule reading.change reading.one reading.items reading.tail reading.did in
    unfold reading.line read_did read_line reading.base_cell reading.base read_base read_site read_whole in
    unfold open_full open_refusal open_site show withdraw_refusal withdraw comes_after came_from all_fine brings_chosen all_come same_bytes in
    unfold base_cell_at trimmed_base trimmed_lines trim_text trim_above trim_full trim_refusal changeover closing dids_text base_cell_text base_text in
    record { fine = tt; come = tt; log = refl; ends = refl; shows = refl }

computed_forward : Returns forward ran-forward
computed_forward =
    unfold replaced_with profile_of entered_with enter_with enter_all_with cell_from_with cell_with start_cell touches runs_at can_run_with check in
    unfold and_then in
    unfold wrong_count no_such_history history_twice update_misfits change_misfits_with form_refusal updates_refusal changes_refusal_with in
    unfold stables_from stables_at weave_from mark_from up_to_did reported ended lines_text log_text head_text lines_from rest_from histories_fit in
    unfold accepts_with rises follows live_in table_holds in_order base_fits read_lines read_second read_first read_log settle log_bytes version_at in
    unfold live_done live asks dry in
    unfold became_dry rose line_bytes bytes_of unless opened blocked_by blocked may_run_now ready attempt try_from made_ready never_now in
    unfold holds_never overtaken not_overtaken overtaken_ids nothing_orders id_pending id_done already_done read_overtaken at_highest table_full in
    unfold add_refusal arrived add change_of line_of values_after in_progress future without log_full finished finish_found finish persistent in
    unfold above_mark stable_full stable_refusal stabled stable restarted restart_as restart cut_above base_cut cut stale redo_refusal behind in
    unfold pick in
    unfold drain delivered redo_read redo end writable_update writable perform step run counted counted_after lost_by below word in
    unfold digits_within digits more number field_text fields_text items_text tail_text list_text change_text one_text site_text did_text in
    unfold stable_text line_text reading.field reading.done_rule reading.change reading.one reading.items reading.tail reading.did in
    unfold reading.line read_did read_line reading.base_cell reading.base read_base read_site read_whole in
    unfold open_full open_refusal open_site show withdraw_refusal withdraw comes_after came_from all_fine brings_chosen all_come same_bytes in
    unfold base_cell_at trimmed_base trimmed_lines trim_text trim_above trim_full trim_refusal changeover closing dids_text base_cell_text base_text in
    record { fine = tt; come = tt; log = refl; ends = refl; shows = refl }

-- (5) So the claim says of each history.
shown : (h : ℕ) → h < 3 → (c : Cell) × Shows (run xs start) h c × Shows (run (xs ++ Cut 90 65536 ∷ reversed) start) h c
shown h lt =
    (result xs 90 (option.some base1) kept1 front 2 lost (Restarted 2 82) to_cut_lem every reversed ran-reversed [] 2 (Shown 2 3 1 1 3 11269)
    computed_reversed).shows_first (λ d m. tt) h (subst (λ (n : ℕ). h < n) (sym to_cut_lem.histories) lt)

-- ### Two orders of delivery behind the same changeover and cut ((n))

delivery : (ys : List Call) (text : List ℕ) → Returns ys text → Delivery
delivery ys text C =
    record {
      counts = 0;
      site = start;
      start = started;
      calls = xs;
      kept = 90;
      room = 65536;
      further = ys;
      after = restarted 65536 3 (option.some base1) kept1;
      fair = fair xs 90 (option.some base1) kept1 front 2 lost (Restarted 2 82) to_cut_lem;
      asked =
          asked xs 90 (option.some base1) kept1 front 2 lost (Restarted 2 82) to_cut_lem every ys text [] 2 (Shown 2 3 1 1 3 11269) C;
    }

-- "It is to hold for logs trimmed before the cut": the final logs differ, and are rearrangements of each other and of the log before the
-- cut, in each history the same.
two_orders : AllThree (run xs start).log (run (xs ++ Cut 90 65536 ∷ reversed) start).log (run (xs ++ Cut 90 65536 ∷ forward) start).log
unfolding delivery
two_orders = orders (delivery reversed ran-reversed computed_reversed) (delivery forward ran-forward computed_forward) refl
