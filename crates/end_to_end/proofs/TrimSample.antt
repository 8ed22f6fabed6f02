-- The claim of the site's calls is not empty for logs that were trimmed twice ((h)): two changeovers before the picked cut, each to a copy
-- with lines behind its base line, the second of a log with a base line; a changeover below the own base between them is refused.
use Rattle.std.specs.Prelude.{List, [], ◌∷◌, ◌++◌, ℕ, ◌≡◌, length}
use Rattle.forms.specs.Lists.{below}
use Rattle.forms.specs.Words.{bytes, word}
use Rattle.forms.specs.Decimal.{digits_within, digits, more, number}
use Rattle.forms.specs.Forms.{Did, Line, did_line, stable_line, Restarted, field_text, fields_text, items_text, tail_text, list_text, change_text}
use Rattle.forms.specs.Forms.{one_text, site_text, did_text, stable_text, line_text, Base, base_cell_text, base_text, Opened, Shown}
use Rattle.forms.specs.Reading as reading
use Rattle.forms.specs.Reading.{read_base, read_did, read_line, read_site, read_whole}
use Rattle.forms.specs.declared.Rule.TheVariants.{Inc, Set, Not}
use Rattle.rules.specs.Rules.{profile_of, replaced_with}
use Rattle.rules.specs.Book.{start_cell, touches, runs_at, can_run_with, cell_from_with, cell_with, enter_all_with, enter_with, entered_with}
use Rattle.rules.specs.Checks.{check, and_then, wrong_count, no_such_history, history_twice, update_misfits, change_misfits_with, form_refusal}
use Rattle.rules.specs.Checks.{updates_refusal, changes_refusal_with}
use Rattle.rules.specs.Log.{read_second, base_fits, in_order, head_text, stables_from, stables_at, weave_from, mark_from, up_to_did, reported, ended}
use Rattle.rules.specs.Log.{lines_text, log_text, lines_from, rest_from, histories_fit, accepts_with, rises, follows, live_in, table_holds}
use Rattle.rules.specs.Log.{read_lines, read_first, read_log, closing, dids_text}
use Rattle.rules.specs.State.{ok, settle, log_bytes, version_at, live_done, live, asks, dry, became_dry, rose, line_bytes, bytes_of}
use Rattle.rules.specs.Calls.{base_cut, Call, Add, Finish, Persistent, Stable, Cut, End, unless, opened, blocked_by, blocked, may_run_now}
use Rattle.rules.specs.Calls.{ready, attempt, try_from, made_ready, never_now, holds_never, overtaken, not_overtaken, overtaken_ids}
use Rattle.rules.specs.Calls.{nothing_orders, id_pending, id_done, already_done, read_overtaken, at_highest, table_full, add_refusal, arrived, add}
use Rattle.rules.specs.Calls.{change_of, line_of, values_after, in_progress, future, without, log_full, finished, finish_found, finish}
use Rattle.rules.specs.Calls.{persistent, above_mark, stable_full, stable_refusal, stabled, stable, restarted, restart_as, restart, cut_above}
use Rattle.rules.specs.Calls.{cut, stale, redo_refusal, behind, pick, drain, delivered, redo_read, redo, end, writable_update, writable}
use Rattle.rules.specs.Calls.{perform, step, Changeover, changeover, open_full, open_refusal, open_site, show, withdraw_refusal, withdraw}
use Rattle.rules.specs.Run.{run}
use Rattle.recovery.specs.Claim.{counted, counted_after, lost_by, comes_after, came_from, came}
use Rattle.std.proofs.Math.Option as option
use Rattle.std.proofs.Math.Path.{refl}
use Rattle.std.proofs.Common.{◌∙◌}
use Rattle.rules.specs.Trim.{base_cell_at, trimmed_base, trimmed_lines, trim_text, trim_above, trim_full, trim_refusal}
use Rattle.rules.specs.Keeper.{same_bytes}
use Rattle.recovery.proofs.Checking.{brings_chosen, all_fine, all_come}
use Rattle.recovery.proofs.Instance.{update, eleven, twelve, fourteen, fifteen, again, start, every, brings, ToCut, fair, Computed, asked}
use Rattle.site.specs.declared.CallResult.{CallResult}
use Rattle.site.specs.OpenLaws.{blank_site}
use Rattle.site.specs.Model.{Lent, Opens}
use Rattle.end_to_end.specs.SiteCalls.{Memory, memory, state_in, log_in, Transition, Execution, RecoveredIn}
use Rattle.end_to_end.proofs.PageLaws.{site_opens}
use Rattle.end_to_end.proofs.SiteInstance.{Instance, by_calls}

-- "(base 2 (0 1 1 65536)(1 0 0 0)(2 1 1 0))": lines 9 and 10 stand in it
abbrev base2 : Base
base2 =
    record {
      up_to = 2;
      cells =
          record { history = 0; version = 1; place = 1; profile = 65536 } ∷ record { history = 1; version = 0; place = 0; profile = 0 }
          ∷ record { history = 2; version = 1; place = 1; profile = 0 } ∷ [];
    }

-- the lines of the second copy
abbrev kept2 : List Line
kept2 = did_line eleven ∷ stable_line 3 ∷ []

-- Lines 9 and 10 are stable; the first changeover leaves line 10 behind its base line, the third line 11 behind that of both. The second
-- is below the own base.
abbrev xs : List Call
xs =
    Add 9 (update Inc 2 1 256 ∷ []) ∷ Finish 9 ∷ Add 10 (update Inc 0 1 513 ∷ []) ∷ Finish 10 ∷ Persistent 2 ∷ Stable 2
    ∷ Changeover 1 65536 ∷ End ∷ Changeover 0 65536
    ∷ Add 11 (update Not 0 1 0 ∷ update Inc 1 1 7 ∷ []) ∷ Finish 11 ∷ Persistent 3 ∷ Stable 3
    ∷ Changeover 2 65536 ∷ End
    ∷ Add 12 (update Set 0 9 1000 ∷ []) ∷ Finish 12 ∷ Add 9 (update Inc 2 2 300 ∷ []) ∷ Finish 9
    ∷ Add 14 (update Inc 2 3 5 ∷ update Not 1 1 0 ∷ []) ∷ Finish 14 ∷ Add 15 (update Not 1 1 0 ∷ []) ∷ Finish 15 ∷ []

-- what the picked cut loses
abbrev lost : List Did
lost = twelve ∷ again ∷ fourteen ∷ fifteen ∷ []

-- The lines come back in the reverse order.
abbrev ys : List Call
ys = brings fifteen ∷ brings fourteen ∷ brings again ∷ brings twelve ∷ []

-- The picked cut keeps 105 bytes: the second copy, of 97 bytes, and a torn part of line 12.
abbrev pub front : List ℕ
front = bytes "(site 3)\n(base 2 (0 1 1 65536)(1 0 0 0)(2 1 1 0))\n(did 11 (not 0 1 2 0)(inc 1 1 1 7))\n(stable 3)\n"

-- the bytes behind it just before the cut, and at the end
abbrev pub ran_first : List ℕ
ran_first =
    bytes "(did 12 (set 0 9 3 1000))\n(did 9 (inc 2 2 2 300))\n(did 14 (inc 2 3 3 5)(not 1 1 2 0))\n(did 15 (not 1 1 3 0))\n"

abbrev pub ran_again : List ℕ
ran_again =
    bytes "(did 9 (inc 2 2 2 300))\n(did 14 (inc 2 3 3 5)(not 1 1 2 0))\n(did 15 (not 1 1 3 0))\n(did 12 (set 0 9 3 1000))\n"

-- What the rules compute up to the cut, the log then held, and what they compute at the end: history 2 is as it was before the cut.
record Trimmed : Type 0 where
  to_cut_lem : ToCut xs 105 (option.some base2) kept2 front 2 lost (Restarted 3 97)
  log : log_bytes (run xs start) ≡ front ++ ran_first

trimmed : Trimmed
trimmed =
    unfold replaced_with profile_of entered_with enter_with enter_all_with cell_from_with cell_with start_cell touches runs_at can_run_with check in
    unfold and_then in
    unfold wrong_count no_such_history history_twice update_misfits change_misfits_with form_refusal updates_refusal changes_refusal_with in
    unfold stables_from stables_at weave_from mark_from up_to_did reported ended lines_text log_text head_text lines_from rest_from histories_fit in
    unfold accepts_with rises follows live_in table_holds in_order base_fits read_lines read_second read_first read_log settle log_bytes version_at in
    unfold live_done live asks dry in
    unfold became_dry rose line_bytes bytes_of unless opened blocked_by blocked may_run_now ready attempt try_from made_ready never_now in
    unfold holds_never overtaken not_overtaken overtaken_ids nothing_orders id_pending id_done already_done read_overtaken at_highest table_full in
    unfold add_refusal arrived add change_of line_of values_after in_progress future without log_full finished finish_found finish persistent in
    unfold above_mark stable_full stable_refusal stabled stable restarted restart_as restart cut_above base_cut cut stale redo_refusal behind in
    unfold pick in
    unfold drain delivered redo_read redo end writable_update writable perform step run counted counted_after lost_by below word in
    unfold digits_within digits more number field_text fields_text items_text tail_text list_text change_text one_text site_text did_text in
    unfold stable_text line_text reading.field reading.done_rule reading.change reading.one reading.items reading.tail reading.did in
    unfold reading.line read_did read_line reading.base_cell reading.base read_base read_site read_whole in
    unfold open_full open_refusal open_site show withdraw_refusal withdraw comes_after came_from all_fine brings_chosen all_come same_bytes in
    unfold base_cell_at trimmed_base trimmed_lines trim_text trim_above trim_full trim_refusal changeover closing dids_text base_cell_text base_text in
    record {
      to_cut_lem = record { cuts = refl; keeps = refl; enough = tt; wide = refl; histories = refl; kept_text = refl; lost_is = refl };
      log = refl;
    }

computed : Computed xs 105 (option.some base2) kept2 front 2 lost (Restarted 3 97) trimmed.to_cut_lem every ys ran_again [] 2
    (Shown 2 3 1 1 3 11269)
computed =
    unfold replaced_with profile_of entered_with enter_with enter_all_with cell_from_with cell_with start_cell touches runs_at can_run_with check in
    unfold and_then in
    unfold wrong_count no_such_history history_twice update_misfits change_misfits_with form_refusal updates_refusal changes_refusal_with in
    unfold stables_from stables_at weave_from mark_from up_to_did reported ended lines_text log_text head_text lines_from rest_from histories_fit in
    unfold accepts_with rises follows live_in table_holds in_order base_fits read_lines read_second read_first read_log settle log_bytes version_at in
    unfold live_done live asks dry in
    unfold became_dry rose line_bytes bytes_of unless opened blocked_by blocked may_run_now ready attempt try_from made_ready never_now in
    unfold holds_never overtaken not_overtaken overtaken_ids nothing_orders id_pending id_done already_done read_overtaken at_highest table_full in
    unfold add_refusal arrived add change_of line_of values_after in_progress future without log_full finished finish_found finish persistent in
    unfold above_mark stable_full stable_refusal stabled stable restarted restart_as restart cut_above base_cut cut stale redo_refusal behind in
    unfold pick in
    unfold drain delivered redo_read redo end writable_update writable perform step run counted counted_after lost_by below word in
    unfold digits_within digits more number field_text fields_text items_text tail_text list_text change_text one_text site_text did_text in
    unfold stable_text line_text reading.field reading.done_rule reading.change reading.one reading.items reading.tail reading.did in
    unfold reading.line read_did read_line reading.base_cell reading.base read_base read_site read_whole in
    unfold open_full open_refusal open_site show withdraw_refusal withdraw comes_after came_from all_fine brings_chosen all_come same_bytes in
    unfold base_cell_at trimmed_base trimmed_lines trim_text trim_above trim_full trim_refusal changeover closing dids_text base_cell_text base_text in
    record { fine = tt; come = tt; log = refl; ends = refl; shows = refl }

opens : open_site 3 65536 ≡ ok start Opened
unfolding histories_fit
opens = site_opens 3 tt

-- the calls, with every lost line chosen
abbrev sampled : Instance 3 65536
sampled =
    record {
      site = start;
      opened = opens;
      earlier = xs;
      kept = 105;
      later = ys;
      picked = restarted 65536 3 (option.some base2) kept2;
      chosen = every;
      fair = fair xs 105 (option.some base2) kept2 front 2 lost (Restarted 3 97) trimmed.to_cut_lem;
      asked =
          asked xs 105 (option.some base2) kept2 front 2 lost (Restarted 3 97) trimmed.to_cut_lem every ys ran_again [] 2
          (Shown 2 3 1 1 3 11269) computed;
    }

-- Whatever the site does with these calls by its contracts, each changeover by `trim` into a fresh buffer of 65,536 bytes and a restart
-- from its copy: the claim of its calls, and the bytes of its log just before the cut and at the end, behind the base line of the second
-- copy.
pub trimmed_sample : (lends : Lent) (size : length lends.log ≡ 65536) (r : CallResult) (new : Lent) →
    Opens blank_site lends (open_site 3 (length lends.log)) r new →
    (before after final : Memory) → Execution (memory r.site new) xs before → Transition before (Cut 105 65536) after →
    Execution after ys final →
    RecoveredIn before after (lost_by (state_in before) (state_in after)) every
    (came (xs ++ Cut 105 65536 ∷ ys) (state_in (memory r.site new))) final
    × (log_in before ≡ front ++ ran_first) × (log_in final ≡ front ++ ran_again)
trimmed_sample lends size r new opening before after final first cut rest =
    let z = by_calls 3 65536 sampled lends size r new opening before after final first cut rest in
    (z.0, z.1 ∙ trimmed.log, z.2 ∙ computed.log)
