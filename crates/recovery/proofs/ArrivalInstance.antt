-- Request (n) applied: papers, each with two orders of delivery of all lost lines behind one picked cut, the logs that the rules compute,
-- and what the claim says of them. The first starts at a site just opened; the second at a restart from a trimmed log, with a changeover
-- among its calls, further cuts, repeats and refused calls.
use Rattle.std.specs.Prelude.{ℕ, T, leb, length, false, ◌&&◌, List, [], ◌∷◌, ◌++◌, ◌≡◌}
use Rattle.forms.specs.Decimal.{digits_within, digits, more, number}
use Rattle.forms.specs.Forms.{Did, did_line, stable_line, Restarted, field_text, fields_text, items_text, tail_text, list_text, change_text}
use Rattle.forms.specs.Forms.{one_text, site_text, did_text, stable_text, line_text, Base, base_cell_text, base_text, Answer, Opened}
use Rattle.forms.specs.Lists.{below}
use Rattle.forms.specs.Reading.{read_base, read_did, read_line, read_site, read_whole}
use Rattle.forms.specs.Words.{bytes, word}
use Rattle.forms.specs.declared.DoneRule.TheVariants.{DidInc, DidSet, DidNot}
use Rattle.forms.specs.declared.Rule.TheVariants.{Inc, Not}
use Rattle.recovery.specs.Arrival.{Delivery, AllThree, every}
use Rattle.recovery.proofs.ArrivalExamples.{five, six, seven}
use Rattle.recovery.proofs.ArrivalLaws.{orders}
use Rattle.recovery.proofs.Checking.{brings_chosen, all_fine, all_come, fair_of, asked_of}
use Rattle.recovery.specs.Claim.{counted, counted_after, lost_by, comes_after, came_from, Start, just_opened, just_restarted, came}
use Rattle.recovery.specs.Claim.{Asked}
use Rattle.recovery.proofs.Instance.{update, change}
use Rattle.recovery.proofs.Recovery.{start-good}
use Rattle.rules.specs.Book.{start_cell, touches, runs_at, can_run_with, cell_from_with, cell_with, enter_all_with, enter_with, entered_with}
use Rattle.rules.specs.Calls.{base_cut, Call, Add, Finish, Cut, End, unless, opened, blocked_by, blocked, may_run_now, ready, attempt}
use Rattle.rules.specs.Calls.{try_from, made_ready, never_now, holds_never, overtaken, not_overtaken, overtaken_ids, nothing_orders, id_pending}
use Rattle.rules.specs.Calls.{id_done, already_done, read_overtaken, at_highest, table_full, add_refusal, arrived, add, change_of, line_of}
use Rattle.rules.specs.Calls.{values_after, in_progress, future, without, log_full, finished, finish_found, finish, persistent, above_mark}
use Rattle.rules.specs.Calls.{stable_full, stable_refusal, stabled, stable, restarted, restart_as, restart, cut_above, cut, stale}
use Rattle.rules.specs.Calls.{redo_refusal, behind, pick, drain, delivered, redo_read, redo, end, writable_update, writable, perform, step}
use Rattle.rules.specs.Calls.{Changeover, changeover, open_full, open_refusal, open_site, show, withdraw_refusal, withdraw, Redo}
use Rattle.rules.specs.Checks.{check, and_then, wrong_count, no_such_history, history_twice, update_misfits, change_misfits_with, form_refusal}
use Rattle.rules.specs.Checks.{updates_refusal, changes_refusal_with}
use Rattle.rule_laws.specs.Good.{Good}
use Rattle.rule_laws.specs.GoodLaws.{good-run}
use Rattle.rules.specs.Keeper.{same_bytes}
use Rattle.rules.specs.Log.{read_second, base_fits, in_order, head_text, stables_from, stables_at, weave_from, mark_from, up_to_did, reported}
use Rattle.rules.specs.Log.{ended, lines_text, log_text, lines_from, rest_from, histories_fit, accepts_with, rises, follows, live_in}
use Rattle.rules.specs.Log.{table_holds, read_lines, read_first, read_log, closing, dids_text}
use Rattle.rules.specs.Rules.{profile_of, replaced_with}
use Rattle.rules.specs.Run.{run}
use Rattle.rules.specs.State.{ok, settle, log_bytes, version_at, live_done, live, asks, dry, became_dry, rose, line_bytes, bytes_of, State}
use Rattle.rules.specs.State.{lines_in}
use Rattle.rules.specs.Trim.{base_cell_at, trimmed_base, trimmed_lines, trim_text, trim_above, trim_full, trim_refusal}
use Rattle.std.proofs.Math.Path.{refl}
use Rattle.std.proofs.Common.{sym, subst}
use Rattle.forms.specs.Reading as reading
use Rattle.std.proofs.Math.Option as option

-- ### A paper, and two candidates

-- What is set: a list of calls up to the picked cut.
record Paper : Type 0 where
  counts : ℕ
  site : State
  start : Start counts site
  calls : List Call
  kept : ℕ
  room : ℕ

abbrev before : Paper → State
before P = run P.calls P.site

abbrev up_to : Paper → List Call → List Call
up_to P a = P.calls ++ Cut P.kept P.room ∷ a

-- What the rules compute of the cut: the site after it, the lost lines, and the did lines of the log before it.
record ToCut (P : Paper) (after : State) (lost log : List Did) : Type 0 where
  answer : Answer
  cuts : step (Cut P.kept P.room) (before P) ≡ ok after answer
  enough : T (leb (counted P.counts P.calls P.site) (length (lines_in after)) && leb (before P).room P.room)
  lost_are : lost_by (before P) after ≡ lost
  log_before : (before P).log ≡ log

-- What they compute of the calls behind it: they are as asked, all lost lines come, and the did lines of the final log.
record Delivers (P : Paper) (lost : List Did) (further : List Call) (log : List Did) : Type 0 where
  fine : T (all_fine lost every (counted P.counts (up_to P []) P.site) (run (up_to P []) P.site) further)
  come : T (all_come lost every (came (up_to P further) P.site))
  log_at_end : (run (up_to P further) P.site).log ≡ log

delivery : (P : Paper) (after : State) (lost log : List Did) → ToCut P after lost log →
    (further : List Call) (final : List Did) → Delivers P lost further final → Delivery
delivery P after lost log C further final D =
    record {
      counts = P.counts;
      site = P.site;
      start = P.start;
      calls = P.calls;
      kept = P.kept;
      room = P.room;
      further = further;
      after = after;
      fair =
          fair_of (counted P.counts P.calls P.site) P.kept P.room (before P) after C.answer
          (good-run P.calls P.site good) C.cuts C.enough;
      asked =
          subst (λ l. Asked P.counts P.site (up_to P) further l every) (sym C.lost_are)
          (asked_of lost every P.counts P.site good P.calls P.kept P.room further D.fine D.come);
    }
  where
    good : Good P.site
    good = start-good P.counts P.site P.start

-- What the claim says of two of them, over the logs that were computed.
said : (P : Paper) (after : State) (lost log : List Did) → ToCut P after lost log →
    (one other : List Call) (final final' : List Did) → Delivers P lost one final → Delivers P lost other final' →
    AllThree log final final'
unfolding delivery
said P after lost log C one other final final' D E =
    subst (λ l. AllThree l final final') C.log_before
    (subst (λ l. AllThree (before P).log l final') D.log_at_end
    (subst (λ l. AllThree (before P).log (run (up_to P one) P.site).log l) E.log_at_end
    (orders (delivery P after lost log C one final D) (delivery P after lost log C other final' E) refl)))

-- Two logs are not the same, byte for byte.
abbrev Differ : List Did → List Did → Type 0
Differ a b = same_bytes (dids_text a) (dids_text b) ≡ false

abbrev brings : Did → Call
brings d = Redo (did_text d)

-- ### From a site just opened

opened-at : open_site 2 200 ≡ ok (opened 2 200) Opened
unfolding unless open_full open_refusal opened open_site check histories_fit ended head_text site_text word digits digits_within one_text
opened-at = refl

-- Lines 5, 6 and 7 are done, and the cut keeps none of them.
abbrev paper : Paper
paper =
    record {
      counts = 0;
      site = opened 2 200;
      start = just_opened 2 200 (opened 2 200) Opened opened-at;
      calls =
          Add 5 (update Inc 0 1 7 ∷ []) ∷ Finish 5 ∷ Add 6 (update Inc 1 1 9 ∷ []) ∷ Finish 6
          ∷ Add 7 (update Not 0 1 0 ∷ update Not 1 1 0 ∷ []) ∷ Finish 7 ∷ [];
      kept = 20;
      room = 200;
    }

-- The first candidate sends 7, which waits, 6, and then 5.
abbrev one : List Call
one = brings seven ∷ brings six ∷ brings five ∷ []

-- The second sends 5, loses it again by a further cut, and sends all in first order, 5 twice.
abbrev other : List Call
other = brings five ∷ Cut 25 200 ∷ brings five ∷ brings six ∷ brings five ∷ brings seven ∷ []

record Computed : Type 0 where
  to_cut_lem : ToCut paper (restarted 200 2 option.none []) (five ∷ six ∷ seven ∷ []) (five ∷ six ∷ seven ∷ [])
  first : Delivers paper (five ∷ six ∷ seven ∷ []) one (six ∷ five ∷ seven ∷ [])
  second : Delivers paper (five ∷ six ∷ seven ∷ []) other (five ∷ six ∷ seven ∷ [])
  differ : Differ (six ∷ five ∷ seven ∷ []) (five ∷ six ∷ seven ∷ [])

computed : Computed
computed =
    unfold replaced_with profile_of entered_with enter_with enter_all_with cell_from_with cell_with start_cell touches runs_at can_run_with check in
    unfold and_then in
    unfold wrong_count no_such_history history_twice update_misfits change_misfits_with form_refusal updates_refusal changes_refusal_with in
    unfold stables_from stables_at weave_from mark_from up_to_did reported ended lines_text log_text head_text lines_from rest_from histories_fit in
    unfold accepts_with rises follows live_in table_holds in_order base_fits read_lines read_second read_first read_log settle log_bytes version_at in
    unfold live_done live asks dry in
    unfold became_dry rose line_bytes bytes_of unless opened blocked_by blocked may_run_now ready attempt try_from made_ready never_now in
    unfold holds_never overtaken not_overtaken overtaken_ids nothing_orders id_pending id_done already_done read_overtaken at_highest table_full in
    unfold add_refusal arrived add change_of line_of values_after in_progress future without log_full finished finish_found finish persistent in
    unfold above_mark stable_full stable_refusal stabled stable restarted restart_as restart cut_above base_cut cut stale redo_refusal behind in
    unfold pick in
    unfold drain delivered redo_read redo end writable_update writable perform step run counted counted_after lost_by below word in
    unfold digits_within digits more number field_text fields_text items_text tail_text list_text change_text one_text site_text did_text in
    unfold stable_text line_text reading.field reading.done_rule reading.change reading.one reading.items reading.tail reading.did in
    unfold reading.line read_did read_line reading.base_cell reading.base read_base read_site read_whole in
    unfold open_full open_refusal open_site show withdraw_refusal withdraw comes_after came_from all_fine brings_chosen all_come same_bytes in
    unfold base_cell_at trimmed_base trimmed_lines trim_text trim_above trim_full trim_refusal changeover closing dids_text base_cell_text base_text in
    record {
      to_cut_lem = record { answer = Restarted 0 9; cuts = refl; enough = tt; lost_are = refl; log_before = refl };
      first = record { fine = tt; come = tt; log_at_end = refl };
      second = record { fine = tt; come = tt; log_at_end = refl };
      differ = refl;
    }

-- The logs differ: in one line 6 stands before line 5. They are rearrangements of each other and of the log before the cut, and line 7,
-- which shares a history with each, is last in all three.
two_orders : AllThree (five ∷ six ∷ seven ∷ []) (six ∷ five ∷ seven ∷ []) (five ∷ six ∷ seven ∷ [])
two_orders =
    said paper (restarted 200 2 option.none []) (five ∷ six ∷ seven ∷ []) (five ∷ six ∷ seven ∷ []) computed.to_cut_lem one other
    (six ∷ five ∷ seven ∷ []) (five ∷ six ∷ seven ∷ []) computed.first computed.second

-- ### From a trimmed log

-- Three operations stand in its base line; line 8 behind it is stable. The buffer has 200 bytes more.
abbrev stored : List ℕ
stored = bytes "(site 2)\n(base 3 (0 1 2 7)(1 1 2 9))\n(did 8 (set 1 4 3 1000))\n(stable 4)\n" ++ below 200

-- (did 8 (set 1 4 3 1000))
abbrev eight : Did
eight = record { id = 8; changes = change DidSet 1 4 3 1000 ∷ [] }

-- (base 3 (0 1 2 7)(1 1 2 9))
abbrev base3 : Base
base3 =
    record {
      up_to = 3;
      cells =
          record { history = 0; version = 1; place = 2; profile = 7 }
          ∷ record { history = 1; version = 1; place = 2; profile = 9 } ∷ [];
    }

-- (base 4 (0 1 2 7)(1 4 3 1000)): of the changeover
abbrev base4 : Base
base4 =
    record {
      up_to = 4;
      cells =
          record { history = 0; version = 1; place = 2; profile = 7 }
          ∷ record { history = 1; version = 4; place = 3; profile = 1000 } ∷ [];
    }

-- the site that a restart from its 73 bytes gives
abbrev trimmed_start : State
trimmed_start = restarted 273 2 (option.some base3) (did_line eight ∷ stable_line 4 ∷ [])

-- (did 5 (inc 0 2 3 8)), (did 6 (inc 1 5 4 10)), (did 7 (not 0 2 4 0)(not 1 5 5 0)): the ids of lines in the base line again
abbrev five' : Did
five' = record { id = 5; changes = change DidInc 0 2 3 8 ∷ [] }

abbrev six' : Did
six' = record { id = 6; changes = change DidInc 1 5 4 10 ∷ [] }

abbrev seven' : Did
seven' = record { id = 7; changes = change DidNot 0 2 4 0 ∷ change DidNot 1 5 5 0 ∷ [] }

restarted-at : restart stored 73 ≡ ok trimmed_start (Restarted 4 73)
restarted-at =
    unfold replaced_with profile_of entered_with enter_with enter_all_with cell_from_with cell_with start_cell touches runs_at can_run_with check in
    unfold and_then in
    unfold wrong_count no_such_history history_twice update_misfits change_misfits_with form_refusal updates_refusal changes_refusal_with in
    unfold stables_from stables_at weave_from mark_from up_to_did reported ended lines_text log_text head_text lines_from rest_from histories_fit in
    unfold accepts_with rises follows live_in table_holds in_order base_fits read_lines read_second read_first read_log settle log_bytes version_at in
    unfold live_done live asks dry in
    unfold became_dry rose line_bytes bytes_of unless opened blocked_by blocked may_run_now ready attempt try_from made_ready never_now in
    unfold holds_never overtaken not_overtaken overtaken_ids nothing_orders id_pending id_done already_done read_overtaken at_highest table_full in
    unfold add_refusal arrived add change_of line_of values_after in_progress future without log_full finished finish_found finish persistent in
    unfold above_mark stable_full stable_refusal stabled stable restarted restart_as restart cut_above base_cut cut stale redo_refusal behind in
    unfold pick in
    unfold drain delivered redo_read redo end writable_update writable perform step run counted counted_after lost_by below word in
    unfold digits_within digits more number field_text fields_text items_text tail_text list_text change_text one_text site_text did_text in
    unfold stable_text line_text reading.field reading.done_rule reading.change reading.one reading.items reading.tail reading.did in
    unfold reading.line read_did read_line reading.base_cell reading.base read_base read_site read_whole in
    unfold open_full open_refusal open_site show withdraw_refusal withdraw comes_after came_from all_fine brings_chosen all_come same_bytes in
    unfold base_cell_at trimmed_base trimmed_lines trim_text trim_above trim_full trim_refusal changeover closing dids_text base_cell_text base_text in
    refl

-- A changeover to a copy with all four operations in its base line; lines 5, 6 and 7 behind it, and a cut that keeps none of them.
abbrev trimmed_paper : Paper
trimmed_paper =
    record {
      counts = length (lines_in trimmed_start);
      site = trimmed_start;
      start = just_restarted stored 73 trimmed_start (Restarted 4 73) restarted-at;
      calls =
          End ∷ Changeover 4 200 ∷ End ∷ Add 5 (update Inc 0 2 8 ∷ []) ∷ Finish 5 ∷ Add 6 (update Inc 1 5 10 ∷ []) ∷ Finish 6
          ∷ Add 7 (update Not 0 2 0 ∷ update Not 1 5 0 ∷ []) ∷ Finish 7 ∷ [];
      kept = 50;
      room = 200;
    }

-- First order, with an add between, which is refused.
abbrev one' : List Call
one' = brings five' ∷ Add 9 (update Inc 0 3 1 ∷ []) ∷ brings six' ∷ brings seven' ∷ []

-- A further cut takes line 5 off again; then 7 comes, twice, 6, and 5 last.
abbrev other' : List Call
other' = brings five' ∷ Cut 55 200 ∷ brings seven' ∷ brings seven' ∷ brings six' ∷ brings five' ∷ []

record Computed' : Type 0 where
  to_cut_lem : ToCut trimmed_paper (restarted 200 2 (option.some base4) []) (five' ∷ six' ∷ seven' ∷ []) (five' ∷ six' ∷ seven' ∷ [])
  first : Delivers trimmed_paper (five' ∷ six' ∷ seven' ∷ []) one' (five' ∷ six' ∷ seven' ∷ [])
  second : Delivers trimmed_paper (five' ∷ six' ∷ seven' ∷ []) other' (six' ∷ five' ∷ seven' ∷ [])
  differ : Differ (five' ∷ six' ∷ seven' ∷ []) (six' ∷ five' ∷ seven' ∷ [])

computed' : Computed'
computed' =
    unfold replaced_with profile_of entered_with enter_with enter_all_with cell_from_with cell_with start_cell touches runs_at can_run_with check in
    unfold and_then in
    unfold wrong_count no_such_history history_twice update_misfits change_misfits_with form_refusal updates_refusal changes_refusal_with in
    unfold stables_from stables_at weave_from mark_from up_to_did reported ended lines_text log_text head_text lines_from rest_from histories_fit in
    unfold accepts_with rises follows live_in table_holds in_order base_fits read_lines read_second read_first read_log settle log_bytes version_at in
    unfold live_done live asks dry in
    unfold became_dry rose line_bytes bytes_of unless opened blocked_by blocked may_run_now ready attempt try_from made_ready never_now in
    unfold holds_never overtaken not_overtaken overtaken_ids nothing_orders id_pending id_done already_done read_overtaken at_highest table_full in
    unfold add_refusal arrived add change_of line_of values_after in_progress future without log_full finished finish_found finish persistent in
    unfold above_mark stable_full stable_refusal stabled stable restarted restart_as restart cut_above base_cut cut stale redo_refusal behind in
    unfold pick in
    unfold drain delivered redo_read redo end writable_update writable perform step run counted counted_after lost_by below word in
    unfold digits_within digits more number field_text fields_text items_text tail_text list_text change_text one_text site_text did_text in
    unfold stable_text line_text reading.field reading.done_rule reading.change reading.one reading.items reading.tail reading.did in
    unfold reading.line read_did read_line reading.base_cell reading.base read_base read_site read_whole in
    unfold open_full open_refusal open_site show withdraw_refusal withdraw comes_after came_from all_fine brings_chosen all_come same_bytes in
    unfold base_cell_at trimmed_base trimmed_lines trim_text trim_above trim_full trim_refusal changeover closing dids_text base_cell_text base_text in
    record {
      to_cut_lem = record { answer = Restarted 4 40; cuts = refl; enough = tt; lost_are = refl; log_before = refl };
      first = record { fine = tt; come = tt; log_at_end = refl };
      second = record { fine = tt; come = tt; log_at_end = refl };
      differ = refl;
    }

-- "It is to hold for logs trimmed before the cut .. and with further cuts between."
two_orders' : AllThree (five' ∷ six' ∷ seven' ∷ []) (five' ∷ six' ∷ seven' ∷ []) (six' ∷ five' ∷ seven' ∷ [])
two_orders' =
    said trimmed_paper (restarted 200 2 (option.some base4) []) (five' ∷ six' ∷ seven' ∷ []) (five' ∷ six' ∷ seven' ∷ []) computed'.to_cut_lem
    one' other' (five' ∷ six' ∷ seven' ∷ []) (six' ∷ five' ∷ seven' ∷ []) computed'.first computed'.second
