-- The recovery claim is not empty: lists of calls that do what it asks, and what it says of them beside what the rules compute.
use Rattle.std.specs.Prelude.{◌≡◌, refl, Bool, true, false, not, List, [], ◌∷◌, ◌++◌, ℕ, ◌<◌, T, eqb, leb, length}
use Rattle.std.proofs.Common.{sym, ap, ◌∙◌, subst, lit≤}
use Rattle.std.proofs.Math.Option.{Option, none}
use Rattle.std.proofs.lemmas.List.{append_cancel_left}
use mathlib.Core.List.Memᴰ.{head as here}
use mathlib.Core.List.Memᴰ.{tail as there}
use Rattle.forms.specs.ListLaws.{and_intro}
use Rattle.forms.specs.Lists.{below}
use Rattle.forms.specs.Words.{bytes, word}
use Rattle.forms.specs.Decimal.{digits_within, digits, more, number}
use Rattle.forms.specs.Forms.{Base, Update, Change, Did, Answer, Opened, Restarted, Shown, Ended, field_text, fields_text, items_text}
use Rattle.forms.specs.Forms.{tail_text, list_text, change_text, one_text, site_text, did_text, stable_text, line_text, Line, did_line, stable_line}
use Rattle.forms.specs.Reading as reading
use Rattle.forms.specs.Reading.{read_base, read_did, read_line, read_site, read_whole}
use Rattle.forms.specs.declared.Rule.{Rule}
use Rattle.forms.specs.declared.Rule.TheVariants.{Inc, Set, Not}
use Rattle.forms.specs.declared.DoneRule.{DoneRule}
use Rattle.forms.specs.declared.DoneRule.TheVariants.{DidInc, DidSet, DidNot}
use Rattle.rules.specs.Book.{start_cell, Cell, cell, touches, runs_at}
use Rattle.rules.specs.Checks.{check, and_then, wrong_count, no_such_history, history_twice, update_misfits, form_refusal, updates_refusal}
use Rattle.rules.specs.Log.{read_second, base_fits, in_order, head_text, ended, dids_text, log_text, lines_from, rest_from, histories_fit}
use Rattle.rules.specs.Log.{stables_from, stables_at, weave_from, mark_from, up_to_did, reported, lines_text, rises, follows, live_in, table_holds}
use Rattle.rules.specs.State.{start_of, State, ok, with_waiting, with_restoring, log_bytes, version_at, live_done, live, asks, dry, became_dry}
use Rattle.rules.specs.State.{rose, line_bytes, settle, lines_in, bytes_of}
use Rattle.rules.specs.Calls.{base_cut, Call, Add, Finish, Persistent, Stable, Show, Cut, Redo, End, unless, open_full, open_refusal, opened}
use Rattle.rules.specs.Calls.{open_site, blocked_by, blocked, may_run_now, ready, attempt, try_from, made_ready, never_now, holds_never, overtaken}
use Rattle.rules.specs.Calls.{not_overtaken, overtaken_ids, nothing_orders, id_pending, id_done, already_done, read_overtaken, at_highest}
use Rattle.rules.specs.Calls.{table_full, add_refusal, arrived, add, change_of, line_of, values_after, in_progress, future, without, log_full}
use Rattle.rules.specs.Calls.{finished, finish_found, finish, withdraw_refusal, withdraw, persistent, stable, show, restarted, restart_as}
use Rattle.rules.specs.Calls.{restart, cut_above, cut, stale, redo_refusal, behind, pick, drain, delivered, redo_read, redo, end}
use Rattle.rules.specs.Calls.{writable_update, writable, perform, step, above_mark, stable_full, stable_refusal, stabled}
use Rattle.rule_laws.specs.Good.{Good, did_ids}
use Rattle.rules.specs.Keeper.{same_bytes}
use Rattle.rules.specs.Run.{run}
use Rattle.rule_laws.specs.GoodLaws.{good_open, good-run}
use Rattle.recovery.specs.Claim.{none, Start, just_opened, direct, further, Closed, HasRun, counted, counted_after, comes_after}
use Rattle.recovery.specs.Claim.{came_from, came, lost_by, shares, beside, Fair, Asked, Shows, Recovered}
use Rattle.recovery.proofs.Ending.{closed}
use Rattle.recovery.proofs.Recovery.{recovery, fed_is}
use Rattle.recovery.specs.Arrival.{Delivery, AllThree}
use Rattle.recovery.proofs.ArrivalLaws.{orders}
use Rattle.recovery.proofs.Checking.{brings_chosen, all_fine, all_come, fair_of, asked_of}
use Rattle.rules.specs.Rules.{profile_of, replaced_with}
use Rattle.rules.specs.Book.{can_run_with, cell_from_with, cell_with, enter_all_with, enter_with, entered_with}
use Rattle.rules.specs.Checks.{change_misfits_with, changes_refusal_with}
use Rattle.rules.specs.Log.{accepts_with, read_first, read_lines, read_log}

-- ### The first log: seven did lines in a site of three histories

abbrev pub update : Rule → ℕ → ℕ → ℕ → Update
update r h u o = record { rule = r; history = h; version = u; operand = o }

abbrev pub change : DoneRule → ℕ → ℕ → ℕ → ℕ → Change
change r h v p o = record { rule = r; history = h; version = v; place = p; operand = o }

-- (did 9 (inc 2 1 1 256)), made persistent
abbrev pub nine : Did
nine = record { id = 9; changes = change DidInc 2 1 1 256 ∷ [] }

-- (did 10 (inc 0 1 1 513))
abbrev pub ten : Did
ten = record { id = 10; changes = change DidInc 0 1 1 513 ∷ [] }

-- (did 11 (not 0 1 2 0)(inc 1 1 1 7)): reads history 0
abbrev pub eleven : Did
eleven = record { id = 11; changes = change DidNot 0 1 2 0 ∷ change DidInc 1 1 1 7 ∷ [] }

-- (did 12 (set 0 9 3 1000)): by its version alone it could overtake the reader
abbrev pub twelve : Did
twelve = record { id = 12; changes = change DidSet 0 9 3 1000 ∷ [] }

-- (did 13 (inc 2 2 2 300))
abbrev thirteen : Did
thirteen = record { id = 13; changes = change DidInc 2 2 2 300 ∷ [] }

-- (did 14 (inc 2 3 3 5)(not 1 1 2 0)): traced back to 13 and 11
abbrev pub fourteen : Did
fourteen = record { id = 14; changes = change DidInc 2 3 3 5 ∷ change DidNot 1 1 2 0 ∷ [] }

-- (did 15 (not 1 1 3 0)): traced back to 14, `not` beside `not`
abbrev pub fifteen : Did
fifteen = record { id = 15; changes = change DidNot 1 1 3 0 ∷ [] }

abbrev pub start : State
start = opened 3 65536

opens : open_site 3 65536 ≡ ok start Opened
unfolding replaced_with profile_of run entered_with enter_with enter_all_with cell_from_with cell_with start_cell touches runs_at can_run_with unless
    open_full open_refusal opened open_site blocked_by blocked may_run_now ready attempt try_from made_ready never_now holds_never overtaken
    not_overtaken overtaken_ids nothing_orders id_pending id_done already_done read_overtaken at_highest table_full add_refusal arrived add change_of
    line_of values_after in_progress future without log_full finished finish_found finish withdraw_refusal withdraw persistent above_mark
    stable_full stable_refusal stabled stable show restarted restart_as restart cut_above base_cut cut stale redo_refusal behind pick drain
    delivered redo_read redo end writable_update writable perform step check and_then wrong_count no_such_history history_twice update_misfits
    change_misfits_with form_refusal updates_refusal changes_refusal_with stables_from stables_at weave_from mark_from up_to_did reported ended dids_text
    lines_text log_text head_text lines_from rest_from histories_fit accepts_with rises follows live_in table_holds in_order base_fits read_lines
    read_second read_first read_log log_bytes version_at live_done live asks dry became_dry rose line_bytes bytes_of settle below digits_within digits
    more number word field_text fields_text items_text tail_text list_text change_text one_text site_text did_text stable_text line_text reading.field
    reading.done_rule reading.change reading.one reading.did reading.items reading.tail reading.line read_whole read_did read_line
    reading.base_cell reading.base read_base read_site counted counted_after
opens = refl

pub started : Start 0 start
started = just_opened 3 65536 start Opened opens

start-good : Good start
start-good = good_open 3 65536 start Opened opens

same-ids : (a b : State) (i j : List ℕ) → ok a (Ended i) ≡ ok b (Ended j) → i ≡ j
same-ids a b i j e = cc

-- ### A picked cut, and a list of calls behind it

-- The calls xs, a cut of k bytes, the base line of the log then held, the lines that the cut keeps with their bytes, how many lines were
-- counted persistent, and the lost did lines.
module _ (xs : List Call) (k : ℕ) (base : Option Base) (kept : List Line) (front : List ℕ) (count : ℕ) (lost : List Did) where
  abbrev pub before : State
  before = run xs start

  abbrev pub picked : State
  picked = restarted 65536 3 base kept

  -- What the rules compute up to the picked cut.
  pub record ToCut (answer : Answer) : Type 0 where
    pub cuts : step (Cut k 65536) before ≡ ok picked answer
    pub keeps : counted 0 xs start ≡ count
    pub enough : T (leb count (length (lines_in picked)))
    pub wide : before.room ≡ 65536
    pub histories : before.histories ≡ 3
    pub kept_text : log_text before.histories picked.base (lines_in picked) ≡ front
    pub lost_is : lost_by before picked ≡ lost

  module _ (answer : Answer) (to_cut_lem : ToCut answer) where
    pub fair : Fair (counted 0 xs start) k 65536 before picked
    fair =
        fair_of (counted 0 xs start) k 65536 before picked answer (good-run xs start start-good) to_cut_lem.cuts
        (rw (to_cut_lem.keeps, to_cut_lem.wide) (and_intro (leb count (length (lines_in picked))) true to_cut_lem.enough tt))

    module _ (chosen : Did → Bool) (ys : List Call) where
      abbrev pub calls : List Call
      calls = xs ++ Cut k 65536 ∷ ys

      abbrev pub final : State
      final = run calls start

      -- What the rules compute: what is asked of ys holds; the bytes behind the kept lines, what `end` names, and what `show` gives of
      -- history h.
      pub record Computed (text : List ℕ) (ids : List ℕ) (h : ℕ) (shown : Answer) : Type 0 where
        pub fine : T (all_fine lost chosen (counted 0 (xs ++ Cut k 65536 ∷ []) start) (run (xs ++ Cut k 65536 ∷ []) start) ys)
        pub come : T (all_come lost chosen (came calls start))
        pub log : log_bytes final ≡ front ++ text
        pub ends : step End final ≡ ok (with_restoring false (with_waiting [] final)) (Ended ids)
        pub shows : step (Show h) final ≡ ok final shown

      module _ (text : List ℕ) (ids : List ℕ) (h : ℕ) (shown : Answer) (C : Computed text ids h shown) where
        pub asked : Asked 0 start (λ a. xs ++ Cut k 65536 ∷ a) ys (lost_by before picked) chosen
        asked =
            subst (λ l. Asked 0 start (λ a. xs ++ Cut k 65536 ∷ a) ys l chosen) (sym to_cut_lem.lost_is)
            (asked_of lost chosen 0 start start-good xs k 65536 ys C.fine C.come)

        -- What the claim says.
        pub result : Recovered before picked lost chosen (came calls start) final
        result =
            subst (λ l. Recovered before picked l chosen (came calls start) final) to_cut_lem.lost_is
            (recovery 0 start started xs k 65536 ys picked chosen fair asked)

        -- (2) The lines that have run are, byte for byte, those that the computed log has behind the kept ones.
        ran-bytes : dids_text result.ran ≡ text
        ran-bytes =
            append_cancel_left front (dids_text result.ran) text
            (ap behind-kept (sym to_cut_lem.kept_text) ∙ sym result.bytes ∙ C.log)
          where
            behind-kept : List ℕ → List ℕ
            behind-kept l = l ++ dids_text result.ran

        -- (3) The other chosen lines are those that `end` names.
        named : did_ids result.others ≡ ids
        named = same-ids _ _ (did_ids result.others) ids (sym result.named.1 ∙ C.ends)

        -- (4) The book was fed the lines that `closed` computes, and `show` gives what it holds.
        fed : result.fed ≡ closed chosen [] lost
        fed = fed_is before picked lost chosen (came calls start) final result

        book_shown : (i : ℕ) → i < 3 → Shows final i (cell (start_of picked) i (picked.log ++ closed chosen [] lost))
        book_shown i lt =
            subst (λ l. Shows final i (cell (start_of picked) i (picked.log ++ l))) fed
            (result.shows i (subst (λ (n : ℕ). i < n) (sym to_cut_lem.histories) lt))

-- ### A stable line lost, and all but line 13 chosen

abbrev lost1 : List Did
lost1 = ten ∷ eleven ∷ twelve ∷ thirteen ∷ fourteen ∷ fifteen ∷ []

-- The calls before the picked cut, one of them refused. The stable line of line 9 is not covered.
abbrev xs1 : List Call
xs1 =
    Add 9 (update Inc 2 1 256 ∷ []) ∷ Finish 9 ∷ Persistent 1 ∷ Stable 1
    ∷ Add 10 (update Inc 0 1 513 ∷ []) ∷ Add 11 (update Not 0 1 0 ∷ update Inc 1 1 7 ∷ []) ∷ Add 10 (update Inc 0 1 513 ∷ []) ∷ Finish 10
    ∷ Finish 11
    ∷ Add 12 (update Set 0 9 1000 ∷ []) ∷ Finish 12 ∷ Add 13 (update Inc 2 2 300 ∷ []) ∷ Finish 13
    ∷ Add 14 (update Inc 2 3 5 ∷ update Not 1 1 0 ∷ []) ∷ Finish 14 ∷ Add 15 (update Not 1 1 0 ∷ []) ∷ Finish 15 ∷ []

-- The picked cut keeps 40 bytes: the site line, line 9, and a torn part of its stable line.
abbrev front1 : List ℕ
front1 = bytes "(site 3)\n(did 9 (inc 2 1 1 256))\n"

to_cut1 : ToCut xs1 40 none (did_line nine ∷ []) front1 1 lost1 (Restarted 1 33)
unfolding replaced_with profile_of run entered_with enter_with enter_all_with cell_from_with cell_with start_cell touches runs_at can_run_with unless
    open_full open_refusal opened open_site blocked_by blocked may_run_now ready attempt try_from made_ready never_now holds_never overtaken
    not_overtaken overtaken_ids nothing_orders id_pending id_done already_done read_overtaken at_highest table_full add_refusal arrived add change_of
    line_of values_after in_progress future without log_full finished finish_found finish withdraw_refusal withdraw persistent above_mark
    stable_full stable_refusal stabled stable show restarted restart_as restart cut_above base_cut cut stale redo_refusal behind pick drain
    delivered redo_read redo end writable_update writable perform step check and_then wrong_count no_such_history history_twice update_misfits
    change_misfits_with form_refusal updates_refusal changes_refusal_with stables_from stables_at weave_from mark_from up_to_did reported ended dids_text
    lines_text log_text head_text lines_from rest_from histories_fit accepts_with rises follows live_in table_holds in_order base_fits read_lines
    read_second read_first read_log log_bytes version_at live_done live asks dry became_dry rose line_bytes bytes_of settle below digits_within digits
    more number word field_text fields_text items_text tail_text list_text change_text one_text site_text did_text stable_text line_text reading.field
    reading.done_rule reading.change reading.one reading.did reading.items reading.tail reading.line read_whole read_did read_line
    reading.base_cell reading.base read_base read_site counted counted_after lost_by
to_cut1 = record { cuts = refl; keeps = refl; enough = tt; wide = refl; histories = refl; kept_text = refl; lost_is = refl }

abbrev pub brings : Did → Call
brings d = Redo (did_text d)

abbrev but13 : Did → Bool
but13 d = not (eqb d.id 13)

-- Lines out of order and more than once, a further cut that takes lines 11 and 12 off again, and then all of them anew, with an unreadable
-- line and other calls that are refused, a stable call among them. After the last cut the set of line 12 comes before the reader 11.
abbrev some : List Call
some =
    brings twelve ∷ brings fifteen ∷ brings ten ∷ brings ten ∷ brings twelve ∷ brings eleven ∷ Persistent 2 ∷ Stable 2 ∷ Cut 200 65536
    ∷ Cut 70 65536
    ∷ brings twelve ∷ brings fifteen ∷ brings fourteen ∷ Redo (bytes "(did 14") ∷ brings fourteen ∷ brings ten
    ∷ Add 20 (update Inc 0 2 0 ∷ [])
    ∷ Finish 11 ∷ brings eleven ∷ brings twelve ∷ Show 0 ∷ []

abbrev ran-some : List ℕ
ran-some = bytes "(did 10 (inc 0 1 1 513))\n(did 11 (not 0 1 2 0)(inc 1 1 1 7))\n(did 12 (set 0 9 3 1000))\n"

-- `end` would name 15 and then 14, as they first came after the last cut.
computed_some : Computed xs1 40 none (did_line nine ∷ []) front1 1 lost1 (Restarted 1 33) to_cut1 but13 some ran-some (15 ∷ 14 ∷ []) 0
    (Shown 0 9 1 0 3 1000)
unfolding replaced_with profile_of run entered_with enter_with enter_all_with cell_from_with cell_with start_cell touches runs_at can_run_with unless
    open_full open_refusal opened open_site blocked_by blocked may_run_now ready attempt try_from made_ready never_now holds_never overtaken
    not_overtaken overtaken_ids nothing_orders id_pending id_done already_done read_overtaken at_highest table_full add_refusal arrived add change_of
    line_of values_after in_progress future without log_full finished finish_found finish withdraw_refusal withdraw persistent above_mark
    stable_full stable_refusal stabled stable show restarted restart_as restart cut_above base_cut cut stale redo_refusal behind pick drain
    delivered redo_read redo end writable_update writable perform step check and_then wrong_count no_such_history history_twice update_misfits
    change_misfits_with form_refusal updates_refusal changes_refusal_with stables_from stables_at weave_from mark_from up_to_did reported ended dids_text
    lines_text log_text head_text lines_from rest_from histories_fit accepts_with rises follows live_in table_holds in_order base_fits read_lines
    read_second read_first read_log log_bytes version_at live_done live asks dry became_dry rose line_bytes bytes_of settle below digits_within digits
    more number word field_text fields_text items_text tail_text list_text change_text one_text site_text did_text stable_text line_text reading.field
    reading.done_rule reading.change reading.one reading.did reading.items reading.tail reading.line read_whole read_did read_line
    reading.base_cell reading.base read_base read_site counted counted_after comes_after came_from all_fine brings_chosen all_come same_bytes
computed_some = record { fine = tt; come = tt; log = refl; ends = refl; shows = refl }

-- (1) Line 15 is traced back to 14 and that to 13, which is not chosen: by the claim it has not run.
fifteen_open : Closed lost1 but13 fifteen → ⊥
unfolding shares beside
fifteen_open c =
    c.traced thirteen (further (direct (ten ∷ eleven ∷ twelve ∷ thirteen ∷ []) fourteen [] fifteen [] refl tt)
    (direct (ten ∷ eleven ∷ twelve ∷ []) thirteen [] fourteen (fifteen ∷ []) refl tt))

result_some : Recovered (run xs1 start) (restarted 65536 3 none (did_line nine ∷ [])) lost1 but13 (came (xs1 ++ Cut 40 65536 ∷ some) start)
    (run (xs1 ++ Cut 40 65536 ∷ some) start)
result_some =
    result xs1 40 none (did_line nine ∷ []) front1 1 lost1 (Restarted 1 33) to_cut1 but13 some ran-some (15 ∷ 14 ∷ []) 0
    (Shown 0 9 1 0 3 1000) computed_some

fifteen-waits : HasRun (run (xs1 ++ Cut 40 65536 ∷ some) start) fifteen → ⊥
fifteen-waits r = fifteen_open ((result_some.has_run fifteen (there (there (there (there (there (here refl))))))).0 r)

-- (4) The book is fed line 9, and then 10, 11 and 12: history 0 is at version 9, place 3, with profile 1000, as `show` was computed to
-- give.
closed_some : closed but13 [] lost1 ≡ ten ∷ eleven ∷ twelve ∷ []
unfolding closed shares beside
closed_some = refl

shown-some : Shows (run (xs1 ++ Cut 40 65536 ∷ some) start) 0 (record { profile = 1000; version = 9; place = 3 })
unfolding closed shares beside restarted replaced_with profile_of entered_with enter_with enter_all_with cell_from_with cell_with start_cell touches
    runs_at can_run_with
shown-some =
    book_shown xs1 40 none (did_line nine ∷ []) front1 1 lost1 (Restarted 1 33) to_cut1 but13 some ran-some (15 ∷ 14 ∷ []) 0
    (Shown 0 9 1 0 3 1000) computed_some 0
    (lit≤ tt)

-- ### A stable line kept, and every lost line chosen

-- (did 9 (inc 2 2 2 300)): the id of line 9 again
abbrev pub again : Did
again = record { id = 9; changes = change DidInc 2 2 2 300 ∷ [] }

abbrev lost2 : List Did
lost2 = ten ∷ eleven ∷ twelve ∷ again ∷ fourteen ∷ fifteen ∷ []

-- A second report of line 1, of every line done, covers the stable line: the operation leaves the table, and its id is used again.
abbrev xs2 : List Call
xs2 =
    Add 9 (update Inc 2 1 256 ∷ []) ∷ Finish 9 ∷ Persistent 1 ∷ Stable 1 ∷ Add 9 (update Inc 2 2 300 ∷ []) ∷ Persistent 1
    ∷ Add 10 (update Inc 0 1 513 ∷ []) ∷ Add 11 (update Not 0 1 0 ∷ update Inc 1 1 7 ∷ []) ∷ Finish 10 ∷ Finish 11
    ∷ Add 12 (update Set 0 9 1000 ∷ []) ∷ Finish 12 ∷ Add 9 (update Inc 2 2 300 ∷ []) ∷ Finish 9
    ∷ Add 14 (update Inc 2 3 5 ∷ update Not 1 1 0 ∷ []) ∷ Finish 14 ∷ Add 15 (update Not 1 1 0 ∷ []) ∷ Finish 15 ∷ []

-- The picked cut keeps 50 bytes: the site line, line 9, its stable line, which counts as persistent, and a torn part of line 10.
abbrev front2 : List ℕ
front2 = bytes "(site 3)\n(did 9 (inc 2 1 1 256))\n(stable 1)\n"

to_cut2 : ToCut xs2 50 none (did_line nine ∷ stable_line 1 ∷ []) front2 2 lost2 (Restarted 1 44)
unfolding replaced_with profile_of run entered_with enter_with enter_all_with cell_from_with cell_with start_cell touches runs_at can_run_with unless
    open_full open_refusal opened open_site blocked_by blocked may_run_now ready attempt try_from made_ready never_now holds_never overtaken
    not_overtaken overtaken_ids nothing_orders id_pending id_done already_done read_overtaken at_highest table_full add_refusal arrived add change_of
    line_of values_after in_progress future without log_full finished finish_found finish withdraw_refusal withdraw persistent above_mark
    stable_full stable_refusal stabled stable show restarted restart_as restart cut_above base_cut cut stale redo_refusal behind pick drain
    delivered redo_read redo end writable_update writable perform step check and_then wrong_count no_such_history history_twice update_misfits
    change_misfits_with form_refusal updates_refusal changes_refusal_with stables_from stables_at weave_from mark_from up_to_did reported ended dids_text
    lines_text log_text head_text lines_from rest_from histories_fit accepts_with rises follows live_in table_holds in_order base_fits read_lines
    read_second read_first read_log log_bytes version_at live_done live asks dry became_dry rose line_bytes bytes_of settle below digits_within digits
    more number word field_text fields_text items_text tail_text list_text change_text one_text site_text did_text stable_text line_text reading.field
    reading.done_rule reading.change reading.one reading.did reading.items reading.tail reading.line read_whole read_did read_line
    reading.base_cell reading.base read_base read_site counted counted_after lost_by
to_cut2 = record { cuts = refl; keeps = refl; enough = tt; wide = refl; histories = refl; kept_text = refl; lost_is = refl }

abbrev pub every : Did → Bool
every d = true

-- The lines come in the reverse order, and the last one lets those that wait run.
abbrev reversed : List Call
reversed = brings fifteen ∷ brings fourteen ∷ brings again ∷ brings twelve ∷ brings eleven ∷ brings ten ∷ []

abbrev ran-all : List ℕ
ran-all =
    bytes "(did 9 (inc 2 2 2 300))\n(did 10 (inc 0 1 1 513))\n(did 11 (not 0 1 2 0)(inc 1 1 1 7))\n(did 14 (inc 2 3 3 5)(not 1 1 2 0))\n"
    ++ bytes "(did 15 (not 1 1 3 0))\n(did 12 (set 0 9 3 1000))\n"

-- The lines stand in another order than in the first log, behind the stable line, and `show` of history 2 gives what it gave before the
-- picked cut.
computed_all : Computed xs2 50 none (did_line nine ∷ stable_line 1 ∷ []) front2 2 lost2 (Restarted 1 44) to_cut2 every reversed ran-all [] 2
    (Shown 2 3 1 1 3 11269)
unfolding replaced_with profile_of run entered_with enter_with enter_all_with cell_from_with cell_with start_cell touches runs_at can_run_with unless
    open_full open_refusal opened open_site blocked_by blocked may_run_now ready attempt try_from made_ready never_now holds_never overtaken
    not_overtaken overtaken_ids nothing_orders id_pending id_done already_done read_overtaken at_highest table_full add_refusal arrived add change_of
    line_of values_after in_progress future without log_full finished finish_found finish withdraw_refusal withdraw persistent above_mark
    stable_full stable_refusal stabled stable show restarted restart_as restart cut_above base_cut cut stale redo_refusal behind pick drain
    delivered redo_read redo end writable_update writable perform step check and_then wrong_count no_such_history history_twice update_misfits
    change_misfits_with form_refusal updates_refusal changes_refusal_with stables_from stables_at weave_from mark_from up_to_did reported ended dids_text
    lines_text log_text head_text lines_from rest_from histories_fit accepts_with rises follows live_in table_holds in_order base_fits read_lines
    read_second read_first read_log log_bytes version_at live_done live asks dry became_dry rose line_bytes bytes_of settle below digits_within digits
    more number word field_text fields_text items_text tail_text list_text change_text one_text site_text did_text stable_text line_text reading.field
    reading.done_rule reading.change reading.one reading.did reading.items reading.tail reading.line read_whole read_did read_line
    reading.base_cell reading.base read_base read_site counted counted_after comes_after came_from all_fine brings_chosen all_come same_bytes
computed_all = record { fine = tt; come = tt; log = refl; ends = refl; shows = refl }

-- (5) So the claim says of each history.
shown-all : (h : ℕ) → h < 3 → (c : Cell) × Shows (run xs2 start) h c × Shows (run (xs2 ++ Cut 50 65536 ∷ reversed) start) h c
shown-all h lt =
    (result xs2 50 none (did_line nine ∷ stable_line 1 ∷ []) front2 2 lost2 (Restarted 1 44) to_cut2 every reversed ran-all [] 2
    (Shown 2 3 1 1 3 11269) computed_all
    ).shows_first (λ d m. tt) h (subst (λ (n : ℕ). h < n) (sym to_cut2.histories) lt)

-- ### Two orders of delivery behind the same cut ((n))

-- The lines come in first order, a further cut takes line 11 off again, and then all come anew.
abbrev forward : List Call
forward =
    brings ten ∷ brings eleven ∷ Cut 71 65536
    ∷ brings ten ∷ brings eleven ∷ brings twelve ∷ brings again ∷ brings fourteen ∷ brings fifteen ∷ []

abbrev ran-forward : List ℕ
ran-forward =
    bytes "(did 10 (inc 0 1 1 513))\n(did 11 (not 0 1 2 0)(inc 1 1 1 7))\n(did 12 (set 0 9 3 1000))\n(did 9 (inc 2 2 2 300))\n"
    ++ bytes "(did 14 (inc 2 3 3 5)(not 1 1 2 0))\n(did 15 (not 1 1 3 0))\n"

-- What the rules compute of a list behind that cut that brings back all lines.
abbrev Returns : List Call → List ℕ → Type 0
Returns ys text =
    Computed xs2 50 none (did_line nine ∷ stable_line 1 ∷ []) front2 2 lost2 (Restarted 1 44) to_cut2 every ys text [] 2
    (Shown 2 3 1 1 3 11269)

computed_forward : Returns forward ran-forward
unfolding replaced_with profile_of run entered_with enter_with enter_all_with cell_from_with cell_with start_cell touches runs_at can_run_with unless
    open_full open_refusal opened open_site blocked_by blocked may_run_now ready attempt try_from made_ready never_now holds_never overtaken
    not_overtaken overtaken_ids nothing_orders id_pending id_done already_done read_overtaken at_highest table_full add_refusal arrived add change_of
    line_of values_after in_progress future without log_full finished finish_found finish withdraw_refusal withdraw persistent above_mark
    stable_full stable_refusal stabled stable show restarted restart_as restart cut_above base_cut cut stale redo_refusal behind pick drain
    delivered redo_read redo end writable_update writable perform step check and_then wrong_count no_such_history history_twice update_misfits
    change_misfits_with form_refusal updates_refusal changes_refusal_with stables_from stables_at weave_from mark_from up_to_did reported ended dids_text
    lines_text log_text head_text lines_from rest_from histories_fit accepts_with rises follows live_in table_holds in_order base_fits read_lines
    read_second read_first read_log log_bytes version_at live_done live asks dry became_dry rose line_bytes bytes_of settle below digits_within digits
    more number word field_text fields_text items_text tail_text list_text change_text one_text site_text did_text stable_text line_text reading.field
    reading.done_rule reading.change reading.one reading.did reading.items reading.tail reading.line read_whole read_did read_line
    reading.base_cell reading.base read_base read_site counted counted_after comes_after came_from all_fine brings_chosen all_come same_bytes
computed_forward = record { fine = tt; come = tt; log = refl; ends = refl; shows = refl }

delivery : (ys : List Call) (text : List ℕ) → Returns ys text → Delivery
delivery ys text C =
    record {
      counts = 0;
      site = start;
      start = started;
      calls = xs2;
      kept = 50;
      room = 65536;
      further = ys;
      after = restarted 65536 3 none (did_line nine ∷ stable_line 1 ∷ []);
      fair = fair xs2 50 none (did_line nine ∷ stable_line 1 ∷ []) front2 2 lost2 (Restarted 1 44) to_cut2;
      asked =
          asked xs2 50 none (did_line nine ∷ stable_line 1 ∷ []) front2 2 lost2 (Restarted 1 44) to_cut2 every ys text [] 2
          (Shown 2 3 1 1 3 11269) C;
    }

-- The final logs differ, and are rearrangements of each other and of the log before the cut, in each history the same.
two_orders : AllThree (run xs2 start).log (run (xs2 ++ Cut 50 65536 ∷ reversed) start).log
    (run (xs2 ++ Cut 50 65536 ∷ forward) start).log
unfolding delivery
two_orders = orders (delivery reversed ran-all computed_all) (delivery forward ran-forward computed_forward) refl
