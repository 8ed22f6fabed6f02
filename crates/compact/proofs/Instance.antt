-- The claim of the module is not empty: a list of calls of two slots that does what it asks of slot 0.
use Rattle.std.specs.Prelude.{◌≡◌, refl, ◌⊎◌, ℕ, take}
use Rattle.std.proofs.Common.{sym, ap, ◌∙◌, inl, inr, arith}
use mathlib.Core.List.{List, [], ◌∷◌, ◌++◌, head-eq_of_cons-eq, tail-eq_of_cons-eq, nil≢cons}
use mathlib.Core.List.Memᴰ
use mathlib.Core.List.Memᴰ.{head as here}
use mathlib.Core.List.{Memᴰ as Mem}
use Rattle.std.proofs.Math.Option.{none, some}
use Rattle.forms.specs.Lists.{below}
use Rattle.forms.specs.ListLaws.{mem_along}
use Rattle.forms.specs.Words.{word}
use Rattle.forms.specs.Decimal.{digits_within, digits, more, number}
use Rattle.forms.specs.Forms.{Update, Did, Opened, Restarted, field_text, fields_text, items_text, tail_text, list_text, change_text, one_text}
use Rattle.forms.specs.Forms.{site_text, did_text, stable_text, line_text, did_line}
use Rattle.forms.specs.Reading as reading
use Rattle.forms.specs.Reading.{read_base, read_did, read_line, read_site, read_whole}
use Rattle.forms.specs.declared.Rule.TheVariants.{Inc}
use Rattle.forms.specs.declared.DoneRule.TheVariants.{DidInc}
use Rattle.rules.specs.Book.{start_cell, touches, runs_at}
use Rattle.rules.specs.Checks.{check, and_then, wrong_count, no_such_history, history_twice, update_misfits, form_refusal, updates_refusal}
use Rattle.rules.specs.Log.{read_second, base_fits, in_order, head_text, stables_from, stables_at, weave_from, mark_from, up_to_did, reported, ended}
use Rattle.rules.specs.Log.{dids_text, lines_text, log_text, lines_from}
use Rattle.rules.specs.Log.{rest_from, histories_fit, rises, follows, live_in, table_holds}
use Rattle.rules.specs.State.{State, ok, lines_in, bytes_of, log_bytes, version_at, live_done, live, asks, dry, became_dry, rose, line_bytes}
use Rattle.rules.specs.State.{settle}
use Rattle.rules.specs.Trim.{base_cell_at, trimmed_base, trimmed_lines, trim_text, trim_above, trim_full, trim_refusal}
use Rattle.rules.specs.Calls.{changeover}
use Rattle.rules.specs.Log.{closing}
use Rattle.rules.specs.When.{changeover_when}
use Rattle.forms.specs.Forms.{Base, base_cell_text, base_text}
use Rattle.rules.specs.Calls.{base_cut, Call, Add, Finish, Persistent, Stable, Cut, Changeover, Redo, End, unless, open_full, open_refusal}
use Rattle.rules.specs.Calls.{opened, open_site}
use Rattle.rules.specs.Calls.{blocked_by, blocked, may_run_now, ready, attempt, try_from, made_ready, never_now, holds_never, overtaken}
use Rattle.rules.specs.Calls.{not_overtaken, overtaken_ids, nothing_orders, id_pending, id_done, already_done, read_overtaken, at_highest}
use Rattle.rules.specs.Calls.{table_full}
use Rattle.rules.specs.Calls.{add_refusal, arrived, add, change_of, line_of, values_after, in_progress, future, without, log_full, finished}
use Rattle.rules.specs.Calls.{finish_found, finish}
use Rattle.rules.specs.Calls.{withdraw_refusal, withdraw, persistent, above_mark, stable_full, stable_refusal, stabled, stable, show, restarted}
use Rattle.rules.specs.Calls.{restart_as, restart, cut_above}
use Rattle.rules.specs.Calls.{cut, stale, redo_refusal, behind, pick, drain, delivered, redo_read, redo, end, writable_update, writable}
use Rattle.rules.specs.Calls.{perform}
use Rattle.rules.specs.Calls.{step}
use Rattle.rules.specs.When.{add_when, redo_read_when, redo_when, lastly, cut_when, perform_when, step_when}
use Rattle.recovery.specs.Claim.{just_opened, counted_after, lost_by, comes_after}
use Rattle.recovery.specs.Arrival.{every, SameWork}
use Rattle.recovery.specs.Host.{run_in, counted_in, came_in}
use Rattle.compact.specs.Module.{Module, slot_at, with_slot, others, live_of, lacks, free, taken, uncovered, meets_ten, promised_again}
use Rattle.compact.specs.Module.{Move, At, Open, reply_of, promise_of, next_of, made}
use Rattle.compact.proofs.Fits.{fits-made}
use Rattle.compact.proofs.FitsLaws.{fits_next}
use Rattle.compact.specs.Claim.{site_or, in_slot, SlotList, before_cut, at_end}
use Rattle.compact.proofs.ClaimLaws.{slot_arrival}
use Rattle.rules.specs.Rules.{profile_of, replaced_with}
use Rattle.rules.specs.Book.{can_run_with, cell_from_with, cell_with, enter_all_with, enter_with, entered_with}
use Rattle.rules.specs.Checks.{change_misfits_with, changes_refusal_with}
use Rattle.rules.specs.Log.{accepts_with, read_first, read_lines, read_log}

abbrev raise : List Update
raise = record { rule = Inc; history = 0; version = 1; operand = 7 } ∷ []

-- (inc 0 2 9)
abbrev further : List Update
further = record { rule = Inc; history = 0; version = 2; operand = 9 } ∷ []

-- (inc 0 3 5)
abbrev last : List Update
last = record { rule = Inc; history = 0; version = 3; operand = 5 } ∷ []

-- (did 2 (inc 0 2 2 9)): the second operation of slot 0
abbrev second : Did
second = record { id = 2; changes = record { rule = DidInc; history = 0; version = 2; place = 2; operand = 9 } ∷ [] }

-- (did 1 (inc 0 3 3 5)): its third, with the id of the first, which is stable and has left the table
abbrev one : Did
one = record { id = 1; changes = record { rule = DidInc; history = 0; version = 3; place = 3; operand = 5 } ∷ [] }

-- (base 1 (0 1 1 7)): the log of slot 0 is trimmed to its first operation
abbrev base1 : Base
base1 = record { up_to = 1; cells = record { history = 0; version = 1; place = 1; profile = 7 } ∷ [] }

abbrev start : Module
start = next_of (Open 0 1 100) made

abbrev xs : List Move
xs =
    At 0 (Add 1 raise) ∷ Open 1 1 100 ∷ At 0 (Finish 1) ∷ At 1 (Add 1 raise) ∷ At 0 (Add 2 further) ∷ At 0 (Finish 2) ∷ At 0 (Persistent 2)
    ∷ At 0 (Stable 1) ∷ At 0 (Changeover 1 100) ∷ At 0 End ∷ At 0 (Add 1 last) ∷ At 0 (Finish 1) ∷ []

abbrev x : Move
x = At 0 (Cut 60 100)

abbrev p : Move
p = At 1 (Finish 1)

abbrev q : Move
q = At 0 (Redo (did_text one))

abbrev ys : List Move
ys = p ∷ q ∷ []

abbrev after : State
after = restarted 100 1 (some base1) (did_line second ∷ [])

-- What the rules compute.
record Computed : Type 0 where
  opens : open_site 1 100 ≡ ok (opened 1 100) Opened
  is_open : (slot_at 0 start).site ≡ some (opened 1 100)
  counts : take (counted_in (in_slot 0) 0 xs start) (lines_in (site_or (slot_at 0 (run_in (in_slot 0) xs start)).site)) ≡ lines_in after
  cuts : reply_of x (run_in (in_slot 0) xs start) ≡ ok after (Restarted 2 50)
  room : (site_or (slot_at 0 (run_in (in_slot 0) xs start)).site).room ≡ 100
  lost : lost_by (site_or (slot_at 0 (run_in (in_slot 0) xs start)).site) after ≡ one ∷ []
  came : came_in (in_slot 0) [] (xs ++ x ∷ ys) start ≡ did_text one ∷ []
  final : (site_or (slot_at 0 (run_in (in_slot 0) (xs ++ x ∷ ys) start)).site).log ≡ second ∷ one ∷ []

computed : Computed
unfolding replaced_with profile_of entered_with enter_with enter_all_with cell_from_with cell_with start_cell touches runs_at can_run_with unless
    open_full open_refusal opened open_site blocked_by blocked may_run_now ready attempt try_from made_ready never_now holds_never overtaken
    not_overtaken overtaken_ids nothing_orders id_pending id_done already_done read_overtaken at_highest table_full add_refusal arrived add change_of
    line_of values_after in_progress future without log_full finished finish_found finish withdraw_refusal withdraw persistent above_mark
    stable_full stable_refusal stabled stable show restarted restart_as restart cut_above base_cut cut base_cell_at trimmed_base trimmed_lines
    trim_text trim_above trim_full trim_refusal changeover closing stale redo_refusal behind pick drain delivered redo_read redo end
    writable_update writable perform step check and_then wrong_count no_such_history history_twice update_misfits change_misfits_with form_refusal
    updates_refusal changes_refusal_with stables_from stables_at weave_from mark_from up_to_did reported ended dids_text lines_text log_text head_text
    lines_from rest_from histories_fit accepts_with rises follows live_in table_holds in_order base_fits read_lines read_second read_first read_log
    log_bytes version_at live_done live asks dry became_dry rose line_bytes bytes_of settle below digits_within digits more number word field_text
    fields_text items_text tail_text list_text change_text one_text site_text did_text base_cell_text base_text stable_text line_text reading.field
    reading.done_rule reading.change reading.one reading.did reading.items reading.tail reading.line read_whole read_did read_line
    reading.base_cell reading.base read_base read_site counted_after comes_after lost_by add_when redo_read_when redo_when lastly cut_when
    changeover_when perform_when step_when run_in counted_in came_in slot_at with_slot others live_of lacks free taken uncovered meets_ten
    promised_again reply_of promise_of next_of
computed = record { opens = refl; is_open = refl; counts = refl; cuts = refl; room = refl; lost = refl; came = refl; final = refl }

two : (a : List Move) (y : Move) (b : List Move) → ys ≡ a ++ y ∷ b → (y ≡ p) ⊎ (y ≡ q)
two [] y b e = inl (sym (head-eq_of_cons-eq e))
two (z ∷ []) y b e = inr (sym (head-eq_of_cons-eq (tail-eq_of_cons-eq e)))
two (z ∷ z' ∷ []) y b e = absurd (nil≢cons (tail-eq_of_cons-eq (tail-eq_of_cons-eq e)))
two (z ∷ z' ∷ z'' ∷ a) y b e = absurd (nil≢cons (tail-eq_of_cons-eq (tail-eq_of_cons-eq e)))

-- the only call of slot 0 is a redo
own_is : (a : List Move) (y : Move) (b : List Move) (c : Call) → ys ≡ a ++ y ∷ b → (in_slot 0).own y ≡ some c → c ≡ Redo (did_text one)
own_is a y b c e o = go (two a y b e)
  where
    same : (u v : Call) → some u ≡ some v → v ≡ u
    same u v r = cc

    go : (y ≡ p) ⊎ (y ≡ q) → c ≡ Redo (did_text one)
    go (inl r) = absurd (let s : none ≡ some c = ap (in_slot 0).own (sym r) ∙ o in let z : ◌≡◌ {A = ℕ} 0 1 = cc in omega arith)
    go (inr r) = same (Redo (did_text one)) c (ap (in_slot 0).own (sym r) ∙ o)

line_is : (line : List ℕ) → Redo line ≡ Redo (did_text one) → line ≡ did_text one
line_is line e = cc

list : SlotList 0 every
list =
    record {
      counts = 0;
      start = start;
      fits = fits_next (Open 0 1 100) made fits-made;
      site = opened 1 100;
      is_open = computed.is_open;
      begins = just_opened 1 100 (opened 1 100) Opened computed.opens;
      xs = xs;
      x = x;
      k = 60;
      room = 100;
      ys = ys;
      after = after;
      on = tt;
      fair =
          record {
            is_cut = refl;
            answer = Restarted 2 50;
            accepted = computed.cuts;
            keeps = λ l m. mem_along computed.counts m;
            no_shorter = omega (arith, computed.room);
          };
      asked =
          record {
            cuts =
                λ a y b k room st answer e o r. absurd
                (let s = own_is a y b (Cut k room) e o in let z : ◌≡◌ {A = ℕ} 0 1 = cc in omega arith);
            redos =
                λ a y b line st answer e o r. (
                  one,
                  mem_along (sym computed.lost) (here refl),
                  tt,
                  line_is line (own_is a y b (Redo line) e o),
                );
            changeovers =
                λ a y b n room st answer e o r.
                let s = own_is a y b (Changeover n room) e o in let z : ◌≡◌ {A = ℕ} 0 1 = cc in omega arith;
            ends = λ a y b st answer e o r. let s = own_is a y b End e o in let z : ◌≡◌ {A = ℕ} 0 1 = cc in omega arith;
            all = λ d m t. mem_along (sym computed.came) (only d (Memᴰ.cases_cons (mem_along computed.lost m)));
          };
    }
  where
    only : (d : Did) → (d ≡ one) ⊎ Mem d [] → Mem (did_text d) (did_text one ∷ [])
    only d (inl e) = here (ap did_text e)
    only d (inr m) = absurd (Memᴰ.not-nil m)

-- What the claims say of it.
returned : SameWork (before_cut list).log (at_end list).log
returned = slot_arrival 0 list
