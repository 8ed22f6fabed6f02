-- Request (n) on the compact module, applied: the lines of slot 0 of one module and of slot 1 of another come back in two orders, with a
-- neighbour that works between and a further cut; the logs that the rules compute, and what the claim says of them.
use Rattle.std.specs.Prelude.{ℕ, T, take, false, ◌≡◌}
use Rattle.compact.specs.Claim.{site_or, in_slot, SlotList, before_cut, at_end, own_of, goes_on}
use Rattle.compact.proofs.ClaimLaws.{slot_orders}
use Rattle.compact.proofs.Fits.{fits-made}
use Rattle.compact.proofs.FitsLaws.{fits_next}
use Rattle.compact.specs.Module.{Module, slot_at, with_slot, others, live_of, lacks, free, taken, uncovered, meets_ten, promised_again}
use Rattle.compact.specs.Module.{Move, At, Open, reply_of, promise_of, next_of, made}
use Rattle.forms.specs.Decimal.{digits_within, digits, more, number}
use Rattle.forms.specs.Forms.{Update, Did, Opened, Restarted, field_text, fields_text, items_text, tail_text, list_text, change_text, one_text}
use Rattle.forms.specs.Forms.{site_text, did_text, stable_text, line_text, base_cell_text, base_text, Answer}
use Rattle.forms.specs.ListLaws.{mem_along, all-at, any_at}
use Rattle.forms.specs.Lists.{below, all, any}
use Rattle.forms.specs.Reading.{read_base, read_did, read_line, read_site, read_whole}
use Rattle.forms.specs.Words.{word}
use Rattle.forms.specs.declared.Rule.{Rule}
use Rattle.forms.specs.declared.Rule.TheVariants.{Inc, Not}
use Rattle.recovery.specs.Arrival.{every, AllThree}
use Rattle.recovery.proofs.ArrivalExamples.{five, six, seven}
use Rattle.recovery.specs.Claim.{just_opened, counted_after, lost_by, comes_after, Comes}
use Rattle.recovery.specs.Host.{run_in, counted_in, came_in, FairIn, AskedIn}
use Rattle.rules.specs.Book.{start_cell, touches, runs_at, can_run_with, cell_from_with, cell_with, enter_all_with, enter_with, entered_with}
use Rattle.rules.specs.Calls.{changeover, base_cut, Call, Add, Finish, Cut, Changeover, Redo, End, unless, open_full, open_refusal, opened}
use Rattle.rules.specs.Calls.{open_site, blocked_by, blocked, may_run_now, ready, attempt, try_from, made_ready, never_now, holds_never}
use Rattle.rules.specs.Calls.{overtaken, not_overtaken, overtaken_ids, nothing_orders, id_pending, id_done, already_done, read_overtaken}
use Rattle.rules.specs.Calls.{at_highest, table_full, add_refusal, arrived, add, change_of, line_of, values_after, in_progress, future}
use Rattle.rules.specs.Calls.{without, log_full, finished, finish_found, finish, withdraw_refusal, withdraw, persistent, above_mark}
use Rattle.rules.specs.Calls.{stable_full, stable_refusal, stabled, stable, show, restarted, restart_as, restart, cut_above, cut, stale}
use Rattle.rules.specs.Calls.{redo_refusal, behind, pick, drain, delivered, redo_read, redo, end, writable_update, writable, perform, step}
use Rattle.rules.specs.Checks.{check, and_then, wrong_count, no_such_history, history_twice, update_misfits, form_refusal, updates_refusal}
use Rattle.rules.specs.Checks.{change_misfits_with, changes_refusal_with}
use Rattle.rules.proofs.Examples.{same_bytes_lem}
use Rattle.rules.specs.Keeper.{same_bytes}
use Rattle.rules.specs.Log.{read_second, base_fits, in_order, head_text, stables_from, stables_at, weave_from, mark_from, up_to_did, reported}
use Rattle.rules.specs.Log.{ended, dids_text, lines_text, log_text, lines_from, rest_from, histories_fit, rises, follows, live_in, table_holds}
use Rattle.rules.specs.Log.{closing, accepts_with, read_first, read_lines, read_log}
use Rattle.rules.specs.Rules.{profile_of, replaced_with}
use Rattle.rules.specs.State.{State, ok, lines_in, bytes_of, log_bytes, version_at, live_done, live, asks, dry, became_dry, rose, line_bytes}
use Rattle.rules.specs.State.{settle}
use Rattle.rules.specs.Trim.{base_cell_at, trimmed_base, trimmed_lines, trim_text, trim_above, trim_full, trim_refusal}
use Rattle.rules.specs.When.{changeover_when, add_when, redo_read_when, redo_when, lastly, cut_when, perform_when, step_when}
use mathlib.Core.List.Memᴰ.{head as here}
use mathlib.Core.List.{List, [], ◌∷◌, ◌++◌, head-eq_of_cons-eq, tail-eq_of_cons-eq, nil≢cons, Memᴰ as Mem}
use mathlib.Core.List.Memᴰ
use mathlib.Core.List.Memᴰ.{tail as there}
use Rattle.std.proofs.Common.{append_assoc, append-nil, sym, ap, ◌∙◌, subst, arith}
use Rattle.std.proofs.Math.Option.{none, some}
use Rattle.std.proofs.Math.Path.{refl}
use Rattle.forms.specs.Reading as reading

-- ### A list of moves, position by position

-- What is asked of a move y of slot i behind the moves a, where `up_to a` are the moves up to there: it is another slot's, or a redo of a
-- lost line, or a cut that is fair if it is accepted.
data Allowed (i counts : ℕ) (start : Module) (up_to : List Move → List Move) (lost : List Did) (a : List Move) (y : Move) : Type 0 where
  anothers : own_of i y ≡ none → Allowed i counts start up_to lost a y
  brought : (d : Did) → Mem d lost → own_of i y ≡ some (Redo (did_text d)) → Allowed i counts start up_to lost a y
  fair_cut : (k room : ℕ) → own_of i y ≡ some (Cut k room) →
      ((after : State) (answer : Answer) → reply_of y (run_in (in_slot i) (up_to a) start) ≡ ok after answer →
      FairIn (in_slot i) (counted_in (in_slot i) counts (up_to a) start) k room y (run_in (in_slot i) (up_to a) start) after) →
      Allowed i counts start up_to lost a y

-- Each move of a list behind the moves a is allowed.
abbrev AllAllowed : (i counts : ℕ) (start : Module) (up_to : List Move → List Move) (lost : List Did) (a ys : List Move) → Type 0
AllAllowed i counts start up_to lost a [] = Unit {0}
AllAllowed i counts start up_to lost a (y ∷ ys) =
    Allowed i counts start up_to lost a y × AllAllowed i counts start up_to lost (a ++ y ∷ []) ys

module _ (i counts : ℕ) (start : Module) (up_to : List Move → List Move) (lost : List Did) where
  allowed_at : (p ys : List Move) → AllAllowed i counts start up_to lost p ys →
      (a : List Move) (y : Move) (b : List Move) → ys ≡ a ++ y ∷ b →
      Allowed i counts start up_to lost (p ++ a) y
  allowed_at p [] all [] y b e = absurd (nil≢cons e)
  allowed_at p [] all (z ∷ a) y b e = absurd (nil≢cons e)
  allowed_at p (x ∷ ys) all [] y b e =
      subst (λ (z : Move). Allowed i counts start up_to lost (p ++ []) z) (head-eq_of_cons-eq e)
      (subst (λ (q : List Move). Allowed i counts start up_to lost q x) (sym (append-nil p)) all.0)
  allowed_at p (x ∷ ys) all (z ∷ a) y b e =
      subst (λ (q : List Move). Allowed i counts start up_to lost q y)
      (append_assoc p (x ∷ []) a ∙ ap {B = List Move} (λ q. p ++ q ∷ a) (head-eq_of_cons-eq e))
      (allowed_at (p ++ x ∷ []) ys all.1 a y b (tail-eq_of_cons-eq e))

  same_call : (u v : Call) → some u ≡ some v → u ≡ v
  same_call u v r = cc

  -- .. so what is asked of the list holds.
  asked_of : (ys : List Move) → AllAllowed i counts start up_to lost [] ys →
      ((d : Did) → Mem d lost → Comes (came_in (in_slot i) [] (up_to ys) start) d) →
      AskedIn (in_slot i) counts start up_to ys lost every
  asked_of ys all come =
      record {
        cuts = λ a x b k room after answer e o r. cut_at a x k room after answer o r (allowed_at [] ys all a x b e);
        redos = λ a x b line after answer e o r. redo-at a x line o (allowed_at [] ys all a x b e);
        changeovers = λ a x b n room after answer e o r. no_changeover a x n room o (allowed_at [] ys all a x b e);
        ends = λ a x b after answer e o r. no_end a x o (allowed_at [] ys all a x b e);
        all = λ d m t. come d m;
      }
    where
      cut_at : (a : List Move) (x : Move) (k room : ℕ) (after : State) (answer : Answer) → own_of i x ≡ some (Cut k room) →
          reply_of x (run_in (in_slot i) (up_to a) start) ≡ ok after answer → Allowed i counts start up_to lost a x →
          FairIn (in_slot i) (counted_in (in_slot i) counts (up_to a) start) k room x (run_in (in_slot i) (up_to a) start) after
      cut_at a x k room after answer o r (anothers n) =
          absurd (let s : none ≡ some (Cut k room) = sym n ∙ o in let z : ◌≡◌ {A = ℕ} 0 1 = cc in omega arith)
      cut_at a x k room after answer o r (brought d m q) =
          absurd (let s = same_call (Redo (did_text d)) (Cut k room) (sym q ∙ o) in let z : ◌≡◌ {A = ℕ} 0 1 = cc in omega arith)
      cut_at a x k room after answer o r (fair_cut j l q f) =
          let s = same_call (Cut j l) (Cut k room) (sym q ∙ o) in
          let sk : j ≡ k = cc in
          let sl : l ≡ room = cc in
          subst (λ (u : ℕ). Fairly u room) sk (subst (λ (u : ℕ). Fairly j u) sl (f after answer r))
        where
          Fairly : ℕ → ℕ → Type 0
          Fairly u v =
              FairIn (in_slot i) (counted_in (in_slot i) counts (up_to a) start) u v x (run_in (in_slot i) (up_to a) start) after

      redo-at : (a : List Move) (x : Move) (line : List ℕ) → own_of i x ≡ some (Redo line) → Allowed i counts start up_to lost a x →
          (d : Did) × Mem d lost × T (every d) × (line ≡ did_text d)
      redo-at a x line o (anothers n) =
          absurd (let s : none ≡ some (Redo line) = sym n ∙ o in let z : ◌≡◌ {A = ℕ} 0 1 = cc in omega arith)
      redo-at a x line o (brought d m q) =
          let s = same_call (Redo (did_text d)) (Redo line) (sym q ∙ o) in let e : line ≡ did_text d = cc in (d, m, tt, e)
      redo-at a x line o (fair_cut j l q f) =
          absurd (let s = same_call (Cut j l) (Redo line) (sym q ∙ o) in let z : ◌≡◌ {A = ℕ} 0 1 = cc in omega arith)

      no_changeover : (a : List Move) (x : Move) (n room : ℕ) → own_of i x ≡ some (Changeover n room) →
          Allowed i counts start up_to lost a x → ⊥
      no_changeover a x n room o (anothers q) =
          let s : none ≡ some (Changeover n room) = sym q ∙ o in let z : ◌≡◌ {A = ℕ} 0 1 = cc in omega arith
      no_changeover a x n room o (brought d m q) =
          let s = same_call (Redo (did_text d)) (Changeover n room) (sym q ∙ o) in let z : ◌≡◌ {A = ℕ} 0 1 = cc in omega arith
      no_changeover a x n room o (fair_cut j l q f) =
          let s = same_call (Cut j l) (Changeover n room) (sym q ∙ o) in let z : ◌≡◌ {A = ℕ} 0 1 = cc in omega arith

      no_end : (a : List Move) (x : Move) → own_of i x ≡ some End → Allowed i counts start up_to lost a x → ⊥
      no_end a x o (anothers q) = let s : none ≡ some End = sym q ∙ o in let z : ◌≡◌ {A = ℕ} 0 1 = cc in omega arith
      no_end a x o (brought d m q) =
          let s = same_call (Redo (did_text d)) End (sym q ∙ o) in let z : ◌≡◌ {A = ℕ} 0 1 = cc in omega arith
      no_end a x o (fair_cut j l q f) = let s = same_call (Cut j l) End (sym q ∙ o) in let z : ◌≡◌ {A = ℕ} 0 1 = cc in omega arith

-- ### The paper, in slot i beside slot j

abbrev update : Rule → ℕ → ℕ → ℕ → Update
update r h u o = record { rule = r; history = h; version = u; operand = o }

abbrev start : ℕ → Module
start i = next_of (Open i 2 200) made

-- Lines 5, 6 and 7 are done in slot i; slot j is opened and has an operation in progress.
abbrev xs : ℕ → ℕ → List Move
xs i j =
    At i (Add 5 (update Inc 0 1 7 ∷ [])) ∷ Open j 1 100 ∷ At i (Finish 5) ∷ At i (Add 6 (update Inc 1 1 9 ∷ []))
    ∷ At j (Add 1 (update Inc 0 1 3 ∷ [])) ∷ At i (Finish 6)
    ∷ At i (Add 7 (update Not 0 1 0 ∷ update Not 1 1 0 ∷ [])) ∷ At i (Finish 7) ∷ []

-- the picked cut keeps none of them
abbrev x : ℕ → Move
x i = At i (Cut 20 200)

abbrev after : State
after = restarted 200 2 none []

abbrev lost : List Did
lost = five ∷ six ∷ seven ∷ []

abbrev brings : ℕ → Did → Move
brings i d = At i (Redo (did_text d))

-- In slot 0 of the first module: 7, which waits, 6, and then 5. Slot 1 finishes its operation between.
abbrev one : List Move
one = brings 0 seven ∷ At 1 (Finish 1) ∷ brings 0 six ∷ brings 0 five ∷ []

-- In slot 1 of the second: 5, which a further cut takes off again, and then all in first order.
abbrev other : List Move
other = brings 1 five ∷ At 1 (Cut 25 200) ∷ At 0 (Finish 1) ∷ brings 1 five ∷ brings 1 six ∷ brings 1 seven ∷ []

-- What the rules compute of slot i beside slot j: up to the picked cut, and behind it.
record Computed (i j : ℕ) (ys : List Move) (log : List Did) : Type 0 where
  is_open : (slot_at i (start i)).site ≡ some (opened 2 200)
  none_counted : counted_in (in_slot i) 0 (xs i j) (start i) ≡ 0
  cuts : reply_of (x i) (run_in (in_slot i) (xs i j) (start i)) ≡ ok after (Restarted 0 9)
  room : (site_or (slot_at i (run_in (in_slot i) (xs i j) (start i))).site).room ≡ 200
  before : (site_or (slot_at i (run_in (in_slot i) (xs i j) (start i))).site).log ≡ lost
  gone : lost_by (site_or (slot_at i (run_in (in_slot i) (xs i j) (start i))).site) after ≡ lost
  come : T (all (λ d. any (same_bytes (did_text d)) (came_in (in_slot i) [] (xs i j ++ x i ∷ ys) (start i))) lost)
  final : (site_or (slot_at i (run_in (in_slot i) (xs i j ++ x i ∷ ys) (start i))).site).log ≡ log

record Both : Type 0 where
  opens : open_site 2 200 ≡ ok (opened 2 200) Opened
  first : Computed 0 1 one (six ∷ five ∷ seven ∷ [])
  second : Computed 1 0 other (five ∷ six ∷ seven ∷ [])
  -- at the further cut
  again : counted_in (in_slot 1) 0 (xs 1 0 ++ x 1 ∷ brings 1 five ∷ []) (start 1) ≡ 0
  room_again : (site_or (slot_at 1 (run_in (in_slot 1) (xs 1 0 ++ x 1 ∷ brings 1 five ∷ []) (start 1))).site).room ≡ 200
  -- the logs are not the same, byte for byte
  differ : same_bytes (dids_text (six ∷ five ∷ seven ∷ [])) (dids_text (five ∷ six ∷ seven ∷ [])) ≡ false

computed : Both
computed =
    unfold replaced_with profile_of entered_with enter_with enter_all_with cell_from_with cell_with start_cell touches runs_at can_run_with unless in
    unfold open_full open_refusal opened open_site blocked_by blocked may_run_now ready attempt try_from made_ready never_now holds_never in
    unfold overtaken not_overtaken overtaken_ids nothing_orders id_pending id_done already_done read_overtaken at_highest table_full in
    unfold add_refusal arrived add change_of line_of values_after in_progress future without log_full finished finish_found finish in
    unfold withdraw_refusal withdraw persistent above_mark stable_full stable_refusal stabled stable show restarted restart_as restart in
    unfold cut_above base_cut cut base_cell_at trimmed_base trimmed_lines trim_text trim_above trim_full trim_refusal changeover closing stale in
    unfold redo_refusal behind pick drain delivered redo_read redo end writable_update writable perform step check and_then wrong_count in
    unfold no_such_history history_twice update_misfits change_misfits_with form_refusal updates_refusal changes_refusal_with stables_from in
    unfold stables_at weave_from mark_from up_to_did reported ended dids_text lines_text log_text head_text lines_from rest_from histories_fit in
    unfold accepts_with rises follows live_in table_holds in_order base_fits read_lines read_second read_first read_log log_bytes version_at in
    unfold live_done live asks dry became_dry rose line_bytes bytes_of settle below digits_within digits more number word field_text in
    unfold fields_text items_text tail_text list_text change_text one_text site_text did_text base_cell_text base_text stable_text line_text in
    unfold reading.field reading.done_rule reading.change reading.one reading.did reading.items reading.tail reading.line read_whole in
    unfold read_did read_line reading.base_cell reading.base read_base read_site counted_after comes_after lost_by add_when redo_read_when in
    unfold redo_when lastly cut_when changeover_when perform_when step_when run_in counted_in came_in slot_at with_slot others live_of lacks in
    unfold free taken uncovered meets_ten promised_again reply_of promise_of next_of same_bytes in
    record {
      opens = refl;
      first = record { is_open = refl; none_counted = refl; cuts = refl; room = refl; before = refl; gone = refl; come = tt; final = refl };
      second = record { is_open = refl; none_counted = refl; cuts = refl; room = refl; before = refl; gone = refl; come = tt; final = refl };
      again = refl;
      room_again = refl;
      differ = refl;
    }

-- Nothing is counted persistent, so every accepted cut into a buffer of 200 bytes is fair.
fair_at : (i c k : ℕ) (y : Move) (w : Module) (to : State) (answer : Answer) → c ≡ 0 → own_of i y ≡ some (Cut k 200) →
    reply_of y w ≡ ok to answer → (site_or (slot_at i w).site).room ≡ 200 → FairIn (in_slot i) c k 200 y w to
fair_at i c k y w to answer none_of o r wide =
    record {
      is_cut = o;
      answer = answer;
      accepted = r;
      keeps = λ l m. absurd (Memᴰ.not-nil (mem_along (ap (λ (n : ℕ). take n (lines_in (site_or (slot_at i w).site))) none_of) m));
      no_shorter = omega (arith, wide);
    }

come_at : (lines : List (List ℕ)) → T (all (λ d. any (same_bytes (did_text d)) lines) lost) → (d : Did) → Mem d lost → Comes lines d
come_at lines t d m = found (any_at (same_bytes (did_text d)) lines (all-at (λ e. any (same_bytes (did_text e)) lines) lost t d m))
  where
    found : (l : List ℕ) × Mem l lines × T (same_bytes (did_text d) l) → Comes lines d
    found (l, k, s) = Memᴰ.cast (same_bytes_lem (did_text d) l s) k

list : (i j : ℕ) (ys : List Move) (log : List Did) → Computed i j ys log → T (all (goes_on i) (xs i j ++ x i ∷ ys)) →
    own_of i (x i) ≡ some (Cut 20 200) →
    AllAllowed i 0 (start i) (λ a. xs i j ++ x i ∷ a) lost [] ys → SlotList i every
list i j ys log C on own allowed =
    record {
      counts = 0;
      start = start i;
      fits = fits_next (Open i 2 200) made fits-made;
      site = opened 2 200;
      is_open = C.is_open;
      begins = just_opened 2 200 (opened 2 200) Opened computed.opens;
      xs = xs i j;
      x = x i;
      k = 20;
      room = 200;
      ys = ys;
      after = after;
      on = on;
      fair =
          fair_at i (counted_in (in_slot i) 0 (xs i j) (start i)) 20 (x i) (run_in (in_slot i) (xs i j) (start i)) after (Restarted 0 9)
          C.none_counted own C.cuts C.room;
      asked =
          subst (λ (l : List Did). AskedIn (in_slot i) 0 (start i) (λ a. xs i j ++ x i ∷ a) ys l every) (sym C.gone)
          (asked_of i 0 (start i) (λ a. xs i j ++ x i ∷ a) lost ys allowed
          (come_at (came_in (in_slot i) [] (xs i j ++ x i ∷ ys) (start i)) C.come));
    }

is_five : Mem five lost
is_five = here refl

is_six : Mem six lost
is_six = there (here refl)

is_seven : Mem seven lost
is_seven = there (there (here refl))

list_one : SlotList 0 every
list_one =
    list 0 1 one (six ∷ five ∷ seven ∷ []) computed.first tt refl
    (brought seven is_seven refl, (anothers refl, (brought six is_six refl, (brought five is_five refl, tt))))

list_other : SlotList 1 every
list_other =
    list 1 0 other (five ∷ six ∷ seven ∷ []) computed.second tt refl (
      brought five is_five refl,
      (
        fair_cut 25 200 refl (λ to answer r. fair_at 1 _ 25 (At 1 (Cut 25 200)) _ to answer computed.again refl r computed.room_again),
        (anothers refl, (brought five is_five refl, (brought six is_six refl, (brought seven is_seven refl, tt)))),
      ),
    )

-- "It is to hold .. for the compact module and with further cuts between": the logs differ, and are rearrangements of each other and of
-- the log before the cut, with line 7 last in all three.
two_slots : AllThree (five ∷ six ∷ seven ∷ []) (six ∷ five ∷ seven ∷ []) (five ∷ six ∷ seven ∷ [])
unfolding list_one list_other list
two_slots =
    subst (λ (l : List Did). AllThree l (six ∷ five ∷ seven ∷ []) (five ∷ six ∷ seven ∷ [])) computed.first.before
    (subst (λ (l : List Did). AllThree (before_cut list_one).log l (five ∷ six ∷ seven ∷ [])) computed.first.final
    (subst (λ (l : List Did). AllThree (before_cut list_one).log (at_end list_one).log l) computed.second.final
    (slot_orders 0 1 list_one list_other (computed.first.before ∙ sym computed.second.before))))
