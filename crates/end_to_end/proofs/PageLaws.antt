-- The claim at the printed page, proved.
use Rattle.std.specs.Prelude.{◌≡◌, Bool, false, not, ℕ, ◌≤◌, ◌<◌, T, leb, ltb, length}
use Rattle.std.proofs.Math.Path.{refl, ap}
use Rattle.std.proofs.Common.{sym, ap₂, ◌∙◌, subst, arith, length-append}
use Rattle.std.proofs.Math.Option.{Option, none, some}
use mathlib.Core.List.{List, [], ◌∷◌, ◌++◌, append_assoc, append-nil, Memᴰ as Mem}
use Rattle.std.proofs.Math.Dec.{leb→le}
use Rattle.forms.specs.Decimal.{Step, top}
use Rattle.forms.specs.Decimal.Step.{got, bad}
use Rattle.forms.specs.DecimalLaws.{digits-at_most}
use Rattle.forms.specs.Words.{bytes}
use Rattle.forms.specs.ListLaws.{true_T, T_true}
use Rattle.forms.specs.Forms.{Base, Command, Did, Answer, Outcome, Opened, Shown, Ended, one_text, site_text, did_text, command_text}
use Rattle.forms.specs.Forms.{answer_text, outcome_text}
use Rattle.forms.specs.Reading.{read_command}
use Rattle.forms.specs.declared.Refusal.TheVariants.{Unreadable, WrongCount, NoSuchHistory, NoRoom, AboveLimit}
use Rattle.forms.specs.CommandLaws.{command-written}
use Rattle.rules.specs.Book.{Cell, blank_base, base_of, cell}
use Rattle.rules.specs.Log.{ended, histories_fit}
use Rattle.forms.specs.Limits.{log_limit, line_limit}
use Rattle.rules.specs.State.{State, Reply, refused, ok, settle, start_of, stable_to, version_at}
use Rattle.rules.specs.Calls.{open_full, open_refusal, open_site, opened, Call, show, writable, perform, step}
use Rattle.rule_laws.specs.CheckLaws.{check_none, none_check, unless_none, le_not_lt, unless_ok, unless-check, not-false}
use Rattle.rule_laws.specs.LogLaws.{histories_most}
use Rattle.rule_laws.specs.FitLaws.{length-ended}
use Rattle.forms.specs.LengthLaws.{site-length}
use Rattle.rule_laws.specs.Good.{did_ids}
use Rattle.rule_laws.specs.GoodLaws.{good_open, good-run}
use Rattle.rules.specs.Run.{run}
use Rattle.rules.specs.Session.{Session, Turn, turn_of, opening, calling, obey, on_command, turn, replies, after_lines, rest_reply, session_in}
use Rattle.rules.specs.Session.{session}
use Rattle.recovery.specs.Claim.{just_opened, counted, Fair, lost_by, came, Shows, Recovered}
use Rattle.recovery.proofs.Ending.{closed-every, just_all, just_one}
use Rattle.recovery.proofs.Recovery.{run-append, show_is, recovery}
use Rattle.recovery.proofs.Cuts.{ok_state}
use Rattle.end_to_end.proofs.FrameLaws.{Frame, frame_lines}
use Rattle.end_to_end.specs.Page.{call_of, call_read, calls_of, Text, fitting, cut_fitting, asking, sheet, Prints, PrintsWaiting}
use Rattle.end_to_end.specs.Page.{PageClaim, ProgramClaim}

-- ### A line of a session with a site

turn_call : (c : Call) (st : State) → (calling c (some st)).after ≡ some (run (c ∷ []) st)
unfolding calling run turn_of settle
turn_call c st = go (step c st)
  where
    go : (r : Reply) → (turn_of r (some st)).after ≡ some (settle r st)
    go (refused r) = refl
    go (ok after answer) = refl

turn_form : (room : ℕ) (c : Command) (st : State) → (obey room c (some st)).after ≡ some (run (call_of room c) st)
unfolding obey call_of opening turn_of run
turn_form room (Command.SiteOf n) st = refl
turn_form room (Command.Add i us) st = turn_call (Call.Add i us) st
turn_form room (Command.Finish i) st = turn_call (Call.Finish i) st
turn_form room (Command.Withdraw i) st = turn_call (Call.Withdraw i) st
turn_form room (Command.Persistent n) st = turn_call (Call.Persistent n) st
turn_form room (Command.Stable n) st = turn_call (Call.Stable n) st
turn_form room (Command.Show h) st = turn_call (Call.Show h) st
turn_form room (Command.Cut k) st = turn_call (Call.Cut k room) st
turn_form room (Command.Redo d) st = turn_call (Call.Redo (did_text d)) st
turn_form room Command.End st = turn_call Call.End st

-- Any line does to the session what its call does to the site.
pub turn-after : (room : ℕ) (l : List ℕ) (st : State) → (turn room l (some st)).after ≡ some (run (call_read room (read_command l)) st)
unfolding turn on_command call_read turn_of run
turn-after room l st = go (read_command l)
  where
    go : (x : Step Command) → (on_command room x (some st)).after ≡ some (run (call_read room x) st)
    go bad = refl
    go (got c rest) = turn_form room c st

-- So do some lines.
pub lines_after : (room : ℕ) (ls : List (List ℕ)) (st : State) → after_lines room ls (some st) ≡ some (run (calls_of room ls) st)
unfolding after_lines calls_of run
lines_after room [] st = refl
lines_after room (l ∷ ls) st =
    ap (after_lines room ls) (turn-after room l st)
    ∙ lines_after room ls (run (call_read room (read_command l)) st)
    ∙ ap (λ (x : State). some x) (sym (run-append (call_read room (read_command l)) (calls_of room ls) st))

pub calls-append : (room : ℕ) (a b : List (List ℕ)) → calls_of room (a ++ b) ≡ calls_of room a ++ calls_of room b
unfolding calls_of
calls-append room [] b = refl
calls-append room (l ∷ a) b =
    ap (λ (x : List Call). call_read room (read_command l) ++ x) (calls-append room a b)
    ∙ sym (append_assoc (call_read room (read_command l)) (calls_of room a) (calls_of room b))

-- ### The last line

-- The replies to some lines and one more.
pub replies-last : (room : ℕ) (ls : List (List ℕ)) (l : List ℕ) (s : Session) →
    replies room (ls ++ l ∷ []) s ≡ replies room ls s ++ ended (outcome_text (turn room l (after_lines room ls s)).reply)
unfolding replies after_lines
replies-last room [] l s = append-nil (ended (outcome_text (turn room l s).reply))
replies-last room (x ∷ ls) l s =
    ap (λ (y : List ℕ). ended (outcome_text (turn room x s).reply) ++ y) (replies-last room ls l (turn room x s).after)
    ∙ sym (append_assoc (ended (outcome_text (turn room x s).reply)) (replies room ls (turn room x s).after) _)

-- A session whose text ends in the line l: the replies to the earlier lines, and then the reply to l.
pub session-last : (room : ℕ) (ls : List (List ℕ)) (l input : List ℕ) → Text input (ls ++ l ∷ []) →
    session_in room input ≡ replies room ls none ++ ended (outcome_text (turn room l (after_lines room ls none)).reply)
unfolding session_in rest_reply
session-last room ls l input text =
    ap₂ (λ (x : List (List ℕ)) (y : List ℕ). replies room x none ++ rest_reply y) text.whole text.rest
    ∙ append-nil (replies room (ls ++ l ∷ []) none)
    ∙ replies-last room ls l none

-- ### Printed forms are read

pub one-short : (w : List ℕ) (n : ℕ) → length w ≤ 100 → n ≤ top → length (one_text w n) ≤ line_limit
unfolding one_text
one-short w n h few = simp length-append (let d = digits-at_most n few in omega arith)

pub site_form : (n : ℕ) → n ≤ top → read_command (command_text (Command.SiteOf n)) ≡ got (Command.SiteOf n) []
unfolding command_text site_text
site_form n h = command-written (Command.SiteOf n) h (one-short (bytes "(site ") n (omega arith) h)

pub show_form : (h : ℕ) → h ≤ top → read_command (command_text (Command.Show h)) ≡ got (Command.Show h) []
unfolding command_text
show_form n h = command-written (Command.Show n) h (one-short (bytes "(show ") n (omega arith) h)

pub cut_form : (k : ℕ) → k ≤ top → read_command (command_text (Command.Cut k)) ≡ got (Command.Cut k) []
unfolding command_text
cut_form n h = command-written (Command.Cut n) h (one-short (bytes "(cut ") n (omega arith) h)

pub end_form : read_command (command_text Command.End) ≡ got Command.End []
unfolding command_text
end_form = command-written Command.End tt (omega arith)

-- ### The paper

-- What an accepted `(site N)` says.
pub record PageOpens (room n : ℕ) (s : State) : Type 0 where
  pub fits : T (histories_fit n)
  pub site : s ≡ opened n room

opens : (room n : ℕ) (s : State) (answer : Answer) → open_site n room ≡ ok s answer → PageOpens room n s
unfolding open_site open_refusal
opens room n s answer e =
    let q = unless_ok _ _ s answer e in
    let q2 = check_none _ WrongCount _ q.0 in
    record { fits = true_T (histories_fit n) (not-false (histories_fit n) q2.0); site = sym (ok_state (opened n room) s _ answer q.1) }

-- After `(site N)` the site is open.
turn-site : (room n : ℕ) (s : State) (answer : Answer) → open_site n room ≡ ok s answer →
    (turn room (command_text (Command.SiteOf n)) none).after ≡ some s
unfolding turn on_command obey opening turn_of
turn-site room n s answer e =
    ap (λ (x : Step Command). (on_command room x none).after) (site_form n (omega (arith, histories_most n (opens room n s answer e).fits)))
    ∙ ap (λ (x : Reply). (turn_of x none).after) e

same_marks : (st : State) (h v p s place profile v' p' s' place' profile' : ℕ) →
    ok st (Shown h v p s place profile) ≡ ok st (Shown h v' p' s' place' profile') → (p' ≡ p) × (s' ≡ s)
same_marks st h v p s place profile v' p' s' place' profile' e = (cc, cc)

-- `show` of a history that the site has: its persistent and stable version are by the site's marks.
shown : (h : ℕ) (st : State) (c : Cell) → Shows st h c →
    step (Call.Show h) st
    ≡ ok st (Shown h c.version (version_at st.persistent_to h st) (version_at (stable_to st) h st) c.place c.profile)
unfolding step perform show
shown h st c (p, q, e) =
    let found = (unless-check _ NoSuchHistory _ st _ (unless-check _ Unreadable _ st _ e).1).1 in
    let same = same_marks st h _ _ _ _ _ c.version p q c.place c.profile found in
    e ∙ ap₂ (λ (x y : ℕ). ok st (Shown h c.version x y c.place c.profile)) same.0 same.1

-- If every lost line was chosen, each history shows at the end what the book of the first log holds.
pub shows_first_lem : (before after : State) (lost : List Did) (chosen : Did → Bool) (lines : List (List ℕ)) (final : State) →
    Recovered before after lost chosen lines final → ((d : Did) → Mem d lost → T (chosen d)) → (h : ℕ) → h < before.histories →
    Shows final h (cell (start_of before) h before.log)
shows_first_lem before after lost chosen lines final R every h lt =
    subst (λ (β : Option Base). Shows final h (cell (base_of β) h before.log)) R.same_base
    (subst (λ (l : List Did). Shows final h (cell (start_of after) h l))
    (ap (λ (l : List Did). after.log ++ l) (just_one R.fed_are lost (just_all lost (closed-every lost chosen every))) ∙ sym R.first)
    (R.shows h lt))

-- A session that comes to the site st at its last line, a form that is a call which the site accepts.
last_accepted : (room : ℕ) (lines : List (List ℕ)) (f : Command) (c : Call) (st after : State) (answer : Answer) →
    read_command (command_text f) ≡ got f [] → ((x : Session) → obey room f x ≡ calling c x) →
    after_lines room lines none ≡ some st → step c st ≡ ok after answer →
    (input : List ℕ) → Text input (lines ++ command_text f ∷ []) →
    session_in room input ≡ replies room lines none ++ ended (answer_text answer)
unfolding turn on_command calling turn_of outcome_text
last_accepted room lines f c st after answer reads is at e input text =
    session-last room lines (command_text f) input text
    ∙ ap (λ (x : Outcome). replies room lines none ++ ended (outcome_text x))
    (ap₂ (λ (x : Step Command) (y : Session). (on_command room x y).reply) reads at
    ∙ ap (λ (x : Turn). x.reply) (is (some st))
    ∙ ap (λ (x : Reply). (turn_of x (some st)).reply) e)

prints_at : (room : ℕ) (lines : List (List ℕ)) (h : ℕ) (c : Cell) (st : State) → h ≤ top → after_lines room lines none ≡ some st →
    Shows st h c →
    Prints room lines h c st
unfolding obey sheet
prints_at room lines h c st low at shows input text =
    last_accepted room lines (Command.Show h) (Call.Show h) st st _ (show_form h low) (λ x. refl) at (shown h st c shows) input text

waits-at : (room : ℕ) (lines : List (List ℕ)) (ids : List ℕ) (st : State) → after_lines room lines none ≡ some st →
    (after : State) → step Call.End st ≡ ok after (Ended ids) → PrintsWaiting room lines ids
unfolding obey
waits-at room lines ids st at after e input text =
    last_accepted room lines Command.End Call.End st after (Ended ids) end_form (λ x. refl) at e input text

module _
    (room n : ℕ) (s : State) (answer : Answer) (opening_ok : open_site n room ≡ ok s answer) (first : List (List ℕ)) (k : ℕ)
    (later : List (List ℕ))
    (after : State) (chosen : Did → Bool) (fair : Fair (counted 0 (calls_of room first) s) k room (run (calls_of room first) s) after) where
  -- Where the lines before the picked cut bring the session, and where all lines bring it.
  to_cut_lem : after_lines room (fitting n first) none ≡ some (run (calls_of room first) s)
  unfolding after_lines
  to_cut_lem = ap (after_lines room first) (turn-site room n s answer opening_ok) ∙ lines_after room first s

  cut_low : k ≤ top
  unfolding step writable
  cut_low =
      leb→le k top (true_T (leb k top) (not-false (leb k top)
      (unless-check (not (leb k top)) Unreadable _ after fair.answer fair.accepted).0))

  calls_are : calls_of room (first ++ command_text (Command.Cut k) ∷ later) ≡ calls_of room first ++ Call.Cut k room ∷ calls_of room later
  unfolding calls_of call_read call_of
  calls_are =
      calls-append room first (command_text (Command.Cut k) ∷ later)
      ∙ ap (λ (x : Step Command). calls_of room first ++ (call_read room x ++ calls_of room later)) (cut_form k cut_low)

  to_end : after_lines room (cut_fitting n first k later) none ≡ some (run (calls_of room first ++ Call.Cut k room ∷ calls_of room later) s)
  unfolding after_lines
  to_end =
      ap (after_lines room (first ++ command_text (Command.Cut k) ∷ later)) (turn-site room n s answer opening_ok)
      ∙ lines_after room (first ++ command_text (Command.Cut k) ∷ later) s
      ∙ ap (λ (x : List Call). some (run x s)) calls_are

  frame_first : Frame n room (run (calls_of room first) s)
  frame_first =
      frame_lines n room first s (good_open n room s answer opening_ok)
      (subst (Frame n room) (sym (opens room n s answer opening_ok).site)
      (unfold opened in record { n_is = refl; room_is = refl; base_is = refl }))

  at_first : (h : ℕ) → h < n → h < (run (calls_of room first) s).histories
  at_first h known = subst (λ (i : ℕ). h < i) (sym frame_first.n_is) known

  -- The log of a session has no base line: the book starts from nothing.
  pub starts_blank : start_of (run (calls_of room first) s) ≡ blank_base
  starts_blank = ap base_of frame_first.base_is

  low : (h : ℕ) → h < n → h ≤ top
  low h known = omega (arith, histories_most n (opens room n s answer opening_ok).fits)

  -- What `(show H)` prints in the place of the cut.
  prints_first_lem : (h : ℕ) → h < n →
      Prints room (fitting n first) h (cell blank_base h (run (calls_of room first) s).log) (run (calls_of room first) s)
  prints_first_lem h known =
      prints_at room (fitting n first) h (cell blank_base h (run (calls_of room first) s).log) (run (calls_of room first) s) (low h known)
      to_cut_lem
      (subst (λ (σ : Base). Shows (run (calls_of room first) s) h (cell σ h (run (calls_of room first) s).log)) starts_blank
      (show_is h (run (calls_of room first) s) (good-run (calls_of room first) s (good_open n room s answer opening_ok)) (at_first h known)))

-- The claim at the printed page.
pub page : PageClaim
page room n s answer e first k later after chosen fair asked =
    record {
      recovered = R;
      prints = λ h known. prints_at room lines h (cell blank_base h (after.log ++ R.fed)) final (low' h known) end-at
          (subst (λ (σ : Base). Shows final h (cell σ h (after.log ++ R.fed))) (ap base_of R.same_base ∙ blank)
          (R.shows h (at_first' h known)));
      prints_first = λ every h known. (
        prints_first_lem room n s answer e first k later after chosen fair h known,
        prints_at room lines h (cell blank_base h before.log) final (low' h known) end-at
            (subst (λ (σ : Base). Shows final h (cell σ h before.log)) blank
            (shows_first_lem before after (lost_by before after) chosen _ final R every h (at_first' h known))),
      );
      prints_others = λ input text. waits-at room lines (did_ids R.others) final end-at R.named.0 R.named.1 input text;
    }
  where
    before : State
    before = run (calls_of room first) s

    final : State
    final = run (calls_of room first ++ Call.Cut k room ∷ calls_of room later) s

    lines : List (List ℕ)
    lines = cut_fitting n first k later

    R : Recovered before after (lost_by before after) chosen (came (calls_of room first ++ Call.Cut k room ∷ calls_of room later) s) final
    R = recovery 0 s (just_opened n room s answer e) (calls_of room first) k room (calls_of room later) after chosen fair asked

    end-at : after_lines room lines none ≡ some final
    end-at = to_end room n s answer e first k later after chosen fair

    at_first' : (h : ℕ) → h < n → h < before.histories
    at_first' = at_first room n s answer e first k later after chosen fair

    blank : start_of before ≡ blank_base
    blank = starts_blank room n s answer e first k later after chosen fair

    low' : (h : ℕ) → h < n → h ≤ top
    low' = low room n s answer e first k later after chosen fair

-- ### The session program

-- `(site N)` with N from 1 to 16 opens the site.
pub site_opens : (n : ℕ) → T (histories_fit n) → open_site n log_limit ≡ ok (opened n log_limit) Opened
unfolding open_site open_refusal open_full
site_opens n h =
    unless_none _ _ (none_check _ WrongCount _ some_histories
    (none_check _ NoRoom _ (le_not_lt log_limit (length (ended (site_text n)))
    (omega (arith, length-ended (site_text n), site-length n (histories_most n h))))
    (none_check (ltb log_limit log_limit) AboveLimit none refl refl)))
  where
    some_histories : not (histories_fit n) ≡ false
    some_histories = rw (T_true (histories_fit n) h)

pub program : ProgramClaim
program n h first k later after chosen fair asked =
    page log_limit n (opened n log_limit) Opened (site_opens n h) first k later after chosen fair asked

-- What is said of a session over a buffer of 65,536 bytes is said of the program's session.
pub prints_session : (lines : List (List ℕ)) (h : ℕ) (c : Cell) (st : State) → Prints log_limit lines h c st →
    (input : List ℕ) → Text input (asking lines h) → session input ≡ replies log_limit lines none ++ sheet h c st
unfolding session
prints_session lines h c st p = p
