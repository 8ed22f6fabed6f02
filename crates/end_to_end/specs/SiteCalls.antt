-- "The calls are the site's own, not the session's": the recovery claim of what the code's site does, by its contracts alone.
-- Proved in SiteCallsLaws.
use Rattle.std.specs.Prelude.{◌≡◌, ◌⊎◌, Bool, List, [], ◌∷◌, ◌++◌, ℕ, ◌≤◌, ◌<◌, T, length, take, get_or, Result, Ok, Err, Option}
use Rattle.std.proofs.Math.Option as option
use mathlib.Core.List.{Memᴰ as Mem}
use Rattle.forms.specs.Limits.{live_limit}
use Rattle.forms.specs.Forms.{Did, Line, Answer, Ended, Shown}
use Rattle.rules.specs.Book.{Cell, cell}
use Rattle.rules.specs.Log.{dids, dids_text, log_text}
use Rattle.rules.specs.State.{State, Reply, refused, ok, start_of, lines_in}
use Rattle.rules.specs.Calls.{open_site, restart, Call, Show, Cut, Changeover, End}
use Rattle.rules.specs.Poll.{busy, poll}
use Rattle.rules.specs.Run.{run}
use Rattle.rule_laws.specs.Good.{did_ids}
use Rattle.recovery.specs.Claim.{counted, Fair, lost_by, came, Asked, Recovered}
use Rattle.site.specs.declared.Site.{Site}
use Rattle.site.specs.declared.CallResult.{CallResult}
use Rattle.site.specs.declared.poll.PollAnswer.{PollAnswer}
use Rattle.history.specs.Words.{busy_in}
use Rattle.table.specs.declared.EntryNumber.{EntryNumber}
use Rattle.table.specs.Tables.{live_numbers, entry_of}
use Rattle.site.specs.OpenLaws.{blank_site}
use Rattle.site.specs.EntryOf.{EntryIs}
use Rattle.site.specs.Polls.{polled_of, Polls}
use Rattle.forms.specs.declared.Refusal.{Refusal}
use Rattle.trim.specs.Model.{CopiesLog}
use Rattle.site.specs.Model.{Lent, view, Valid, AcceptedAs, Opens, Steps, StepsWithin}

-- ### Calls of the code's site

-- A site by value, and what the caller lends to it.
pub record Memory : Type 0 where
  pub site : Site
  pub lent : Lent

abbrev pub memory : Site → Lent → Memory
memory s m = record { site = s; lent = m }

-- the state that they are, and the invariant of the two
abbrev pub state_in : Memory → State
state_in x = view x.site x.lent

abbrev pub ValidIn : Memory → Type 0
ValidIn x = Valid x.site x.lent

-- The site is alone: the order has 64 entries that it may use.
abbrev pub Alone : Memory → Type 0
Alone x = length x.lent.order ≡ live_limit

-- the bytes in use of the log buffer
abbrev pub log_in : Memory → List ℕ
log_in x = take x.site.used x.lent.log

-- "Each call gets site and log as the last one left them, a refused one unchanged": where a restart into another buffer goes on.
abbrev pub goes_on_from : Reply → Memory → Memory → Memory
goes_on_from (refused q) old new = old
goes_on_from (ok st a) old new = new

-- 02 (h): "A cut without the whole base line is refused 15, since the site knows that its log has one. A restart from such bytes alone
-- cannot know": only bytes with all of a base line are handed to `Site::restart`; without a base line any are.
abbrev pub KeepsBase : Memory → ℕ → Type 0
KeepsBase x k = ((state_in x).base ≡ option.none) ⊎ (x.site.head ≤ k)

-- One call of the list, a transition: from the site and what is lent to it before the call, to those after it.
pub data Transition (x : Memory) : Call → Memory → Type 0 where
  -- a call that keeps its contract: add, finish, withdraw, persistent, stable, show, redo, end, and a cut that goes on in the same buffer
  -- (those that take no entries promise `Steps`, from which this follows: `steps-within`)
  calls : (c : Call) (r : CallResult) (new : Lent) → StepsWithin x.site x.lent c r new → Transition x c (memory r.site new)
  -- "A cut in the list is a restart from them": the first k bytes of the log stand in another buffer; `Site::restart` keeps its contract
  restarts : (k : ℕ) (buffer : Lent) (r : CallResult) (new : Lent) → KeepsBase x k → k ≤ x.site.used →
      take k buffer.log ≡ take k x.lent.log →
      Opens blank_site buffer (restart buffer.log k) r new →
      Transition x (Cut k (length buffer.log)) (goes_on_from (restart buffer.log k) x (memory r.site new))
  -- 02 (h): "A new call copies the log into a fresh lent buffer and replies the bytes used", and "the owner changes over, by a restart
  -- from the whole fresh log": `trim` keeps its contract, and so does `Site::restart` with all bytes that it replied
  changes_over : (n : ℕ) (fresh : List ℕ) (c : Result ℕ Refusal) (copy : List ℕ) → CopiesLog x.site x.lent.log n fresh c copy →
      (used : ℕ) → c ≡ Ok used → (buffer : Lent) → buffer.log ≡ copy → (r : CallResult) (new : Lent) →
      Opens blank_site buffer (restart buffer.log used) r new → Transition x (Changeover n (length fresh)) (memory r.site new)
  -- .. and where `trim` refuses, there is nothing to restart from: site and log are as they were
  stays_with : (n : ℕ) (fresh : List ℕ) (c : Result ℕ Refusal) (copy : List ℕ) → CopiesLog x.site x.lent.log n fresh c copy →
      (q : Refusal) → c ≡ Err q → Transition x (Changeover n (length fresh)) x

-- A list of calls, one after the other: an execution.
pub data Execution : Memory → List Call → Memory → Type 0 where
  none : (x : Memory) → Execution x [] x
  next : {x y z : Memory} {c : Call} {cs : List Call} → Transition x c y → Execution y cs z → Execution x (c ∷ cs) z

-- "The list starts at a site just opened, or restarted from any log that restart accepts": by the contracts of `Site::open` and
-- `Site::restart`, with the number of lines behind the site line and the base line that count as persistent there, stable lines too.
pub data StartsSite : ℕ → Memory → Type 0 where
  opens : (n : ℕ) (old : Lent) (r : CallResult) (new : Lent) (st : State) (a : Answer) →
      Opens blank_site old (open_site n (length old.log)) r new → open_site n (length old.log) ≡ ok st a →
      StartsSite 0 (memory r.site new)
  restarted : (k : ℕ) (old : Lent) (r : CallResult) (new : Lent) (st : State) (a : Answer) →
      Opens blank_site old (restart old.log k) r new → restart old.log k ≡ ok st a →
      StartsSite (length (lines_in (state_in (memory r.site new)))) (memory r.site new)

-- ### What the site shows

-- The reply to a call c of the site, by its contract, whatever is handed back: this answer.
abbrev pub AnswersCall : Memory → Call → Answer → Type 0
AnswersCall x c a =
    (r : CallResult) (new : Lent) → Steps x.site x.lent c r new → (st : State) × AcceptedAs x.lent.order x.lent st a r new

-- `show` replies version, place and profile of the cell.
abbrev pub ShowsIn : Memory → ℕ → Cell → Type 0
ShowsIn x h c = (persistent : ℕ) × (stable : ℕ) × AnswersCall x (Show h) (Shown h c.version persistent stable c.place c.profile)

-- What holds at the list's end: the claim, of the states that the site and what is lent to it are; and so of its bytes and replies.
pub record RecoveredIn (before after : Memory) (lost : List Did) (chosen : Did → Bool) (lines : List (List ℕ)) (final : Memory)
    : Type 0 where
  pub claim : Recovered (state_in before) (state_in after) lost chosen lines (state_in final)
  -- the invariant, which every further call requires
  pub valid : ValidIn final
  -- the first log: the bytes in use just before the picked cut are the lines that it kept, and then others: the lost lines are the did
  -- lines among these, and stable lines that are gone stand between them
  pub gone : List Line
  pub gone_are : dids gone ≡ lost
  pub first_bytes : log_in before ≡ log_text before.site.count (state_in before).base (lines_in (state_in after) ++ gone)
  -- (2) the bytes in use at the end are "the lines the picked cut kept, then each line that has run, once, byte for byte, and no more":
  -- the base line and stable lines are among those kept
  pub bytes : log_in final ≡ log_text before.site.count (state_in before).base (lines_in (state_in after)) ++ dids_text claim.ran
  -- (3) "`end` would name the other chosen lines"
  pub names : AnswersCall final End (Ended (did_ids claim.others))
  -- (4) "`show` of each history gives the book's profile, version and place"; 02 (h): "the book of 01 starts from its base line"
  pub shows : (h : ℕ) → h < before.site.count → ShowsIn final h (cell (start_of (state_in before)) h ((state_in after).log ++ claim.fed))
  -- (5) "if every lost line was chosen, also those just before the picked cut"
  pub shows_first : ((d : Did) → Mem d lost → T (chosen d)) → (h : ℕ) → h < before.site.count →
      (c : Cell) × ShowsIn before h c × ShowsIn final h c

-- Whatever calls are made of the code's site, each keeping its contract, changeovers too before the picked cut: if they are as 01's claim
-- asks, with no changeover behind that cut, then at the end the bytes of its log, what `show` replies and what `end` would reply are those
-- that the claim says.
abbrev pub SiteCallsClaim : Type 0
SiteCallsClaim =
    (m : ℕ) (start : Memory) → StartsSite m start →
    (xs : List Call) (before : Memory) → Execution start xs before →
    (k room : ℕ) (after : Memory) → Transition before (Cut k room) after →
    (ys : List Call) (final : Memory) → Execution after ys final →
    (chosen : Did → Bool) →
    Fair (counted m xs (state_in start)) k room (state_in before) (state_in after) →
    Asked m (state_in start) (λ a. xs ++ Cut k room ∷ a) ys (lost_by (state_in before) (state_in after)) chosen →
    RecoveredIn before after (lost_by (state_in before) (state_in after)) chosen (came (xs ++ Cut k room ∷ ys) (state_in start)) final

-- ### The entry of an id

-- What `Site::entry_of` gives, by its contract.
abbrev pub entry_in : Memory → ℕ → Option EntryNumber
entry_in x id = entry_of x.lent.rows id (live_numbers x.site.table x.lent.order)

-- In every state that calls reach from a site just opened or restarted, `entry_of` gives the one entry of a live id, and none exactly if
-- the id is not live; live it is by the state that `run` of the calls gives.
abbrev pub EntryClaim : Type 0
EntryClaim =
    (m : ℕ) (start : Memory) → StartsSite m start →
    (cs : List Call) (x : Memory) → Execution start cs x →
    (id : ℕ) → (state_in x ≡ run cs (state_in start)) × EntryIs x.site x.lent id (entry_in x id)

-- ### The poll of a history

-- A site and what is lent to it hold for each history "the number of its future, in-progress and volatile updates" in the state st, each at
-- most 64; and whatever `Site::poll` gives by its contract is what the specification says of st: dry exactly if the history is dry there, 3
-- for a history that is not there.
pub record PollsAs (x : Memory) (st : State) : Type 0 where
  pub state : state_in x ≡ st
  pub number : (h : ℕ) → h < x.site.count → get_or (busy_in x.lent.book) h 0 ≡ busy st h
  pub few : (h : ℕ) → h < x.site.count → get_or (busy_in x.lent.book) h 0 ≤ live_limit
  pub answer : (h : ℕ) (r : PollAnswer) → Polls x.site x.lent.book h r → polled_of r ≡ poll h st

-- "true after every call, restart and redo from a newly opened or restarted site": in every state that calls reach from such a site; the
-- state is the one that `run` of the calls gives.
abbrev pub PollClaim : Type 0
PollClaim =
    (m : ℕ) (start : Memory) → StartsSite m start →
    (cs : List Call) (x : Memory) → Execution start cs x →
    PollsAs x (run cs (state_in start))
