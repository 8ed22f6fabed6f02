-- Records by value over the numbers of the lent array, and what each call promises.
use Rattle.std.specs.Prelude.{ℕ, suc, ◌+◌, ◌*◌, ◌≤◌, ◌<◌, ◌≡◌, Bool, true, false, cond, List, [], ◌∷◌, map, length, get_or, drop, Option, Some, None, option_map, Result, Ok, Err}
use Rattle.forms.specs.Lists.{below}
use Rattle.forms.specs.declared.Refusal.{Refusal}
use Rattle.rules.specs.Records as book
use Rattle.forms.specs.Limits.{record_limit}
use Rattle.rules.specs.Records.{sites_of, RecordReply, records_after}
use Rattle.history.specs.Words.{within}
use Rattle.records.specs.declared.Records.{Records}
use Rattle.records.specs.declared.Answer.{Answer}
use Rattle.records.specs.declared.Answer.TheVariants.{Done, Persistent, NotPersistent}
use Rattle.records.specs.declared.words.Record.{Record}

-- ### What the numbers say

-- How many numbers a record has: its id, its masks of sites sent to, of full copies and of reports, its threshold. Those of record i
-- begin at `width * i`.
abbrev pub width : ℕ
width = 5

-- record i; a number that is no mask of 8 bits stands for no site
unfoldable pub record_from : List ℕ → ℕ → Record
record_from ws i =
    record {
      id = get_or ws (width * i) 0;
      sent = within 256 (get_or ws (width * i + 1) 0);
      full = within 256 (get_or ws (width * i + 2) 0);
      reported = within 256 (get_or ws (width * i + 3) 0);
      threshold = get_or ws (width * i + 4) 0;
    }

-- "one bit a site each": the specification's record that a record with masks is
unfoldable pub record_of : Record → book.Record
record_of r =
    record {
      id = r.id;
      sent = sites_of r.sent;
      full = sites_of r.full;
      reported = sites_of r.reported;
      threshold = r.threshold;
    }

-- the numbers of a record
abbrev pub numbers_of : Record → List ℕ
numbers_of r = r.id ∷ r.sent ∷ r.full ∷ r.reported ∷ r.threshold ∷ []

-- The specification's records that records and their numbers are.
unfoldable pub records_view : Records → List ℕ → List book.Record
records_view s ws = map (λ (i : ℕ). record_of (record_from ws i)) (below s.count)

-- What every call asks of records and their numbers, and leaves behind; `empty` gives it. Nothing is asked of the numbers themselves.
pub record ValidRecords (s : Records) (ws : List ℕ) : Type 0 where
  pub few : s.count ≤ record_limit
  pub long : width * record_limit ≤ length ws

-- No records, whatever the numbers are.
pub record NoRecords (s : Records) : Type 0 where
  pub valid : (ws : List ℕ) → width * record_limit ≤ length ws → ValidRecords s ws
  pub none : (ws : List ℕ) → records_view s ws ≡ []

-- ### Parts

-- Where the first element stands that passes the test.
unfoldable pub place_of : {A : Type 0} → (A → Bool) → List A → Option ℕ
place_of p [] = None
place_of p (x ∷ xs) = cond (p x) (Some 0) (option_map suc (place_of p xs))

-- The numbers from `at` to `end` are those that stood a record further on; the others are as they were.
pub record GapClosed (at end : ℕ) (old new : List ℕ) : Type 0 where
  pub long : length new ≡ length old
  pub before : (k : ℕ) → k < at → get_or new k 0 ≡ get_or old k 0
  pub moved : (k : ℕ) → at ≤ k → k < end → get_or new k 0 ≡ get_or old (k + width) 0
  pub past : drop end new ≡ drop end old

-- ### Calls

-- whether an operation counts as persistent, as a reply
unfoldable pub answer_by : Bool → Answer
answer_by true = Persistent
answer_by false = NotPersistent

-- The reply to a call, by the specification's.
unfoldable pub answer_in : RecordReply → Result Answer Refusal
answer_in (book.refused r) = Err r
answer_in (book.ok rs) = Ok Done
answer_in (book.counted rs b) = Ok (answer_by b)

-- The records after a call, by its result: those as they came where it is refused.
abbrev pub records_left : Records → Result (Records × Answer) Refusal → Records
records_left s (Ok p) = p.0
records_left s (Err q) = s

-- what a call replies, by its result
abbrev pub replied : Result (Records × Answer) Refusal → Result Answer Refusal
replied (Ok p) = Ok p.1
replied (Err q) = Err q

-- a refused call changes neither the records nor a number
abbrev pub Unchanged : RecordReply → Records → List ℕ → Records → List ℕ → Type 0
Unchanged (book.refused r) s old next new = (next ≡ s) × (new ≡ old)
Unchanged (book.ok rs) s old next new = Unit {0}
Unchanged (book.counted rs b) s old next new = Unit {0}

-- What a call that may change the records does, by the specification's reply: the records and the numbers after it, and its answer.
pub record RecordsDo (s : Records) (old : List ℕ) (reply : RecordReply) (next : Records) (answered : Result Answer Refusal) (new : List ℕ)
    : Type 0 where
  pub answer : answered ≡ answer_in reply
  pub valid : ValidRecords next new
  pub view : records_view next new ≡ records_after reply (records_view s old)
  pub refused : Unchanged reply s old next new
  -- "An accepted call alters no byte of a lent buffer past those in use"
  pub past : drop (width * next.count) new ≡ drop (width * next.count) old

-- .. by its result
abbrev pub RecordsGive : Records → List ℕ → RecordReply → Result (Records × Answer) Refusal → List ℕ → Type 0
RecordsGive s old reply r new = RecordsDo s old reply (records_left s r) (replied r) new
