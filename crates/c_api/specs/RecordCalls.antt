-- What the calls about records give over raw numbers, by the specification's records.
use Rattle.std.specs.Prelude.{ℕ, ◌+◌, ◌*◌, ◌≡◌, Bool, true, false, cond, ◌&&◌, List, leb, length, drop, Result, Ok, Err}
use Rattle.forms.specs.Refusals.{number_of}
use Rattle.forms.specs.declared.Refusal.{Refusal}
use Rattle.rules.specs.Records as book
use Rattle.forms.specs.Limits.{record_limit}
use Rattle.rules.specs.Records.{RecordReply}
use Rattle.records.specs.declared.Records.{Records}
use Rattle.records.specs.declared.Answer.{Answer}
use Rattle.records.specs.declared.Answer.TheVariants.{Done, Persistent, NotPersistent}
use Rattle.records.specs.Model.{width, records_view}

-- The specification's records that the first numbers are.
abbrev pub records_in : ℕ → List ℕ → List book.Record
records_in count ws = records_view (record { count = count }) ws

-- at most 64 records, in numbers with room for 64
unfoldable pub are_records : ℕ → List ℕ → Bool
are_records count ws = leb count record_limit && leb (width * record_limit) (length ws)

-- 1,000 more than the records after the call; 1,001 for "persistent", 1,000 for "not persistent".
unfoldable pub answer_number : Answer → ℕ → ℕ
answer_number Done count = count + 1000
answer_number Persistent count = 1001
answer_number NotPersistent count = 1000

-- .. or a refusal's number
unfoldable pub answered_number : Result Answer Refusal → ℕ → ℕ
answered_number (Ok a) count = answer_number a count
answered_number (Err r) count = number_of r

-- .. of the records after a call and its answer
abbrev pub result_number : Result (Records × Answer) Refusal → ℕ
result_number (Ok p) = answer_number p.1 p.0.count
result_number (Err r) = number_of r

-- .. of the specification's reply
unfoldable pub records_number : RecordReply → ℕ
records_number (book.refused r) = number_of r
records_number (book.ok rs) = length rs + 1000
records_number (book.counted rs b) = cond b 1001 1000

-- 999 where the numbers are no records
unfoldable pub asked_number : ℕ → List ℕ → RecordReply → ℕ
asked_number count ws reply = cond (are_records count ws) (records_number reply) 999

-- The first numbers are these records now; those past them are as they were.
pub record Holds (rs : List book.Record) (old new : List ℕ) : Type 0 where
  pub records : records_in (length rs) new ≡ rs
  pub past : drop (width * length rs) new ≡ drop (width * length rs) old

-- What a reply leaves: a refused call every number, an accepted one its records.
abbrev pub Leaves : RecordReply → List ℕ → List ℕ → Type 0
Leaves (book.refused r) old new = new ≡ old
Leaves (book.ok rs) old new = Holds rs old new
Leaves (book.counted rs b) old new = Holds rs old new

abbrev pub LeavesIf : Bool → RecordReply → List ℕ → List ℕ → Type 0
LeavesIf true reply old new = Leaves reply old new
LeavesIf false reply old new = new ≡ old

-- A call that may change records: 999, and no number changed, where the numbers are no records.
pub record RepliesRecords (count : ℕ) (old : List ℕ) (reply : RecordReply) (n : ℕ) (new : List ℕ) : Type 0 where
  pub answer : n ≡ asked_number count old reply
  pub numbers : LeavesIf (are_records count old) reply old new
