-- Records that live on in a lent number and a lent array, as the specification has them, and what each call gives their owner.
use Rattle.std.specs.Prelude.{ℕ, ◌≡◌, cond, List, [], leb, Result, Ok, Err}
use Rattle.forms.specs.Refusals.{number_of}
use Rattle.forms.specs.declared.Refusal.{Refusal}
use Rattle.rules.specs.Records as book
use Rattle.forms.specs.Limits.{record_limit}
use Rattle.rules.specs.Records.{RecordReply}
use Rattle.records.specs.declared.Records.{Records}
use Rattle.records.specs.declared.Answer.{Answer}
use Rattle.records.specs.declared.Answer.TheVariants.{Done, Persistent, NotPersistent}
use Rattle.records.specs.Model.{records_view, ValidRecords, answer_in, RecordsDo}

-- ### The state

-- the records whose number the lent number says
abbrev pub records_at : ℕ → Records
records_at count = record { count = count }

-- The specification's records that the number and the array are. The invariant is `ValidRecords (records_at count) words`.
abbrev pub records_in : ℕ → List ℕ → List book.Record
records_in count ws = records_view (records_at count) ws

-- No records.
pub record StartsRecords (count : ℕ) (ws : List ℕ) : Type 0 where
  pub none : count ≡ 0
  pub view : records_in count ws ≡ []
  pub valid : ValidRecords (records_at count) ws

-- The first numbers are taken up as so many records: 999, and none, where they would be more than 64.
pub record ResumesRecords (kept : ℕ) (ws : List ℕ) (n count : ℕ) : Type 0 where
  pub answer : n ≡ cond (leb kept record_limit) 0 999
  pub taken : count ≡ cond (leb kept record_limit) kept 0
  pub valid : ValidRecords (records_at count) ws

-- ### Calls

-- A refusal's number; 1,001 for "persistent", 1,000 for "not persistent"; else 0.
unfoldable pub answer_code : Result Answer Refusal → ℕ
answer_code (Err q) = number_of q
answer_code (Ok Done) = 0
answer_code (Ok Persistent) = 1001
answer_code (Ok NotPersistent) = 1000

-- .. of the specification's reply
abbrev pub records_code : RecordReply → ℕ
records_code reply = answer_code (answer_in reply)

-- The records, of which there were `count` and are `next`, do what the specification replies. `RecordsDo` says every number: those past the
-- records are as they were, and a refused call changes nothing.
pub record PerformsRecords (count : ℕ) (old : List ℕ) (reply : RecordReply) (n next : ℕ) (new : List ℕ) : Type 0 where
  pub answer : n ≡ records_code reply
  pub does : RecordsDo (records_at count) old reply (records_at next) (answer_in reply) new
