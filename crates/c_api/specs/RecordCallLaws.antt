-- Laws of the calls about records over raw numbers.
use Rattle.std.specs.Prelude.{ℕ, ◌+◌, ◌*◌, ◌≤◌, ◌≡◌, refl, Bool, true, false, cond, ◌&&◌, List, leb, length, drop, Result, Ok, Err}
use Rattle.std.proofs.Common.{arith, sym, ◌∙◌, leb-true}
use Rattle.std.proofs.Math.Path.{ap, subst}
use Rattle.std.proofs.Math.Option.{Option, none, some}
use Rattle.forms.specs.Lists.{find}
use Rattle.rules.specs.Records as book
use Rattle.forms.specs.Limits.{record_limit}
use Rattle.rules.specs.Records.{RecordReply, is_for, counts, on_record, question}
use Rattle.forms.specs.declared.Refusal.{Refusal}
use Rattle.records.specs.declared.Records.{Records}
use Rattle.records.specs.declared.Answer.{Answer}
use Rattle.records.specs.Model.{width, records_view, ValidRecords, answer_by, answer_in, records_left, replied, RecordsGive}
use Rattle.records.specs.NumberLaws.{view_long}
use Rattle.c_api.specs.RecordCalls.{records_in, are_records, answer_number, answered_number, result_number, records_number, asked_number, Holds}
use Rattle.c_api.specs.RecordCalls.{LeavesIf, RepliesRecords}

and_parts : (a b : Bool) → (a && b) ≡ true → (a ≡ true) × (b ≡ true)
and_parts true b e = (refl, e)
and_parts false b e = let z : ◌≡◌ {A = ℕ} 0 1 = cc in absurd (omega arith)

-- Numbers that are records.
pub are_valid : (count : ℕ) (ws : List ℕ) → are_records count ws ≡ true → ValidRecords (record { count = count }) ws
unfolding are_records
are_valid count ws e =
    let q = and_parts (leb count record_limit) (leb (width * record_limit) (length ws)) e in
    record { few = leb-true _ _ q.0; long = leb-true _ _ q.1 }

pub replies-not : (count : ℕ) (ws : List ℕ) (reply : RecordReply) → are_records count ws ≡ false → RepliesRecords count ws reply 999 ws
unfolding asked_number
replies-not count ws reply e = record { answer = rw e; numbers = subst (λ (b : Bool). LeavesIf b reply ws ws) (sym e) refl }

number_by : (b : Bool) (count : ℕ) → answer_number (answer_by b) count ≡ cond b 1001 1000
unfolding answer_number answer_by
number_by true count = refl
number_by false count = refl

asked_by : (o : Option book.Record) (rs : List book.Record) (count : ℕ) (ws : List ℕ) (a : Result Answer Refusal) (n : ℕ) →
    are_records count ws ≡ true → a ≡ answer_in (on_record o (λ r. book.counted rs (counts r))) → n ≡ answered_number a count →
    n ≡ asked_number count ws (on_record o (λ r. book.counted rs (counts r)))
unfolding asked_number answer_in records_number answered_number on_record
asked_by none rs count ws a n e f h = rw e (h ∙ ap (λ (x : Result Answer Refusal). answered_number x count) f)
asked_by (some r) rs count ws a n e f h =
    rw e (h ∙ ap (λ (x : Result Answer Refusal). answered_number x count) f ∙ number_by (counts r) count)

-- the number of a question
pub asked : (id count : ℕ) (ws : List ℕ) (a : Result Answer Refusal) (n : ℕ) → are_records count ws ≡ true →
    a ≡ answer_in (question id (records_in count ws)) → n ≡ answered_number a count →
    n ≡ asked_number count ws (question id (records_in count ws))
unfolding question
asked id count ws a n e f h = asked_by (find (is_for id) (records_in count ws)) (records_in count ws) count ws a n e f h

pub asked-not : (count : ℕ) (ws : List ℕ) (reply : RecordReply) → are_records count ws ≡ false → 999 ≡ asked_number count ws reply
unfolding asked_number
asked-not count ws reply e = rw e

-- The number of a result is that of its answer, with the records that it leaves.
result-answered : (s : Records) (r : Result (Records × Answer) Refusal) → result_number r ≡ answered_number (replied r) (records_left s r).count
unfolding answered_number
result-answered s (Ok p) = refl
result-answered s (Err q) = refl

-- What a call does is what is replied.
module _ (count : ℕ) (old : List ℕ) (are : are_records count old ≡ true) (r : Result (Records × Answer) Refusal) (new : List ℕ) where
  abbrev next : Records
  next = records_left (record { count = count }) r

  holds : (rs : List book.Record) → records_view next new ≡ rs
      → drop (width * next.count) new ≡ drop (width * next.count) old → (next.count ≡ length rs) × Holds rs old new
  holds rs e past =
      let long : next.count ≡ length rs = sym (view_long next new) ∙ ap length e in (
        long,
        record {
          records = ap (λ (n : ℕ). records_in n new) (sym long) ∙ e;
          past = subst (λ (n : ℕ). drop (width * n) new ≡ drop (width * n) old) long past;
        },
      )

  -- at most 64 records are left
  pub left_few : (reply : RecordReply) → RecordsGive (record { count = count }) old reply r new → (p : Records × Answer) → r ≡ Ok p →
      p.0.count ≤ record_limit
  left_few reply d p e =
      subst (λ (x : Result (Records × Answer) Refusal). (records_left (record { count = count }) x).count ≤ record_limit) e d.valid.few

  pub replies_does : (reply : RecordReply) → RecordsGive (record { count = count }) old reply r new → (n : ℕ)
      → n ≡ result_number r → RepliesRecords count old reply n new
  unfolding asked_number records_number answered_number answer_number answer_in
  replies_does reply d n e = by_reply reply d (e ∙ result-answered (record { count = count }) r)
    where
      by_reply : (reply : RecordReply) → RecordsGive (record { count = count }) old reply r new
          → n ≡ answered_number (replied r) next.count → RepliesRecords count old reply n new
      by_reply (book.refused q) d e =
          record {
            answer = rw are (e ∙ ap (λ (x : Result Answer Refusal). answered_number x next.count) d.answer);
            numbers = subst (λ (b : Bool). LeavesIf b (book.refused q) old new) (sym are) d.refused.1;
          }
      by_reply (book.ok rs) d e =
          let h = holds rs d.view d.past in
          record {
            answer = rw are (e ∙ ap (λ (x : Result Answer Refusal). answered_number x next.count) d.answer
                ∙ ap (λ (k : ℕ). k + 1000) h.0);
            numbers = subst (λ (b : Bool). LeavesIf b (book.ok rs) old new) (sym are) h.1;
          }
      by_reply (book.counted rs b) d e =
          let h = holds rs d.view d.past in
          record {
            answer = rw are (e ∙ ap (λ (x : Result Answer Refusal). answered_number x next.count) d.answer ∙ number_by b next.count);
            numbers = subst (λ (c : Bool). LeavesIf c (book.counted rs b) old new) (sym are) h.1;
          }
