-- What is promised of every list of calls about records (02, (e)) holds of the code: calls that keep their contracts, one after the other,
-- leave the numbers that `records_run` says.
use Rattle.std.specs.Prelude.{ℕ, ◌≡◌, refl, List, [], ◌∷◌, leb, length, Result, Ok}
use Rattle.std.proofs.Common.{sym, ap, ◌∙◌}
use Rattle.std.proofs.Math.Option.{Option, none, some}
use Rattle.forms.specs.declared.Refusal.{Refusal}
use Rattle.forms.specs.Lists.{any, keep, find}
use Rattle.rules.specs.Records as book
use Rattle.rules.specs.Records.{RecordCall, asking, sites_of, is_for, counts, counted, on_record, question, record_new}
use Rattle.rules.specs.Records.{record_reply, records_after, records_run}
use Rattle.rule_laws.specs.RecordLaws.{Unforgotten, is_report, counts_exactly}
use Rattle.records.specs.declared.Records.{Records}
use Rattle.records.specs.declared.Answer.{Answer}
use Rattle.records.specs.Model.{records_view, records_left, answer_by, answer_in, RecordsGive}

-- Calls of the code, the first one first, each on what the one before it left: a question changes nothing that it is lent, any other call
-- did what its contract says.
pub data RecordsCalled : Records → List ℕ → List RecordCall → Records → List ℕ → Type 0 where
  ended : {s : Records} {ws : List ℕ} → RecordsCalled s ws [] s ws
  asked : {s last : Records} {ws end : List ℕ} {cs : List RecordCall} (id : ℕ) → RecordsCalled s ws cs last end
      → RecordsCalled s ws (asking id ∷ cs) last end
  called : {s last : Records} {old new end : List ℕ} {cs : List RecordCall} (c : RecordCall) (r : Result (Records × Answer) Refusal)
      → RecordsGive s old (record_reply c (records_view s old)) r new → RecordsCalled (records_left s r) new cs last end
      → RecordsCalled s old (c ∷ cs) last end

asked-after : (o : Option book.Record) (rs : List book.Record) → records_after (on_record o (λ r. counted rs (counts r))) rs ≡ rs
unfolding on_record
asked-after none rs = refl
asked-after (some r) rs = refl

-- The records that such calls leave are those of the specification.
pub records_called : {s last : Records} {ws end : List ℕ} {cs : List RecordCall} → RecordsCalled s ws cs last end
    → records_view last end ≡ records_run cs (records_view s ws)
unfolding records_run record_reply question
records_called ended = refl
records_called (asked {s} {last} {ws} {end} {cs} id more) =
    records_called more ∙ sym (ap (records_run cs) (asked-after (find (is_for id) (records_view s ws)) (records_view s ws)))
records_called (called {s} {last} {old} {new} {end} {cs} c r does more) = records_called more ∙ ap (records_run cs) does.view

-- "It counts exactly when that many full copies have reported", of the code: what its question replies (`answer_in`, its contract) after any
-- calls that do not forget the operation that was just recorded.
pub code_counts : (id sent full t : ℕ) (rs : List book.Record) {s last : Records} {ws end : List ℕ} {cs : List RecordCall}
    → record_new id sent full t rs ≡ book.ok (records_view s ws) → RecordsCalled s ws cs last end → Unforgotten id cs
    → answer_in (question id (records_view last end)) ≡ Ok (answer_by (leb t (length (keep (λ x. any (is_report id x) cs) (sites_of full)))))
unfolding answer_in
code_counts id sent full t rs {s} {last} {ws} {end} {cs} e calls kept =
    ap (λ (x : List book.Record). answer_in (question id x)) (records_called calls)
    ∙ ap answer_in (counts_exactly id sent full t rs (records_view s ws) cs e kept)
