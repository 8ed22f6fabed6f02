-- What was answered about records is the specification's reply.
use Rattle.std.specs.Prelude.{ℕ, ◌*◌, ◌≤◌, ◌<◌, ◌≡◌, List, length, Result}
use Rattle.std.proofs.Common.{sym, ap, subst, ◌∙◌, arith, le-leb}
use Rattle.std.proofs.lemmas.Bool.{lt-leb}
use Rattle.forms.specs.Limits.{record_limit}
use Rattle.rules.specs.Records.{RecordReply}
use Rattle.records.specs.declared.Records.{Records}
use Rattle.records.specs.declared.Answer.{Answer}
use Rattle.forms.specs.declared.Refusal.{Refusal}
use Rattle.records.specs.Model.{width, NoRecords, replied, records_left, RecordsDo, RecordsGive}
use Rattle.records.specs.NumberLaws.{view_long}
use Rattle.fitting_station.specs.RecordCalls.{records_at, answer_code, StartsRecords, ResumesRecords, PerformsRecords}

-- Nothing is recorded.
pub starts : (s : Records) (ws : List ℕ) → NoRecords s → length ws ≡ width * record_limit → StartsRecords s.count ws
starts s ws x long =
    record {
      none = sym (view_long s ws) ∙ ap length (x.none ws);
      view = x.none ws;
      valid = x.valid ws (omega (arith, long));
    }

module _ (kept : ℕ) (ws : List ℕ) (long : length ws ≡ width * record_limit) where
  -- more than there can be
  pub resumes_not : record_limit < kept → ResumesRecords kept ws 999 0
  resumes_not h =
      record {
        answer = rw (lt-leb kept record_limit h);
        taken = rw (lt-leb kept record_limit h);
        valid = record { few = omega arith; long = omega (arith, long) };
      }

  pub resumes : kept ≤ record_limit → ResumesRecords kept ws 0 kept
  resumes h =
      record {
        answer = rw (le-leb kept record_limit h);
        taken = rw (le-leb kept record_limit h);
        valid = record { few = h; long = omega (arith, long) };
      }

-- What a call does is what is answered.
pub performs : (count : ℕ) (old : List ℕ) (reply : RecordReply) (r : Result (Records × Answer) Refusal) (new : List ℕ)
    → RecordsGive (records_at count) old reply r new → (n next : ℕ) → n ≡ answer_code (replied r)
    → records_at next ≡ records_left (records_at count) r → PerformsRecords count old reply n next new
performs count old reply r new d n next e f =
    record {
      answer = e ∙ ap answer_code d.answer;
      does =
          subst (λ (x : Result Answer Refusal). RecordsDo (records_at count) old reply (records_at next) x new) d.answer
          (subst (λ (s : Records). RecordsDo (records_at count) old reply s (replied r) new) (sym f) d);
    }
