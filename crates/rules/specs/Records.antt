-- Records beside the kept lines of a keeper (02, (e)): which sites an operation was sent to, which of these hold full details, and which
-- reported it persistent.
use Rattle.std.specs.Prelude.{Bool, not, cond, ◌||◌, List, [], ◌∷◌, ◌++◌, ℕ, ◌/◌, ◌%◌, ◌^◌, leb, ltb, eqb, length}
use Rattle.std.proofs.Math.Option.{Option, none, some}
use Rattle.forms.specs.Lists.{any, keep, find, below}
use Rattle.forms.specs.Limits.{record_limit, sites_limit}
use Rattle.forms.specs.declared.Refusal.{Refusal}
use Rattle.forms.specs.declared.Refusal.TheVariants.{IdPending, TableFull, WrongThreshold, NotSent}
use Rattle.rules.specs.Checks.{check}

-- ### Sites

-- a site among others
abbrev pub is_in : ℕ → List ℕ → Bool
is_in site sites = any (eqb site) sites

-- "one bit a site each": the sites of a mask, rising; site s has the bit worth 2 to the power s
unfoldable pub sites_of : ℕ → List ℕ
sites_of mask = keep (λ s. eqb (mask / (2 ^ s) % 2) 1) (below sites_limit)

-- a site beside others, in rising order, once
unfoldable pub with_site : ℕ → List ℕ → List ℕ
with_site s [] = s ∷ []
with_site s (x ∷ xs) = cond (eqb s x) (x ∷ xs) (cond (ltb s x) (s ∷ x ∷ xs) (x ∷ with_site s xs))

-- ### Records

-- "The keeper holds for each operation": what is recorded of one.
pub record Record : Type 0 where
  -- the operation's id
  pub id : ℕ
  -- "which sites it was sent to"
  pub sent : List ℕ
  -- "which of these hold full details"
  pub full : List ℕ
  -- "which reported it persistent"
  pub reported : List ℕ
  -- "how many full copies must be persistent before the operation counts as persistent"
  pub threshold : ℕ

-- "how many full copies .. have reported"; "Copies without details never count."
unfoldable pub full_reports : Record → ℕ
full_reports r = length (keep (λ s. is_in s r.reported) r.full)

-- "It counts exactly when that many full copies have reported."
unfoldable pub counts : Record → Bool
counts r = leb r.threshold (full_reports r)

-- whether a record is that of an operation
abbrev pub is_for : ℕ → Record → Bool
is_for id r = eqb r.id id

-- ### Lists

module _ {A : Type 0} (f : A → Bool) where
  -- The list with its first element that passes the test changed.
  abbrev pub change_first : (A → A) → List A → List A
  change_first g [] = []
  change_first g (x ∷ xs) = cond (f x) (g x ∷ xs) (x ∷ change_first g xs)

  -- The list without its first element that passes the test.
  abbrev pub drop_first : List A → List A
  drop_first [] = []
  drop_first (x ∷ xs) = cond (f x) xs (x ∷ drop_first xs)

-- ### Calls

-- A call: refused and unchanged; or the records after it, and of a report and a question whether the operation counts as persistent.
pub data RecordReply : Type 0 where
  refused : Refusal → RecordReply
  ok : List Record → RecordReply
  counted : List Record → Bool → RecordReply

-- "A refusal returns its number only": the reply, where no check refuses.
unfoldable pub unless_checked : Option Refusal → RecordReply → RecordReply
unless_checked (some r) reply = refused r
unless_checked none reply = reply

-- 7: "An id already recorded"
unfoldable pub recorded : ℕ → List Record → Bool
recorded id rs = any (is_for id) rs

-- 10: "a 65th record"
unfoldable pub records_full : List Record → Bool
records_full rs = leb record_limit (length rs)

-- 18: "a threshold of 0 or above the number of full copies"
unfoldable pub wrong_threshold : ℕ → List ℕ → Bool
wrong_threshold t full = eqb t 0 || ltb (length full) t

-- 19: "a full copy at .. a site the operation was not sent to"
unfoldable pub full_not_sent : List ℕ → List ℕ → Bool
full_not_sent sent full = any (λ s. not (is_in s sent)) full

-- 7 and 10 of 01's table, then "18 .. 19 .. in that order"
unfoldable pub record_refusal : ℕ → List ℕ → List ℕ → ℕ → List Record → Option Refusal
record_refusal id sent full t rs =
    check (recorded id rs) IdPending
    (check (records_full rs) TableFull
    (check (wrong_threshold t full) WrongThreshold
    (check (full_not_sent sent full) NotSent none)))

-- the record of an operation that nobody has reported
abbrev pub new_record : ℕ → List ℕ → List ℕ → ℕ → Record
new_record id sent full t = record { id = id; sent = sent; full = full; reported = []; threshold = t }

-- Records an operation, with its masks of sites sent to and of full copies, and its threshold.
unfoldable pub record_new : ℕ → ℕ → ℕ → ℕ → List Record → RecordReply
record_new id sent full t rs =
    unless_checked (record_refusal id (sites_of sent) (sites_of full) t rs)
    (ok (rs ++ (new_record id (sites_of sent) (sites_of full) t ∷ [])))

-- 19: "a report on, question about or forgetting of an operation without a record"
unfoldable pub on_record : Option Record → (Record → RecordReply) → RecordReply
on_record none f = refused NotSent
on_record (some r) f = f r

-- the record with a site's report
abbrev pub with_report : ℕ → Record → Record
with_report s r = record { id = r.id; sent = r.sent; full = r.full; reported = with_site s r.reported; threshold = r.threshold }

-- the records with a site's report in that of an operation
unfoldable pub reported_in : ℕ → ℕ → List Record → List Record
reported_in id s rs = change_first (is_for id) (with_report s) rs

-- 19: "a report from a site the operation was not sent to"
unfoldable pub report_on : ℕ → ℕ → List Record → Record → RecordReply
report_on id s rs r = unless_checked (check (not (is_in s r.sent)) NotSent none) (counted (reported_in id s rs) (counts (with_report s r)))

-- A site reports an operation persistent; the reply is what the question would then reply.
unfoldable pub report : ℕ → ℕ → List Record → RecordReply
report id s rs = on_record (find (is_for id) rs) (report_on id s rs)

-- Whether an operation counts as persistent.
unfoldable pub question : ℕ → List Record → RecordReply
question id rs = on_record (find (is_for id) rs) (λ r. counted rs (counts r))

-- "a record forgotten on the owner's word frees its entry"
unfoldable pub forget_record : ℕ → List Record → RecordReply
forget_record id rs = on_record (find (is_for id) rs) (λ r. ok (drop_first (is_for id) rs))

-- ### Lists of calls

-- A call about records: an operation is recorded with its masks and its threshold, a site reports it, its owner asks, or forgets it.
pub data RecordCall : Type 0 where
  recording : ℕ → ℕ → ℕ → ℕ → RecordCall
  reporting : ℕ → ℕ → RecordCall
  asking : ℕ → RecordCall
  forgetting : ℕ → RecordCall

-- the reply to a call
unfoldable pub record_reply : RecordCall → List Record → RecordReply
record_reply (recording id sent full t) rs = record_new id sent full t rs
record_reply (reporting id s) rs = report id s rs
record_reply (asking id) rs = question id rs
record_reply (forgetting id) rs = forget_record id rs

-- the records after a reply
abbrev pub records_after : RecordReply → List Record → List Record
records_after (refused r) rs = rs
records_after (ok after) rs = after
records_after (counted after b) rs = after

-- the records after calls, the first one first
unfoldable pub records_run : List RecordCall → List Record → List Record
records_run [] rs = rs
records_run (c ∷ cs) rs = records_run cs (records_after (record_reply c rs) rs)
