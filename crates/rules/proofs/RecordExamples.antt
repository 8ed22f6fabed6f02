-- Records of operations that live on several modules (02, (e)), computed from the definitions.
use Rattle.std.specs.Prelude.{◌≡◌, Bool, true, cond, ◌&&◌, List, [], ◌∷◌, ℕ, T, eqb}
use mathlib.Core.List.{Memᴰ as Mem}
use Rattle.forms.specs.Lists.{all, below}
use Rattle.forms.specs.ListLaws.{T_true, all-at}
use Rattle.forms.specs.Refusals.{number_of}
use Rattle.rules.specs.Checks.{check}
use Rattle.rules.specs.Records.{Record, RecordReply, refused, ok, counted, RecordCall, recording, reporting, asking}
use Rattle.rules.specs.Records.{forgetting, record_reply, records_after}
use Rattle.rules.specs.Records.{sites_of, with_site, full_reports, counts, unless_checked, recorded, records_full, wrong_threshold}
use Rattle.rules.specs.Records.{full_not_sent, record_refusal, record_new, on_record, reported_in, report_on, report, question, forget_record}

-- A call with its reply as a number: a refusal's, 0 where nothing is said, 100 for "not persistent", 101 for "persistent".
pub record Asked : Type 0 where
  pub call : RecordCall
  pub number : ℕ

abbrev asked : RecordCall → ℕ → Asked
asked c n = record { call = c; number = n }

abbrev pub numbered : RecordReply → ℕ
numbered (refused r) = number_of r
numbered (ok rs) = 0
numbered (counted rs b) = cond b 101 100

-- Every call replies its number.
unfoldable pub as_expected : List Asked → List Record → Bool
as_expected [] rs = true
as_expected (a ∷ more) rs =
    eqb (numbered (record_reply a.call rs)) a.number && as_expected more (records_after (record_reply a.call rs) rs)

abbrev pub rows : List (List Asked)
rows =
    -- "two of two for a profile split over modules": sites 0 and 1; a report that comes twice changes nothing
    (asked (recording 5 3 3 2) 0
    ∷ asked (asking 5) 100
    ∷ asked (reporting 5 0) 100
    ∷ asked (reporting 5 0) 100
    ∷ asked (reporting 5 1) 101
    ∷ asked (asking 5) 101
    ∷ [])
    -- "one of two for a mirrored one"
    ∷ (asked (recording 5 3 3 1) 0 ∷ asked (reporting 5 1) 101 ∷ asked (reporting 5 0) 101 ∷ [])
    -- "Copies without details never count": site 2 was sent to without them
    ∷ (asked (recording 5 7 3 2) 0
    ∷ asked (reporting 5 2) 100
    ∷ asked (reporting 5 0) 100
    ∷ asked (reporting 5 2) 100
    ∷ asked (reporting 5 1) 101
    ∷ [])
    -- 7; 18: a threshold of 0, or above the number of full copies, before 19; 19: a full copy at a site not sent to
    ∷ (asked (recording 5 3 3 2) 0
    ∷ asked (recording 5 3 3 0) 7
    ∷ asked (recording 6 3 3 0) 18
    ∷ asked (recording 6 3 3 3) 18
    ∷ asked (recording 6 3 0 1) 18
    ∷ asked (recording 6 1 6 3) 18
    ∷ asked (recording 6 1 3 2) 19
    ∷ asked (recording 6 255 128 1) 0
    ∷ asked (reporting 6 7) 101
    ∷ [])
    -- 19: a report from a site not sent to, or above 7; no record. Forgetting frees the entry, and an id recorded anew has no reports.
    ∷ (asked (recording 5 3 3 1) 0
    ∷ asked (reporting 5 2) 19
    ∷ asked (reporting 5 8) 19
    ∷ asked (reporting 6 0) 19
    ∷ asked (asking 6) 19
    ∷ asked (forgetting 6) 19
    ∷ asked (reporting 5 0) 101
    ∷ asked (forgetting 5) 0
    ∷ asked (asking 5) 19
    ∷ asked (recording 5 3 3 1) 0
    ∷ asked (asking 5) 100
    ∷ [])
    ∷ []

unfoldable holds : List Asked → Bool
holds r = as_expected r []

computed : T (all holds rows)
computed =
    unfold holds as_expected below number_of check sites_of with_site full_reports counts unless_checked recorded records_full in
    unfold wrong_threshold full_not_sent record_refusal record_new on_record reported_in report_on report question forget_record record_reply in
    tt

-- Every row's calls reply their numbers.
pub examples : (r : List Asked) → Mem r rows → as_expected r [] ≡ true
unfolding holds
examples r m = T_true (as_expected r []) (all-at holds rows computed r m)
