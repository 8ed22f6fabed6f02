-- "a 65th record 10; a record forgotten on the owner's word frees its entry" (02, (e)), computed: 64 records are accepted, the 65th is
-- refused with 10 (before 18), and after one is forgotten another is accepted.
use Rattle.std.specs.Prelude.{List, [], ◌∷◌, ◌++◌, map, ℕ, T}
use Rattle.forms.specs.Lists.{below}
use Rattle.forms.specs.Refusals.{number_of}
use Rattle.forms.specs.Limits.{live_limit}
use Rattle.rules.specs.Checks.{check}
use Rattle.rules.specs.Records.{recording, forgetting, record_reply, sites_of, unless_checked, recorded, records_full, wrong_threshold}
use Rattle.rules.specs.Records.{full_not_sent, record_refusal, record_new, on_record, forget_record}
use Rattle.rules.proofs.RecordExamples.{Asked, as_expected}

-- 64 operations are recorded, each with the reply of a call that is accepted, and four calls follow.
abbrev pub full : List Asked
full =
    map (λ (i : ℕ). record { call = recording i 1 1 1; number = 0 }) (below live_limit)
    ++ (record { call = recording live_limit 1 1 0; number = 10 }
    ∷ record { call = forgetting 7; number = 0 }
    ∷ record { call = recording live_limit 1 1 1; number = 0 }
    ∷ record { call = recording 7 1 1 1; number = 10 }
    ∷ [])

pub sixty_four : T (as_expected full [])
sixty_four =
    unfold as_expected below number_of check sites_of unless_checked recorded records_full wrong_threshold full_not_sent record_refusal in
    unfold record_new on_record forget_record record_reply in
    tt
