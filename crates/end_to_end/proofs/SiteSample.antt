-- The examination sample as calls of the code's site: whatever the site does with them by its contracts, the claim of its calls speaks of
-- it, and the bytes of its log are these.
use Rattle.std.specs.Prelude.{◌≡◌, ◌∷◌, ◌++◌, length}
use Rattle.std.proofs.Common.{◌∙◌}
use Rattle.forms.specs.Limits.{log_limit}
use Rattle.rules.specs.Calls.{open_site, Cut}
use Rattle.recovery.specs.Claim.{lost_by, came}
use Rattle.site.specs.declared.CallResult.{CallResult}
use Rattle.site.specs.OpenLaws.{blank_site}
use Rattle.site.specs.Model.{Lent, Opens}
use Rattle.end_to_end.specs.SiteCalls.{Memory, memory, state_in, log_in, Transition, Execution, RecoveredIn}
use Rattle.end_to_end.proofs.SiteInstance.{Instance, by_calls}
use Rattle.end_to_end.proofs.Sample as sample

-- the sample's calls, with every lost line chosen
abbrev sampled : Instance 2 log_limit
sampled =
    record {
      site = sample.start;
      opened = (sample.computed).opens;
      earlier = sample.sample_calls sample.first;
      kept = 83;
      later = sample.sample_calls sample.later_lines;
      picked = sample.state_after;
      chosen = sample.every_line;
      fair = sample.fair;
      asked = sample.sample_asked;
    }

-- The claim of the site's calls, and the bytes of its log just before the cut and at the end: `(stable 1)` stands where it stood,
-- `(stable 2)` is gone.
pub site_sample : (lends : Lent) (size : length lends.log ≡ log_limit) (r : CallResult) (new : Lent) →
    Opens blank_site lends (open_site 2 (length lends.log)) r new →
    (before after final : Memory) → Execution (memory r.site new) (sample.sample_calls sample.first) before →
    Transition before (Cut 83 log_limit) after → Execution after (sample.sample_calls sample.later_lines) final →
    RecoveredIn before after (lost_by (state_in before) (state_in after)) sample.every_line
    (came (sample.sample_calls sample.first ++ Cut 83 log_limit ∷ sample.sample_calls sample.later_lines) (state_in (memory r.site new)))
    final
    × (log_in before ≡ sample.first_log) × (log_in final ≡ sample.last_log)
site_sample lends size r new opening before after final first cut rest =
    let z = by_calls 2 log_limit sampled lends size r new opening before after final first cut rest in
    (z.0, z.1 ∙ (sample.computed).log_before, z.2 ∙ (sample.computed).log_at_end)
