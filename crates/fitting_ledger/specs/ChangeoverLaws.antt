-- A changeover's answer and its bytes are those of the specification.
use Rattle.std.specs.Prelude.{ℕ, ◌≡◌, refl, List, Result}
use Rattle.std.proofs.Common.{ap, ◌∙◌}
use Rattle.forms.specs.declared.Refusal.{Refusal}
use Rattle.rules.specs.OldLog.{Upgrade, not_upgraded, upgraded}
use Rattle.older_log.specs.Model.{reply_of, Upgrades}
use Rattle.call_words.specs.Said.{said_number, said_value}
use Rattle.fitting_ledger.specs.Changeovers.{upgrade_number, upgrade_used, ChangesOver}

pub changes_over : (u : Upgrade) (old : List ℕ) (r : Result ℕ Refusal) (new : List ℕ) (n before after : ℕ) → Upgrades u old r new →
    n ≡ said_number r → after ≡ said_value r before → ChangesOver u old n new before after
unfolding said_number said_value upgrade_number upgrade_used
changes_over u old r new n before after h e f =
    record {
      answer = e ∙ ap said_number h.reply ∙ number u;
      bytes = h.bytes;
      used = f ∙ ap (λ (x : Result ℕ Refusal). said_value x before) h.reply ∙ used u;
    }
  where
    number : (v : Upgrade) → said_number (reply_of v) ≡ upgrade_number v
    number (not_upgraded q) = refl
    number (upgraded bytes k) = refl

    used : (v : Upgrade) → said_value (reply_of v) before ≡ upgrade_used v before
    used (not_upgraded q) = refl
    used (upgraded bytes k) = refl
