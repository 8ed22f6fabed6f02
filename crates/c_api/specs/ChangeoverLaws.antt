-- Laws of the changeover of an older log over raw bytes.
use Rattle.std.specs.Prelude.{ℕ, ◌+◌, ◌≤◌, ◌≡◌, refl, List, Result, Ok}
use Rattle.std.proofs.Common.{sym, ap, ◌∙◌, arith}
use Rattle.rules.specs.OldLog.{Upgrade, not_upgraded, upgraded, upgrade}
use Rattle.rule_laws.specs.OldLogLaws.{upgrade-holds}
use Rattle.forms.specs.declared.Refusal.{Refusal}
use Rattle.older_log.specs.Model.{reply_of, Upgrades}
use Rattle.c_api.specs.Codes.{replied_number}
use Rattle.c_api.specs.Changeovers.{upgrade_number, ChangesOver}

-- The bytes in use are at most those of a log buffer.
pub upgraded_few : (old : List ℕ) (k : ℕ) (r : Result ℕ Refusal) (new : List ℕ) → Upgrades (upgrade old k) old r new →
    (n : ℕ) → r ≡ Ok n → n + 1000 ≤ 18446744073709551615
upgraded_few old k r new h n e = go (upgrade old k) refl (sym e ∙ h.reply)
  where
    go : (u : Upgrade) → upgrade old k ≡ u → Ok n ≡ reply_of u → n + 1000 ≤ 18446744073709551615
    go (not_upgraded q) is f = let z : ◌≡◌ {A = ℕ} 0 1 = cc in absurd (omega arith)
    go (upgraded bytes used) is f =
        let same : n ≡ used = cc in
        let x = upgrade-holds old k bytes used is in
        omega (arith, same, x.within, x.limit)

-- The number is that of the specification's changeover.
pub changes_over_lem : (u : Upgrade) (old : List ℕ) (r : Result ℕ Refusal) (new : List ℕ) (n : ℕ) → Upgrades u old r new →
    n ≡ replied_number r → ChangesOver u old n new
unfolding replied_number upgrade_number
changes_over_lem u old r new n h e = record { answer = e ∙ ap replied_number h.reply ∙ go u; bytes = h.bytes }
  where
    go : (v : Upgrade) → replied_number (reply_of v) ≡ upgrade_number v
    go (not_upgraded q) = refl
    go (upgraded bytes used) = refl
