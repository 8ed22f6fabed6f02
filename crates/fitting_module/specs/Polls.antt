-- The poll of a history of a slot's site, in a number.
use Rattle.std.specs.Prelude.{ℕ, ◌≡◌, List, Option}
use Rattle.std.proofs.Common.{sym, ap, subst, ◌∙◌}
use Rattle.compact.specs.Module.{slot_at}
use Rattle.site.specs.Model.{Lent}
use Rattle.session.specs.Polls.{polled_number}
use Rattle.module.specs.declared.Module.{Module}
use Rattle.site.specs.declared.poll.PollAnswer.{PollAnswer}
use Rattle.module.specs.Polls.{slot_polled, poll_at, ValidBook, PollsIn}
use Rattle.module.specs.Model.{around}
use Rattle.fitting_module.specs.Words.{Words, module_at}
use Rattle.fitting_module.specs.Model.{state_at, ValidWords, ValidState}

-- The number is the specification's poll of slot i, 14 without a site, whatever logs and words the other slots have with which the state is
-- valid.
abbrev pub PollsSlot : Words → ℕ → Lent → ℕ → ℕ → Type 0
PollsSlot ws i m h n =
    (logs books : ℕ → List ℕ) → ValidWords ws (around i m logs books) →
    n ≡ polled_number (poll_at h (slot_at i (state_at ws (around i m logs books))).site)

module _ (ws : Words) (i : ℕ) (m : Lent) (c : Module) (is : c ≡ module_at ws) where
  pub poll_valid : ValidState ws i m → ValidBook c i m.book
  poll_valid (logs, books, v) =
      subst (λ (k : Module). ValidBook k i m.book) (sym is) (m.log, m.rows, m.order, logs, books, v.valid)

  pub polls_slot : (h : ℕ) (p : Option PollAnswer) (n : ℕ) → PollsIn c i m.book h p → n ≡ polled_number (slot_polled p) →
      PollsSlot ws i m h n
  polls_slot h p n P e logs books v =
      e
      ∙ ap polled_number (subst (λ (k : Module). PollsIn k i m.book h p) is P m.log m.rows m.order logs books v.valid)
