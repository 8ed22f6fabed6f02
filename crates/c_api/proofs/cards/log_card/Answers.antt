-- What is told of the card of the later site is its number; the lines that count are few, so that it is in range.
use Rattle.std.proofs.Common.{arith, subst, sym, ℕ}
use Rattle.rules.specs.Calls.{restart}
use Rattle.c_api.specs.Cards.{CardsAfter}
use Rattle.c_api.proofs.cards.log_card.Goals as goal

pub replied_number-requires : goal.replied_number-requires
replied_number-requires c = λ n e. let f = c.card_taken.ensures.few n e in omega arith

pub returns : goal.returns
returns c =
    let a = c.args in
    let t = c.card_taken in
    subst (λ (r : ℕ). CardsAfter a.w (restart a.log.now a.begun) (restart a.log.now a.kept) a.counts.now r t.new.counts)
    (sym c.replied_number.ensures) t.ensures.cards
