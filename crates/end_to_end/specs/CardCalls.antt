-- The last W lines on one card (02, (j)): "after every call and cut the card equals one counted afresh from the log then held", of the
-- code's site and the code's card, by their contracts alone.
use Rattle.forms.specs.declared.Refusal.{Refusal}
use Rattle.std.specs.Prelude.{◌≡◌, false, List, [], ◌++◌, ℕ, Result, Ok}
use mathlib.Core.List.{Memᴰ as Mem}
use Rattle.rules.specs.State.{State}
use Rattle.rules.specs.Calls.{Call}
use Rattle.rules.specs.Run.{run}
use Rattle.rules.specs.Card.{card_afresh, card_numbers, card, takes_back}
use Rattle.card.specs.declared.Card.{Card}
use Rattle.card.specs.Model.{IsCard, CountsAfresh, Follows}
use Rattle.end_to_end.specs.SiteCalls.{Memory, state_in, ValidIn, Alone, log_in, Execution, StartsSite}

-- ### Calls of the code's site, and a card that follows them

-- A card by value, and the numbers that are lent to it.
pub record CardMemory : Type 0 where
  pub card : Card
  pub counts : List ℕ

-- Some calls of the site, and then a call of the card. One call of the site is "every call"; more of them may come between.
pub data CardStep (w : ℕ) (x : Memory) (k : CardMemory) : List Call → Memory → CardMemory → Type 0 where
  -- no cut and no changeover: `Card::follow` keeps its contract
  follows : (cs : List Call) (y : Memory) → ((c : Call) → Mem c cs → takes_back c ≡ false) → Execution x cs y →
      (r : Card) (new : List ℕ) → Follows (log_in y) k.card k.counts r new →
      CardStep w x k cs y (record { card = r; counts = new })
  -- any calls, cuts and changeovers too: `Card::afresh` keeps its contract, and made a card
  afresh : (cs : List Call) (y : Memory) → Execution x cs y →
      (made : Result Card Refusal) (new : List ℕ) → CountsAfresh w (log_in y) y.site.count y.site.head k.counts made new →
      (r : Card) → made ≡ Ok r → CardStep w x k cs y (record { card = r; counts = new })

-- .. again and again
pub data CardSteps (w : ℕ) : Memory → CardMemory → List Call → Memory → CardMemory → Type 0 where
  none : (x : Memory) (k : CardMemory) → CardSteps w x k [] x k
  next : {x y z : Memory} {k l m : CardMemory} {cs ds : List Call} → CardStep w x k cs y l → CardSteps w y l ds z m →
      CardSteps w x k (cs ++ ds) z m

-- The card is the one counted afresh from the log then held: the numbers of the site's histories; and it can go on from there.
pub record CardIs (w : ℕ) (x : Memory) (k : CardMemory) (st : State) : Type 0 where
  pub valid : ValidIn x
  pub alone : Alone x
  pub state : state_in x ≡ st
  pub past : List ℕ
  pub numbers : k.counts ≡ card_numbers (card_afresh w st) ++ past
  pub goes_on : IsCard w (state_in x) k.card k.counts past

-- From a site just opened or restarted, with a card counted afresh there, through every list of calls.
abbrev pub CardClaim : Type 0
CardClaim =
    (w m : ℕ) (start : Memory) → StartsSite m start →
    (old : List ℕ) (made : Result Card Refusal) (new : List ℕ) → CountsAfresh w (log_in start) start.site.count start.site.head old made new →
    (c : Card) → made ≡ Ok c →
    (cs : List Call) (x : Memory) (k : CardMemory) → CardSteps w start (record { card = c; counts = new }) cs x k →
    CardIs w x k (run cs (state_in start))
