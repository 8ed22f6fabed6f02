-- The card of the last W lines of the site's log, as its owner gets it: "over the last W did lines, how many updates of each rule each
-- history had".
use Rattle.std.specs.Prelude.{ℕ, ◌*◌, ◌≡◌, List, ◌++◌, length, drop, Result, Ok, Err}
use Rattle.std.proofs.Math.Option.{Option, none, some}
use Rattle.forms.specs.Refusals.{number_of}
use Rattle.forms.specs.declared.Refusal.{Refusal}
use Rattle.forms.specs.declared.Refusal.TheVariants.{OutOfTurn}
use Rattle.rules.specs.State.{State}
use Rattle.rules.specs.Card.{CardRow, Carded, not_carded, carded, card, card_numbers, last_lines}
use Rattle.card.specs.declared.Card.{Card}
use Rattle.card.specs.Model.{row_width}

-- how many lines count, or why there is no card
abbrev pub lines_in : Result Card Refusal → Result ℕ Refusal
lines_in (Ok c) = Ok c.lines
lines_in (Err q) = Err q

-- "A refusal returns its number only": every count is as it was, and so is the number of lines.
pub record CardsNot (q : Refusal) (old : List ℕ) (before n : ℕ) (new : List ℕ) (after : ℕ) : Type 0 where
  pub answer : n ≡ number_of q
  pub counts : new ≡ old
  pub lines : after ≡ before

-- The card of W lines of the state has these rows: they are the first counts, and those past the site's histories are as they were.
pub record CardsWith (rows : List CardRow) (w : ℕ) (st : State) (old : List ℕ) (n : ℕ) (new : List ℕ) (after : ℕ) : Type 0 where
  pub answer : n ≡ 0
  pub counts : new ≡ card_numbers rows ++ drop (row_width * st.histories) old
  pub lines : after ≡ length (last_lines w st.log)

abbrev pub CardsAs : Carded → ℕ → State → List ℕ → ℕ → ℕ → List ℕ → ℕ → Type 0
CardsAs (not_carded q) w st old before n new after = CardsNot q old before n new after
CardsAs (carded rows) w st old before n new after = CardsWith rows w st old n new after

-- The card of the last W lines of the state, "one counted afresh from the log then held": 14 "before site", 22. The counts were `old` and
-- are `new`, the number of lines was `before` and is `after`.
abbrev pub CardsState : ℕ → Option State → List ℕ → ℕ → ℕ → List ℕ → ℕ → Type 0
CardsState w none old before n new after = CardsNot OutOfTurn old before n new after
CardsState w (some st) old before n new after = CardsAs (card w st) w st old before n new after
