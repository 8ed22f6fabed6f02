-- What a card gives over raw bytes: "over the last W did lines, how many updates of each rule each history had".
use Rattle.std.specs.Prelude.{ℕ, ◌+◌, ◌*◌, ◌≤◌, ◌≡◌, List, ◌++◌, length, drop, Result, Ok}
use Rattle.forms.specs.Refusals.{number_of}
use Rattle.forms.specs.Limits.{window_limit}
use Rattle.forms.specs.declared.Refusal.{Refusal}
use Rattle.rules.specs.State.{State, Reply, refused, ok}
use Rattle.rule_laws.specs.GrowLaws.{Continues}
use Rattle.rules.specs.Card.{Carded, not_carded, carded, card, card_numbers, last_lines}
use Rattle.site.specs.declared.Site.{Site}
use Rattle.card.specs.Model.{row_width}
use Rattle.c_api.specs.Codes.{replied_number}
use Rattle.c_api.specs.Taken.{UpAs}

-- A refusal's number, or 1,000 more than the lines that count.
unfoldable pub card_answer : ℕ → State → Carded → ℕ
card_answer w st (not_carded q) = number_of q
card_answer w st (carded rows) = length (last_lines w st.log) + 1000

-- The numbers then: those of the site's histories; a refused call leaves every number, and no call changes one past them.
unfoldable pub counts_after : State → Carded → List ℕ → List ℕ
counts_after st (not_carded q) old = old
counts_after st (carded rows) old = card_numbers rows ++ drop (row_width * st.histories) old

-- The card of the last W lines of a site's log.
pub record Cards (w : ℕ) (st : State) (old : List ℕ) (r : ℕ) (new : List ℕ) : Type 0 where
  pub answer : r ≡ card_answer w st (card w st)
  pub numbers : new ≡ counts_after st (card w st) old

-- .. that a second restart gives, where none of the two is refused
abbrev pub CardsAfter : ℕ → Reply → Reply → List ℕ → ℕ → List ℕ → Type 0
CardsAfter w (refused q) second old r new = (r ≡ number_of q) × (new ≡ old)
CardsAfter w (ok st a) (refused q) old r new = (r ≡ number_of q) × (new ≡ old)
CardsAfter w (ok st a) (ok later b) old r new = Cards w later old r new

-- ### Sites that are taken up

-- The card of a state's last lines, or why there is none: at most as many lines count as a window may have.
pub record CardsSaid (w : ℕ) (st : State) (old : List ℕ) (r : Result ℕ Refusal) (new : List ℕ) : Type 0 where
  pub cards : Cards w st old (replied_number r) new
  pub few : (n : ℕ) → r ≡ Ok n → n ≤ window_limit

-- the card of a site's state
abbrev pub CardsOf : Site → List ℕ → ℕ → List ℕ → Result ℕ Refusal → List ℕ → Type 0
CardsOf s log w old r new = (st : State) → UpAs s log st → CardsSaid w st old r new

-- Two sites of one buffer, of which the second's log goes on where the first's ends.
pub record GoesOn (first s : Site) (log : List ℕ) (before st : State) : Type 0 where
  pub begun : UpAs first log before
  pub now : UpAs s log st
  pub on : Continues before st

pub record CanGoOn (first s : Site) (log : List ℕ) : Type 0 where
  pub before : State
  pub after : State
  pub both : GoesOn first s log before after

abbrev pub CardsOn : Site → Site → List ℕ → ℕ → List ℕ → Result ℕ Refusal → List ℕ → Type 0
CardsOn first s log w old r new = (before st : State) → GoesOn first s log before st → CardsSaid w st old r new

-- .. that the second of two restarts gives
pub record CardsTaken (w : ℕ) (first second : Reply) (old : List ℕ) (r : Result ℕ Refusal) (new : List ℕ) : Type 0 where
  pub cards : CardsAfter w first second old (replied_number r) new
  pub few : (n : ℕ) → r ≡ Ok n → n ≤ window_limit
