-- The bytes in use of a valid site are its state's log, so the card that is made of them is the state's.
use Rattle.std.specs.Prelude.{ℕ, ◌*◌, ◌≤◌, ◌≡◌, refl, List, length, take, drop, Option as Held, Some, None, Result, Ok, Err, MatchResult, IsOkAnd}
use Rattle.std.proofs.Common.{arith, sym, ap, subst, ◌∙◌}
use Rattle.forms.specs.Refusals.{number_of}
use Rattle.forms.specs.declared.Refusal.{Refusal}
use Rattle.forms.specs.declared.Refusal.TheVariants.{OutOfTurn}
use Rattle.rules.specs.State.{State}
use Rattle.rules.specs.Card.{Carded, not_carded, carded, card}
use Rattle.rule_laws.specs.CardLaws.{InRange, carded_exactly}
use Rattle.site.specs.declared.Site.{Site}
use Rattle.site.specs.Representation.{Sound}
use Rattle.site.specs.Model.{Lent, view, Valid}
use Rattle.session.specs.Model.{view_of}
use Rattle.card.specs.declared.Card.{Card}
use Rattle.card.specs.Model.{row_width, LogOf, IsCard, MadeAs}
use Rattle.fitting_ledger.specs.Counters.{session_at}
use Rattle.fitting_ledger.specs.Model.{state_at}
use Rattle.call_words.specs.Said.{said_number, said_value}
use Rattle.fitting_ledger.specs.Cards.{lines_in, CardsAs, CardsState}

-- ### The site's log

-- The bytes in use of a valid site are a log of its state.
pub site_log : (s : Site) (m : Lent) → Valid s m → LogOf (view s m) (take s.used m.log) s.count s.head
unfolding Sound
site_log s m v =
    record { good = v.sound.good; text = v.sound.carries.text; count = refl; head_is = v.sound.carries.head }

pub site_within : (s : Site) (m : Lent) → Valid s m → s.used ≤ length m.log
unfolding Sound
site_within s m v = v.sound.carries.within

-- ### A card

-- How many lines count, by `map`.
pub lines_mapped : (P : Card → ℕ → Type 0) (r : Result Card Refusal) (q : Result ℕ Refusal) →
    MatchResult r (λ c. IsOkAnd q (λ n. P c n)) (λ e. q ≡ Err e) → ((c : Card) (n : ℕ) → P c n → n ≡ c.lines) → q ≡ lines_in r
lines_mapped P (Ok c) (Ok n) h k = ap Ok (k c n h)
lines_mapped P (Ok c) (Err e) h k = absurd h
lines_mapped P (Err e) q h k = h

-- A state's card is the card that is told.
card-told : (w : ℕ) (st : State) (c : Card) (old : List ℕ) (before : ℕ) (new : List ℕ) →
    IsCard w st c new (drop (row_width * st.histories) old) → CardsAs (card w st) w st old before 0 new c.lines
card-told w st c old before new K =
    subst (λ (t : Carded). CardsAs t w st old before 0 new c.lines) (sym (carded_exactly w st range))
    (record { answer = refl; counts = K.numbers; lines = K.goes_on.lines })
  where
    range : InRange w
    range = record { least = omega (arith, K.goes_on.least, K.window); most = omega (arith, K.goes_on.most, K.window) }

-- A card that was made, or refused, of the state.
made_told : (w : ℕ) (st : State) (old : List ℕ) (before : ℕ) (made : Result Card Refusal) (n : ℕ) (new : List ℕ) (after : ℕ) →
    MadeAs (card w st) w st old made new → n ≡ said_number (lines_in made) → after ≡ said_value (lines_in made) before →
    CardsAs (card w st) w st old before n new after
unfolding said_number said_value
made_told w st old before made n new after M e f = go (card w st) refl M
  where
    go : (t : Carded) → card w st ≡ t → MadeAs t w st old made new → CardsAs (card w st) w st old before n new after
    go (not_carded q) is (m, same) =
        subst (λ (t : Carded). CardsAs t w st old before n new after) (sym is)
        (record { answer = e ∙ ap (λ (x : Result Card Refusal). said_number (lines_in x)) m; counts = same; lines = f ∙ ap (λ (x : Result Card Refusal). said_value (lines_in x) before) m })
    go (carded rows) is (c, m, K) =
        subst (λ (k : ℕ). CardsAs (card w st) w st old before k new after) (sym (e ∙ ap (λ (x : Result Card Refusal). said_number (lines_in x)) m))
        (subst (CardsAs (card w st) w st old before 0 new) (sym (f ∙ ap (λ (x : Result Card Refusal). said_value (lines_in x) before) m))
        (card-told w st c old before new K))

module _ (ws : List ℕ) (m : Lent) (w : ℕ) (old : List ℕ) (before : ℕ) where
  -- .. of an open site
  pub cards_opened : (site : Site) (made : Result Card Refusal) (n : ℕ) (new : List ℕ) (after : ℕ) → (session_at ws).site ≡ Some site →
      MadeAs (card w (view site m)) w (view site m) old made new → n ≡ said_number (lines_in made) → after ≡ said_value (lines_in made) before →
      CardsState w (state_at ws m) old before n new after
  cards_opened site made n new after o M e f =
      subst (λ (x : Held Site). CardsState w (view_of x m) old before n new after) (sym o)
      (made_told w (view site m) old before made n new after M e f)

  -- .. "before site"
  pub cards_before : (session_at ws).site ≡ None → CardsState w (state_at ws m) old before (number_of OutOfTurn) old before
  cards_before o =
      subst (λ (x : Held Site). CardsState w (view_of x m) old before (number_of OutOfTurn) old before) (sym o)
      (record { answer = refl; counts = refl; lines = refl })
