-- Laws of a card over raw bytes: a site that a restart gave is valid, so its log is one; a cut of a log is a beginning of it.
use Rattle.std.specs.Prelude.{ℕ, ◌+◌, ◌*◌, ◌≤◌, ◌≡◌, refl, List, [], length, take, drop, Result, Ok, Err}
use Rattle.std.proofs.Common.{arith, sym, ap, ◌∙◌}
use Rattle.std.proofs.Math.Path.{subst}
use Rattle.forms.specs.Decimal.{top}
use Rattle.forms.specs.Refusals.{number_of}
use Rattle.forms.specs.Forms.{Answer}
use Rattle.forms.specs.declared.Refusal.{Refusal}
use Rattle.forms.specs.Limits.{window_limit}
use Rattle.forms.specs.declared.Refusal.TheVariants.{WindowRange}
use Rattle.rules.specs.State.{State, Reply, refused, ok}
use Rattle.rules.specs.Calls.{restart, Cut, step}
use Rattle.rule_laws.specs.GrowLaws.{Continues}
use Rattle.rules.specs.Card.{Carded, not_carded, carded, card, card_afresh}
use Rattle.rule_laws.specs.CardLaws.{InRange, carded_exactly, refused_exactly}
use Rattle.recovery.proofs.Cuts.{cutting}
use Rattle.site.specs.declared.Site.{Site}
use Rattle.site.specs.Representation.{Sound}
use Rattle.site.specs.Model.{lent, represented}
use Rattle.site.specs.RestartLaws.{cut-restarts, log_limit_lem, used_limit}
use Rattle.card.specs.declared.Card.{Card}
use Rattle.card.specs.Model.{row_width, LogOf, IsCard, MadeAs, CardBefore, Follows}
use Rattle.c_api.specs.Codes.{replied_number}
use Rattle.c_api.specs.Taken.{UpAs, TakenUp}
use Rattle.c_api.specs.Cards.{card_answer, counts_after, CardsSaid, CardsAfter, CardsTaken, GoesOn}

-- ### The log of a site

module _ (s : Site) (log : List ℕ) (st : State) (U : UpAs s log st) where
  pub up_log : LogOf st (take s.used log) s.count s.head
  unfolding Sound
  up_log =
      subst (λ (x : State). LogOf x (take s.used log) s.count s.head) U.state
      (record {
        good = U.valid.sound.good;
        text = U.valid.sound.carries.text;
        count = refl;
        head_is = U.valid.sound.carries.head;
      })

  pub up_used : s.used ≤ length log
  unfolding Sound
  up_used = U.valid.sound.carries.within

  -- A restart from first bytes, its head among them, gives a beginning of the log.
  pub up_continues : (k : ℕ) (before : State) (a : Answer) → restart log k ≡ ok before a → s.head ≤ k → k ≤ s.used → Continues before st
  up_continues k before a e h le =
      let v = U.valid.sound in
      let w = represented s (lent log U.rows U.order U.book []) in
      let low : k ≤ top = let x = log_limit_lem w log v in let y = used_limit w log v in omega (arith, le, x, y) in
      let C = cutting k (length log) st before a up_log.good
      (subst (λ (x : State). step (Cut k (length log)) x ≡ ok before a) U.state (cut-restarts w log v log k low h le refl ∙ e)) in
      record { histories = sym C.n_is; base = sym C.base_is; lines = C.lines }

-- ### The card of a site

-- 22, and every number is as it was
record Out (w : ℕ) (old : List ℕ) (q : Refusal) (new : List ℕ) : Type 0 where
  out : InRange w → ⊥
  number : q ≡ WindowRange
  same : new ≡ old

made-out : (w : ℕ) (st : State) (old : List ℕ) (made : Result Card Refusal) (new : List ℕ) (q : Refusal) → MadeAs (card w st) w st old made new →
    made ≡ Err q → Out w old q new
made-out w st old made new q M is = go (card w st) refl M
  where
    go : (t : Carded) → card w st ≡ t → MadeAs t w st old made new → Out w old q new
    go (not_carded x) e (m, same) =
        let out : (InRange w → ⊥) = λ R.
        let clash : carded (card_afresh w st) ≡ not_carded x = sym (carded_exactly w st R) ∙ e in
        let z : ◌≡◌ {A = ℕ} 0 1 = cc in omega arith in
        let both : ◌≡◌ {A = Result Card Refusal} (Err x) (Err q) = sym m ∙ is in
        let one : not_carded x ≡ not_carded WindowRange = sym e ∙ refused_exactly w st out in
        record { out = out; number = cc; same = same }
    go (carded rows) e (c, m, K) =
        let clash : ◌≡◌ {A = Result Card Refusal} (Ok c) (Err q) = sym m ∙ is in let z : ◌≡◌ {A = ℕ} 0 1 = cc in absurd (omega arith)

-- .. whichever site the number is told for
pub made_refused : (w : ℕ) (st : State) (old : List ℕ) (made : Result Card Refusal) (new : List ℕ) (q : Refusal) →
    MadeAs (card w st) w st old made new → made ≡ Err q → (later : State) → CardsSaid w later old (Err q) new
unfolding card_answer counts_after replied_number
made_refused w st old made new q M is later =
    let o = made-out w st old made new q M is in
    let e = refused_exactly w later o.out in
    record {
      cards = record {
        answer = ap number_of o.number ∙ sym (ap (card_answer w later) e);
        numbers = o.same ∙ sym (ap (λ (t : Carded). counts_after later t old) e);
      };
      few = λ n f. let z : ◌≡◌ {A = ℕ} 0 1 = cc in absurd (omega arith);
    }

-- A card that was made, and its numbers.
pub made-card : (w : ℕ) (st : State) (old : List ℕ) (made : Result Card Refusal) (new : List ℕ) (c : Card) → MadeAs (card w st) w st old made new →
    made ≡ Ok c → IsCard w st c new (drop (row_width * st.histories) old)
made-card w st old made new c M is = go (card w st) M
  where
    go : (t : Carded) → MadeAs t w st old made new → IsCard w st c new (drop (row_width * st.histories) old)
    go (not_carded x) (m, same) =
        let clash : ◌≡◌ {A = Result Card Refusal} (Err x) (Ok c) = sym m ∙ is in let z : ◌≡◌ {A = ℕ} 0 1 = cc in absurd (omega arith)
    go (carded rows) (d, m, K) =
        let both : ◌≡◌ {A = Result Card Refusal} (Ok d) (Ok c) = sym m ∙ is in
        let same : d ≡ c = cc in subst (λ (k : Card). IsCard w st k new (drop (row_width * st.histories) old)) same K

-- at most W lines count
pub lines_few : (w : ℕ) (st : State) (c : Card) (new past : List ℕ) → IsCard w st c new past → c.lines ≤ window_limit
lines_few w st c new past K = omega (arith, K.goes_on.lines, K.goes_on.few, K.goes_on.most)

pub card-told : (w : ℕ) (st : State) (c : Card) (old new : List ℕ) → IsCard w st c new (drop (row_width * st.histories) old) →
    CardsSaid w st old (Ok c.lines) new
unfolding card_answer counts_after replied_number
card-told w st c old new K =
    let R : InRange w = record { least = omega (arith, K.goes_on.least, K.window); most = omega (arith, K.goes_on.most, K.window) } in
    let e = carded_exactly w st R in
    record {
      cards = record {
        answer = ap (λ (n : ℕ). n + 1000) K.goes_on.lines ∙ sym (ap (card_answer w st) e);
        numbers = K.numbers ∙ sym (ap (λ (t : Carded). counts_after st t old) e);
      };
      few = λ n f. let same : c.lines ≡ n = cc in omega (arith, same, lines_few w st c new (drop (row_width * st.histories) old) K);
    }

-- ### Following

module _ (first s : Site) (log : List ℕ) (before st : State) (G : GoesOn first s log before st) (w : ℕ) (old mid : List ℕ) (c : Card)
    (K : IsCard w before c mid (drop (row_width * before.histories) old)) where
  pub can_follow : CardBefore w before st (take s.used log) c mid (drop (row_width * before.histories) old)
  can_follow =
      let L = up_log s log st G.now in record { card = K; good = L.good; goes_on = G.on; text = L.text }

  pub followed-card : (d : Card) (new : List ℕ) → Follows (take s.used log) c mid d new →
      IsCard w st d new (drop (row_width * st.histories) old)
  followed-card d new F =
      subst (IsCard w st d new) (ap (λ (n : ℕ). drop (row_width * n) old) (sym G.on.histories))
      (F w before st (drop (row_width * before.histories) old) can_follow)

-- ### Two restarts

-- A refusal of the first, or of the second, is told, and nothing else is done.
pub first_refused : (w : ℕ) (first second : Reply) (old : List ℕ) (q : Refusal) → first ≡ refused q →
    CardsTaken w first second old (Err q) old
unfolding replied_number
first_refused w first second old q e =
    record {
      cards = subst (λ (x : Reply). CardsAfter w x second old (number_of q) old) (sym e) (refl, refl);
      few = λ n f. let z : ◌≡◌ {A = ℕ} 0 1 = cc (f) in absurd (omega arith);
    }

pub second_refused : (w : ℕ) (first second : Reply) (log old : List ℕ) (s : Site) (q : Refusal) → TakenUp first log s →
    second ≡ refused q → CardsTaken w first second old (Err q) old
unfolding replied_number
second_refused w first second log old s q A e =
    record {
      cards =
          subst (λ (x : Reply). CardsAfter w x second old (number_of q) old) (sym A.is)
          (subst (λ (x : Reply). CardsAfter w (ok A.after A.answer) x old (number_of q) old) (sym e) (refl, refl));
      few = λ n f. let z : ◌≡◌ {A = ℕ} 0 1 = cc (f) in absurd (omega arith);
    }

-- Both give a site, and the card is that of the second's state.
pub both_up : (w : ℕ) (first second : Reply) (log old : List ℕ) (a b : Site) (r : Result ℕ Refusal) (new : List ℕ) →
    TakenUp first log a → (B : TakenUp second log b) → CardsSaid w B.after old r new → CardsTaken w first second old r new
both_up w first second log old a b r new A B C =
    record {
      cards =
          subst (λ (x : Reply). CardsAfter w x second old (replied_number r) new) (sym A.is)
          (subst (λ (x : Reply). CardsAfter w (ok A.after A.answer) x old (replied_number r) new) (sym B.is) C.cards);
      few = C.few;
    }

-- The later log goes on where the earlier ends, whose bytes are a cut of it.
pub goes-on : (log : List ℕ) (begun kept : ℕ) (first s : Site) (A : TakenUp (restart log begun) log first)
    (B : TakenUp (restart log kept) log s) → s.head ≤ begun → begun ≤ s.used → GoesOn first s log A.after B.after
goes-on log begun kept first s A B h l =
    record { begun = A.up; now = B.up; on = up_continues s log B.after B.up begun A.after A.answer A.is h l }
