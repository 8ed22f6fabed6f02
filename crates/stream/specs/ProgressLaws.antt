-- The specification's progress over an open part and over a line, and the buffer of replies.
use Rattle.std.specs.Prelude.{ℕ, ◌+◌, ◌≤◌, ◌≡◌, refl, List, [], ◌∷◌, ◌++◌, length, take, drop}
use Rattle.std.proofs.Common.{arith, sym, ap, ap₂, subst, ◌∙◌, append_assoc, append-nil, length-append, length-drop, take_at, drop-drop}
use Rattle.std.proofs.Math.Seq.{drop-append-add}
use Rattle.forms.specs.Forms.{outcome_text}
use Rattle.rules.specs.Log.{ended, lines_from}
use Rattle.rule_laws.specs.LineSplitLaws.{NoEnd, lines_from_open, rest_from_open}
use Rattle.rules.specs.Session.{turn, replies, after_lines, rest_reply, session_in}
use Rattle.session.specs.Feeding.{Progress, at_start, fed}
use Rattle.session.specs.FeedingLaws.{fed-append, fed-end}
use Rattle.forms.specs.Write.{placed, Wrote}
use Rattle.stream.specs.Model.{Fronts}

-- ### Progress

-- Bytes that end no line are kept.
abbrev pub kept_open : List ℕ → Progress → Progress
kept_open part g = record { begun = g.begun ++ part; session = g.session; replied = g.replied }

pub fed_open : (room : ℕ) (part : List ℕ) (g : Progress) → NoEnd part → fed room part g ≡ kept_open part g
unfolding fed replies after_lines
fed_open room part g h = λ i. record { begun = rest_from_open g.begun part h i; session = session i; replied = replied i }
  where
    none_ended : lines_from g.begun part ≡ []
    none_ended = lines_from_open g.begun part h

    session : after_lines room (lines_from g.begun part) g.session ≡ g.session
    session = ap (λ (x : List (List ℕ)). after_lines room x g.session) none_ended

    replied : g.replied ++ replies room (lines_from g.begun part) g.session ≡ g.replied
    replied = ap (λ (x : List (List ℕ)). g.replied ++ replies room x g.session) none_ended ∙ append-nil g.replied

-- A line that ends is replied to, and nothing is begun.
abbrev pub answered : ℕ → List ℕ → Progress → Progress
answered room part g =
    record {
      begun = [];
      session = (turn room (g.begun ++ part) g.session).after;
      replied = g.replied ++ ended (outcome_text (turn room (g.begun ++ part) g.session).reply);
    }

pub fed-line : (room : ℕ) (part : List ℕ) (g : Progress) → NoEnd part → fed room (ended part) g ≡ answered room part g
unfolding ended
fed-line room part g h = sym (fed-append room part (10 ∷ []) g) ∙ ap (λ (x : Progress). fed room (10 ∷ []) x) (fed_open room part g h)
    ∙ fed-end room (kept_open part g)

-- What was replied stands before what is replied later.
pub replied_grows : (room : ℕ) (a b : List ℕ) (g : Progress) → length (fed room a g).replied ≤ length (fed room (a ++ b) g).replied
unfolding fed
replied_grows room a b g =
    let later = replies room (lines_from (fed room a g).begun b) (fed room a g).session in
    let e = ap (λ (x : Progress). length x.replied) (fed-append room a b g) in
    let k = length-append (fed room a g).replied later in
    omega (arith, e, k)

-- A whole input's session: what it has replied, and the reply to its unended rest.
pub session_is : (room : ℕ) (input : List ℕ) →
    session_in room input ≡ (fed room input at_start).replied ++ rest_reply (fed room input at_start).begun
unfolding session_in fed at_start
session_is room input = refl

-- ### The buffer of replies

pub fronts_none : (out : List ℕ) → Fronts [] out out 0
fronts_none out = record { count = refl; bytes = refl }

pub fronts_fits : (text out page : List ℕ) (n : ℕ) → Fronts text out page n → length page ≡ length out → n ≤ length out
fronts_fits text out page n f h =
    let a = ap length f.bytes in
    let b = length-append text (drop n out) in
    let d = length-drop n out in
    let k = f.count in
    omega (arith, a, b, d, h, k)

-- what is written behind the replies so far
pub fronts_more : (text out page : List ℕ) (n : ℕ) (more : List ℕ) (m : ℕ) (next : List ℕ) → Fronts text out page n →
    Wrote page n more m next →
    Fronts (text ++ more) out next m
unfolding placed
fronts_more text out page n more m next f w =
    record {
      count = w.behind ∙ ap (λ (k : ℕ). k + length more) f.count ∙ sym (length-append text more);
      bytes =
          w.bytes
          ∙ ap₂ (λ (a b : List ℕ). a ++ (more ++ b)) front back
          ∙ sym (append_assoc text more (drop (n + length more) out))
          ∙ ap (λ (k : ℕ). (text ++ more) ++ drop k out) (sym w.behind);
    }
  where
    front : take n page ≡ text
    front = ap (λ (l : List ℕ). take n l) f.bytes ∙ take_at text (drop n out) n (sym f.count)

    back : drop (n + length more) page ≡ drop (n + length more) out
    back =
        ap₂ (λ (l : List ℕ) (k : ℕ). drop (k + length more) l) f.bytes f.count
        ∙ drop-append-add text (drop n out) (length more)
        ∙ drop-drop (length more) n out

pub fronts_as : (a b out page : List ℕ) (n : ℕ) → a ≡ b → Fronts a out page n → Fronts b out page n
fronts_as a b out page n e f = subst (λ (x : List ℕ). Fronts x out page n) e f
