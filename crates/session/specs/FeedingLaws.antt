-- Feeding an input in any chunks gives the same replies as feeding it whole.
use Rattle.std.specs.Prelude.{ℕ, ◌≡◌, refl, List, [], ◌∷◌, ◌++◌}
use Rattle.std.proofs.Common.{sym, ap, ◌∙◌, append_assoc, append-nil}
use Rattle.std.proofs.Math.Option.{Option}
use Rattle.forms.specs.Forms.{outcome_text}
use Rattle.rules.specs.State.{State}
use Rattle.rules.specs.Log.{ended, lines_from, rest_from}
use Rattle.rule_laws.specs.LineSplitLaws.{lines-append, rest-append}
use Rattle.rules.specs.Session.{turn, replies, after_lines, rest_reply, session_in}
use Rattle.session.specs.Feeding.{Progress, at_start, fed, fed_all, joined}

-- ### Lines in two parts

pub replies-append : (room : ℕ) (a b : List (List ℕ)) (s : Option State) →
    replies room (a ++ b) s ≡ replies room a s ++ replies room b (after_lines room a s)
unfolding replies after_lines
replies-append room [] b s = refl
replies-append room (l ∷ a) b s =
    ap (λ (x : List ℕ). ended (outcome_text (turn room l s).reply) ++ x) (replies-append room a b (turn room l s).after)
    ∙ sym (append_assoc (ended (outcome_text (turn room l s).reply)) (replies room a (turn room l s).after)
    (replies room b (after_lines room a (turn room l s).after)))

pub after-append : (room : ℕ) (a b : List (List ℕ)) (s : Option State) →
    after_lines room (a ++ b) s ≡ after_lines room b (after_lines room a s)
unfolding after_lines
after-append room [] b s = refl
after-append room (l ∷ a) b s = after-append room a b (turn room l s).after

-- ### Chunks

-- Two chunks are as good as one.
pub fed-append : (room : ℕ) (a b : List ℕ) (g : Progress) → fed room b (fed room a g) ≡ fed room (a ++ b) g
unfolding fed
fed-append room a b g = λ i. record { begun = begun i; session = session i; replied = replied i }
  where
    front : List (List ℕ)
    front = lines_from g.begun a

    back : List (List ℕ)
    back = lines_from (rest_from g.begun a) b

    begun : rest_from (rest_from g.begun a) b ≡ rest_from g.begun (a ++ b)
    begun = sym (rest-append g.begun a b)

    session : after_lines room back (after_lines room front g.session) ≡ after_lines room (lines_from g.begun (a ++ b)) g.session
    session = sym (after-append room front back g.session)
        ∙ ap (λ (x : List (List ℕ)). after_lines room x g.session) (sym (lines-append g.begun a b))

    replied : (g.replied ++ replies room front g.session) ++ replies room back (after_lines room front g.session)
        ≡ g.replied ++ replies room (lines_from g.begun (a ++ b)) g.session
    replied =
        append_assoc g.replied (replies room front g.session) (replies room back (after_lines room front g.session))
        ∙ ap (λ (x : List ℕ). g.replied ++ x)
        (sym (replies-append room front back g.session)
        ∙ ap (λ (x : List (List ℕ)). replies room x g.session) (sym (lines-append g.begun a b)))

pub fed_none : (room : ℕ) (g : Progress) → fed room [] g ≡ g
unfolding fed lines_from rest_from replies after_lines
fed_none room g = λ i. record { begun = g.begun; session = g.session; replied = append-nil g.replied i }

-- A line end: the line is replied to, and nothing is begun.
pub fed-end : (room : ℕ) (g : Progress) →
    fed room (10 ∷ []) g
    ≡ record {
      begun = [];
      session = (turn room g.begun g.session).after;
      replied = g.replied ++ ended (outcome_text (turn room g.begun g.session).reply);
    }
unfolding fed lines_from rest_from replies after_lines
fed-end room g =
    λ i. record {
      begun = [];
      session = (turn room g.begun g.session).after;
      replied = g.replied ++ append-nil (ended (outcome_text (turn room g.begun g.session).reply)) i;
    }

-- Feeding in any chunks gives what feeding them whole gives: the same replies, session and unended line.
pub chunks : (room : ℕ) (cs : List (List ℕ)) (g : Progress) → fed_all room cs g ≡ fed room (joined cs) g
unfolding fed_all joined
chunks room [] g = sym (fed_none room g)
chunks room (c ∷ cs) g = chunks room cs (fed room c g) ∙ fed-append room c (joined cs) g

-- A whole input, in any chunks, and the reply to its unended rest: the specification's session.
pub whole-input : (room : ℕ) (cs : List (List ℕ)) →
    session_in room (joined cs) ≡ (fed_all room cs at_start).replied ++ rest_reply (fed_all room cs at_start).begun
unfolding session_in fed at_start
whole-input room cs = ap (λ (g : Progress). g.replied ++ rest_reply g.begun) (sym (chunks room cs at_start))
