-- Words as runs of lower-case letters: the letters at the front, up to the first byte that is none, are compared with a fixed word.
use Rattle.std.specs.Prelude.{ℕ, ◌≡◌, List, [], ◌∷◌, ◌++◌, Bool, true, false, cond, ◌&&◌, ◌||◌, T, eqb}
use Rattle.std.proofs.Math.Path.{refl}
use Rattle.std.proofs.Common.{ap, sym, subst, ◌∙◌, ⊎_elim, eqb-true, ne_eqb}
use Rattle.forms.specs.Lists.{all}
use Rattle.forms.specs.ListLaws.{T_true, true_T, false_T, and_left, and_right, or_cases}
use Rattle.forms.specs.Decimal.{Step}
use Rattle.forms.specs.Decimal.Step.{got, bad}
use Rattle.forms.specs.Words.{word}
use Rattle.forms.specs.Reading.{bind}
use Rattle.forms.specs.Plain.{is_letter, is_mark, first_is_letter}

-- The run of letters at the front, and what stands behind it.
abbrev pub letter_run : List ℕ → List ℕ
letter_run [] = []
letter_run (b ∷ l) = cond (is_letter b) (b ∷ letter_run l) []

abbrev pub behind_run : List ℕ → List ℕ
behind_run [] = []
behind_run (b ∷ l) = cond (is_letter b) (behind_run l) (b ∷ l)

-- Two lists of bytes are the same.
abbrev pub same : List ℕ → List ℕ → Bool
same [] [] = true
same [] (b ∷ l) = false
same (c ∷ w) [] = false
same (c ∷ w) (b ∷ l) = eqb c b && same w l

-- Reads the word w: "fixed byte strings compared when reading a line". The run of letters at the front must be w.
unfoldable pub name : List ℕ → List ℕ → Step (Unit {0})
name w l = cond (same w (letter_run l)) (got tt (behind_run l)) bad

-- ### Byte after byte

pub name_stop : (l : List ℕ) → first_is_letter l ≡ false → name [] l ≡ got tt l
unfolding name
name_stop [] e = refl
name_stop (b ∷ l) e = rw e

pub name-goes_on : (l : List ℕ) → first_is_letter l ≡ true → name [] l ≡ bad
unfolding name
name-goes_on [] e = absurd (true_T false e)
name-goes_on (b ∷ l) e = rw e

pub name_none : (c : ℕ) (w l : List ℕ) → first_is_letter l ≡ false → name (c ∷ w) l ≡ bad
unfolding name
name_none c w [] e = refl
name_none c w (b ∷ l) e = rw e

pub name-step : (c : ℕ) (w : List ℕ) (b : ℕ) (l : List ℕ) → is_letter b ≡ true → name (c ∷ w) (b ∷ l) ≡ cond (eqb c b) (name w l) bad
unfolding name
name-step c w b l e = rw e (go (eqb c b) (same w (letter_run l)) (got tt (behind_run l)))
  where
    go : (p q : Bool) (r : Step (Unit {0})) → cond (p && q) r bad ≡ cond p (cond q r bad) bad
    go true q r = refl
    go false q r = refl

-- another byte than the word's
pub name_unlike : (c : ℕ) (w : List ℕ) (b : ℕ) (l : List ℕ) → eqb c b ≡ false → name (c ∷ w) (b ∷ l) ≡ bad
name_unlike c w b l n = go (is_letter b) refl
  where
    go : (q : Bool) → is_letter b ≡ q → name (c ∷ w) (b ∷ l) ≡ bad
    go true e = name-step c w b l e ∙ ap (λ (x : Bool). cond x (name w l) bad) n
    go false e = name_none c w (b ∷ l) e

-- ### A word between a bracket and the bracket or space behind it

-- a bracket, the word w and the byte m
abbrev pub word_text : List ℕ → ℕ → List ℕ
word_text w m = 40 ∷ (w ++ (m ∷ []))

-- the word is made of letters, and a bracket or the space stands behind it
abbrev pub WordIn : List ℕ → ℕ → Type 0
WordIn w m = T (is_mark m && all is_letter w)

mark_no_letter : (m : ℕ) → T (is_mark m) → is_letter m ≡ false
mark_no_letter m t =
    ⊎_elim (λ (p : T (eqb m 40)). is 40 refl p)
    (λ (q : T (eqb m 41 || eqb m 32)). ⊎_elim (λ (p : T (eqb m 41)). is 41 refl p) (λ (p : T (eqb m 32)). is 32 refl p)
    (or_cases (eqb m 41) (eqb m 32) q))
    (or_cases (eqb m 40) (eqb m 41 || eqb m 32) t)
  where
    is : (k : ℕ) → is_letter k ≡ false → T (eqb m k) → is_letter m ≡ false
    is k f p = ap (λ (x : ℕ). is_letter x) (eqb-true m k (T_true (eqb m k) p)) ∙ f

word_then : (w : List ℕ) (m : ℕ) (l : List ℕ) → T (all is_letter w) → is_letter m ≡ false
    → word (w ++ (m ∷ [])) l ≡ bind (name w l) λ u k. word (m ∷ []) k
unfolding word
word_then [] m [] t f = unfold name in refl
word_then [] m (b ∷ l) t f = go (is_letter b) refl
  where
    go : (q : Bool) → is_letter b ≡ q → word (m ∷ []) (b ∷ l) ≡ bind (name [] (b ∷ l)) λ u k. word (m ∷ []) k
    go true e =
        let apart : m ≡ b → ⊥ = λ p. false_T (is_letter m) f (subst (λ (x : ℕ). T (is_letter x)) (sym p) (true_T (is_letter b) e)) in
        let none : word (m ∷ []) (b ∷ l) ≡ bad = rw (ne_eqb m b apart) in
        none ∙ sym (ap (λ (x : Step (Unit {0})). bind x λ u k. word (m ∷ []) k) (name-goes_on (b ∷ l) e))
    go false e = sym (ap (λ (x : Step (Unit {0})). bind x λ u k. word (m ∷ []) k) (name_stop (b ∷ l) e))
word_then (c ∷ w) m [] t f = unfold name in refl
word_then (c ∷ w) m (b ∷ l) t f = go (eqb c b) refl (word_then w m l (and_right (is_letter c) (all is_letter w) t) f)
  where
    go : (q : Bool) → eqb c b ≡ q → word (w ++ (m ∷ [])) l ≡ (bind (name w l) λ u k. word (m ∷ []) k)
        → cond q (word (w ++ (m ∷ [])) l) bad ≡ bind (name (c ∷ w) (b ∷ l)) λ u k. word (m ∷ []) k
    go true e ih =
        let letter : is_letter b ≡ true =
        ap (λ (x : ℕ). is_letter x) (sym (eqb-true c b e)) ∙ T_true (is_letter c) (and_left (is_letter c) (all is_letter w) t) in
        ih ∙ sym (ap (λ (x : Step (Unit {0})). bind x λ u k. word (m ∷ []) k)
        (name-step c w b l letter ∙ ap (λ (x : Bool). cond x (name w l) bad) e))
    go false e ih = sym (ap (λ (x : Step (Unit {0})). bind x λ u k. word (m ∷ []) k) (name_unlike c w b l e))

word_open : (v l : List ℕ) → word (40 ∷ v) l ≡ bind (word (40 ∷ []) l) λ u k. word v k
unfolding word
word_open v [] = refl
word_open v (b ∷ l) = go (eqb 40 b)
  where
    go : (q : Bool) → cond q (word v l) bad ≡ bind (cond q (word [] l) bad) λ u k. word v k
    go true = refl
    go false = refl

-- Reading a bracket, a run of letters that is w, and the byte m behind it is reading these bytes.
module _ (w : List ℕ) (m : ℕ) (l : List ℕ) where
  pub word_0 : word (40 ∷ []) l ≡ bad → word (word_text w m) l ≡ bad
  word_0 e = word_open (w ++ (m ∷ [])) l ∙ ap (λ (x : Step (Unit {0})). bind x λ u k. word (w ++ (m ∷ [])) k) e

  module _ (t : WordIn w m) {k : List ℕ} (e : word (40 ∷ []) l ≡ got tt k) where
    word_1 : word (word_text w m) l ≡ bind (name w k) λ u j. word (m ∷ []) j
    word_1 =
        word_open (w ++ (m ∷ [])) l ∙ ap (λ (x : Step (Unit {0})). bind x λ u j. word (w ++ (m ∷ [])) j) e
        ∙ word_then w m k (and_right (is_mark m) (all is_letter w) t) (mark_no_letter m (and_left (is_mark m) (all is_letter w) t))

    pub word_2 : name w k ≡ bad → word (word_text w m) l ≡ bad
    word_2 n = word_1 ∙ ap (λ (x : Step (Unit {0})). bind x λ u j. word (m ∷ []) j) n

    pub word_3 : {j : List ℕ} → name w k ≡ got tt j → word (word_text w m) l ≡ word (m ∷ []) j
    word_3 n = word_1 ∙ ap (λ (x : Step (Unit {0})). bind x λ u j. word (m ∷ []) j) n
