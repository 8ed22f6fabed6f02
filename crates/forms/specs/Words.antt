-- The words of a line, as bytes.
use Rattle.std.specs.Prelude.{ℕ, ◌⊎◌, ◌≡◌, refl, List, [], ◌∷◌, ◌++◌, Bool, true, false, cond, not, eqb}
use Prim.Native.Char.{code}
use Prim.Native.String.{String, [] as []ˢ, ◌∷◌ as ◌∷ˢ◌}
use Rattle.std.proofs.Common.{arith, eq-eqb, eqb-true, inl, inr, ⊎_elim, ap₂, sym}
use Rattle.forms.specs.Decimal.{Step}
use Rattle.forms.specs.Decimal.Step.{got, bad}

-- The bytes of a text of ASCII characters.
abbrev pub bytes : String → List ℕ
bytes []ˢ = []
bytes (c ∷ˢ s) = code c ∷ bytes s

bytes-did : bytes "did " ≡ 100 ∷ 105 ∷ 100 ∷ 32 ∷ []
bytes-did = refl

-- Reads the word w at the front.
unfoldable pub word : List ℕ → List ℕ → Step (Unit {0})
word [] l = got tt l
word (c ∷ w) [] = bad
word (c ∷ w) (b ∷ l) = cond (eqb c b) (word w l) bad

pub true_or_false : (t : Bool) → (t ≡ true) ⊎ (t ≡ false)
true_or_false true = inl refl
true_or_false false = inr refl

pub so : (t : Bool) → not t ≡ false → t ≡ true
so true e = refl
so false e = sym e

-- A word that is written is read back, and a word that is read was written.
pub word-written : (w rest : List ℕ) → word w (w ++ rest) ≡ got tt rest
unfolding word
word-written [] rest = refl
word-written (c ∷ w) rest = rw (eq-eqb c c refl) (word-written w rest)

pub word_read : (w l : List ℕ) (u : Unit {0}) (rest : List ℕ) → word w l ≡ got u rest → l ≡ w ++ rest
unfolding word
word_read [] l u rest h = cc
word_read (c ∷ w) [] u rest h = let z : ◌≡◌ {A = ℕ} 0 1 = cc in absurd (omega arith)
word_read (c ∷ w) (b ∷ l) u rest h =
    ⊎_elim
    (λ (e : eqb c b ≡ true). ap₂ (λ (x : ℕ) (y : List ℕ). x ∷ y) (sym (eqb-true c b e)) (word_read w l u rest (rw e at h)))
    (λ (e : eqb c b ≡ false). let z : bad ≡ got u rest = rw e at h in let y : ◌≡◌ {A = ℕ} 0 1 = cc in absurd (omega arith))
    (true_or_false (eqb c b))
