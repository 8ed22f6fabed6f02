-- Numbers that a report is given, and those that it names.
use Rattle.std.specs.Prelude.{◌≡◌, Bool, true, false, not, ◌&&◌, List, ◌++◌, ℕ, suc, ◌-◌, ◌<◌, ◌≤◌, T, eqb, leb, ltb, length, get_or, drop, Result, Ok, Err}
use Rattle.forms.specs.Limits.{base_top}
use Rattle.forms.specs.Lists.{keep}
use Rattle.forms.specs.declared.Refusal.TheVariants.{NoRoom}
use Rattle.recovery.specs.Removal.{numbers_from, too_long}
use Rattle.removal.specs.Chains.{count_of, key_at}
use Rattle.forms.specs.declared.Refusal.{Refusal}

-- a number above base, and not above done
unfoldable pub known : ℕ → ℕ → ℕ → Bool
known base done k = ltb base k && leb k done

-- whether a thing holds
abbrev pub KnownIf : Bool → Type 0 → Type 0
KnownIf true P = P
KnownIf false P = P → ⊥

abbrev pub PairsKnown : List ℕ → ℕ → ℕ → Type 0
PairsKnown ws base done = (p : ℕ) → p < count_of ws → T (known base done (key_at ws 0 p))

abbrev pub LostKnown : List ℕ → ℕ → ℕ → Type 0
LostKnown lost base done = (k : ℕ) → k < length lost → T (known base done (get_or lost k 0))

-- whether the line with a log number is marked
unfoldable pub is_marked : ℕ → List ℕ → ℕ → Bool
is_marked base gone k = not (eqb (get_or gone (k - suc base) 0) 0)

-- the log numbers of those of the first n lines that are marked
unfoldable pub names : ℕ → List ℕ → ℕ → List ℕ
names base gone n = keep (is_marked base gone) (numbers_from base n)

-- marks of n lines behind a base
pub record CanAnswer (gone : List ℕ) (n base : ℕ) : Type 0 where
  pub within : n ≤ length gone
  pub few : n ≤ 2978
  pub low : base ≤ base_top

-- .. and room for their numbers
pub record CanName (gone : List ℕ) (n base room : ℕ) : Type 0 where
  pub can : CanAnswer gone n base
  pub fits : length (names base gone n) ≤ room

-- numbers at the front of a buffer, whose numbers behind them are as they were
abbrev pub Writes : List ℕ → List ℕ → List ℕ → Type 0
Writes l old new = new ≡ l ++ drop (length l) old

-- the first numbers are written
pub record WritesTo (base : ℕ) (gone : List ℕ) (i at : ℕ) (old new : List ℕ) : Type 0 where
  pub position : at ≡ length (names base gone i)
  pub numbers : new ≡ names base gone i ++ drop at old

-- 12, and nothing is changed
pub record AnswersNothing (old : List ℕ) (r : Result ℕ Refusal) (new : List ℕ) : Type 0 where
  pub answer : r ≡ Err NoRoom
  pub same : new ≡ old

-- how many they are, and the numbers
pub record AnswersNames (l old : List ℕ) (r : Result ℕ Refusal) (new : List ℕ) : Type 0 where
  pub answer : r ≡ Ok (length l)
  pub numbers : Writes l old new

-- .. by whether they fit
abbrev pub AnswersIf : Bool → List ℕ → List ℕ → Result ℕ Refusal → List ℕ → Type 0
AnswersIf true l old r new = AnswersNothing old r new
AnswersIf false l old r new = AnswersNames l old r new

abbrev pub Answers : List ℕ → List ℕ → Result ℕ Refusal → List ℕ → Type 0
Answers l old r new = AnswersIf (too_long (length old) l) l old r new
