-- The first element that passes a test, and a list without one element.
use Rattle.std.specs.Prelude.{ℕ, zero, suc, ◌+◌, ◌≡◌, Bool, cond, List, [], ◌∷◌, length, Option, Some, None, option_map}
use Rattle.forms.specs.Write.{Wrote}

-- Where the first element stands that passes the test.
unfoldable pub first_at : {A : Type 0} → (A → Bool) → List A → Option ℕ
first_at p [] = None
first_at p (x ∷ xs) = cond (p x) (Some 0) (option_map suc (first_at p xs))

-- The list without its element at k: what a shift of the elements behind it leaves.
unfoldable pub omit : {A : Type 0} → ℕ → List A → List A
omit k [] = []
omit zero (x ∷ xs) = xs
omit (suc k) (x ∷ xs) = x ∷ omit k xs

-- The array of a reply's lists has the n numbers l from `at` on, and is as it was elsewhere.
pub record IsNumbers (old : List ℕ) (at n : ℕ) (ws l : List ℕ) : Type 0 where
  pub long : length old ≡ 68
  pub wrote : Wrote old at l (at + n) ws
