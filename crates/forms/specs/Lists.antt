-- Tests and sums over a list.
use Rattle.std.specs.Prelude.{Bool, true, false, cond, ◌&&◌, ◌||◌, List, [], ◌∷◌, ◌++◌, ℕ, zero, suc, ◌+◌}
use Rattle.std.proofs.Math.Option.{Option, none, some}

module _ {A : Type 0} where
  -- Every element passes the test.
  abbrev pub all : (A → Bool) → List A → Bool
  all f [] = true
  all f (x ∷ xs) = f x && all f xs

  -- Some element passes the test.
  abbrev pub any : (A → Bool) → List A → Bool
  any f [] = false
  any f (x ∷ xs) = f x || any f xs

  -- The elements that pass the test, in order.
  abbrev pub keep : (A → Bool) → List A → List A
  keep f [] = []
  keep f (x ∷ xs) = cond (f x) (x ∷ keep f xs) (keep f xs)

  -- The first element that passes the test.
  abbrev pub find : (A → Bool) → List A → Option A
  find f [] = none
  find f (x ∷ xs) = cond (f x) (some x) (find f xs)

  -- The first n elements, and blanks in the places behind them.
  abbrev pub padded : A → ℕ → List A → List A
  padded blank zero xs = []
  padded blank (suc n) [] = blank ∷ padded blank n []
  padded blank (suc n) (x ∷ xs) = x ∷ padded blank n xs

  abbrev pub sum : (A → ℕ) → List A → ℕ
  sum f [] = zero
  sum f (x ∷ xs) = f x + sum f xs

-- The numbers below n, rising.
unfoldable pub below : ℕ → List ℕ
below zero = []
below (suc n) = below n ++ (n ∷ [])
