-- A lent array in an `ensures`, where a parameter is a pair: its numbers as they came, and as they are left.
use Rattle.std.specs.Prelude.{ℕ, List}
use Rattle.std.specs.Borrow.{MutBor}
use denote.Triple.Both.{Both}

abbrev pub Ends : Type 0
Ends = Both (MutBor (List ℕ)) (MutBor (List ℕ))

-- as it came
abbrev pub was : Ends → List ℕ
was x = x.entry.now

-- as it is left
abbrev pub left : Ends → List ℕ
left x = x.exit.now
