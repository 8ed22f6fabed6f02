-- What is lent, in an `ensures`, where a parameter is a pair: as it came, and as it is left.
use Rattle.std.specs.Prelude.{ℕ, List}
use Rattle.std.specs.Borrow.{MutBor}
use denote.Triple.Both.{Both}

-- numbers or bytes, as they came ..
abbrev pub was : Both (MutBor (List ℕ)) (MutBor (List ℕ)) → List ℕ
was x = x.entry.now

-- .. and as they are left
abbrev pub left : Both (MutBor (List ℕ)) (MutBor (List ℕ)) → List ℕ
left x = x.exit.now

-- a single number, as it came ..
abbrev pub before : Both (MutBor ℕ) (MutBor ℕ) → ℕ
before x = x.entry.now

-- .. and as it is left
abbrev pub after : Both (MutBor ℕ) (MutBor ℕ) → ℕ
after x = x.exit.now
