-- The four rules: when an update may run, what it does, and what blocks it ("A site").
use Rattle.std.specs.Prelude.{Bool, true, false, cond, ◌&&◌, ℕ, zero, suc, ◌+◌, ◌*◌, ◌/◌, ◌%◌, ◌^◌, ltb, eqb}
use Rattle.forms.specs.Limits.{part_limit}
use Rattle.forms.specs.Decimal.{top}
use Rattle.forms.specs.declared.Rule.{Rule}
use Rattle.forms.specs.declared.Rule.TheVariants.{Inc, Set, Not, Unk}
use Rattle.forms.specs.declared.DoneRule.{DoneRule}
use Rattle.forms.specs.declared.DoneRule.TheVariants.{DidInc, DidSet, DidNot}
use Rattle.forms.specs.declared.Timing.{Timing}
use Rattle.forms.specs.declared.Timing.TheVariants.{Now, Later, Never}

-- The rule of a logged update.
abbrev pub rule_of : DoneRule → Rule
rule_of DidInc = Inc
rule_of DidSet = Set
rule_of DidNot = Not

-- "`unk` is recorded as `inc`": the rule that the log gives.
abbrev pub logged_as : Rule → DoneRule
logged_as Inc = DidInc
logged_as Set = DidSet
logged_as Not = DidNot
logged_as Unk = DidInc

-- The table's column "may run if": with C the history's version and U the update's.
abbrev pub may_run : Rule → ℕ → ℕ → Bool
may_run Inc c u = eqb u (c + 1)
may_run Set c u = ltb c u
may_run Not c u = eqb u c
may_run Unk c u = ltb c top

-- Not at the version C, but at one that is still to come: U is above what the rule asks for now.
abbrev pub may_later : Rule → ℕ → ℕ → Bool
may_later Inc c u = ltb (c + 1) u
may_later Set c u = false
may_later Not c u = ltb c u
may_later Unk c u = false

-- 02 (b): "The test of an update against its history's version says from now on one of now, later or never."
abbrev pub timing : Rule → ℕ → ℕ → Timing
timing r c u = cond (may_run r c u) Now (cond (may_later r c u) Later Never)

-- the answer "never"
abbrev pub is_never : Timing → Bool
is_never Now = false
is_never Later = false
is_never Never = true

-- "`not` is weak, the others strong"
abbrev pub strong : Rule → Bool
strong Inc = true
strong Set = true
strong Not = false
strong Unk = true

-- "all but `unk` are ordered"
abbrev pub ordered : Rule → Bool
ordered Inc = true
ordered Set = true
ordered Not = true
ordered Unk = false

-- The version after: U for inc and set, kept for not, C + 1 for unk.
abbrev pub version_after : Rule → ℕ → ℕ → ℕ
version_after Inc c u = u
version_after Set c u = u
version_after Not c u = c
version_after Unk c u = c + 1

-- The operand's range where a profile has so many parts: a part × 256 + a byte of inc and unk, a whole profile of set, "operand 0" of
-- not; "U is written 0" of unk.
abbrev pub operand_fits_with : ℕ → Rule → ℕ → ℕ → Bool
operand_fits_with parts Inc u o = ltb o (256 * parts)
operand_fits_with parts Set u o = ltb o (256 ^ parts)
operand_fits_with parts Not u o = eqb o 0
operand_fits_with parts Unk u o = ltb o (256 * parts) && eqb u 0

-- 02 (c): "The inc operand runs to 2047 and the set operand to 2^64 − 1".
abbrev pub operand_fits : Rule → ℕ → ℕ → Bool
operand_fits = operand_fits_with part_limit

-- "part p is the byte worth 256 to the power p"
abbrev pub part : ℕ → ℕ → ℕ
part p profile = profile / 256 ^ p % 256

-- Part p after "one part replaced: operand = part × 256 + byte".
abbrev pub part_after : ℕ → ℕ → ℕ → ℕ
part_after profile o p = cond (eqb p (o / 256)) (o % 256) (part p profile)

-- The profile that has these parts: each times its worth, summed over the parts from the lowest up.
unfoldable pub profile_of : ℕ → (ℕ → ℕ) → ℕ
profile_of zero byte = 0
profile_of (suc p) byte = profile_of p byte + byte p * 256 ^ p

-- A profile of so many parts after "one part replaced".
unfoldable pub replaced_with : ℕ → ℕ → ℕ → ℕ
replaced_with parts profile o = profile_of parts (part_after profile o)

-- 02 (c): "parts run 0 to 7".
abbrev pub replaced : ℕ → ℕ → ℕ
replaced = replaced_with part_limit

-- The table's column "effect", on the profile.
abbrev pub profile_after : Rule → ℕ → ℕ → ℕ
profile_after Inc o profile = replaced profile o
profile_after Set o profile = o
profile_after Not o profile = profile
profile_after Unk o profile = replaced profile o
