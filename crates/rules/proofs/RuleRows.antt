-- The columns of 01's rule table as the definitions give them, also where no call of a site could tell, with 02 (b)'s now, later and never.
use Rattle.std.specs.Prelude.{Bool, cond, ◌&&◌, List, [], ◌∷◌, map, ℕ, T, eqb}
use mathlib.Core.List.{Memᴰ as Mem}
use Rattle.forms.specs.Lists.{all}
use Rattle.forms.specs.ListLaws.{all-at}
use Rattle.forms.specs.declared.Rule.{Rule}
use Rattle.forms.specs.declared.Rule.TheVariants.{Inc, Set, Not, Unk}
use Rattle.forms.specs.declared.Timing.{Timing}
use Rattle.forms.specs.declared.Timing.TheVariants.{Now, Later, Never}
use Rattle.rules.specs.Rules.{logged_as, may_run, timing, version_after, profile_after, strong, ordered, operand_fits, profile_of}
use Rattle.rules.specs.Rules.{replaced_with}
use Rattle.rules.specs.Book.{Cell, entered, entered_with}
use Rattle.rules.specs.Keeper.{same_bytes}

-- A rule's row of the table.
pub record RuleRow : Type 0 where
  pub rule : Rule
  -- may run (1) or not (0), at C = 4 and U = 3, 4, 5 and 6
  pub may : List ℕ
  -- now (1), later (2) or never (3), at C = 4 and U = 3, 4, 5 and 6
  pub when : List ℕ
  -- the same at U = 2^64 − 1, with C = 2^64 − 2 and C = 2^64 − 1
  pub high : List ℕ
  -- the version after, at C = 4 and U = 3, 4, 5 and 6
  pub version : List ℕ
  -- in range (1) or not (0): the operands 0, 1, 1023, 1024, 2047, 2048, 2^32, 2^64 − 1 and 2^64, with U = 0
  pub fits : List ℕ
  -- the profile of the parts 1 to 8 after the operand 1537
  pub profile : ℕ
  -- strong, ordered
  pub is : List ℕ
  -- profile, version and place that the book holds after its logged rule with V = 6 and the operand 1537, from C = 4 and place 1
  pub booked : List ℕ

-- 1 for true, 0 for false
abbrev pub flag : Bool → ℕ
flag b = cond b 1 0

-- 1 for now, 2 for later, 3 for never
abbrev pub time_number : Timing → ℕ
time_number Now = 1
time_number Later = 2
time_number Never = 3

-- the two highest versions
abbrev pub highest : List ℕ
highest = 18446744073709551614 ∷ 18446744073709551615 ∷ []

-- U = C − 1, C, C + 1 and C + 2, at C = 4
abbrev pub around4 : List ℕ
around4 = 3 ∷ 4 ∷ 5 ∷ 6 ∷ []

-- operands at the edges of their ranges
abbrev pub edge_operands : List ℕ
edge_operands = 0 ∷ 1 ∷ 1023 ∷ 1024 ∷ 2047 ∷ 2048 ∷ 4294967296 ∷ 18446744073709551615 ∷ 18446744073709551616 ∷ []

-- a history at C = 4 and place 1, as the book holds it
abbrev pub cell4 : Cell
cell4 = record { profile = 578437695752307201; version = 4; place = 1 }

-- profile, version and place
abbrev pub numbers_in : Cell → List ℕ
numbers_in c = c.profile ∷ c.version ∷ c.place ∷ []

-- The test of a row.
unfoldable pub rule_row_holds : RuleRow → Bool
rule_row_holds c =
    same_bytes (map (λ u. flag (may_run c.rule 4 u)) around4) c.may
    && same_bytes (map (λ u. time_number (timing c.rule 4 u)) around4) c.when
    && same_bytes (map (λ v. time_number (timing c.rule v 18446744073709551615)) highest) c.high
    && same_bytes (map (version_after c.rule 4) around4) c.version
    && same_bytes (map (λ o. flag (operand_fits c.rule 0 o)) edge_operands) c.fits
    && eqb (profile_after c.rule 1537 578437695752307201) c.profile
    && same_bytes (flag (strong c.rule) ∷ flag (ordered c.rule) ∷ []) c.is
    && same_bytes (numbers_in (entered (logged_as c.rule) 6 1537 cell4)) c.booked

-- 01's table, with strong and ordered.
abbrev pub rule_rows : List RuleRow
rule_rows =
    record {
      rule = Inc;
      may = 0 ∷ 0 ∷ 1 ∷ 0 ∷ [];
      when = 3 ∷ 3 ∷ 1 ∷ 2 ∷ [];
      high = 1 ∷ 3 ∷ [];
      version = 3 ∷ 4 ∷ 5 ∷ 6 ∷ [];
      fits = 1 ∷ 1 ∷ 1 ∷ 1 ∷ 1 ∷ 0 ∷ 0 ∷ 0 ∷ 0 ∷ [];
      profile = 576748845892043265;
      is = 1 ∷ 1 ∷ [];
      booked = 576748845892043265 ∷ 6 ∷ 2 ∷ [];
    }
    ∷ record {
      rule = Set;
      may = 0 ∷ 0 ∷ 1 ∷ 1 ∷ [];
      when = 3 ∷ 3 ∷ 1 ∷ 1 ∷ [];
      high = 1 ∷ 3 ∷ [];
      version = 3 ∷ 4 ∷ 5 ∷ 6 ∷ [];
      fits = 1 ∷ 1 ∷ 1 ∷ 1 ∷ 1 ∷ 1 ∷ 1 ∷ 1 ∷ 0 ∷ [];
      profile = 1537;
      is = 1 ∷ 1 ∷ [];
      booked = 1537 ∷ 6 ∷ 2 ∷ [];
    }
    ∷ record {
      rule = Not;
      may = 0 ∷ 1 ∷ 0 ∷ 0 ∷ [];
      when = 3 ∷ 1 ∷ 2 ∷ 2 ∷ [];
      high = 2 ∷ 1 ∷ [];
      version = 4 ∷ 4 ∷ 4 ∷ 4 ∷ [];
      fits = 1 ∷ 0 ∷ 0 ∷ 0 ∷ 0 ∷ 0 ∷ 0 ∷ 0 ∷ 0 ∷ [];
      profile = 578437695752307201;
      is = 0 ∷ 1 ∷ [];
      booked = 578437695752307201 ∷ 4 ∷ 2 ∷ [];
    }
    ∷ record {
      rule = Unk;
      may = 1 ∷ 1 ∷ 1 ∷ 1 ∷ [];
      when = 1 ∷ 1 ∷ 1 ∷ 1 ∷ [];
      high = 1 ∷ 3 ∷ [];
      version = 5 ∷ 5 ∷ 5 ∷ 5 ∷ [];
      fits = 1 ∷ 1 ∷ 1 ∷ 1 ∷ 1 ∷ 0 ∷ 0 ∷ 0 ∷ 0 ∷ [];
      profile = 576748845892043265;
      is = 1 ∷ 0 ∷ [];
      booked = 576748845892043265 ∷ 6 ∷ 2 ∷ [];
    }
    ∷ []

-- The one computed test, over all rows.
computed : T (all rule_row_holds rule_rows)
computed = unfold rule_row_holds same_bytes replaced_with profile_of entered_with in tt

-- Every row holds.
pub rule_rows_hold : (c : RuleRow) → Mem c rule_rows → T (rule_row_holds c)
rule_rows_hold c m = all-at rule_row_holds rule_rows computed c m
