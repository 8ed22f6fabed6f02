-- The updates of an add, in numbers.
use Rattle.std.specs.Prelude.{ℕ, Bool, ◌&&◌, List, [], ◌∷◌, leb, get_or}
use Rattle.forms.specs.declared.Asked.{Asked}
use Rattle.forms.specs.Held.{AskedHeld}
use Rattle.table.specs.Rows.{rule_named}

-- An update of its four numbers: rule (0 inc, 1 set, 2 not, 3 unk), history, version, operand.
abbrev pub asked_of : ℕ → ℕ → ℕ → ℕ → Asked
asked_of r h v o = record { rule = rule_named r; history = h; version = record { 0 = v }; operand = o }

-- As many updates as are counted, of which the first four are known.
unfoldable pub held_in : ℕ → List ℕ → AskedHeld
held_in count ws =
    record {
      count = count;
      first =
          asked_of (get_or ws 0 0) (get_or ws 1 0) (get_or ws 2 0) (get_or ws 3 0)
          ∷ asked_of (get_or ws 4 0) (get_or ws 5 0) (get_or ws 6 0) (get_or ws 7 0)
          ∷ asked_of (get_or ws 8 0) (get_or ws 9 0) (get_or ws 10 0) (get_or ws 11 0)
          ∷ asked_of (get_or ws 12 0) (get_or ws 13 0) (get_or ws 14 0) (get_or ws 15 0)
          ∷ [];
    }

-- whether the rules' numbers are those of rules
unfoldable pub rules_known : List ℕ → Bool
rules_known ws = leb (get_or ws 0 0) 3 && (leb (get_or ws 4 0) 3 && (leb (get_or ws 8 0) 3 && leb (get_or ws 12 0) 3))
