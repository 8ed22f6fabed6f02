-- Taking up two kept lines of 37 and 25 bytes from their first K bytes, on both sides of each edge, computed from the definitions.
use Rattle.std.specs.Prelude.{◌≡◌, Bool, true, not, ◌&&◌, List, [], ◌∷◌, ◌++◌, ℕ, T, eqb, take}
use Rattle.forms.specs.Lists.{all}
use Rattle.forms.specs.ListLaws.{T_true}
use Rattle.forms.specs.Words.{bytes, word}
use Rattle.forms.specs.Decimal.{more, number}
use Rattle.forms.specs.Reading as reading
use Rattle.forms.specs.Reading.{read_did, read_whole}
use Rattle.rules.specs.Checks.{check, and_then, wrong_count, no_such_history, history_twice, form_refusal, change_misfits_with, changes_refusal_with}
use Rattle.rules.specs.Log.{ended, lines_from, rest_from}
use Rattle.rule_laws.specs.LineSplitLaws.{ended_all}
use Rattle.keeper.specs.Model.{resumable, are_lines, line_fits, form_check}
use Rattle.fitting_station.specs.Keepers.{whole_end, keepable}

-- what was kept, and other bytes behind it in the buffer
abbrev pub stored : List ℕ
stored = ended (bytes "(did 5 (inc 0 1 1 513)(not 1 0 1 0))") ++ ended (bytes "(did 6 (set 1 4 2 1000))") ++ bytes "(d"

-- The first bytes are taken up, as so many bytes of lines.
pub record ResumeRow : Type 0 where
  pub kept : ℕ
  pub used : ℕ

abbrev row : ℕ → ℕ → ResumeRow
row kept used = record { kept = kept; used = used }

abbrev pub as_row : ResumeRow → Bool
as_row r = keepable r.kept stored && eqb (whole_end (take r.kept stored)) r.used

-- "Whole lines count; a last unended line is ignored."
abbrev pub resume_rows : List ResumeRow
resume_rows = row 0 0 ∷ row 1 0 ∷ row 36 0 ∷ row 37 37 ∷ row 38 37 ∷ row 61 37 ∷ row 62 62 ∷ row 63 62 ∷ row 64 62 ∷ []

-- Not taken up: more bytes than there are, and a whole line that no keeper keeps.
abbrev pub not_taken : Bool
not_taken = not (keepable 65 stored) && not (keepable 8 (ended (bytes "(did 5)")))

computed : T (all as_row resume_rows && not_taken)
computed =
    unfold keepable whole_end resumable are_lines line_fits form_check ended ended_all lines_from rest_from word more number in
    unfold reading.field reading.done_rule reading.change reading.items reading.tail reading.did read_did read_whole in
    unfold check and_then wrong_count no_such_history history_twice change_misfits_with form_refusal changes_refusal_with in
    tt

-- Every row holds, and the two others are not taken up.
pub examples : (all as_row resume_rows && not_taken) ≡ true
examples = T_true (all as_row resume_rows && not_taken) computed
