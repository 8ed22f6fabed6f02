-- Lines in conflict, computed from the definitions (02, (f)): calls of a keeper that keeps nothing at first, each with its reply's number.
use Rattle.std.specs.Prelude.{◌≡◌, Bool, true, ◌&&◌, List, [], ◌∷◌, ℕ, T, eqb}
use mathlib.Core.List.{Memᴰ as Mem}
use Rattle.forms.specs.Lists.{all}
use Rattle.forms.specs.ListLaws.{T_true, all-at}
use Rattle.forms.specs.Words.{bytes, word}
use Rattle.forms.specs.Decimal.{digits_within, digits, more, number}
use Rattle.forms.specs.Refusals.{number_of}
use Rattle.forms.specs.Forms.{field_text, items_text, tail_text, list_text, change_text, did_text}
use Rattle.forms.specs.Reading as reading
use Rattle.forms.specs.Reading.{read_did, read_whole}
use Rattle.rules.specs.Checks.{check, and_then, wrong_count, no_such_history, history_twice, form_refusal}
use Rattle.rules.specs.Log.{ended, dids_text}
use Rattle.rules.specs.State.{line_bytes}
use Rattle.rules.specs.Keeper.{Keeper, KeeperReply, refused, ok, kept_bytes, unless_refused, same_bytes, held, same_place, placed_among}
use Rattle.rules.specs.Keeper.{same_places, agrees, in_conflict, conflicts}
use Rattle.rules.specs.Keeper.{keeper_full, too_long, keep_refusal, keep_read, keep_line, covered_by, drop_lines}
use Rattle.rules.specs.Checks.{change_misfits_with, changes_refusal_with}

-- A call with the number that it is refused with, 0 where it is accepted.
pub data KeeperAsked : Type 0 where
  keeping : List ℕ → ℕ → KeeperAsked
  dropping : ℕ → ℕ → ℕ → KeeperAsked

abbrev kept : List ℕ → KeeperAsked
kept line = keeping line 0

abbrev pub numbered_line : KeeperReply → ℕ
numbered_line (refused r) = number_of r
numbered_line (ok k) = 0

abbrev pub next : KeeperReply → Keeper → Keeper
next (refused r) k = k
next (ok after) k = after

-- Every call replies its number.
unfoldable pub as_expected : List KeeperAsked → Keeper → Bool
as_expected [] k = true
as_expected (keeping line n ∷ asked) k = eqb (numbered_line (keep_line line k)) n && as_expected asked (next (keep_line line k) k)
as_expected (dropping h p n ∷ asked) k = eqb (numbered_line (drop_lines h p k)) n && as_expected asked (next (drop_lines h p k) k)

-- Calls of a keeper that keeps nothing, in a buffer of some bytes.
pub record KeeperRow : Type 0 where
  pub room : ℕ
  pub calls : List KeeperAsked

abbrev row : ℕ → List KeeperAsked → KeeperRow
row room calls = record { room = room; calls = calls }

-- One line, and lines that differ from it in one thing; all but `other-order` have its length.
abbrev line : List ℕ
line = bytes "(did 5 (inc 0 1 1 513)(not 1 0 1 0))"

abbrev other_operand : List ℕ
other_operand = bytes "(did 5 (inc 0 1 1 514)(not 1 0 1 0))"

abbrev other_version : List ℕ
other_version = bytes "(did 5 (inc 0 2 1 513)(not 1 0 1 0))"

abbrev other-rule : List ℕ
other-rule = bytes "(did 5 (set 0 1 1 513)(not 1 0 1 0))"

abbrev other-order : List ℕ
other-order = bytes "(did 5 (not 1 0 1 0)(inc 0 1 1 513))"

abbrev other_place : List ℕ
other_place = bytes "(did 5 (inc 0 1 2 513)(not 1 0 1 0))"

abbrev other-history : List ℕ
other-history = bytes "(did 5 (inc 0 1 1 513)(not 2 0 1 0))"

abbrev other_id : List ℕ
other_id = bytes "(did 6 (inc 0 1 1 513)(not 1 0 1 0))"

abbrev fewer : List ℕ
fewer = bytes "(did 5 (inc 0 1 1 513))"

abbrev pub rows : List KeeperRow
rows =
    -- "differ in a rule, version, operand or order"
    row 100 (kept line ∷ keeping other_operand 20 ∷ keeping other_version 20 ∷ keeping other-rule 20 ∷ keeping other-order 20 ∷ [])
    -- another place, history or id, and some of the histories alone, are no conflict, whichever came first
    ∷ row 200 (kept line ∷ kept other_place ∷ kept other-history ∷ kept other_id ∷ kept fewer ∷ [])
    ∷ row 100 (kept fewer ∷ kept line ∷ [])
    -- two places that are exchanged
    ∷ row 100 (kept (bytes "(did 5 (inc 0 1 1 513)(inc 1 1 2 0))") ∷ kept (bytes "(did 5 (inc 0 1 2 513)(inc 1 1 1 0))") ∷ [])
    -- "Exact copies stay refused with 8."
    ∷ row 100 (kept line ∷ keeping line 8 ∷ keeping other-order 20 ∷ keeping line 8 ∷ [])
    -- a held line: after a drop the other is kept, and the first is then in conflict with it
    ∷ row 100 (kept line ∷ keeping other_operand 20 ∷ dropping 1 1 0 ∷ kept other_operand ∷ keeping line 20 ∷ [])
    -- 20 before 12: the buffer has room for one line; without a conflict it is full
    ∷ row 37 (kept line ∷ keeping other_operand 20 ∷ keeping other_id 12 ∷ [])
    -- 5 before 20
    ∷ row 100 (kept line ∷ keeping (bytes "(did 5 (inc 0 1 1 2048)(not 1 0 1 0))") 5 ∷ [])
    -- 02 (c): operands up to 2047 of inc, and any number of set
    ∷ row 200 (kept (bytes "(did 5 (inc 0 1 1 2047))") ∷ kept (bytes "(did 6 (set 1 1 1 18446744073709551615))") ∷ [])
    ∷ []

unfoldable holds : KeeperRow → Bool
holds r = as_expected r.calls (record { room = r.room; lines = [] })

computed : T (all holds rows)
computed =
    unfold holds as_expected same_bytes word digits_within digits more number number_of in
    unfold field_text items_text tail_text list_text change_text did_text in
    unfold reading.field reading.done_rule reading.change reading.items reading.tail reading.did read_did read_whole in
    unfold check and_then wrong_count no_such_history history_twice change_misfits_with form_refusal changes_refusal_with in
    unfold ended dids_text line_bytes kept_bytes unless_refused held same_place placed_among same_places agrees in_conflict conflicts in
    unfold keeper_full too_long keep_refusal keep_read keep_line covered_by drop_lines in
    tt

-- Every row's calls reply their numbers.
pub examples : (r : KeeperRow) → Mem r rows → as_expected r.calls (record { room = r.room; lines = [] }) ≡ true
unfolding holds
examples r m = T_true (as_expected r.calls (record { room = r.room; lines = [] })) (all-at holds rows computed r m)
