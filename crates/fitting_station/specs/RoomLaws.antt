-- A log of 65,536 bytes has at most 2,978 did lines, and a report names no line twice: room for so many numbers is enough.
use Rattle.std.specs.Prelude.{ℕ, ◌≤◌, ◌≡◌, refl, Bool, true, false, cond, List, ltb, length}
use Rattle.std.proofs.Common.{arith, ap, ltb-true, ltb-false, length-append}
use Rattle.std.proofs.Math.Option.{Option}
use Rattle.forms.specs.Limits.{log_limit}
use Rattle.forms.specs.ListLaws.{length-keep}
use Rattle.forms.specs.Forms.{Base, Did, Line}
use Rattle.rules.specs.Book.{base_of}
use Rattle.rules.specs.Log.{dids, lines_text, head_text, log_text, rest_of, Journal, no_journal, journal, read_log}
use Rattle.rule_laws.specs.AcceptedLaws.{read_accepted}
use Rattle.recovery.specs.Removal.{Pair, refused, named, numbers_from, not_among, removal}
use Rattle.recovery.specs.Removal.{refuse_if, too_long, report_lines, report_log, report}
use Rattle.recovery.proofs.RemovalLaws.{length-numbers, named_of_lem, removal-numbers}
use Rattle.removal.specs.LengthLaws.{dids_most}

log_few : (bs : List ℕ) (n : ℕ) (β : Option Base) (lines : List Line) → length bs ≤ log_limit → read_log bs ≡ journal n β lines →
    length (dids lines) ≤ 2978
unfolding log_text
log_few bs n β lines small e =
    let r = read_accepted bs n β lines e in
    omega (
      arith,
      dids_most n lines r.stand.formed,
      ap length r.same,
      length-append (log_text n β lines) (rest_of bs),
      length-append (head_text n β) (lines_text lines),
      small,
    )

removal_few : (N : ℕ) (log : List Did) (ps : List Pair) (lost : List ℕ) → not_among N log ps lost ≡ false →
    length (removal N log ps lost) ≤ length log
removal_few N log ps lost e =
    let s = removal-numbers N log ps lost (named_of_lem N log ps lost e) in
    omega (arith, ap length s.same, length-keep s.test (numbers_from N (length log)), length-numbers N (length log))

-- 12 says that the answer is longer than its room.
lines_enough : (N : ℕ) (log : List Did) (ps : List Pair) (lost : List ℕ) (room : ℕ) → length log ≤ room →
    report_lines N log ps lost room ≡ refused 12 → ⊥
unfolding report_lines refuse_if too_long
lines_enough N log ps lost room le = by_among (not_among N log ps lost) refl
  where
    gone : List ℕ
    gone = removal N log ps lost

    by_room : (b : Bool) → ltb room (length gone) ≡ b → not_among N log ps lost ≡ false → cond b (refused 12) (named gone) ≡ refused 12 → ⊥
    by_room true e f h = omega (arith, ltb-true room (length gone) e, removal_few N log ps lost f, le)
    by_room false e f h = let z : ◌≡◌ {A = ℕ} 0 1 = cc in omega arith

    by_among : (b : Bool) → not_among N log ps lost ≡ b →
        cond b (refused 16) (cond (ltb room (length gone)) (refused 12) (named gone)) ≡ refused 12 → ⊥
    by_among true e h = let z : ◌≡◌ {A = ℕ} 16 12 = cc in omega (arith, z)
    by_among false e h = by_room (ltb room (length gone)) refl e h

-- "12 .. if the answer does not fit its room": no answer is longer than this.
pub room_enough : (bs : List ℕ) (ps : List Pair) (lost : List ℕ) (room : ℕ) → 2978 ≤ room → report bs ps lost room ≡ refused 12 → ⊥
unfolding report refuse_if report_log
room_enough bs ps lost room le = by_length (ltb log_limit (length bs)) refl
  where
    by_log : (j : Journal) → read_log bs ≡ j → length bs ≤ log_limit → report_log j ps lost room ≡ refused 12 → ⊥
    by_log no_journal e small h = let z : ◌≡◌ {A = ℕ} 15 12 = cc in omega (arith, z)
    by_log (journal n β lines) e small h =
        lines_enough (base_of β).up_to (dids lines) ps lost room (omega (arith, log_few bs n β lines small e, le)) h

    by_length : (b : Bool) → ltb log_limit (length bs) ≡ b → cond b (refused 13) (report_log (read_log bs) ps lost room) ≡ refused 12 → ⊥
    by_length true e h = let z : ◌≡◌ {A = ℕ} 13 12 = cc in omega (arith, z)
    by_length false e h = by_log (read_log bs) refl (omega (arith, ltb-false log_limit (length bs) e)) h
