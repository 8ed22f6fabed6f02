-- A keeper that was killed while its lines were stored: what is stored is the first bytes of them. Taken up from these it keeps the lines
-- that were stored whole, in their order, wherever the kill came.
use Rattle.std.specs.Prelude.{ℕ, ◌+◌, ◌-◌, ◌≤◌, ◌<◌, ◌≡◌, refl, true, false, List, [], ◌∷◌, ◌++◌, map, leb, length, take}
use Rattle.std.proofs.Common.{ap, sym, subst, ◌∙◌, ⊎_elim, append_assoc, arith, length-append, length-take-le, take-take, le-leb}
use mathlib.Core.List.Memᴰ
use Rattle.std.proofs.Math.Seq.{take-append_seam}
use Rattle.std.proofs.lemmas.Bool.{lt-leb}
use Rattle.forms.specs.DecimalLaws.{lt-or_ge}
use Rattle.forms.specs.Forms.{Did, Line, did_line, did_text, line_text}
use Rattle.forms.specs.DidLaws.{did_no_end}
use Rattle.forms.specs.Limits.{history_limit}
use Rattle.forms.specs.Writable.{Each}
use Rattle.rules.specs.State.{line_bytes, bytes_of}
use Rattle.rules.specs.Log.{ended, dids_text, lines_text, lines_of}
use Rattle.rule_laws.specs.Good.{FormedDid}
use Rattle.rule_laws.specs.LineSplitLaws.{NoEnd, lines_open, lines-ended, ended_all}
use Rattle.rule_laws.specs.FitLaws.{fit, fit_in, fit-out, fit-nil}
use Rattle.rule_laws.specs.CutLaws.{take-lines}
use Rattle.keeper.specs.declared.Keeper.{Keeper}
use Rattle.keeper.specs.Model.{keeper_view, KeeperHolds, ValidKeeper, resumable}
use Rattle.keeper.specs.WalkLaws.{holds-now, view_is, valid_is}
use Rattle.keeper.specs.ResumeLaws.{valid_resumable}
use Rattle.fitting_station.specs.Keepers.{keeper_at, keeper_in, whole_end, keepable}

-- ### The statement

-- The lines that stand whole, each with its end, among the first k bytes of some lines.
unfoldable pub stored_whole : ℕ → List Did → List Did
stored_whole k [] = []
stored_whole k (d ∷ ds) = elim (leb (line_bytes d) k) [ true ↦ d ∷ stored_whole (k - line_bytes d) ds | false ↦ [] ]

-- They are the first lines.
pub record FirstOf (ws ds : List Did) : Type 0 where
  pub lost : List Did
  pub same : ds ≡ ws ++ lost

-- The first `kept` bytes of a buffer are taken up, as the lines that were stored whole.
pub record Killed (lines : List Did) (kept : ℕ) (again : List ℕ) : Type 0 where
  pub resumes : keepable kept again ≡ true
  pub keeps : (keeper_in (whole_end (take kept again)) again).lines ≡ stored_whole kept lines
  pub first : FirstOf (stored_whole kept lines) lines

-- ### The lines that were stored whole

stored_in : (k : ℕ) (d : Did) (ds : List Did) → line_bytes d ≤ k → stored_whole k (d ∷ ds) ≡ d ∷ stored_whole (k - line_bytes d) ds
unfolding stored_whole
stored_in k d ds h = rw (le-leb (line_bytes d) k h, stored_whole)

stored-out : (k : ℕ) (d : Did) (ds : List Did) → k < line_bytes d → stored_whole k (d ∷ ds) ≡ []
unfolding stored_whole
stored-out k d ds h = rw (lt-leb (line_bytes d) k h, stored_whole)

stored-first : (k : ℕ) (ds : List Did) → FirstOf (stored_whole k ds) ds
unfolding stored_whole
stored-first k [] = record { lost = []; same = refl }
stored-first k (d ∷ ds) = ⊎_elim
    (λ (h : k < line_bytes d).
    subst (λ (ws : List Did). FirstOf ws (d ∷ ds)) (sym (stored-out k d ds h)) (record { lost = d ∷ ds; same = refl }))
    (λ (h : line_bytes d ≤ k).
    let r = stored-first (k - line_bytes d) ds in
    subst (λ (ws : List Did). FirstOf ws (d ∷ ds)) (sym (stored_in k d ds h))
    (record { lost = r.lost; same = ap (λ (x : List Did). d ∷ x) r.same }))
    (lt-or_ge k (line_bytes d))

-- As lines of a log they are those that fit.
fit-dids : (k : ℕ) (ds : List Did) → fit k (map did_line ds) ≡ map did_line (stored_whole k ds)
unfolding stored_whole bytes_of line_bytes line_text
fit-dids k [] = fit-nil k
fit-dids k (d ∷ ds) = ⊎_elim
    (λ (h : k < line_bytes d). fit-out k (did_line d) (map did_line ds) h ∙ ap (map did_line) (sym (stored-out k d ds h)))
    (λ (h : line_bytes d ≤ k).
    fit_in k (did_line d) (map did_line ds) h
    ∙ ap (λ (x : List Line). did_line d ∷ x) (fit-dids (k - line_bytes d) ds)
    ∙ ap (map did_line) (sym (stored_in k d ds h)))
    (lt-or_ge k (line_bytes d))

lines-dids : (ds : List Did) → lines_text (map did_line ds) ≡ dids_text ds
unfolding lines_text dids_text line_text
lines-dids [] = refl
lines-dids (d ∷ ds) = ap (λ (x : List ℕ). ended (did_text d) ++ x) (lines-dids ds)

-- ### The bytes

-- whole lines, and a rest without an end
record Stored (bs : List ℕ) (ws : List Did) : Type 0 where
  torn : List ℕ
  same : bs ≡ dids_text ws ++ torn
  unended : NoEnd torn

first-bytes : (k : ℕ) (ds : List Did) → Stored (take k (dids_text ds)) (stored_whole k ds)
first-bytes k ds =
    let t = take-lines k (map did_line ds) in
    record {
      torn = t.torn;
      same =
          ap (take k) (sym (lines-dids ds))
          ∙ t.same
          ∙ ap (λ (x : List Line). lines_text x ++ t.torn) (fit-dids k ds)
          ∙ ap (λ (x : List ℕ). x ++ t.torn) (lines-dids (stored_whole k ds));
      unended = t.unended;
    }

-- the lines of such bytes
lines_stored : (ws : List Did) (torn : List ℕ) → NoEnd torn → lines_of (dids_text ws ++ torn) ≡ map did_text ws
unfolding dids_text
lines_stored [] torn h = lines_open torn h
lines_stored (d ∷ ws) torn h =
    ap (λ (x : List ℕ). lines_of x) (append_assoc (ended (did_text d)) (dids_text ws) torn)
    ∙ lines-ended (did_text d) (dids_text ws ++ torn) (did_no_end d)
    ∙ ap (λ (x : List (List ℕ)). did_text d ∷ x) (lines_stored ws torn h)

ended-dids : (ws : List Did) → ended_all (map did_text ws) ≡ dids_text ws
unfolding ended_all dids_text
ended-dids [] = refl
ended-dids (d ∷ ws) = ap (λ (x : List ℕ). ended (did_text d) ++ x) (ended-dids ws)

-- ### The claim

-- Whatever the kill leaves of the stored lines, and whatever stands behind it in the buffer that it is read into.
pub killed_resumes : (k : Keeper) (bytes : List ℕ) → ValidKeeper k bytes → (kept : ℕ) (again : List ℕ) → kept ≤ length again →
    take kept again ≡ take kept (take k.used bytes) → Killed (keeper_view k bytes).lines kept again
unfolding keepable whole_end
killed_resumes k bytes v kept again room stored =
    let h = holds-now k bytes v in
    let ds = (keeper_view k bytes).lines in
    let ws = stored_whole kept ds in
    let f = first-bytes kept ds in
    let first = stored-first kept ds in
    let text : take kept again ≡ dids_text ws ++ f.torn = stored ∙ ap (take kept) h.text ∙ f.same in
    let whole : whole_end (take kept again) ≡ length (dids_text ws) =
    ap (λ (x : List ℕ). length (ended_all (lines_of x))) text
    ∙ ap (λ (x : List (List ℕ)). length (ended_all x)) (lines_stored ws f.torn f.unended)
    ∙ ap length (ended-dids ws)
    in
    let parts : length (take kept again) ≡ length (dids_text ws) + length f.torn =
    ap length text ∙ length-append (dids_text ws) f.torn
    in
    let long : length (take kept again) ≡ kept = length-take-le kept again room in
    let below : length (dids_text ws) ≤ kept = omega (arith, parts, long) in
    let front : take (length (dids_text ws)) again ≡ dids_text ws =
    sym (take-take (length (dids_text ws)) kept again below)
    ∙ ap (take (length (dids_text ws))) text
    ∙ take-append_seam (dids_text ws) f.torn
    in
    let all : Each (FormedDid history_limit) (ws ++ first.lost) = subst (Each (FormedDid history_limit)) first.same h.formed in
    let holds : KeeperHolds (keeper_at (length (dids_text ws))) again ws =
    record { within = omega (arith, below, room); text = front; formed = λ d m. all d (Memᴰ.append_left first.lost m) }
    in
    let up : resumable (length (dids_text ws)) again ≡ true =
    valid_resumable (keeper_at (length (dids_text ws))) again (valid_is (keeper_at (length (dids_text ws))) again ws holds)
    in
    record {
      resumes = rw (le-leb kept (length again) room, whole) up;
      keeps = ap (λ (n : ℕ). (keeper_in n again).lines) whole
          ∙ ap (λ (x : _). x.lines) (view_is (keeper_at (length (dids_text ws))) again ws holds);
      first = first;
    }
