-- 02 (c): "Old logs read with the same meaning". A log that was accepted when a profile had four parts is accepted now that it has eight,
-- with the same book: the same versions, places and profiles, and every profile below 2^32. Both readings are one definition at two
-- numbers of parts. Such a log is older than stable lines too: `OldLog` reads it, and changes it over.
use Rattle.std.proofs.Math.Path.{◌≡◌, ap, subst}
use Rattle.std.specs.Prelude.{refl, cond, ℕ, ◌+◌, ◌*◌, ◌^◌, ◌≤◌, ◌<◌, eqb}
use Rattle.std.proofs.Common.{sym, ◌∙◌, ⊎_elim, arith}
use Rattle.std.proofs.Math.Bool.{Bool, true, false, not}
use Rattle.std.proofs.Math.Option.{none}
use mathlib.Core.List.{List, [], ◌∷◌, ◌++◌, map}
use mathlib.Core.List.Memᴰ
use mathlib.Core.List.Memᴰ.{head as here}
use mathlib.Core.List.Memᴰ.{tail as there}
use mathlib.Core.List.{Memᴰ as Mem}
use Rattle.std.proofs.Math.Nat.{pow-le-pow_right}
use borrow.Author.Tests.{ltb-true, lt-ltb}
use Rattle.std.proofs.Math.Dec.{T}
use Rattle.forms.specs.ListLaws.{T_true, true_T, mem_snoc, all-at, all_of}
use Rattle.forms.specs.DecimalLaws.{and-true}
use Rattle.forms.specs.Writable.{Each}
use Rattle.forms.specs.Forms.{Change, Did, Line, did_line}
use Rattle.forms.specs.Reading.{read_did, read_site}
use Rattle.forms.specs.declared.DoneRule.{DoneRule}
use Rattle.forms.specs.declared.DoneRule.TheVariants.{DidInc, DidSet, DidNot}
use Rattle.rules.specs.Rules.{rule_of, operand_fits_with}
use Rattle.rules.specs.Book.{Cell, blank_base, start_cell, runs_at, cell, entered_with, enter_with, enter_all_with, cell_from_with, cell_with}
use Rattle.rules.specs.Book.{can_run_with}
use Rattle.rules.specs.Checks.{change_misfits_with, changes_refusal_with, passes}
use Rattle.rules.specs.Log.{dids, journal, lines_of, histories_fit, accepts_with}
use Rattle.rules.specs.OldLog.{read_old_lines_with, read_old_first_with, read_old_with, read_old}
use Rattle.rule_laws.specs.WeaveLaws.{dids-map}
use Rattle.rule_laws.specs.PartLaws.{replaced-more, replaced_low, worth_positive}
use Rattle.rule_laws.specs.CheckLaws.{formed_of, formed_none, passes_none, not-false}
use Rattle.rule_laws.specs.AcceptedLaws.{by_read, by_test}
use Rattle.rule_laws.specs.LogLaws.{test_true}

-- 01: "The profile is an unsigned 32-bit number made of four parts".
abbrev pub older_parts : ℕ
older_parts = 4

-- "Old logs read with the same meaning"
pub record ReadAlike (bs : List ℕ) (n : ℕ) (lines : List Line) : Type 0 where
  -- it is accepted, and has the same lines
  pub accepted : read_old bs ≡ journal n none lines
  -- each history's profile, version and place are the same
  pub book : (h : ℕ) → cell blank_base h (dids lines) ≡ cell_with older_parts blank_base h (dids lines)
  -- .. and the profile has 32 bits
  pub low : (h : ℕ) → (cell blank_base h (dids lines)).profile < 2 ^ 32

-- From p parts to m more.
module _ (p m : ℕ) where
  more : 256 ^ p ≤ 256 ^ (p + m)
  more = pow-le-pow_right (omega arith) (omega arith)

  -- the operand fits where a profile has p parts
  abbrev Fits : Change → Type 0
  Fits x = operand_fits_with p (rule_of x.rule) x.version x.operand ≡ true

  -- .. in each change of each line
  abbrev AllFit : List Did → Type 0
  AllFit log = Each (λ d. Each Fits d.changes) log

  fits_more : (r : DoneRule) (v o : ℕ) → operand_fits_with p (rule_of r) v o ≡ true → operand_fits_with (p + m) (rule_of r) v o ≡ true
  fits_more DidInc v o h = lt-ltb o _ (omega (arith, ltb-true o _ h))
  fits_more DidSet v o h = lt-ltb o _ (omega (arith, more, ltb-true o _ h))
  fits_more DidNot v o h = h

  -- ### The book

  -- a history of p parts, held with more
  record Alike (c d : Cell) : Type 0 where
    same : d ≡ c
    low : c.profile < 256 ^ p

  entered-alike : (r : DoneRule) (v o : ℕ) (c : Cell) → operand_fits_with p (rule_of r) v o ≡ true → c.profile < 256 ^ p
      → Alike (entered_with p r v o c) (entered_with (p + m) r v o c)
  unfolding entered_with
  entered-alike DidInc v o c h low =
      let e = replaced-more p m c.profile o low (ltb-true o (256 * p) h) in
      record { same = λ i. record { profile = e i; version = v; place = c.place + 1 }; low = replaced_low p c.profile o }
  entered-alike DidSet v o c h low = record { same = refl; low = ltb-true o (256 ^ p) h }
  entered-alike DidNot v o c h low = record { same = refl; low = low }

  enter-alike : (h : ℕ) (x : Change) (c : Cell) → Fits x → c.profile < 256 ^ p → Alike (enter_with p h x c) (enter_with (p + m) h x c)
  unfolding enter_with
  enter-alike h x c f low = go (eqb x.history h)
    where
      go : (b : Bool) → Alike (cond b (entered_with p x.rule x.version x.operand c) c)
          (cond b (entered_with (p + m) x.rule x.version x.operand c) c)
      go true = entered-alike x.rule x.version x.operand c f low
      go false = record { same = refl; low = low }

  enter_all-alike : (h : ℕ) (xs : List Change) (c : Cell) → Each Fits xs → c.profile < 256 ^ p →
      Alike (enter_all_with p h xs c) (enter_all_with (p + m) h xs c)
  unfolding enter_all_with
  enter_all-alike h [] c f low = record { same = refl; low = low }
  enter_all-alike h (x ∷ xs) c f low =
      let a = enter-alike h x c (f x (here refl)) low in
      let b = enter_all-alike h xs (enter_with p h x c) (λ y k. f y (there k)) a.low in
      record { same = ap (enter_all_with (p + m) h xs) a.same ∙ b.same; low = b.low }

  from-alike : (h : ℕ) (c : Cell) (log : List Did) → AllFit log → c.profile < 256 ^ p →
      Alike (cell_from_with p h c log) (cell_from_with (p + m) h c log)
  unfolding cell_from_with
  from-alike h c [] f low = record { same = refl; low = low }
  from-alike h c (d ∷ ds) f low =
      let a = enter_all-alike h d.changes c (f d (here refl)) low in
      let b = from-alike h (enter_all_with p h d.changes c) ds (λ e k. f e (there k)) a.low in
      record { same = ap (λ (z : Cell). cell_from_with (p + m) h z ds) a.same ∙ b.same; low = b.low }

  cell-alike : (h : ℕ) (log : List Did) → AllFit log → Alike (cell_with p blank_base h log) (cell_with (p + m) blank_base h log)
  unfolding cell_with start_cell
  cell-alike h log f = from-alike h (start_cell blank_base h) log f (worth_positive p)

  -- ### The log

  fit_snoc : (seen : List Did) (d : Did) → AllFit seen → Each Fits d.changes → AllFit (seen ++ (d ∷ []))
  fit_snoc seen d f g x k =
      ⊎_elim (λ (e : x ≡ d). subst (λ (z : Did). Each Fits z.changes) (sym e) g) (λ (j : Mem x seen). f x j) (mem_snoc seen k)

  -- a line that was accepted is accepted, and its operands fit
  record Taken (n : ℕ) (seen : List Did) (d : Did) : Type 0 where
    also : accepts_with (p + m) blank_base n seen d ≡ true
    fits : Each Fits d.changes

  taken : (n : ℕ) (seen : List Did) (d : Did) → AllFit seen → accepts_with p blank_base n seen d ≡ true → Taken n seen d
  unfolding accepts_with changes_refusal_with change_misfits_with can_run_with
  taken n seen d f h =
      let ok : Bool = passes (changes_refusal_with p n d.changes) in
      let both = and-true ok (can_run_with p blank_base seen d) h in
      let old = formed_of (λ (x : Change). x.history) (change_misfits_with p) n d.changes (passes_none _ (true_T ok both.0)) in
      let fits : Each Fits d.changes =
      λ x k. not-false (operand_fits_with p (rule_of x.rule) x.version x.operand) (old.fit x k) in
      let new : changes_refusal_with (p + m) n d.changes ≡ none =
      formed_none (λ (x : Change). x.history) (change_misfits_with (p + m)) n d.changes
      (record {
        some = old.some;
        few = old.few;
        known = old.known;
        once = old.once;
        fit = λ x k. ap not (fits_more x.rule x.version x.operand (fits x k));
      }) in
      let runs : T (can_run_with (p + m) blank_base seen d) =
      all_of (λ x. runs_at (cell_with (p + m) blank_base x.history seen) x) d.changes
      (λ x k.
      subst (λ (c : Cell). T (runs_at c x)) (sym (cell-alike x.history seen f).same)
      (all-at (λ y. runs_at (cell_with p blank_base y.history seen) y) d.changes
      (true_T (can_run_with p blank_base seen d) both.1) x k)) in
      record { also = rw new (T_true (can_run_with (p + m) blank_base seen d) runs); fits = fits }

  -- lines that were read are read as the same
  record Lines (n : ℕ) (seen : List Did) (ls : List (List ℕ)) (k : ℕ) (lines : List Line) : Type 0 where
    also : read_old_lines_with (p + m) n seen ls ≡ journal k none lines
    fits : AllFit (dids lines)

  lines-alike : (n : ℕ) (seen : List Did) (ls : List (List ℕ)) (k : ℕ) (lines : List Line) → AllFit seen →
      read_old_lines_with p n seen ls ≡ journal k none lines → Lines n seen ls k lines
  unfolding read_old_lines_with
  lines-alike n seen [] k lines f e =
      let q : map did_line seen ≡ lines = cc in record { also = e; fits = subst AllFit (sym (dids-map seen) ∙ ap dids q) f }
  lines-alike n seen (l ∷ ls) k lines f e =
      by_read (read_did l) _ k none lines e λ d rest q h.
      by_test (accepts_with p blank_base n seen d) _ k none lines h λ w r.
      let t = taken n seen d f w in
      let s = lines-alike n (seen ++ (d ∷ [])) ls k lines (fit_snoc seen d f t.fits) r in
      record {
        also =
            rw q (test_true (accepts_with (p + m) blank_base n seen d) (read_old_lines_with (p + m) n (seen ++ (d ∷ [])) ls) t.also
            ∙ s.also);
        fits = s.fits;
      }

  record First (ls : List (List ℕ)) (k : ℕ) (lines : List Line) : Type 0 where
    also : read_old_first_with (p + m) ls ≡ journal k none lines
    fits : AllFit (dids lines)

  first_alike : (ls : List (List ℕ)) (k : ℕ) (lines : List Line) → read_old_first_with p ls ≡ journal k none lines → First ls k lines
  unfolding read_old_first_with
  first_alike [] k lines e = let z : ◌≡◌ {A = ℕ} 0 1 = cc in absurd (omega arith)
  first_alike (l ∷ ls) k lines e =
      by_read (read_site l) _ k none lines e λ n rest q h.
      by_test (histories_fit n) _ k none lines h λ w r.
      let s = lines-alike n [] ls k lines (λ d j. absurd (Memᴰ.not-nil j)) r in
      record { also = rw q (test_true (histories_fit n) (read_old_lines_with (p + m) n [] ls) w ∙ s.also); fits = s.fits }

-- A log that was accepted is accepted, with the same book.
pub read_alike : (bs : List ℕ) (n : ℕ) (lines : List Line) → read_old_with older_parts bs ≡ journal n none lines → ReadAlike bs n lines
unfolding read_old_with
read_alike bs n lines e =
    let r = first_alike older_parts 4 (lines_of bs) n lines e in
    record {
      accepted = r.also;
      book = λ h. (cell-alike older_parts 4 h (dids lines) r.fits).same;
      low = λ h. let a = cell-alike older_parts 4 h (dids lines) r.fits in
          subst (λ (c : Cell). c.profile < 2 ^ 32) (sym a.same) a.low;
    }
