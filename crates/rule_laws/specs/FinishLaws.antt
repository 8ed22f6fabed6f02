-- The line that finishing an operation writes: it can run, it passes 2 to 5, it can be written, and other operations in progress still may
-- run behind it.
use Rattle.std.specs.Prelude.{◌≡◌, refl, Bool, true, false, cond, not, ◌&&◌, List, [], ◌∷◌, ◌++◌, map, ℕ, ◌+◌, ◌*◌, ◌≤◌, ◌<◌, T, leb, ltb, eqb, length}
use Rattle.std.proofs.Common.{ap, ◌∙◌, subst, arith, eqb→eq, leb→le, ltb→lt}
use mathlib.Core.List.Memᴰ
use mathlib.Core.List.Memᴰ.{head as here}
use mathlib.Core.List.Memᴰ.{tail as there}
use mathlib.Core.List.{Memᴰ as Mem}
use Rattle.forms.specs.Limits.{part_limit}
use Rattle.std.proofs.Math.Dec.{eqb_refl}
use Rattle.std.proofs.lemmas.List.{length-map}
use Rattle.forms.specs.Decimal.{top}
use Rattle.forms.specs.ListLaws.{T_true, true_T, and_left, and_right, or_left, all-at, all_of}
use Rattle.forms.specs.Forms.{Base, Update, Change, Did}
use Rattle.forms.specs.Writable.{WritableChange}
use Rattle.forms.specs.declared.Rule.{Rule}
use Rattle.forms.specs.declared.Rule.TheVariants.{Inc, Set, Not, Unk}
use Rattle.rules.specs.Rules.{rule_of, logged_as, may_run, strong, version_after, operand_fits}
use Rattle.rules.specs.Book.{Cell, start_cell, entered, enter_all, cell, can_run, runs_at}
use Rattle.rules.specs.Checks.{update_misfits, change_misfits}
use Rattle.rules.specs.State.{Operation}
use Rattle.rules.specs.Calls.{may_run_now, change_of, line_of, writable_update}
use Rattle.rule_laws.specs.Good.{FormedDid, FormedOperation}
use Rattle.rule_laws.specs.CheckLaws.{FormedUpdates, FormedChanges, formed_updates, changes_none, not-false}
use Rattle.rule_laws.specs.BookLaws.{EachOnce, cell_snoc, can_run_of, runs_of, place-below-length}
use Rattle.rule_laws.specs.PendingLaws.{MayRun, Apart}
use Rattle.rules.specs.Checks.{change_misfits_with}
use Rattle.rules.specs.Book.{enter_all_with, enter_with, entered_with}

-- ### It can run

logged-runs : (r : Rule) (c u : ℕ) → T (may_run r c u) → T (may_run (rule_of (logged_as r)) c (version_after r c u))
logged-runs Inc c u t = t
logged-runs Set c u t = t
logged-runs Not c u t = eqb_refl c
logged-runs Unk c u t = eqb_refl (c + 1)

pub line-runs : (σ : Base) → (log : List Did) (x : Operation) → MayRun σ log x → T (can_run σ log (line_of σ log x))
unfolding line_of change_of may_run_now
line-runs σ log x may = can_run_of σ log (line_of σ log x) (λ y m. go y (Memᴰ.of_map (change_of σ log) x.updates m))
  where
    go : (y : Change) → (u : Update) × Mem u x.updates × (change_of σ log u ≡ y) → T (runs_at (cell σ y.history log) y)
    go y (u, m, e) =
        let c = cell σ u.history log in
        subst (λ (z : Change). T (runs_at (cell σ z.history log) z)) e
        (runs_of c (change_of σ log u) refl
        (logged-runs u.rule c.version u.version (all-at (may_run_now σ log) x.updates may u m)))

-- ### It passes 2 to 5

logged-fits : (r : Rule) (u v o : ℕ) → T (operand_fits r u o) → T (operand_fits (rule_of (logged_as r)) v o)
logged-fits Inc u v o t = t
logged-fits Set u v o t = t
logged-fits Not u v o t = t
logged-fits Unk u v o t = and_left (ltb o (256 * part_limit)) (eqb u 0) t

change-fits : (σ : Base) → (log : List Did) (u : Update) → update_misfits u ≡ false → change_misfits (change_of σ log u) ≡ false
unfolding update_misfits change_misfits_with change_of
change-fits σ log u e =
    let v = version_after u.rule (cell σ u.history log).version u.version in
    let before = operand_fits u.rule u.version u.operand in
    let after = operand_fits (rule_of (logged_as u.rule)) v u.operand in
    ap not {x = after} (T_true after (logged-fits u.rule u.version v u.operand (true_T before (not-false before e))))

pub line_formed : (σ : Base) → (n : ℕ) (log : List Did) (us : List Update) → FormedUpdates n us → FormedChanges n (map (change_of σ log) us)
unfolding change_of
line_formed σ n log us F =
    record {
      some = omega (arith, F.some, length-map us (change_of σ log));
      few = omega (arith, F.few, length-map us (change_of σ log));
      known = λ x m. known x (Memᴰ.of_map (change_of σ log) us m);
      once = rw (same us) F.once;
      fit = λ x m. fit x (Memᴰ.of_map (change_of σ log) us m);
    }
  where
    known : (x : Change) → (u : Update) × Mem u us × (change_of σ log u ≡ x) → x.history < n
    known x (u, m, e) = subst (λ (z : Change). z.history < n) e (F.known u m)

    fit : (x : Change) → (u : Update) × Mem u us × (change_of σ log u ≡ x) → change_misfits x ≡ false
    fit x (u, m, e) = subst (λ (z : Change). change_misfits z ≡ false) e (change-fits σ log u (F.fit u m))

    same : (ws : List Update) → map (λ (x : Change). x.history) (map (change_of σ log) ws) ≡ map (λ (u : Update). u.history) ws
    same [] = refl
    same (w ∷ ws) = ap {B = List ℕ} (λ l. w.history ∷ l) (same ws)

-- ### It can be written

-- "U = C + 1, a true sum", "C is below 2^64 − 1"
version_writable : (r : Rule) (c u : ℕ) → u ≤ top → T (may_run r c u) → version_after r c u ≤ top
version_writable Inc c u le t = le
version_writable Set c u le t = le
version_writable Not c u le t = subst (λ (k : ℕ). k ≤ top) (eqb→eq u c t) le
version_writable Unk c u le t = let lt = ltb→lt c top t in omega arith

change-writable : (σ : Base) → (log : List Did) (u : Update) → EachOnce log → (start_cell σ u.history).place + length log < top →
    T (writable_update u) → T (may_run_now σ log u) → WritableChange (change_of σ log u)
unfolding change_of writable_update may_run_now
change-writable σ log u once short w t =
    let a = leb u.history top in
    let b = leb u.version top in
    let c = leb u.operand top in
    let two = and_left (a && b) c w in
    record {
      history = leb→le u.history top (and_left a b two);
      version = version_writable u.rule (cell σ u.history log).version u.version (leb→le u.version top (and_right a b two)) t;
      place = omega (arith, place-below-length σ u.history log once);
      operand = leb→le u.operand top (and_right (a && b) c w);
    }

pub line-good : (σ : Base) → (n : ℕ) (log : List Did) (x : Operation) → EachOnce log → ((h : ℕ) → (start_cell σ h).place + length log < top) →
    FormedOperation n x → MayRun σ log x → FormedDid n (line_of σ log x)
unfolding line_of
line-good σ n log x once short F may =
    record {
      passes =
          changes_none n (map (change_of σ log) x.updates) (line_formed σ n log x.updates (formed_updates n x.updates F.passes));
      writable = record { id = F.id; changes = λ y m. go y (Memᴰ.of_map (change_of σ log) x.updates m) };
    }
  where
    go : (y : Change) → (u : Update) × Mem u x.updates × (change_of σ log u ≡ y) → WritableChange y
    go y (u, m, e) =
        subst WritableChange e
        (change-writable σ log u once (short u.history) (F.writable u m) (all-at (may_run_now σ log) x.updates may u m))

-- ### Others behind it

weak_keeps : (r : Rule) → (T (strong r) → ⊥) → (v o : ℕ) (c : Cell) → (entered (logged_as r) v o c).version ≡ c.version
unfolding entered_with
weak_keeps Inc out v o c = absurd (out tt)
weak_keeps Set out v o c = absurd (out tt)
weak_keeps Not out v o c = refl
weak_keeps Unk out v o c = absurd (out tt)

-- Changes of which none in h is strong keep its version.
enter_all_weak : (σ : Base) → (h : ℕ) (log : List Did) (us : List Update) (c : Cell) →
    ((u : Update) → Mem u us → u.history ≡ h → T (strong u.rule) → ⊥) →
    (enter_all h (map (change_of σ log) us) c).version ≡ c.version
unfolding enter_all_with enter_with change_of
enter_all_weak σ h log [] c out = refl
enter_all_weak σ h log (u ∷ us) c out = enter_all_weak σ h log us _ (λ w m. out w (there m)) ∙ go (eqb u.history h) refl
  where
    x : Change
    x = change_of σ log u

    go : (b : Bool) → eqb u.history h ≡ b → (cond b (entered (logged_as u.rule) x.version u.operand c) c).version ≡ c.version
    go true e = weak_keeps u.rule (out u (here refl) (eqb→eq u.history h (true_T (eqb u.history h) e))) x.version u.operand c
    go false e = refl

-- An operation that x is not in the way of still may run when x is done.
pub still_may : (σ : Base) → (log : List Did) (x y : Operation) → Apart x y → MayRun σ log y → MayRun σ (log ++ (line_of σ) log x ∷ []) y
unfolding line_of may_run_now
still_may σ log x y apart may =
    all_of (may_run_now σ (log ++ (line_of σ) log x ∷ [])) y.updates (λ u m. rw (same u m) (all-at (may_run_now σ log) y.updates may u m))
  where
    same : (u : Update) → Mem u y.updates →
        (cell σ u.history (log ++ (line_of σ) log x ∷ [])).version ≡ (cell σ u.history log).version
    same u m =
        ap (λ (c : Cell). c.version) (cell_snoc σ u.history log (line_of σ log x))
        ∙ enter_all_weak σ u.history log x.updates (cell σ u.history log)
        (λ w k e t. apart w u k m e (or_left (strong w.rule) (strong u.rule) t))
