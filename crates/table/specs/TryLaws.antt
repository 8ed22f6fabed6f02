-- Laws of one try: the code's pass is the specification's, whichever way its cells are had, and the marks answer "ready".
use Rattle.std.specs.Prelude.{ℕ, ◌<◌, ◌≡◌, Bool, cond, ◌&&◌}
use Rattle.std.proofs.Math.Path.{refl, sym, ap, ap₂}
use Rattle.std.proofs.Common.{subst, ◌∙◌}
use Rattle.std.proofs.Math.Bool.{true, false, not, ◌||◌}
use mathlib.Core.List.{List, [], ◌∷◌, ◌++◌}
use mathlib.Core.List.Memᴰ.{head as here}
use mathlib.Core.List.Memᴰ.{tail as there}
use mathlib.Core.List.{Memᴰ as Mem}
use Rattle.forms.specs.Lists.{all}
use Rattle.forms.specs.Forms.{Base, Update, Did}
use Rattle.forms.specs.Limits.{history_limit}
use Rattle.rules.specs.Rules.{may_run}
use Rattle.rules.specs.Book.{Cell}
use Rattle.rules.specs.State.{Operation}
use Rattle.rules.specs.Calls.{blocked, may_run_now, ready, attempt, try_from, try_all}
use Rattle.history.specs.declared.History.{History}
use Rattle.history.specs.Entries.{cells_of, may_run_in}
use Rattle.history.specs.Tests.{all_agree}
use Rattle.history.specs.CellLaws.{log_cells}
use Rattle.history.specs.AtLog.{HoldsBook}
use Rattle.table.specs.declared.Marks.{Marks}
use Rattle.table.specs.Tries.{ready_in, attempt_in, try_from_in, try_all_in, gather, held, MarksOf, ready_by, starts_by}
use Rattle.table.specs.MarkLaws.{gather_append, free_is}

-- ### Cells and the log

try_log : (σ : Base) (log : List Did) (tried xs : List Operation) → try_from_in (log_cells σ log) tried xs ≡ try_from σ log tried xs
unfolding try_from_in try_from attempt_in attempt ready_in ready may_run_in may_run_now
try_log σ log tried [] = refl
try_log σ log tried (x ∷ xs) = try_log σ log (tried ++ (attempt σ log (tried ++ xs) x ∷ [])) xs

module _ (n : ℕ) (a b : ℕ → Cell) (same : (h : ℕ) → h < n → a h ≡ b h) where
  attempt_agree : (others : List Operation) (x : Operation) → ((u : Update) → Mem u x.updates → u.history < n)
      → attempt_in a others x ≡ attempt_in b others x
  unfolding attempt_in ready_in may_run_in
  attempt_agree others x low = λ i. record { id = x.id; updates = x.updates; running = x.running || both i }
    where
      both : all (λ (u : Update). may_run_in a u && not (blocked others u)) x.updates
          ≡ all (λ (u : Update). may_run_in b u && not (blocked others u)) x.updates
      both =
          all_agree _ _ x.updates
          (λ u m. ap (λ (c : Cell). may_run u.rule c.version u.version && not (blocked others u)) (same u.history (low u m)))

  try_agree : (tried xs : List Operation) → ((x : Operation) → Mem x xs → (u : Update) → Mem u x.updates → u.history < n)
      → try_from_in a tried xs ≡ try_from_in b tried xs
  unfolding try_from_in
  try_agree tried [] low = refl
  try_agree tried (x ∷ xs) low =
      ap (λ (y : Operation). try_from_in a (tried ++ (y ∷ [])) xs) (attempt_agree (tried ++ xs) x (low x (here refl)))
      ∙ try_agree (tried ++ (attempt_in b (tried ++ xs) x ∷ [])) xs (λ y m. low y (there m))

-- The pass against the cells of the first n histories is the specification's against the log that they stand for.
pub try_all_is : (σ : Base) (n : ℕ) (log : List Did) (hs : List History) (xs : List Operation) → HoldsBook σ n hs log
    → ((x : Operation) → Mem x xs → (u : Update) → Mem u x.updates → u.history < n) → try_all_in (cells_of hs) xs ≡ try_all σ log xs
try_all_is σ n log hs xs same low = try_agree n (cells_of hs) (log_cells σ log) same [] xs low ∙ try_log σ log [] xs

-- ### One try, by the marks

module _ (cells : ℕ → Cell) (m : Marks) (tried : List Operation) (x : Operation) (xs : List Operation)
    (marks : MarksOf m (gather held (tried ++ x ∷ xs))) (low : (u : Update) → Mem u x.updates → u.history < history_limit) where
  -- an operation that is not in progress blocks nothing
  idle : x.running ≡ false → gather held (tried ++ x ∷ xs) ≡ gather held (tried ++ xs)
  unfolding gather
  idle e =
      gather_append held tried (x ∷ xs)
      ∙ ap (λ (b : Bool). gather held tried ++ (cond b x.updates [] ++ gather held xs)) e
      ∙ sym (gather_append held tried xs)

  starts_is : x.running ≡ false → starts_by cells m x ≡ ready_in cells (tried ++ xs) x
  unfolding starts_by ready_in
  starts_is e =
      ap (λ (b : Bool). not b && all (ready_by cells m) x.updates) e
      ∙ all_agree _ _ x.updates
      (λ u k. ap (λ (b : Bool). may_run_in cells u && b) (free_is m (tried ++ xs) u (subst (MarksOf m) (idle e) marks) (low u k)))

  -- what is in progress does not start
  future : starts_by cells m x ≡ true → x.running ≡ true → false ≡ true
  unfolding starts_by
  future s e = sym (ap (λ (b : Bool). not b && all (ready_by cells m) x.updates) e) ∙ s

  pub attempt_yes : starts_by cells m x ≡ true
      → (x.running ≡ false) × (attempt_in cells (tried ++ xs) x ≡ record { id = x.id; updates = x.updates; running = true })
  unfolding attempt_in
  attempt_yes s = go x.running refl
    where
      go : (b : Bool) → x.running ≡ b
          → (x.running ≡ false) × (attempt_in cells (tried ++ xs) x ≡ record { id = x.id; updates = x.updates; running = true })
      go true e = let z = future s e in ((cc), (cc))
      go false e = (e, λ i. record { id = x.id; updates = x.updates; running = ap₂ ◌||◌ e (sym (starts_is e) ∙ s) i })

  pub attempt_no : starts_by cells m x ≡ false → attempt_in cells (tried ++ xs) x ≡ x
  unfolding attempt_in
  attempt_no s = λ i. record { id = x.id; updates = x.updates; running = go x.running refl i }
    where
      go : (b : Bool) → x.running ≡ b → (x.running || ready_in cells (tried ++ xs) x) ≡ x.running
      go true e = ap (λ (b : Bool). b || ready_in cells (tried ++ xs) x) e ∙ sym e
      go false e = ap₂ ◌||◌ e (sym (starts_is e) ∙ s) ∙ sym e
