-- Laws of tests and effects on cells: from arrays to the log, and from one book to another.
use Prim.Native.Nat.{ℕ, ◌+◌, ◌≤◌, ◌<◌}
use Rattle.std.specs.Prelude.{◌≡◌, Bool, true, false, cond, ◌&&◌, ◌||◌, leb, ltb, eqb, length, get_or, take, set}
use Rattle.std.proofs.Math.Path.{refl, sym}
use Rattle.std.proofs.Common.{ap, ap₂, ◌∙◌, arith, add-one, eqb-true, length-take, take-suc, get_or-set_same, get_or-set_other}
use Rattle.std.proofs.Math.Bool.{or-false, or_assoc}
use mathlib.Core.List.{List, [], ◌∷◌, ◌++◌, map, map-append}
use Rattle.std.proofs.lemmas.Bool.{eqb-false}
use Rattle.std.proofs.lemmas.List.{length-map}
use Rattle.forms.specs.Decimal.{top}
use Rattle.forms.specs.Lists.{all, any}
use Rattle.forms.specs.Forms.{Base, Update, Change, Did}
use Rattle.forms.specs.Limits.{history_limit, update_limit}
use Rattle.forms.specs.declared.Rule.{Rule}
use Rattle.forms.specs.declared.Rule.TheVariants.{Inc, Set, Not, Unk}
use Rattle.forms.specs.declared.DoneRule.{DoneRule}
use Rattle.forms.specs.declared.DoneRule.TheVariants.{DidInc, DidSet, DidNot}
use Rattle.rules.specs.Rules.{strong, ordered, logged_as, profile_after}
use Rattle.rules.specs.Book.{Cell, cell, entered, enter, enter_all, runs_at}
use Rattle.rules.specs.State.{Operation}
use Rattle.rules.specs.Calls.{change_of, line_of, values_after}
use Rattle.history.specs.declared.History.{History}
use Rattle.history.specs.declared.Item.{Item}
use Rattle.history.specs.declared.Entry.{Entry}
use Rattle.history.specs.declared.Findings.{Findings}
use Rattle.history.specs.Entries.{no_history, cell_of, cells_of, no_item, item_update, item_change, items_of, did_of_entry, can_run_in}
use Rattle.history.specs.Cells.{stale_in, already_done_in, read_overtaken_in, at_highest_in, change_in, line_in, values_in}
use Rattle.history.specs.Cells.{ran_at, overtaken_at, highest_at, findings_in, found_with, LowPlace}
use Rattle.history.specs.Tests.{all_map, any-map}
use Rattle.rules.specs.Book.{enter_all_with, enter_with, entered_with}

-- ### The book of a log

-- the cells that a log gives behind its base
abbrev pub log_cells : (σ : Base) → List Did → ℕ → Cell
log_cells σ log h = cell σ h log

pub line_log : (σ : Base) (log : List Did) (x : Operation) → line_in (log_cells σ log) x ≡ line_of σ log x
unfolding line_in line_of change_in change_of
line_log σ log x = refl

pub values_log : (σ : Base) (log : List Did) (us : List Update) → values_in (log_cells σ log) us ≡ values_after σ log us
unfolding values_in values_after
values_log σ log us = refl

-- ### A change does to a history what the book says

pub entered_by : (r : Rule) (v o : ℕ) (c : Cell) →
    entered (logged_as r) v o c
    ≡ record { profile = profile_after r o c.profile; version = cond (strong r) v c.version; place = c.place + 1 }
unfolding entered_with
entered_by Inc v o c = refl
entered_by Set v o c = refl
entered_by Not v o c = refl
entered_by Unk v o c = refl

pub entered-cell : (r : Rule) (v o : ℕ) (c : Cell) (p w : ℕ) → p ≡ profile_after r o c.profile → w ≡ cond (strong r) v c.version
    → ◌≡◌ {A = Cell} (record { profile = p; version = w; place = c.place + 1 }) (entered (logged_as r) v o c)
entered-cell r v o c p w e f =
    ap₂ {C = Cell} (λ (x y : ℕ). record { profile = x; version = y; place = c.place + 1 }) e f ∙ sym (entered_by r v o c)

enter_all_snoc : (h : ℕ) (xs : List Change) (x : Change) (c : Cell) → enter_all h (xs ++ (x ∷ [])) c ≡ enter h x (enter_all h xs c)
unfolding enter_all_with
enter_all_snoc h [] x c = refl
enter_all_snoc h (y ∷ xs) x c = enter_all_snoc h xs x (enter h y c)

-- each change adds at most 1 to a place
enter-place : (h : ℕ) (x : Change) (c : Cell) → (enter h x c).place ≤ c.place + 1
unfolding enter_with entered_with
enter-place h x c = go (eqb x.history h)
  where
    up : (r : DoneRule) (v o : ℕ) → (entered r v o c).place ≡ c.place + 1
    up DidInc v o = refl
    up DidSet v o = refl
    up DidNot v o = refl

    go : (b : Bool) → (cond b (entered x.rule x.version x.operand c) c).place ≤ c.place + 1
    go true = omega (arith, up x.rule x.version x.operand)
    go false = omega arith

pub place-rises : (h : ℕ) (xs : List Change) (c : Cell) → (enter_all h xs c).place ≤ c.place + length xs
unfolding enter_all_with
place-rises h [] c = omega arith
place-rises h (x ∷ xs) c = let p = place-rises h xs (enter h x c) in let q = enter-place h x c in omega arith

-- ### An item against its history, by its rule

module _ (c : Cell) (x : Item) where
  pub ran-ordered : (strong x.rule && ordered x.rule) ≡ true → leb x.version.0 c.version ≡ ran_at c x
  unfolding ran_at
  ran-ordered e = rw e

  pub ran_unordered : (strong x.rule && ordered x.rule) ≡ false → false ≡ ran_at c x
  unfolding ran_at
  ran_unordered e = rw e

  pub overtaken-strong : strong x.rule ≡ true → false ≡ overtaken_at c x
  unfolding overtaken_at
  overtaken-strong e = rw e

  pub overtaken_weak : strong x.rule ≡ false → ltb x.version.0 c.version ≡ overtaken_at c x
  unfolding overtaken_at
  overtaken_weak e = rw e

  pub highest-ordered : ordered x.rule ≡ true → false ≡ highest_at c x
  unfolding highest_at
  highest-ordered e = rw e

  pub highest_unordered : ordered x.rule ≡ false → leb top c.version ≡ highest_at c x
  unfolding highest_at
  highest_unordered e = rw e

-- ### The items of an entry as changes and as updates

-- an item is next in its history and may run; its place is not above its history's
abbrev pub runs : (ℕ → Cell) → Item → Bool
runs cells x = runs_at (cells x.history) (item_change x)

abbrev pub is_stale : (ℕ → Cell) → Item → Bool
is_stale cells x = leb x.place.0 (cells x.history).place

module _ (cells : ℕ → Cell) (e : Entry) where
  pub items-can_run : all (runs cells) (items_of e) ≡ can_run_in cells (did_of_entry e)
  unfolding can_run_in did_of_entry
  items-can_run = sym (all_map item_change (λ (y : Change). runs_at (cells y.history) y) (items_of e))

  pub stale_changes : any (is_stale cells) (items_of e) ≡ any (stale_in cells) (did_of_entry e).changes
  unfolding stale_in did_of_entry
  stale_changes = sym (any-map item_change (stale_in cells) (items_of e))

-- ### What was found, update after update

any-end : {A : Type 0} (p : A → Bool) (l : List A) (a : A) → any p (l ++ (a ∷ [])) ≡ (any p l || p a)
any-end p [] a = or-false (p a)
any-end p (x ∷ l) a = ap (◌||◌ (p x)) (any-end p l a) ∙ sym (or_assoc (p x) (any p l) (p a))

-- the updates of the first items
abbrev pub updates_to : ℕ → List Item → List Update
updates_to i items = map item_update (take i items)

-- one item more, whose history has the cell c
pub findings_next : (cells : ℕ → Cell) (items : List Item) (i : ℕ) (c : Cell) (f : Findings) → i < length items →
    c ≡ cells (get_or items i no_item).history → f ≡ findings_in cells (updates_to i items) →
    found_with f c (get_or items i no_item) ≡ findings_in cells (updates_to (i + 1) items)
unfolding findings_in found_with ran_at overtaken_at highest_at already_done_in read_overtaken_in at_highest_in
findings_next cells items i c f h is e =
    let x = get_or items i no_item in
    ap₂ (λ (g : Findings) (d : Cell). found_with g d x) e is
    ∙ (λ j. record {
      strong = sym (any-end (λ (u : Update). strong u.rule) (updates_to i items) (item_update x)) j;
      orders = sym (any-end (λ (u : Update). strong u.rule && ordered u.rule) (updates_to i items) (item_update x)) j;
      ran = sym (any-end (already_done_in cells) (updates_to i items) (item_update x)) j;
      overtaken = sym (any-end (read_overtaken_in cells) (updates_to i items) (item_update x)) j;
      highest = sym (any-end (at_highest_in cells) (updates_to i items) (item_update x)) j;
    })
    ∙ ap (findings_in cells) (sym more)
  where
    more : updates_to (i + 1) items ≡ updates_to i items ++ (item_update (get_or items i no_item) ∷ [])
    more = rw (add-one, take-suc items i no_item h, map-append)

-- ### Performing item after item

-- the changes of the first items
abbrev pub changes_to : ℕ → List Item → List Change
changes_to i items = map item_change (take i items)

module _ (hs₀ hs : List History) (items : List Item) (i : ℕ) where
  -- what the book makes of the first i changes
  abbrev pub Entered : Type 0
  Entered = (h : ℕ) → h < history_limit → cells_of hs h ≡ enter_all h (changes_to i items) (cells_of hs₀ h)

module _ (hs₀ hs : List History) (items : List Item) (i : ℕ) (inv : Entered hs₀ hs items i) where
  pub low_place : (h : ℕ) → h < history_limit → LowPlace (cells_of hs₀ h) → i ≤ update_limit → (cells_of hs h).place < 18446744073709551615
  low_place h lt low le =
      let p : (cells_of hs h).place ≤ (cells_of hs₀ h).place + length (changes_to i items) =
      rw (inv h lt) (place-rises h (changes_to i items) (cells_of hs₀ h)) in
      omega (arith, low, length-map (take i items) item_change, length-take i items)

  module _ (y : History) (inside : i < length items) (long : length hs ≡ history_limit)
      (below : (get_or items i no_item).history < history_limit) where
    abbrev pub item_now : Item
    item_now = get_or items i no_item

    pub entered-next : cell_of y ≡ entered (logged_as item_now.rule) item_now.version.0 item_now.operand
        (cells_of hs item_now.history)
        → Entered hs₀ (set hs item_now.history y) items (i + 1)
    unfolding enter_with
    entered-next e h lt =
        go (eqb t h) refl
        ∙ sym (ap (λ (l : List Change). enter_all h l (cells_of hs₀ h)) more ∙ enter_all_snoc h (changes_to i items) (item_change item_now)
        (cells_of hs₀ h))
      where
        t : ℕ
        t = item_now.history

        more : changes_to (i + 1) items ≡ changes_to i items ++ (item_change item_now ∷ [])
        more = rw (add-one, take-suc items i no_item inside, map-append)

        before : Cell
        before = enter_all h (changes_to i items) (cells_of hs₀ h)

        after : Cell
        after = entered (logged_as item_now.rule) item_now.version.0 item_now.operand before

        go : (b : Bool) → eqb t h ≡ b → cells_of (set hs t y) h ≡ cond (eqb t h) after before
        go true q =
            let s : t ≡ h = eqb-true t h q in
            ap (λ (k : ℕ). cells_of (set hs t y) k) (sym s)
            ∙ ap cell_of (get_or-set_same hs t y no_history (omega (arith, long, below)))
            ∙ e
            ∙ ap (entered (logged_as item_now.rule) item_now.version.0 item_now.operand) (ap (cells_of hs) s ∙ inv h lt)
            ∙ ap (λ (b : Bool). cond b after before) (sym q)
        go false q =
            ap cell_of (get_or-set_other hs t h y no_history (λ z. eqb-false t h q (sym z)))
            ∙ inv h lt
            ∙ ap (λ (b : Bool). cond b after before) (sym q)
