-- Laws of the checks 2 to 5 on what is held of a list of updates, and of the entries that held updates and did lines become.
use Prim.Native.Nat.{ℕ, zero, suc, ◌+◌, ◌≤◌, ◌<◌}
use Rattle.std.specs.Prelude.{◌≡◌, Bool, ◌||◌, not, List, [], ◌∷◌, ◌++◌, map, ltb, eqb, get_or, take, drop, Ok, Err}
use Rattle.std.proofs.Math.Path.{refl, sym, ap}
use Rattle.std.proofs.Common.{subst, ◌∙◌, add-one, take-suc}
use Rattle.std.proofs.Math.Bool.{true, false, or-true}
use Rattle.std.proofs.lemmas.List.{map-append, length-map, take-map}
use Rattle.std.proofs.lemmas.Bool.{lt-leb}
use Rattle.std.proofs.Math.Seq.{split_at}
use Rattle.std.proofs.Math.Option.{Option, none}
use native.Mathlib.Omega.{arith}
use borrow.Author.Tests.{eq-eqb, ne_eqb, eqb-true, eqb-false, lt-ltb, le-ltb, ltb-false, leb-false, not-false, le-leb}
use Rattle.std.proofs.Math.Dec.{leb}
use Rattle.std.proofs.Math.ListN.{length, get_or-map}
use Rattle.forms.specs.Lists.{any}
use Rattle.forms.specs.Forms.{Update, Change, Did}
use Rattle.forms.specs.Held.{as_update, as_asked, as_change, as_done, no_update, no_change, first_four, held_changes, held_did}
use Rattle.forms.specs.Held.{updates_of, changes_of, did_of}
use Rattle.forms.specs.Limits.{history_limit, update_limit}
use Rattle.forms.specs.declared.Asked.{Asked}
use Rattle.forms.specs.declared.Done.{Done}
use Rattle.forms.specs.Held.{AskedHeld}
use Rattle.forms.specs.Held.{DoneHeld}
use Rattle.forms.specs.declared.DidLine.{DidLine}
use Rattle.forms.specs.declared.Refusal.{Refusal}
use Rattle.forms.specs.declared.Refusal.TheVariants.{WrongCount, NoSuchHistory, HistoryTwice, OperandRange}
use Rattle.forms.specs.declared.DoneRule.{DoneRule}
use Rattle.forms.specs.declared.DoneRule.TheVariants.{DidInc, DidSet, DidNot}
use Rattle.rules.specs.Rules.{rule_of, logged_as, operand_fits}
use Rattle.rules.specs.Checks.{check, wrong_count, no_such_history, history_twice, update_misfits, form_refusal, updates_refusal, changes_refusal}
use Rattle.rules.specs.State.{Operation}
use Rattle.history.specs.declared.Item.{Item}
use Rattle.history.specs.Asking.{verdict_of, no_asked, no_done_update, change_update, update_item, change_item}
use Rattle.history.specs.Asking.{Holds, HoldsUpdates, HoldsChanges, UsableUpdate, UsableHeld, UsableDid, Enters, EntersDid}
use Rattle.history.specs.Entries.{item_update, item_change, operation_of, did_of_entry, UsableItem}
use Rattle.history.specs.EntryLaws.{usable_four, items-four}
use Rattle.history.specs.Tests.{or_false_parts, any_get, length_part, part_in, part_out, any_snoc}
use Rattle.history.specs.Tests.{any_mid, any-map, map-map, map_same, four-held}
use Rattle.rules.specs.Checks.{change_misfits_with, changes_refusal_with}

-- ### A history twice

eqb_sym : (a b : ℕ) (t : Bool) → eqb a b ≡ t → eqb b a ≡ t
eqb_sym a b true e = eq-eqb b a (sym (eqb-true a b e))
eqb_sym a b false e = ne_eqb b a (λ q. eqb-false a b e (sym q))

pub twice_snoc : (l : List ℕ) (x : ℕ) → history_twice l ≡ false → any (eqb x) l ≡ false → history_twice (l ++ (x ∷ [])) ≡ false
unfolding history_twice
twice_snoc [] x e f = refl
twice_snoc (h ∷ hs) x e f =
    let p = or_false_parts (any (eqb h) hs) (history_twice hs) e in
    let q = or_false_parts (eqb x h) (any (eqb x) hs) f in
    rw (any_snoc (eqb h) hs x p.0 (eqb_sym x h false q.0), twice_snoc hs x p.1 q.1)

pub twice_mid : (l : List ℕ) (x : ℕ) (r : List ℕ) → any (eqb x) l ≡ true → history_twice (l ++ x ∷ r) ≡ true
unfolding history_twice
twice_mid [] x r f = let z : ◌≡◌ {A = ℕ} 0 1 = cc in absurd (omega arith)
twice_mid (h ∷ hs) x r f = go (eqb x h) refl f (twice_mid hs x r)
  where
    go : (t : Bool) → eqb x h ≡ t → (t || any (eqb x) hs) ≡ true → (any (eqb x) hs ≡ true → history_twice (hs ++ x ∷ r) ≡ true)
        → (any (eqb h) (hs ++ x ∷ r) || history_twice (hs ++ x ∷ r)) ≡ true
    go true e g below = rw (any_mid (eqb h) hs x r (eqb_sym x h true e))
    go false e g below = rw (below g) (or-true (any (eqb h) (hs ++ x ∷ r)))

-- the histories of the updates that are held
abbrev pub histories_to : ℕ → List Asked → List ℕ
histories_to n first = map (λ (a : Asked). a.history) (take n first)

module _ (asked : List Asked) (i : ℕ) where
  -- the history of the update at i
  abbrev here : ℕ
  here = (get_or asked i no_asked).history

  in_is : any (eqb here) (histories_to i asked) ≡ any (λ (b : Asked). eqb here b.history) (take i asked)
  in_is = any-map (λ (a : Asked). a.history) (eqb here) (take i asked)

  pub twice-next : any (λ (b : Asked). eqb here b.history) (take i asked) ≡ false → i < length asked
      → history_twice (histories_to i asked) ≡ false → history_twice (histories_to (i + 1) asked) ≡ false
  twice-next f h g = ap history_twice more ∙ twice_snoc (histories_to i asked) here g (in_is ∙ f)
    where
      more : histories_to (i + 1) asked ≡ histories_to i asked ++ (here ∷ [])
      more = rw (add-one, take-suc asked i no_asked h, map-append)

  pub twice_hit : any (λ (b : Asked). eqb here b.history) (take i asked) ≡ true → i < length asked
      → history_twice (map (λ (a : Asked). a.history) asked) ≡ true
  twice_hit f h =
      ap history_twice (ap (map (λ (a : Asked). a.history)) (split_at asked i no_asked h)
      ∙ map-append (λ (a : Asked). a.history) (take i asked) (get_or asked i no_asked ∷ drop (suc i) asked))
      ∙ twice_mid (histories_to i asked) here (map (λ (a : Asked). a.history) (drop (suc i) asked)) (in_is ∙ f)

-- ### 2 to 5

-- what is held of a list is that list
pub held_changes_lem : (xs : List Change) → HoldsChanges (held_changes xs) xs
unfolding held_changes
held_changes_lem xs =
    record {
      count = refl;
      first = λ few. ap (map as_change) (four-held as_done no_change xs few) ∙ map-map as_done as_change xs
          ∙ map_same (λ (x : Change). as_change (as_done x)) xs (λ x. refl);
    }

-- the verdict, by what the four checks found
module _ (n : ℕ) (us : List Update) where
  verdict : (w a t m : Bool) → wrong_count us ≡ w → no_such_history n (map (λ (u : Update). u.history) us) ≡ a
      → history_twice (map (λ (u : Update). u.history) us) ≡ t
      → any update_misfits us ≡ m →
      verdict_of (updates_refusal n us)
      ≡ verdict_of (check w WrongCount (check a NoSuchHistory (check t HistoryTwice (check m OperandRange none))))
  unfolding updates_refusal form_refusal
  verdict w a t m p q r s =
      λ i. verdict_of (check (p i) WrongCount (check (q i) NoSuchHistory (check (r i) HistoryTwice (check (s i) OperandRange none))))

  pub refused_none : length us ≡ 0 → Err WrongCount ≡ verdict_of (updates_refusal n us)
  unfolding verdict_of check wrong_count
  refused_none h =
      let w : wrong_count us ≡ true = rw (eq-eqb (length us) 0 h) in
      sym (verdict true _ _ _ w refl refl refl)

  pub refused_many : update_limit < length us → Err WrongCount ≡ verdict_of (updates_refusal n us)
  unfolding verdict_of check wrong_count
  refused_many h =
      let w : wrong_count us ≡ true = rw (lt-ltb update_limit (length us) h) (or-true (eqb (length us) 0)) in
      sym (verdict true _ _ _ w refl refl refl)

module _ (n : ℕ) (asked : List Asked) where
  abbrev us : List Update
  us = map as_update asked

  absent_is : no_such_history n (map (λ (u : Update). u.history) us) ≡ any (λ (a : Asked). leb n a.history) asked
  unfolding no_such_history
  absent_is = any-map (λ (u : Update). u.history) (leb n) us ∙ any-map as_update (λ (u : Update). leb n u.history) asked

  twice_is : history_twice (map (λ (u : Update). u.history) us) ≡ history_twice (map (λ (a : Asked). a.history) asked)
  twice_is = ap history_twice (map-map as_update (λ (u : Update). u.history) asked)

  misfits_is : any update_misfits us ≡ any (λ (a : Asked). not (operand_fits a.rule a.version.0 a.operand)) asked
  unfolding update_misfits
  misfits_is = any-map as_update update_misfits asked

  module _ (some : 1 ≤ length asked) (few : length asked ≤ update_limit) where
    count_fits : wrong_count us ≡ false
    unfolding wrong_count
    count_fits =
        let long : length us ≡ length asked = length-map asked as_update in
        rw (ne_eqb (length us) 0 (λ q. omega (arith, long)), le-ltb update_limit (length us) (omega (arith, long)))

    pub refused_absent : any (λ (a : Asked). leb n a.history) asked ≡ true → Err NoSuchHistory ≡ verdict_of (updates_refusal n us)
    unfolding verdict_of check
    refused_absent f = sym (verdict n us false true _ _ count_fits (absent_is ∙ f) refl refl)

    module _ (present : any (λ (a : Asked). leb n a.history) asked ≡ false) where
      pub refused_twice : history_twice (map (λ (a : Asked). a.history) asked) ≡ true → Err HistoryTwice ≡ verdict_of (updates_refusal n us)
      unfolding verdict_of check
      refused_twice f = sym (verdict n us false false true _ count_fits (absent_is ∙ present) (twice_is ∙ f) refl)

      module _ (once : history_twice (map (λ (a : Asked). a.history) asked) ≡ false) where
        pub refused_misfits : any (λ (a : Asked). not (operand_fits a.rule a.version.0 a.operand)) asked ≡ true
            → Err OperandRange ≡ verdict_of (updates_refusal n us)
        unfolding verdict_of check
        refused_misfits f =
            sym (verdict n us false false false true count_fits (absent_is ∙ present) (twice_is ∙ once) (misfits_is ∙ f))

        pub passes-all : any (λ (a : Asked). not (operand_fits a.rule a.version.0 a.operand)) asked ≡ false
            → Ok tt ≡ verdict_of (updates_refusal n us)
        unfolding verdict_of check
        passes-all f = sym (verdict n us false false false false count_fits (absent_is ∙ present) (twice_is ∙ once) (misfits_is ∙ f))

-- ### 2 to 5 of one update

module _ (n : ℕ) (a : Asked) where
  one_verdict : (p m : Bool) → leb n a.history ≡ p → not (operand_fits a.rule a.version.0 a.operand) ≡ m
      → verdict_of (updates_refusal n (as_update a ∷ [])) ≡ verdict_of (check (p || false) NoSuchHistory (check (m || false) OperandRange none))
  unfolding updates_refusal form_refusal check wrong_count no_such_history history_twice update_misfits
  one_verdict p m e f = λ i. verdict_of (check (e i || false) NoSuchHistory (check (f i || false) OperandRange none))

  pub one_absent : n ≤ a.history → Err NoSuchHistory ≡ verdict_of (updates_refusal n (as_update a ∷ []))
  unfolding verdict_of check
  one_absent e = sym (one_verdict true _ (le-leb n a.history e) refl)

  pub one_misfits : a.history < n → operand_fits a.rule a.version.0 a.operand ≡ false →
      Err OperandRange ≡ verdict_of (updates_refusal n (as_update a ∷ []))
  unfolding verdict_of check
  one_misfits e f = sym (one_verdict false true (lt-leb n a.history e) (ap not f))

  pub one_passes : a.history < n → operand_fits a.rule a.version.0 a.operand ≡ true →
      Ok tt ≡ verdict_of (updates_refusal n (as_update a ∷ []))
  unfolding verdict_of check
  one_passes e f = sym (one_verdict false false (lt-leb n a.history e) (ap not f))

-- ### Did lines are checked as the updates that they report

form_map : {A B : Type 0} (f : A → B) (history : B → ℕ) (misfits : B → Bool) (n : ℕ) (xs : List A)
    → form_refusal (λ (x : A). history (f x)) (λ (x : A). misfits (f x)) n xs ≡ form_refusal history misfits n (map f xs)
unfolding form_refusal wrong_count
form_map f history misfits n xs =
    let p = sym (length-map xs f) in
    let q = sym (map-map f history xs) in
    λ i.
    check (eqb (p i) 0 || ltb update_limit (p i)) WrongCount
    (check (no_such_history n (q i)) NoSuchHistory
    (check (history_twice (q i)) HistoryTwice
    (check (sym (any-map f misfits xs) i) OperandRange none)))

pub changes_refusal_lem : (n : ℕ) (xs : List Change) → updates_refusal n (map change_update xs) ≡ changes_refusal n xs
unfolding updates_refusal changes_refusal_with update_misfits change_misfits_with
changes_refusal_lem n xs = sym (form_map change_update (λ (u : Update). u.history) (λ (u : Update). update_misfits u) n xs)

-- the updates that held changes report are held in the places made of theirs
pub holds-reported : (held : DoneHeld) (xs : List Change) → HoldsChanges held xs →
    HoldsUpdates (record { count = held.count; first = map (λ (d : Done). as_asked (change_update (as_change d))) held.first })
    (map change_update xs)
holds-reported held xs e =
    record {
      count = e.count ∙ sym (length-map xs change_update);
      first = λ few.
          ap (map as_update) (take-map report held.count held.first)
          ∙ map-map report as_update (take held.count held.first)
          ∙ sym (map-map as_change change_update (take held.count held.first))
          ∙ ap (map change_update) (e.first few);
    }
  where
    report : Done → Asked
    report d = as_asked (change_update (as_change d))

-- ### The part of an array that counts, through a function

module _ {A B : Type 0} (f : A → B) (n : ℕ) (l : List A) (i : ℕ) (d : A) where
  pub mapped_in : i < n → f (get_or l i d) ≡ get_or (map f (take n l)) i (f d)
  mapped_in h = ap f (part_in n l i d h) ∙ sym (get_or-map f (take n l) i d)

  pub mapped_out : n ≤ i → f d ≡ get_or (map f (take n l)) i (f d)
  mapped_out h = ap f (part_out n l i d h) ∙ sym (get_or-map f (take n l) i d)

-- ### What passing 2 to 5 gives

check_none : (b : Bool) (r : Refusal) (x : Option Refusal) → check b r x ≡ none → (b ≡ false) × (x ≡ none)
unfolding check
check_none true r x e = ((cc), (cc))
check_none false r x e = (refl, e)

pub record Passed {A : Type 0} (f : A → Update) (n : ℕ) (xs : List A) : Type 0 where
  pub some : 1 ≤ length xs
  pub few : length xs ≤ update_limit
  pub once : history_twice (map (λ (x : A). (f x).history) xs) ≡ false
  pub each : n ≤ history_limit → (d : A) (i : ℕ) → i < length xs → UsableUpdate (f (get_or xs i d))

module _ {A : Type 0} (f : A → Update) (n : ℕ) (xs : List A) where
  passed : form_refusal (λ (x : A). (f x).history) (λ (x : A). update_misfits (f x)) n xs ≡ none → Passed f n xs
  unfolding form_refusal wrong_count no_such_history update_misfits
  passed e =
      let a = check_none _ WrongCount _ e in
      let b = check_none _ NoSuchHistory _ a.1 in
      let c = check_none _ HistoryTwice _ b.1 in
      let m = check_none _ OperandRange _ c.1 in
      let w = or_false_parts (eqb (length xs) 0) (ltb update_limit (length xs)) a.0 in
      let z : length xs ≡ 0 → ⊥ = eqb-false (length xs) 0 w.0 in
      record {
        some = least (length xs) z;
        few = ltb-false update_limit (length xs) w.1;
        once = c.0;
        each = λ most d i h.
            record {
              history =
                  below most d i h (any_get (λ (x : A). leb n (f x).history) xs d i h
                  (sym (any-map (λ (x : A). (f x).history) (leb n) xs) ∙ b.0));
              operand = not-false (operand_fits (f (get_or xs i d)).rule (f (get_or xs i d)).version (f (get_or xs i d)).operand)
                  (any_get (λ (x : A). update_misfits (f x)) xs d i h m.0);
            };
      }
    where
      least : (k : ℕ) → (k ≡ 0 → ⊥) → 1 ≤ k
      least zero z = absurd (z refl)
      least (suc k) z = omega arith

      below : n ≤ history_limit → (d : A) (i : ℕ) → i < length xs → leb n (f (get_or xs i d)).history ≡ false →
          (f (get_or xs i d)).history < history_limit
      below most d i h q = let k = leb-false n (f (get_or xs i d)).history q in omega (arith, k)

pub updates_passed : (n : ℕ) (us : List Update) → updates_refusal n us ≡ none → Passed (λ (u : Update). u) n us
unfolding updates_refusal update_misfits
updates_passed n us e = passed (λ (u : Update). u) n us e

pub changes_passed : (n : ℕ) (xs : List Change) → changes_refusal n xs ≡ none → Passed change_update n xs
unfolding changes_refusal_with update_misfits change_misfits_with
changes_passed n xs e = passed change_update n xs e

-- what passed and is held has usable updates in its places
usable_each : {A B : Type 0} (f : A → Update) (g : B → A) (d : B) (m n : ℕ) (l : List B) (xs : List A) → m ≤ history_limit → Holds g n l xs →
    Passed f m xs → (i : ℕ) → i < n → UsableUpdate (f (g (get_or l i d)))
usable_each {A} f g d m n l xs most e p i h =
    subst (λ (x : A). UsableUpdate (f x))
    (sym (mapped_in g n l i d h ∙ ap (λ (ys : List A). get_or ys i (g d)) (e.first (omega (arith, p.few, e.count)))))
    (p.each most (g d) i (omega (arith, h, e.count)))

-- updates and did lines that passed can be entered
pub usable_held : (n : ℕ) (held : AskedHeld) (us : List Update) → n ≤ history_limit → HoldsUpdates held us →
    length held.first ≡ update_limit → updates_refusal n us ≡ none → UsableHeld held
usable_held n held us most e long f =
    let p = updates_passed n us f in
    record {
      few = omega (arith, p.few, e.count);
      long = long;
      each = usable_each (λ (u : Update). u) as_update no_asked n held.count held.first us most e p;
    }

pub usable_line : (n : ℕ) (line : DidLine) (xs : List Change) → n ≤ history_limit → HoldsChanges line.held xs →
    length line.held.first ≡ update_limit → changes_refusal n xs ≡ none → UsableDid line
usable_line n line xs most e long f =
    let p = changes_passed n xs f in
    record {
      few = omega (arith, p.few, e.count);
      long = long;
      each = usable_each change_update as_change no_done_update n line.held.count line.held.first xs most e p;
    }

pub usable_did : (n : ℕ) (d : Did) → n ≤ history_limit → changes_refusal n d.changes ≡ none → UsableDid (held_did d)
unfolding held_did held_changes
usable_did n d most e = usable_line n (held_did d) d.changes most (held_changes_lem d.changes) refl e

-- the only update that is held
pub only_update : (held : AskedHeld) (us : List Update) → HoldsUpdates held us → length held.first ≡ update_limit → held.count ≡ 1 →
    as_update (get_or held.first 0 no_asked) ∷ [] ≡ us
unfolding updates_of
only_update held us e long one =
    sym (ap (map as_update) (take-suc held.first 0 no_asked (omega arith)))
    ∙ sym (ap (λ (k : ℕ). map as_update (take k held.first)) one)
    ∙ e.first (omega (arith, one))

-- ### Held updates and did lines as entries

pub enters : (id : ℕ) (held : AskedHeld) → UsableHeld held → (items : List Item) → items ≡ first_four update_item no_update (updates_of held) →
    Enters (record { id = id; updates = updates_of held; running = false })
    (record { id = id; running = false; count = held.count; items = items })
unfolding operation_of updates_of
enters id held u items q =
    record {
      usable = usable_four update_item no_update us held.count long u.few ok id false items q;
      operation =
          ap {B = Operation} (λ (l : List Update). record { id = id; updates = l; running = false })
          (ap (map item_update) (items-four update_item no_update us held.count long u.few items q)
          ∙ map-map update_item item_update us
          ∙ map_same (λ (x : Update). item_update (update_item x)) us (λ x. refl));
    }
  where
    us : List Update
    us = map as_update (take held.count held.first)

    long : held.count ≡ length us
    long = sym (length-map (take held.count held.first) as_update ∙ length_part held.count held.first u.long u.few)

    ok : (i : ℕ) → i < held.count → UsableItem (update_item (get_or us i no_update))
    ok i h =
        let x = subst UsableUpdate (mapped_in as_update held.count held.first i no_asked h) (u.each i h) in
        record { history = x.history; operand = x.operand }

pub logged-rule : (r : DoneRule) → logged_as (rule_of r) ≡ r
logged-rule DidInc = refl
logged-rule DidSet = refl
logged-rule DidNot = refl

pub enters_did : (line : DidLine) → UsableDid line → (items : List Item) → items ≡ first_four change_item no_change (did_of line).changes
    → EntersDid (did_of line) (record { id = line.id; running = false; count = line.held.count; items = items })
unfolding did_of_entry did_of changes_of
enters_did line u items q =
    record {
      usable = usable_four change_item no_change xs held.count long u.few ok line.id false items q;
      idle = refl;
      line =
          ap {B = Did} (λ (l : List Change). record { id = line.id; changes = l })
          (ap (map item_change) (items-four change_item no_change xs held.count long u.few items q)
          ∙ map-map change_item item_change xs
          ∙ map_same (λ (x : Change). item_change (change_item x)) xs same);
    }
  where
    held : DoneHeld
    held = line.held

    xs : List Change
    xs = map as_change (take held.count held.first)

    long : held.count ≡ length xs
    long = sym (length-map (take held.count held.first) as_change ∙ length_part held.count held.first u.long u.few)

    ok : (i : ℕ) → i < held.count → UsableItem (change_item (get_or xs i no_change))
    ok i h =
        let x =
        subst (λ (y : Change). UsableUpdate (change_update y)) (mapped_in as_change held.count held.first i no_done_update h)
        (u.each i h) in
        record { history = x.history; operand = x.operand }

    same : (x : Change) → item_change (change_item x) ≡ x
    same x = ap {B = Change}
        (λ (r : DoneRule). record { rule = r; history = x.history; version = x.version; place = x.place; operand = x.operand })
        (logged-rule x.rule)
