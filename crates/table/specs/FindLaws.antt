-- What a search of the entries says in the specification's words: the operation found, the operations without it, the line picked.
use Prim.Native.Nat.{ℕ, suc, ◌+◌, ◌<◌}
use Rattle.std.proofs.Common.{arith, sym, ap, ◌∙◌, ne_eqb, eqb-true, length-take-le}
use Rattle.std.proofs.Math.Path.{◌≡◌, refl, ap₂, subst}
use Rattle.std.specs.Prelude.{Bool, not, ◌&&◌, eqb, T, length, get_or, take, drop, Option, Some, None, option_map}
use Rattle.std.proofs.Math.Bool.{true, false, cond, ◌||◌, or-true}
use mathlib.Core.List.{List, [], ◌∷◌, ◌++◌, map, map-append}
use mathlib.Core.List.Memᴰ
use mathlib.Core.List.{Memᴰ as Mem}
use Rattle.std.proofs.Math.Option.{none, some}
use Rattle.std.proofs.lemmas.List.{length-map}
use Rattle.std.proofs.Math.Seq.{split_at}
use Rattle.forms.specs.Lists.{any, keep, find}
use Rattle.forms.specs.ListLaws.{Nodup, nodup_mid, keep_append, keep_all, true_T, mem-at, mem_along}
use Rattle.forms.specs.Forms.{Base, Did, Change}
use Rattle.rules.specs.Book.{can_run}
use Rattle.rules.specs.State.{Operation}
use Rattle.rules.specs.Calls.{in_progress, future, without, behind, pick, Pick}
use Rattle.rules.specs.Calls.Pick.{nobody, this}
use Rattle.rule_laws.specs.Good.{did_ids, operation_ids}
use Rattle.rule_laws.specs.CheckLaws.{or_false_left, or_false_right}
use Rattle.history.specs.declared.History.{History}
use Rattle.history.specs.declared.Entry.{Entry}
use Rattle.history.specs.Entries.{cells_of, operation_of, did_of_entry}
use Rattle.history.specs.AtLog.{HoldsBook}
use Rattle.history.specs.Tests.{any-map, any_agree, map-map}
use Rattle.table.specs.Lists.{first_at}
use Rattle.table.specs.Tables.{has_id, is_entry, id_of, can_run_entry}
use Rattle.table.specs.Tries.{operations_of}
use Rattle.table.specs.RangeLaws.{past_entry}
use Rattle.table.specs.EntryLaws.{can_run_is}

-- ### The first that passes

module _ {A : Type 0} (p : A → Bool) (d : A) where
  -- k is where the first element stands that passes
  pub record First (l : List A) (k : ℕ) : Type 0 where
    pub lt : k < length l
    pub hit : p (get_or l k d) ≡ true
    pub miss : any p (take k l) ≡ false

  pub first_found : (l : List A) (k : ℕ) → first_at p l ≡ Some k → First l k
  unfolding first_at
  first_found [] k e = absurd (let z : ◌≡◌ {A = ℕ} 0 1 = cc in omega arith)
  first_found (x ∷ l) k e = go (p x) refl (first_at p l) (λ j q. first_found l j q) e
    where
      go : (b : Bool) → p x ≡ b → (r : Option ℕ) → ((j : ℕ) → r ≡ Some j → First l j) → cond b (Some 0) (option_map suc r) ≡ Some k → First (x ∷ l) k
      go true h r f q = let z : 0 ≡ k = cc in subst (First (x ∷ l)) z (record { lt = omega arith; hit = h; miss = refl })
      go false h (Some j) f q =
          let z : suc j ≡ k = cc in
          subst (First (x ∷ l)) z (record { lt = omega (arith, (f j refl).lt); hit = (f j refl).hit; miss = ap₂ ◌||◌ h (f j refl).miss })
      go false h None f q = absurd (let z : ◌≡◌ {A = ℕ} 0 1 = cc in omega arith)

  pub first_missed : (l : List A) → first_at p l ≡ None → any p l ≡ false
  unfolding first_at
  first_missed [] e = refl
  first_missed (x ∷ l) e = go (p x) (first_at p l) (λ q. first_missed l q) e
    where
      go : (b : Bool) (r : Option ℕ) → (r ≡ None → any p l ≡ false) → cond b (Some 0) (option_map suc r) ≡ None → (b || any p l) ≡ false
      go true r f q = absurd (let z : ◌≡◌ {A = ℕ} 0 1 = cc in omega arith)
      go false (Some j) f q = absurd (let z : ◌≡◌ {A = ℕ} 0 1 = cc in omega arith)
      go false None f q = f refl

module _ {A B : Type 0} (f : A → B) (l : List A) (d : A) (k : ℕ) (lt : k < length l) where
  map_split : map f l ≡ map f (take k l) ++ f (get_or l k d) ∷ map f (drop (suc k) l)
  map_split = ap (map f) (split_at l k d lt) ∙ map-append f (take k l) (get_or l k d ∷ drop (suc k) l)

  -- the list without the element at k
  map-rest : map f (take k l ++ drop (k + 1) l) ≡ map f (take k l) ++ map f (drop (suc k) l)
  map-rest =
      let z : k + 1 ≡ suc k = omega arith in map-append f (take k l) (drop (k + 1) l)
      ∙ ap (λ (n : ℕ). map f (take k l) ++ map f (drop n l)) z

module _ {A : Type 0} (q : A → Bool) where
  find_mid : (a : List A) (x : A) (b : List A) → any q a ≡ false → q x ≡ true → find q (a ++ x ∷ b) ≡ some x
  find_mid [] x b e h = ap (λ (t : Bool). cond t (some x) (find q b)) h
  find_mid (y ∷ a) x b e h =
      ap (λ (t : Bool). cond t (some y) (find q (a ++ x ∷ b))) (or_false_left (q y) (any q a) e)
      ∙ find_mid a x b (or_false_right (q y) (any q a) e) h

  find_none : (l : List A) → any q l ≡ false → find q l ≡ none
  find_none [] e = refl
  find_none (y ∷ l) e =
      ap (λ (t : Bool). cond t (some y) (find q l)) (or_false_left (q y) (any q l) e) ∙ find_none l (or_false_right (q y) (any q l) e)

-- ### Ids

-- 7 of the specification: an id among the pending operations, or the waiting lines
pub has-operation : (i : ℕ) (l : List Entry) → any (has_id i) l ≡ any (λ (x : Operation). eqb x.id i) (operations_of l)
unfolding operation_of
has-operation i l = sym (any-map operation_of (λ (x : Operation). eqb x.id i) l)

pub has-line : (i : ℕ) (l : List Entry) → any (has_id i) l ≡ any (λ (d : Did). eqb d.id i) (map did_of_entry l)
unfolding did_of_entry
has-line i l = sym (any-map did_of_entry (λ (d : Did). eqb d.id i) l)

pub ids-lines : (l : List Entry) → map id_of l ≡ did_ids (map did_of_entry l)
unfolding did_of_entry
ids-lines l = sym (map-map did_of_entry (λ (d : Did). d.id) l)

pub ids_operations : (l : List Entry) → map id_of l ≡ operation_ids (operations_of l)
unfolding operation_of
ids_operations l = sym (map-map operation_of (λ (x : Operation). x.id) l)

-- ### Finish and withdraw

pub find-in_progress : (i : ℕ) (l : List Entry) (k : ℕ) → first_at (is_entry i true) l ≡ Some k
    → find (in_progress i) (operations_of l) ≡ some (operation_of (get_or l k past_entry))
unfolding is_entry in_progress operation_of
find-in_progress i l k e =
    let f = first_found (is_entry i true) past_entry l k e in
    ap (find (in_progress i)) (map_split operation_of l past_entry k f.lt)
    ∙ find_mid (in_progress i) (operations_of (take k l)) (operation_of (get_or l k past_entry)) (operations_of (drop (suc k) l))
    (any-map operation_of (in_progress i) (take k l) ∙ f.miss) f.hit

pub find-not-in_progress : (i : ℕ) (l : List Entry) → first_at (is_entry i true) l ≡ None → find (in_progress i) (operations_of l) ≡ none
unfolding is_entry in_progress operation_of
find-not-in_progress i l e =
    find_none (in_progress i) (operations_of l) (any-map operation_of (in_progress i) l ∙ first_missed (is_entry i true) past_entry l e)

pub any-future : (i : ℕ) (l : List Entry) (k : ℕ) → first_at (is_entry i false) l ≡ Some k → any (future i) (operations_of l) ≡ true
unfolding is_entry future operation_of
any-future i l k e =
    let f = first_found (is_entry i false) past_entry l k e in
    ap (any (future i)) (map_split operation_of l past_entry k f.lt)
    ∙ any_mid (operations_of (take k l)) (operation_of (get_or l k past_entry)) (operations_of (drop (suc k) l)) f.hit
  where
    any_mid : (a : List Operation) (x : Operation) (b : List Operation) → future i x ≡ true → any (future i) (a ++ x ∷ b) ≡ true
    any_mid [] x b h = ap (λ (t : Bool). t || any (future i) b) h
    any_mid (y ∷ a) x b h = ap (λ (t : Bool). future i y || t) (any_mid a x b h) ∙ or-true (future i y)

pub no_future : (i : ℕ) (l : List Entry) → first_at (is_entry i false) l ≡ None → any (future i) (operations_of l) ≡ false
unfolding is_entry future operation_of
no_future i l e = any-map operation_of (future i) l ∙ first_missed (is_entry i false) past_entry l e

-- Ids being distinct, the operations without that id are those left when the entry found is removed.
pub without_is : (i : ℕ) (running : Bool) (l : List Entry) (k : ℕ) → Nodup (operation_ids (operations_of l))
    → first_at (is_entry i running) l ≡ Some k
    → without i (operations_of l) ≡ operations_of (take k l ++ drop (k + 1) l)
unfolding is_entry without operation_of
without_is i running l k once e =
    let f = first_found (is_entry i running) past_entry l k e in
    ap (keep other) (map_split operation_of l past_entry k f.lt) ∙ dropped f ∙ sym (map-rest operation_of l past_entry k f.lt)
  where
    other : Operation → Bool
    other x = not (eqb x.id i)

    left : (a b : Bool) → (a && b) ≡ true → a ≡ true
    left true b q = refl
    left false b q = q

    dropped : First (is_entry i running) past_entry l k
        → keep other (operations_of (take k l) ++ operation_of (get_or l k past_entry) ∷ operations_of (drop (suc k) l))
        ≡ operations_of (take k l) ++ operations_of (drop (suc k) l)
    dropped f =
        keep_append other (operations_of (take k l)) (operation_of (get_or l k past_entry) ∷ operations_of (drop (suc k) l))
        ∙ ap
        (λ (t : Bool). keep other (operations_of (take k l)) ++ cond (not t)
        (operation_of (get_or l k past_entry) ∷ keep other (operations_of (drop (suc k) l))) (keep other (operations_of (drop (suc k) l)))) same
        ∙ ap₂ ◌++◌ (keep_all other (operations_of (take k l)) (λ x m. apart x (Memᴰ.append_left (operations_of (drop (suc k) l)) m)))
        (keep_all other (operations_of (drop (suc k) l)) (λ x m. apart x (Memᴰ.append_right (operations_of (take k l)) m)))
      where
        same : eqb (get_or l k past_entry).id i ≡ true
        same =
            left (eqb (get_or l k past_entry).id i) (cond running (get_or l k past_entry).running (not (get_or l k past_entry).running)) f.hit

        id : Operation → ℕ
        id x = x.id

        ids : operation_ids (operations_of l)
            ≡ map id (operations_of (take k l)) ++ (get_or l k past_entry).id ∷ map id (operations_of (drop (suc k) l))
        ids =
            ap (map id) (map_split operation_of l past_entry k f.lt)
            ∙ map-append id (operations_of (take k l)) (operation_of (get_or l k past_entry) ∷ operations_of (drop (suc k) l))

        fresh : Mem (get_or l k past_entry).id (map id (operations_of (take k l)) ++ map id (operations_of (drop (suc k) l))) → ⊥
        fresh =
            (nodup_mid (map id (operations_of (take k l))) (get_or l k past_entry).id (map id (operations_of (drop (suc k) l)))
            (subst Nodup ids once)).0

        apart : (x : Operation) → Mem x (operations_of (take k l) ++ operations_of (drop (suc k) l)) → T (other x)
        apart x m =
            true_T (other x)
            (ap not (ne_eqb x.id i
            (λ q. fresh (subst (λ (z : ℕ). Mem z (map id (operations_of (take k l)) ++ map id (operations_of (drop (suc k) l))))
            (q ∙ sym (eqb-true (get_or l k past_entry).id i same))
            (mem_along (map-append id (operations_of (take k l)) (operations_of (drop (suc k) l))) (Memᴰ.map id m))))))

-- ### Redo

-- what is picked of a line and those behind it
picked : (σ : Base) → List Did → Did → List Did → Bool → Pick
picked σ log w ws b = elim b [ true ↦ this 1 w ws | false ↦ behind w (pick σ log ws) ]

pick_mid : (σ : Base) (log a : List Did) (d : Did) (b : List Did) → any (can_run σ log) a ≡ false → can_run σ log d ≡ true
    → pick σ log (a ++ d ∷ b) ≡ this (suc (length a)) d (a ++ b)
unfolding picked pick behind
pick_mid σ log [] d b e h = ap (picked σ log d b) h
pick_mid σ log (w ∷ a) d b e h =
    ap (picked σ log w (a ++ d ∷ b)) (or_false_left (can_run σ log w) (any (can_run σ log) a) e)
    ∙ ap (behind w) (pick_mid σ log a d b (or_false_right (can_run σ log w) (any (can_run σ log) a) e) h)

pick_none : (σ : Base) (log l : List Did) → any (can_run σ log) l ≡ false → pick σ log l ≡ nobody (length l)
unfolding picked pick behind
pick_none σ log [] e = refl
pick_none σ log (w ∷ l) e =
    ap (picked σ log w l) (or_false_left (can_run σ log w) (any (can_run σ log) l) e)
    ∙ ap (behind w) (pick_none σ log l (or_false_right (can_run σ log w) (any (can_run σ log) l) e))

module _ (σ : Base) (n : ℕ) (log : List Did) (hs : List History) (l : List Entry) (same : HoldsBook σ n hs log)
    (low : (e : Entry) → Mem e l → (x : Change) → Mem x (did_of_entry e).changes → x.history < n) where
  agree : (a : List Entry) → ((e : Entry) → Mem e a → Mem e l) → any (can_run σ log) (map did_of_entry a) ≡ any (can_run_entry (cells_of hs)) a
  agree a into =
      any-map did_of_entry (can_run σ log) a
      ∙ sym
      (any_agree (can_run_entry (cells_of hs)) (λ (e : Entry). can_run σ log (did_of_entry e)) a
      (λ e m. can_run_is σ n log hs e same (low e (into e m))))

  -- The first line that can run is the one that the specification picks, and the queue without it holds the others.
  pub pick_is : (k : ℕ) → first_at (can_run_entry (cells_of hs)) l ≡ Some k
      → pick σ log (map did_of_entry l) ≡ this (k + 1) (did_of_entry (get_or l k past_entry)) (map did_of_entry (take k l ++ drop (k + 1) l))
  pick_is k e =
      ap (pick σ log) (map_split did_of_entry l past_entry k f.lt)
      ∙ pick_mid σ log (map did_of_entry (take k l)) (did_of_entry (get_or l k past_entry)) (map did_of_entry (drop (suc k) l))
      (agree (take k l) (λ x m. whole x (Memᴰ.append_left (get_or l k past_entry ∷ drop (suc k) l) m)) ∙ f.miss)
      (sym (can_run_is σ n log hs (get_or l k past_entry) same
      (low (get_or l k past_entry) (whole (get_or l k past_entry) (mem-at (get_or l k past_entry) (take k l) (drop (suc k) l))))) ∙ f.hit)
      ∙ ap₂ (λ (n : ℕ) (rest : List Did). this n (did_of_entry (get_or l k past_entry)) rest) looked
      (sym (map-rest did_of_entry l past_entry k f.lt))
    where
      f : First (can_run_entry (cells_of hs)) past_entry l k
      f = first_found (can_run_entry (cells_of hs)) past_entry l k e

      looked : suc (length (map did_of_entry (take k l))) ≡ k + 1
      looked = omega (arith, length-map (take k l) did_of_entry, length-take-le k l (omega (arith, f.lt)))

      whole : (x : Entry) → Mem x (take k l ++ get_or l k past_entry ∷ drop (suc k) l) → Mem x l
      whole x m = mem_along (sym (split_at l k past_entry f.lt)) m

  pub pick_nobody : first_at (can_run_entry (cells_of hs)) l ≡ None → pick σ log (map did_of_entry l) ≡ nobody (length l)
  pick_nobody e =
      pick_none σ log (map did_of_entry l) (agree l (λ x m. m) ∙ first_missed (can_run_entry (cells_of hs)) past_entry l e)
      ∙ ap nobody (length-map l did_of_entry)
