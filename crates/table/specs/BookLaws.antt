-- What the done operations say of the log: the versions after each of them; and the histories that replies name.
use Rattle.std.specs.Prelude.{ℕ, zero, suc, ◌+◌, ◌≤◌, ◌<◌, ◌≡◌, refl, Bool, true, false, cond, not, ◌&&◌, List, [], ◌∷◌, ◌++◌, map, T, eqb, ltb, get_or, take, drop}
use Rattle.std.proofs.Common.{arith, sym, ap, ap₂, subst, ◌∙◌, append_assoc, append-nil, eqb-true, ne_eqb, lt-ltb, take-append-drop, take-add, take-take}
use mathlib.Core.List.Memᴰ
use mathlib.Core.List.Memᴰ.{head as here}
use mathlib.Core.List.Memᴰ.{tail as there}
use mathlib.Core.List.{Memᴰ as Mem}
use Rattle.forms.specs.Lists.{keep, below}
use Rattle.forms.specs.ListLaws.{Nodup, mem_along, keep_append}
use Rattle.forms.specs.Forms.{Base, Change, Did}
use Rattle.rules.specs.Book.{Cell, cell, entered, enter_all, enter_all_with, enter_with, runs_at, can_run}
use Rattle.rules.specs.Poll.{busy}
use Rattle.rule_laws.specs.PollLaws.{dry_is}
use Rattle.rules.specs.State.{State, dry, became_dry, rose, version_at}
use Rattle.rule_laws.specs.Good.{FormedDid, Ran}
use Rattle.rule_laws.specs.BookLaws.{once_formed, enter_all-other, entered_version, can_run-at, cell_snoc, ran_prefix}
use Rattle.history.specs.declared.Item.{Item}
use Rattle.history.specs.declared.Entry.{Entry}
use Rattle.history.specs.Entries.{item_change, items_of, did_of_entry}
use Rattle.table.specs.declared.versions.Naming.TheVariants.{Risen, Dried}
use Rattle.table.specs.Arrays.{names, singled}
use Rattle.table.specs.Tables.{version_by, version_from}
use Rattle.table.specs.RangeLaws.{map-take, map-drop}

-- ### Versions

-- The version of history h after some changes, each setting it to the version after it.
stamped_by : ℕ → ℕ → List Change → ℕ
stamped_by h v [] = v
stamped_by h v (x ∷ xs) = stamped_by h (cond (eqb x.history h) x.version v) xs

stamped_is : (h v : ℕ) (l : List Item) → version_by h v l ≡ stamped_by h v (map item_change l)
unfolding version_by stamped_by
stamped_is h v [] = refl
stamped_is h v (x ∷ l) = stamped_is h (cond (eqb x.history h) x.version.0 v) l

stamped-other : (h v : ℕ) (xs : List Change) → ((x : Change) → Mem x xs → x.history ≡ h → ⊥) → stamped_by h v xs ≡ v
unfolding stamped_by
stamped-other h v [] out = refl
stamped-other h v (x ∷ xs) out =
    ap (λ (b : Bool). stamped_by h (cond b x.version v) xs) (ne_eqb x.history h (out x (here refl)))
    ∙ stamped-other h v xs (λ y m. out y (there m))

stamped-entered : (h : ℕ) (xs : List Change) (c : Cell) → Nodup (map (λ (x : Change). x.history) xs)
    → ((x : Change) → Mem x xs → x.history ≡ h → T (runs_at c x)) → stamped_by h c.version xs ≡ (enter_all h xs c).version
unfolding stamped_by enter_all_with enter_with
stamped-entered h [] c once runs = refl
stamped-entered h (x ∷ xs) c once runs = go (stamped-entered h xs c once.1 (λ y m. runs y (there m))) (eqb x.history h) refl
  where
    others : x.history ≡ h → (y : Change) → Mem y xs → y.history ≡ h → ⊥
    others q y m e =
        once.0 (subst (λ (z : ℕ). Mem z (map (λ (x : Change). x.history) xs)) (e ∙ sym q) (Memᴰ.map (λ (x : Change). x.history) m))

    go : stamped_by h c.version xs ≡ (enter_all h xs c).version → (b : Bool) → eqb x.history h ≡ b
        → stamped_by h (cond b x.version c.version) xs
        ≡ (enter_all h xs (cond b (entered x.rule x.version x.operand c) c)).version
    go below true q =
        let e = eqb-true x.history h q in
        stamped-other h x.version xs (others e)
        ∙ sym
        (ap (λ (z : Cell). z.version) (enter_all-other h xs (entered x.rule x.version x.operand c) (others e))
        ∙ entered_version c x (runs x (here refl) e))
    go below false q = below

-- "the version after a `not` is the version it read": one line that ran
version_line : (σ : Base) (n h : ℕ) (log : List Did) (e : Entry) → FormedDid n (did_of_entry e) → T (can_run σ log (did_of_entry e))
    → version_by h (cell σ h log).version (items_of e) ≡ (cell σ h (log ++ (did_of_entry e ∷ []))).version
unfolding did_of_entry
version_line σ n h log e F t =
    let d = did_of_entry e in
    stamped_is h (cell σ h log).version (items_of e)
    ∙ stamped-entered h d.changes (cell σ h log) (once_formed n d F)
    (λ x m q. subst (λ (k : ℕ). T (runs_at (cell σ k log) x)) q (can_run-at σ log d t x m))
    ∙ sym (ap (λ (c : Cell). c.version) (cell_snoc σ h log d))

versions_are : (σ : Base) (n h : ℕ) (a : List Did) (es : List Entry) → ((d : Did) → Mem d (map did_of_entry es) → FormedDid n d)
    → ((p : List Did) (d : Did) (q : List Did) → map did_of_entry es ≡ p ++ d ∷ q → T (can_run σ (a ++ p) d))
    → version_from h (cell σ h a).version es ≡ (cell σ h (a ++ map did_of_entry es)).version
unfolding version_from
versions_are σ n h a [] formed ran = ap (λ (l : List Did). (cell σ h l).version) (sym (append-nil a))
versions_are σ n h a (e ∷ es) formed ran =
    let d = did_of_entry e in
    let ds = map did_of_entry es in
    ap (λ (v : ℕ). version_from h v es)
    (version_line σ n h a e (formed d (here refl)) (subst (λ (l : List Did). T (can_run σ l d)) (append-nil a) (ran [] d ds refl)))
    ∙ versions_are σ n h (a ++ (d ∷ [])) es (λ y m. formed y (there m))
    (λ p y q k. subst (λ (l : List Did). T (can_run σ l y)) (sym (append_assoc a (d ∷ []) p))
    (ran (d ∷ p) y q (ap (λ (l : List Did). d ∷ l) k)))
    ∙ ap (λ (l : List Did). (cell σ h l).version) (append_assoc a (d ∷ []) ds)

-- The done operations behind the first s of a log: from the version after s + from of its lines to that after s + to.
pub advance_is : (σ : Base) (n h : ℕ) (log : List Did) (s from to v : ℕ) (es : List Entry) → ((d : Did) → Mem d log → FormedDid n d) →
    Ran σ log → from ≤ to → map did_of_entry es ≡ drop s log → v ≡ (cell σ h (take (s + from) log)).version
    → version_from h v (drop from (take to es)) ≡ (cell σ h (take (s + to) log)).version
advance_is σ n h log s from to v es formed ran le e q =
    ap (λ (w : ℕ). version_from h w part) q
    ∙ versions_are σ n h a part inside runs
    ∙ ap (λ (l : List Did). (cell σ h (a ++ l)).version) same
    ∙ ap (λ (l : List Did). (cell σ h l).version) whole
  where
    a : List Did
    a = take (s + from) log

    part : List Entry
    part = drop from (take to es)

    ds : List Did
    ds = drop from (take to (drop s log))

    same : map did_of_entry part ≡ ds
    same = sym (map-drop did_of_entry from (take to es)) ∙ ap (drop from) (sym (map-take did_of_entry to es) ∙ ap (take to) e)

    whole : a ++ ds ≡ take (s + to) log
    whole =
        ap (λ (l : List Did). l ++ ds) (take-add s from log)
        ∙ append_assoc (take s log) (take from (drop s log)) ds
        ∙ ap (λ (l : List Did). take s log ++ (l ++ ds)) (sym (take-take from to (drop s log) le))
        ∙ ap (λ (l : List Did). take s log ++ l) (take-append-drop from (take to (drop s log)))
        ∙ sym (take-add s to log)

    front : log ≡ take (s + to) log ++ drop (s + to) log
    front = sym (take-append-drop (s + to) log)

    inside : (d : Did) → Mem d (map did_of_entry part) → FormedDid n d
    inside d m =
        formed d (mem_along (sym front) (Memᴰ.append_left (drop (s + to) log) (mem_along whole (Memᴰ.append_right a (mem_along same m)))))

    runs : (p : List Did) (d : Did) (r : List Did) → map did_of_entry part ≡ p ++ d ∷ r → T (can_run σ (a ++ p) d)
    runs p d r f =
        ran_prefix σ (take (s + to) log) (drop (s + to) log) (subst (Ran σ) front ran) (a ++ p) d r
        (sym whole ∙ ap (λ (l : List Did). a ++ l) (sym same ∙ f) ∙ sym (append_assoc a p (d ∷ r)))

-- ### Histories named in replies

keep-below : (p q : ℕ → Bool) (n : ℕ) → ((h : ℕ) → h < n → p h ≡ q h) → keep p (below n) ≡ keep q (below n)
unfolding below
keep-below p q zero e = refl
keep-below p q (suc n) e =
    keep_append p (below n) (n ∷ [])
    ∙ ap₂ (λ (l : List ℕ) (b : Bool). l ++ cond b (n ∷ []) []) (keep-below p q n (λ h l. e h (omega arith))) (e n (omega arith))
    ∙ sym (keep_append q (below n) (n ∷ []))

-- the histories whose persistent (stable) version rose
pub rose_is : (before after : List ℕ) (m k : ℕ) (st : State)
    → ((h : ℕ) → h < st.histories → get_or before h 0 ≡ version_at m h st) → ((h : ℕ) → h < st.histories → get_or after h 0 ≡ version_at k h st)
    → keep (singled Risen before after) (below st.histories) ≡ rose m k st
unfolding rose names
rose_is before after m k st a b =
    keep-below (singled Risen before after) (λ (h : ℕ). ltb (version_at m h st) (version_at k h st)) st.histories
    (λ h l. ap₂ ltb (a h l) (b h l))

-- a number above 0
above_zero : (n : ℕ) → ltb 0 n ≡ not (eqb n 0)
above_zero zero = refl
above_zero (suc n) = lt-ltb 0 (suc n) (omega arith) ∙ ap not (sym (ne_eqb (suc n) 0 (λ e. omega (arith, e))))

-- the histories that became dry, by the numbers of their updates that are future, in progress or volatile
pub dried_is : (before after : List ℕ) (st next : State)
    → ((h : ℕ) → h < st.histories → get_or before h 0 ≡ busy st h) → ((h : ℕ) → h < st.histories → get_or after h 0 ≡ busy next h)
    → keep (singled Dried before after) (below st.histories) ≡ became_dry st next
unfolding became_dry names
dried_is before after st next a b =
    keep-below (singled Dried before after) (λ (h : ℕ). not (dry st h) && dry next h) st.histories
    (λ h l. ap₂ ◌&&◌
    (ap (ltb 0) (a h l) ∙ above_zero (busy st h) ∙ ap not (sym (dry_is st h)))
    (ap (λ (n : ℕ). eqb n 0) (b h l) ∙ sym (dry_is next h)))
