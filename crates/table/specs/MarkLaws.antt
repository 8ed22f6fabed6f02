-- Laws of the marks: what they say of the updates counted, and that they answer the specification's "blocked".
use Rattle.std.specs.Prelude.{ℕ, ◌+◌, ◌≤◌, ◌<◌, ◌≡◌, Bool, true, false, cond, not, ◌&&◌, ◌||◌, eqb, length, get_or, take, set, replicate}
use Rattle.std.proofs.Common.{arith, subst, ◌∙◌}
use Rattle.std.proofs.Math.Path.{refl, sym, ap, fun_ext}
use Rattle.std.proofs.Math.Bool.{or-true, or-false, and-true}
use mathlib.Core.List.{List, [], ◌∷◌, ◌++◌, map, append_assoc, append-nil}
use Rattle.forms.specs.Lists.{any}
use Rattle.forms.specs.Forms.{Update}
use Rattle.forms.specs.Limits.{history_limit}
use Rattle.forms.specs.declared.Rule.{Rule}
use Rattle.forms.specs.declared.Rule.TheVariants.{Inc, Set, Not, Unk}
use Rattle.rules.specs.Rules.{strong}
use Rattle.rules.specs.State.{Operation}
use Rattle.rules.specs.Calls.{blocked_by, blocked}
use Rattle.history.specs.declared.Item.{Item}
use Rattle.history.specs.declared.Entry.{Entry}
use Rattle.history.specs.Entries.{no_item, item_update, operation_of, UsableEntry}
use Rattle.history.specs.Tests.{any-map}
use Rattle.table.specs.declared.Marks.{Marks}
use Rattle.table.specs.Arrays.{Tabulates}
use Rattle.table.specs.Rows.{row_at}
use Rattle.table.specs.Tables.{rows_in}
use Rattle.table.specs.Tries.{gather, in_history, strong_in, entry_updates, held, MarksOf, More, free_by}
use Rattle.table.specs.LoopLaws.{any_append}
use Rattle.table.specs.ArrayLaws.{says_like, says-start, says-next, says_nothing}
use Rattle.table.specs.RangeLaws.{range_none, range_next}

-- ### Lists one behind the other

module _ {A B : Type 0} (f : A → List B) where
  pub gather_append : (a b : List A) → gather f (a ++ b) ≡ gather f a ++ gather f b
  unfolding gather
  gather_append [] b = refl
  gather_append (x ∷ a) b = ap (λ (l : List B). f x ++ l) (gather_append a b) ∙ sym (append_assoc (f x) (gather f a) (gather f b))

  gather_snoc : (l : List A) (a : A) → gather f (l ++ (a ∷ [])) ≡ gather f l ++ f a
  unfolding gather
  gather_snoc l a = gather_append l (a ∷ []) ∙ ap (λ (k : List B). gather f l ++ k) (append-nil (f a))

  pub any-gather : (p : B → Bool) (l : List A) → any p (gather f l) ≡ any (λ (x : A). any p (f x)) l
  unfolding gather
  any-gather p [] = refl
  any-gather p (x ∷ l) = any_append p (f x) (gather f l) ∙ ap (λ (t : Bool). any p (f x) || t) (any-gather p l)

pub gather-map : {A B C : Type 0} (f : A → B) (g : B → List C) (l : List A) → gather g (map f l) ≡ gather (λ (x : A). g (f x)) l
unfolding gather
gather-map f g [] = refl
gather-map f g (x ∷ l) = ap (λ (k : List _). g (f x) ++ k) (gather-map f g l)

-- ### The marks of one entry

-- The marks that a loop over the items of an entry has set.
pub record Marking (i : ℕ) (e : Entry) (m₀ m : Marks) : Type 0 where
  pub each : Tabulates false m.any
      (λ (h : ℕ). get_or m₀.any h false || any (λ (x : Item). in_history h (item_update x)) (take i e.items))
  pub strongs : Tabulates false m.strong
      (λ (h : ℕ). get_or m₀.strong h false || any (λ (x : Item). strong_in h (item_update x)) (take i e.items))

pub marking_start : (e : Entry) (m : Marks) → length m.any ≡ history_limit → length m.strong ≡ history_limit → Marking 0 e m m
marking_start e m p q = record {
  each = says-start m.any (λ (h : ℕ) (x : Item). in_history h (item_update x)) e.items p;
  strongs = says-start m.strong (λ (h : ℕ) (x : Item). strong_in h (item_update x)) e.items q;
}

pub marking_next : (i : ℕ) (e : Entry) (m₀ m : Marks) (b : Bool) (x : Item) → UsableEntry e → i < e.count → x ≡ get_or e.items i no_item
    → Marking i e m₀ m → b ≡ (get_or m.strong x.history false || strong x.rule)
    → Marking (i + 1) e m₀ (record { any = set m.any x.history true; strong = set m.strong x.history b })
marking_next i e m₀ m b x u lt is a q = record {
  each = says-next m.any m₀.any (λ (h : ℕ) (y : Item). in_history h (item_update y)) e.items no_item i x.history true true
      (omega (arith, u.few, u.long)) low (sym (or-true (get_or m.any x.history false)))
      (λ h. and-true (eqb x.history h) ∙ ap (λ (y : Item). in_history h (item_update y)) is) a.each;
  strongs =
      says-next m.strong m₀.strong (λ (h : ℕ) (y : Item). strong_in h (item_update y)) e.items no_item i x.history b
      (strong x.rule)
      (omega (arith, u.few, u.long)) low q (λ h. ap (λ (y : Item). strong_in h (item_update y)) is) a.strongs;
}
  where
    low : x.history < history_limit
    low = omega (arith, (u.each i lt).history, ap (λ (y : Item). y.history) is)

pub marking_end : (i : ℕ) (e : Entry) (m₀ m : Marks) → i ≡ e.count → Marking i e m₀ m → More m m₀ (entry_updates e)
unfolding operation_of
marking_end i e m₀ m q a = record {
  each = says_like false m.any _ _ a.each (λ h l. ap (λ (b : Bool). get_or m₀.any h false || b) (whole (in_history h)));
  strongs = says_like false m.strong _ _ a.strongs (λ h l. ap (λ (b : Bool). get_or m₀.strong h false || b) (whole (strong_in h)));
}
  where
    whole : (p : Update → Bool)
        → any (λ (x : Item). p (item_update x)) (take i e.items) ≡ any p (map item_update (take e.count e.items))
    whole p =
        ap (λ (n : ℕ). any (λ (x : Item). p (item_update x)) (take n e.items)) q
        ∙ sym (any-map item_update p (take e.count e.items))

-- nothing more
pub more_none : (m : Marks) → length m.any ≡ history_limit → length m.strong ≡ history_limit → More m m []
more_none m p q = record {
  each = record { long = p; each = λ h l. sym (or-false (get_or m.any h false)) };
  strongs = record { long = q; each = λ h l. sym (or-false (get_or m.strong h false)) };
}

-- ### The marks of many

pub marked_none : MarksOf (record { any = replicate history_limit false; strong = replicate history_limit false }) []
marked_none = record { each = says_nothing; strongs = says_nothing }

-- marks of the same updates in another order
pub marked_like : (m : Marks) (us ws : List Update) → ((p : Update → Bool) → any p us ≡ any p ws) → MarksOf m us → MarksOf m ws
marked_like m us ws e a = record {
  each = says_like false m.any _ _ a.each (λ h l. e (in_history h));
  strongs = says_like false m.strong _ _ a.strongs (λ h l. e (strong_in h));
}

pub marked_more : (m r : Marks) (us ws : List Update) → MarksOf m us → More r m ws → MarksOf r (us ++ ws)
marked_more m r us ws a b = record {
  each = says_like false r.any _ _ b.each
      (λ h l. ap (λ (x : Bool). x || any (in_history h) ws) (a.each.each h l) ∙ sym (any_append (in_history h) us ws));
  strongs = says_like false r.strong _ _ b.strongs
      (λ h l. ap (λ (x : Bool). x || any (strong_in h) ws) (a.strongs.each h l) ∙ sym (any_append (strong_in h) us ws));
}

-- one entry more of those that the loop passes
pub marked_next : (f : Entry → List Update) (o ws : List ℕ) (m r : Marks) (from i : ℕ) → from ≤ i → i < length o
    → MarksOf m (gather f (rows_in o ws from i)) → More r m (f (row_at ws (get_or o i 0))) → MarksOf r (gather f (rows_in o ws from (i + 1)))
marked_next f o ws m r from i h l a b =
    subst (MarksOf r) (sym (ap (gather f) (range_next o ws from i h l) ∙ gather_snoc f (rows_in o ws from i) (row_at ws (get_or o i 0))))
    (marked_more m r (gather f (rows_in o ws from i)) (f (row_at ws (get_or o i 0))) a b)

pub marked_start : (f : Entry → List Update) (o ws : List ℕ) (from : ℕ)
    → MarksOf (record { any = replicate history_limit false; strong = replicate history_limit false }) (gather f (rows_in o ws from from))
unfolding gather
marked_start f o ws from = subst (MarksOf _) (ap (gather f) (sym (range_none o ws from))) marked_none

-- ### Blocked

-- an update in conflict with u
abbrev conflicts : Rule → ℕ → Update → Bool
conflicts r h w = eqb w.history h && (strong r || strong w.rule)

blocked-held : (u : Update) (x : Operation) → blocked_by u x ≡ any (conflicts u.rule u.history) (held x)
unfolding blocked_by
blocked-held u x = go x.running
  where
    go : (b : Bool)
        → (b && any (conflicts u.rule u.history) x.updates) ≡ any (conflicts u.rule u.history) (cond b x.updates [])
    go true = refl
    go false = refl

blocked-all : (u : Update) (xs : List Operation) → blocked xs u ≡ any (conflicts u.rule u.history) (gather held xs)
unfolding blocked
blocked-all u xs =
    ap (λ (p : Operation → Bool). any p xs) (fun_ext (blocked-held u)) ∙ sym (any-gather held (conflicts u.rule u.history) xs)

conflict_rule : (r : Rule) (h : ℕ) (us : List Update)
    → any (conflicts r h) us ≡ cond (strong r) (any (in_history h) us) (any (strong_in h) us)
conflict_rule Inc h us = ap (λ (p : Update → Bool). any p us) (fun_ext (λ w. and-true (eqb w.history h)))
conflict_rule Set h us = ap (λ (p : Update → Bool). any p us) (fun_ext (λ w. and-true (eqb w.history h)))
conflict_rule Not h us = refl
conflict_rule Unk h us = ap (λ (p : Update → Bool). any p us) (fun_ext (λ w. and-true (eqb w.history h)))

-- One look at the marks answers whether an update is blocked.
pub free_is : (m : Marks) (xs : List Operation) (u : Update) → MarksOf m (gather held xs) → u.history < history_limit
    → free_by m u ≡ not (blocked xs u)
unfolding free_by
free_is m xs u a l = ap not (go (strong u.rule) ∙ sym (blocked-all u xs ∙ conflict_rule u.rule u.history (gather held xs)))
  where
    go : (b : Bool) → cond b (get_or m.any u.history false) (get_or m.strong u.history false)
        ≡ cond b (any (in_history u.history) (gather held xs)) (any (strong_in u.history) (gather held xs))
    go true = a.each.each u.history l
    go false = a.strongs.each u.history l
