-- Laws of values in words: lists made by index, what stays as it was when words are written, and the histories that stand in words.
use Prim.Native.Nat.{ℕ, zero, suc, ◌+◌, ◌*◌, ◌≤◌, ◌<◌}
use Rattle.std.proofs.Common.{arith, subst, ◌∙◌, inl, inr, length-append, ext_get_or, get_or-set_other, drop-set-lt}
use Rattle.std.specs.Prelude.{◌≡◌, ◌⊎◌, Bool, eqb, length, set}
use Rattle.std.proofs.Math.Path.{refl, sym, ap}
use Rattle.std.proofs.Math.Bool.{true, false}
use mathlib.Core.List.{List, [], ◌∷◌, ◌++◌, map, map-append}
use borrow.Author.Tests.{lt-ltb, ltb-true, ltb-false, eqb-true, eqb-false}
use Rattle.std.proofs.Math.Dec.{ltb}
use Rattle.std.proofs.Math.ListN.{get_or, length-set, get_or-append}
use Rattle.std.proofs.lemmas.List.{length-map}
use Rattle.std.proofs.Math.Seq.{get_or_at, get_or-set_same}
use Rattle.forms.specs.Lists.{below}
use Rattle.forms.specs.Limits.{history_limit}
use Rattle.history.specs.declared.History.{History}
use Rattle.history.specs.Entries.{no_history}
use Rattle.history.specs.Words.{within, UnchangedOutside, width, book_length, history_from, histories_in, column_from, PastKept}
use Rattle.history.specs.Words.{MarksKept, PutHistory, PutColumn, PutFirst}

-- a number below the limit
pub within_of : (limit n : ℕ) → n < limit → within limit n ≡ n
unfolding within
within_of limit n h = rw (lt-ltb n limit h)

-- ### Lists made by index

pub below_long : (n : ℕ) → length (below n) ≡ n
unfolding below
below_long zero = refl
below_long (suc n) = let e = below_long n in omega (arith, length-append (below n) (n ∷ []))

module _ {A : Type 0} (f : ℕ → A) where
  pub made_long : (n : ℕ) → length (map f (below n)) ≡ n
  made_long n = length-map (below n) f ∙ below_long n

  -- the element at an index is made of that index
  pub made_at : (n i : ℕ) (d : A) → i < n → get_or (map f (below n)) i d ≡ f i
  unfolding below
  made_at zero i d h = absurd (let z : suc i ≤ 0 = h in omega arith)
  made_at (suc n) i d h =
      ap (λ (l : List A). get_or l i d) (map-append f (below n) (n ∷ [])) ∙ go (ltb i n) refl (λ g. made_at n i d g)
    where
      go : (b : Bool) → ltb i n ≡ b → (i < n → get_or (map f (below n)) i d ≡ f i) → get_or (map f (below n) ++ (f n ∷ [])) i d ≡ f i
      go true e more =
          get_or-append (map f (below n)) (f n ∷ []) d i (omega (arith, ltb-true i n e, made_long n)) ∙ more (ltb-true i n e)
      go false e more =
          let q : i ≡ n = omega (arith, ltb-false i n e) in
          get_or_at (map f (below n)) (f n) [] d i (made_long n ∙ sym q) ∙ ap f (sym q)

-- A list made by index is one that has these elements.
pub made_is : {A : Type 0} (f : ℕ → A) (n : ℕ) (d : A) (l : List A) → length l ≡ n → ((i : ℕ) → i < n → f i ≡ get_or l i d) →
    map f (below n) ≡ l
made_is f n d l long same =
    ext_get_or d (map f (below n)) l (made_long f n ∙ sym long)
    (λ i h. let k : i < n = omega (arith, made_long f n) in made_at f n i d k ∙ same i k)

-- A list made by index after a store: the element stored, and the others as they were.
pub made-set : {A : Type 0} (f g : ℕ → A) (n i : ℕ) (a d : A) → i < n → f i ≡ a → ((j : ℕ) → j < n → (j ≡ i → ⊥) → f j ≡ g j)
    → map f (below n) ≡ set (map g (below n)) i a
made-set {A} f g n i a d h same other =
    made_is f n d (set (map g (below n)) i a) (length-set (map g (below n)) i a ∙ made_long g n) (λ j k. go j k (eqb j i) refl)
  where
    go : (j : ℕ) → j < n → (b : Bool) → eqb j i ≡ b → f j ≡ get_or (set (map g (below n)) i a) j d
    go j k true e =
        ap f (eqb-true j i e)
        ∙ same
        ∙ sym (get_or-set_same (map g (below n)) i a d (omega (arith, made_long g n)))
        ∙ ap (λ (m : ℕ). get_or (set (map g (below n)) i a) m d) (sym (eqb-true j i e))
    go j k false e =
        other j k (eqb-false j i e)
        ∙ sym (made_at g n j d k)
        ∙ sym (get_or-set_other (map g (below n)) i j a d (eqb-false j i e))

-- an element that is there is the same for every default
pub get_d_any : {A : Type 0} (l : List A) (k : ℕ) (a b : A) → k < length l → get_or l k a ≡ get_or l k b
get_d_any [] k a b h = absurd (let z : suc k ≤ 0 = h in omega arith)
get_d_any (x ∷ l) zero a b h = refl
get_d_any (x ∷ l) (suc k) a b h = get_d_any l k a b (omega arith)

-- ### What stays as it was

-- the words from `at` to `at + n` are the same
abbrev pub Same : ℕ → ℕ → List ℕ → List ℕ → Type 0
Same at n old new = (k : ℕ) → at ≤ k → k < at + n → get_or new k 0 ≡ get_or old k 0

-- n words that do not meet those that changed
pub kept_same : (at n : ℕ) {a w : ℕ} {old new : List ℕ} → UnchangedOutside a w old new → (at + n ≤ a) ⊎ (a + w ≤ at) → Same at n old new
kept_same at n q (inl h) k l m = q.before k (omega arith)
kept_same at n q (inr h) k l m = q.behind k (omega arith)

pub kept_wide : (at n : ℕ) {a w : ℕ} {old new : List ℕ} → UnchangedOutside a w old new → at ≤ a → a + w ≤ at + n →
    UnchangedOutside at n old new
kept_wide at n q h g = record { before = λ k l. q.before k (omega arith); behind = λ k l. q.behind k (omega arith) }

pub kept_then : {at n : ℕ} {x y z : List ℕ} → UnchangedOutside at n x y → UnchangedOutside at n y z → UnchangedOutside at n x z
kept_then q r = record { before = λ k l. r.before k l ∙ q.before k l; behind = λ k l. r.behind k l ∙ q.behind k l }

pub kept_set : (ws : List ℕ) (at v : ℕ) → UnchangedOutside at 1 ws (set ws at v)
kept_set ws at v =
    record {
      before = λ k l. get_or-set_other ws at k v 0 (λ e. omega (arith, e));
      behind = λ k l. get_or-set_other ws at k v 0 (λ e. omega (arith, e));
    }

-- Words stored one after the other: of the first n places, each has the word that f gives.
abbrev pub Filled : (ℕ → ℕ) → (ℕ → ℕ) → ℕ → List ℕ → Type 0
Filled place f n ws = (k : ℕ) → k < n → get_or ws (place k) 0 ≡ f k

pub filled_next : (place f : ℕ → ℕ) (n : ℕ) (ws : List ℕ) → ((k : ℕ) → k < n → place k < place n) → place n < length ws →
    Filled place f n ws
    → Filled place f (n + 1) (set ws (place n) (f n))
filled_next place f n ws rises room so k h = go (ltb k n) refl
  where
    go : (b : Bool) → ltb k n ≡ b → get_or (set ws (place n) (f n)) (place k) 0 ≡ f k
    go true e = let l : k < n = ltb-true k n e in (kept_set ws (place n) (f n)).before (place k) (rises k l) ∙ so k l
    go false e =
        let q : k ≡ n = omega (arith, ltb-false k n e) in
        ap (λ (m : ℕ). get_or (set ws (place n) (f n)) (place m) 0) q ∙ get_or-set_same ws (place n) (f n) 0 room ∙ ap f (sym q)

-- ### The histories that stand in words

pub histories_long_lem : (ws : List ℕ) → length (histories_in ws) ≡ history_limit
unfolding histories_in
histories_long_lem ws = made_long (history_from ws) history_limit

pub history_in_lem : (ws : List ℕ) (i : ℕ) → i < history_limit → get_or (histories_in ws) i no_history ≡ history_from ws i
unfolding histories_in
history_in_lem ws i h = made_at (history_from ws) history_limit i no_history h

-- a history, read field by field
pub history_read : (ws : List ℕ) (i : ℕ)
    → record {
      profile = get_or ws (width * i) 0;
      version = record { 0 = get_or ws (width * i + 1) 0 };
      place = record { 0 = get_or ws (width * i + 2) 0 };
    } ≡ history_from ws i
unfolding history_from
history_read ws i = refl

-- the first three numbers of history i are the same
pub history-same : (old new : List ℕ) (i : ℕ) → ((f : ℕ) → f < 3 → get_or new (width * i + f) 0 ≡ get_or old (width * i + f) 0) →
    history_from new i ≡ history_from old i
unfolding history_from
history-same old new i s =
    let first : width * i + 0 ≡ width * i = omega arith in
    let profile : get_or new (width * i) 0 ≡ get_or old (width * i) 0 =
    subst (λ (k : ℕ). get_or new k 0 ≡ get_or old k 0) first (s 0 (omega arith)) in
    rw (profile, s 1 (omega arith), s 2 (omega arith))

-- .. of each history
pub histories_same : (old new : List ℕ) → ((i f : ℕ) → i < history_limit → f < 3 → get_or new (width * i + f) 0 ≡ get_or old (width * i + f) 0) →
    histories_in new ≡ histories_in old
unfolding histories_in
histories_same old new s =
    made_is (history_from new) history_limit no_history (map (history_from old) (below history_limit)) (made_long (history_from old) history_limit)
    (λ i h. history-same old new i (λ f l. s i f h l) ∙ sym (made_at (history_from old) history_limit i no_history h))

-- ### Columns

pub column_long : (f : ℕ) (ws : List ℕ) → length (column_from f ws) ≡ history_limit
unfolding column_from
column_long f ws = made_long (λ (i : ℕ). get_or ws (width * i + f) 0) history_limit

pub column_in : (f : ℕ) (ws : List ℕ) (i : ℕ) → i < history_limit → get_or (column_from f ws) i 0 ≡ get_or ws (width * i + f) 0
unfolding column_from
column_in f ws i h = made_at (λ (i : ℕ). get_or ws (width * i + f) 0) history_limit i 0 h

-- A column is one that has these numbers.
pub column_is : (f : ℕ) (ws l : List ℕ) → length l ≡ history_limit → ((i : ℕ) → i < history_limit → get_or ws (width * i + f) 0 ≡ get_or l i 0) →
    column_from f ws ≡ l
unfolding column_from
column_is f ws l long same = made_is (λ (i : ℕ). get_or ws (width * i + f) 0) history_limit 0 l long same

-- words that agree there have the same column
pub column_same : (f : ℕ) (old new : List ℕ) → ((i : ℕ) → i < history_limit → get_or new (width * i + f) 0 ≡ get_or old (width * i + f) 0) →
    column_from f new ≡ column_from f old
column_same f old new s = column_is f new (column_from f old) (column_long f old) (λ i h. s i h ∙ sym (column_in f old i h))

-- the versions of the histories are a column
pub column_versions : (ws : List ℕ) (i : ℕ) → i < history_limit → get_or (column_from 1 ws) i 0 ≡ (get_or (histories_in ws) i no_history).version.0
unfolding history_from
column_versions ws i h = column_in 1 ws i h ∙ sym (ap (λ (x : History). x.version.0) (history_in_lem ws i h))

-- ### Stores

pub marks_same : (ws : List ℕ) → MarksKept ws ws
marks_same ws = record { persisted = refl; stabilised = refl; busy = refl }

pub marks_then : {x y z : List ℕ} → MarksKept x y → MarksKept y z → MarksKept x z
marks_then a b = record { persisted = b.persisted ∙ a.persisted; stabilised = b.stabilised ∙ a.stabilised; busy = b.busy ∙ a.busy }

-- a store into a word of the first n histories
pub past_set : (n : ℕ) (old ws : List ℕ) (k v : ℕ) → k < width * n → PastKept n old ws → PastKept n old (set ws k v)
past_set n old ws k v h e = drop-set-lt (width * n) ws k v h ∙ e

-- The three stores of a history.
module _ (ws : List ℕ) (i : ℕ) (h : History) (low : i < history_limit) (long : length ws ≡ book_length) where
  abbrev first : List ℕ
  first = set ws (width * i) h.profile

  abbrev second : List ℕ
  second = set first (width * i + 1) h.version.0

  abbrev third : List ℕ
  third = set second (width * i + 2) h.place.0

  others : (k : ℕ) → (k ≡ width * i → ⊥) → (k ≡ width * i + 1 → ⊥) → (k ≡ width * i + 2 → ⊥) → get_or third k 0 ≡ get_or ws k 0
  others k a b c =
      get_or-set_other second (width * i + 2) k h.place.0 0 c
      ∙ get_or-set_other first (width * i + 1) k h.version.0 0 b
      ∙ get_or-set_other ws (width * i) k h.profile 0 a

  -- the numbers of another history, and the marks of any
  elsewhere : (j f : ℕ) → f < width → ((j ≡ i → ⊥) ⊎ (3 ≤ f)) → get_or third (width * j + f) 0 ≡ get_or ws (width * j + f) 0
  elsewhere j f l (inl ne) =
      others (width * j + f) (λ (e : width * j + f ≡ width * i). ne (omega (arith, e, l)))
      (λ (e : width * j + f ≡ width * i + 1). ne (omega (arith, e, l))) (λ (e : width * j + f ≡ width * i + 2). ne (omega (arith, e, l)))
  elsewhere j f l (inr m) =
      others (width * j + f) (λ (e : width * j + f ≡ width * i). omega (arith, e, l, m))
      (λ (e : width * j + f ≡ width * i + 1). omega (arith, e, l, m)) (λ (e : width * j + f ≡ width * i + 2). omega (arith, e, l, m))

  written : history_from third i ≡ h
  unfolding history_from
  written =
      let profile : get_or third (width * i) 0 ≡ h.profile =
      (kept_set second (width * i + 2) h.place.0).before (width * i) (omega arith)
      ∙ (kept_set first (width * i + 1) h.version.0).before (width * i) (omega arith)
      ∙ get_or-set_same ws (width * i) h.profile 0 (omega (arith, long)) in
      let version : get_or third (width * i + 1) 0 ≡ h.version.0 =
      (kept_set second (width * i + 2) h.place.0).before (width * i + 1) (omega arith)
      ∙ get_or-set_same first (width * i + 1) h.version.0 0 (omega (arith, long, length-set ws (width * i) h.profile)) in
      let place : get_or third (width * i + 2) 0 ≡ h.place.0 =
      get_or-set_same second (width * i + 2) h.place.0 0
      (omega (arith, long, length-set ws (width * i) h.profile, length-set first (width * i + 1) h.version.0)) in
      λ t. record {
        profile = profile t;
        version = record { 0 = version t };
        place = record { 0 = place t };
      }

  pub history-put : PutHistory i h ws third
  unfolding histories_in
  history-put =
      record {
        histories =
            made-set (history_from third) (history_from ws) history_limit i h no_history low written
            (λ j lt ne. history-same ws third j (λ f l. elsewhere j f (omega arith) (inl ne)));
        marks =
            record {
              persisted = column_same 3 ws third (λ j l. elsewhere j 3 (omega arith) (inr (omega arith)));
              stabilised = column_same 4 ws third (λ j l. elsewhere j 4 (omega arith) (inr (omega arith)));
              busy = column_same 5 ws third (λ j l. elsewhere j 5 (omega arith) (inr (omega arith)));
            };
        past =
            λ n l.
            past_set n ws second (width * i + 2) h.place.0 (omega (arith, l))
            (past_set n ws first (width * i + 1) h.version.0 (omega (arith, l))
            (past_set n ws ws (width * i) h.profile (omega (arith, l)) refl));
      }

-- A column stored number after number: the first m are those of the row, and nothing else has changed.
pub record Stored (f m : ℕ) (row old ws : List ℕ) : Type 0 where
  pub long : length ws ≡ book_length
  pub done : (h : ℕ) → h < m → get_or ws (width * h + f) 0 ≡ get_or row h 0
  pub rest : (g h : ℕ) → g < width → (g ≡ f → ⊥) → get_or ws (width * h + g) 0 ≡ get_or old (width * h + g) 0
  pub past : (n : ℕ) → m ≤ n → PastKept n old ws

pub stored_none : (f : ℕ) (row ws : List ℕ) → length ws ≡ book_length → Stored f 0 row ws ws
stored_none f row ws long =
    record { long = long; done = λ h l. absurd (let z : h < 0 = l in omega arith); rest = λ g h l ne. refl; past = λ n l. refl }

pub stored_next : (f m : ℕ) (row old ws : List ℕ) → f < width → m < history_limit → Stored f m row old ws →
    Stored f (m + 1) row old (set ws (width * m + f) (get_or row m 0))
stored_next f m row old ws few low s =
    record {
      long = length-set ws (width * m + f) (get_or row m 0) ∙ s.long;
      done =
          filled_next (λ (h : ℕ). width * h + f) (λ (h : ℕ). get_or row h 0) m ws (λ h l. omega (arith, l))
          (omega (arith, few, low, s.long)) s.done;
      rest =
          λ g h l ne.
          get_or-set_other ws (width * m + f) (width * h + g) (get_or row m 0) 0
          (λ (e : width * h + g ≡ width * m + f). ne (omega (arith, e, l, few)))
          ∙ s.rest g h l ne;
      past = λ n l. past_set n old ws (width * m + f) (get_or row m 0) (omega (arith, l, few)) (s.past n (omega (arith, l)));
    }

pub stored-all : (f n : ℕ) (row old ws : List ℕ) → f < width → n ≤ history_limit → Stored f n row old ws → PutColumn f n row old ws
stored-all f n row old ws few le s =
    record {
      numbers = λ h l. column_in f ws h (omega (arith, l)) ∙ s.done h l;
      others = λ g l ne. column_same g old ws (λ i m. s.rest g i l ne);
      histories = λ m. histories_same old ws (λ i g _ l. s.rest g i (omega (arith, l)) (λ (e : g ≡ f). omega (arith, e, l, m)));
      past = s.past n (omega arith);
    }

-- ### Histories that are cleared or copied

-- the first histories have the numbers stored there
pub first-history : (n : ℕ) (f : ℕ → ℕ) (old new from : List ℕ) → PutFirst n f old new → ((k : ℕ) → f k ≡ get_or from k 0)
    → (i : ℕ) → i < n → history_from new i ≡ history_from from i
first-history n f old new from p same i l =
    history-same from new i (λ g m. p.words (width * i + g) (omega (arith, l, m)) ∙ same (width * i + g))

pub first_column : (n : ℕ) (f : ℕ → ℕ) (old new : List ℕ) → PutFirst n f old new → (g i : ℕ) → g < width → i < n → n ≤ history_limit →
    get_or (column_from g new) i 0 ≡ f (width * i + g)
first_column n f old new p g i l h le = column_in g new i (omega arith) ∙ p.words (width * i + g) (omega (arith, h, l))

-- a cleared history
pub cleared_history : (n : ℕ) (old new : List ℕ) → PutFirst n (λ (k : ℕ). 0) old new → (i : ℕ) → i < n → n ≤ history_limit →
    get_or (histories_in new) i no_history ≡ no_history
unfolding history_from
cleared_history n old new p i l le =
    history_in_lem new i (omega arith) ∙ first-history n (λ (k : ℕ). 0) old new [] p (λ k. refl) i l
