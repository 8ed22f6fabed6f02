-- Laws of reading: what a step made of steps tells of them, and fields, lists of items and forms, written and read.
use Prim.Native.Nat.{ℕ, zero, suc, ◌≤◌, ◌<◌}
use Rattle.std.specs.Prelude.{◌≡◌, Bool, true, false, cond, ◌⊎◌, length, leb}
use Rattle.std.proofs.Math.Path.{refl, ap, sym}
use Rattle.std.proofs.Common.{ap₂, subst, ◌∙◌, inl, inr, le-leb, leb-true}
use mathlib.Core.List.{List, [], ◌∷◌, ◌++◌, append_assoc, append-nil}
use mathlib.Core.List.Memᴰ
use mathlib.Core.List.Memᴰ.{head as here}
use mathlib.Core.List.Memᴰ.{tail as there}
use mathlib.Core.List.{Memᴰ as Mem}
use Rattle.std.proofs.Math.Logic.{⊎_elim}
use native.Mathlib.Omega.{arith}
use Rattle.std.proofs.Math.ListN.{length-append}
use Rattle.forms.specs.Limits.{line_limit}
use Rattle.forms.specs.Decimal.{digits, number, Step, top, first_is_digit}
use Rattle.forms.specs.Decimal.Step.{got, bad}
use Rattle.forms.specs.DecimalLaws.{number-written, number_read}
use Rattle.forms.specs.Words.{bytes, word, word-written, word_read}
use Rattle.forms.specs.Forms.{field_text, items_text, tail_text, list_text, one_text}
use Rattle.forms.specs.Reading.{bind, choose, or_else, at_end, field, items, tail, one, read_whole}
use Rattle.forms.specs.Writable.{Each}

-- ### What a step that is put together of two tells of both

pub never : {A : Type 0} {C : Type 0} {a : A} {l : List ℕ} → bad ≡ got a l → C
never h = let z : ◌≡◌ {A = ℕ} 0 1 = cc in absurd (omega arith)

pub bind_then : {A B C : Type 0} (r : Step A) (f : A → List ℕ → Step B) (b : B) (rest : List ℕ) → bind r f ≡ got b rest
    → ((a : A) (m : List ℕ) → r ≡ got a m → f a m ≡ got b rest → C) → C
bind_then (got a l) f b rest h k = k a l refl h
bind_then bad f b rest h k = never h

pub choose_read : {A : Type 0} (r : Step (Unit {0})) (a : A) (x : Step A) (b : A) (rest : List ℕ) → choose r a x ≡ got b rest
    → ((r ≡ got tt rest) × (a ≡ b)) ⊎ (x ≡ got b rest)
choose_read (got u l) a x b rest h = let q : l ≡ rest = cc in inl (ap (λ (m : List ℕ). got tt m) q, cc)
choose_read bad a x b rest h = inr h

pub or_else_read : {A : Type 0} (r x : Step A) (b : A) (rest : List ℕ) → or_else r x ≡ got b rest → (r ≡ got b rest) ⊎ (x ≡ got b rest)
or_else_read (got a l) x b rest h = inl h
or_else_read bad x b rest h = inr h

pub whole_read : {A : Type 0} (a b : A) (l rest : List ℕ) → at_end a l ≡ got b rest → (a ≡ b) × (l ≡ []) × (rest ≡ [])
whole_read a b [] rest h = (cc, refl, cc)
whole_read a b (c ∷ l) rest h = never h

pub cond_read : {A : Type 0} (t : Bool) (x : Step A) (b : A) (rest : List ℕ) → cond t x bad ≡ got b rest → (t ≡ true) × (x ≡ got b rest)
cond_read true x b rest h = (refl, h)
cond_read false x b rest h = never h

-- ### A field

-- no digit stands before a field
pub spaced : (n : ℕ) (rest : List ℕ) → first_is_digit (field_text n ++ rest) ≡ false
unfolding field_text
spaced n rest = refl

pub field-written : (n : ℕ) (rest : List ℕ) → n ≤ top → first_is_digit rest ≡ false → field (field_text n ++ rest) ≡ got n rest
unfolding field field_text word
field-written n rest h e = number-written n rest h e

pub field_read : (l : List ℕ) (n : ℕ) (rest : List ℕ) → field l ≡ got n rest
    → (l ≡ field_text n ++ rest) × (n ≤ top) × (first_is_digit rest ≡ false)
unfolding field field_text
field_read l n rest h =
    bind_then (word (bytes " ") l) (λ u m. number m) n rest h λ u m e k.
    let w = number_read m n rest k in
    (word_read (bytes " ") l u m e ∙ ap (λ (x : List ℕ). bytes " " ++ x) w.same, w.small, w.ends)

-- ### A list of items, for any item whose printed form and reading belong together

-- the closing bracket of a line
abbrev pub closing : List ℕ → List ℕ
closing rest = bytes ")" ++ rest

-- what is told of an item's text and reading
pub record Item {A : Type 0} (item : List ℕ → Step A) (text : A → List ℕ) (Fit : A → Type 0) : Type 0 where
  pub written : (x : A) (rest : List ℕ) → Fit x → item (text x ++ rest) ≡ got x rest
  pub read : (l : List ℕ) (x : A) (rest : List ℕ) → item l ≡ got x rest → (l ≡ text x ++ rest) × Fit x
  pub opens : (x : A) (rest : List ℕ) → word (bytes ")") (text x ++ rest) ≡ bad
  pub some : (x : A) → 0 < length (text x)

module _ {A : Type 0} (item : List ℕ → Step A) (text : A → List ℕ) (Fit : A → Type 0) (laws : Item item text Fit) where
  pub items-written : (xs : List A) (x : A) (k : ℕ) (vs : List A) (rest : List ℕ) → Fit x → Each Fit xs → length xs < k
      → items item k vs (text x ++ (items_text text xs ++ closing rest)) ≡ got (vs ++ (x ∷ xs)) rest
  unfolding items items_text
  items-written xs x zero vs rest f fs h = absurd (omega arith)
  items-written [] x (suc k) vs rest f fs h = rw (laws.written x (closing rest) f, word-written (bytes ")") rest)
  items-written (y ∷ xs) x (suc k) vs rest f fs h =
      rw (
        laws.written x (text y ++ items_text text xs ++ closing rest) f,
        append_assoc (text y) (items_text text xs) (closing rest),
        laws.opens y (items_text text xs ++ closing rest),
      )
      (items-written xs y k (vs ++ (x ∷ [])) rest (fs y (here refl)) (λ z m. fs z (there m)) (omega arith)
      ∙ ap (λ (z : List A). got z rest) (append_assoc vs (x ∷ []) (y ∷ xs)))

  pub record ItemsRead (l : List ℕ) (vs ws : List A) (rest : List ℕ) : Type 0 where
    pub x : A
    pub xs : List A
    pub all : ws ≡ vs ++ (x ∷ xs)
    pub same : l ≡ text x ++ (items_text text xs ++ closing rest)
    pub fits : Each Fit (x ∷ xs)

  each_cons : (x : A) (xs : List A) → Fit x → Each Fit xs → Each Fit (x ∷ xs)
  each_cons x xs f fs z m = ⊎_elim (λ (e : z ≡ x). subst Fit (sym e) f) (λ (k : Mem z xs). fs z k) (Memᴰ.cases_cons m)

  none : Each Fit []
  none z m = absurd (Memᴰ.not-nil m)

  pub items_read : (k : ℕ) (vs : List A) (l : List ℕ) (ws : List A) (rest : List ℕ) → items item k vs l ≡ got ws rest
      → ItemsRead l vs ws rest
  unfolding items items_text
  items_read zero vs l ws rest e = never e
  items_read (suc k) vs l ws rest e =
      bind_then (item l) _ ws rest e λ x m e₁ k₁.
      let w = laws.read l x m e₁ in
      ⊎_elim
      (λ p. record {
        x = x;
        xs = [];
        all = sym p.1;
        same = w.0 ∙ ap (λ (z : List ℕ). text x ++ z) (word_read (bytes ")") m tt rest p.0);
        fits = each_cons x [] w.1 none;
      })
      (λ h.
      let i = items_read k (vs ++ (x ∷ [])) m ws rest h in
      record {
        x = x;
        xs = i.x ∷ i.xs;
        all = i.all ∙ append_assoc vs (x ∷ []) (i.x ∷ i.xs);
        same = w.0 ∙ ap (λ (z : List ℕ). text x ++ z) (i.same ∙ sym (append_assoc (text i.x) (items_text text i.xs) (closing rest)));
        fits = each_cons x (i.x ∷ i.xs) w.1 i.fits;
      })
      (choose_read (word (bytes ")") m) (vs ++ (x ∷ [])) (items item k (vs ++ (x ∷ [])) m) ws rest k₁)

  -- ### What follows an id

  enough : (xs : List A) (z : List ℕ) → length xs ≤ length (items_text text xs ++ z)
  unfolding items_text
  enough [] z = omega arith
  enough (x ∷ xs) z =
      rw (append_assoc (text x) (items_text text xs) z, length-append)
      (let a = laws.some x in let b = enough xs z in omega arith)

  tail_text_lem : (x : A) (xs : List A) (rest : List ℕ) → tail_text text (x ∷ xs) ++ rest ≡ 32 ∷ (text x ++ (items_text text xs ++ closing rest))
  unfolding tail_text
  tail_text_lem x xs rest =
      ap (λ (z : List ℕ). 32 ∷ z)
      (append_assoc (text x) (items_text text xs ++ bytes ")") rest
      ∙ ap (λ (z : List ℕ). text x ++ z) (append_assoc (items_text text xs) (bytes ")") rest))

  pub tail_written : (xs : List A) (rest : List ℕ) → Each Fit xs → tail item (tail_text text xs ++ rest) ≡ got xs rest
  unfolding tail word
  tail_written [] rest fs = unfold tail_text in refl
  tail_written (x ∷ xs) rest fs =
      rw (tail_text_lem x xs rest)
      (items-written xs x (length (text x ++ (items_text text xs ++ closing rest))) [] rest (fs x (here refl)) (λ z m. fs z (there m))
      (rw length-append (let a = laws.some x in let b = enough xs (closing rest) in omega arith)))

  pub tail_read : (l : List ℕ) (xs : List A) (rest : List ℕ) → tail item l ≡ got xs rest → (l ≡ tail_text text xs ++ rest) × Each Fit xs
  unfolding tail
  tail_read l xs rest e =
      ⊎_elim
      (λ (p : (word (bytes ")") l ≡ got tt rest) × ([] ≡ xs)). rw (sym p.1)
      (unfold tail_text in (word_read (bytes ")") l tt rest p.0, none)))
      (λ (h : bind (word (bytes " ") l) (λ u m. items item (length m) [] m) ≡ got xs rest).
      bind_then (word (bytes " ") l) _ xs rest h λ t m e₁ k₁.
      let i = items_read (length m) [] m xs rest k₁ in
      rw i.all (word_read (bytes " ") l t m e₁ ∙ ap (λ (z : List ℕ). 32 ∷ z) i.same ∙ sym (tail_text_lem i.x i.xs rest), i.fits))
      (choose_read (word (bytes ")") l) [] (bind (word (bytes " ") l) λ u m. items item (length m) [] m) xs rest e)

  -- ### A form with a word, an id and items

  no_digit : (xs : List A) (z : List ℕ) → first_is_digit (tail_text text xs ++ z) ≡ false
  unfolding tail_text
  no_digit [] z = refl
  no_digit (x ∷ xs) z = refl

  -- what comes after its word
  pub list_text_lem : (w : List ℕ) (i : ℕ) (xs : List A) (rest : List ℕ)
      → list_text text w i xs ++ rest ≡ w ++ (digits i ++ (tail_text text xs ++ rest))
  unfolding list_text
  list_text_lem w i xs rest = simp append_assoc

  pub list_id : (i : ℕ) (xs : List A) (rest : List ℕ) → i ≤ top
      → number (digits i ++ (tail_text text xs ++ rest)) ≡ got i (tail_text text xs ++ rest)
  list_id i xs rest h = number-written i (tail_text text xs ++ rest) h (no_digit xs rest)

  pub list_read : (w l l₁ l₂ l₃ : List ℕ) (i : ℕ) (xs : List A) → word w l ≡ got tt l₁ → number l₁ ≡ got i l₂ → tail item l₂ ≡ got xs l₃
      → (l ≡ list_text text w i xs ++ l₃) × (i ≤ top) × Each Fit xs
  list_read w l l₁ l₂ l₃ i xs e₁ e₂ e₃ =
      let n = number_read l₁ i l₂ e₂ in
      let t = tail_read l₂ xs l₃ e₃ in (
        word_read w l tt l₁ e₁ ∙ ap (λ (z : List ℕ). w ++ z) (n.same ∙ ap (λ (z : List ℕ). digits i ++ z) t.0)
            ∙ sym (list_text_lem w i xs l₃),
        n.small,
        t.1,
      )

-- ### A form with a word and a number

pub one_text_lem : (w : List ℕ) (n : ℕ) (rest : List ℕ) → one_text w n ++ rest ≡ w ++ (digits n ++ closing rest)
unfolding one_text
one_text_lem w n rest = simp append_assoc

pub one_written : (w : List ℕ) (n : ℕ) (rest : List ℕ) → n ≤ top → one w (one_text w n ++ rest) ≡ got n rest
unfolding one
one_written w n rest h =
    rw (one_text_lem w n rest, word-written w (digits n ++ closing rest), number-written n (closing rest) h refl, word-written (bytes ")") rest)

pub one_read : (w l : List ℕ) (n : ℕ) (rest : List ℕ) → one w l ≡ got n rest → (l ≡ one_text w n ++ rest) × (n ≤ top)
unfolding one
one_read w l n rest e =
    bind_then (word w l) _ n rest e λ t l₁ e₁ k₁.
    bind_then (number l₁) _ n rest k₁ λ m l₂ e₂ k₂.
    bind_then (word (bytes ")") l₂) _ n rest k₂ λ v l₃ e₃ k₃.
    let d = number_read l₁ m l₂ e₂ in
    let p : m ≡ n = cc in
    let q : l₃ ≡ rest = cc in
    let f = d.small in (
      word_read w l t l₁ e₁
          ∙ ap (λ (z : List ℕ). w ++ z) (d.same ∙ ap (λ (z : List ℕ). digits m ++ z) (word_read (bytes ")") l₂ v l₃ e₃))
          ∙ ap₂ (λ (k : ℕ) (z : List ℕ). w ++ (digits k ++ closing z)) p q
          ∙ sym (one_text_lem w n rest),
      omega arith,
    )

-- ### Whole lines

pub read_whole-written : {A : Type 0} (f : List ℕ → Step A) (a : A) (l : List ℕ) → f (l ++ []) ≡ got a [] → length l ≤ line_limit
    → read_whole f l ≡ got a []
unfolding read_whole
read_whole-written f a l e h =
    let z : f l ≡ got a [] = ap f (sym (append-nil l)) ∙ e in
    rw (le-leb (length l) line_limit h, z)

pub read_whole_read : {A : Type 0} (f : List ℕ → Step A) (a : A) (l rest : List ℕ) → read_whole f l ≡ got a rest
    → (f l ≡ got a []) × (rest ≡ []) × (length l ≤ line_limit)
unfolding read_whole
read_whole_read f a l rest e =
    let c = cond_read (leb (length l) line_limit) (bind (f l) at_end) a rest e in
    bind_then (f l) at_end a rest c.1 λ x m e₁ k₁.
    let q = whole_read x a m rest k₁ in
    (e₁ ∙ ap₂ got q.0 q.1, q.2, leb-true (length l) line_limit c.0)
