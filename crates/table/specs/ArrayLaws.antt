-- Laws of the arrays with one element for each history: a store, and what stores add up to.
use Rattle.std.specs.Prelude.{ℕ, ◌+◌, ◌<◌, ◌≡◌, refl, Bool, true, false, cond, ◌&&◌, ◌||◌, List, eqb, length, get_or, set, take, replicate}
use Rattle.std.proofs.Common.{arith, sym, ap, ◌∙◌, eqb-true, length-set, get_or-set_same, get_or-set_other}
use Rattle.std.proofs.Math.Bool.{or-false, or_assoc}
use Rattle.std.proofs.lemmas.Bool.{eqb-false}
use Rattle.std.proofs.lemmas.List.{get_or-replicate}
use Rattle.forms.specs.Lists.{any}
use Rattle.forms.specs.Limits.{history_limit}
use Rattle.table.specs.Arrays.{Tabulates}
use Rattle.table.specs.LoopLaws.{any-more, take_none}

module _ {A : Type 0} (d : A) where
  pub says_like : (t : List A) (f g : ℕ → A) → Tabulates d t f → ((h : ℕ) → h < history_limit → f h ≡ g h) → Tabulates d t g
  says_like t f g s e = record { long = s.long; each = λ h l. s.each h l ∙ e h l }

  pub says_store : (t : List A) (f : ℕ → A) (at : ℕ) (x : A) → Tabulates d t f → at < history_limit
      → Tabulates d (set t at x) (λ (h : ℕ). cond (eqb at h) x (f h))
  says_store t f at x s lt = record { long = length-set t at x ∙ s.long; each = λ h l. go h l (eqb at h) refl }
    where
      go : (h : ℕ) → h < history_limit → (b : Bool) → eqb at h ≡ b → get_or (set t at x) h d ≡ cond (eqb at h) x (f h)
      go h l true e =
          ap (λ (k : ℕ). get_or (set t at x) k d) (sym (eqb-true at h e))
          ∙ get_or-set_same t at x d (omega (arith, s.long))
          ∙ ap (λ (b : Bool). cond b x (f h)) (sym e)
      go h l false e =
          get_or-set_other t at h x d (λ q. eqb-false at h e (sym q)) ∙ s.each h l ∙ ap (λ (b : Bool). cond b x (f h)) (sym e)

pub says_nothing : Tabulates false (replicate history_limit false) (λ (h : ℕ). false)
says_nothing = record { long = refl; each = λ h l. get_or-replicate history_limit h false false l }

-- the marks as they are before the first element
pub says-start : {A : Type 0} (t : List Bool) (p : ℕ → A → Bool) (l : List A) → length t ≡ history_limit
    → Tabulates false t (λ (h : ℕ). get_or t h false || any (p h) (take 0 l))
says-start t p l n =
    record {
      long = n;
      each = λ h k. sym
          (ap (λ (x : List _). get_or t h false || any (p h) x) (take_none 0 l refl) ∙ or-false (get_or t h false));
    }

-- a mark raised by b
pub says-mark : (t : List Bool) (f : ℕ → Bool) (at : ℕ) (x b : Bool) → Tabulates false t f → at < history_limit → x ≡ (get_or t at false || b)
    → Tabulates false (set t at x) (λ (h : ℕ). f h || (eqb at h && b))
says-mark t f at x b s lt e =
    says_like false (set t at x) _ _ (says_store false t f at x s lt) (λ h k. go h k (eqb at h) refl)
  where
    go : (h : ℕ) → h < history_limit → (c : Bool) → eqb at h ≡ c → cond (eqb at h) x (f h) ≡ (f h || (eqb at h && b))
    go h k true q = rw q (e ∙ ap (λ (y : Bool). y || b) (s.each at lt ∙ ap f (eqb-true at h q)))
    go h k false q = rw q (sym (or-false (f h)))

-- The marks with those of the elements passed so far: one element more.
pub says-next : {A : Type 0} (t t₀ : List Bool) (p : ℕ → A → Bool) (l : List A) (a : A) (i at : ℕ) (x b : Bool) → i < length l →
    at < history_limit
    → x ≡ (get_or t at false || b) → ((h : ℕ) → (eqb at h && b) ≡ p h (get_or l i a))
    → Tabulates false t (λ (h : ℕ). get_or t₀ h false || any (p h) (take i l))
    → Tabulates false (set t at x) (λ (h : ℕ). get_or t₀ h false || any (p h) (take (i + 1) l))
says-next t t₀ p l a i at x b n lt q e s =
    says_like false (set t at x) _ _ (says-mark t _ at x b s lt q)
    (λ h k. or_assoc (get_or t₀ h false) (any (p h) (take i l)) (eqb at h && b)
    ∙ ap (λ (y : Bool). get_or t₀ h false || (any (p h) (take i l) || y)) (e h)
    ∙ ap (λ (y : Bool). get_or t₀ h false || y) (sym (any-more (p h) l a i n)))
