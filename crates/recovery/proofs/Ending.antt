-- What has run, what waits and what the book holds, where no waiting line can run and each chosen line has come.
use Rattle.std.specs.Prelude.{◌≡◌, ◌⊎◌, ◌↔◌, Bool, true, false, cond, ◌&&◌, ℕ, T}
use Rattle.std.proofs.Math.Path.{refl, sym}
use Rattle.std.proofs.Common.{ap, ◌∙◌, subst, inl, inr, T_not, eqb→eq}
use Rattle.std.proofs.Math.Bool.{not}
use mathlib.Core.List.{List, [], ◌∷◌, ◌++◌, append_assoc, append-nil, append_cancel_left}
use mathlib.Core.List.Memᴰ
use mathlib.Core.List.Memᴰ.{head as here}
use mathlib.Core.List.Memᴰ.{tail as there}
use mathlib.Core.List.{Memᴰ as Mem}
use Rattle.std.proofs.Math.Dec.{not_T, eqb_refl}
use Rattle.forms.specs.Lists.{any, keep}
use Rattle.forms.specs.ListLaws.{Prefix, mid, mem_split, mem-at, mem_along, mem_snoc, Nodup, nodup_right, nodup_apart, nodup_keep, true_T}
use Rattle.forms.specs.ListLaws.{false_T, and_intro, and_left, and_right, any_at, any_of, mem-keep, mem_of_keep}
use Rattle.forms.specs.Forms.{Base, Change, Did}
use Rattle.rules.specs.Book.{cell, can_run, touches}
use Rattle.rule_laws.specs.BookLaws.{proj, touches_of, touches_at, cell_same, proj-append}
use Rattle.recovery.specs.Claim.{beside, shares, Traced, direct, further, Closed, Just, none, with, without}
use Rattle.recovery.proofs.Invariant.{Setting, nodup_first, not-kept, Inv, can_run-next, before-ran}

-- ### A shared history

pub shares_of : (h : ℕ) (d e : Did) → T (touches h e) → T (touches h d) → T (shares d e)
unfolding shares beside
shares_of h d e te td = go (touches_at h d td) (touches_at h e te)
  where
    go : (x : Change) × Mem x d.changes × (x.history ≡ h) → (y : Change) × Mem y e.changes × (y.history ≡ h) → T (shares d e)
    go (x, m, p) (y, k, q) = any_of (λ z. any (beside z) e.changes) m (any_of (beside x) k (rw (p ∙ sym q) (eqb_refl y.history)))

pub shares_at : (d e : Did) → T (shares d e) → (h : ℕ) × T (touches h e) × T (touches h d)
unfolding shares beside
shares_at d e t = go (any_at (λ x. any (beside x) e.changes) d.changes t)
  where
    found : (x : Change) → Mem x d.changes → (y : Change) × Mem y e.changes × T (beside x y) →
        (h : ℕ) × T (touches h e) × T (touches h d)
    found x m (y, k, s) =
        (x.history, subst (λ (h : ℕ). T (touches h e)) (sym (eqb→eq x.history y.history s)) (touches_of e k), touches_of d m)

    go : (x : Change) × Mem x d.changes × T (any (beside x) e.changes) → (h : ℕ) × T (touches h e) × T (touches h d)
    go (x, m, s) = found x m (any_at (beside x) e.changes s)

-- ### Traced lines

traced_lost : {L : List Did} {d e : Did} → Traced L d e → Mem e L
traced_lost (direct a e b d c p t) = mem_along (sym p) (Memᴰ.append_left (d ∷ c) (mem-at e a b))
traced_lost (further t s) = traced_lost s

closed-back : (L : List Did) (chosen : Did → Bool) (d e : Did) → Closed L chosen d → Traced L d e → Closed L chosen e
closed-back L chosen d e r t = record { itself = r.traced e t; traced = λ f s. r.traced f (further t s) }

pub closed-every : (L : List Did) (chosen : Did → Bool) → ((d : Did) → Mem d L → T (chosen d)) → (d : Did) → Mem d L → Closed L chosen d
closed-every L chosen every d m = record { itself = every d m; traced = λ e t. every e (traced_lost t) }

-- ### Just the lines of which P holds

module _ {P : Did → Type 0} where
  just_cons : {d : Did} {l k : List Did} → Just P (d ∷ l) k →
      ((k' : List Did) × (k ≡ d ∷ k') × P d × Just P l k') ⊎ ((P d → ⊥) × Just P l k)
  just_cons (with {k = k'} p J) = inl (k', refl, p, J)
  just_cons (without q J) = inr (q, J)

  just_nothing : {r k : List Did} → Just P r k → ((d : Did) → Mem d r → P d → ⊥) → k ≡ []
  just_nothing none out = refl
  just_nothing (with {d} p J) out = absurd (out d (here refl) p)
  just_nothing (without q J) out = just_nothing J (λ d m. out d (there m))

  -- P holds of a first part of the list, and of no line behind it
  just_prefix : (y r k : List Did) → Just P (y ++ r) k → ((d : Did) → Mem d y → P d) → ((d : Did) → Mem d r → P d → ⊥) → k ≡ y
  just_prefix [] r k J into out = just_nothing J out
  just_prefix (x ∷ y) r k J into out = go (just_cons J) (λ k' J'. just_prefix y r k' J' (λ d m. into d (there m)) out)
    where
      go : ((k' : List Did) × (k ≡ x ∷ k') × P x × Just P (y ++ r) k') ⊎ ((P x → ⊥) × Just P (y ++ r) k) →
          ((k' : List Did) → Just P (y ++ r) k' → k' ≡ y) → k ≡ x ∷ y
      go (inl (k', e, p, J')) below = e ∙ ap {B = List Did} (λ z. x ∷ z) (below k' J')
      go (inr (q, J')) below = absurd (q (into x (here refl)))

  just_keep : (f : Did → Bool) {l k : List Did} → Just P l k → Just P (keep f l) (keep f k)
  just_keep f none = none
  just_keep f (with {d} {l} {k} p J) = go (f d) (just_keep f J)
    where
      go : (b : Bool) → Just P (keep f l) (keep f k) → Just P (cond b (d ∷ keep f l) (keep f l)) (cond b (d ∷ keep f k) (keep f k))
      go true H = with p H
      go false H = H
  just_keep f (without {d} {l} {k} q J) = go (f d) (just_keep f J)
    where
      go : (b : Bool) → Just P (keep f l) (keep f k) → Just P (cond b (d ∷ keep f l) (keep f l)) (keep f k)
      go true H = without q H
      go false H = H

  pub just_all : (l : List Did) → ((d : Did) → Mem d l → P d) → Just P l l
  just_all [] h = none
  just_all (d ∷ l) h = with (h d (here refl)) (just_all l (λ e m. h e (there m)))

  -- There is one such list only.
  pub just_one : {l k : List Did} → Just P l k → (k' : List Did) → Just P l k' → k ≡ k'
  just_one none k' J = sym (just_nothing J (λ d m. absurd (Memᴰ.not-nil m)))
  just_one (with {d} {l} {k} p H) k' J = go (just_cons J) (λ j I. just_one H j I)
    where
      go : ((j : List Did) × (k' ≡ d ∷ j) × P d × Just P l j) ⊎ ((P d → ⊥) × Just P l k') → ((j : List Did) → Just P l j → k ≡ j) →
          d ∷ k ≡ k'
      go (inl (j, e, q, I)) below = ap {B = List Did} (λ z. d ∷ z) (below j I) ∙ sym e
      go (inr (q, I)) below = absurd (q p)
  just_one (without {d} {l} {k} q H) k' J = go (just_cons J) (λ j I. just_one H j I)
    where
      go : ((j : List Did) × (k' ≡ d ∷ j) × P d × Just P l j) ⊎ ((P d → ⊥) × Just P l k') → ((j : List Did) → Just P l j → k ≡ j) → k ≡ k'
      go (inl (j, e, p, I)) below = absurd (q p)
      go (inr (p, I)) below = below k' I

-- ### The closed lines, computed

-- The chosen lines whose traced lines are all chosen, in order. `bad` has the earlier lines that are not such.
unfoldable pub closed : (Did → Bool) → List Did → List Did → List Did
closed chosen bad [] = []
closed chosen bad (d ∷ l) = cond (chosen d && not (any (shares d) bad)) (d ∷ closed chosen bad l) (closed chosen (d ∷ bad) l)

module _ (L : List Did) (chosen : Did → Bool) (once : Nodup L) where
  traced_closed : {d e : Did} → Traced L d e →
      ((a : List Did) (e : Did) (b c : List Did) → L ≡ a ++ e ∷ b ++ d ∷ c → T (shares d e) → Closed L chosen e) → Closed L chosen e
  traced_closed (direct a e b d c p t) q = q a e b c p t
  traced_closed (further {d} {e} {f} t s) q = closed-back L chosen e f (traced_closed t q) s

  module _
      (A bad : List Did) (d : Did) (B : List Did) (at : L ≡ A ++ d ∷ B)
      (or-bad : (e : Did) → Mem e A → Closed L chosen e ⊎ Mem e bad)
      (is_bad : (e : Did) → Mem e bad → Mem e A × (Closed L chosen e → ⊥)) where
    -- What stood before d stands in A.
    before : (a : List Did) (e : Did) (b c : List Did) → L ≡ a ++ e ∷ b ++ d ∷ c → Mem e A
    before a e b c p = go (mid (a ++ e ∷ b) (d ∷ c) A d B (sym p ∙ at))
      where
        go : ((t : List Did) × (A ≡ (a ++ e ∷ b) ++ t)) ⊎ ((t : List Did) × (a ++ e ∷ b ≡ A ++ d ∷ t)) → Mem e A
        go (inl (t, q)) = mem_along (sym q) (Memᴰ.append_left t (mem-at e a b))
        go (inr (t, q)) = absurd (nodup_apart (a ++ e ∷ b) (subst Nodup p once) (mem_along (sym q) (mem-at d A t)) (here refl))

    test_closed : T (chosen d && not (any (shares d) bad)) → Closed L chosen d
    test_closed t = record { itself = and_left (chosen d) (not (any (shares d) bad)) t; traced = λ e s. (traced_closed s back).itself }
      where
        back : (a : List Did) (e : Did) (b c : List Did) → L ≡ a ++ e ∷ b ++ d ∷ c → T (shares d e) → Closed L chosen e
        back a e b c p s = go (or-bad e (before a e b c p))
          where
            go : Closed L chosen e ⊎ Mem e bad → Closed L chosen e
            go (inl r) = r
            go (inr k) = absurd (T_not (any (shares d) bad) (and_right (chosen d) (not (any (shares d) bad)) t) (any_of (shares d) k s))

    closed_test : Closed L chosen d → T (chosen d && not (any (shares d) bad))
    closed_test r =
        and_intro (chosen d) (not (any (shares d) bad)) r.itself (not_T (any (shares d) bad) (λ t. go (any_at (shares d) bad t)))
      where
        go : (e : Did) × Mem e bad × T (shares d e) → ⊥
        go (e, k, t) =
            let s = mem_split (is_bad e k).0 in
            (is_bad e k).1 (closed-back L chosen d e r (direct s.0 e s.1 d B (at ∙ ap {B = List Did} (λ x. x ++ d ∷ B) s.2) t))

  closed-from : (A bad B : List Did) → L ≡ A ++ B → ((e : Did) → Mem e A → Closed L chosen e ⊎ Mem e bad) →
      ((e : Did) → Mem e bad → Mem e A × (Closed L chosen e → ⊥)) → Just (Closed L chosen) B (closed chosen bad B)
  unfolding closed
  closed-from A bad [] at or-bad is_bad = none
  closed-from A bad (d ∷ B) at or-bad is_bad =
      go (chosen d && not (any (shares d) bad)) refl
      (λ bad' o i. closed-from (A ++ d ∷ []) bad' B (at ∙ sym (append_assoc A (d ∷ []) B)) o i)
    where
      Below : Type 0
      Below =
          (bad' : List Did) → ((e : Did) → Mem e (A ++ d ∷ []) → Closed L chosen e ⊎ Mem e bad') →
          ((e : Did) → Mem e bad' → Mem e (A ++ d ∷ []) × (Closed L chosen e → ⊥)) → Just (Closed L chosen) B (closed chosen bad' B)

      go : (b : Bool) → (chosen d && not (any (shares d) bad)) ≡ b → Below →
          Just (Closed L chosen) (d ∷ B) (cond b (d ∷ closed chosen bad B) (closed chosen (d ∷ bad) B))
      go true e below =
          with r (below bad (λ f k. more f (mem_snoc A k)) (λ f k. (Memᴰ.append_left (d ∷ []) (is_bad f k).0, (is_bad f k).1)))
        where
          r : Closed L chosen d
          r = test_closed A bad d B at or-bad is_bad (true_T (chosen d && not (any (shares d) bad)) e)

          more : (f : Did) → (f ≡ d) ⊎ Mem f A → Closed L chosen f ⊎ Mem f bad
          more f (inl p) = inl (rw p r)
          more f (inr k) = or-bad f k
      go false e below = without q (below (d ∷ bad) (λ f k. more f (mem_snoc A k)) (λ f k. worse f (Memᴰ.cases_cons k)))
        where
          q : Closed L chosen d → ⊥
          q r = false_T (chosen d && not (any (shares d) bad)) e (closed_test A bad d B at or-bad is_bad r)

          old : (f : Did) → Closed L chosen f ⊎ Mem f bad → Closed L chosen f ⊎ Mem f (d ∷ bad)
          old f (inl r) = inl r
          old f (inr k) = inr (there k)

          more : (f : Did) → (f ≡ d) ⊎ Mem f A → Closed L chosen f ⊎ Mem f (d ∷ bad)
          more f (inl p) = inr (here p)
          more f (inr k) = old f (or-bad f k)

          worse : (f : Did) → (f ≡ d) ⊎ Mem f bad → Mem f (A ++ d ∷ []) × (Closed L chosen f → ⊥)
          worse f (inl p) = (Memᴰ.append_right A (here p), λ r. q (rw p at r))
          worse f (inr k) = (Memᴰ.append_left (d ∷ []) (is_bad f k).0, (is_bad f k).1)

  pub closed_just : Just (Closed L chosen) L (closed chosen [] L)
  closed_just = closed-from [] [] L refl (λ e k. absurd (Memᴰ.not-nil k)) (λ e k. absurd (Memᴰ.not-nil k))

-- ### At the end of the list

module _
    {B : Type 0} (σ : Base) (key : Did → B) (K L : List Did) (chosen : Did → Bool) (S : Setting σ key K L chosen)
    (came : List B) (log wait : List Did) (I : Inv σ key K L chosen came log wait) where
  pub in_log : {d : Did} → Mem d I.ran → Mem d log
  in_log k = mem_along (sym I.split) (Memᴰ.append_right K k)

  pub in_ran : (d : Did) → Mem d L → Mem d log → Mem d I.ran
  in_ran d lost k = go (Memᴰ.append_cases K (mem_along I.split k))
    where
      go : Mem d K ⊎ Mem d I.ran → Mem d I.ran
      go (inl q) = absurd (not-kept σ key K L chosen S d lost q)
      go (inr q) = q

  traced_ran : {d e : Did} → Traced L d e → Mem d I.ran → Mem e I.ran
  traced_ran (direct a e b d c p t) k = go (shares_at d e t)
    where
      lost : Mem e L
      lost = mem_along (sym p) (Memᴰ.append_left (d ∷ c) (mem-at e a b))

      at : K ++ L ≡ (K ++ (a ++ e ∷ b)) ++ d ∷ c
      at = ap {B = List Did} (λ x. K ++ x) p ∙ sym (append_assoc K (a ++ e ∷ b) (d ∷ c))

      go : (h : ℕ) × T (touches h e) × T (touches h d) → Mem e I.ran
      go (h, te, td) =
          in_ran e lost
          (before-ran σ key K L chosen S log I.front d (K ++ (a ++ e ∷ b)) c at (in_log k) e h
          (Memᴰ.append_right K (mem-at e a b)) te td)
  traced_ran (further t s) k = traced_ran s (traced_ran t k)

  -- Each line that ran is closed.
  pub ran-closed : (d : Did) → Mem d I.ran → Closed L chosen d
  ran-closed d k = record { itself = (I.ran-chosen d k).1; traced = λ e t. (I.ran-chosen e (traced_ran t k)).1 }

  module _ (quiet : (d : Did) → Mem d wait → T (can_run σ log d) → ⊥)
      (all-came : (d : Did) → Mem d L → T (chosen d) → Mem (key d) came) where
    -- Lost lines A, then d: if the closed lines of A have run, and d is closed, then d has run.
    one-ran : (A : List Did) (d : Did) (C : List Did) → L ≡ A ++ d ∷ C → ((e : Did) → Mem e A → Closed L chosen e → Mem e I.ran) →
        Closed L chosen d → Mem d I.ran
    one-ran A d C e below r = go (I.met d (all-came d lost r.itself) lost r.itself)
      where
        lost : Mem d L
        lost = mem_along (sym e) (mem-at d A C)

        traced : (f : Did) (h : ℕ) → Mem f A → T (touches h f) → T (touches h d) → Traced L d f
        traced f h k tf td =
            let q = mem_split k in direct q.0 f q.1 d C (e ∙ ap {B = List Did} (λ x. x ++ d ∷ C) q.2) (shares_of h d f tf td)

        before : (f : Did) (h : ℕ) → Mem f K ⊎ Mem f A → T (touches h f) → T (touches h d) → Mem f log
        before f h (inl k) tf td = mem_along (sym I.split) (Memᴰ.append_left I.ran k)
        before f h (inr k) tf td = in_log (below f k (closed-back L chosen d f r (traced f h k tf td)))

        at : K ++ L ≡ (K ++ A) ++ d ∷ C
        at = ap {B = List Did} (λ x. K ++ x) e ∙ sym (append_assoc K A (d ∷ C))

        go : Mem d I.ran ⊎ Mem d wait → Mem d I.ran
        go (inl k) = k
        go (inr w) =
            absurd (quiet d w (can_run-next σ key K L chosen S log I.front d (K ++ A) C at (λ k. I.apart d w (in_ran d lost k))
            (λ f h k tf td. before f h (Memᴰ.append_cases K k) tf td)))

    closed-ran-from : (A C : List Did) → L ≡ A ++ C → ((e : Did) → Mem e A → Closed L chosen e → Mem e I.ran) →
        (d : Did) → Mem d L → Closed L chosen d → Mem d I.ran
    closed-ran-from A [] e below d k r = below d (mem_along (e ∙ append-nil A) k) r
    closed-ran-from A (x ∷ C) e below d k r =
        closed-ran-from (A ++ x ∷ []) C (e ∙ sym (append_assoc A (x ∷ []) C)) (λ f q s. one f (mem_snoc A q) s) d k r
      where
        one : (f : Did) → (f ≡ x) ⊎ Mem f A → Closed L chosen f → Mem f I.ran
        one f (inl p) s = Memᴰ.cast p (one-ran A x C e below (rw p at s))
        one f (inr q) s = below f q s

    -- Each closed line has run.
    pub closed-ran : (d : Did) → Mem d L → Closed L chosen d → Mem d I.ran
    closed-ran = closed-ran-from [] L refl (λ e k s. absurd (Memᴰ.not-nil k))

    -- The other chosen lines wait.
    pub others_wait : (d : Did) → Mem d wait ↔ (Mem d L × T (chosen d) × (Mem d log → ⊥))
    others_wait d = (there_is, here_is)
      where
        there_is : Mem d wait → Mem d L × T (chosen d) × (Mem d log → ⊥)
        there_is w = let q = I.wait_chosen d w in (q.0, q.1, λ k. I.apart d w (in_ran d q.0 k))

        cases : (Mem d log → ⊥) → Mem d I.ran ⊎ Mem d wait → Mem d wait
        cases out (inl k) = absurd (out (in_log k))
        cases out (inr w) = w

        here_is : Mem d L × T (chosen d) × (Mem d log → ⊥) → Mem d wait
        here_is (k, c, out) = cases out (I.met d (all-came d k c) k c)

    -- ### The book

    -- The lines that touch a history are those of the kept and the closed lines, in first order.
    pub book_proj : (h : ℕ) (F : List Did) → Just (Closed L chosen) L F → proj h log ≡ proj h (K ++ F)
    book_proj h F J = go (I.front h)
      where
        X : List Did
        X = proj h I.ran

        log_proj : proj h log ≡ proj h K ++ X
        log_proj = ap (proj h) I.split ∙ proj-append h K I.ran

        go : Prefix (proj h log) (proj h (K ++ L)) → proj h log ≡ proj h (K ++ F)
        go (r, e) = log_proj ∙ ap {B = List Did} (λ x. proj h K ++ x) (sym same) ∙ sym (proj-append h K F)
          where
            rest : proj h L ≡ X ++ r
            rest =
                append_cancel_left (proj h K) (proj h L) (X ++ r)
                (sym (proj-append h K L) ∙ e ∙ ap {B = List Did} (λ x. x ++ r) log_proj ∙ append_assoc (proj h K) X r)

            once : Nodup (X ++ r)
            once = subst Nodup rest (nodup_keep (touches h) L (nodup_right K L (nodup_first σ key K L chosen S)))

            out : (d : Did) → Mem d r → Closed L chosen d → ⊥
            out d k q =
                let m = mem_of_keep (touches h) L (mem_along (sym rest) (Memᴰ.append_right X k)) in
                nodup_apart X once (mem-keep (touches h) (closed-ran d m.0 q) m.1) k

            same : proj h F ≡ X
            same =
                just_prefix X r (proj h F) (subst (λ (x : List Did). Just (Closed L chosen) x (proj h F)) rest (just_keep (touches h) J))
                (λ d k. ran-closed d (mem_of_keep (touches h) I.ran k).0) out

    pub book : (h : ℕ) (F : List Did) → Just (Closed L chosen) L F → cell σ h log ≡ cell σ h (K ++ F)
    book h F J = cell_same σ h log (K ++ F) (book_proj h F J)
