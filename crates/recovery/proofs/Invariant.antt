-- What holds of log and waiting lines at every moment after the picked cut.
use Rattle.std.specs.Prelude.{◌≡◌, refl, ◌⊎◌, Bool, true, false, List, [], ◌∷◌, ◌++◌, ℕ, ◌+◌, ◌≤◌, ◌<◌, T, length}
use Rattle.std.proofs.Common.{sym, ap, ◌∙◌, inl, inr, append_assoc, append-nil, arith}
use mathlib.Core.List.Memᴰ
use mathlib.Core.List.Memᴰ.{head as here}
use mathlib.Core.List.Memᴰ.{tail as there}
use mathlib.Core.List.{Memᴰ as Mem}
use Rattle.forms.specs.ListLaws.{Prefix, mem_split, mem-at, mem_along, mem_mid, mem_snoc, mem_widen, Nodup, nodup_mid, nodup_snoc}
use Rattle.forms.specs.ListLaws.{nodup_apart, prefix_same, prefix_past, prefix_full, prefix_has, append_split, true_T, mem-keep}
use Rattle.forms.specs.ListLaws.{mem_of_keep, nodup_keep}
use Rattle.forms.specs.Forms.{Base, Change, Did}
use Rattle.rules.specs.Book.{start_cell, cell, can_run, touches}
use Rattle.rule_laws.specs.Good.{Ran}
use Rattle.rule_laws.specs.BookLaws.{proj, EachOnce, touches_of, touches_at, cell_same, proj-append, proj_mid, can_run-same, can_run-place}
use Rattle.rule_laws.specs.BookLaws.{nodup_ran}
use Rattle.recovery.specs.Claim.{InOrder}

-- ### Order

module _ (R : Did → Did → Type 0) where
  order_mid : (a : List Did) (d : Did) (b : List Did) → InOrder R (a ++ d ∷ b) → InOrder R (a ++ b)
  order_mid [] d b h = h.1
  order_mid (x ∷ a) d b h = (λ e m. h.0 e (mem_widen d a b m), order_mid a d b h.1)

  order_snoc : (a : List Did) (d : Did) → InOrder R a → ((e : Did) → Mem e a → R e d) → InOrder R (a ++ d ∷ [])
  order_snoc [] d h last = (λ e m. absurd (Memᴰ.not-nil m), tt)
  order_snoc (x ∷ a) d h last = (λ e m. step e (mem_snoc a m), order_snoc a d h.1 (λ e m. last e (there m)))
    where
      step : (e : Did) → (e ≡ d) ⊎ Mem e a → R x e
      step e (inl p) = rw p (last x (here refl))
      step e (inr m) = h.0 e m

order-map : (R S : Did → Did → Type 0) → ((d e : Did) → R d e → S d e) → (a : List Did) → InOrder R a → InOrder S a
order-map R S f [] h = tt
order-map R S f (x ∷ a) h = (λ e m. f x e (h.0 e m), order-map R S f a h.1)

-- ### The log at the picked cut

-- The picked cut kept the lines K and lost the lines L. Lines are known by their keys when they come.
module _ {B : Type 0} (σ : Base) (key : Did → B) (K L : List Did) (chosen : Did → Bool) where
  pub record Setting : Type 0 where
    pub ran : Ran σ (K ++ L)
    -- each line has a change, and each of its changes is in another history
    pub once : EachOnce (K ++ L)
    pub some : (d : Did) → Mem d (K ++ L) → (x : Change) × Mem x d.changes
    pub keys : (d e : Did) → Mem d L → Mem e L → key d ≡ key e → d ≡ e

  -- In a list of keys that came, that of d came for the first time before that of e did.
  abbrev pub First : List B → Did → Did → Type 0
  First came d e = (a : List B) × (b : List B) × (came ≡ a ++ key d ∷ b) × (Mem (key e) a → ⊥)

  first_snoc : (came : List B) (x : B) (d e : Did) → First came d e → First (came ++ x ∷ []) d e
  first_snoc came x d e (a, b, p, out) = (a, b ++ x ∷ [], ap {B = List B} (λ k. k ++ x ∷ []) p ∙ append_assoc a (key d ∷ b) (x ∷ []), out)

  -- came: the keys that came since the last accepted cut
  pub record Inv (came : List B) (log wait : List Did) : Type 0 where
    pub ran : List Did
    pub split : log ≡ K ++ ran
    pub ran-chosen : (d : Did) → Mem d ran → Mem d L × T (chosen d)
    pub wait_chosen : (d : Did) → Mem d wait → Mem d L × T (chosen d)
    pub once : Nodup wait
    pub apart : (d : Did) → Mem d wait → Mem d ran → ⊥
    -- the lines that touch a history did so in the same order in the first log
    pub front : (h : ℕ) → Prefix (proj h log) (proj h (K ++ L))
    pub seen : (d : Did) → Mem d wait → Mem (key d) came
    pub met : (d : Did) → Mem (key d) came → Mem d L → T (chosen d) → Mem d ran ⊎ Mem d wait
    pub order : InOrder (First came) wait

  module _ (S : Setting) where
    pub nodup_first : Nodup (K ++ L)
    nodup_first = nodup_ran σ [] (K ++ L) S.once S.ran S.some

    pub not-kept : (d : Did) → Mem d L → Mem d K → ⊥
    not-kept d m k = nodup_apart K nodup_first k m

    -- Where a lost line stands in the first log.
    pub at_first : (d : Did) → Mem d L → (a : List Did) × (b : List Did) × (K ++ L ≡ a ++ d ∷ b)
    at_first d m = mem_split (Memᴰ.append_right K m)

    module _ (log : List Did) (front : (h : ℕ) → Prefix (proj h log) (proj h (K ++ L))) (d : Did) (a b : List Did)
        (at : K ++ L ≡ a ++ d ∷ b) where
      cut_at : (h : ℕ) → T (touches h d) → proj h (K ++ L) ≡ proj h a ++ d ∷ proj h b
      cut_at h t = ap (proj h) at ∙ proj_mid h a d b t

      first-ran : T (can_run σ a d)
      first-ran = S.ran a d b at

      first-place : (x : Change) → Mem x d.changes → x.place ≡ (start_cell σ x.history).place + length (proj x.history a) + 1
      first-place x m = can_run-place σ a d (λ e k. S.once e (mem_along (sym at) (Memᴰ.append_left (d ∷ b) k))) first-ran x m

      -- A lost line that can run comes next in each of its histories.
      next : EachOnce log → T (can_run σ log d) → (h : ℕ) → T (touches h d) → proj h log ≡ proj h a
      next once r h t = go (touches_at h d t)
        where
          go : (x : Change) × Mem x d.changes × (x.history ≡ h) → proj h log ≡ proj h a
          go (x, m, e) =
              prefix_same (proj h log) (proj h (K ++ L)) (proj h a) d (proj h b) (front h) (cut_at h t)
              (omega (arith, rw e at (can_run-place σ log d once r x m), rw e at (first-place x m)))

      front-one : EachOnce log → T (can_run σ log d) → (h : ℕ) → Prefix (proj h (log ++ d ∷ [])) (proj h (K ++ L))
      front-one once r h = go (touches h d) refl
        where
          go : (x : Bool) → touches h d ≡ x → Prefix (proj h (log ++ d ∷ [])) (proj h (K ++ L))
          go true e =
              let t = true_T (touches h d) e in (
                proj h b,
                cut_at h t ∙ sym (append_assoc (proj h a) (d ∷ []) (proj h b))
                    ∙ ap {B = List Did} (λ l. (l ++ d ∷ []) ++ proj h b) (sym (next once r h t))
                    ∙ ap {B = List Did} (λ l. l ++ proj h b) (sym (proj_mid h log d [] t)),
              )
          go false e = rw (proj-append h log (d ∷ []), e, append-nil (proj h log)) (front h)

      -- A lost line with a place that is not above its history's has run.
      pub past : (x : Change) → Mem x d.changes → x.place ≤ (start_cell σ x.history).place + length (proj x.history log) → Mem d log
      past x m le =
          let h = x.history in
          let far : length (proj h a) < length (proj h log) = omega (arith, first-place x m) in
          (mem_of_keep (touches h) log (prefix_past (proj h log) (proj h (K ++ L)) (proj h a) d (proj h b) (front h)
          (cut_at h (touches_of d m)) far)).0

      -- A lost line that has not run can run if all lines that stood before it in its histories have run.
      pub can_run-next : (Mem d log → ⊥) → ((e : Did) (h : ℕ) → Mem e a → T (touches h e) → T (touches h d) → Mem e log) →
          T (can_run σ log d)
      can_run-next out before = can_run-same σ a log d (λ x m. sym (same x m)) first-ran
        where
          same : (x : Change) → Mem x d.changes → cell σ x.history log ≡ cell σ x.history a
          same x m =
              let h = x.history in
              let t = touches_of d m in
              cell_same σ h log a (prefix_full (proj h log) (proj h (K ++ L)) (proj h a) d (proj h b) (front h) (cut_at h t)
              (nodup_keep (touches h) (K ++ L) nodup_first)
              (λ k. out (mem_of_keep (touches h) log k).0)
              (λ e k. let q = mem_of_keep (touches h) a k in mem-keep (touches h) (before e h q.0 q.1 t) q.1))

      -- If a lost line has run, then so have all lines that stood before it in its histories.
      pub before-ran : Mem d log → (e : Did) (h : ℕ) → Mem e a → T (touches h e) → T (touches h d) → Mem e log
      before-ran m e h k te td =
          (mem_of_keep (touches h) log (prefix_has (proj h log) (proj h (K ++ L)) (proj h a) d (proj h b) (front h) (cut_at h td)
          (nodup_keep (touches h) (K ++ L) nodup_first) (mem-keep (touches h) m td) e (mem-keep (touches h) k te))).0

    -- ### A waiting line runs

    once_log : (came : List B) (log wait : List Did) → Inv came log wait → EachOnce log
    once_log came log wait I e m = S.once e (inside (Memᴰ.append_cases K (mem_along I.split m)))
      where
        inside : Mem e K ⊎ Mem e I.ran → Mem e (K ++ L)
        inside (inl k) = Memᴰ.append_left L k
        inside (inr k) = Memᴰ.append_right K (I.ran-chosen e k).0

    pub inv_one : (came : List B) (log a : List Did) (d : Did) (b : List Did) → T (can_run σ log d) → Inv came log (a ++ d ∷ b) →
        Inv came (log ++ d ∷ []) (a ++ b)
    inv_one came log a d b t I =
        record {
          ran = I.ran ++ d ∷ [];
          split = ap {B = List Did} (λ l. l ++ d ∷ []) I.split ∙ append_assoc K I.ran (d ∷ []);
          ran-chosen = λ e m. ran-one e (mem_snoc I.ran m);
          wait_chosen = λ e m. I.wait_chosen e (mem_widen d a b m);
          once = (nodup_mid a d b I.once).1;
          apart = λ e m k. apart_one e m (mem_snoc I.ran k);
          front = let q = at_first d mine.0 in front-one log I.front d q.0 q.1 q.2 (once_log came log (a ++ d ∷ b) I) t;
          seen = λ e m. I.seen e (mem_widen d a b m);
          met = λ e m k c. met_one e (I.met e m k c);
          order = order_mid (First came) a d b I.order;
        }
      where
        mine : Mem d L × T (chosen d)
        mine = I.wait_chosen d (mem-at d a b)

        ran-one : (e : Did) → (e ≡ d) ⊎ Mem e I.ran → Mem e L × T (chosen e)
        ran-one e (inl p) = rw p mine
        ran-one e (inr m) = I.ran-chosen e m

        apart_one : (e : Did) → Mem e (a ++ b) → (e ≡ d) ⊎ Mem e I.ran → ⊥
        apart_one e m (inl p) = (nodup_mid a d b I.once).0 (Memᴰ.cast (sym p) m)
        apart_one e m (inr k) = I.apart e (mem_widen d a b m) k

        met_wait : (e : Did) → (e ≡ d) ⊎ Mem e (a ++ b) → Mem e (I.ran ++ d ∷ []) ⊎ Mem e (a ++ b)
        met_wait e (inl p) = inl (Memᴰ.append_right I.ran (here p))
        met_wait e (inr m) = inr m

        met_one : (e : Did) → Mem e I.ran ⊎ Mem e (a ++ d ∷ b) → Mem e (I.ran ++ d ∷ []) ⊎ Mem e (a ++ b)
        met_one e (inl m) = inl (Memᴰ.append_left (d ∷ []) m)
        met_one e (inr m) = met_wait e (mem_mid a b m)

    -- ### A line comes

    -- It is refused: if it is a chosen line, it has run or waits.
    pub inv_again : (came : List B) (log wait : List Did) (x : B) (I : Inv came log wait) →
        ((d : Did) → key d ≡ x → Mem d L → T (chosen d) → Mem d I.ran ⊎ Mem d wait) → Inv (came ++ x ∷ []) log wait
    inv_again came log wait x I known =
        record {
          ran = I.ran;
          split = I.split;
          ran-chosen = I.ran-chosen;
          wait_chosen = I.wait_chosen;
          once = I.once;
          apart = I.apart;
          front = I.front;
          seen = λ e m. Memᴰ.append_left (x ∷ []) (I.seen e m);
          met = λ e m k c. met_one e (mem_snoc came m) k c;
          order = order-map (First came) (First (came ++ x ∷ [])) (first_snoc came x) wait I.order;
        }
      where
        met_one : (e : Did) → (key e ≡ x) ⊎ Mem (key e) came → Mem e L → T (chosen e) → Mem e I.ran ⊎ Mem e wait
        met_one e (inl p) k c = known e p k c
        met_one e (inr m) k c = I.met e m k c

    -- It is taken among the waiting ones.
    pub inv_add : (came : List B) (log wait : List Did) (d : Did) (I : Inv came log wait) → Mem d L → T (chosen d) →
        (Mem d I.ran → ⊥) → (Mem d wait → ⊥) → Inv (came ++ key d ∷ []) log (wait ++ d ∷ [])
    inv_add came log wait d I lost choice out_r out-w =
        record {
          ran = I.ran;
          split = I.split;
          ran-chosen = I.ran-chosen;
          wait_chosen = λ e m. wait_one e (mem_snoc wait m);
          once = nodup_snoc wait d I.once out-w;
          apart = λ e m k. apart_one e (mem_snoc wait m) k;
          front = I.front;
          seen = λ e m. seen_one e (mem_snoc wait m);
          met = λ e m k c. met_one e (mem_snoc came m) k c;
          order = order_snoc (First (came ++ key d ∷ [])) wait d
              (order-map (First came) (First (came ++ key d ∷ [])) (first_snoc came (key d)) wait I.order)
              (λ e m. before e (mem_split (I.seen e m)));
        }
      where
        wait_one : (e : Did) → (e ≡ d) ⊎ Mem e wait → Mem e L × T (chosen e)
        wait_one e (inl p) = rw p (lost, choice)
        wait_one e (inr m) = I.wait_chosen e m

        apart_one : (e : Did) → (e ≡ d) ⊎ Mem e wait → Mem e I.ran → ⊥
        apart_one e (inl p) k = out_r (Memᴰ.cast (sym p) k)
        apart_one e (inr m) k = I.apart e m k

        seen_one : (e : Did) → (e ≡ d) ⊎ Mem e wait → Mem (key e) (came ++ key d ∷ [])
        seen_one e (inl p) = Memᴰ.append_right came (here (ap key p))
        seen_one e (inr m) = Memᴰ.append_left (key d ∷ []) (I.seen e m)

        met_old : (e : Did) → Mem e I.ran ⊎ Mem e wait → Mem e I.ran ⊎ Mem e (wait ++ d ∷ [])
        met_old e (inl m) = inl m
        met_old e (inr m) = inr (Memᴰ.append_left (d ∷ []) m)

        met_one : (e : Did) → (key e ≡ key d) ⊎ Mem (key e) came → Mem e L → T (chosen e) → Mem e I.ran ⊎ Mem e (wait ++ d ∷ [])
        met_one e (inl p) k c = inr (Memᴰ.append_right wait (here (S.keys e d k lost p)))
        met_one e (inr m) k c = met_old e (I.met e m k c)

        not_known : Mem d I.ran ⊎ Mem d wait → ⊥
        not_known (inl m) = out_r m
        not_known (inr m) = out-w m

        before : (e : Did) → (a : List B) × (b : List B) × (came ≡ a ++ key e ∷ b) → First (came ++ key d ∷ []) e d
        before e (a, b, p) = first_snoc came (key d) e d
            (a, b, p, λ m. not_known (I.met d (mem_along (sym p) (Memᴰ.append_left (key e ∷ b) m)) lost choice))

    -- ### The log is cut

    -- What a prefix of the log with the lines of K keeps.
    pub inv_cut : (came : List B) (log wait kept rest : List Did) → Inv came log wait → log ≡ kept ++ rest → length K ≤ length kept →
        Inv [] kept []
    inv_cut came log wait kept rest I e le = go (append_split K I.ran kept rest (sym I.split ∙ e) le)
      where
        front_cut : (h : ℕ) → Prefix (proj h log) (proj h (K ++ L)) → Prefix (proj h kept) (proj h (K ++ L))
        front_cut h (r, p) =
            let cut : proj h log ≡ proj h kept ++ proj h rest = ap (proj h) e ∙ proj-append h kept rest in
            (proj h rest ++ r, p ∙ ap {B = List Did} (λ l. l ++ r) cut ∙ append_assoc (proj h kept) (proj h rest) r)

        go : (t : List Did) × (kept ≡ K ++ t) × (I.ran ≡ t ++ rest) → Inv [] kept []
        go (t, p, q) =
            record {
              ran = t;
              split = p;
              ran-chosen = λ d m. I.ran-chosen d (mem_along (sym q) (Memᴰ.append_left rest m));
              wait_chosen = λ d m. absurd (Memᴰ.not-nil m);
              once = tt;
              apart = λ d m k. Memᴰ.not-nil m;
              front = λ h. front_cut h (I.front h);
              seen = λ d m. absurd (Memᴰ.not-nil m);
              met = λ d m k c. absurd (Memᴰ.not-nil m);
              order = tt;
            }

    -- The picked cut itself.
    pub inv_start : Inv [] K []
    inv_start =
        record {
          ran = [];
          split = sym (append-nil K);
          ran-chosen = λ d m. absurd (Memᴰ.not-nil m);
          wait_chosen = λ d m. absurd (Memᴰ.not-nil m);
          once = tt;
          apart = λ d m k. Memᴰ.not-nil m;
          front = λ h. (proj h L, proj-append h K L);
          seen = λ d m. absurd (Memᴰ.not-nil m);
          met = λ d m k c. absurd (Memᴰ.not-nil m);
          order = tt;
        }
