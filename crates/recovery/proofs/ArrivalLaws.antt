-- Request (n), proved: one delivery by the recovery claim's own invariant, and two by one each.
use Rattle.std.specs.Prelude.{◌≡◌, refl, ◌⊎◌, Bool, true, false, cond, ℕ, T}
use Rattle.std.proofs.Common.{sym, ap, ◌∙◌, subst, inl, inr}
use mathlib.Core.List.Permᴰ.{cons as perm-cons}
use mathlib.Core.List.Permᴰ.{nil as perm-nil}
use mathlib.Core.List.{List, [], ◌∷◌, ◌++◌, Permᴰ as Perm}
use mathlib.Core.List.Permᴰ
use mathlib.Core.List.Permᴰ.{trans as perm-trans}
use mathlib.Core.List.{nil≢cons, head-eq_of_cons-eq}
use mathlib.Core.List.{tail-eq_of_cons-eq}
use mathlib.Core.List.Memᴰ
use mathlib.Core.List.Memᴰ.{head as here}
use mathlib.Core.List.Memᴰ.{tail as there}
use mathlib.Core.List.{Memᴰ as Mem}
use Rattle.forms.specs.Lists.{keep}
use Rattle.forms.specs.ListLaws.{Nodup, nodup_mid, nodup_right, mem_split, mem_mid, mem_widen, mem_along}
use Rattle.forms.specs.Forms.{Did, did_text}
use Rattle.rules.specs.Book.{touches}
use Rattle.rule_laws.specs.BookLaws.{proj, proj_mid}
use Rattle.rules.specs.State.{start_of, State, lines_in, log_bytes}
use Rattle.rule_laws.specs.Good.{Good}
use Rattle.rule_laws.specs.KeptLaws.{good_reads}
use Rattle.rule_laws.specs.WeaveLaws.{dids-weave}
use Rattle.rules.specs.Calls.{Cut}
use Rattle.rules.specs.Run.{run}
use Rattle.recovery.specs.Claim.{lost_by, shares, Closed, Comes, came}
use Rattle.recovery.proofs.Invariant.{Setting, Inv, nodup_first}
use Rattle.recovery.proofs.Ending.{shares_at, closed-every, closed-ran, just_all, book_proj}
use Rattle.recovery.proofs.Cuts.{Cutting}
use Rattle.recovery.proofs.Steps.{setting_of, Site, site_nodup}
use Rattle.recovery.proofs.Recovery.{up_to, KL, K, L, C, at_end_lem}
use Rattle.recovery.specs.Arrival.{dids_of, did_lines, StandsBefore, SameWork, every, log_before}
use Rattle.recovery.specs.Arrival.{log_at_end, ArrivalClaim, AllThree, OrdersClaim}

-- ### Lists

module _ {A : Type 0} where
  -- Lists without repeats that have the same members are rearrangements.
  pub perm_same : (xs l : List A) → Nodup xs → Nodup l → ((e : A) → Mem e xs → Mem e l) → ((e : A) → Mem e l → Mem e xs) → Perm xs l
  perm_same [] [] hx hl into from = perm-nil
  perm_same [] (y ∷ l) hx hl into from = absurd (Memᴰ.not-nil (from y (here refl)))
  perm_same (x ∷ xs) l hx hl into from = go (mem_split (into x (here refl))) (λ k hk i f. perm_same xs k hx.1 hk i f)
    where
      go : (a : List A) × (b : List A) × (l ≡ a ++ x ∷ b) →
          ((k : List A) → Nodup k → ((e : A) → Mem e xs → Mem e k) → ((e : A) → Mem e k → Mem e xs) → Perm xs k) → Perm (x ∷ xs) l
      go (a, b, e) below =
          subst (λ (z : List A). Perm (x ∷ xs) z) (sym e)
          (perm-trans
          (perm-cons refl (below (a ++ b) q.1 (λ y m. inside y m (mem_mid a b (mem_along e (into y (there m)))))
          (λ y m. outside y m (Memᴰ.cases_cons (from y (mem_along (sym e) (mem_widen x a b m)))))))
          (Permᴰ.symm (Permᴰ.middle x a b)))
        where
          q : (Mem x (a ++ b) → ⊥) × Nodup (a ++ b)
          q = nodup_mid a x b (subst Nodup e hl)

          inside : (y : A) → Mem y xs → (y ≡ x) ⊎ Mem y (a ++ b) → Mem y (a ++ b)
          inside y m (inl p) = absurd (hx.0 (Memᴰ.cast (sym p) m))
          inside y m (inr k) = k

          outside : (y : A) → Mem y (a ++ b) → (y ≡ x) ⊎ Mem y xs → Mem y xs
          outside y m (inl p) = absurd (q.0 (Memᴰ.cast (sym p) m))
          outside y m (inr k) = k

  -- Where an element of the kept ones stood.
  keep_split : (f : A → Bool) (l a : List A) (d : A) (b : List A) → keep f l ≡ a ++ d ∷ b →
      (a' : List A) × (b' : List A) × (l ≡ a' ++ d ∷ b') × (keep f b' ≡ b)
  keep_split f [] [] d b e = absurd (nil≢cons e)
  keep_split f [] (y ∷ a) d b e = absurd (nil≢cons e)
  keep_split f (x ∷ l) a d b e = go (f x) a e (λ a0 q. keep_split f l a0 d b q)
    where
      up : (a' : List A) × (b' : List A) × (l ≡ a' ++ d ∷ b') × (keep f b' ≡ b) →
          (a' : List A) × (b' : List A) × (x ∷ l ≡ a' ++ d ∷ b') × (keep f b' ≡ b)
      up (a', b', p, q) = (x ∷ a', b', ap {B = List A} (λ z. x ∷ z) p, q)

      go : (t : Bool) (a : List A) → cond t (x ∷ keep f l) (keep f l) ≡ a ++ d ∷ b →
          ((a0 : List A) → keep f l ≡ a0 ++ d ∷ b → (a' : List A) × (b' : List A) × (l ≡ a' ++ d ∷ b') × (keep f b' ≡ b)) →
          (a' : List A) × (b' : List A) × (x ∷ l ≡ a' ++ d ∷ b') × (keep f b' ≡ b)
      go true [] q below = ([], l, ap {B = List A} (λ z. z ∷ l) (head-eq_of_cons-eq q), tail-eq_of_cons-eq q)
      go true (y ∷ a0) q below = up (below a0 (tail-eq_of_cons-eq q))
      go false a0 q below = up (below a0 q)

-- ### Two logs

stands_keep : (h : ℕ) (l : List Did) (d e : Did) → T (touches h d) → T (touches h e) → StandsBefore l d e → StandsBefore (proj h l) d e
stands_keep h l d e td te (a, b, c, p) = (
  proj h a,
  proj h b,
  proj h c,
  ap (proj h) p ∙ proj_mid h a d (b ++ e ∷ c) td ∙ ap {B = List Did} (λ x. proj h a ++ d ∷ x) (proj_mid h b e c te),
)

stands_back : (h : ℕ) (l : List Did) (d e : Did) → StandsBefore (proj h l) d e → StandsBefore l d e
stands_back h l d e (a, b, c, p) = go (keep_split (touches h) l a d (b ++ e ∷ c) p)
  where
    go : (a' : List Did) × (b' : List Did) × (l ≡ a' ++ d ∷ b') × (keep (touches h) b' ≡ b ++ e ∷ c) → StandsBefore l d e
    go (a', b', q, r) = next (keep_split (touches h) b' b e c r)
      where
        next : (u : List Did) × (v : List Did) × (b' ≡ u ++ e ∷ v) × (keep (touches h) v ≡ c) → StandsBefore l d e
        next (u, v, s, t) = (a', u, v, q ∙ ap {B = List Did} (λ x. a' ++ d ∷ x) s)

stands_in : (a b : List Did) → ((h : ℕ) → proj h a ≡ proj h b) → (d e : Did) → T (shares d e) → StandsBefore a d e → StandsBefore b d e
stands_in a b same d e t s = go (shares_at d e t)
  where
    go : (h : ℕ) × T (touches h e) × T (touches h d) → StandsBefore b d e
    go (h, te, td) = stands_back h b d e (subst (λ (l : List Did). StandsBefore l d e) (same h) (stands_keep h a d e td te s))

pub same_work : (a b : List Did) → Perm a b → ((h : ℕ) → proj h a ≡ proj h b) → SameWork a b
same_work a b p same =
    record {
      rearranged = p;
      same_order = λ d e t. (stands_in a b same d e t, stands_in b a (λ h. sym (same h)) d e t);
      same_in = same;
    }

pub work_back : (a b : List Did) → SameWork a b → SameWork b a
work_back a b S = same_work b a (Permᴰ.symm S.rearranged) (λ h. sym (S.same_in h))

pub work_on : (a b c : List Did) → SameWork a b → SameWork b c → SameWork a c
work_on a b c S R = same_work a c (perm-trans S.rearranged R.rearranged) (λ h. S.same_in h ∙ R.same_in h)

-- The did lines of a state's log are those that stand in its bytes.
pub did_lines_lem : (st : State) → Good st → did_lines (log_bytes st) ≡ st.log
unfolding did_lines
did_lines_lem st G = ap dids_of (good_reads st G) ∙ dids-weave st.log st.stables

-- ### One delivery

-- The end of a list, as Recovery's `ending` has it, where every line was chosen.
pub work_done : (room : ℕ) (before after : State) (C : Cutting room before after) (lines : List (List ℕ)) (final : State) →
    Site before.histories after.base (lines_in after) after.log (lost_by before after) every lines final →
    ((d : Did) → Mem d (lost_by before after) → T (every d) → Comes lines d) → SameWork before.log final.log
work_done room before after C lines final G all =
    same_work before.log final.log
    (subst (λ (l : List Did). Perm l final.log) (sym C.first)
    (subst (λ (l : List Did). Perm (kept ++ lost) l) (sym I.split) (Permᴰ.append_left kept both)))
    (λ h. ap (proj h) C.first
    ∙ sym (book_proj (start_of final) did_text kept lost every S lines final.log final.waiting I G.good.quiet all h lost
    (just_all lost (λ d m. whole d m))))
  where
    kept : List Did
    kept = after.log

    lost : List Did
    lost = lost_by before after

    S : Setting (start_of final) did_text kept lost every
    S = setting_of before.histories after.base (lines_in after) kept lost every (start_of final) G.picked

    I : Inv (start_of final) did_text kept lost every lines final.log final.waiting
    I = G.inv

    whole : (d : Did) → Mem d lost → Closed lost every d
    whole = closed-every lost every (λ d m. tt)

    both : Perm lost I.ran
    both =
        perm_same lost I.ran (nodup_right kept lost (nodup_first (start_of final) did_text kept lost every S))
        (site_nodup before.histories after.base (lines_in after) kept lost every lines final G)
        (λ d m. closed-ran (start_of final) did_text kept lost every S lines final.log final.waiting I G.good.quiet all d m
        (whole d m))
        (λ d m. (I.ran-chosen d m).0)

pub arrival : ArrivalClaim
unfolding up_to KL K L
arrival D =
    work_done D.room (run D.calls D.site) D.after
    (C D.counts D.site D.start D.calls D.kept D.room D.further D.after every D.fair)
    (came (D.calls ++ Cut D.kept D.room ∷ D.further) D.site)
    (run (D.calls ++ Cut D.kept D.room ∷ D.further) D.site)
    (at_end_lem D.counts D.site D.start D.calls D.kept D.room D.further D.after every D.fair D.asked)
    D.asked.all

-- ### Two

pub all_three : (first again one other : List Did) → first ≡ again → SameWork first one → SameWork again other → AllThree first one other
all_three first again one other same S R =
    let two : SameWork first other = subst (λ (l : List Did). SameWork l other) (sym same) R in
    record { one_other = work_on one first other (work_back first one S) two; first_one = S; first_other = two }

pub orders : OrdersClaim
orders D E same = all_three (log_before D) (log_before E) (log_at_end D) (log_at_end E) same (arrival D) (arrival E)
