-- What holds of the site after the picked cut, and what a redo does.
use Rattle.std.specs.Prelude.{◌≡◌, refl, ◌⊎◌, Bool, true, false, not, ◌||◌, ℕ, suc, ◌+◌, ◌-◌, ◌≤◌, ◌<◌, leb, drop}
use Rattle.std.proofs.Common.{sym, ◌∙◌, inl, inr, eqb→eq, le→leb}
use Rattle.std.proofs.Math.Path.{ap, ap₂, subst}
use Rattle.std.proofs.Math.Option.{Option, none, some}
use mathlib.Core.List.{List, [], ◌∷◌, ◌++◌, map}
use mathlib.Core.List.Memᴰ
use mathlib.Core.List.{Memᴰ as Mem}
use native.Mathlib.Omega.{arith}
use Rattle.std.proofs.Math.Dec.{T, eqb, eqb_refl, leb→le, ltb→lt}
use Rattle.std.proofs.Math.ListN.{length, length-append, length-drop}
use Rattle.std.proofs.lemmas.List.{drop-append-le}
use Rattle.forms.specs.Decimal.{Step}
use Rattle.forms.specs.Decimal.Step.{got}
use Rattle.forms.specs.Lists.{any, sum}
use Rattle.forms.specs.ListLaws.{mem_along, mem_snoc, Nodup, nodup_append, nodup_snoc, sum-append, sum-sub, sum_one, mem_of_drop}
use Rattle.forms.specs.ListLaws.{mem-drop_less, T_false, true_T, false_T, or_cases, or_left, or_right, any_at, any_of}
use Rattle.forms.specs.Forms.{Base, Change, Did, Line, did_line, did_text, Answer}
use Rattle.forms.specs.Reading.{read_did}
use Rattle.forms.specs.Limits.{live_limit}
use Rattle.forms.specs.declared.Refusal.{Refusal}
use Rattle.forms.specs.declared.Refusal.TheVariants.{IdPending, AlreadyDone, TableFull, NoRoom, OutOfTurn}
use Rattle.rules.specs.Book.{start_cell, cell}
use Rattle.rules.specs.Checks.{check, and_then, changes_refusal}
use Rattle.rules.specs.Log.{dids, StableAt, stables_of, weave, mark, histories_fit, lines_text, log_text}
use Rattle.rules.specs.State.{Operation, State, start_of, refused, ok, live_done, live, line_bytes, lines_in, log_bytes, with_log}
use Rattle.rules.specs.State.{with_waiting}
use Rattle.rules.specs.Calls.{unless, id_pending, id_done, table_full, log_full, stale, redo_refusal, drain, delivered, redo_read, redo}
use Rattle.rules.specs.Calls.{Redo}
use Rattle.rules.specs.Calls.{writable, perform, step}
use Rattle.rule_laws.specs.Good.{FormedDid, Ran, Good}
use Rattle.rule_laws.specs.CheckLaws.{refused_not_ok}
use Rattle.rule_laws.specs.BookLaws.{proj, EachOnce, place_is, place-below, each_once, nodup_ran}
use Rattle.rule_laws.specs.DrainLaws.{drain_keeps}
use Rattle.rule_laws.specs.FitLaws.{log_append, lines-dids_text, length-dids}
use Rattle.rule_laws.specs.WeaveLaws.{weave-append, stables_below, unweave}
use Rattle.rule_laws.specs.LogLaws.{formed_read}
use Rattle.recovery.proofs.Cuts.{skip, ok_state, Picked, some-change}
use Rattle.recovery.proofs.Invariant.{Setting, Inv, not-kept, at_first, past, inv_one, inv_again, inv_add}
use Rattle.recovery.proofs.Ending.{in_ran, in_log}

-- A restoring site refuses a formed line only with 7 and above.
redo_open : (b : Bool) (o later : Option Refusal) → b ≡ true → o ≡ none → check (not b) OutOfTurn (and_then o later) ≡ later
unfolding check and_then
redo_open b o later e p = rw (e, p)

-- The lines of a site whose stable lines are those kept, with more did lines.
pub lines_more : (KL : List Line) (ran log : List Did) (ss : List StableAt) → ss ≡ stables_of KL → log ≡ dids KL ++ ran →
    weave log ss ≡ KL ++ map did_line ran
lines_more KL ran log ss e q =
    ap (λ (x : List StableAt). weave log x) e
    ∙ ap (λ (x : List Did). weave x (stables_of KL)) q
    ∙ weave-append (dids KL) ran (stables_of KL) (stables_below KL)
    ∙ ap (λ (x : List Line). x ++ map did_line ran) (unweave KL)

got_value : (d e : Did) (l m : List ℕ) → got d l ≡ got e m → d ≡ e
got_value d e l m p = cc

-- Formed lines with the same bytes are the same.
text_one : (n : ℕ) (d e : Did) → T (histories_fit n) → FormedDid n d → FormedDid n e → did_text d ≡ did_text e → d ≡ e
text_one n d e h F G p = got_value d e [] [] (sym (formed_read n d h F) ∙ ap read_did p ∙ formed_read n e h G)

module _ (n : ℕ) (β : Option Base) (KL : List Line) (K L : List Did) (chosen : Did → Bool) where
  pub formed_in : (σ : Base) → Picked σ n KL K L → (d : Did) → Mem d L → FormedDid n d
  formed_in σ P d m = P.formed d (Memᴰ.append_right K m)

  pub setting_of : (σ : Base) → Picked σ n KL K L → Setting σ did_text K L chosen
  setting_of σ P =
      record {
        ran = P.ran;
        once = each_once n (K ++ L) P.formed;
        some = λ d m. some-change n d (P.formed d m);
        keys = λ d e m k p. text_one n d e P.histories (formed_in σ P d m) (formed_in σ P e k) p;
      }

  -- What holds of the site; `lines` came since the last accepted cut.
  pub record Site (lines : List (List ℕ)) (st : State) : Type 0 where
    pub base_is : st.base ≡ β
    pub picked : Picked (start_of st) n KL K L
    pub inv : Inv (start_of st) did_text K L chosen lines st.log st.waiting
    pub good : Good st
    pub n_is : st.histories ≡ n
    pub room : length (log_text n β KL) + sum line_bytes L ≤ st.room
    pub restoring : st.restoring ≡ true
    -- no stable line is written, and those kept let their operations leave the table
    pub stables_are : st.stables ≡ stables_of KL
    pub left : mark (start_of st) KL ≤ st.left_to

  module _ (lines : List (List ℕ)) (st : State) (G : Site lines st) where
    formed_lost : (d : Did) → Mem d L → FormedDid n d
    formed_lost d m = formed_in (start_of st) G.picked d m

    pub setting : Setting (start_of st) did_text K L chosen
    setting = setting_of (start_of st) G.picked

    pub site-lines : lines_in st ≡ KL ++ map did_line G.inv.ran
    site-lines =
        lines_more KL G.inv.ran st.log st.stables G.stables_are
        (G.inv.split ∙ ap (λ (x : List Did). x ++ G.inv.ran) (sym G.picked.kept))

    pub site_nodup : Nodup G.inv.ran
    site_nodup =
        nodup_ran (start_of st) K G.inv.ran (subst EachOnce G.inv.split (each_once st.histories st.log G.good.formed))
        (subst (Ran (start_of st)) G.inv.split G.good.ran)
        (λ d m. some-change n d (formed_lost d (G.inv.ran-chosen d m).0))

    module _ (d : Did) (lost : Mem d L) where
      same_id : (e : Did) → Mem e L → T (eqb e.id d.id) → e ≡ d
      same_id e k t =
          G.picked.ids e d (Memᴰ.append_right (drop (skip (start_of st) KL) K) k) (Memᴰ.append_right (drop (skip (start_of st) KL) K) lost)
          (eqb→eq e.id d.id t)

      -- no kept line above the mark has its id
      kept-other : (e : Did) → Mem e (drop (skip (start_of st) KL) K) → T (eqb e.id d.id) → ⊥
      kept-other e k t =
          let same : e ≡ d =
          G.picked.ids e d (Memᴰ.append_left L k) (Memᴰ.append_right (drop (skip (start_of st) KL) K) lost) (eqb→eq e.id d.id t) in
          not-kept (start_of st) did_text K L chosen setting d lost (Memᴰ.cast (sym same) (mem_of_drop (skip (start_of st) KL) K k))

      -- what is live and done was kept above the mark, or has run
      live-part : (e : Did) → Mem e (drop (st.left_to - (start_of st).up_to) st.log) →
          Mem e (drop (skip (start_of st) KL) K) ⊎ Mem e G.inv.ran
      live-part e k =
          Memᴰ.append_cases (drop (skip (start_of st) KL) K)
          (mem_along (ap (drop (skip (start_of st) KL)) G.inv.split
          ∙ drop-append-le (skip (start_of st) KL) K G.inv.ran G.picked.low)
          (mem-drop_less (skip (start_of st) KL) (st.left_to - (start_of st).up_to) (let le = G.left in omega arith) st.log k))

      -- ### Redo's tests

      is_waiting : T (id_pending d.id st) → Mem d st.waiting
      unfolding id_pending
      is_waiting t =
          go (or_cases (any (λ (x : Operation). eqb x.id d.id) st.pending)
          (any (λ (e : Did). eqb e.id d.id) st.waiting) t)
        where
          found : (e : Did) × Mem e st.waiting × T (eqb e.id d.id) → Mem d st.waiting
          found (e, k, q) = Memᴰ.cast (sym (same_id e (G.inv.wait_chosen e k).0 q)) k

          go : T (any (λ (x : Operation). eqb x.id d.id) st.pending) ⊎ T (any (λ (e : Did). eqb e.id d.id) st.waiting) →
              Mem d st.waiting
          go (inl q) = absurd (rw (G.good.idle G.restoring) at q)
          go (inr q) = found (any_at (λ (e : Did). eqb e.id d.id) st.waiting q)

      waiting_is : Mem d st.waiting → T (id_pending d.id st)
      unfolding id_pending
      waiting_is k =
          or_right (any (λ (x : Operation). eqb x.id d.id) st.pending) (any (λ (e : Did). eqb e.id d.id) st.waiting)
          (any_of (λ (e : Did). eqb e.id d.id) k (eqb_refl d.id))

      done_test : Bool
      done_test = any (stale st) d.changes || id_done d.id st

      site-place : (h : ℕ) → (cell (start_of st) h st.log).place ≡ (start_cell (start_of st) h).place + length (proj h st.log)
      site-place h = place_is (start_of st) h st.log (each_once st.histories st.log G.good.formed)

      has-run : T done_test → Mem d G.inv.ran
      unfolding done_test stale id_done live_done
      has-run t = go (or_cases (any (stale st) d.changes) (id_done d.id st) t)
        where
          low : (x : Change) × Mem x d.changes × T (leb x.place (cell (start_of st) x.history st.log).place) →
              Mem d G.inv.ran
          low (x, k, q) =
              let f = at_first (start_of st) did_text K L chosen setting d lost in
              in_ran (start_of st) did_text K L chosen setting lines st.log st.waiting G.inv d lost
              (past (start_of st) did_text K L chosen setting st.log G.inv.front d f.0 f.1 f.2 x k
              (omega (arith, leb→le x.place (cell (start_of st) x.history st.log).place q, site-place x.history)))

          found_in : (e : Did) → T (eqb e.id d.id) → Mem e (drop (skip (start_of st) KL) K) ⊎ Mem e G.inv.ran → Mem d G.inv.ran
          found_in e q (inl k) = absurd (kept-other e k q)
          found_in e q (inr r) = Memᴰ.cast (sym (same_id e (G.inv.ran-chosen e r).0 q)) r

          found : (e : Did) × Mem e (drop (st.left_to - (start_of st).up_to) st.log) × T (eqb e.id d.id) → Mem d G.inv.ran
          found (e, k, q) = found_in e q (live-part e k)

          go : T (any (stale st) d.changes) ⊎ T (id_done d.id st) → Mem d G.inv.ran
          go (inl q) = low (any_at (stale st) d.changes q)
          go (inr q) = found (any_at (λ (e : Did). eqb e.id d.id) (drop (st.left_to - (start_of st).up_to) st.log) q)

      run_is : Mem d G.inv.ran → T done_test
      unfolding done_test stale
      run_is k = or_left (any (stale st) d.changes) (id_done d.id st) (go (some-change n d (formed_lost d lost)))
        where
          go : (x : Change) × Mem x d.changes → T (any (stale st) d.changes)
          go (x, q) =
              any_of (stale st) q (le→leb x.place (cell (start_of st) x.history st.log).place
              (omega (
                arith,
                site-place x.history,
                place-below (start_of st) st.log (each_once st.histories st.log G.good.formed) G.good.ran d
                    (in_log (start_of st) did_text K L chosen setting lines st.log st.waiting G.inv k) x q,
              )))

      -- The lines that ran, those that wait and this one weigh no more than the lost lines.
      weigh : (f : Did → ℕ) → (Mem d G.inv.ran → ⊥) → (Mem d st.waiting → ⊥) →
          sum f G.inv.ran + (sum f st.waiting + f d) ≤ sum f L
      weigh f out_r out-w =
          let some : sum f (G.inv.ran ++ (st.waiting ++ d ∷ [])) ≤ sum f L =
          sum-sub f (G.inv.ran ++ (st.waiting ++ d ∷ [])) L
          (nodup_append G.inv.ran (st.waiting ++ d ∷ []) site_nodup (nodup_snoc st.waiting d G.inv.once out-w)
          (λ e p q. meet e p (mem_snoc st.waiting q)))
          (λ e p. inside e (Memᴰ.append_cases G.inv.ran p)) in
          omega (arith, sum-append f G.inv.ran (st.waiting ++ d ∷ []), sum-append f st.waiting (d ∷ []))
        where
          meet : (e : Did) → Mem e G.inv.ran → (e ≡ d) ⊎ Mem e st.waiting → ⊥
          meet e p (inl q) = out_r (Memᴰ.cast (sym q) p)
          meet e p (inr q) = G.inv.apart e q p

          one : (e : Did) → (e ≡ d) ⊎ Mem e st.waiting → Mem e L
          one e (inl q) = Memᴰ.cast q lost
          one e (inr q) = (G.inv.wait_chosen e q).0

          inside : (e : Did) → Mem e G.inv.ran ⊎ Mem e (st.waiting ++ d ∷ []) → Mem e L
          inside e (inl p) = (G.inv.ran-chosen e p).0
          inside e (inr p) = one e (mem_snoc st.waiting p)

      -- Fewer are live than the did lines above the mark that the picked cut kept or lost.
      pub fresh_below : (Mem d G.inv.ran → ⊥) → (Mem d st.waiting → ⊥) → live st < length (drop (skip (start_of st) KL) K) + length L
      unfolding live live_done
      fresh_below out_r out-w =
          let w = weigh (λ e. 1) out_r out-w in
          omega (
            arith,
            G.picked.low,
            G.left,
            length-drop (skip (start_of st) KL) K,
            sum_one G.inv.ran,
            sum_one st.waiting,
            sum_one L,
            ap length G.inv.split,
            length-append K G.inv.ran,
            ap length (G.good.idle G.restoring),
            length-drop (st.left_to - (start_of st).up_to) st.log,
          )

      fresh_few : (Mem d G.inv.ran → ⊥) → (Mem d st.waiting → ⊥) → T (table_full st) → ⊥
      unfolding table_full
      fresh_few out_r out-w t = let le = leb→le live_limit (live st) t in omega (arith, G.picked.few, fresh_below out_r out-w)

      fresh_fits : (Mem d G.inv.ran → ⊥) → (Mem d st.waiting → ⊥) → T (log_full d st) → ⊥
      unfolding log_full log_bytes
      fresh_fits out_r out-w t =
          let lt =
          ltb→lt st.room (length (log_text st.histories st.base (lines_in st)) + sum line_bytes st.waiting + line_bytes d) t in
          let w = weigh line_bytes out_r out-w in
          omega (
            arith,
            G.room,
            ap₂ (λ (i : ℕ) (x : List Line). length (log_text i st.base x)) G.n_is site-lines,
            ap (λ (b : Option Base). length (log_text n b (KL ++ map did_line G.inv.ran))) G.base_is,
            ap length (log_append n β KL (map did_line G.inv.ran)),
            length-append (log_text n β KL) (lines_text (map did_line G.inv.ran)),
            ap length (lines-dids_text G.inv.ran),
            length-dids G.inv.ran,
          )

      -- A lost line that comes has run, or waits, or is taken.
      data Verdict : Option Refusal → Type 0 where
        refuses : (r : Refusal) → Mem d G.inv.ran ⊎ Mem d st.waiting → Verdict (some r)
        takes : (Mem d G.inv.ran → ⊥) → (Mem d st.waiting → ⊥) → Verdict none

      verdict : Verdict (redo_refusal d st)
      unfolding redo_refusal check done_test
      verdict =
          subst Verdict
          (sym (redo_open st.restoring (changes_refusal st.histories d.changes) _ G.restoring
          (ap (λ (i : ℕ). changes_refusal i d.changes) G.n_is ∙ (formed_lost d lost).passes)))
          (at_7 (id_pending d.id st) refl)
        where
          full : Option Refusal
          full = check (table_full st) TableFull (check (log_full d st) NoRoom none)

          at_8 : (b : Bool) → done_test ≡ b → (Mem d st.waiting → ⊥) → Verdict (check b AlreadyDone full)
          at_8 true e out-w = refuses AlreadyDone (inl (has-run (true_T done_test e)))
          at_8 false e out-w =
              let out_r : Mem d G.inv.ran → ⊥ = λ k. false_T done_test e (run_is k) in
              rw (T_false (table_full st) (fresh_few out_r out-w), T_false (log_full d st) (fresh_fits out_r out-w)) (takes out_r out-w)

          at_7 : (b : Bool) → id_pending d.id st ≡ b → Verdict (check b IdPending (check done_test AlreadyDone full))
          at_7 true e = refuses IdPending (inr (is_waiting (true_T (id_pending d.id st) e)))
          at_7 false e = at_8 done_test refl (λ k. false_T (id_pending d.id st) e (waiting_is k))

      -- ### Redo

      redo_is : step (Redo (did_text d)) st ≡ unless (redo_refusal d st) (delivered d st)
      unfolding step writable perform redo redo_read check unless
      redo_is = ap (λ (r : Step Did). redo_read r st) (formed_read n d G.picked.histories (formed_lost d lost))

      -- A lost line that is refused has run or waits.
      redo-known : (r : Refusal) → step (Redo (did_text d)) st ≡ refused r → Mem d G.inv.ran ⊎ Mem d st.waiting
      unfolding unless delivered
      redo-known r e = go verdict (sym redo_is ∙ e)
        where
          go : {o : Option Refusal} → Verdict o → unless o (delivered d st) ≡ refused r → Mem d G.inv.ran ⊎ Mem d st.waiting
          go (refuses q k) p = k
          go (takes out_r out-w) p = absurd (refused_not_ok r _ _ (sym p))

      taken : State
      taken =
          let out = drain (start_of st) (suc (length st.waiting)) st.log (st.waiting ++ (d ∷ [])) in
          with_log out.log (with_waiting out.waiting st)

      redo_fresh : (after : State) (answer : Answer) → step (Redo (did_text d)) st ≡ ok after answer →
          (Mem d G.inv.ran → ⊥) × (Mem d st.waiting → ⊥) × (taken ≡ after)
      unfolding unless delivered taken
      redo_fresh after answer e = go verdict (sym redo_is ∙ e)
        where
          go : {o : Option Refusal} → Verdict o → unless o (delivered d st) ≡ ok after answer →
              (Mem d G.inv.ran → ⊥) × (Mem d st.waiting → ⊥) × (taken ≡ after)
          go (refuses q k) p = absurd (refused_not_ok q after answer p)
          go (takes out_r out-w) p = (out_r, out-w, ok_state taken after _ answer p)

      -- A chosen line that has not run and does not wait is taken.
      redo-taken : T (chosen d) → (Mem d G.inv.ran → ⊥) → (Mem d st.waiting → ⊥) → Good taken → Site (lines ++ did_text d ∷ []) taken
      unfolding taken
      redo-taken choice out_r out-w good =
          record {
            inv = drain_keeps (start_of st) (λ log wait. Inv (start_of st) did_text K L chosen (lines ++ did_text d ∷ []) log wait)
                (λ log a e b t I. inv_one (start_of st) did_text K L chosen setting (lines ++ did_text d ∷ []) log a e b t I)
                (suc (length st.waiting)) st.log (st.waiting ++ d ∷ [])
                (inv_add (start_of st) did_text K L chosen setting lines st.log st.waiting d G.inv lost choice out_r out-w);
            good = good;
            base_is = G.base_is;
            picked = G.picked;
            n_is = G.n_is;
            room = G.room;
            restoring = G.restoring;
            stables_are = G.stables_are;
            left = G.left;
          }

      pub redo_ok : T (chosen d) → (after : State) (answer : Answer) → step (Redo (did_text d)) st ≡ ok after answer → Good after →
          Site (lines ++ did_text d ∷ []) after
      redo_ok choice after answer e good = go (redo_fresh after answer e)
        where
          go : (Mem d G.inv.ran → ⊥) × (Mem d st.waiting → ⊥) × (taken ≡ after) → Site (lines ++ did_text d ∷ []) after
          go (out_r, out-w, p) = subst (Site (lines ++ did_text d ∷ [])) p (redo-taken choice out_r out-w (subst Good (sym p) good))

      -- A lost line has run or waits, where as many are live as were kept above the mark or lost.
      full-known : (live st < length (drop (skip (start_of st) KL) K) + length L → ⊥) → Mem d G.inv.ran ⊎ Mem d st.waiting
      full-known full = go verdict
        where
          go : {o : Option Refusal} → Verdict o → Mem d G.inv.ran ⊎ Mem d st.waiting
          go (refuses q k) = k
          go (takes out_r out-w) = absurd (full (fresh_below out_r out-w))

    -- A line that is refused there, for whatever reason, is none that was missing.
    pub redo_full_lem : (line : List ℕ) → (live st < length (drop (skip (start_of st) KL) K) + length L → ⊥) → Site (lines ++ line ∷ []) st
    redo_full_lem line full =
        record {
          inv =
              inv_again (start_of st) did_text K L chosen setting lines st.log st.waiting line G.inv
              (λ d p lost choice. full-known d lost full);
          good = G.good;
          base_is = G.base_is;
          picked = G.picked;
          n_is = G.n_is;
          room = G.room;
          restoring = G.restoring;
          stables_are = G.stables_are;
          left = G.left;
        }

    pub redo_refused_lem : (line : List ℕ) (r : Refusal) → step (Redo line) st ≡ refused r → Site (lines ++ line ∷ []) st
    redo_refused_lem line r e =
        record {
          inv = inv_again (start_of st) did_text K L chosen setting lines st.log st.waiting line G.inv
              (λ d p lost choice. redo-known d lost r (ap (λ (l : List ℕ). step (Redo l) st) p ∙ e));
          good = G.good;
          base_is = G.base_is;
          picked = G.picked;
          n_is = G.n_is;
          room = G.room;
          restoring = G.restoring;
          stables_are = G.stables_are;
          left = G.left;
        }
