-- What each call of the site keeps after the picked cut.
use Rattle.std.specs.Prelude.{◌≡◌, Bool, ◌&&◌, ℕ, ◌≤◌}
use Rattle.std.proofs.Math.Path.{refl, sym, ap, subst}
use Rattle.std.proofs.Common.{◌∙◌, arith, length-append}
use Rattle.std.proofs.Math.Bool.{true, false}
use Rattle.std.proofs.Math.Option.{Option, none}
use mathlib.Core.List.{List, [], ◌∷◌, ◌++◌, map, head-eq_of_cons-eq, tail-eq_of_cons-eq, nil≢cons}
use mathlib.Core.List.{Memᴰ as Mem}
use Rattle.std.proofs.Math.Dec.{T}
use Rattle.std.proofs.Math.ListN.{length}
use Rattle.forms.specs.ListLaws.{Prefix}
use Rattle.forms.specs.ListLaws.{append_split, true_T, false_T}
use Rattle.forms.specs.Forms.{Base, Did, Line, did_line, stable_line, did_text, Answer}
use Rattle.forms.specs.declared.Refusal.{Refusal}
use Rattle.forms.specs.declared.Refusal.TheVariants.{Unreadable, OutOfTurn, AboveLimit}
use Rattle.forms.specs.declared.Refusal.TheVariants.{NoSuchHistory}
use Rattle.rules.specs.Log.{dids, stables_of, mark}
use Rattle.rules.specs.State.{State, start_of, Reply, refused, ok, settle, lines_in}
use Rattle.rules.specs.State.{with_marks, with_stables}
use Rattle.rules.specs.Calls.{restarted, cut, add_refusal, add, finish, withdraw_refusal, withdraw, persistent, above_mark}
use Rattle.rules.specs.Calls.{stable_refusal, stabled, stable, show, end, Call, Add, Finish, Withdraw, Persistent, Stable, Show, Cut, Redo}
use Rattle.rules.specs.Calls.{Changeover, End, perform, step}
use Rattle.rule_laws.specs.Good.{Good}
use Rattle.rule_laws.specs.CheckLaws.{check_none, unless_ok, unless-check}
use Rattle.rule_laws.specs.WeaveLaws.{dids-append, dids-weave, stables_dids, mark-dids, did-not-stable}
use Rattle.recovery.specs.Claim.{comes_after}
use Rattle.recovery.proofs.Cuts.{ok_state, cut_ok, lines-restarted}
use Rattle.recovery.proofs.Invariant.{inv_cut}
use Rattle.recovery.proofs.Steps.{Site, setting, site-lines, redo_ok, redo_refused_lem}

-- A first part of did lines is did lines.
dids_only : (ran : List Did) (t rest : List Line) → map did_line ran ≡ t ++ rest → t ≡ map did_line (dids t)
dids_only ran [] rest e = refl
dids_only [] (x ∷ t) rest e = absurd (nil≢cons e)
dids_only (d ∷ ran) (x ∷ t) rest e = first x (head-eq_of_cons-eq e) (dids_only ran t rest (tail-eq_of_cons-eq e))
  where
    first : (y : Line) → did_line d ≡ y → t ≡ map did_line (dids t) → y ∷ t ≡ map did_line (dids (y ∷ t))
    first (did_line z) p q = ap (λ (l : List Line). did_line z ∷ l) q
    first (stable_line k) p q = absurd (did-not-stable d k p)

module _ (n : ℕ) (β : Option Base) (KL : List Line) (K L : List Did) (chosen : Did → Bool) where
  -- what holds of the site
  abbrev At : List (List ℕ) → State → Type 0
  At lines st = Site n β KL K L chosen lines st

  module _ (lines : List (List ℕ)) (st : State) (G : At lines st) where
    cut-taken : (room : ℕ) (kept rest : List Line) → lines_in st ≡ kept ++ rest → length KL ≤ length kept → st.room ≤ room →
        Good (restarted room st.histories st.base kept) → At [] (restarted room st.histories st.base kept)
    unfolding restarted
    cut-taken room kept rest e le wide good =
        go (append_split KL (map did_line G.inv.ran) kept rest (sym (site-lines n β KL K L chosen lines st G) ∙ e) le)
      where
        log_is : st.log ≡ dids kept ++ dids rest
        log_is = sym (dids-weave st.log st.stables) ∙ ap dids e ∙ dids-append kept rest

        go : (t : List Line) × (kept ≡ KL ++ t) × (map did_line G.inv.ran ≡ t ++ rest) →
            At [] (restarted room st.histories st.base kept)
        go (t, p, q) =
            let plain : kept ≡ KL ++ map did_line (dids t) = p ∙ ap (λ (x : List Line). KL ++ x) (dids_only G.inv.ran t rest q) in
            let more : length K ≤ length (dids kept) =
            omega (
              arith,
              ap length G.picked.kept,
              ap (λ (x : List Line). length (dids x)) p,
              ap length (dids-append KL t),
              length-append (dids KL) (dids t),
            ) in
            record {
              inv =
                  inv_cut (start_of st) did_text K L chosen (setting n β KL K L chosen lines st G) lines
                  st.log st.waiting (dids kept) (dids rest)
                  G.inv log_is more;
              good = good;
              base_is = G.base_is;
              picked = G.picked;
              n_is = G.n_is;
              room = omega (arith, G.room);
              restoring = refl;
              stables_are = ap stables_of plain ∙ stables_dids KL (dids t);
              left = omega (arith, ap (mark (start_of st)) plain, mark-dids (start_of st) KL (dids t));
            }

    cut_keeps : (k room : ℕ) (after : State) (answer : Answer) → cut k room st ≡ ok after answer → length KL ≤ length (lines_in after) →
        st.room ≤ room →
        Good after → At [] after
    cut_keeps k room after answer e le wide good = go (cut_ok k room st after answer G.good e)
      where
        go : (kept : List Line) × Prefix kept (lines_in st) × (after ≡ restarted room st.histories st.base kept) → At [] after
        go (kept, (rest, p), q) =
            subst (At []) (sym q)
            (cut-taken room kept rest p
            (omega (arith, ap (λ (s : State). length (lines_in s)) q, ap length (lines-restarted room st.histories st.base kept))) wide
            (subst Good q good))

    marked : (p t : ℕ) → st.left_to ≤ t → Good (with_marks p t st) → At lines (with_marks p t st)
    marked p t le good =
        record {
          inv = G.inv;
          good = good;
          base_is = G.base_is;
          picked = G.picked;
          n_is = G.n_is;
          room = G.room;
          restoring = G.restoring;
          stables_are = G.stables_are;
          left = omega (arith, G.left);
        }

    marked_as : (p t : ℕ) (after : State) → with_marks p t st ≡ after → st.left_to ≤ t → Good after → At lines after
    marked_as p t after e le good = subst (At lines) e (marked p t le (subst Good (sym e) good))

    -- A restoring site writes no stable line.
    no_stable : (n : ℕ) → stable_refusal n st ≡ none → stabled n st ≡ st
    unfolding stable_refusal stabled
    no_stable n e = go (above_mark n st) (check_none _ OutOfTurn _ e).0
      where
        go : (b : Bool) → (b && st.restoring) ≡ false →
            (elim b [ true ↦ with_stables (st.stables ++ (record { behind = length st.log; up_to = n } ∷ [])) st | false ↦ st ]) ≡ st
        go true q = absurd (false_T st.restoring q (true_T st.restoring G.restoring))
        go false q = refl

    on : st.restoring ≡ false → ⊥
    on e = false_T st.restoring e (true_T st.restoring G.restoring)

    -- What is to be shown of a call.
    Keeps : Call → Type 0
    Keeps c = Good (settle (step c st) st) → At (comes_after c (step c st) lines) (settle (step c st) st)

    by_reply : (c : Call) → ((r : Refusal) → step c st ≡ refused r → At (comes_after c (refused r) lines) st) →
        ((after : State) (answer : Answer) → perform c st ≡ ok after answer → step c st ≡ ok after answer → Good after →
        At (comes_after c (ok after answer) lines) after) → Keeps c
    unfolding Keeps settle step
    by_reply c off on good = go (step c st) refl good
      where
        go : (x : Reply) → step c st ≡ x → Good (settle x st) → At (comes_after c x lines) (settle x st)
        go (refused r) e g = off r e
        go (ok after answer) e g = on after answer (unless-check _ Unreadable _ after answer e).1 e g

  -- What is asked of a call after the picked cut.
  abbrev pub Obeys : State → Call → Type 0
  Obeys st (Add i us) = Unit {0}
  Obeys st (Finish i) = Unit {0}
  Obeys st (Withdraw i) = Unit {0}
  Obeys st (Persistent k) = Unit {0}
  Obeys st (Stable k) = Unit {0}
  Obeys st (Show h) = Unit {0}
  Obeys st (Cut k room) =
      (after : State) (answer : Answer) → step (Cut k room) st ≡ ok after answer → (length KL ≤ length (lines_in after)) × (st.room ≤ room)
  Obeys st (Changeover k room) = (after : State) (answer : Answer) → step (Changeover k room) st ≡ ok after answer → ⊥
  Obeys st (Redo line) =
      (after : State) (answer : Answer) → step (Redo line) st ≡ ok after answer → (d : Did) × Mem d L × T (chosen d) × (line ≡ did_text d)
  Obeys st End = (after : State) (answer : Answer) → step End st ≡ ok after answer → ⊥

  pub step_keeps : (lines : List (List ℕ)) (st : State) (G : At lines st) (c : Call) → Obeys st c → Good (settle (step c st) st) →
      At (comes_after c (step c st) lines) (settle (step c st) st)
  unfolding Keeps perform comes_after add add_refusal finish withdraw withdraw_refusal persistent stable show end
  step_keeps lines st G (Add i us) o =
      by_reply lines st G (Add i us) (λ r e. G)
      (λ after answer e q good. absurd (on lines st G (check_none _ OutOfTurn _ (unless_ok _ _ after answer e).0).0))
  step_keeps lines st G (Finish i) o =
      by_reply lines st G (Finish i) (λ r e. G)
      (λ after answer e q good. absurd (on lines st G (unless-check _ OutOfTurn _ after answer e).0))
  step_keeps lines st G (Withdraw i) o =
      by_reply lines st G (Withdraw i) (λ r e. G)
      (λ after answer e q good. absurd (on lines st G (check_none _ OutOfTurn _ (unless_ok _ _ after answer e).0).0))
  step_keeps lines st G (Persistent k) o =
      by_reply lines st G (Persistent k) (λ r e. G)
      (λ after answer e q good.
      marked_as lines st G _ _ after (ok_state _ after _ answer (unless-check _ AboveLimit _ after answer e).1) (omega arith) good)
  step_keeps lines st G (Stable k) o =
      by_reply lines st G (Stable k) (λ r e. G)
      (λ after answer e q good. let r = unless_ok _ _ after answer e in
      subst (At lines) (sym (no_stable lines st G k r.0) ∙ ok_state _ after _ answer r.1) G)
  step_keeps lines st G (Show h) o =
      by_reply lines st G (Show h) (λ r e. G)
      (λ after answer e q good. subst (At lines) (ok_state st after _ answer (unless-check _ NoSuchHistory _ after answer e).1) G)
  step_keeps lines st G (Cut k room) o =
      by_reply lines st G (Cut k room) (λ r e. G)
      (λ after answer e q good. let f = o after answer q in cut_keeps lines st G k room after answer e f.0 f.1 good)
  step_keeps lines st G (Changeover k room) o =
      by_reply lines st G (Changeover k room) (λ r e. G) (λ after answer e q good. absurd (o after answer q))
  step_keeps lines st G (Redo line) o =
      by_reply lines st G (Redo line) (redo_refused_lem n β KL K L chosen lines st G line)
      (λ after answer e q good. taken_as after answer q good (o after answer q))
    where
      taken_as : (after : State) (answer : Answer) → step (Redo line) st ≡ ok after answer → Good after →
          (d : Did) × Mem d L × T (chosen d) × (line ≡ did_text d) →
          At (lines ++ line ∷ []) after
      taken_as after answer q good (d, lost, choice, p) =
          subst (λ (l : List ℕ). At (lines ++ l ∷ []) after) (sym p)
          (redo_ok n β KL K L chosen lines st G d lost choice after answer (ap (λ (l : List ℕ). step (Redo l) st) (sym p) ∙ q) good)
  step_keeps lines st G End o =
      by_reply lines st G End (λ r e. G) (λ after answer e q good. absurd (o after answer q))
