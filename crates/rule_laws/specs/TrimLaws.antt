-- Trim: the copy is a log that restart accepts, and a restart from it shows the same histories, marks and log numbers.
use Rattle.std.specs.Prelude.{◌≡◌, Bool, true, false, ◌&&◌, ◌||◌, ℕ, ◌+◌, ◌-◌, ◌≤◌, ◌<◌, eqb, take}
use Rattle.std.proofs.Math.Path.{refl, sym, ap, ap₂, subst}
use Rattle.std.proofs.Common.{◌∙◌, ltb→lt, length-take, take-append-drop}
use Rattle.std.proofs.Math.Bool.{not}
use Rattle.std.proofs.Math.Option.{none, some}
use mathlib.Core.List.Memᴰ
use mathlib.Core.List.{List, [], ◌∷◌, ◌++◌, map, append_assoc, append-nil}
use mathlib.Core.List.{Memᴰ as Mem}
use native.Mathlib.Omega.{arith}
use Rattle.std.proofs.Math.Dec.{T, eqb_refl, leb, le→leb, ltb, not_T}
use Rattle.std.proofs.Math.Seq.{drop-drop}
use Rattle.std.proofs.Math.ListN.{length, length-drop, drop}
use Rattle.std.proofs.lemmas.List.{length-map}
use Rattle.forms.specs.Decimal.{top}
use Rattle.forms.specs.Lists.{below}
use Rattle.forms.specs.ListLaws.{Nodup, nodup_left, mem_of_drop, mem_along, mem-at, T_true, true_T, false_T, and_intro, all_of}
use Rattle.forms.specs.Forms.{Restarted, BaseCell, Change, Did, Line, did_line, stable_line}
use Rattle.forms.specs.Writable.{WritableBaseCell}
use Rattle.forms.specs.declared.Refusal.TheVariants.{AboveLimit}
use Rattle.forms.specs.Limits.{live_limit, base_top}
use Rattle.rules.specs.Book.{Cell, start_cell, cell_with, cell_from, cell, can_run, runs_at}
use Rattle.rules.specs.Checks.{history_twice}
use Rattle.rules.specs.Log.{dids, mark, closing, in_order, base_fits, live_in, table_holds, journal, log_text, read_log}
use Rattle.rules.specs.State.{State, ok, log_bytes, start_of, done_in, stable_to, live_done, live}
use Rattle.rules.specs.Calls.{restarted, restart_as, changeover}
use Rattle.rules.specs.Trim.{base_cell_at, trimmed_base, trimmed_lines, trim_text, trim_above, trim_refusal}
use Rattle.rule_laws.specs.Good.{Good, FormedDid, Ran, Rises, FitBase, did_ids}
use Rattle.rule_laws.specs.CheckLaws.{unless_none, check_none, not-lt, or_false_left, or_false_right, once_twice, formed_changes}
use Rattle.rule_laws.specs.BookLaws.{cell_from-append, each_once, place-below-length, can_run-at, can_run_of}
use Rattle.rule_laws.specs.WeaveLaws.{dids-append, dids-closing, dids-map, unweave, mark-nil, mark-dids, mark-stable, rises-nil}
use Rattle.rule_laws.specs.WeaveLaws.{rises-dids, rises-stable}
use Rattle.rule_laws.specs.IdLaws.{ids-later}
use Rattle.rule_laws.specs.FitLaws.{few_did_lines}
use Rattle.rule_laws.specs.LogLaws.{Stand, read_printed, histories_most}
use Rattle.rule_laws.specs.HeadLaws.{head_low, head_places}
use Rattle.rule_laws.specs.StartCellLaws.{Small, from_small, length-below, mem_below, get_d_below, order_below, start_small}

module _ (n room : ℕ) (st : State) (G : Good st) (free : trim_refusal n room st ≡ none) where
  pub record Bounds : Type 0 where
    pub mark_up : n ≤ stable_to st
    pub limit : n ≤ base_top
    pub base_low : (start_of st).up_to ≤ n

  pub bounds : Bounds
  unfolding trim_refusal trim_above
  bounds =
      let q13 = check_none _ AboveLimit _ free in
      let left = or_false_left (ltb (stable_to st) n || ltb base_top n) (ltb n (start_of st).up_to || ltb _ room) q13.0 in
      let right = or_false_right (ltb (stable_to st) n || ltb base_top n) (ltb n (start_of st).up_to || ltb _ room) q13.0 in
      record {
        mark_up = not-lt (stable_to st) n (or_false_left (ltb (stable_to st) n) (ltb base_top n) left);
        limit = not-lt base_top n (or_false_right (ltb (stable_to st) n) (ltb base_top n) left);
        base_low = not-lt n (start_of st).up_to (or_false_left (ltb n (start_of st).up_to) (ltb _ room) right);
      }

  -- The copy starts where the first n operations leave the histories.
  start_is : (h : ℕ) → h < st.histories → start_cell (trimmed_base n st) h ≡ cell (start_of st) h (take (n - (start_of st).up_to) st.log)
  unfolding start_cell trimmed_base base_cell_at
  start_is h lt =
      ap (λ (x : BaseCell). record { profile = x.profile; version = x.version; place = x.place })
      (get_d_below (base_cell_at n st) st.histories h lt)

  pub cell-behind : (h : ℕ) → h < st.histories → (a : List Did) →
      cell (trimmed_base n st) h a ≡ cell (start_of st) h (take (n - (start_of st).up_to) st.log ++ a)
  unfolding cell_with
  cell-behind h lt a =
      ap (λ (c : Cell). cell_from h c a) (start_is h lt)
      ∙ sym (cell_from-append h (start_cell (start_of st) h) (take (n - (start_of st).up_to) st.log) a)

  apart : take (n - (start_of st).up_to) st.log ++ drop (n - (start_of st).up_to) st.log ≡ st.log
  apart = take-append-drop (n - (start_of st).up_to) st.log

  formed_first : (d : Did) → Mem d (take (n - (start_of st).up_to) st.log) → FormedDid st.histories d
  formed_first d m = G.formed d (mem_along apart (Memᴰ.append_left (drop (n - (start_of st).up_to) st.log) m))

  small : (h : ℕ) → Small (cell (start_of st) h (take (n - (start_of st).up_to) st.log))
  unfolding cell_with
  small h =
      from_small h (start_cell (start_of st) h) (take (n - (start_of st).up_to) st.log) (λ d m. (formed_first d m).writable)
      (start_small st.histories st.base G.head h)

  place_low : (h : ℕ) → (cell (start_of st) h (take (n - (start_of st).up_to) st.log)).place ≤ n
  place_low h =
      omega (
        arith,
        place-below-length (start_of st) h (take (n - (start_of st).up_to) st.log) (each_once st.histories _ formed_first),
        head_places st.histories st.base G.head h,
        length-take (n - (start_of st).up_to) st.log,
        bounds.base_low,
      )

  number_low : (trimmed_base n st).up_to ≤ top
  unfolding trimmed_base
  number_low = omega (arith, bounds.limit)

  done_low : done_in st ≤ top
  unfolding log_bytes
  done_low =
      omega (
        arith,
        G.fits,
        G.room_limit,
        few_did_lines st.histories st.base st.log st.stables,
        head_low st.histories st.base G.head,
      )

  -- What its base line says of each history.
  each_base_cell : (P : BaseCell → Type 0) → ((h : ℕ) → h < st.histories → P (base_cell_at n st h)) → (x : BaseCell) →
      Mem x (trimmed_base n st).cells → P x
  unfolding trimmed_base
  each_base_cell P own x m = go (Memᴰ.of_map (base_cell_at n st) (below st.histories) m)
    where
      go : (h : ℕ) × Mem h (below st.histories) × (base_cell_at n st h ≡ x) → P x
      go (h, b, e) = subst P e (own h (mem_below st.histories h b))

  base_cell-place : (h : ℕ) → T (leb (base_cell_at n st h).place n)
  unfolding base_cell_at
  base_cell-place h = le→leb _ n (place_low h)

  base_cell-writable : (h : ℕ) → h < st.histories → WritableBaseCell (base_cell_at n st h)
  unfolding base_cell_at
  base_cell-writable h lt =
      record {
        history = omega (arith, histories_most st.histories G.histories);
        version = (small h).version;
        place = omega (arith, place_low h, bounds.limit);
        profile = (small h).profile;
      }

  base_cell-own : (h : ℕ) → (base_cell_at n st h).history ≡ h
  unfolding base_cell_at
  base_cell-own h = refl

  base_fits_lem : base_fits st.histories (trimmed_base n st) ≡ true
  unfolding base_fits trimmed_base
  base_fits_lem =
      T_true (base_fits st.histories (trimmed_base n st))
      (and_intro (eqb (length (map (base_cell_at n st) (below st.histories))) st.histories) _
      (subst (λ (i : ℕ). T (eqb i st.histories))
      (sym (length-map (below st.histories) (base_cell_at n st) ∙ length-below st.histories)) (eqb_refl st.histories))
      (and_intro (in_order 0 (map (base_cell_at n st) (below st.histories))) _ (order_below (base_cell_at n st) base_cell-own st.histories)
      (and_intro (leb n base_top) _ (le→leb n base_top bounds.limit)
      (all_of (λ (x : BaseCell). leb x.place n) (map (base_cell_at n st) (below st.histories))
      (each_base_cell (λ (x : BaseCell). T (leb x.place n)) (λ h lt. base_cell-place h))))))

  head_fits_lem : FitBase st.histories (trimmed_base n st)
  head_fits_lem =
      record {
        fits = base_fits_lem;
        writable = record { up_to = up; cells = each_base_cell WritableBaseCell base_cell-writable };
      }
    where
      up : (trimmed_base n st).up_to ≤ top
      up = number_low

  -- ### Its lines

  pub dids_are : dids (trimmed_lines n st) ≡ drop (n - (start_of st).up_to) st.log
  unfolding trimmed_lines
  dids_are =
      dids-append (map did_line (drop (n - (start_of st).up_to) st.log)) (closing n (stable_to st))
      ∙ ap₂ (λ (x y : List Did). x ++ y) (dids-map (drop (n - (start_of st).up_to) st.log)) (dids-closing n (stable_to st))
      ∙ append-nil (drop (n - (start_of st).up_to) st.log)

  ran-behind : Ran (trimmed_base n st) (drop (n - (start_of st).up_to) st.log)
  ran-behind a d b e =
      can_run_of (trimmed_base n st) a d (λ x m.
      subst (λ (c : Cell). T (runs_at c x)) (sym (cell-behind x.history (known x m) a))
      (can_run-at (start_of st) (take (n - (start_of st).up_to) st.log ++ a) d ran x m))
    where
      whole : st.log ≡ (take (n - (start_of st).up_to) st.log ++ a) ++ d ∷ b
      whole =
          sym apart ∙ ap (λ (l : List Did). take (n - (start_of st).up_to) st.log ++ l) e
          ∙ sym (append_assoc (take (n - (start_of st).up_to) st.log) a (d ∷ b))

      ran : T (can_run (start_of st) (take (n - (start_of st).up_to) st.log ++ a) d)
      ran = G.ran (take (n - (start_of st).up_to) st.log ++ a) d b whole

      known : (x : Change) → Mem x d.changes → x.history < st.histories
      known x m =
          (formed_changes st.histories d.changes
          (G.formed d (mem_along (sym whole) (mem-at d (take (n - (start_of st).up_to) st.log ++ a) b))).passes).known x m

  pub number : (trimmed_base n st).up_to ≡ n
  unfolding trimmed_base
  number = refl

  -- the mark of its did lines is n, and that of its lines the present mark
  mark-first : mark (trimmed_base n st) (map did_line (drop (n - (start_of st).up_to) st.log)) ≡ n
  mark-first = mark-dids (trimmed_base n st) [] (drop (n - (start_of st).up_to) st.log) ∙ mark-nil (trimmed_base n st) ∙ number

  done-behind : n + length (drop (n - (start_of st).up_to) st.log) ≡ done_in st
  done-behind =
      omega (arith, length-drop (n - (start_of st).up_to) st.log, bounds.base_low, bounds.mark_up, G.stable_below, G.persistent_below)

  mark_is : mark (trimmed_base n st) (trimmed_lines n st) ≡ stable_to st
  unfolding trimmed_lines closing
  mark_is = go (ltb n (stable_to st)) refl
    where
      ds : List Line
      ds = map did_line (drop (n - (start_of st).up_to) st.log)

      go : (b : Bool) → ltb n (stable_to st) ≡ b →
          mark (trimmed_base n st) (ds ++ (elim b [ true ↦ stable_line (stable_to st) ∷ [] | false ↦ [] ])) ≡ stable_to st
      go true e = mark-stable (trimmed_base n st) ds (stable_to st)
      go false e =
          let same : stable_to st ≡ n = omega (arith, bounds.mark_up, not-lt n (stable_to st) e) in
          ap (mark (trimmed_base n st)) (append-nil ds) ∙ mark-first ∙ sym same

  rises-behind : Rises (trimmed_base n st) (trimmed_lines n st)
  unfolding trimmed_lines closing
  rises-behind = go (ltb n (stable_to st)) refl
    where
      ds : List Line
      ds = map did_line (drop (n - (start_of st).up_to) st.log)

      plain : Rises (trimmed_base n st) ds
      plain = rises-dids (trimmed_base n st) [] (drop (n - (start_of st).up_to) st.log) (rises-nil (trimmed_base n st))

      go : (b : Bool) → ltb n (stable_to st) ≡ b →
          Rises (trimmed_base n st) (ds ++ (elim b [ true ↦ stable_line (stable_to st) ∷ [] | false ↦ [] ]))
      go true e =
          rises-stable (trimmed_base n st) ds (stable_to st) plain
          (record {
            above = let lt = ltb→lt n (stable_to st) (true_T (ltb n (stable_to st)) e) in omega (arith, mark-first);
            within =
                omega (
                  arith,
                  number,
                  ap length (dids-map (drop (n - (start_of st).up_to) st.log)),
                  done-behind,
                  G.stable_below,
                  G.persistent_below,
                );
            writable = omega (arith, G.stable_below, G.persistent_below, done_low);
          })
      go false e = subst (Rises (trimmed_base n st)) (sym (append-nil ds)) plain

  stands : Stand (trimmed_base n st) st.histories (trimmed_lines n st)
  stands =
      record {
        formed = λ d m. G.formed d (mem_of_drop (n - (start_of st).up_to) st.log (mem_along dids_are m));
        ran = subst (Ran (trimmed_base n st)) (sym dids_are) ran-behind;
        rises = rises-behind;
      }

  -- The operations above the mark are live as before.
  live_are : live_in (trimmed_base n st) (trimmed_lines n st) ≡ drop (stable_to st - (start_of st).up_to) st.log
  unfolding live_in
  live_are =
      let e : (n - (start_of st).up_to) + (stable_to st - n) ≡ stable_to st - (start_of st).up_to =
      omega (arith, bounds.base_low, bounds.mark_up) in
      ap₂ (λ (i : ℕ) (l : List Did). drop i l) (ap₂ (λ (x y : ℕ). x - y) mark_is number) dids_are
      ∙ drop-drop (stable_to st - n) (n - (start_of st).up_to) st.log
      ∙ ap (λ (i : ℕ). drop i st.log) e

  table_holds_lem : table_holds (trimmed_base n st) (trimmed_lines n st) ≡ true
  unfolding table_holds live live_done
  table_holds_lem =
      ap (λ (l : List Did). leb (length l) live_limit && not (history_twice (did_ids l))) live_are
      ∙ T_true (leb (length above) live_limit && not (history_twice (did_ids above)))
      (and_intro (leb (length above) live_limit) _
      (le→leb (length above) live_limit
      (omega (
        arith,
        G.few,
        G.left_below,
        length-drop (stable_to st - (start_of st).up_to) st.log,
        length-drop (st.left_to - (start_of st).up_to) st.log,
      )))
      (not_T (history_twice (did_ids above)) (false_T (history_twice (did_ids above)) (once_twice (did_ids above) once))))
    where
      above : List Did
      above = drop (stable_to st - (start_of st).up_to) st.log

      once : Nodup (did_ids above)
      once =
          nodup_left (did_ids above) _
          (ids-later (λ (d : Did). d.id) (st.left_to - (start_of st).up_to) (stable_to st - (start_of st).up_to)
          (let le = G.left_below in omega arith) st.log _ G.ids)

  live-copied : drop (mark (trimmed_base n st) (trimmed_lines n st) - (trimmed_base n st).up_to) (dids (trimmed_lines n st))
      ≡ drop (stable_to st - (start_of st).up_to) st.log
  unfolding live_in
  live-copied = live_are

  -- Restart reads the copy as it was made.
  pub trim_reads : read_log (trim_text n st) ≡ journal st.histories (some (trimmed_base n st)) (trimmed_lines n st)
  unfolding trim_text
  trim_reads = read_printed st.histories (some (trimmed_base n st)) (trimmed_lines n st) G.histories head_fits_lem stands table_holds_lem

  abbrev pub copied : State
  copied = restarted room st.histories (some (trimmed_base n st)) (trimmed_lines n st)

  -- "Restart from the shorter log shows the same histories, marks and log numbers as from the full one."
  pub record Same : Type 0 where
    pub histories : (h : ℕ) → h < st.histories → cell (start_of copied) h copied.log ≡ cell (start_of st) h st.log
    pub done : done_in copied ≡ done_in st
    pub persistent : copied.persistent_to ≡ done_in st
    pub stable : stable_to copied ≡ stable_to st
    pub left : copied.left_to ≡ stable_to st
    pub lines : live_done copied ≡ drop (stable_to st - (start_of st).up_to) st.log

  pub trim_same : Same
  unfolding restarted live_done
  trim_same =
      record {
        histories =
            λ h lt. ap (cell (trimmed_base n st) h) dids_are ∙ cell-behind h lt (drop (n - (start_of st).up_to) st.log)
            ∙ ap (cell (start_of st) h) apart;
        done = omega (arith, ap length dids_are, number, done-behind);
        persistent = omega (arith, ap length dids_are, number, done-behind);
        stable = ap (mark (trimmed_base n st)) (unweave (trimmed_lines n st)) ∙ mark_is;
        left = mark_is;
        lines = live-lines;
      }
    where
      live-lines : drop (mark (trimmed_base n st) (trimmed_lines n st) - (trimmed_base n st).up_to) (dids (trimmed_lines n st))
          ≡ drop (stable_to st - (start_of st).up_to) st.log
      live-lines = live-copied

  pub text_is : length (log_bytes copied) ≡ length (trim_text n st)
  unfolding log_bytes restarted trim_text
  text_is = ap (λ (l : List Line). length (log_text st.histories (some (trimmed_base n st)) l)) (unweave (trimmed_lines n st))

  -- A restart from the copy is accepted, and replies the operations done and the bytes used.
  pub restarts : restart_as room (read_log (trim_text n st)) ≡ ok copied (Restarted (done_in st) (length (trim_text n st)))
  unfolding restart_as
  restarts =
      ap (restart_as room) trim_reads
      ∙ ap₂ (λ (x y : ℕ). ok copied (Restarted x y)) (omega (arith, ap length dids_are, number, done-behind)) text_is

  -- .. and so is the changeover.
  pub changes_over_lem : changeover n room st ≡ ok copied (Restarted (done_in st) (length (trim_text n st)))
  unfolding changeover
  changes_over_lem = unless_none (trim_refusal n room st) _ free ∙ restarts
