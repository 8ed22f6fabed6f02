-- The changeover of an older log (`OldLog`): what it reads is a printed log of did lines that could be kept, and what it writes reads back
-- as the same did lines, all of them stable and none live.
use Rattle.std.specs.Prelude.{◌≡◌, Bool, ◌&&◌, ◌||◌, ℕ, ◌+◌, ◌-◌, ◌≤◌, T, take}
use Rattle.std.proofs.Math.Path.{refl, ap, ap₂}
use Rattle.std.proofs.Common.{sym, ◌∙◌, subst, ltb→lt, le-ltb, length-append, length-drop}
use Rattle.std.proofs.Math.Bool.{true, false, not}
use mathlib.Core.List.{List, [], ◌∷◌, ◌++◌, map, append-nil, append_assoc}
use mathlib.Core.List.Memᴰ
use mathlib.Core.List.{Memᴰ as Mem}
use Rattle.std.proofs.Math.Option.{Option, none}
use native.Mathlib.Omega.{arith}
use Rattle.std.proofs.Math.Dec.{leb, ltb}
use Rattle.std.proofs.Math.ListN.{length, drop}
use Rattle.std.proofs.Math.Seq.{take-append_seam, drop-append_seam, drop-length}
use Rattle.forms.specs.Decimal.{top}
use Rattle.forms.specs.Limits.{part_limit, live_limit, log_limit}
use Rattle.forms.specs.ListLaws.{mem_along, true_T}
use Rattle.forms.specs.Forms.{Base, Did, Line, did_line, stable_line, site_text, did_text, line_text, Restarted}
use Rattle.forms.specs.Reading.{read_did, read_site}
use Rattle.forms.specs.DidLaws.{read_did_read, read_site_read}
use Rattle.forms.specs.declared.Refusal.{Refusal}
use Rattle.forms.specs.declared.Refusal.TheVariants.{AboveLimit, NoRoom, BadLog}
use Rattle.rules.specs.Checks.{check, history_twice}
use Rattle.rules.specs.Log.{dids, mark, accepts, histories_fit, live_in, table_holds, Journal, journal, no_journal, ended, lines_text}
use Rattle.rules.specs.Log.{lines_of, rest_of, closing, head_text, log_text, read_log}
use Rattle.rules.specs.Book.{blank_base}
use Rattle.rules.specs.OldLog.{read_old_lines_with, read_old_first_with, read_old_with, read_old, not_upgraded, upgraded}
use Rattle.rules.specs.OldLog.{placed}
use Rattle.rules.specs.OldLog.{upgraded_lines, upgraded_text, upgrade_as, upgrade}
use Rattle.rules.specs.State.{State, ok, log_bytes, stable_to, live_done, live}
use Rattle.rules.specs.Calls.{unless, restart, restart_as, restarted}
use Rattle.rule_laws.specs.Good.{FormedDid, Ran, Rises}
use Rattle.rule_laws.specs.CheckLaws.{not-lt, or_false_right}
use Rattle.rule_laws.specs.BookLaws.{ran-nil, ran_snoc}
use Rattle.rule_laws.specs.WeaveLaws.{dids-append, dids-closing, dids-map, unweave, mark-nil, mark-dids, mark-stable, rises-nil}
use Rattle.rule_laws.specs.WeaveLaws.{rises-dids}
use Rattle.rule_laws.specs.WeaveLaws.{rises-stable}
use Rattle.rule_laws.specs.FitLaws.{few_log_lines, dids_few}
use Rattle.rule_laws.specs.LineSplitLaws.{ended_all, split_same}
use Rattle.rule_laws.specs.AcceptedLaws.{by_test, by_read}
use Rattle.rule_laws.specs.LogLaws.{accepts-passes, accepts-runs, formed_snoc, read_printed}

-- ### What is read

-- what did lines that are read behind the lines seen are
record OldLines (n : ℕ) (seen : List Did) (ls : List (List ℕ)) (m : ℕ) (lines : List Line) : Type 0 where
  more : List Did
  whole : lines ≡ map did_line (seen ++ more)
  text : ended_all ls ≡ lines_text (map did_line more)
  formed : (d : Did) → Mem d (seen ++ more) → FormedDid n d
  ran : (Ran blank_base) (seen ++ more)
  same : m ≡ n

old_none : (n : ℕ) (seen : List Did) (m : ℕ) (lines : List Line) → ((d : Did) → Mem d seen → FormedDid n d) → Ran blank_base seen →
    journal n none (map did_line seen) ≡ journal m none lines → OldLines n seen [] m lines
unfolding ended_all lines_text
old_none n seen m lines f r e =
    let q : map did_line seen ≡ lines = cc in
    record {
      more = [];
      whole = sym q ∙ ap (map did_line) (sym (append-nil seen));
      text = refl;
      formed = λ d k. f d (mem_along (append-nil seen) k);
      ran = subst (Ran blank_base) (sym (append-nil seen)) r;
      same = cc;
    }

old-one : (n : ℕ) (seen : List Did) (l : List ℕ) (ls : List (List ℕ)) (m : ℕ) (lines : List Line) (d : Did) → l ≡ did_text d →
    OldLines n (seen ++ (d ∷ [])) ls m lines → OldLines n seen (l ∷ ls) m lines
unfolding ended_all lines_text line_text
old-one n seen l ls m lines d e s =
    let q : (seen ++ (d ∷ [])) ++ s.more ≡ seen ++ d ∷ s.more = append_assoc seen (d ∷ []) s.more in
    record {
      more = d ∷ s.more;
      whole = s.whole ∙ ap (map did_line) q;
      text = ap₂ (λ (y z : List ℕ). ended y ++ z) e s.text;
      formed = λ x k. s.formed x (mem_along (sym q) k);
      ran = subst (Ran blank_base) q s.ran;
      same = s.same;
    }

old_lines_lem : (n : ℕ) (seen : List Did) (ls : List (List ℕ)) (m : ℕ) (lines : List Line) → ((d : Did) → Mem d seen → FormedDid n d) →
    Ran blank_base seen → read_old_lines_with part_limit n seen ls ≡ journal m none lines → OldLines n seen ls m lines
unfolding read_old_lines_with
old_lines_lem n seen [] m lines f r e = old_none n seen m lines f r e
old_lines_lem n seen (l ∷ ls) m lines f r e =
    by_read (read_did l) _ m none lines e λ d rest q h.
    by_test (accepts blank_base n seen d) _ m none lines h λ w k.
    let read = read_did_read l d rest q in
    let one : FormedDid n d = record { passes = accepts-passes blank_base n seen d w; writable = read.2 } in
    old-one n seen l ls m lines d read.0
    (old_lines_lem n (seen ++ (d ∷ [])) ls m lines (formed_snoc n seen d f one)
    (ran_snoc blank_base seen d r (accepts-runs blank_base n seen d w)) k)

-- What bytes that are an older log are: a printed log of did lines, and an unended last line.
pub record OldAs (bs : List ℕ) (n : ℕ) (lines : List Line) : Type 0 where
  pub histories : T (histories_fit n)
  pub log : List Did
  pub whole : lines ≡ map did_line log
  pub formed : (d : Did) → Mem d log → FormedDid n d
  pub ran : (Ran blank_base) log
  pub same : bs ≡ log_text n none lines ++ rest_of bs

-- the same of its whole lines
record OldFirst (ls : List (List ℕ)) (n : ℕ) (lines : List Line) : Type 0 where
  histories : T (histories_fit n)
  log : List Did
  whole : lines ≡ map did_line log
  formed : (d : Did) → Mem d log → FormedDid n d
  ran : (Ran blank_base) log
  text : ended_all ls ≡ log_text n none lines

old-first_is : (m : ℕ) (ls : List (List ℕ)) (n : ℕ) (lines : List Line) → T (histories_fit m) → OldLines m [] ls n lines →
    OldFirst (site_text m ∷ ls) n lines
unfolding ended_all log_text head_text
old-first_is m ls n lines h s =
    record {
      histories = subst (λ (x : ℕ). T (histories_fit x)) (sym s.same) h;
      log = s.more;
      whole = s.whole;
      formed = λ d k. subst (λ (x : ℕ). FormedDid x d) (sym s.same) (s.formed d k);
      ran = s.ran;
      text =
          ap₂ (λ (x : ℕ) (y : List ℕ). ended (site_text x) ++ y) (sym s.same) (s.text ∙ ap lines_text (sym s.whole))
          ∙ sym (append_assoc (ended (site_text n)) [] (lines_text lines));
    }

old-first : (ls : List (List ℕ)) (n : ℕ) (lines : List Line) → read_old_first_with part_limit ls ≡ journal n none lines → OldFirst ls n lines
unfolding read_old_first_with
old-first [] n lines e = let z : ◌≡◌ {A = ℕ} 0 1 = cc in absurd (omega arith)
old-first (l ∷ ls) n lines e =
    by_read (read_site l) _ n none lines e λ m rest q h.
    by_test (histories_fit m) _ n none lines h λ w k.
    subst (λ (x : List ℕ). OldFirst (x ∷ ls) n lines) (sym (read_site_read l m rest q).0)
    (old-first_is m ls n lines (true_T (histories_fit m) w)
    (old_lines_lem m [] ls n lines (λ d j. absurd (Memᴰ.not-nil j)) (ran-nil blank_base) k))

-- An older log has no base line.
no_base_in : (n : ℕ) (seen : List Did) (ls : List (List ℕ)) (m : ℕ) (β : Option Base) (lines : List Line) →
    read_old_lines_with part_limit n seen ls ≡ journal m β lines → β ≡ none
unfolding read_old_lines_with
no_base_in n seen [] m β lines e = cc
no_base_in n seen (l ∷ ls) m β lines e =
    by_read (read_did l) _ m β lines e λ d rest q h.
    by_test (accepts blank_base n seen d) _ m β lines h λ w k.
    no_base_in n (seen ++ (d ∷ [])) ls m β lines k

no_base-first : (ls : List (List ℕ)) (n : ℕ) (β : Option Base) (lines : List Line) → read_old_first_with part_limit ls ≡ journal n β lines →
    β ≡ none
unfolding read_old_first_with
no_base-first [] n β lines e = let z : ◌≡◌ {A = ℕ} 0 1 = cc in absurd (omega arith)
no_base-first (l ∷ ls) n β lines e =
    by_read (read_site l) _ n β lines e λ m rest q h.
    by_test (histories_fit m) _ n β lines h λ w k.
    no_base_in m [] ls n β lines k

pub old-no_base : (bs : List ℕ) (n : ℕ) (β : Option Base) (lines : List Line) → read_old bs ≡ journal n β lines → β ≡ none
unfolding read_old_with
old-no_base bs n β lines e = no_base-first (lines_of bs) n β lines e

pub old_accepted : (bs : List ℕ) (n : ℕ) (lines : List Line) → read_old bs ≡ journal n none lines → OldAs bs n lines
unfolding read_old_with
old_accepted bs n lines e =
    let r = old-first (lines_of bs) n lines e in
    record {
      histories = r.histories;
      log = r.log;
      whole = r.whole;
      formed = r.formed;
      ran = r.ran;
      same = split_same bs ∙ ap (λ (x : List ℕ). x ++ rest_of bs) r.text;
    }

-- ### What is written is a log with nothing live

module _ (n : ℕ) (log : List Did) (h : T (histories_fit n)) (formed : (d : Did) → Mem d log → FormedDid n d) (ran : (Ran blank_base) log)
    (small : length log ≤ top) where
  dids-after : dids (map did_line log ++ closing 0 (length log)) ≡ log
  dids-after =
      dids-append (map did_line log) (closing 0 (length log)) ∙ ap₂ (λ (x y : List Did). x ++ y) (dids-map log) (dids-closing 0 (length log))
      ∙ append-nil log

  mark_log : (mark blank_base) (map did_line log) ≡ 0
  mark_log = mark-dids blank_base [] log ∙ mark-nil blank_base

  mark-after : (mark blank_base) (map did_line log ++ closing 0 (length log)) ≡ length log
  unfolding closing
  mark-after = go (ltb 0 (length log)) refl
    where
      go : (b : Bool) → ltb 0 (length log) ≡ b →
          mark blank_base (map did_line log ++ (elim b [ true ↦ stable_line (length log) ∷ [] | false ↦ [] ])) ≡ length log
      go true e = mark-stable blank_base (map did_line log) (length log)
      go false e = ap (mark blank_base) (append-nil (map did_line log)) ∙ mark_log ∙ (let z = not-lt 0 (length log) e in omega arith)

  rises-after : (Rises blank_base) (map did_line log ++ closing 0 (length log))
  unfolding closing
  rises-after = go (ltb 0 (length log)) refl
    where
      plain : (Rises blank_base) (map did_line log)
      plain = rises-dids blank_base [] log (rises-nil blank_base)

      go : (b : Bool) → ltb 0 (length log) ≡ b →
          Rises blank_base (map did_line log ++ (elim b [ true ↦ stable_line (length log) ∷ [] | false ↦ [] ]))
      go true e =
          rises-stable blank_base (map did_line log) (length log) plain
          (record {
            above = let lt = ltb→lt 0 (length log) (true_T (ltb 0 (length log)) e) in omega (arith, mark_log);
            within = omega (arith, ap length (dids-map log));
            writable = small;
          })
      go false e = subst (Rises blank_base) (sym (append-nil (map did_line log))) plain

  none_live : (live_in blank_base) (map did_line log ++ closing 0 (length log)) ≡ []
  unfolding live_in
  none_live =
      ap₂ (λ (i : ℕ) (l : List Did). drop (i - 0) l) mark-after dids-after
      ∙ ap (λ (i : ℕ). drop i log) (let z : length log - 0 ≡ length log = omega arith in z)
      ∙ drop-length log

  table_after : (table_holds blank_base) (map did_line log ++ closing 0 (length log)) ≡ true
  unfolding table_holds history_twice
  table_after = ap (λ (l : List Did). leb (length l) live_limit && not (history_twice (map (λ (d : Did). d.id) l))) none_live

  pub after_reads : read_log (log_text n none (map did_line log ++ closing 0 (length log)))
      ≡ journal n none (map did_line log ++ closing 0 (length log))
  after_reads =
      read_printed n none (map did_line log ++ closing 0 (length log)) h tt
      (record {
        formed = λ d m. formed d (mem_along dids-after m);
        ran = subst (Ran blank_base) (sym dids-after) ran;
        rises = rises-after;
      })
      table_after

-- ### The changeover

-- What an upgraded buffer holds: the same did lines, all of them stable, and nothing live.
pub record Upgraded (old buffer : List ℕ) (k used : ℕ) : Type 0 where
  pub n : ℕ
  pub log : List Did
  pub read : read_old (take k old) ≡ journal n none (map did_line log)
  -- "behind its whole lines"
  pub whole : take k old ≡ log_text n none (map did_line log) ++ rest_of (take k old)
  pub text : take used buffer ≡ log_text n none (map did_line log ++ closing 0 (length log))
  pub used_is : used ≡ length (log_text n none (map did_line log ++ closing 0 (length log)))
  pub within : used ≤ length buffer
  pub limit : length buffer ≤ log_limit
  pub again : read_log (take used buffer) ≡ journal n none (map did_line log ++ closing 0 (length log))
  pub same : dids (map did_line log ++ closing 0 (length log)) ≡ log
  pub mark : (mark blank_base) (map did_line log ++ closing 0 (length log)) ≡ length log
  pub length : length buffer ≡ length old
  -- "An accepted call alters no byte of a lent buffer past those in use"
  pub past : drop used buffer ≡ drop used old

text_is : (n : ℕ) (log : List Did) → upgraded_text n (map did_line log) ≡ log_text n none (map did_line log ++ closing 0 (length log))
unfolding upgraded_text upgraded_lines
text_is n log = ap (λ (l : List Did). log_text n none (map did_line log ++ closing 0 (length l))) (dids-map log)

upgraded_is : (a b : List ℕ) (i j : ℕ) → upgraded a i ≡ upgraded b j → (a ≡ b) × (i ≡ j)
upgraded_is a b i j e = (cc, cc)

not_upgraded_lem : (r : Refusal) (b : List ℕ) (j : ℕ) → not_upgraded r ≡ upgraded b j → ⊥
not_upgraded_lem r b j e = let z : ◌≡◌ {A = ℕ} 0 1 = cc in omega arith

lines_low : (n : ℕ) (log : List Did) → length log ≤ length (log_text n none (map did_line log ++ closing 0 (length log)))
lines_low n log =
    omega (
      arith,
      few_log_lines n none (map did_line log ++ closing 0 (length log)),
      length-append (map did_line log) (closing 0 (length log)),
      dids_few (map did_line log),
      ap length (dids-map log),
    )

-- the buffer with the text at its front
upgraded_holds : (old : List ℕ) (k n : ℕ) (log : List Did) → T (histories_fit n) → ((d : Did) → Mem d log → FormedDid n d) →
    Ran blank_base log →
    read_old (take k old) ≡ journal n none (map did_line log) → take k old ≡ log_text n none (map did_line log) ++ rest_of
    (take k old) → length old ≤ log_limit → (text : List ℕ) →
    text ≡ log_text n none (map did_line log ++ closing 0 (length log)) → length text ≤ length old →
    Upgraded old (text ++ drop (length text) old) k (length text)
upgraded_holds old k n log h f r e whole limit text is fits =
    let small : length log ≤ top = omega (arith, lines_low n log, ap length is) in
    let front = take-append_seam text (drop (length text) old) ∙ is in
    let long : length (text ++ drop (length text) old) ≡ length old =
    omega (arith, length-append text (drop (length text) old), length-drop (length text) old) in
    record {
      n = n;
      log = log;
      read = e;
      whole = whole;
      text = front;
      used_is = ap length is;
      within = omega (arith, long);
      limit = omega (arith, long);
      again = ap read_log front ∙ after_reads n log h f r small;
      same = dids-after n log h f r small;
      mark = mark-after n log h f r small;
      length = long;
      past = drop-append_seam text (drop (length text) old);
    }

upgrade_text : (old : List ℕ) (k n : ℕ) (log : List Did) → T (histories_fit n) → ((d : Did) → Mem d log → FormedDid n d) →
    Ran blank_base log →
    read_old (take k old) ≡ journal n none (map did_line log) → take k old ≡ log_text n none (map did_line log) ++ rest_of
    (take k old) → length old ≤ log_limit → (buffer : List ℕ) (used : ℕ) →
    upgrade_as old (journal n none (map did_line log)) ≡ upgraded buffer used → Upgraded old buffer k used
unfolding upgrade_as
upgrade_text old k n log h f r e whole limit buffer used u = go (ltb (length old) (length text)) refl u
  where
    text : List ℕ
    text = upgraded_text n (map did_line log)

    go : (b : Bool) → ltb (length old) (length text) ≡ b →
        (elim b [ true ↦ not_upgraded NoRoom | false ↦ placed text old ]) ≡ upgraded buffer used → Upgraded old buffer k used
    go true t q = absurd (not_upgraded_lem NoRoom buffer used q)
    go false t q =
        let p = upgraded_is (text ++ drop (length text) old) buffer (length text) used q in
        subst (λ (i : ℕ). Upgraded old buffer k i) p.1
        (subst (λ (b : List ℕ). Upgraded old b k (length text)) p.0
        (upgraded_holds old k n log h f r e whole limit text (text_is n log) (not-lt (length old) (length text) t)))

no_log_lem : (old buffer : List ℕ) (used : ℕ) → upgrade_as old no_journal ≡ upgraded buffer used → not_upgraded BadLog ≡ upgraded buffer used
unfolding upgrade_as
no_log_lem old buffer used e = e

-- An older log that is upgraded is restarted with the same did lines, all of them stable.
pub upgrade-holds : (old : List ℕ) (k : ℕ) (buffer : List ℕ) (used : ℕ) → upgrade old k ≡ upgraded buffer used → Upgraded old buffer k used
unfolding upgrade
upgrade-holds old k buffer used u = go (ltb (length old) k || ltb log_limit (length old)) refl u
  where
    as_read : (n : ℕ) (lines : List Line) → read_old (take k old) ≡ journal n none lines → length old ≤ log_limit →
        OldAs (take k old) n lines →
        upgrade_as old (journal n none lines) ≡ upgraded buffer used → Upgraded old buffer k used
    as_read n lines e limit O q =
        let is : journal n none lines ≡ journal n none (map did_line O.log) = ap (journal n none) O.whole in
        upgrade_text old k n O.log O.histories O.formed O.ran (e ∙ is)
        (O.same ∙ ap (λ (l : List Line). log_text n none l ++ rest_of (take k old)) O.whole) limit buffer used
        (sym (ap (upgrade_as old) is) ∙ q)

    read : (j : Journal) → read_old (take k old) ≡ j → length old ≤ log_limit → upgrade_as old j ≡ upgraded buffer used →
        Upgraded old buffer k used
    read (journal n β lines) e limit q =
        let is : journal n β lines ≡ journal n none lines =
        ap (λ (b : Option Base). journal n b lines) (old-no_base (take k old) n β lines e) in
        as_read n lines (e ∙ is) limit (old_accepted (take k old) n lines (e ∙ is)) (sym (ap (upgrade_as old) is) ∙ q)
    read no_journal e limit q = absurd (not_upgraded_lem BadLog buffer used (no_log_lem old buffer used q))

    go : (b : Bool) → (ltb (length old) k || ltb log_limit (length old)) ≡ b →
        (elim b [ true ↦ not_upgraded AboveLimit | false ↦ upgrade_as old (read_old (take k old)) ]) ≡ upgraded buffer used →
        Upgraded old buffer k used
    go true t q = absurd (not_upgraded_lem AboveLimit buffer used q)
    go false t q =
        read (read_old (take k old)) refl
        (not-lt log_limit (length old) (or_false_right (ltb (length old) k) (ltb log_limit (length old)) t)) q

-- ### Restart from it

-- What restart gives from a buffer that was changed over: the same did lines, all of them persistent and stable as restart called them
-- before (g), and nothing live.
pub record RestartsAs (buffer : List ℕ) (used n : ℕ) (log : List Did) (st : State) : Type 0 where
  pub accepted : restart buffer used ≡ ok st (Restarted (length log) used)
  pub histories : st.histories ≡ n
  pub same : st.log ≡ log
  pub persistent : st.persistent_to ≡ length log
  pub stable : stable_to st ≡ length log
  pub nothing : live st ≡ 0

pub upgraded_restarts : (old buffer : List ℕ) (k used : ℕ) (U : Upgraded old buffer k used) →
    RestartsAs buffer used U.n U.log (restarted (length buffer) U.n none (map did_line U.log ++ closing 0 (length U.log)))
unfolding restart restart_as restarted unless check log_bytes live live_done
upgraded_restarts old buffer k used U =
    record {
      accepted =
          rw (le-ltb (length buffer) used U.within, le-ltb log_limit (length buffer) U.limit, U.again)
          (ap₂ (λ (i j : ℕ). ok (restarted (length buffer) U.n none lines) (Restarted i j)) done
          (ap (λ (l : List Line). length (log_text U.n none l)) (unweave lines) ∙ sym U.used_is));
      histories = refl;
      same = U.same;
      persistent = done;
      stable = ap (mark blank_base) (unweave lines) ∙ U.mark;
      nothing = omega (arith, length-drop (mark blank_base lines - 0) (dids lines), U.mark, ap length U.same);
    }
  where
    lines : List Line
    lines = map did_line U.log ++ closing 0 (length U.log)

    done : 0 + length (dids lines) ≡ length U.log
    done = omega (arith, ap length U.same)
