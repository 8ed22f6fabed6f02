-- Trim as a call on a fresh buffer, and a restart from what it wrote beside one from the full log. 02 (h): "Restart from the shorter log
-- shows the same histories, marks and log numbers as from the full one."
use Rattle.std.specs.Prelude.{◌≡◌, refl, ◌||◌, ℕ, ◌+◌, ◌-◌, ◌≤◌, ◌<◌, take, drop, ltb}
use Rattle.std.proofs.Math.Path.{sym, ap}
use Rattle.std.proofs.Common.{ap₂, ◌∙◌, subst, arith, length-append, length-drop, take-add, le-ltb}
use Rattle.std.proofs.Math.Option.{Option, none, some}
use mathlib.Core.List.{List, ◌++◌, map}
use Rattle.std.proofs.Math.ListN.{length}
use Rattle.std.proofs.Math.Seq.{take-append_seam, drop-append_seam}
use Rattle.forms.specs.Limits.{log_limit, base_top}
use Rattle.forms.specs.Forms.{Did, did_line, Line, Answer, Restarted, Shown}
use Rattle.forms.specs.declared.Refusal.{Refusal}
use Rattle.forms.specs.declared.Refusal.TheVariants.{AboveLimit, NoRoom}
use Rattle.rules.specs.Book.{Cell, cell}
use Rattle.rules.specs.Checks.{check}
use Rattle.rules.specs.Log.{dids, mark, closing, dids_text, lines_text, head_text, log_text, read_log}
use Rattle.rules.specs.State.{State, ok, log_bytes, lines_in, start_of, done_in, stable_to, version_at, live_done}
use Rattle.rules.specs.Trim.{trimmed_lines, trimmed_base, trim_text, trim_above, trim_full, trim_refusal, not_trimmed, trimmed}
use Rattle.rules.specs.Trim.{trim_unless, trim}
use Rattle.rules.specs.Calls.{unless, show, restarted, restart_as, restart, changeover}
use Rattle.rule_laws.specs.Good.{Good}
use Rattle.rule_laws.specs.CheckLaws.{check_none, not-lt, or_false_right, lt_not_le}
use Rattle.rule_laws.specs.FitLaws.{lines-append, lines-dids_text}
use Rattle.rule_laws.specs.WeaveLaws.{dids-weave, unweave}
use Rattle.rule_laws.specs.KeptLaws.{good_reads}
use Rattle.rule_laws.specs.TrimLaws.{bounds, dids_are, cell-behind, trim_same, copied, restarts, changes_over_lem}

-- Two sites of one number of histories that show the same of each, and have the same marks, log numbers and live operations.
pub record ShowsAlike (short full : State) : Type 0 where
  pub histories : short.histories ≡ full.histories
  -- "the same histories": each `show` replies the same
  pub shows : (h : ℕ) → h < full.histories → (answer : Answer) × (show h short ≡ ok short answer) × (show h full ≡ ok full answer)
  -- .. "marks and log numbers"
  pub done : done_in short ≡ done_in full
  pub persistent : short.persistent_to ≡ full.persistent_to
  pub stable : stable_to short ≡ stable_to full
  pub left : short.left_to ≡ full.left_to
  pub live : live_done short ≡ live_done full

-- What `show` replies of a history that is there.
shown_as : (h : ℕ) (st : State) (c : Cell) (p q : ℕ) → h < st.histories → cell (start_of st) h st.log ≡ c →
    version_at st.persistent_to h st ≡ p → version_at (stable_to st) h st ≡ q →
    show h st ≡ ok st (Shown h c.version p q c.place c.profile)
unfolding show check unless
shown_as h st c p q lt e f g =
    rw (lt_not_le st.histories h lt) (λ i. ok st (Shown h (e i).version (f i) (g i) (e i).place (e i).profile))

-- The site that a restart from the whole log of a site gives.
abbrev pub full_restart : ℕ → State → State
full_restart room st = restarted room st.histories st.base (lines_in st)

module _ (n room roomy : ℕ) (st : State) (G : Good st) (free : trim_refusal n room st ≡ none) where
  -- A version after i operations, n or more, is the same in the copy.
  version_copied : (i h : ℕ) → n ≤ i → h < st.histories → version_at i h (copied n room st G free) ≡ version_at i h st
  unfolding version_at restarted trimmed_base
  version_copied i h le lt =
      let B = (start_of st).up_to in
      let low = (bounds n room st G free).base_low in
      let e : (n - B) + (i - n) ≡ i - B = omega (arith, low) in
      ap (λ (l : List Did). (cell (trimmed_base n st) h (take (i - n) l)).version) (dids_are n room st G free)
      ∙ ap (λ (c : Cell). c.version) (cell-behind n room st G free h lt (take (i - n) (drop (n - B) st.log)))
      ∙ ap (λ (l : List Did). (cell (start_of st) h l).version) (sym (take-add (n - B) (i - n) st.log))
      ∙ ap (λ (j : ℕ). (cell (start_of st) h (take j st.log)).version) e

  full-cell : (h : ℕ) → cell (start_of (full_restart roomy st)) h (full_restart roomy st).log ≡ cell (start_of st) h st.log
  unfolding restarted
  full-cell h = ap (cell (start_of st) h) (dids-weave st.log st.stables)

  full-persistent : (full_restart roomy st).persistent_to ≡ done_in st
  unfolding restarted
  full-persistent = omega (arith, ap length (dids-weave st.log st.stables))

  full_log : (full_restart roomy st).log ≡ st.log
  unfolding restarted
  full_log = dids-weave st.log st.stables

  version_full : (i h : ℕ) → version_at i h (full_restart roomy st) ≡ version_at i h st
  unfolding version_at restarted
  version_full i h =
      ap (λ (l : List Did). (cell (start_of st) h (take (i - (start_of st).up_to) l)).version) (dids-weave st.log st.stables)

  full-done : done_in (full_restart roomy st) ≡ done_in st
  unfolding restarted
  full-done = omega (arith, ap length (dids-weave st.log st.stables))

  full-stable : stable_to (full_restart roomy st) ≡ stable_to st
  unfolding restarted
  full-stable = ap (mark (start_of st)) (unweave (lines_in st))

  -- What both show of a history: its version, place and profile, its version after all operations done, and after the stable ones.
  shown : ℕ → Answer
  shown h =
      let c = cell (start_of st) h st.log in
      Shown h c.version (version_at (done_in st) h st) (version_at (stable_to st) h st) c.place c.profile

  there : (h : ℕ) → h < st.histories → (h < (copied n room st G free).histories) × (h < (full_restart roomy st).histories)
  unfolding restarted
  there h lt = (lt, lt)

  show-short : (h : ℕ) → h < st.histories → show h (copied n room st G free) ≡ ok (copied n room st G free) (shown h)
  unfolding shown
  show-short h lt =
      let same = trim_same n room st G free in
      let up = (bounds n room st G free).mark_up in
      shown_as h (copied n room st G free) (cell (start_of st) h st.log) (version_at (done_in st) h st) (version_at (stable_to st) h st)
      (there h lt).0
      (same.histories h lt)
      (ap (λ (i : ℕ). version_at i h (copied n room st G free)) same.persistent
      ∙ version_copied (done_in st) h (omega (arith, up, G.stable_below, G.persistent_below)) lt)
      (ap (λ (i : ℕ). version_at i h (copied n room st G free)) same.stable ∙ version_copied (stable_to st) h up lt)

  show-full : (h : ℕ) → h < st.histories → show h (full_restart roomy st) ≡ ok (full_restart roomy st) (shown h)
  unfolding shown
  show-full h lt =
      shown_as h (full_restart roomy st) (cell (start_of st) h st.log) (version_at (done_in st) h st) (version_at (stable_to st) h st)
      (there h lt).1 (full-cell h)
      (ap (λ (i : ℕ). version_at i h (full_restart roomy st)) full-persistent ∙ version_full (done_in st) h)
      (ap (λ (i : ℕ). version_at i h (full_restart roomy st)) full-stable ∙ version_full (stable_to st) h)

  -- A restart from the copy and one from the full log show the same.
  pub shows_alike : ShowsAlike (copied n room st G free) (full_restart roomy st)
  unfolding restarted live_done
  shows_alike =
      let same = trim_same n room st G free in
      record {
        histories = refl;
        shows = λ h lt. (shown h, show-short h lt, show-full h lt);
        done = same.done ∙ sym full-done;
        persistent = same.persistent ∙ sym full-done;
        stable = same.stable ∙ sym full-stable;
        left = same.left;
        live = same.lines ∙ ap (drop (stable_to st - (start_of st).up_to)) (sym full_log);
      }

-- ### The call on a fresh buffer

-- The bytes of the copy, part by part: site line and base line, the did lines after N as they stand in the log, and `(stable M)`.
pub trim_text_lem : (n : ℕ) (st : State) →
    trim_text n st
    ≡ head_text st.histories (some (trimmed_base n st))
    ++ (dids_text (drop (n - (start_of st).up_to) st.log) ++ lines_text (closing n (stable_to st)))
unfolding trim_text trimmed_lines log_text
trim_text_lem n st =
    let ds = drop (n - (start_of st).up_to) st.log in
    ap (λ (l : List ℕ). head_text st.histories (some (trimmed_base n st)) ++ l)
    (lines-append (map did_line ds) (closing n (stable_to st))
    ∙ ap (λ (l : List ℕ). l ++ lines_text (closing n (stable_to st))) (lines-dids_text ds))

-- What a fresh buffer holds after an accepted trim. The site, and with it the old buffer, is no part of what `trim` gives.
pub record Trims (n : ℕ) (fresh : List ℕ) (st : State) (buffer : List ℕ) (used : ℕ) : Type 0 where
  pub free : trim_refusal n (length fresh) st ≡ none
  -- the bytes of the copy, at the front
  pub text : take used buffer ≡ trim_text n st
  pub used_is : used ≡ length (trim_text n st)
  pub within : used ≤ length buffer
  pub limit : length buffer ≤ log_limit
  pub length : length buffer ≡ length fresh
  -- "An accepted call alters no byte of a lent buffer past those in use"
  pub past : drop used buffer ≡ drop used fresh

trimmed_is : (a b : List ℕ) (i j : ℕ) → trimmed a i ≡ trimmed b j → (a ≡ b) × (i ≡ j)
trimmed_is a b i j e = (cc, cc)

not_trimmed_lem : (r : Refusal) (b : List ℕ) (j : ℕ) → not_trimmed r ≡ trimmed b j → ⊥
not_trimmed_lem r b j e = let z : ◌≡◌ {A = ℕ} 0 1 = cc in omega arith

-- 12 and 13 of a trim that is not refused
record Fits (n room : ℕ) (st : State) : Type 0 where
  fits : length (trim_text n st) ≤ room
  limit : room ≤ log_limit

trim-fits : (n room : ℕ) (st : State) → trim_refusal n room st ≡ none → Fits n room st
unfolding trim_refusal trim_above trim_full
trim-fits n room st e =
    let q13 = check_none _ AboveLimit _ e in
    let q12 = check_none _ NoRoom _ q13.1 in
    record {
      fits = not-lt room (length (trim_text n st)) q12.0;
      limit =
          not-lt log_limit room
          (or_false_right (ltb n (start_of st).up_to) (ltb log_limit room)
          (or_false_right (ltb (stable_to st) n || ltb base_top n) (ltb n (start_of st).up_to || ltb log_limit room) q13.0));
    }

trims_text : (n : ℕ) (fresh : List ℕ) (st : State) → trim_refusal n (length fresh) st ≡ none →
    Trims n fresh st (trim_text n st ++ drop (length (trim_text n st)) fresh) (length (trim_text n st))
trims_text n fresh st e =
    let text = trim_text n st in
    let f = trim-fits n (length fresh) st e in
    let long : length (text ++ drop (length text) fresh) ≡ length fresh =
    omega (arith, length-append text (drop (length text) fresh), length-drop (length text) fresh, f.fits) in
    record {
      free = e;
      text = take-append_seam text (drop (length text) fresh);
      used_is = refl;
      within = omega (arith, long, f.fits);
      limit = omega (arith, long, f.limit);
      length = long;
      past = drop-append_seam text (drop (length text) fresh);
    }

pub trim-holds : (n : ℕ) (fresh : List ℕ) (st : State) (buffer : List ℕ) (used : ℕ) → trim n fresh st ≡ trimmed buffer used →
    Trims n fresh st buffer used
unfolding trim
trim-holds n fresh st buffer used e = go (trim_refusal n (length fresh) st) refl e
  where
    go : (o : Option Refusal) → trim_refusal n (length fresh) st ≡ o → trim_unless o fresh (trim_text n st) ≡ trimmed buffer used →
        Trims n fresh st buffer used
    go (some r) p q = absurd (not_trimmed_lem r buffer used q)
    go none p q =
        let s = trimmed_is _ buffer _ used q in
        subst (λ (i : ℕ). Trims n fresh st buffer i) s.1
        (subst (λ (b : List ℕ). Trims n fresh st b (length (trim_text n st))) s.0 (trims_text n fresh st p))

full_text : (room : ℕ) (st : State) → length (log_bytes (full_restart room st)) ≡ length (log_bytes st)
unfolding log_bytes restarted
full_text room st = ap (λ (l : List Line). length (log_text st.histories st.base l)) (unweave (lines_in st))

-- "Restart takes the first K bytes" of a buffer that holds them.
restart_of : (buffer : List ℕ) (k : ℕ) → k ≤ length buffer → length buffer ≤ log_limit →
    restart buffer k ≡ restart_as (length buffer) (read_log (take k buffer))
unfolding restart check unless
restart_of buffer k le limit = rw (le-ltb (length buffer) k le, le-ltb log_limit (length buffer) limit)

-- "the owner changes over, by a restart from the whole fresh log": it is accepted, and is the changeover of the claim's list.
pub trimmed_restarts : (n : ℕ) (fresh : List ℕ) (st : State) (G : Good st) (buffer : List ℕ) (used : ℕ) (t : Trims n fresh st buffer used) →
    restart buffer used ≡ changeover n (length fresh) st
trimmed_restarts n fresh st G buffer used t =
    restart_of buffer used t.within t.limit
    ∙ ap₂ (λ (i : ℕ) (l : List ℕ). restart_as i (read_log l)) t.length t.text
    ∙ restarts n (length fresh) st G t.free
    ∙ sym (changes_over_lem n (length fresh) st G t.free)

-- A restart from the full log, in any buffer that begins with it.
pub full-restarts : (st : State) → Good st → (buffer : List ℕ) → take (length (log_bytes st)) buffer ≡ log_bytes st →
    length (log_bytes st) ≤ length buffer → length buffer ≤ log_limit →
    restart buffer (length (log_bytes st)) ≡ ok (full_restart (length buffer) st) (Restarted (done_in st) (length (log_bytes st)))
unfolding restart_as
full-restarts st G buffer e le limit =
    restart_of buffer (length (log_bytes st)) le limit
    ∙ ap (λ (l : List ℕ). restart_as (length buffer) (read_log l)) e
    ∙ ap (restart_as (length buffer)) (good_reads st G)
    ∙ ap₂ (λ (x y : ℕ). ok (full_restart (length buffer) st) (Restarted x y)) done text
  where
    done : (start_of st).up_to + length (dids (lines_in st)) ≡ done_in st
    done = omega (arith, ap length (dids-weave st.log st.stables))

    text : length (log_bytes (full_restart (length buffer) st)) ≡ length (log_bytes st)
    text = full_text (length buffer) st
