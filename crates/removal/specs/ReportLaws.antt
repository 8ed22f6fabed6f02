-- The report from its parts: a log that was read has its lines behind its head, its slots lie as the walk asks, and the marks name the
-- least set.
use Rattle.std.specs.Prelude.{◌≡◌, Bool, true, false, ◌||◌, eqb, get_or, take, drop, Option as Answer, Some, None, Result, Ok, Err}
use Rattle.std.proofs.Math.Path.{refl, ap, subst}
use Rattle.std.proofs.Common.{sym, ◌∙◌, not-suc-le-zero, le_of_suc-le-suc, lt-ltb, le-ltb, eqb→eq, get_or-take}
use Rattle.std.proofs.Math.Logic.{⊎_elim}
use Rattle.std.proofs.Math.Bool.{not, cond}
use mathlib.Core.List.{List, [], ◌∷◌, map}
use mathlib.Core.List.{Memᴰ as Mem}
use Rattle.std.proofs.Math.Option.{Option}
use Prim.Native.Nat.{ℕ, zero, suc, ◌+◌, ◌-◌, ◌*◌, ◌<◌, ◌≤◌}
use native.Mathlib.Omega.{arith}
use Rattle.std.proofs.Math.Dec.{T, T_not, not_T}
use Rattle.std.proofs.Math.ListN.{length, length-append}
use Rattle.std.proofs.Math.Seq.{length-take-le, drop_at}
use Rattle.forms.specs.Forms.{Base, Change, Did, Line}
use Rattle.forms.specs.Limits.{log_limit, base_top, history_limit}
use Rattle.forms.specs.Lists.{any, keep}
use Rattle.forms.specs.ListLaws.{T_false, any_at, or_cases}
use Rattle.forms.specs.Read.{no_did}
use Rattle.forms.specs.Refusals.{number_of}
use Rattle.forms.specs.declared.DoneRule.TheVariants.{DidInc}
use Rattle.forms.specs.declared.Refusal.{Refusal}
use Rattle.forms.specs.declared.Refusal.TheVariants.{AboveLimit, BadLog}
use Rattle.rules.specs.Book.{base_of}
use Rattle.rule_laws.specs.CheckLaws.{formed_changes}
use Rattle.rule_laws.specs.Good.{FormedDid}
use Rattle.rule_laws.specs.HeadLaws.{head_low}
use Rattle.rules.specs.Log.{Journal, journal, no_journal, dids, histories_fit, head_text, log_text, lines_text, read_log}
use Rattle.rule_laws.specs.LogLaws.{histories_most}
use Rattle.history.specs.EntryLaws.{mem_get_d}
use Rattle.log_reader.specs.Model.{ReadsLog, Reads}
use Rattle.log_reader.specs.declared.Journal.{Journal as JournalRead}
use Rattle.recovery.specs.Removal.{numbers_from, is_line, Pair, pairs_of, Removed, removal, Report, refused, named, refuse_if, not_among}
use Rattle.recovery.specs.Removal.{too_long}
use Rattle.recovery.specs.Removal.{report_lines, report_log, report}
use Rattle.recovery.proofs.RemovalLaws.{line_at_lem, named_of_lem, sifted_removal}
use Rattle.removal.specs.Chains.{key_at}
use Rattle.removal.specs.Fall.{net, Gone, Placed, Lost, Marked}
use Rattle.removal.specs.Slots.{history_at, SlotsAre, StandsFrom, ReadsSlots}
use Rattle.removal.specs.Names.{known, PairsKnown, LostKnown, is_marked, names, CanAnswer, Answers, AnswersIf}
use Rattle.removal.specs.Bridge.{Laid, laid_placed, laid_lost, fallen_out, out_fallen}
use Rattle.removal.specs.PairLaws.{mem-place, pair_place, place_pair}
use Rattle.removal.specs.LengthLaws.{dids_most}
use Rattle.removal.specs.Model.{refusal, outcome_of, Says, Reports, ReadsLines, MarksExactly, FallsIn}

-- ### Laying a log out

-- a change of which nothing is said
abbrev no_change : Change
no_change = record { rule = DidInc; history = 0; version = 0; place = 0; operand = 0 }

get_d_map-at : (xs : List Change) (u : ℕ) → u < length xs →
    get_or (map (λ (x : Change). x.history) xs) u history_limit ≡ (get_or xs u no_change).history
get_d_map-at [] u h = absurd (not-suc-le-zero h)
get_d_map-at (x ∷ xs) zero h = refl
get_d_map-at (x ∷ xs) (suc u) h = get_d_map-at xs u (le_of_suc-le-suc h)

history_low : (n : ℕ) (d : Did) (u : ℕ) → FormedDid n d → n ≤ history_limit → u < length d.changes → history_at d u < history_limit
unfolding history_at
history_low n d u F le l = go d.changes u l (λ x m. (formed_changes n d.changes F.passes).known x m)
  where
    go : (xs : List Change) (u : ℕ) → u < length xs → ((x : Change) → Mem x xs → x.history < n) →
        get_or (map (λ (x : Change). x.history) xs) u history_limit < history_limit
    go xs u h f =
        subst (λ (k : ℕ). k < history_limit) (sym (get_d_map-at xs u h))
        (omega (arith, f (get_or xs u no_change) (mem_get_d xs u no_change h), le))

module _ (base : ℕ) (n : ℕ) (log : List Did) (full pairs lost : List ℕ) (fit : T (histories_fit n))
    (formed : (d : Did) → Mem d log → FormedDid n d) (few : length log ≤ 2978) (low : base ≤ base_top)
    (size : length full ≡ 23824) (S : SlotsAre base log full)
    (pk : PairsKnown pairs base (base + length log)) (lk : LostKnown lost base (base + length log)) where
  abbrev front : List ℕ
  front = take (8 * length log) full

  front_size : length front ≡ 8 * length log
  front_size = length-take-le (8 * length log) full (omega (arith, size, few))

  pub laid : Laid base log front pairs lost
  laid =
      record {
        size = front_size;
        few = few;
        low = low;
        are = record {
          numbers = λ i u l h. get_or-take (8 * length log) full (8 * i + 2 * u) 0 (omega (arith, l, h)) ∙ S.numbers i u l h;
          histories = λ i u l h. get_or-take (8 * length log) full (8 * i + 2 * u + 1) 0 (omega (arith, l, h)) ∙ S.histories i u l h;
        };
        changes = λ i l. (formed_changes n (get_or log i no_did).changes (formed (get_or log i no_did) (mem_get_d log i no_did l)).passes).few;
        histories = λ i u l h. history_low n (get_or log i no_did) u (formed (get_or log i no_did) (mem_get_d log i no_did l))
            (histories_most n fit) h;
        pairs_known = pk;
        lost_known = lk;
      }

  mark_at_lem : (gone : List ℕ) (k : ℕ) → T (is_marked base gone k) → Gone gone (k - suc base)
  unfolding is_marked
  mark_at_lem gone k t e = T_not (eqb (get_or gone (k - suc base) 0) 0) t (subst (λ (x : ℕ). T (eqb x 0)) (sym e) tt)

  mark_of : (gone : List ℕ) (k : ℕ) → Gone gone (k - suc base) → T (is_marked base gone k)
  unfolding is_marked
  mark_of gone k g = not_T (eqb (get_or gone (k - suc base) 0) 0) (λ t. g (eqb→eq (get_or gone (k - suc base) 0) 0 t))

  -- the marks are exact
  pub marks_exact : (gone : List ℕ) → Marked (net front pairs base) lost gone → MarksExactly base log pairs lost gone
  marks_exact gone M =
      record {
        size = M.size;
        sound = λ k l t.
            let q = line_at_lem base log k l in
            subst (Removed base log (pairs_of pairs) lost) (let e : base + 1 + (k - suc base) ≡ k = omega (arith, q.0) in e)
            (fallen_out base log front pairs lost laid (k - suc base) (M.sound (k - suc base) (mark_at_lem gone k t)));
        whole = λ k l r.
            mark_of gone k (M.whole (k - suc base) (out_fallen base log front pairs lost laid k (line_at_lem base log k l).0 r));
      }

-- ### A log that was read

-- lines of a log that was read stand behind its head
module _ (log : List ℕ) (j : JournalRead) (book notes : List ℕ) (n : ℕ) (β : Option Base) (lines : List Line)
    (R : ReadsLog n β lines log j book notes) (small : length log ≤ log_limit) where
  abbrev printed : List ℕ
  printed = take j.used log

  read_few : length (dids lines) ≤ 2978
  unfolding log_text
  read_few =
      let H = R.holds in
      omega (
        arith,
        dids_most n lines H.stand.formed,
        ap length H.text,
        length-append (head_text n β) (lines_text lines),
        length-take-le j.used log H.within,
        H.within,
        small,
      )

  pub read_stands : StandsFrom printed j.head n lines
  unfolding log_text
  read_stands =
      let H = R.holds in
      record {
        fit = H.fit;
        there = ap (drop j.head) H.text ∙ drop_at (head_text n β) (lines_text lines) j.head (sym H.head);
        formed = H.stand.formed;
      }

  pub read_done : j.done.0 ≡ j.base.0 + length (dids lines)
  read_done = R.holds.done ∙ ap (λ (x : ℕ). x + length (dids lines)) (sym R.holds.base)

  pub read_lines_lem : (pairs lost : List ℕ) → PairsKnown pairs j.base.0 j.done.0 → LostKnown lost j.base.0 j.done.0 →
      ReadsLines printed j pairs lost
  unfolding log_text
  read_lines_lem pairs lost pk lk =
      let H = R.holds in
      record {
        histories = n;
        lines = lines;
        stands = read_stands;
        within = omega (arith, H.head, ap length H.text, length-append (head_text n β) (lines_text lines));
        few = read_few;
        low = subst (λ (x : ℕ). x ≤ base_top) (sym H.base) (head_low n β H.head_fits);
        done = read_done;
        pairs_known = pk;
        lost_known = lk;
      }

  pub read_can : (gone : List ℕ) → length gone ≡ 2978 → CanAnswer gone (j.done.0 - j.base.0) j.base.0
  read_can gone size =
      record {
        within = omega (arith, read_done, read_few, size);
        few = omega (arith, read_done, read_few);
        low = subst (λ (x : ℕ). x ≤ base_top) (sym R.holds.base) (head_low n β R.holds.head_fits);
      }

-- ### What is said

pub says_refused : (n : ℕ) (r : Result (Answer ℕ) Refusal) (old : List ℕ) → outcome_of r ≡ refusal n → Says (refused n) old r old
says_refused n r old e = record { answer = e; numbers = refl }

let_through : (x : Report) → refuse_if false 16 x ≡ x
unfolding refuse_if
let_through x = refl

-- the answer of a report whose numbers are all among the lines
abbrev pub named_in : Result ℕ Refusal → Result (Answer ℕ) Refusal
named_in (Ok k) = Ok (Some k)
named_in (Err q) = Err q

says-answer : (l old : List ℕ) (r : Result ℕ Refusal) (new : List ℕ) → Answers l old r new →
    Says (refuse_if (too_long (length old) l) 12 (named l)) old (named_in r) new
unfolding refuse_if number_of
says-answer l old r new A = go (too_long (length old) l) A
  where
    go : (b : Bool) → AnswersIf b l old r new → Says (cond b (refused 12) (named l)) old (named_in r) new
    go true a = record { answer = ap (λ (x : Result ℕ Refusal). outcome_of (named_in x)) a.answer; numbers = a.same }
    go false a = record { answer = ap (λ (x : Result ℕ Refusal). outcome_of (named_in x)) a.answer; numbers = a.numbers }

pub report-above : (log pairs lost old : List ℕ) → log_limit < length log → Reports log pairs lost old (Err AboveLimit) old
unfolding report refuse_if number_of
report-above log pairs lost old h =
    subst (λ (b : Bool). Says (cond b (refused 13) (report_log (read_log log) (pairs_of pairs) lost (length old))) old
    (Err AboveLimit) old)
    (sym (lt-ltb log_limit (length log) h)) (says_refused 13 (Err AboveLimit) old refl)

module _ (log pairs lost old : List ℕ) (small : length log ≤ log_limit) where
  within : report log (pairs_of pairs) lost (length old) ≡ report_log (read_log log) (pairs_of pairs) lost (length old)
  unfolding report refuse_if
  within = ap (λ (b : Bool). cond b (refused 13) (report_log (read_log log) (pairs_of pairs) lost (length old))) (le-ltb log_limit
      (length log) small)

  pub report-bad : (book notes : List ℕ) → Reads (read_log log) log None book notes →
      Reports log pairs lost old (Err BadLog) old
  unfolding report_log number_of
  report-bad book notes R =
      subst (λ (x : Report). Says x old (Err BadLog) old) (sym (within ∙ go (read_log log) R))
      (says_refused 15 (Err BadLog) old refl)
    where
      go : (x : Journal) → Reads x log None book notes → report_log x (pairs_of pairs) lost (length old) ≡ refused 15
      go (journal n β lines) S = absurd S
      go no_journal S = refl

  -- a log that was read, with its lines
  pub record ReadSome (j : JournalRead) (book notes : List ℕ) : Type 0 where
    pub histories : ℕ
    pub base_line : Option Base
    pub lines : List Line
    pub same : read_log log ≡ journal histories base_line lines
    pub reads : ReadsLog histories base_line lines log j book notes

  pub read_some : (j : JournalRead) (book notes : List ℕ) → Reads (read_log log) log (Some j) book notes → ReadSome j book notes
  read_some j book notes R = go (read_log log) refl R
    where
      go : (x : Journal) → read_log log ≡ x → Reads x log (Some j) book notes → ReadSome j book notes
      go (journal n β lines) p S = record { histories = n; base_line = β; lines = lines; same = p; reads = S }
      go no_journal p S = absurd S

  module _ (j : JournalRead) (book notes : List ℕ) (S : ReadSome j book notes) where
    abbrev N : ℕ
    N = (base_of S.base_line).up_to

    abbrev log' : List Did
    log' = dids S.lines

    on_lines : report log (pairs_of pairs) lost (length old) ≡ report_lines N log' (pairs_of pairs) lost (length old)
    unfolding report_log
    on_lines = within ∙ ap (λ (x : Journal). report_log x (pairs_of pairs) lost (length old)) S.same

    at_base : j.base.0 ≡ N
    at_base = S.reads.holds.base

    at_done : j.done.0 ≡ N + length log'
    at_done = S.reads.holds.done

    -- all are known, or one is not
    known_both : not_among N log' (pairs_of pairs) lost ≡ false →
        PairsKnown pairs j.base.0 j.done.0 × LostKnown lost j.base.0 j.done.0
    unfolding known is_line
    known_both e =
        let K = named_of_lem N log' (pairs_of pairs) lost e in (
          λ p l. moved (key_at pairs 0 p) (K.pairs _ (place_pair pairs p l)),
          λ k l. moved (get_or lost k 0) (K.lines _
              (mem_get_d lost k 0 l)),
        )
      where
        moved : (k : ℕ) → T (is_line N log' k) → T (known j.base.0 j.done.0 k)
        moved k t =
            subst (λ (x : ℕ). T (known x j.done.0 k)) (sym at_base) (subst (λ (x : ℕ). T (known N x k)) (sym at_done) t)

    known-line : (k : ℕ) → T (known j.base.0 j.done.0 k) → T (is_line N log' k)
    unfolding known is_line
    known-line k t = subst (λ (x : ℕ). T (known N x k)) at_done (subst (λ (x : ℕ). T (known x j.done.0 k)) at_base t)

    none_unknown : PairsKnown pairs j.base.0 j.done.0 × LostKnown lost j.base.0 j.done.0 →
        not_among N log' (pairs_of pairs) lost ≡ false
    unfolding not_among
    none_unknown both =
        T_false (any (λ p. not (is_line N log' p.line)) (pairs_of pairs) || any (λ k. not (is_line N log' k)) lost) (λ t.
        ⊎_elim
        (λ a. let q = any_at (λ (p : Pair). not (is_line N log' p.line)) (pairs_of pairs) a in
        let w = pair_place pairs q.0 q.1 in
        T_not (is_line N log' q.0.line) q.2
        (known-line q.0.line (subst (λ (x : ℕ). T (known j.base.0 j.done.0 x)) w.line (both.0 w.place w.within))))
        (λ a. let q = any_at (λ (k : ℕ). not (is_line N log' k)) lost a in
        let w = mem-place q.0 lost q.1 in
        T_not (is_line N log' q.0) q.2
        (known-line q.0 (subst (λ (x : ℕ). T (known j.base.0 j.done.0 x)) w.is (both.1 w.place w.within))))
        (or_cases (any (λ p. not (is_line N log' p.line)) (pairs_of pairs)) (any (λ k. not (is_line N log' k)) lost) t))

    -- 16
    pub report_unknown : (PairsKnown pairs j.base.0 j.done.0 × LostKnown lost j.base.0 j.done.0 → ⊥) →
        Reports log pairs lost old (Ok None) old
    unfolding report_lines refuse_if
    report_unknown not_known =
        subst (λ (x : Report). Says x old (Ok None) old)
        (sym (on_lines ∙ ap (λ (b : Bool). cond b (refused 16) (cond (too_long (length old) answer) (refused 12)
        (named answer))) some_unknown))
        (says_refused 16 (Ok None) old refl)
      where
        answer : List ℕ
        answer = removal N log' (pairs_of pairs) lost

        go : (b : Bool) → not_among N log' (pairs_of pairs) lost ≡ b → not_among N log' (pairs_of pairs) lost ≡ true
        go true e = e
        go false e = absurd (not_known (known_both e))

        some_unknown : not_among N log' (pairs_of pairs) lost ≡ true
        some_unknown = go (not_among N log' (pairs_of pairs) lost) refl

    -- the numbers of the marked lines are the least set
    names-removal : (gone : List ℕ) → PairsKnown pairs j.base.0 j.done.0 × LostKnown lost j.base.0 j.done.0 →
        MarksExactly j.base.0 log' pairs lost gone →
        names j.base.0 gone (j.done.0 - j.base.0) ≡ removal N log' (pairs_of pairs) lost
    unfolding names
    names-removal gone both M =
        ap (λ (x : ℕ). keep (is_marked j.base.0 gone) (numbers_from j.base.0 x))
        (let e : j.done.0 - j.base.0 ≡ length log' = omega (arith, at_done, at_base) in e)
        ∙ ap (λ (x : ℕ). keep (is_marked x gone) (numbers_from x (length log'))) at_base
        ∙ sifted_removal N log' (pairs_of pairs) lost (named_of_lem N log' (pairs_of pairs) lost (none_unknown both)) (is_marked N gone)
        (λ k l. (exact.sound k l, exact.whole k l))
      where
        exact : MarksExactly N log' pairs lost gone
        exact = subst (λ (x : ℕ). MarksExactly x log' pairs lost gone) at_base M

    -- the answer
    pub report-names : PairsKnown pairs j.base.0 j.done.0 × LostKnown lost j.base.0 j.done.0 → (gone : List ℕ) →
        MarksExactly j.base.0 log' pairs lost gone → (r : Result ℕ Refusal) (new : List ℕ) →
        Answers (names j.base.0 gone (j.done.0 - j.base.0)) old r new → Reports log pairs lost old (named_in r) new
    unfolding report_lines
    report-names both gone M r new A =
        subst (λ (x : Report). Says x old (named_in r) new)
        (sym (on_lines ∙ ap (λ (b : Bool). refuse_if b 16 (refuse_if (too_long (length old) answer) 12 (named answer))) (none_unknown both)
        ∙ let_through (refuse_if (too_long (length old) answer) 12 (named answer))))
        (says-answer answer old r new (subst (λ (l : List ℕ). Answers l old r new) (names-removal gone both M) A))
      where
        answer : List ℕ
        answer = removal N log' (pairs_of pairs) lost

-- ### The marks of a log that was read

pub marks_placed : (s : List ℕ) (j : JournalRead) (pairs lost full : List ℕ) (L : ReadsLines s j pairs lost) → length full ≡ 23824 →
    SlotsAre j.base.0 (dids L.lines) full →
    Placed (net (take (8 * (j.done.0 - j.base.0)) full) pairs j.base.0)
    × Lost (take (8 * (j.done.0 - j.base.0)) full) j.base.0 lost
marks_placed s j pairs lost full L size S =
    subst (λ (x : ℕ). Placed (net (take (8 * x) full) pairs j.base.0) × Lost (take (8 * x) full) j.base.0 lost)
    (let e : length (dids L.lines) ≡ j.done.0 - j.base.0 = omega (arith, L.done) in e) (
      laid_placed j.base.0 (dids L.lines) (take (8 * length (dids L.lines)) full) pairs lost at,
      laid_lost j.base.0 (dids L.lines) (take (8 * length (dids L.lines)) full) pairs lost at,
    )
  where
    at : Laid j.base.0 (dids L.lines) (take (8 * length (dids L.lines)) full) pairs lost
    at =
        laid j.base.0 L.histories (dids L.lines) full pairs lost L.stands.fit L.stands.formed L.few L.low size S
        (subst (λ (x : ℕ). PairsKnown pairs j.base.0 x) L.done L.pairs_known)
        (subst (λ (x : ℕ). LostKnown lost j.base.0 x) L.done L.lost_known)

pub marks_fall : (s : List ℕ) (j : JournalRead) (pairs lost full gone : List ℕ) (L : ReadsLines s j pairs lost) → length full ≡ 23824 →
    ReadsSlots s j.head j.base.0 full → Marked (net (take (8 * (j.done.0 - j.base.0)) full) pairs j.base.0) lost gone →
    FallsIn s j pairs lost gone
marks_fall s j pairs lost full gone L size S M n lines F done =
    marks_exact j.base.0 n (dids lines) full pairs lost F.fit F.formed (omega (arith, done, L.done, L.few)) L.low size
    (S n lines F)
    (subst (λ (x : ℕ). PairsKnown pairs j.base.0 x) done L.pairs_known)
    (subst (λ (x : ℕ). LostKnown lost j.base.0 x) done L.lost_known)
    gone
    (subst (λ (x : ℕ). Marked (net (take (8 * x) full) pairs j.base.0) lost gone)
    (let e : j.done.0 - j.base.0 ≡ length (dids lines) = omega (arith, done) in e) M)
