-- What the steps of each call come to: the reply of the specification, and the records that it leaves.
use Rattle.std.specs.Prelude.{ℕ, ◌+◌, ◌*◌, ◌-◌, ◌^◌, ◌≤◌, ◌<◌, ◌≡◌, Bool, true, cond, ltb, length, drop, Some, None, Result, Ok, Err}
use native.Mathlib.Omega.{arith}
use Rattle.std.proofs.Math.Path.{refl, ap, subst}
use Rattle.std.proofs.Common.{sym, ap₂, ◌∙◌, drop-drop}
use Rattle.std.proofs.Math.Bool.{false}
use mathlib.Core.List.{List, [], ◌∷◌, ◌++◌}
use Rattle.std.proofs.Math.Option.{Option, none, some}
use Rattle.std.proofs.Math.Dec.{leb}
use Rattle.std.proofs.Math.ListN.{set}
use Rattle.std.specs.Int.Bits.{bit_or}
use Rattle.std.proofs.lemmas.Nat.{or_lt}
use borrow.Author.Tests.{le-leb, ltb-true, ltb-false}
use Rattle.forms.specs.Lists.{any, find, below}
use Rattle.forms.specs.Write.{placed}
use Rattle.forms.specs.WriteLaws.{placed-length}
use Rattle.forms.specs.declared.Refusal.{Refusal}
use Rattle.forms.specs.declared.Refusal.TheVariants.{IdPending, TableFull, WrongThreshold, NotSent}
use Rattle.rules.specs.Checks.{check}
use Rattle.rule_laws.specs.CheckLaws.{lt_not_le, not-le}
use Rattle.rules.specs.Records as book
use Rattle.forms.specs.Limits.{record_limit}
use Rattle.rules.specs.Records.{is_in, sites_of, counts, is_for, RecordReply, unless_checked, recorded}
use Rattle.rules.specs.Records.{records_full, wrong_threshold, full_not_sent, record_refusal, new_record, record_new, on_record, with_report}
use Rattle.rules.specs.Records.{reported_in, report_on, report, question, forget_record}
use Rattle.rule_laws.specs.RecordLaws.{accepted}
use Rattle.rule_laws.specs.RecordMasks.{mask_report, site_low, bit_small}
use Rattle.history.specs.Asking.{verdict_of}
use Rattle.history.specs.Words.{within}
use Rattle.records.specs.declared.Records.{Records}
use Rattle.records.specs.declared.Answer.{Answer}
use Rattle.records.specs.declared.Answer.TheVariants.{Done}
use Rattle.records.specs.declared.words.Record.{Record}
use Rattle.records.specs.Model.{width, record_from, record_of, numbers_of, records_view, ValidRecords, place_of, GapClosed}
use Rattle.records.specs.Model.{answer_by, answer_in, RecordsDo}
use Rattle.records.specs.NumberLaws.{no_record, entry_in, view_long, view_at_lem, Masked, view-put, view_push}
use Rattle.records.specs.NumberLaws.{placed_past, omitted, view-closed}
use Rattle.records.specs.FindLaws.{First, place_at_lem, place_none}

-- ### Masks in numbers

within_small : (n : ℕ) → within 256 n < 256
unfolding within
within_small n = go (ltb n 256) refl
  where
    go : (b : Bool) → ltb n 256 ≡ b → cond b n 0 < 256
    go true e = ltb-true n 256 e
    go false e = omega arith

pub from_masked : (ws : List ℕ) (i : ℕ) → Masked (record_from ws i)
unfolding record_from
from_masked ws i = record { sent = within_small _; full = within_small _; reported = within_small _ }

-- the record with more reports
abbrev pub reported_by : ℕ → Record → Record
reported_by bit r =
    record { id = r.id; sent = r.sent; full = r.full; reported = bit_or r.reported bit; threshold = r.threshold }

-- .. with that of one site
abbrev pub with_bit : ℕ → Record → Record
with_bit site r = reported_by (2 ^ site) r

bit_masked : (site : ℕ) (r : Record) → site < 8 → Masked r → Masked (with_bit site r)
bit_masked site r low m =
    record { sent = m.sent; full = m.full; reported = or_lt 8 r.reported (2 ^ site) m.reported (bit_small site low) }

bit-report : (site : ℕ) (r : Record) → site < 8 → Masked r → record_of (with_bit site r) ≡ with_report site (record_of r)
unfolding record_of
bit-report site r low m =
    ap (λ (xs : List ℕ). record {
      id = r.id;
      sent = sites_of r.sent;
      full = sites_of r.full;
      reported = xs;
      threshold = r.threshold;
    }) (sym (mask_report r.reported site m.reported low))

-- a record without reports
no_reports : (id sent full t : ℕ) → record_of (record { id = id; sent = sent; full = full; reported = 0; threshold = t })
    ≡ new_record id (sites_of sent) (sites_of full) t
unfolding record_of sites_of below
no_reports id sent full t = refl

-- numbers past some are past more
drop-further : (m n : ℕ) (old new : List ℕ) → m ≤ n → drop m new ≡ drop m old → drop n new ≡ drop n old
drop-further m n old new le e =
    let z : n ≡ m + (n - m) = omega arith in
    rw z (sym (drop-drop (n - m) m new) ∙ ap (drop (n - m)) e ∙ drop-drop (n - m) m old)

-- fewer than the limit, and not as many
pub below_limit : (n : ℕ) → n ≤ record_limit → (n ≡ record_limit → ⊥) → n < record_limit
below_limit n le ne = go (ltb n record_limit) refl
  where
    go : (b : Bool) → ltb n record_limit ≡ b → n < record_limit
    go true e = ltb-true n record_limit e
    go false e = absurd (ne (omega (arith, le, ltb-false n record_limit e)))

-- ### Verdicts

pub verdict_passes : (o : Option Refusal) → verdict_of o ≡ Ok tt → o ≡ none
unfolding verdict_of
verdict_passes none e = refl
verdict_passes (some r) e = let z : ◌≡◌ {A = ℕ} 0 1 = cc in absurd (omega arith)

pub verdict_refused : (o : Option Refusal) (q : Refusal) → verdict_of o ≡ Err q → o ≡ some q
unfolding verdict_of
verdict_refused none q e = let z : ◌≡◌ {A = ℕ} 0 1 = cc in absurd (omega arith)
verdict_refused (some r) q e = let z : r ≡ q = cc in ap (λ (x : Refusal). some x) z

module _ (s : Records) (ws : List ℕ) (valid : ValidRecords s ws) where
  abbrev rs : List book.Record
  rs = records_view s ws

  -- ### 7, 10, 18 and 19 of a new record

  module _ (id : ℕ) (sent full : List ℕ) (t : ℕ) where
    pub check-again : (i : ℕ) → place_of (is_for id) rs ≡ Some i → Err IdPending ≡ verdict_of (record_refusal id sent full t rs)
    unfolding verdict_of record_refusal recorded check
    check-again i e = rw (place_at_lem (is_for id) no_record rs i e).some_one

    module _ (fresh : place_of (is_for id) rs ≡ None) where
      new_id : any (is_for id) rs ≡ false
      new_id = (place_none (is_for id) rs fresh).1

      pub check-full : s.count ≡ record_limit → Err TableFull ≡ verdict_of (record_refusal id sent full t rs)
      unfolding verdict_of record_refusal recorded records_full check
      check-full e = rw (new_id, le-leb record_limit (length rs) (omega (arith, e, view_long s ws)))

      module _ (room : s.count < record_limit) where
        not_full : leb record_limit (length rs) ≡ false
        not_full = lt_not_le record_limit (length rs) (omega (arith, room, view_long s ws))

        pub check_wrong : wrong_threshold t full ≡ true → Err WrongThreshold ≡ verdict_of (record_refusal id sent full t rs)
        unfolding verdict_of record_refusal recorded records_full check
        check_wrong e = rw (new_id, not_full, e)

        pub check_outside : wrong_threshold t full ≡ false → full_not_sent sent full ≡ true
            → Err NotSent ≡ verdict_of (record_refusal id sent full t rs)
        unfolding verdict_of record_refusal recorded records_full check
        check_outside e f = rw (new_id, not_full, e, f)

        pub check_ok : wrong_threshold t full ≡ false → full_not_sent sent full ≡ false
            → Ok tt ≡ verdict_of (record_refusal id sent full t rs)
        unfolding verdict_of record_refusal recorded records_full check
        check_ok e f = rw (new_id, not_full, e, f)

  -- ### Refused calls

  pub call_refused : (reply : RecordReply) (q : Refusal) → reply ≡ book.refused q → RecordsDo s ws reply s (Err q) ws
  unfolding answer_in
  call_refused reply q e =
      subst (λ (x : RecordReply). RecordsDo s ws x s (Err q) ws) (sym e)
      (record { answer = refl; valid = valid; view = refl; refused = (refl, refl); past = refl })

  module _ (id : ℕ) (gone : place_of (is_for id) rs ≡ None) where
    no_record_lem : find (is_for id) rs ≡ none
    no_record_lem = (place_none (is_for id) rs gone).0

    pub report_gone : (site : ℕ) → report id site rs ≡ book.refused NotSent
    unfolding report on_record
    report_gone site = rw no_record_lem

    pub question_gone : question id rs ≡ book.refused NotSent
    unfolding question on_record
    question_gone = rw no_record_lem

    pub forget_gone : forget_record id rs ≡ book.refused NotSent
    unfolding forget_record on_record
    forget_gone = rw no_record_lem

  -- ### Recording

  module _ (id sent full t : ℕ) (v : Result (Unit {0}) Refusal)
      (checked : v ≡ verdict_of (record_refusal id (sites_of sent) (sites_of full) t rs)) where
    pub records_not : (q : Refusal) → v ≡ Err q → RecordsDo s ws (record_new id sent full t rs) s (Err q) ws
    unfolding record_new unless_checked
    records_not q e =
        call_refused (record_new id sent full t rs) q
        (rw (verdict_refused (record_refusal id (sites_of sent) (sites_of full) t rs) q (sym checked ∙ e)))

    module _ (passes : v ≡ Ok tt) where
      new_reply : record_new id sent full t rs ≡ book.ok (rs ++ (new_record id (sites_of sent) (sites_of full) t ∷ []))
      unfolding record_new unless_checked
      new_reply = rw (verdict_passes (record_refusal id (sites_of sent) (sites_of full) t rs) (sym checked ∙ passes))

      pub records_room : s.count < record_limit
      unfolding records_full
      records_room = go (leb record_limit (length rs)) (accepted id sent full t rs _ new_reply).room
        where
          go : (b : Bool) → leb record_limit (length rs) ≡ false → s.count < record_limit
          go b e = omega (arith, not-le record_limit (length rs) e, view_long s ws)

      pub records_fits : width * s.count + width ≤ length ws
      records_fits = omega (arith, records_room, valid.long)

      pub records : (r : Record) → r ≡ record { id = id; sent = sent; full = full; reported = 0; threshold = t } → Masked r
          → RecordsDo s ws (record_new id sent full t rs) (record { count = s.count + 1 }) (Ok Done)
          (placed ws (width * s.count) (numbers_of r))
      unfolding answer_in
      records r e small =
          subst (λ (x : RecordReply). RecordsDo s ws x (record { count = s.count + 1 }) (Ok Done)
          (placed ws (width * s.count) (numbers_of r))) (sym new_reply)
          (record {
            answer = refl;
            valid =
                record {
                  few = omega (arith, records_room);
                  long = omega (arith, valid.long, placed-length ws (width * s.count) (numbers_of r) records_fits);
                };
            view =
                view_push s.count ws r records_fits small
                ∙ ap (λ (x : book.Record). rs ++ (x ∷ [])) (ap record_of e ∙ no_reports id sent full t);
            refused = tt;
            past =
                let z : width * (s.count + 1) ≡ width * s.count + width = omega arith in
                rw z (placed_past ws (width * s.count) (numbers_of r) records_fits);
          })

      pub records_as : (new : List ℕ) → sent < 256 → full < 256
          → new ≡ placed ws (width * s.count) (numbers_of (record { id = id; sent = sent; full = full; reported = 0; threshold = t }))
          → RecordsDo s ws (record_new id sent full t rs) (record { count = s.count + 1 }) (Ok Done) new
      records_as new a b e =
          subst (λ (x : List ℕ). RecordsDo s ws (record_new id sent full t rs)
          (record { count = s.count + 1 }) (Ok Done) x) (sym e)
          (records (record { id = id; sent = sent; full = full; reported = 0; threshold = t }) refl
          (record { sent = a; full = b; reported = omega arith }))

  -- ### The record that is found

  module _ (id i : ℕ) (place : place_of (is_for id) rs ≡ Some i) where
    it : First (is_for id) no_record rs i
    it = place_at_lem (is_for id) no_record rs i place

    pub found_low : i < s.count
    found_low = omega (arith, it.inside, view_long s ws)

    pub found-fits : width * i + width ≤ length ws
    found-fits = omega (arith, found_low, valid.few, valid.long)

    found_is : find (is_for id) rs ≡ some (entry_in ws i)
    found_is = it.found ∙ ap (λ (x : book.Record). some x) (view_at_lem s ws i found_low)

    -- the question
    pub question-found : (r : Record) → r ≡ record_from ws i → Ok (answer_by (counts (record_of r))) ≡ answer_in (question id rs)
    unfolding question on_record answer_in
    question-found r e = rw (e, found_is)

    -- a report from a site that it was not sent to
    pub report_outside : (site : ℕ) (r : Record) → r ≡ record_from ws i → is_in site (sites_of r.sent) ≡ false
        → report id site rs ≡ book.refused NotSent
    unfolding report on_record report_on unless_checked check record_of
    report_outside site r e out =
        let outside : is_in site (sites_of (record_from ws i).sent) ≡ false =
        ap (λ (x : Record). is_in site (sites_of x.sent)) (sym e) ∙ out
        in
        rw (found_is, outside)

    -- a report
    module _ (site : ℕ) (inside : is_in site (sites_of (record_from ws i).sent) ≡ true) where
      low : site < 8
      low = site_low (record_from ws i).sent site inside

      report_reply : report id site rs
          ≡ book.counted (set rs i (with_report site (entry_in ws i))) (counts (with_report site (entry_in ws i)))
      unfolding report on_record report_on unless_checked check reported_in record_of
      report_reply =
          rw (found_is, inside)
          (ap (λ (l : List book.Record). book.counted l (counts (with_report site (entry_in ws i))))
          (it.changed (with_report site) ∙ ap (λ (x : book.Record). set rs i (with_report site x)) (view_at_lem s ws i found_low)))

      pub reports : (r : Record) → r ≡ with_bit site (record_from ws i)
          → RecordsDo s ws (report id site rs) s (Ok (answer_by (counts (record_of r))))
          (placed ws (width * i) (numbers_of r))
      unfolding answer_in
      reports r e =
          subst (λ (x : Record). RecordsDo s ws (report id site rs) s (Ok (answer_by (counts (record_of x))))
          (placed ws (width * i) (numbers_of x))) (sym e) whole
        where
          masked : Masked (with_bit site (record_from ws i))
          masked = bit_masked site (record_from ws i) low (from_masked ws i)

          as_report : record_of (with_bit site (record_from ws i)) ≡ with_report site (entry_in ws i)
          as_report = bit-report site (record_from ws i) low (from_masked ws i)

          whole : RecordsDo s ws (report id site rs)
              s (Ok (answer_by (counts (record_of (with_bit site (record_from ws i))))))
              (placed ws (width * i) (numbers_of (with_bit site (record_from ws i))))
          whole =
              subst (λ (x : RecordReply). RecordsDo s ws x
              s (Ok (answer_by (counts (record_of (with_bit site (record_from ws i))))))
              (placed ws (width * i) (numbers_of (with_bit site (record_from ws i))))) (sym report_reply)
              (record {
                answer = ap (λ (x : book.Record). Ok (answer_by (counts x))) as_report;
                valid =
                    record {
                      few = valid.few;
                      long =
                          omega (
                            arith,
                            valid.long,
                            placed-length ws (width * i) (numbers_of (with_bit site (record_from ws i))) found-fits,
                          );
                    };
                view =
                    view-put s ws i (with_bit site (record_from ws i)) found-fits masked found_low
                    ∙ ap (λ (x : book.Record). set rs i x) as_report;
                refused = tt;
                past =
                    drop-further (width * i + width) (width * s.count) ws _ (omega (arith, found_low))
                    (placed_past ws (width * i) (numbers_of (with_bit site (record_from ws i))) found-fits);
              })

    -- .. as the code has it: the record that was read, with the bit set
    pub reports_as : (site bit : ℕ) (r : Record) → r ≡ record_from ws i → is_in site (sites_of r.sent) ≡ true → bit ≡ 2 ^ site
        → (a : Answer)
        → a ≡ answer_by (counts (record_of (reported_by bit r)))
        → (new : List ℕ) → new ≡ placed ws (width * i) (numbers_of (reported_by bit r))
        → RecordsDo s ws (report id site rs) s (Ok a) new
    reports_as site bit r e inside b a f new g =
        let there-now : is_in site (sites_of (record_from ws i).sent) ≡ true =
        ap (λ (x : Record). is_in site (sites_of x.sent)) (sym e) ∙ inside
        in
        let same : reported_by bit r ≡ with_bit site (record_from ws i) = ap₂ (λ (n : ℕ) (x : Record). reported_by n x) b e in
        subst (λ (x : Answer). RecordsDo s ws (report id site rs) s (Ok x) new) (sym f)
        (subst (λ (x : List ℕ). RecordsDo s ws (report id site rs)
        s (Ok (answer_by (counts (record_of (reported_by bit r))))) x) (sym g)
        (reports site there-now (reported_by bit r) same))

    -- forgetting
    forget_reply : forget_record id rs ≡ book.ok (omitted i rs)
    unfolding forget_record on_record
    forget_reply = rw (found_is) (ap (λ (l : List book.Record). book.ok l) it.dropped)

    pub forgets : (last : ℕ) (new : List ℕ) → last + 1 ≡ s.count → GapClosed (width * i) (width * last) ws new
        → RecordsDo s ws (forget_record id rs) (record { count = last }) (Ok Done) new
    unfolding answer_in
    forgets last new e g =
        subst (λ (x : RecordReply). RecordsDo s ws x (record { count = last }) (Ok Done) new) (sym forget_reply)
        (record {
          answer = refl;
          valid = record { few = omega (arith, e, valid.few); long = omega (arith, valid.long, g.long) };
          view = view-closed s i last ws new found_low e g;
          refused = tt;
          past = g.past;
        })
