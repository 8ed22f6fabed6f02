-- The reply to an unended rest, and a whole input.
use Rattle.std.specs.Prelude.{ℕ, ◌+◌, ◌≤◌, ◌<◌, ◌≡◌, ◌≢◌, refl, Bool, true, false, leb, length, take, drop, Option as Held, Some, None, unwrap_or}
use Rattle.std.proofs.Common.{arith, add-zero, ◌∙◌, length-append, take-append-drop, take_all, length-take-le, leb-true, leb-false}
use Rattle.std.proofs.Math.Path.{sym, ap, subst}
use mathlib.Core.List.{List, [], ◌∷◌, ◌++◌}
use Rattle.std.proofs.Math.Option.{none}
use Rattle.forms.specs.Forms.{Refused, outcome_text}
use Rattle.forms.specs.Held.{outcome_with}
use Rattle.forms.specs.declared.Refusal.TheVariants.{Unreadable}
use Rattle.forms.specs.declared.ReplyForm.{ReplyForm}
use Rattle.rules.specs.Log.{ended, lines_of}
use Rattle.rules.specs.Session.{after_lines, rest_reply, session_in}
use Rattle.site.specs.Model.{Lent}
use Rattle.session.specs.declared.PartialLine.{PartialLine}
use Rattle.session.specs.declared.Session.{Session}
use Rattle.session.specs.Model.{session_view, Starts}
use Rattle.session.specs.Feeding.{Progress, at_start, fed, HoldsLine, Begins, UsablePartial}
use Rattle.forms.specs.Write.{Wrote, Writes, WritesIf, with_end}
use Rattle.forms.specs.WriteLaws.{placed_none, writes_there, writes_not}
use Rattle.stream.specs.declared.Stream.{Stream}
use Rattle.stream.specs.declared.FeedResult.{FeedResult}
use Rattle.stream.specs.Model.{StartsStream, Fronts, Progressed, Feeds, Runs}
use Rattle.stream.specs.Logging.{logged}
use Rattle.stream.specs.LineLaws.{some-line, usable, none_held}
use Rattle.stream.specs.ProgressLaws.{replied_grows, session_is, fronts_more, fronts_as}

-- ### Where it was written, and where there was no room

no_room : {C : Type 0} (n : ℕ) → Some n ≡ None → C
no_room n e = let y : ◌≡◌ {A = ℕ} 0 1 = cc in absurd (omega arith)

pub wrote_at : (l : List ℕ) (at : ℕ) (bs : List ℕ) (r : Held ℕ) (m : List ℕ) (next : ℕ) → Writes l at bs r m → r ≡ Some next →
    Wrote l at bs next m
unfolding Writes
wrote_at l at bs r m next w e = by_test (leb (at + length bs) (length l)) w
  where
    by_test : (b : Bool) → WritesIf b l at bs r m → Wrote l at bs next m
    by_test true x = let z : Some next ≡ Some (at + length bs) = sym e ∙ x.answer in record { behind = cc; bytes = x.bytes }
    by_test false x = no_room next (sym e ∙ x.answer)

-- what was written lies within the buffer
pub wrote_within : (l : List ℕ) (at : ℕ) (bs : List ℕ) (r : Held ℕ) (m : List ℕ) (next : ℕ) → Writes l at bs r m → r ≡ Some next →
    next ≤ length l
unfolding Writes
wrote_within l at bs r m next w e = by_test (leb (at + length bs) (length l)) refl w
  where
    by_test : (b : Bool) → leb (at + length bs) (length l) ≡ b → WritesIf b l at bs r m → next ≤ length l
    by_test true t x =
        let z : Some next ≡ Some (at + length bs) = sym e ∙ x.answer in
        let k : next ≡ at + length bs = cc in
        let h = leb-true (at + length bs) (length l) t in
        omega (arith, k, h)
    by_test false t x = no_room next (sym e ∙ x.answer)

-- no room: it did not fit, and nothing has changed
pub record Lacks (l : List ℕ) (at : ℕ) (bs m : List ℕ) : Type 0 where
  pub short : length l < at + length bs
  pub bytes : m ≡ l

pub wrote_not : (l : List ℕ) (at : ℕ) (bs : List ℕ) (r : Held ℕ) (m : List ℕ) → Writes l at bs r m → r ≡ None → Lacks l at bs m
unfolding Writes
wrote_not l at bs r m w e = by_test (leb (at + length bs) (length l)) refl w
  where
    by_test : (b : Bool) → leb (at + length bs) (length l) ≡ b → WritesIf b l at bs r m → Lacks l at bs m
    by_test true t x = no_room (at + length bs) (sym x.answer ∙ e)
    by_test false t x = record { short = leb-false (at + length bs) (length l) t; bytes = x.bytes }

-- There is room: it was written, whatever stands for a want of room.
pub wrote_anyway : (l : List ℕ) (at : ℕ) (bs : List ℕ) (r : Held ℕ) (m : List ℕ) (d : ℕ) → Writes l at bs r m → at + length bs ≤ length l →
    Wrote l at bs (unwrap_or r d) m
wrote_anyway l at bs (Some next) m d w h = wrote_at l at bs (Some next) m next w refl
wrote_anyway l at bs None m d w h = let s = (wrote_not l at bs None m w refl).short in absurd (omega (arith, s, h))

-- ### The unended rest

refuses-some : (line : List ℕ) → 0 < length line → rest_reply line ≡ ended (outcome_text (Refused Unreadable))
unfolding rest_reply
refuses-some [] h = absurd (omega arith)
refuses-some (b ∷ bs) h = refl

-- what the code writes for it
abbrev refuses_rest : List ℕ
refuses_rest = with_end (outcome_text (outcome_with (ReplyForm.Refused Unreadable) [] []))

rest-written : (out : List ℕ) (at : ℕ) (line : List ℕ) (r : Held ℕ) (page : List ℕ) → 0 < length line → Writes out at refuses_rest r page →
    Writes out at (rest_reply line) r page
unfolding ended outcome_with
rest-written out at line r page h w = subst (λ (l : List ℕ). Writes out at l r page) (sym (refuses-some line h)) w

-- A line that is held and has no byte is no rest.
module _ (b : PartialLine) (line : List ℕ) (h : HoldsLine b line) (z : b.len ≡ 0) (out : List ℕ) (at : ℕ) where
  pub rest_none : at ≤ length out → Writes out at (rest_reply line) (Some at) out
  unfolding rest_reply
  rest_none le =
      subst (λ (l : List ℕ). Writes out at (rest_reply l) (Some at) out) (sym (none_held b line h z))
      (writes_there (omega arith) (record { behind = sym (add-zero at); bytes = sym (placed_none out at) }))

  pub rest_far : length out < at → Writes out at (rest_reply line) None out
  unfolding rest_reply
  rest_far lt = subst (λ (l : List ℕ). Writes out at (rest_reply l) None out) (sym (none_held b line h z)) (writes_not out at [] (omega arith))

-- "Unended rest of input: 1.", whether it is held or above the limit.
pub rest-held : (begun : Held PartialLine) (line : List ℕ) → Begins begun line → ((b : PartialLine) → begun ≡ Some b → b.len ≢ 0) →
    (out : List ℕ) (at : ℕ) (r : Held ℕ) (page : List ℕ) → Writes out at refuses_rest r page → Writes out at (rest_reply line) r page
rest-held (Some b) line h some out at r page w =
    let m : length line ≡ b.len = sym (ap length h.is) ∙ length-take-le b.len b.bytes (omega (arith, h.few, h.long)) in
    let k = some b refl in
    rest-written out at line r page (omega (arith, m, k)) w
rest-held None line h some out at r page w = rest-written out at line r page (omega (arith, h)) w

-- The reply to the rest lies within the buffer.
pub rest-within : (b : Held PartialLine) (out : List ℕ) (at : ℕ) (r : Held ℕ) (page : List ℕ) (n : ℕ) → UsablePartial b →
    ((line : List ℕ) → Begins b line → Writes out at (rest_reply line) r page) → r ≡ Some n → n ≤ length out
rest-within b out at r page n u w e = let l = some-line b u in
    wrote_within out at (rest_reply l.line) r page n (w l.line l.begins) e

-- ### The start

pub starts_stream : (x : Session) (b : Held PartialLine) (bytes : Lent) → Starts x bytes → Begins b [] →
    StartsStream (record { session = x; begun = b }) bytes
unfolding at_start
starts_stream x b bytes s h =
    record {
      valid = record { session = s.valid; begun = usable b [] h };
      begun = h;
      is = λ i. record { begun = []; session = s.view i; replied = [] };
    }

-- ### A whole input

module _ (input : List ℕ) (old : Lent) (s : Stream) (f : FeedResult) (new : Lent) (out page : List ℕ) (starts : StartsStream s old)
    (feeds : Feeds s old input f new out page) where
  abbrev done : Progress
  done = fed (length old.log) (take f.used input) at_start

  comes : Progressed done f.stream new out page f.written
  comes = subst (λ (g : Progress). Progressed (fed (length old.log) (take f.used input) g) f.stream new out page f.written)
      starts.is (feeds.does [] starts.begun)

  logs : new.log ≡ logged (length old.log) (lines_of (take f.used input)) none old.log
  unfolding at_start
  logs = feeds.log [] starts.begun
      ∙ ap (λ (g : Progress). logged (length old.log) (lines_of (take f.used input)) g.session old.log) starts.is

  -- The session after the lines that were taken.
  pub session-after : session_view f.stream.session new ≡ after_lines (length old.log) (lines_of (take f.used input)) none
  unfolding fed at_start
  session-after = comes.session

  grows : length done.replied ≤ length (fed (length old.log) input at_start).replied
  grows =
      subst (λ (l : List ℕ). length done.replied ≤ length (fed (length old.log) l at_start).replied)
      (take-append-drop f.used input)
      (replied_grows (length old.log) (take f.used input) (drop f.used input) at_start)

  whole_longer : length done.replied ≤ length (session_in (length old.log) input)
  whole_longer =
      let e = ap length (session_is (length old.log) input) in
      let k = length-append (fed (length old.log) input at_start).replied (rest_reply (fed (length old.log) input at_start).begun) in
      let g = grows in
      omega (arith, e, k, g)

  -- A line is left for whose reply there may be no room.
  pub run_stops : f.used < length input →
      Runs input old.log (record { whole = false; used = f.used; written = f.written }) new.log out page
  run_stops lt =
      let k = comes.replies.count in
      let g = whole_longer in
      let h = feeds.stops lt in
      record {
        room = feeds.room;
        log = logs;
        replies = record { within = feeds.within; short = omega (arith, k, g, h); replies = comes.replies };
      }

  module _ (all : length input ≤ f.used) (r : Held ℕ) (last : List ℕ)
      (rest : (line : List ℕ) → Begins f.stream.begun line → Writes page f.written (rest_reply line) r last) where
    is_all : take f.used input ≡ input
    is_all = take_all f.used input all

    session-done : session_in (length old.log) input ≡ done.replied ++ rest_reply done.begun
    session-done =
        session_is (length old.log) input
        ∙ ap (λ (l : List ℕ). (fed (length old.log) l at_start).replied ++ rest_reply (fed (length old.log) l at_start).begun)
        (sym is_all)

    -- The rest has its reply too.
    pub run-whole : (n : ℕ) → r ≡ Some n → Runs input old.log (record { whole = true; used = f.used; written = n }) new.log out last
    run-whole n e =
        record {
          room = feeds.room;
          log = logs;
          replies = record {
            used = let w = feeds.within in omega (arith, w, all);
            replies =
                fronts_as (done.replied ++ rest_reply done.begun) (session_in (length old.log) input) out last n (sym session-done)
                (fronts_more done.replied out page f.written (rest_reply done.begun) n last comes.replies
                (wrote_at page f.written (rest_reply done.begun) r last n (rest done.begun comes.begun) e));
          };
        }

    -- There is no room for the reply to the rest.
    pub run_short : r ≡ None → length page ≡ length out →
        Runs input old.log (record { whole = false; used = f.used; written = f.written }) new.log out last
    run_short e long =
        let x = wrote_not page f.written (rest_reply done.begun) r last (rest done.begun comes.begun) e in
        let k = comes.replies.count in
        let h = x.short in
        let z = ap length session-done ∙ length-append done.replied (rest_reply done.begun) in
        record {
          room = feeds.room;
          log = logs;
          replies = record {
            within = feeds.within;
            short = omega (arith, k, h, z, long);
            replies = subst (λ (l : List ℕ). Fronts done.replied out l f.written) (sym x.bytes) comes.replies;
          };
        }
