-- A chunk, line after line.
use Prim.Native.Nat.{ℕ, ◌+◌, ◌-◌, ◌≤◌, ◌<◌}
use Rattle.std.proofs.Common.{arith, sym, ap, ap₂, ◌∙◌, take-append-drop, length-drop, take_all}
use Rattle.std.specs.Prelude.{◌≡◌, refl, length, take, drop, Option as Held}
use Rattle.std.proofs.Math.Path.{subst}
use mathlib.Core.List.{List, [], ◌∷◌, ◌++◌, append-nil}
use Rattle.std.proofs.Math.Seq.{take-length}
use Rattle.forms.specs.Limits.{reply_limit}
use Rattle.forms.specs.Forms.{Outcome, outcome_text}
use Rattle.forms.specs.Held.{replied, outcome_of}
use Rattle.rules.specs.Log.{ended, lines_from, rest_from}
use Rattle.rule_laws.specs.LineSplitLaws.{NoEnd, lines-append, lines_from_open, rest_from_open}
use Rattle.rules.specs.Session.{Turn, turn}
use Rattle.log_reader.specs.Model.{EndAt}
use Rattle.log_reader.specs.LineLaws.{take-line}
use Rattle.site.specs.Model.{Lent, Printable}
use Rattle.forms.specs.Write.{Wrote}
use Rattle.session.specs.declared.PartialLine.{PartialLine}
use Rattle.session.specs.declared.LineResult.{LineResult}
use Rattle.session.specs.Model.{session_view, Turns}
use Rattle.session.specs.Feeding.{Progress, fed, UsablePartial, Begins}
use Rattle.session.specs.FeedingLaws.{fed-append, fed_none}
use Rattle.stream.specs.declared.Stream.{Stream}
use Rattle.stream.specs.declared.FeedResult.{FeedResult}
use Rattle.stream.specs.Model.{ValidStream, standing, Progressed, Feeds}
use Rattle.stream.specs.Logging.{overlaid, logged}
use Rattle.stream.specs.LoggingLaws.{turn_logs, logged-append}
use Rattle.stream.specs.LineLaws.{some-line, usable}
use Rattle.stream.specs.ProgressLaws.{kept_open, fed_open, answered, fed-line, fronts_none, fronts_fits, fronts_more}

-- A begun line that ends.
line-ended : (line part : List ℕ) → NoEnd part → lines_from line (ended part) ≡ (line ++ part) ∷ []
unfolding ended lines_from
line-ended line part h =
    lines-append line part (10 ∷ [])
    ∙ ap₂ (λ (ls : List (List ℕ)) (l : List ℕ). ls ++ lines_from l (10 ∷ [])) (lines_from_open line part h) (rest_from_open line part h)

-- The stream s has been fed the first bytes of the chunk.
pub record Along (s : Stream) (old : Lent) (chunk : List ℕ) (r : FeedResult) (new : Lent) (out page : List ℕ) : Type 0 where
  pub within : r.used ≤ length chunk
  pub room : length new.log ≡ length old.log
  pub long : length page ≡ length out
  pub before : ValidStream s old
  pub valid : ValidStream r.stream new
  pub log : (line : List ℕ) → Begins s.begun line →
      new.log ≡ logged (length old.log) (lines_from line (take r.used chunk)) (session_view s.session old) old.log
  pub does : (line : List ℕ) → Begins s.begun line →
      Progressed (fed (length old.log) (take r.used chunk) (standing s line old)) r.stream new out page r.written

pub along_start : (s : Stream) (old : Lent) (chunk out : List ℕ) → ValidStream s old →
    Along s old chunk (record { stream = s; used = 0; written = 0 }) old out out
unfolding logged lines_from
along_start s old chunk out v =
    record {
      within = omega arith;
      room = refl;
      long = refl;
      before = v;
      valid = v;
      log = λ line h. refl;
      does = λ line h.
          subst (λ (g : Progress). Progressed g s old out out 0) (sym (fed_none (length old.log) (standing s line old)))
          (record { begun = h; session = refl; replies = fronts_none out });
    }

module _ (s : Stream) (old : Lent) (chunk : List ℕ) (r : FeedResult) (new : Lent) (out page : List ℕ)
    (a : Along s old chunk r new out page) where
  -- what is written lies within the buffer
  pub along_fits : r.written ≤ length out
  along_fits =
      let l = some-line s.begun a.before.begun in
      fronts_fits (fed (length old.log) (take r.used chunk) (standing s l.line old)).replied out page r.written
      (a.does l.line l.begins).replies a.long

  pub along_feeds : (r.used < length chunk → length out < r.written + reply_limit) → Feeds s old chunk r new out page
  along_feeds h =
      record {
        within = a.within;
        stops = h;
        fits = along_fits;
        room = a.room;
        valid = a.valid;
        log = a.log;
        does = a.does;
      }

  -- No line ends any more: the rest is kept.
  pub along_rest : (b : Held PartialLine) → NoEnd (drop r.used chunk) →
      ((line : List ℕ) → Begins r.stream.begun line → Begins b (line ++ take (length chunk - r.used) (drop r.used chunk))) →
      Along s old chunk
      (record { stream = record { session = r.stream.session; begun = b }; used = length chunk; written = r.written }) new out page
  along_rest b h w =
      record {
        within = omega arith;
        room = a.room;
        long = a.long;
        before = a.before;
        valid = record { session = a.valid.session; begun = held };
        log = λ line begins. a.log line begins
            ∙ ap (λ (ls : List (List ℕ)). logged (length old.log) ls (session_view s.session old) old.log) (sym (same_lines line));
        does = λ line begins.
            let x = a.does line begins in
            subst (λ (g : Progress). Progressed g (record { session = r.stream.session; begun = b }) new out page r.written)
            (sym (is line))
            (record {
              begun = keeps (fed (length old.log) (take r.used chunk) (standing s line old)).begun x.begun;
              session = x.session;
              replies = x.replies;
            });
      }
    where
      keeps : (line : List ℕ) → Begins r.stream.begun line → Begins b (line ++ drop r.used chunk)
      keeps line k =
          subst (λ (l : List ℕ). Begins b (line ++ l))
          (take_all (length chunk - r.used) (drop r.used chunk) (let d = length-drop r.used chunk in omega (arith, d))) (w line k)

      same_lines : (line : List ℕ) → lines_from line (take (length chunk) chunk) ≡ lines_from line (take r.used chunk)
      same_lines line =
          ap (λ (l : List ℕ). lines_from line l) (take-length chunk ∙ sym (take-append-drop r.used chunk))
          ∙ lines-append line (take r.used chunk) (drop r.used chunk)
          ∙ ap (λ (ls : List (List ℕ)). lines_from line (take r.used chunk) ++ ls)
          (lines_from_open (rest_from line (take r.used chunk)) (drop r.used chunk) h)
          ∙ append-nil (lines_from line (take r.used chunk))

      held : UsablePartial b
      held =
          let l = some-line r.stream.begun a.valid.begun in
          usable b (l.line ++ drop r.used chunk) (keeps l.line l.begins)

      is : (line : List ℕ) →
          fed (length old.log) (take (length chunk) chunk) (standing s line old)
          ≡ kept_open (drop r.used chunk) (fed (length old.log) (take r.used chunk) (standing s line old))
      is line =
          ap (λ (l : List ℕ). fed (length old.log) l (standing s line old)) (take-length chunk ∙ sym (take-append-drop r.used chunk))
          ∙ sym (fed-append (length old.log) (take r.used chunk) (drop r.used chunk) (standing s line old))
          ∙ fed_open (length old.log) (drop r.used chunk) (fed (length old.log) (take r.used chunk) (standing s line old)) h

  -- One line more.
  module _ (e : ℕ) (ends : EndAt chunk r.used e) (t : LineResult) (after : Lent)
      (turns : (line : List ℕ) → Begins r.stream.begun line →
      Turns r.stream.session new
      (turn (length new.log) (line ++ take (e - r.used) (drop r.used chunk)) (session_view r.stream.session new)) t after) where
    abbrev part : List ℕ
    part = take (e - r.used) (drop r.used chunk)

    pub line_printable : Printable (replied t.reply after.lists)
    line_printable = let l = some-line r.stream.begun a.valid.begun in (turns l.line l.begins).answer.printable

    pub along_line : (b : Held PartialLine) (n : ℕ) (next : List ℕ) → length after.log ≡ length new.log → length next ≡ length page →
        Begins b [] →
        Wrote page r.written (ended (outcome_text (outcome_of (replied t.reply after.lists)))) n next →
        Along s old chunk (record { stream = record { session = t.session; begun = b }; used = e + 1; written = n }) after out next
    unfolding logged fed
    along_line b n next same long none w =
        record {
          within = omega (arith, ends.before);
          room = same ∙ a.room;
          long = long ∙ a.long;
          before = a.before;
          valid = record {
            session = let l = some-line r.stream.begun a.valid.begun in (turns l.line l.begins).valid;
            begun = usable b [] none;
          };
          log = λ line begins. logs line begins;
          does = λ line begins. subst (λ (g : Progress). Progressed g (record { session = t.session; begun = b }) after out next n)
              (sym (is line)) (comes line begins);
        }
      where
        so_far : List ℕ → Progress
        so_far line = fed (length old.log) (take r.used chunk) (standing s line old)

        is : (line : List ℕ) →
            fed (length old.log) (take (e + 1) chunk) (standing s line old) ≡ answered (length old.log) part (so_far line)
        is line =
            ap (λ (l : List ℕ). fed (length old.log) l (standing s line old)) (take-line chunk r.used e ends)
            ∙ sym (fed-append (length old.log) (take r.used chunk) (ended part) (standing s line old))
            ∙ fed-line (length old.log) part (so_far line) ends.unended

        more-lines : (line : List ℕ) →
            lines_from line (take (e + 1) chunk) ≡ lines_from line (take r.used chunk) ++ (((so_far line).begun ++ part) ∷ [])
        more-lines line =
            ap (λ (l : List ℕ). lines_from line l) (take-line chunk r.used e ends)
            ∙ lines-append line (take r.used chunk) (ended part)
            ∙ ap (λ (ls : List (List ℕ)). lines_from line (take r.used chunk) ++ ls)
            (line-ended (rest_from line (take r.used chunk)) part ends.unended)

        -- the line's turn, as the specification has it
        same_turn : (line : List ℕ) → Begins s.begun line →
            turn (length new.log) ((so_far line).begun ++ part) (session_view r.stream.session new)
            ≡ turn (length old.log) ((so_far line).begun ++ part) (so_far line).session
        same_turn line begins = ap₂ (λ (k : ℕ) v. turn k ((so_far line).begun ++ part) v) a.room (a.does line begins).session

        logs : (line : List ℕ) → Begins s.begun line →
            after.log ≡ logged (length old.log) (lines_from line (take (e + 1) chunk)) (session_view s.session old) old.log
        logs line begins =
            turn_logs r.stream.session new _ t after a.valid.session (turns (so_far line).begun (a.does line begins).begun)
            ∙ ap₂ (λ (y : Turn) (l : List ℕ). overlaid y.after l) (same_turn line begins) (a.log line begins)
            ∙ sym (logged-append (length old.log) (lines_from line (take r.used chunk)) (((so_far line).begun ++ part) ∷ [])
            (session_view s.session old) old.log)
            ∙ ap (λ (ls : List (List ℕ)). logged (length old.log) ls (session_view s.session old) old.log) (sym (more-lines line))

        comes : (line : List ℕ) → Begins s.begun line →
            Progressed (answered (length old.log) part (so_far line)) (record { session = t.session; begun = b }) after out next n
        comes line begins =
            record {
              begun = none;
              session = x.after ∙ ap (λ (y : Turn). y.after) (same_turn line begins);
              replies =
                  fronts_more (so_far line).replied out page r.written
                  (ended (outcome_text (turn (length old.log) ((so_far line).begun ++ part) (so_far line).session).reply)) n next
                  (a.does line begins).replies
                  (subst (λ (o : Outcome). Wrote page r.written (ended (outcome_text o)) n next)
                  (x.answer.outcome ∙ ap (λ (y : Turn). y.reply) (same_turn line begins)) w);
            }
          where
            x : Turns r.stream.session new
                (turn (length new.log) ((so_far line).begun ++ part) (session_view r.stream.session new)) t after
            x = turns (so_far line).begun (a.does line begins).begun
