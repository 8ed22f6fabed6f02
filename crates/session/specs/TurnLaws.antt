-- A call of the site as a turn of the session, and a line's form as the specification obeys it.
use Rattle.std.specs.Prelude.{ℕ, ◌+◌, ◌-◌, ◌≤◌, ◌<◌, ◌≡◌, refl, Bool, true, false, ◌&&◌, List, T, leb, length, Option as Held, Some, None}
use Rattle.std.proofs.Common.{arith, ap, subst, ◌∙◌, leb→le, length-drop, length-take-le}
use Rattle.std.proofs.Math.Path.{sym}
use Rattle.std.proofs.lemmas.Option.{same_Some}
use Rattle.std.proofs.Math.Option.{Option, none, some}
use borrow.Author.Tests.{le-leb, lt-leb}
use Rattle.forms.specs.ListLaws.{and_left, and_right}
use Rattle.forms.specs.Limits.{live_limit, line_limit}
use Rattle.forms.specs.Reading.{read_whole, read_command}
use Rattle.forms.specs.Forms.{Did}
use Rattle.forms.specs.Held.{Numbers, numbers_of, Replied, replied}
use Rattle.forms.specs.declared.ReplyLine.{ReplyLine}
use Rattle.forms.specs.declared.Refusal.{Refusal}
use Rattle.forms.specs.declared.Refusal.TheVariants.{Unreadable}
use Rattle.rules.specs.State.{State, Reply, refused, ok}
use Rattle.rules.specs.Calls.{unless, open_site, delivered}
use Rattle.rule_laws.specs.WithinLaws.{redo-own}
use Rattle.rules.specs.Session.{Turn, turn_of, on_command, turn}
use Rattle.forms.specs.declared.reader.CommandForm.{CommandForm}
use Rattle.site.specs.declared.Site.{Site}
use Rattle.site.specs.declared.CallResult.{CallResult}
use Rattle.site.specs.Model.{Lent, view, Valid, Does, Printable, Few}
use Rattle.site.specs.Trim.{redo_of, redo_within}
use Rattle.session.specs.declared.Session.{Session}
use Rattle.session.specs.declared.LineResult.{LineResult}
use Rattle.session.specs.Model.{view_of, session_view, ValidOpened, ValidSession, Refuses, Turns, turned_of}
use Rattle.session.specs.Model.{site_reply, closed_reply, obeyed, TurnsForm, DoesForm, WritesTurn, lists_fit, WritesReply}

numbers-count : (n : Numbers) → Few n → length (numbers_of n) ≡ n.count
unfolding numbers_of
numbers-count n f = length-take-le n.count n.values f.within

-- The lists of a reply that a call gives can be written.
pub lists_short : (r : Replied) → Printable r → (length (numbers_of r.first) ≤ live_limit) × (length (numbers_of r.second) ≤ live_limit)
lists_short r p = (short r.first p.first, short r.second p.second)
  where
    short : (n : Numbers) → Few n → length (numbers_of n) ≤ live_limit
    short n f = omega (arith, numbers-count n f, f.few)

-- The second list ends within the array, and has as many numbers as the reply counts.
pub lists_within : (r : ReplyLine) (ns : List ℕ) → Printable (replied r ns) → r.first + r.second ≤ length ns
lists_within r ns p = omega (arith, p.first.within, p.second.within, length-drop r.first ns)

-- The lists of a reply that can be printed fit.
pub fits_printable : (r : ReplyLine) (ns : List ℕ) → Printable (replied r ns) → lists_fit r ns ≡ true
unfolding lists_fit
fits_printable r ns p =
    rw (
      le-leb r.first live_limit p.first.few,
      le-leb r.second live_limit p.second.few,
      le-leb (r.first + r.second) (length ns) (lists_within r ns p),
    ) refl

-- .. and those that fit can be printed.
printable_fits : (r : ReplyLine) (ns : List ℕ) → r.first ≤ live_limit → r.second ≤ live_limit → r.first + r.second ≤ length ns →
    Printable (replied r ns)
printable_fits r ns a b c =
    record {
      first = record { few = a; within = omega (arith, c) };
      second = record { few = b; within = omega (arith, c, length-drop r.first ns) };
    }

-- From the test of a reply: its lists fit.
pub fit-told : (r : ReplyLine) (ns : List ℕ) → lists_fit r ns ≡ true → Printable (replied r ns)
unfolding lists_fit
fit-told r ns e =
    printable_fits r ns (leb→le r.first live_limit (and_left (leb r.first live_limit) (leb r.second live_limit) front))
    (leb→le r.second live_limit (and_right (leb r.first live_limit) (leb r.second live_limit) front))
    (leb→le (r.first + r.second) (length ns) (and_right short (leb (r.first + r.second) (length ns)) t))
  where
    short : Bool
    short = leb r.first live_limit && leb r.second live_limit

    t : T (short && leb (r.first + r.second) (length ns))
    t = subst T (sym e) tt

    front : T short
    front = and_left short (leb (r.first + r.second) (length ns)) t

-- What is written of a reply that can be printed, and of one whose lists do not fit.
module _ (r : ReplyLine) (ns out : List ℕ) (at : ℕ) where
  pub writes_printable : (n : Held ℕ) (written : List ℕ) → Printable (replied r ns) →
      WritesReply (lists_fit r ns) (replied r ns) out at n written → WritesTurn (replied r ns) out at n written
  writes_printable n written p w =
      subst (λ (b : Bool). WritesReply b (replied r ns) out at n written) (fits_printable r ns p) w

  pub writes_fitting : (n : Held ℕ) (written : List ℕ) → Printable (replied r ns) → WritesTurn (replied r ns) out at n written →
      WritesReply (lists_fit r ns) (replied r ns) out at n written
  writes_fitting n written p w =
      subst (λ (b : Bool). WritesReply b (replied r ns) out at n written) (sym (fits_printable r ns p)) w

  pub writes_nothing : lists_fit r ns ≡ false → WritesReply (lists_fit r ns) (replied r ns) out at None out
  writes_nothing e = subst (λ (b : Bool). WritesReply b (replied r ns) out at None out) (sym e) (refl, refl)

pub second-counts : (n m : ℕ) → (n + m) - n ≡ m
second-counts n m = omega arith

-- ### A refused line

-- The turn is a refusal, the reply says so, and nothing has changed.
pub turn_refused : (s : Session) (old : Lent) (t : Turn) (q : Refusal) (r : LineResult) → ValidSession s old →
    t ≡ turn_of (refused q) (session_view s old) → Refuses s q r → Turns s old t r old
unfolding turn_of
turn_refused s old t q r v e h =
    subst (λ (x : Turn). Turns s old x r old) (sym e)
    (record {
      answer = h.answer old.lists;
      after = ap (λ (x : Session). session_view x old) h.session;
      valid = subst (λ (x : Session). ValidSession x old) (sym h.session) v;
      keeps = record { session = h.session; kept = refl };
    })

-- ### A call of the site

-- A site that is open and valid is a valid session's.
pub opened_valid : (s : Site) (m : Lent) → Valid s m → ValidOpened (Some s) m.log m.rows m.order m.book
opened_valid s m v = record { site = λ x e. subst (λ (y : Site). Valid y m) (same_Some s x e) v }

-- What a call of an open session's site does is the session's turn.
call_turns : (s : Session) (site : Site) (old : Lent) (reply : Reply) (r : CallResult) (new : Lent) → s.site ≡ Some site →
    ValidSession s old → Does site old reply r new → Turns s old (turn_of reply (some (view site old))) (turned_of r) new
unfolding turn_of
call_turns s site old (refused q) r new e v d =
    record {
      answer = d.answer;
      after = λ i. some (view (d.site i) (d.kept i));
      valid =
          opened_valid r.site new
          (subst (λ (x : Lent). Valid r.site x) (sym d.kept) (subst (λ (x : Site). Valid x old) (sym d.site) (v.site site e)));
      keeps = record { session = λ i. record { site = (ap Some d.site ∙ sym e) i }; kept = d.kept };
    }
call_turns s site old (ok st a) r new e v d =
    record {
      answer = d.answer;
      after = ap some d.state;
      valid = opened_valid r.site new d.valid;
      keeps = record { past = d.past; frame = d.frame; past_histories = d.past_histories; past_lists = d.past_lists };
    }

-- ### A form

-- What the open site does of a form is the session's turn.
pub form_called : (s : Session) (site : Site) (old : Lent) (f : CommandForm) (r : CallResult) (new : Lent) (t : LineResult) →
    s.site ≡ Some site → ValidSession s old → DoesForm site old f r new → t ≡ turned_of r → TurnsForm s old (Some f) t new
unfolding obeyed
form_called s site old f r new t e v d same =
    subst (λ (x : LineResult). TurnsForm s old (Some f) x new) (sym same)
    (subst (λ (h : Held Site). Turns s old (obeyed (length old.log) (Some f) (view_of h old)) (turned_of r) new) (sym e)
    (call_turns s site old (site_reply (length old.log) f (view site old)) r new e v d))

-- A redo of a site with 64 entries is that of a site alone.
pub redo-alone : (s : Site) (old : Lent) (did : Did) (r : CallResult) (new : Lent) → length old.order ≡ live_limit →
    Does s old (redo_within (length old.order) did (view s old)) r new → Does s old (redo_of did (view s old)) r new
redo-alone s old did r new e d =
    subst (λ (x : Reply). Does s old x r new)
    (ap (λ (n : ℕ). redo_within n did (view s old)) e
    ∙ ap (λ (o : Option Refusal). unless o (delivered did (view s old))) (redo-own did (view s old)))
    d

-- .. of the form that it is
pub formed : (s : Site) (old : Lent) (c f : CommandForm) (r : CallResult) (new : Lent) → c ≡ f →
    Does s old (site_reply (length old.log) f (view s old)) r new → DoesForm s old c r new
formed s old c f r new e d =
    subst (λ (x : CommandForm). Does s old (site_reply (length old.log) x (view s old)) r new) (sym e) d

-- "before site" the turn is that of the reply there
closed_is : (s : Session) (old : Lent) (f : CommandForm) → s.site ≡ None →
    obeyed (length old.log) (Some f) (session_view s old) ≡ turn_of (closed_reply (length old.log) f) none
unfolding obeyed
closed_is s old f e = ap (λ (x : Held Site). obeyed (length old.log) (Some f) (view_of x old)) e

-- .. a refusal
pub form_refused : (s : Session) (old : Lent) (f : CommandForm) (q : Refusal) (t : LineResult) → s.site ≡ None →
    closed_reply (length old.log) f ≡ refused q → ValidSession s old → Refuses s q t → TurnsForm s old (Some f) t old
form_refused s old f q t e k v x =
    turn_refused s old (obeyed (length old.log) (Some f) (session_view s old)) q t v
    (closed_is s old f e
    ∙ ap (λ (y : Reply). turn_of y none) k
    ∙ sym (ap (λ (y : Held Site). turn_of (refused q) (view_of y old)) e)) x

-- .. or that of opening
pub form_opens : (s : Session) (old : Lent) (n : ℕ) (t : LineResult) (new : Lent) → s.site ≡ None →
    Turns s old (turn_of (open_site n (length old.log)) none) t new → TurnsForm s old (Some (CommandForm.SiteOf n)) t new
unfolding closed_reply
form_opens s old n t new e x = subst (λ (y : Turn). Turns s old y t new) (sym (closed_is s old (CommandForm.SiteOf n) e)) x

-- No form was read, with a site and before.
pub form_unread : (s : Session) (old : Lent) (t : LineResult) → ValidSession s old → Refuses s Unreadable t → TurnsForm s old None t old
unfolding obeyed
form_unread s old t v x = turn_refused s old (obeyed (length old.log) None (session_view s old)) Unreadable t v refl x

-- ### A line

-- 1: "above 1,024 bytes without its end"
pub turn-over : (room : ℕ) (line : List ℕ) (s : Option State) → line_limit < length line → turn room line s ≡ turn_of (refused Unreadable) s
unfolding turn on_command read_command read_whole
turn-over room line s h = rw (lt-leb (length line) line_limit h) refl
