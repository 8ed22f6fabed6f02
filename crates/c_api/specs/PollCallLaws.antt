-- Laws of polls at the end of a session.
use Rattle.std.specs.Prelude.{ℕ, suc, ◌+◌, ◌≤◌, ◌<◌, ◌≡◌, refl, Bool, true, false, cond, List, [], ◌∷◌, ◌++◌, map, length, get_or, set, take, drop, Option as Held, Some, None}
use Rattle.std.proofs.Common.{arith, add-one, sym, ap, ap₂, subst, ◌∙◌, length-set, take-suc, take-suc-set, take_all, drop-set-lt, drop-cons}
use Rattle.std.proofs.lemmas.List.{map-append}
use Rattle.std.proofs.Math.Option.{Option, none}
use Rattle.forms.specs.Decimal.{top}
use Rattle.forms.specs.Refusals.{number_of}
use Rattle.rules.specs.Log.{lines_of}
use Rattle.rules.specs.State.{State}
use Rattle.rules.specs.Session.{after_lines}
use Rattle.rules.specs.Poll.{Polled, poll}
use Rattle.site.specs.declared.Site.{Site}
use Rattle.site.specs.Model.{Lent, view}
use Rattle.session.specs.declared.Session.{Session}
use Rattle.session.specs.Model.{view_of, session_view}
use Rattle.stream.specs.declared.SessionRun.{SessionRun}
use Rattle.stream.specs.Model.{RunsIf, ran_of, RunsSession}
use Rattle.c_api.specs.Play.{whole_code}
use Rattle.c_api.specs.Polls.{polled_number, session_poll, PlaysPolls}

-- ### Number after number

-- The first i numbers are what f gives for them, the others are as they were.
pub record MappedTo (f : ℕ → ℕ) (i : ℕ) (old new : List ℕ) : Type 0 where
  pub long : length new ≡ length old
  pub front : take i new ≡ map f (take i old)
  pub rest : drop i new ≡ drop i old

pub mapped_none : (f : ℕ → ℕ) (old : List ℕ) → MappedTo f 0 old old
mapped_none f old = record { long = refl; front = refl; rest = refl }

head_of : (x y : ℕ) (xs ys : List ℕ) → x ∷ xs ≡ y ∷ ys → x ≡ y
head_of x y xs ys e = ap (λ (l : List ℕ). get_or l 0 0) e

-- the next number is still the old one
mapped_at : (f : ℕ → ℕ) (i : ℕ) (old new : List ℕ) → MappedTo f i old new → i < length new → get_or new i 0 ≡ get_or old i 0
mapped_at f i old new m h =
    let l = m.long in
    let k : i < length old = omega (arith, h, l) in
    head_of (get_or new i 0) (get_or old i 0) (drop (suc i) new) (drop (suc i) old) (sym (drop-cons new i 0 h) ∙ m.rest ∙ drop-cons old i 0 k)

pub mapped_next : (f : ℕ → ℕ) (i : ℕ) (old new : List ℕ) (v : ℕ) → MappedTo f i old new → i < length new → v ≡ f (get_or new i 0) →
    MappedTo f (i + 1) old (set new i v)
mapped_next f i old new v m h e =
    record {
      long = length-set new i v ∙ m.long;
      front = subst_front;
      rest = subst_rest;
    }
  where
    one : i + 1 ≡ suc i
    one = add-one i

    old_long : i < length old
    old_long = let l = m.long in omega (arith, h, l)

    is : v ≡ f (get_or old i 0)
    is = e ∙ ap f (mapped_at f i old new m h)

    subst_front : take (i + 1) (set new i v) ≡ map f (take (i + 1) old)
    subst_front =
        ap (λ (k : ℕ). take k (set new i v)) one
        ∙ take-suc-set new i v h
        ∙ ap₂ (λ (l : List ℕ) (x : ℕ). l ++ (x ∷ [])) m.front is
        ∙ sym (map-append f (take i old) (get_or old i 0 ∷ []))
        ∙ ap (map f) (sym (take-suc old i 0 old_long))
        ∙ ap (λ (k : ℕ). map f (take k old)) (sym one)

    tail_of : drop (suc i) new ≡ drop (suc i) old
    tail_of = ap (λ (l : List ℕ). drop 1 l) (sym (drop-cons new i 0 h) ∙ m.rest ∙ drop-cons old i 0 old_long)

    subst_rest : drop (i + 1) (set new i v) ≡ drop (i + 1) old
    subst_rest =
        drop-set-lt (i + 1) new i v (omega arith)
        ∙ ap (λ (k : ℕ). drop k new) one
        ∙ tail_of
        ∙ ap (λ (k : ℕ). drop k old) (sym one)

-- All of them.
pub mapped_all : (f : ℕ → ℕ) (i : ℕ) (old new : List ℕ) → MappedTo f i old new → length new ≤ i → new ≡ map f old
mapped_all f i old new m h =
    let l = m.long in
    let k : length old ≤ i = omega (arith, h, l) in
    sym (take_all i new h) ∙ m.front ∙ ap (map f) (take_all i old k)

-- ### One poll

-- of an open site
pub poll-opened : (s : Session) (x : Site) (m : Lent) (h n : ℕ) (p : Polled) → s.site ≡ Some x → n ≡ polled_number p → p ≡ poll h (view x m) →
    n ≡ session_poll (session_view s m) h
unfolding session_poll
poll-opened s x m h n p o e f = e ∙ ap polled_number f ∙ sym (ap (λ (y : Held Site). session_poll (view_of y m) h) o)

-- "before site"
pub poll-before : (s : Session) (m : Lent) (h : ℕ) → s.site ≡ None → 14 ≡ session_poll (session_view s m) h
unfolding session_poll number_of
poll-before s m h o = sym (ap (λ (y : Held Site). session_poll (view_of y m) h) o)

-- ### A session with its polls

module _ (input : List ℕ) (old : Lent) (r : SessionRun) (new : Lent) (out page histories : List ℕ)
    (x : RunsSession input old r new out page) where
  -- What the polls of all histories give at the end.
  abbrev polls-at_end : List ℕ
  polls-at_end = map (session_poll (after_lines (length old.log) (lines_of input) none)) histories

  -- All replies are written.
  pub polls-whole : (polls : List ℕ) → r.whole ≡ true → polls ≡ map (session_poll (session_view r.session new)) histories →
      PlaysPolls input old.log r.written new.log out page histories polls
  polls-whole polls w e =
      record {
        plays = record { ran = ran_of r; runs = x.runs; code = sym (ap (λ (b : Bool). whole_code b r.written) w) };
        polled = e ∙ ap (λ (s : Option State). map (session_poll s) histories) after
            ∙ sym (ap (λ (b : Bool). cond b polls-at_end histories) w);
      }
    where
      all : r.used ≡ length input
      all = (subst (λ (b : Bool). RunsIf b input old.log (ran_of r) out page) w x.runs.replies).used

      after : session_view r.session new ≡ after_lines (length old.log) (lines_of input) none
      after = x.session ∙ ap (λ (l : List ℕ). after_lines (length old.log) (lines_of l) none)
          (take_all r.used input (let a = all in omega (arith, a)))

  -- Not all of them are.
  pub polls-part : r.whole ≡ false → PlaysPolls input old.log top new.log out page histories histories
  polls-part w =
      record {
        plays = record { ran = ran_of r; runs = x.runs; code = sym (ap (λ (b : Bool). whole_code b r.written) w) };
        polled = sym (ap (λ (b : Bool). cond b polls-at_end histories) w);
      }
