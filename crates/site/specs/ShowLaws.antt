-- Show against the specification.
use Rattle.std.specs.Prelude.{ℕ, ◌≤◌, ◌<◌, ◌≡◌, refl, List, [], get_or}
use Rattle.std.proofs.Common.{sym, ◌∙◌, le-leb}
use Rattle.std.proofs.lemmas.Bool.{lt-leb}
use Rattle.forms.specs.Decimal.{top}
use Rattle.forms.specs.Held.{Replied, outcome_with, listed}
use Rattle.forms.specs.declared.ReplyForm.{ReplyForm}
use Rattle.forms.specs.Forms.{Shown}
use Rattle.forms.specs.Limits.{history_limit}
use Rattle.forms.specs.declared.Refusal.TheVariants.{NoSuchHistory}
use Rattle.rules.specs.Checks.{check}
use Rattle.rules.specs.Book.{cell}
use Rattle.rules.specs.State.{State, refused, ok, start_of, stable_to, version_at}
use Rattle.rule_laws.specs.LogLaws.{histories_most}
use Rattle.rules.specs.Calls.{Call, unless, writable, perform, step, show}
use Rattle.history.specs.declared.History.{History}
use Rattle.history.specs.Entries.{cells_of, no_history}
use Rattle.site.specs.Representation.{Representation, state_of, Carries, Sound}
use Rattle.site.specs.ModelLaws.{AcceptsCall, step_performs, accepts_call, says_lists, means_none}

-- There are at most sixteen histories.
pub count_most : (s : Representation) (bytes : List ℕ) → Sound s bytes → s.count ≤ history_limit
unfolding Sound
count_most s bytes v = histories_most s.count v.good.histories

pub show_performs : (h : ℕ) (st : State) → h ≤ top → step (Call.Show h) st ≡ show h st
unfolding writable perform
show_performs h st le = step_performs (Call.Show h) st (le-leb h top le)

pub show_refused : (s : Representation) (bytes : List ℕ) (h : ℕ) → h ≤ top → s.count ≤ h →
    step (Call.Show h) (state_of s bytes) ≡ refused NoSuchHistory
unfolding show check unless
show_refused s bytes h le past = show_performs h (state_of s bytes) le ∙ rw (le-leb s.count h past) refl

-- What the site holds of history h is what the specification shows of it.
pub show_accepted : (s : Representation) (bytes : List ℕ) (h : ℕ) → Sound s bytes → h ≤ top → h < s.count →
    step (Call.Show h) (state_of s bytes)
    ≡ ok (state_of s bytes)
    (Shown h (cells_of s.histories h).version (get_or s.persisted h 0) (get_or s.stabilised h 0) (cells_of s.histories h).place
    (cells_of s.histories h).profile)
unfolding show check unless Sound
show_accepted s bytes h v le below =
    show_performs h (state_of s bytes) le
    ∙ rw (lt-leb s.count h below) (λ i. ok (state_of s bytes)
    (Shown h (now_h i).version (persisted i) (stabilised i) (now_h i).place (now_h i).profile))
  where
    c : Carries s bytes (state_of s bytes)
    c = v.carries

    now_h : cell (start_of (state_of s bytes)) h (state_of s bytes).log ≡ cells_of s.histories h
    now_h = sym (c.book h below)

    persisted : version_at s.persistent.0 h (state_of s bytes) ≡ get_or s.persisted h 0
    persisted = sym (c.persisted h below)

    stabilised : version_at (stable_to (state_of s bytes)) h (state_of s bytes) ≡ get_or s.stabilised h 0
    stabilised = sym (c.stabilised h below)

-- the reply that shows history h: what it holds, and its persistent and its stable version
abbrev pub shown_of : ℕ → History → ℕ → ℕ → List ℕ → List ℕ → Replied
shown_of h x p q xs ys =
    record {
      form = ReplyForm.Shows (record {
        history = h;
        version = x.version;
        persistent = record { 0 = p };
        stable = record { 0 = q };
        place = x.place;
        profile = x.profile;
      });
      first = listed 0 xs;
      second = listed 0 ys;
    }

pub show_does : (s : Representation) (bytes : List ℕ) (h : ℕ) → Sound s bytes → h ≤ top → h < s.count →
    (x : History) → x ≡ get_or s.histories h no_history → (p : ℕ) → p ≡ get_or s.persisted h 0 → (q : ℕ) → q ≡ get_or s.stabilised h 0 →
    (xs ys : List ℕ) →
    AcceptsCall bytes (step (Call.Show h) (state_of s bytes)) (record { site = s; reply = shown_of h x p q xs ys }) bytes
unfolding outcome_with Sound
show_does s bytes h v le below x is p persisted q stabilised xs ys =
    accepts_call bytes (step (Call.Show h) (state_of s bytes)) (state_of s bytes) (Shown h x.version.0 p q x.place.0 x.profile)
    (record { site = s; reply = shown_of h x p q xs ys }) bytes
    (show_accepted s bytes h v le below
    ∙ sym (λ i. ok (state_of s bytes) (Shown h (is i).version.0 (persisted i) (stabilised i) (is i).place.0 (is i).profile)))
    (says_lists (shown_of h x p q xs ys) [] [] (means_none xs) (means_none ys) tt) v refl
