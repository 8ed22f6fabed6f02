-- The poll of a history: "reads only this number and says dry exactly when a walk over the entries would; a history that is not there is
-- refused 3". The log, the rows and the order of the entries are not lent to it.
use Rattle.std.specs.Prelude.{ℕ, ◌≤◌, ◌<◌, ◌≡◌, Bool, List, [], get_or}
use Rattle.std.proofs.Math.Path.{sym, ap}
use Rattle.std.proofs.Common.{◌∙◌, le-leb}
use Rattle.std.proofs.Math.Bool.{cond}
use Rattle.std.proofs.Math.Dec.{eqb}
use Rattle.std.proofs.lemmas.Bool.{lt-leb}
use Rattle.forms.specs.Limits.{history_limit}
use Rattle.forms.specs.declared.Refusal.TheVariants.{NoSuchHistory as RefusedNoSuchHistory}
use Rattle.rules.specs.Poll.{Polled, PollRefused, PollDry, PollBusy, busy, poll}
use Rattle.rule_laws.specs.PollLaws.{poll_is}
use Rattle.rules.specs.State.{dry}
use Rattle.site.specs.declared.Site.{Site}
use Rattle.site.specs.declared.poll.PollAnswer.{PollAnswer}
use Rattle.site.specs.declared.poll.PollAnswer.TheVariants.{Dry, Busy, NoSuchHistory}
use Rattle.site.specs.Representation.{Representation, state_of, Sound}
use Rattle.site.specs.Model.{lent, view, Valid}
use Rattle.site.specs.ShowLaws.{count_most}

-- What each answer says in the specification; "a history that is not there is refused 3".
unfoldable pub polled_of : PollAnswer → Polled
polled_of Dry = PollDry
polled_of Busy = PollBusy
polled_of NoSuchHistory = PollRefused RefusedNoSuchHistory

-- A site is valid with these words of its histories, and with some log, rows and order.
abbrev pub ValidWith : Site → List ℕ → Type 0
ValidWith s book = (log : List ℕ) × (rows : List ℕ) × (order : List ℕ) × Valid s (lent log rows order book [])

-- The answer is what the specification says of the site's state, whatever log, rows and order the site is valid with.
abbrev pub Polls : Site → List ℕ → ℕ → PollAnswer → Type 0
Polls s book h r =
    (log rows order : List ℕ) → Valid s (lent log rows order book []) → polled_of r ≡ poll h (view s (lent log rows order book []))

-- there are at most sixteen histories
pub with_most : (s : Site) (book : List ℕ) → ValidWith s book → s.count ≤ history_limit
with_most s book (log, rows, order, v) = count_most _ log v.sound

-- ### What the number says

module _ (s : Representation) (bytes : List ℕ) (v : Sound s bytes) (h : ℕ) where
  pub poll_absent : s.count ≤ h → polled_of NoSuchHistory ≡ poll h (state_of s bytes)
  unfolding polled_of poll
  poll_absent le =
      ap (λ (b : Bool). cond b (PollRefused RefusedNoSuchHistory) (cond (dry (state_of s bytes) h) PollDry PollBusy))
      (sym (le-leb s.count h le))

  pub poll-counted : h < s.count → (b : Bool) → eqb (get_or s.busy h 0) 0 ≡ b → cond b PollDry PollBusy ≡ poll h (state_of s bytes)
  unfolding Sound
  poll-counted lt b e =
      ap (λ (t : Bool). cond t PollDry PollBusy) (sym e ∙ ap (λ (n : ℕ). eqb n 0) (v.carries.busy h lt))
      ∙ ap (λ (t : Bool). cond t (PollRefused RefusedNoSuchHistory) (cond (eqb (busy (state_of s bytes) h) 0) PollDry PollBusy))
      (sym (lt-leb s.count h lt))
      ∙ sym (poll_is h (state_of s bytes))
