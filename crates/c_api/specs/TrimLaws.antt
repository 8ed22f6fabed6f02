-- Laws of a restart and a trim over raw bytes.
use Rattle.std.specs.Prelude.{ℕ, ◌+◌, ◌≤◌, ◌≡◌, refl, List, [], Result, Ok}
use Rattle.std.proofs.Common.{sym, ap, subst, ◌∙◌, arith}
use Rattle.forms.specs.Refusals.{number_of}
use Rattle.forms.specs.declared.Refusal.{Refusal}
use Rattle.rules.specs.State.{State, Reply, refused}
use Rattle.rules.specs.Trim.{Trimmed, not_trimmed, trimmed, trim}
use Rattle.rule_laws.specs.TrimShows.{trim-holds}
use Rattle.site.specs.declared.Site.{Site}
use Rattle.site.specs.Model.{lent, view, Valid}
use Rattle.trim.specs.Model.{reply_of, Copies}
use Rattle.c_api.specs.Codes.{replied_number}
use Rattle.c_api.specs.Taken.{TakenUp}
use Rattle.c_api.specs.Trims.{trim_number, trim_after, Trims}

-- The bytes used are at most those of a log buffer.
pub copied_few : (n : ℕ) (old : List ℕ) (st : State) (r : Result ℕ Refusal) (new : List ℕ) → Copies (trim n old st) old r new →
    (u : ℕ) → r ≡ Ok u → u + 1000 ≤ 18446744073709551615
copied_few n old st r new h u e = go (trim n old st) refl (sym e ∙ h.reply)
  where
    go : (t : Trimmed) → trim n old st ≡ t → Ok u ≡ reply_of t → u + 1000 ≤ 18446744073709551615
    go (not_trimmed q) is f = let z : ◌≡◌ {A = ℕ} 0 1 = cc in absurd (omega arith)
    go (trimmed bytes used) is f =
        let same : u ≡ used = cc in
        let x = trim-holds n old st bytes used is in
        omega (arith, same, x.within, x.limit)

-- The number is that of the specification's trim.
trims : (t : Trimmed) (old : List ℕ) (c : Result ℕ Refusal) (new : List ℕ) (r : ℕ) → Copies t old c new → r ≡ replied_number c →
    Trims t old r new
unfolding replied_number trim_number
trims t old c new r h e = record { answer = e ∙ ap replied_number h.reply ∙ go t; bytes = h.bytes }
  where
    go : (v : Trimmed) → replied_number (reply_of v) ≡ trim_number v
    go (not_trimmed q) = refl
    go (trimmed bytes used) = refl

-- ### Behind a restart

-- It is refused.
pub trim_refused : (reply : Reply) (q : Refusal) (n : ℕ) (fresh : List ℕ) (r : ℕ) → reply ≡ refused q → r ≡ number_of q →
    Trims (trim_after n fresh reply) fresh r fresh
unfolding trim_after trim_number
trim_refused reply q n fresh r e h =
    subst (λ (x : Reply). Trims (trim_after n fresh x) fresh r fresh) (sym e) (record { answer = h; bytes = refl })

-- It gives a site, whose trim is that of the specification's state.
module _ (reply : Reply) (log : List ℕ) (s : Site) (U : TakenUp reply log s) (n : ℕ) (fresh : List ℕ) (k : Result ℕ Refusal)
    (after : List ℕ)
    (copies : (rows order book : List ℕ) → Valid s (lent log rows order book []) →
    Copies (trim n fresh (view s (lent log rows order book []))) fresh k after) where
  own : Copies (trim n fresh U.after) fresh k after
  own =
      subst (λ (x : State). Copies (trim n fresh x) fresh k after) U.up.state (copies U.up.rows U.up.order U.up.book U.up.valid)

  pub trim_few : (u : ℕ) → k ≡ Ok u → u + 1000 ≤ 18446744073709551615
  trim_few = copied_few n fresh U.after k after own

  pub trim_taken : (r : ℕ) → r ≡ replied_number k → Trims (trim_after n fresh reply) fresh r after
  unfolding trim_after
  trim_taken r e =
      subst (λ (x : Reply). Trims (trim_after n fresh x) fresh r after) (sym U.is) (trims (trim n fresh U.after) fresh k after r own e)
