-- What finding a cut gives over raw bytes: "name the smallest number of kept bytes of the site's log".
use Rattle.std.specs.Prelude.{ℕ, ◌≡◌, List, []}
use Rattle.std.proofs.Common.{sym, ap, ◌∙◌}
use Rattle.forms.specs.Refusals.{number_of}
use Rattle.forms.specs.declared.Refusal.{Refusal}
use Rattle.rules.specs.State.{State, Reply, refused, ok}
use Rattle.rules.specs.FindCut.{find_cut}
use Rattle.site.specs.declared.Site.{Site}
use Rattle.site.specs.Model.{lent, view, Valid}
use Rattle.find_cut.specs.Model.{found_number}
use Rattle.c_api.specs.Taken.{TakenUp}

-- The number for the site that a restart gives, or the restart's refusal.
unfoldable pub find_after : List ℕ → Reply → ℕ
find_after asked (refused q) = number_of q
find_after asked (ok st a) = found_number (find_cut asked st)

-- It is refused.
pub find_refused : (asked : List ℕ) (r : ℕ) (reply : Reply) (q : Refusal) → reply ≡ refused q → r ≡ number_of q → r ≡ find_after asked reply
unfolding find_after
find_refused asked r reply q e h = h ∙ sym (ap (λ (x : Reply). find_after asked x) e)

-- It gives a site, for whose state the number is the specification's.
pub find_taken : (asked : List ℕ) (r : ℕ) (reply : Reply) (log : List ℕ) (s : Site) → TakenUp reply log s →
    ((rows order book : List ℕ) → Valid s (lent log rows order book []) →
    r ≡ found_number (find_cut asked (view s (lent log rows order book [])))) → r ≡ find_after asked reply
unfolding find_after
find_taken asked r reply log s U h =
    h U.up.rows U.up.order U.up.book U.up.valid
    ∙ ap (λ (x : State). found_number (find_cut asked x)) U.up.state
    ∙ sym (ap (λ (x : Reply). find_after asked x) U.is)
