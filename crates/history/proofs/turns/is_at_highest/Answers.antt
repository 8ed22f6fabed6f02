-- All rules but `unk` are ordered; of an `unk` the version of its history decides, and none is above the highest.
use Rattle.std.proofs.Common.{ℕ, ◌≡◌, ◌<◌, Bool, true, false, not, eqb, leb, sym, ap, ◌∙◌, refl, arith, rules, eq-eqb, ne_eqb}
use borrow.Author.Tests.{leb-true, leb-false}
use Rattle.history.specs.Entries.{cell_of}
use Rattle.history.specs.CellLaws.{highest-ordered, highest_unordered}
use Rattle.history.proofs.turns.is_at_highest.Goals as goal

highest : (v : ℕ) → v < 18446744073709551616 → eqb v 18446744073709551615 ≡ leb 18446744073709551615 v
highest v fits = go (leb 18446744073709551615 v) refl
  where
    go : (b : Bool) → leb 18446744073709551615 v ≡ b → eqb v 18446744073709551615 ≡ leb 18446744073709551615 v
    go true e = let h = leb-true 18446744073709551615 v e in eq-eqb v 18446744073709551615 (omega arith) ∙ sym e
    go false e = let h = leb-false 18446744073709551615 v e in ne_eqb v 18446744073709551615 (λ q. omega arith) ∙ sym e

pub returns-then-not-is_ordered : goal.returns-then-not-is_ordered
returns-then-not-is_ordered c =
    let fits : c.args.h.version.0 < 18446744073709551616 = search rules in
    highest c.args.h.version.0 fits
    ∙ highest_unordered (cell_of c.args.h) c.args.x (sym c.is_ordered.ensures ∙ c.if-not-is_ordered.true)

pub returns-else-not-is_ordered : goal.returns-else-not-is_ordered
returns-else-not-is_ordered c =
    ap not c.if-not-is_ordered.false
    ∙ highest-ordered (cell_of c.args.h) c.args.x (sym c.is_ordered.ensures ∙ c.if-not-is_ordered.false)
