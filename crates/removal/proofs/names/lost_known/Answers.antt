-- The chain asks each number.
use Rattle.std.proofs.Common.{ℕ, Bool, rules, tests, sym, subst}
use Rattle.std.proofs.lemmas.Iterator.{YieldsList-from_slice}
use Rattle.std.proofs.lemmas.Iterator.Search.{all_from_yields_List}
use Rattle.removal.specs.Names.{known, KnownIf, LostKnown}
use Rattle.removal.specs.NameLaws.{known_all}
use Rattle.removal.proofs.names.lost_known.Goals as goal

pub returns : goal.returns
returns c =
    let a = c.args in
    subst (λ (b : Bool). KnownIf b (LostKnown a.lost.now a.base.0 a.done.0))
    (sym (all_from_yields_List (λ (k : ℕ). known a.base.0 a.done.0 k) _ _ c.all.result c.all.ensures.ran
    (YieldsList-from_slice a.lost.now cc) (λ x b q k. search (rules, tests))))
    (known_all (known a.base.0 a.done.0) a.lost.now)
