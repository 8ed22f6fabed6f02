-- What request (n) says of two logs, on both sides of each edge: lines that share a history, lines that share none, lines that
-- are no neighbours.
use Rattle.std.specs.Prelude.{◌≡◌, refl, Bool, true, false, cond, ◌||◌, ℕ, T, eqb}
use Rattle.std.proofs.Common.{ap, arith, eqb→eq}
use mathlib.Core.List.Permᴰ.{swap as perm-swap}
use mathlib.Core.List.{List, [], ◌∷◌, nil≢cons}
use mathlib.Core.List.{head-eq_of_cons-eq, tail-eq_of_cons-eq}
use Rattle.forms.specs.Lists.{keep}
use Rattle.forms.specs.Forms.{Did}
use Rattle.forms.specs.declared.DoneRule.TheVariants.{DidInc, DidNot}
use Rattle.rules.specs.Book.{touches}
use Rattle.recovery.specs.Claim.{shares, beside}
use Rattle.recovery.specs.Arrival.{StandsBefore, SameWork}
use Rattle.recovery.proofs.ArrivalLaws.{same_work}

-- (did 5 (inc 0 1 1 7))
abbrev pub five : Did
five = record { id = 5; changes = record { rule = DidInc; history = 0; version = 1; place = 1; operand = 7 } ∷ [] }

-- (did 6 (inc 1 1 1 9))
abbrev pub six : Did
six = record { id = 6; changes = record { rule = DidInc; history = 1; version = 1; place = 1; operand = 9 } ∷ [] }

-- (did 7 (not 0 1 2 0)(not 1 1 2 0)): shares a history with each of them
abbrev pub seven : Did
seven =
    record {
      id = 7;
      changes =
          record { rule = DidNot; history = 0; version = 1; place = 2; operand = 0 }
          ∷ record { rule = DidNot; history = 1; version = 1; place = 2; operand = 0 } ∷ [];
    }

-- "stand in the same order" is not said of neighbours alone: line 5 stands before line 7, with line 6 between.
apart : StandsBefore (five ∷ six ∷ seven ∷ []) five seven
apart = ([], six ∷ [], [], refl)

-- Lines that share no history may change places.
may_swap : SameWork (five ∷ six ∷ seven ∷ []) (six ∷ five ∷ seven ∷ [])
unfolding touches
may_swap =
    same_work (five ∷ six ∷ seven ∷ []) (six ∷ five ∷ seven ∷ []) (perm-swap refl refl)
    (λ h. swaps (eqb 0 h) (eqb 1 h) (keep (touches h) (seven ∷ [])) (λ s t. omega (arith, eqb→eq 0 h s, eqb→eq 1 h t)))
  where
    -- in a history that only one of them touches there is nothing to change
    swaps : (s t : Bool) (k : List Did) → (T s → T t → ⊥) →
        cond (s || false) (five ∷ cond (t || false) (six ∷ k) k) (cond (t || false) (six ∷ k) k)
        ≡ cond (t || false) (six ∷ cond (s || false) (five ∷ k) k) (cond (s || false) (five ∷ k) k)
    swaps true true k n = absurd (n tt tt)
    swaps true false k n = refl
    swaps false true k n = refl
    swaps false false k n = refl

-- Lines that share one may not, though they are rearranged: their order alone tells.
may_not_swap : SameWork (five ∷ seven ∷ []) (seven ∷ five ∷ []) → ⊥
unfolding shares beside
may_not_swap S = go ((S.same_order five seven tt).0 ([], [], [], refl))
  where
    go : StandsBefore (seven ∷ five ∷ []) five seven → ⊥
    go ([], b, c, e) = let z : ◌≡◌ {A = ℕ} 7 5 = ap (λ (d : Did). d.id) (head-eq_of_cons-eq e) in omega (arith, z)
    go (x ∷ [], [], c, e) = nil≢cons (tail-eq_of_cons-eq (tail-eq_of_cons-eq e))
    go (x ∷ [], y ∷ b, c, e) = nil≢cons (tail-eq_of_cons-eq (tail-eq_of_cons-eq e))
    go (x ∷ y ∷ [], b, c, e) = nil≢cons (tail-eq_of_cons-eq (tail-eq_of_cons-eq e))
    go (x ∷ y ∷ z ∷ a, b, c, e) = nil≢cons (tail-eq_of_cons-eq (tail-eq_of_cons-eq e))
