-- Changes of places on short lists, computed.
use Rattle.std.specs.Prelude.{◌≡◌, refl, [], ◌∷◌}
use Rattle.table.specs.Lists.{omit}
use Rattle.table.specs.Order.{tally, moved, turned}

-- Two done (7, 3), three not done (9, 1, 4), two free (0, 2): the second of those not done is done.
pub done_example : moved 3 2 (7 ∷ 3 ∷ 9 ∷ 1 ∷ 4 ∷ 0 ∷ 2 ∷ []) ≡ 7 ∷ 3 ∷ 1 ∷ 9 ∷ 4 ∷ 0 ∷ 2 ∷ []
unfolding moved omit
done_example = refl

-- .. is withdrawn, and its entry is the next that is used
pub withdrawn_example : moved 3 4 (7 ∷ 3 ∷ 9 ∷ 1 ∷ 4 ∷ 0 ∷ 2 ∷ []) ≡ 7 ∷ 3 ∷ 9 ∷ 4 ∷ 1 ∷ 0 ∷ 2 ∷ []
unfolding moved omit
withdrawn_example = refl

-- The first done operation is stable.
pub stable_example : turned 1 5 (7 ∷ 3 ∷ 9 ∷ 1 ∷ 4 ∷ 0 ∷ 2 ∷ []) ≡ 3 ∷ 9 ∷ 1 ∷ 4 ∷ 7 ∷ 0 ∷ 2 ∷ []
unfolding turned
stable_example = refl

-- a number stands in a list as often as it is written there
pub tally_example : tally 3 (7 ∷ 3 ∷ 9 ∷ 3 ∷ []) ≡ 2
unfolding tally
tally_example = refl
