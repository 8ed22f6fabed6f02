-- The array holds the update four times, and the count says that only the first is meant.
use mathlib.Core.List.{[], ◌∷◌}
use Rattle.forms.specs.Held.{as_asked}
use Rattle.c_api.specs.Rounds.{inc_of}
use Rattle.c_api.specs.RoundsLaws.{held_one}
use Rattle.c_api.proofs.rounds.asked_inc.Goals as goal

pub returns : goal.returns
returns c =
    let a = as_asked (inc_of c.args.history c.args.version) in
    held_one c.args.history c.args.version (a ∷ a ∷ a ∷ [])
