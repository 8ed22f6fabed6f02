-- 02 (m): the place of refusal 10 from outside among the checks of a cut, on both sides.
use Rattle.std.specs.Prelude.{◌≡◌, refl, true, false}
use Rattle.forms.specs.Forms.{Answer}
use Rattle.forms.specs.declared.Refusal.TheVariants.{TableFull, AboveLimit, BadLog}
use Rattle.rules.specs.Checks.{check}
use Rattle.rules.specs.State.{State, refused, ok}
use Rattle.rules.specs.Calls.{unless}
use Rattle.rules.specs.When.{lastly}

-- "A cut or restart is refused 10, checked after 15": 15 and 13 stand where 10 is met too, and 10 where nothing else refuses.
pub record TenLast (st : State) (answer : Answer) : Type 0 where
  pub bad : lastly true (refused BadLog) ≡ refused BadLog
  pub above : lastly true (refused AboveLimit) ≡ refused AboveLimit
  pub met : lastly true (ok st answer) ≡ refused TableFull
  pub not_met : lastly false (ok st answer) ≡ ok st answer

pub ten-last : (st : State) (answer : Answer) → TenLast st answer
unfolding lastly check unless
ten-last st answer = record { bad = refl; above = refl; met = refl; not_met = refl }
