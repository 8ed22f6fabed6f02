-- A site alone with refusals 10 from outside: the recovery claim over lists of calls with flags, "10 is met here".
use Rattle.std.specs.Prelude.{refl, Bool, List, [], ◌∷◌}
use Rattle.std.proofs.Math.Option.{some}
use Rattle.rules.specs.State.{State, settle}
use Rattle.rules.specs.Calls.{Call}
use Rattle.rules.specs.When.{step_when}
use Rattle.rule_laws.specs.WhenLaws.{step-ten}
use Rattle.recovery.specs.Host.{Host, Playing, HostClaim, HostArrival}
use Rattle.recovery.proofs.HostLaws.{host_recovery, host_arrival}

-- a call, and whether it meets 10 from outside
pub record Flagged : Type 0 where
  pub full : Bool
  pub call : Call

-- the site alone, its calls flagged
abbrev pub flagged : Host
flagged =
    record {
      World = State;
      Move = Flagged;
      next = λ x st. settle (step_when x.full x.call st) st;
      site = λ st. st;
      own = λ x. some x.call;
      reply = λ x st. step_when x.full x.call st;
    }

-- Every list of flagged calls plays by the rules: so this is nothing to ask.
pub flagged_plays : (xs : List Flagged) (st : State) → Playing flagged xs st
flagged_plays [] st = tt
flagged_plays (x ∷ xs) st = ((refl, step-ten x.full x.call st), flagged_plays xs (settle (step_when x.full x.call st) st))

-- Recovery, where no redo is refused 10 while fewer are live than were before the picked cut.
pub flagged_recovery : HostClaim flagged
flagged_recovery = host_recovery flagged

pub flagged_arrival : HostArrival flagged
flagged_arrival = host_arrival flagged
