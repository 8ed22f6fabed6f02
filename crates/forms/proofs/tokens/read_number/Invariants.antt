-- Reading at `at` is reading on behind the digits of `value` at `next`.
use Rattle.std.proofs.Common.{◌≡◌, ◌≤◌, drop}
use Rattle.forms.specs.Decimal.{number, more, top}
use Rattle.forms.proofs.tokens.read_number.Given as goal

abbrev pub invariant-loop-next : goal.invariant-loop-next
invariant-loop-next l = record { small : l.value ≤ top; rest : number (drop l.at l.s) ≡ more l.value (drop l.next l.s) }
