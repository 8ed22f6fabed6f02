-- The letters passed were read, and the rest of the word is read on.
use Rattle.std.proofs.Common.{◌≡◌, ◌≤◌, length, drop}
use Rattle.forms.specs.Names.{name}
use Rattle.forms.proofs.tokens.read_name.Given as goal

abbrev pub invariant-loop-b : goal.invariant-loop-b
invariant-loop-b l = record { within : l.next ≤ length l.s; rest : name l.w (drop l.at l.s) ≡ name (drop l.b-index l.w) (drop l.next l.s) }
