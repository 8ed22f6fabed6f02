-- A strong update looks at the marks of any, a weak one at those of strong ones: the two arms of the definition.
use Rattle.std.proofs.Common.{sym, ◌∙◌}
use Rattle.table.specs.Tries.{free_by}
use Rattle.table.proofs.blocking.is_free.Goals as goal

pub returns-then-is_strong : goal.returns-then-is_strong
unfolding free_by
returns-then-is_strong c = rw (sym c.is_strong.ensures ∙ c.if-is_strong.true)

pub returns-else-is_strong : goal.returns-else-is_strong
unfolding free_by
returns-else-is_strong c = rw (sym c.is_strong.ensures ∙ c.if-is_strong.false)
