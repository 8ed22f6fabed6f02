-- The key that the match has met computes the rule; the last arm has met none of them.
use Rattle.std.proofs.Common.{sym, ap, ne_eqb, arith}
use Rattle.table.specs.Rows.{rule_named}
use Rattle.table.proofs.rows.rule_named.Goals as goal

pub returns-in-0 : goal.returns-in-0
unfolding rule_named
returns-in-0 c = sym (ap rule_named c.in-0.is)

pub returns-in-1 : goal.returns-in-1
unfolding rule_named
returns-in-1 c = sym (ap rule_named c.in-1.is)

pub returns-in-2 : goal.returns-in-2
unfolding rule_named
returns-in-2 c = sym (ap rule_named c.in-2.is)

pub returns-in_default : goal.returns-in_default
unfolding rule_named
returns-in_default c = let n = c.args.n in rw (ne_eqb n 0 (λ e. omega arith), ne_eqb n 1 (λ e. omega arith), ne_eqb n 2 (λ e. omega arith))
