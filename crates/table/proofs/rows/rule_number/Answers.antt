-- Each arm computes the number of its rule.
use Rattle.table.specs.Rows.{rule_number}
use Rattle.table.proofs.rows.rule_number.Goals as goal

pub returns-in-Inc : goal.returns-in-Inc
unfolding rule_number
returns-in-Inc c = rw c.in-Inc.is

pub returns-in-Set : goal.returns-in-Set
unfolding rule_number
returns-in-Set c = rw c.in-Set.is

pub returns-in-Not : goal.returns-in-Not
unfolding rule_number
returns-in-Not c = rw c.in-Not.is

pub returns-in-Unk : goal.returns-in-Unk
unfolding rule_number
returns-in-Unk c = rw c.in-Unk.is
