-- The id, and then the word "in progress" or its negation, as the definition asks for them.
use Rattle.std.proofs.Common.{◌≡◌, sym, ◌∙◌, Bool, true, false, not, cond, refl, eq-eqb, ne_eqb}
use Rattle.std.specs.Bool.{beq}
use Rattle.table.specs.Tables.{is_entry}
use Rattle.table.proofs.search.is_entry.Goals as goal

same : (runs asked : Bool) → beq runs asked ≡ cond asked runs (not runs)
same true true = refl
same true false = refl
same false true = refl
same false false = refl

pub returns-then-id_at-id : goal.returns-then-id_at-id
unfolding is_entry
returns-then-id_at-id c =
    rw (eq-eqb _ _ (sym c.id_at.ensures ∙ c.if-id_at-id.true), sym c.runs_at.ensures) (same c.runs_at.result c.args.running)

pub returns-else-id_at-id : goal.returns-else-id_at-id
unfolding is_entry
returns-else-id_at-id c =
    rw (ne_eqb _ _ c.if-id_at-id.false, ne_eqb _ _ (λ e. c.if-id_at-id.false (c.id_at.ensures ∙ e)))
