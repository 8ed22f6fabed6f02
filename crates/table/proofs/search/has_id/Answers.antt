-- The first of four with the id decides, and where none of the four has it the others do; so do the last ones, fewer than four.
use Rattle.std.proofs.Common.{List, ◌≡◌, ℕ, ◌+◌, ◌-◌, arith, rules, sym, ap, subst, ◌∙◌, take, drop, length, length-take, length-drop, get_or-take, get_or-drop, eq-eqb, ne_eqb}
use borrow.Author.Tests.{tests}
use Rattle.std.proofs.lemmas.List.{get_or_default}
use Rattle.std.proofs.lemmas.Iterator.{YieldsList-from_slice}
use Rattle.std.proofs.lemmas.Iterator.Adapters.{serves_from_places}
use Rattle.std.proofs.lemmas.Iterator.Search.{any_from_yields_List}
use Rattle.forms.specs.Lists.{any}
use Rattle.table.specs.Rows.{row_at, HasRow}
use Rattle.table.specs.Tables.{has_id, rows_of}
use Rattle.table.specs.RangeLaws.{slice_place, slice_at, slice_is, any_of, any_at, past_four}
use Rattle.table.proofs.search.has_id.Goals as goal
use Rattle.table.proofs.search.has_id.Goals.{then-id_at-id-via-then-id_at-id, then-id_at-id-via-else-id_at-id+then-id_at-id-2, then-id_at-id-via-else-id_at-id+else-id_at-id-2+then-id_at-id-3, then-id_at-id-via-else-id_at-id+else-id_at-id-2+else-id_at-id-3+then-id_at-id-4}

pub loop-rest-init : goal.loop-rest-init
loop-rest-init c =
    let a = c.args in
    let o = a.order.now in
    let u = c.requires.0 in (
      λ k lt. rw (slice_at o a.from a.to u.few k lt) (u.within (a.from + k) (slice_place o a.from a.to u.few k lt)),
      ap (λ (l : List ℕ). any (has_id a.id) (rows_of a.rows.now l)) (slice_is o a.from a.to),
    )

pub id_at-requires : goal.id_at-requires
id_at-requires c = c.loop-rest.invariant.0 0 (omega arith)

pub id_at-requires-else-id_at-id : goal.id_at-requires-else-id_at-id
id_at-requires-else-id_at-id c = c.loop-rest.invariant.0 1 (omega arith)

pub id_at-requires-else-id_at-id-2 : goal.id_at-requires-else-id_at-id-2
id_at-requires-else-id_at-id-2 c = c.loop-rest.invariant.0 2 (omega arith)

pub id_at-requires-else-id_at-id-3 : goal.id_at-requires-else-id_at-id-3
id_at-requires-else-id_at-id-3 c = c.loop-rest.invariant.0 3 (omega arith)

pub returns-then-id_at-id : goal.returns-then-id_at-id
returns-then-id_at-id c =
    let a = c.args in
    let rest = c.loop-rest.rest.now in
    let inv = c.loop-rest.invariant in
    let hit = any_at (has_id a.id) a.rows.now rest in
    sym (sym inv.1
    ∙ elim c.then-id_at-id.branch [
      | then-id_at-id-via-then-id_at-id w ↦ hit 0 (omega arith) (eq-eqb _ _ (sym c.id_at.ensures ∙ w.if-id_at-id.true))
      | then-id_at-id-via-else-id_at-id+then-id_at-id-2 w ↦
          hit 1 (omega arith) (eq-eqb _ _ (sym w.id_at-else-id_at-id.ensures ∙ w.if-id_at-id-2.true))
      | then-id_at-id-via-else-id_at-id+else-id_at-id-2+then-id_at-id-3 w ↦
          hit 2 (omega arith) (eq-eqb _ _ (sym w.id_at-else-id_at-id-2.ensures ∙ w.if-id_at-id-3.true))
      | then-id_at-id-via-else-id_at-id+else-id_at-id-2+else-id_at-id-3+then-id_at-id-4 w ↦
          hit 3 (omega arith) (eq-eqb _ _ (sym w.id_at-else-id_at-id-3.ensures ∙ w.if-id_at-id-4.true))
    ])

pub loop-rest-smaller : goal.loop-rest-smaller
loop-rest-smaller c =
    let rest = c.loop-rest.rest.now in
    omega (arith, length-take (length rest - 4) (drop 4 rest), length-drop 4 rest)

pub loop-rest-preserved : goal.loop-rest-preserved
loop-rest-preserved c =
    let a = c.args in
    let rest = c.loop-rest.rest.now in
    let inv = c.loop-rest.invariant in
    let long : length (take (length rest - 4) (drop 4 rest)) ≡ length rest - 4 =
    omega (arith, length-take (length rest - 4) (drop 4 rest), length-drop 4 rest)
    in (
      λ k lt.
          rw (get_or-take (length rest - 4) (drop 4 rest) k 0 (omega (arith, long)), get_or-drop 4 rest k 0)
          (inv.0 (4 + k) (omega (arith, long))),
      sym (past_four (has_id a.id) a.rows.now rest c.in-len4-up.len_at_least
          (ne_eqb _ _ (λ e. c.if-id_at-id.false (c.id_at.ensures ∙ e)))
          (ne_eqb _ _ (λ e. c.if-id_at-id-2.false (c.id_at-else-id_at-id.ensures ∙ e)))
          (ne_eqb _ _ (λ e. c.if-id_at-id-3.false (c.id_at-else-id_at-id-2.ensures ∙ e)))
          (ne_eqb _ _ (λ e. c.if-id_at-id-4.false (c.id_at-else-id_at-id-3.ensures ∙ e))))
          ∙ inv.1,
    )

pub any-requires-clause-callable : goal.any-requires-clause-callable
any-requires-clause-callable c =
    let rest = c.loop-rest.rest.now in
    serves_from_places (YieldsList-from_slice rest cc) (λ x q k. search (rules, tests))
    (λ x k lt e.
    let row : HasRow c.args.rows.now x.now =
    subst (HasRow c.args.rows.now) (sym (e ∙ get_or_default rest k x.now 0 lt)) (c.loop-rest.invariant.0 k lt)
    in
    search rules)

pub returns : goal.returns
returns c =
    let a = c.args in
    let rest = c.loop-rest.rest.now in
    any_from_yields_List (λ (e : ℕ). has_id a.id (row_at a.rows.now e)) _ _ c.any.result c.any.ensures.ran
    (YieldsList-from_slice rest cc) (λ x b q k. search (rules, tests))
    ∙ any_of (row_at a.rows.now) (has_id a.id) rest
    ∙ c.loop-rest.invariant.1
