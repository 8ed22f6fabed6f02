-- Each record that is asked stands in the numbers; the first index that passes is the place of the first record that does.
use Rattle.std.proofs.Common.{ℕ, List, ◌+◌, ◌*◌, ◌≤◌, ◌<◌, ◌≡◌, refl, false, true, length, get_or, ◌∙◌, arith, rules, tests, eq-eqb, ne_eqb}
use Rattle.std.specs.Prelude.{Option, Some, None, MatchOption}
use Rattle.std.proofs.iter.Serving.{serving}
use Rattle.std.proofs.lemmas.Iterator.{first_from_Range}
use Rattle.rules.specs.Records.{is_for}
use Rattle.records.specs.declared.Records.{Records}
use Rattle.records.specs.Model.{width, records_view, record_from}
use Rattle.records.specs.NumberLaws.{no_record, view_long, view_for}
use Rattle.records.specs.FindLaws.{place-searched}
use Rattle.records.proofs.Records.find.Goals as goal

-- what a search by the ids says of the records
searched : (s : Records) (ws : List ℕ) (id : ℕ) (r : Option ℕ)
    → MatchOption r ((k : ℕ) → 0 ≤ k → k < s.count → (record_from ws k).id ≡ id → ⊥)
    (λ i. (0 ≤ i) × (i < s.count) × ((record_from ws i).id ≡ id) × ((k : ℕ) → 0 ≤ k → k < i → (record_from ws k).id ≡ id → ⊥))
    → MatchOption r ((k : ℕ) → k < length (records_view s ws) → is_for id (get_or (records_view s ws) k no_record) ≡ false)
    (λ i. (i < length (records_view s ws)) × (is_for id (get_or (records_view s ws) i no_record) ≡ true)
    × ((k : ℕ) → k < i → is_for id (get_or (records_view s ws) k no_record) ≡ false))
searched s ws id None m =
    λ k h.
    let l : k < s.count = omega (arith, view_long s ws) in
    view_for s ws k id _ l refl ∙ ne_eqb _ id (m k (omega arith) l)
searched s ws id (Some i) m = (
  omega (arith, m.1, view_long s ws),
  view_for s ws i id _ m.1 refl ∙ eq-eqb _ id m.2,
  λ k h. view_for s ws k id _ (omega (arith, m.1)) refl ∙ ne_eqb _ id (m.3 k (omega arith) h),
)

pub find-requires-clause-callable : goal.find-requires-clause-callable
find-requires-clause-callable c =
    let room : (k : ℕ) → k < c.args.self.count → width * k + width ≤ length c.args.words.now =
    λ k h. omega (arith, c.requires.few, c.requires.long) in
    grind serving

pub returns : goal.returns
returns c =
    let s = c.args.self in
    let ws = c.args.words.now in
    let id = c.args.id in
    place-searched (is_for id) (records_view s ws) no_record c.find.result
    (searched s ws id c.find.result
    (first_from_Range _ _ _ c.find.result (λ x. (record_from ws x).id ≡ id) (λ x. (record_from ws x).id ≡ id → ⊥) c.find.ensures.ran
    (λ x q k. search (rules, tests)) (λ x q k. search (rules, tests))))
