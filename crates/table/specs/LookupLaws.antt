-- Laws of the entry of an id: what a search meets, and that it is the one entry whose row has the id.
use Rattle.std.specs.Prelude.{ℕ, ◌⊎◌, Bool, ◌||◌, take, Some, None, option_map}
use Rattle.std.proofs.Common.{arith, ap₂, ◌∙◌, inl, inr, eq-eqb, ne_eqb, eqb-true}
use Rattle.std.proofs.Math.Path.{◌≡◌, refl, sym, ap, subst}
use Rattle.std.proofs.Math.Bool.{true, false, cond}
use mathlib.Core.List.{List, [], ◌∷◌, ◌++◌, map, map-append}
use mathlib.Core.List.Memᴰ
use mathlib.Core.List.Memᴰ.{head as here}
use mathlib.Core.List.Memᴰ.{tail as there}
use mathlib.Core.List.{Memᴰ as Mem}
use Rattle.std.proofs.Math.Dec.{eqb}
use Rattle.std.specs.List.{find}
use Rattle.std.proofs.Math.ListN.{drop}
use Rattle.forms.specs.Lists.{any}
use Rattle.forms.specs.ListLaws.{Nodup}
use Rattle.history.specs.Tests.{or_false_parts}
use Rattle.table.specs.declared.EntryNumber.{EntryNumber}
use Rattle.table.specs.declared.Table.{Table}
use Rattle.table.specs.OrderLaws.{take-parts}
use Rattle.table.specs.Rows.{row_at}
use Rattle.table.specs.Tables.{rows_of, live_count, live_numbers, finished_rows, queue_rows, has_id, id_of, entry_of}
use Rattle.table.specs.LoopLaws.{any_append}

module _ (ws : List ℕ) (id : ℕ) where
  -- the first entry whose row has the id
  pub lookup_first : (es : List ℕ)
      → option_map (λ (e : ℕ). record { 0 = e }) (find (λ (e : ℕ). eqb (row_at ws e).id id) es) ≡ entry_of ws id es
  unfolding entry_of
  lookup_first [] = refl
  lookup_first (x ∷ es) = go (eqb (row_at ws x).id id) (lookup_first es)
    where
      go : (t : Bool) → option_map (λ (e : ℕ). record { 0 = e }) (find (λ (e : ℕ). eqb (row_at ws e).id id) es) ≡ entry_of ws id es
          → option_map (λ (e : ℕ). record { 0 = e }) (cond t (Some x) (find (λ (e : ℕ). eqb (row_at ws e).id id) es))
          ≡ cond t (Some (record { 0 = x })) (entry_of ws id es)
      go true q = refl
      go false q = q

  -- ### The one entry of a live id

  -- no entry exactly if no row has the id
  pub lookup_nothing : (es : List ℕ) → entry_of ws id es ≡ None → any (has_id id) (rows_of ws es) ≡ false
  unfolding entry_of
  lookup_nothing [] e = refl
  lookup_nothing (x ∷ es) e = go (eqb (row_at ws x).id id) (λ q. lookup_nothing es q) e
    where
      go : (t : Bool) → (entry_of ws id es ≡ None → any (has_id id) (rows_of ws es) ≡ false)
          → cond t (Some (record { 0 = x })) (entry_of ws id es) ≡ None → (t || any (has_id id) (rows_of ws es)) ≡ false
      go true f q = absurd (let z : ◌≡◌ {A = ℕ} 0 1 = cc in omega arith)
      go false f q = f q

  pub nothing_lookup : (es : List ℕ) → any (has_id id) (rows_of ws es) ≡ false → entry_of ws id es ≡ None
  unfolding entry_of
  nothing_lookup [] e = refl
  nothing_lookup (x ∷ es) e =
      let q = or_false_parts (eqb (row_at ws x).id id) (any (has_id id) (rows_of ws es)) e in
      ap (λ (t : Bool). cond t (Some (record { 0 = x })) (entry_of ws id es)) q.0 ∙ nothing_lookup es q.1

  -- an entry that is found is one of them, and its row has the id
  pub lookup_found : (es : List ℕ) (e : ℕ) → entry_of ws id es ≡ Some (record { 0 = e }) → Mem e es × ((row_at ws e).id ≡ id)
  unfolding entry_of
  lookup_found [] e q = absurd (let z : ◌≡◌ {A = ℕ} 0 1 = cc in omega arith)
  lookup_found (x ∷ es) e q = go (eqb (row_at ws x).id id) refl (λ r. lookup_found es e r) q
    where
      go : (t : Bool) → eqb (row_at ws x).id id ≡ t → (entry_of ws id es ≡ Some (record { 0 = e }) → Mem e es × ((row_at ws e).id ≡ id))
          → cond t (Some (record { 0 = x })) (entry_of ws id es) ≡ Some (record { 0 = e }) → Mem e (x ∷ es) × ((row_at ws e).id ≡ id)
      go true h f r =
          let n : ◌≡◌ {A = EntryNumber} (record { 0 = x }) (record { 0 = e }) = cc in
          let z : x ≡ e = ap (λ (y : EntryNumber). y.0) n in
          (here (sym z), subst (λ (k : ℕ). (row_at ws k).id ≡ id) z (eqb-true (row_at ws x).id id h))
      go false h f r = (there (f r).0, (f r).1)

  -- .. and where ids are distinct, it is the only one
  pub lookup_is : (es : List ℕ) (e : ℕ) → Nodup (map id_of (rows_of ws es)) → Mem e es → (row_at ws e).id ≡ id
      → entry_of ws id es ≡ Some (record { 0 = e })
  unfolding entry_of
  lookup_is [] e once m q = absurd (Memᴰ.not-nil m)
  lookup_is (x ∷ es) e once m q = cases (Memᴰ.cases_cons m) (λ k. lookup_is es e once.1 k q)
    where
      cases : (e ≡ x) ⊎ Mem e es → (Mem e es → entry_of ws id es ≡ Some (record { 0 = e })) → entry_of ws id (x ∷ es) ≡ Some (record { 0 = e })
      cases (inl k) below =
          ap (λ (t : Bool). cond t (Some (record { 0 = x })) (entry_of ws id es))
          (eq-eqb (row_at ws x).id id (ap (λ (n : ℕ). (row_at ws n).id) (sym k) ∙ q))
          ∙ ap (λ (n : ℕ). Some (record { 0 = n })) (sym k)
      cases (inr k) below =
          ap (λ (t : Bool). cond t (Some (record { 0 = x })) (entry_of ws id es))
          (ne_eqb (row_at ws x).id id
          (λ r. once.0 (subst (λ (n : ℕ). Mem n (map id_of (rows_of ws es))) (q ∙ sym r) (Memᴰ.map id_of (Memᴰ.map (row_at ws) k)))))
          ∙ below k

-- ### The live entries of a table

module _ (t : Table) (o ws : List ℕ) where
  -- their rows are those of the done ones and then those of the others
  pub live-rows : rows_of ws (live_numbers t o) ≡ finished_rows t o ws ++ queue_rows t o ws
  live-rows =
      ap (rows_of ws) (sym (take-parts o t.finished (live_count t) (omega arith)))
      ∙ map-append (row_at ws) (take t.finished o) (drop t.finished (take (live_count t) o))

  live-any : (id : ℕ)
      → any (has_id id) (rows_of ws (live_numbers t o)) ≡ (any (has_id id) (finished_rows t o ws) || any (has_id id) (queue_rows t o ws))
  live-any id = ap (any (has_id id)) live-rows ∙ any_append (has_id id) (finished_rows t o ws) (queue_rows t o ws)

  -- An id has no entry exactly if no done operation and no other has it.
  pub not_live_lem : (id : ℕ) → entry_of ws id (live_numbers t o) ≡ None
      → (any (has_id id) (finished_rows t o ws) ≡ false) × (any (has_id id) (queue_rows t o ws) ≡ false)
  not_live_lem id e =
      or_false_parts (any (has_id id) (finished_rows t o ws)) (any (has_id id) (queue_rows t o ws))
      (sym (live-any id) ∙ lookup_nothing ws id (live_numbers t o) e)

  pub no_entry : (id : ℕ) → any (has_id id) (finished_rows t o ws) ≡ false → any (has_id id) (queue_rows t o ws) ≡ false
      → entry_of ws id (live_numbers t o) ≡ None
  no_entry id e f = nothing_lookup ws id (live_numbers t o) (live-any id ∙ ap₂ ◌||◌ e f)
