-- Laws of calls of several steps: the frames of the steps are one frame, and an operation that is done has its row written where it stands.
use Rattle.std.specs.Prelude.{ℕ, zero, suc, ◌+◌, ◌-◌, ◌<◌, ◌≡◌, refl, List, [], ◌∷◌, ◌++◌, length, get_or, set, take, drop}
use Rattle.std.proofs.Common.{arith, sym, ap, subst, ◌∙◌}
use Rattle.history.specs.declared.Entry.{Entry}
use Rattle.history.specs.Entries.{UsableEntry}
use Rattle.table.specs.declared.Table.{Table}
use Rattle.table.specs.Order.{tally, moved}
use Rattle.table.specs.Rows.{PutRow}
use Rattle.table.specs.Tables.{finished_rows, queue_rows, live_numbers, Owns, Frame, Becomes}
use Rattle.table.specs.TableLaws.{finished-length, finished, rewritten}

-- A call that changes nothing in the table.
pub frame_same : (live ws : List ℕ) → Frame live ws ws
frame_same live ws = record { long = refl; rest = λ e j l z. refl }

pub becomes_same : (t : Table) (o ws : List ℕ) → Owns t o ws → Becomes o ws t o ws (finished_rows t o ws) (queue_rows t o ws)
becomes_same t o ws own =
    record { owns = own; same = λ e. refl; frame = frame_same (live_numbers t o) ws; finished_is = refl; queue_is = refl }

-- Two steps of one call: what is live after the first is live after the second.
pub frame_then : (live live' x y z : List ℕ) → ((e : ℕ) → tally e live' ≡ 0 → tally e live ≡ 0) → Frame live x y → Frame live' y z
    → Frame live' x z
frame_then live live' x y z kept f g =
    record { long = g.long ∙ f.long; rest = λ e j l q. g.rest e j l q ∙ f.rest e j l (kept e q) }

set_last : {A : Type 0} (l : List A) (x e : A) (n : ℕ) → n ≡ length l → set (l ++ (x ∷ [])) n e ≡ l ++ (e ∷ [])
set_last [] x e zero q = refl
set_last [] x e (suc n) q = absurd (omega (arith, q))
set_last (y ∷ l) x e zero q = absurd (omega (arith, q))
set_last {A} (y ∷ l) x e (suc n) q = ap (λ (k : List A). y ∷ k) (set_last l x e n (omega (arith, q)))

-- Where the done ones stay, there are as many.
pub done-stays : (u : Table) (p ws : List ℕ) → Owns u p ws → (v : Table) (r : List ℕ) → Owns v r ws →
    finished_rows v r ws ≡ finished_rows u p ws
    → v.finished ≡ u.finished
done-stays u p ws own v r left e = sym (finished-length v r ws left) ∙ ap length e ∙ finished-length u p ws own

-- An operation is done: its number is the last of the done ones; then others leave, and its row is written where it stands.
pub completed : (t : Table) (o ws : List ℕ) → Owns t o ws → (i : ℕ) → i < t.queue → (e : Entry) → UsableEntry e → (u : Table) (p : List ℕ)
    → u ≡ record { finished = t.finished + 1; queue = t.queue - 1 } → p ≡ moved (t.finished + i) t.finished o
    → (v : Table) (r : List ℕ) (q : List Entry) → Becomes p ws v r ws (finished_rows u p ws) q
    → (new : List ℕ) → PutRow (get_or r (v.finished - 1) 0) e ws new → Becomes o ws v r new (finished_rows t o ws ++ (e ∷ [])) q
completed t o ws own i h e good u p z m v r q left new put =
    let Q = queue_rows t o ws in
    let F = finished_rows t o ws in
    let x = get_or Q i e in
    let first : Becomes o ws u p ws (F ++ (x ∷ [])) (take i Q ++ drop (i + 1) Q) =
    subst (λ (s : Table). Becomes o ws s p ws (F ++ (x ∷ [])) (take i Q ++ drop (i + 1) Q)) (sym z) (finished t o ws own i h e p m) in
    let rows = left.finished_is ∙ first.finished_is in
    let many : v.finished ≡ t.finished + 1 =
    done-stays u p ws first.owns v r left.owns left.finished_is ∙ ap (λ (s : Table). s.finished) z in
    let last = rewritten v r ws left.owns e new good (v.finished - 1) (omega (arith, many)) put in
    record {
      owns = last.owns;
      same = λ k. last.same k ∙ left.same k ∙ first.same k;
      frame = last.frame;
      finished_is =
          last.finished_is
          ∙ ap (λ (l : List Entry). set l (v.finished - 1) e) rows
          ∙ set_last F x e (v.finished - 1) (omega (arith, many, finished-length t o ws own));
      queue_is = last.queue_is ∙ left.queue_is;
    }
