-- Where writing ends, it ends in the buffer.
use Rattle.std.specs.Prelude.{ℕ, ◌+◌, ◌≤◌, Bool, true, false, ◌≡◌, refl, List, length, leb, Option, IfSome}
use Rattle.std.proofs.Common.{arith, ap, subst, sym, ◌∙◌, leb-true}
use Rattle.forms.specs.Write.{Writes, WritesIf}
use Rattle.forms.specs.WriteLaws.{placed-length}

-- The position that a writer answers is one of the buffer.
pub writes_within : (l : List ℕ) (at : ℕ) (bs : List ℕ) (r : Option ℕ) (m : List ℕ) → Writes l at bs r m →
    IfSome r (λ n. n ≤ length m)
unfolding Writes
writes_within l at bs r m w = go (leb (at + length bs) (length l)) refl w
  where
    go : (t : Bool) → leb (at + length bs) (length l) ≡ t → WritesIf t l at bs r m → IfSome r (λ n. n ≤ length m)
    go true h v =
        let k = leb-true (at + length bs) (length l) h in
        let e : length m ≡ length l = ap length v.bytes ∙ placed-length l at bs k in
        subst (λ (x : Option ℕ). IfSome x (λ n. n ≤ length m)) (sym v.answer) (omega arith)
    go false h v = subst (λ (x : Option ℕ). IfSome x (λ n. n ≤ length m)) (sym v.answer) tt
