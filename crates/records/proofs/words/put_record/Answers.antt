-- The five numbers stand where they were copied to, and the others as they came.
use Rattle.std.proofs.Common.{ℕ, ◌+◌, ◌-◌, ◌*◌, ◌≡◌, List, ◌++◌, take, ap, ap₂, ◌∙◌, arith, drop-drop}
use borrow.Rule.Slice.PartMut.{put_mid}
use Rattle.forms.specs.Write.{placed}
use Rattle.records.specs.Model.{numbers_of}
use Rattle.records.proofs.words.put_record.Goals as goal

pub returns : goal.returns
unfolding placed
returns c =
    let a = c.args in
    let five : 5 * a.i + 5 - 5 * a.i ≡ 5 = omega arith in
    let numbers : c.copy_from_slice.new.self ≡ numbers_of a.r = rw (c.copy_from_slice.ensures.after, c.from.ensures, c.from-2.ensures, c.from-3.ensures) in
    ap₂ (λ (n : ℕ) (l : List ℕ). put_mid (5 * a.i) n a.words.now l) five numbers
    ∙ ap (λ (rest : List ℕ). take (5 * a.i) a.words.now ++ (numbers_of a.r ++ rest)) (drop-drop 5 (5 * a.i) a.words.now)
