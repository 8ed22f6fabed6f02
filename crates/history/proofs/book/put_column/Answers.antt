-- Each store keeps that, and at the end it is so of the first n histories.
use Rattle.std.proofs.Common.{ℕ, ◌≡◌, ◌<◌, subst, arith, length-take, get_or-take}
use Rattle.history.specs.WordLaws.{Stored, stored_none, stored_next, stored-all}
use Rattle.history.proofs.book.put_column.Goals as goal

pub loop-i-init : goal.loop-i-init
loop-i-init c = stored_none c.args.f c.args.column c.args.words.now c.told-words

pub loop-i-preserved : goal.loop-i-preserved
loop-i-preserved c =
    let a = c.args in
    let l = c.loop-i in
    let lt : l.i < a.n = omega (arith, length-take a.n a.column) in
    rw (get_or-take a.n a.column l.i 0 lt)
    (stored_next a.f l.i a.column a.words.now l.words c.requires.0 (omega (arith, c.requires.1)) l.invariant)

pub returns : goal.returns
returns c =
    let a = c.args in
    let l = c.loop-i in
    let all : l.i ≡ a.n = omega (arith, length-take a.n a.column, c.requires.1) in
    stored-all a.f a.n a.column a.words.now l.words c.requires.0 c.requires.1
    (subst (λ (m : ℕ). Stored a.f m a.column a.words.now l.words) all l.invariant)
