-- Each case is the test that the definition has for it; a conjunction whose first half fails is its first half.
use Rattle.std.proofs.Common.{◌≡◌, ℕ, Bool, ◌&&◌, eqb, sym, ap, ◌∙◌, lt-ltb, le-ltb}
use Rattle.table.specs.declared.versions.Naming.{Naming}
use Rattle.table.specs.Arrays.{names}
use Rattle.table.proofs.versions.is_named.Goals as goal

-- the test of the case that was met
by : {n m : Naming} (a b : ℕ) → n ≡ m → names m a b ≡ names n a b
by a b e = ap (λ (k : Naming). names k a b) (sym e)

pub returns-in-Risen : goal.returns-in-Risen
unfolding names
returns-in-Risen c = by c.args.before c.args.after c.in-Risen.is

pub returns-then-before-gt0 : goal.returns-then-before-gt0
unfolding names
returns-then-before-gt0 c =
    let a = c.args in
    ap (λ (t : Bool). t && eqb a.after 0) (sym (lt-ltb 0 a.before c.if-before-gt0.true)) ∙ by a.before a.after c.in-Dried.is

pub returns-else-before-gt0 : goal.returns-else-before-gt0
unfolding names
returns-else-before-gt0 c =
    let a = c.args in
    let none = le-ltb 0 a.before c.if-before-gt0.false in
    none ∙ ap (λ (t : Bool). t && eqb a.after 0) (sym none) ∙ by a.before a.after c.in-Dried.is
