-- The number that is read is the history's number of future, in-progress and volatile updates, and a history is dry where it is 0.
use Rattle.std.specs.Prelude.{ℕ, ◌<◌, true, false, List, []}
use Rattle.std.proofs.Common.{eq-eqb, ne_eqb, arith, sym, ◌∙◌}
use Rattle.history.specs.WordLaws.{column_in}
use Rattle.site.specs.Representation.{Representation}
use Rattle.site.specs.Model.{lent, represented}
use Rattle.site.specs.Polls.{polled_of, with_most, poll_absent, poll-counted, ValidWith}
use Rattle.site.specs.declared.Site.{Site}
use Rattle.site.proofs.Site.poll.Goals as goal

-- the site with a log, rows and an order
abbrev site : Site → List ℕ → List ℕ → List ℕ → List ℕ → Representation
site s book log rows order = represented s (lent log rows order book [])

-- a history that there is, is one of sixteen
few : (s : Site) (book : List ℕ) (h : ℕ) → ValidWith s book → h < s.count → h < 16
few s book h v lt = omega (arith, with_most s book v)

pub returns-then-self-h : goal.returns-then-self-h
returns-then-self-h c = λ log rows order v. poll_absent (site c.args.self c.args.book.now log rows order) log v.sound _ c.if-self-h.true

pub overflow_mul-h : goal.overflow_mul-h
overflow_mul-h c = omega (arith, few _ _ _ c.requires c.if-self-h.false)

pub overflow_add-h : goal.overflow_add-h
overflow_add-h c = omega (arith, few _ _ _ c.requires c.if-self-h.false)

pub offset_bounds-book-h : goal.offset_bounds-book-h
offset_bounds-book-h c = omega (arith, few _ _ _ c.requires c.if-self-h.false)

pub bounds-book-h : goal.bounds-book-h
bounds-book-h c = omega (arith, few _ _ _ c.requires c.if-self-h.false)

pub returns-then-book-h-eq0 : goal.returns-then-book-h-eq0
unfolding polled_of
returns-then-book-h-eq0 c =
    λ log rows order v.
    poll-counted (site c.args.self c.args.book.now log rows order) log v.sound c.args.h c.if-self-h.false true
    (eq-eqb _ _ (column_in 5 c.args.book.now c.args.h (few _ _ _ c.requires c.if-self-h.false) ∙ c.if-book-h-eq0.true))

pub returns-else-book-h-eq0 : goal.returns-else-book-h-eq0
unfolding polled_of
returns-else-book-h-eq0 c =
    λ log rows order v.
    poll-counted (site c.args.self c.args.book.now log rows order) log v.sound c.args.h c.if-self-h.false false
    (ne_eqb _ _ (λ q. c.if-book-h-eq0.false (sym (column_in 5 c.args.book.now c.args.h (few _ _ _ c.requires c.if-self-h.false)) ∙ q)))
