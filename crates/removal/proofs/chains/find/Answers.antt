-- The walk ends at the first pair with the key, or behind the last pair.
use Rattle.std.proofs.Common.{ℕ, ◌≡◌, arith, sym, subst}
use Rattle.removal.specs.Chains.{count_of, Found, FindsTo}
use Rattle.removal.specs.ChainLaws.{finds_start, finds_next, finds_here, finds_none, after_more}
use Rattle.removal.proofs.chains.find.Goals as goal

pub loop-q-init : goal.loop-q-init
loop-q-init c = finds_start c.args.words.now c.args.c c.args.key c.args.from c.requires.2

pub returns-then-words-q : goal.returns-then-words-q
returns-then-words-q c =
    (finds_here c.args.words.now c.args.c c.args.key c.args.from c.loop-q.q c.loop-q.invariant c.loop-q-test.true c.if-words-q.true, c.loop-q-test.true)

pub after-q-requires : goal.after-q-requires
after-q-requires c =
    record {
      low = (let l = c.loop-q-test.true in omega arith);
      small = λ h. c.requires.0.links_small c.loop-q.q c.loop-q-test.true h;
    }

pub loop-q-smaller : goal.loop-q-smaller
loop-q-smaller c =
    let m = after_more c.args.words.now c.args.c c.loop-q.q c.args.chains.now c.requires.0 c.loop-q-test.true in
    omega (arith, m.0, m.1, c.after-q.ensures, c.loop-q-test.true)

pub loop-q-preserved : goal.loop-q-preserved
loop-q-preserved c =
    subst (λ (x : ℕ). FindsTo c.args.words.now c.args.c c.args.key c.args.from x) (sym c.after-q.ensures)
    (finds_next c.args.words.now c.args.c c.args.key c.args.from c.loop-q.q c.args.chains.now
    c.requires.0 c.loop-q.invariant c.loop-q-test.true c.if-words-q.false)

pub returns : goal.returns
returns c =
    let F = finds_none c.args.words.now c.args.c c.args.key c.args.from c.loop-q.q c.loop-q.invariant c.loop-q-test.false in
    subst (λ (x : ℕ). Found c.args.words.now c.args.c c.args.key c.args.from x)
    (let e : c.loop-q.q ≡ count_of c.args.words.now = omega (arith, F.within, c.loop-q-test.false) in e) F
