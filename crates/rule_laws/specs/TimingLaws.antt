-- Now, later and never (02 (b)): what the three words promise, and the test of "never" for each rule.
use Rattle.std.specs.Prelude.{◌≡◌, refl, Bool, true, false, cond, ℕ, ◌+◌, ◌-◌, ◌≤◌, ◌<◌, T, leb, ltb, eqb}
use Rattle.std.proofs.Common.{sym, subst, arith, ltb-false, eqb→eq, leb→le, le→leb, ltb→lt, lt→ltb}
use Rattle.std.proofs.Math.Dec.{eqb_refl}
use Rattle.forms.specs.Decimal.{top}
use Rattle.forms.specs.ListLaws.{T_false}
use Rattle.forms.specs.declared.Rule.{Rule}
use Rattle.forms.specs.declared.Rule.TheVariants.{Inc, Set, Not, Unk}
use Rattle.forms.specs.declared.Timing.{Timing}
use Rattle.forms.specs.declared.Timing.TheVariants.{Now, Later, Never}
use Rattle.rules.specs.Rules.{may_run, may_later, timing, is_never}

-- ### The three answers

same_test : (a b : Bool) → (T a → T b) → (T b → T a) → a ≡ b
same_test true true p q = refl
same_test true false p q = absurd (p tt)
same_test false true p q = absurd (q tt)
same_test false false p q = refl

not_less : (m n : ℕ) → (T (ltb m n) → ⊥) → n ≤ m
not_less m n p = ltb-false m n (T_false (ltb m n) p)

not_same : (m n : ℕ) → (T (eqb m n) → ⊥) → m ≡ n → ⊥
not_same m n p e = p (subst (λ (k : ℕ). T (eqb m k)) e (eqb_refl m))

-- the answer where two tests are these
abbrev answered : Bool → Bool → Timing
answered now later = cond now Now (cond later Later Never)

never_at : (a b : Bool) → T (is_never (answered a b)) → (T a → ⊥) × (T b → ⊥)
never_at true b t = absurd t
never_at false true t = absurd t
never_at false false t = (λ x. x, λ x. x)

never_of : (a b : Bool) → (T a → ⊥) → (T b → ⊥) → T (is_never (answered a b))
never_of true b p q = absurd (p tt)
never_of false true p q = absurd (q tt)
never_of false false p q = tt

now_of : (a b : Bool) → T a → answered a b ≡ Now
now_of true b t = refl
now_of false b t = absurd t

-- the answer "now"
abbrev is_now : Timing → Bool
is_now Now = true
is_now Later = false
is_now Never = false

-- the answer "later"
abbrev is_later : Timing → Bool
is_later Now = false
is_later Later = true
is_later Never = false

now-at : (a b : Bool) → T (is_now (answered a b)) → T a
now-at true b t = tt
now-at false true t = absurd t
now-at false false t = absurd t

later-at : (a b : Bool) → T (is_later (answered a b)) → T b
later-at true b t = absurd t
later-at false true t = tt
later-at false false t = absurd t

-- "may run if" is "now".
pub now-may_run : (r : Rule) (c u : ℕ) → timing r c u ≡ Now → T (may_run r c u)
now-may_run r c u e = now-at (may_run r c u) (may_later r c u) (subst (λ (t : Timing). T (is_now t)) (sym e) tt)

pub may_run_now_lem : (r : Rule) (c u : ℕ) → T (may_run r c u) → timing r c u ≡ Now
may_run_now_lem r c u t = now_of (may_run r c u) (may_later r c u) t

-- What may run is no never.
pub run-not_never : (r : Rule) (c u : ℕ) → T (may_run r c u) → T (is_never (timing r c u)) → ⊥
run-not_never r c u t n = (never_at (may_run r c u) (may_later r c u) n).0 t

-- ### Never, for each rule

-- inc and set with U ≤ C, not with U < C, unk at the highest version
abbrev pub too_late : Rule → ℕ → ℕ → Bool
too_late Inc c u = leb u c
too_late Set c u = leb u c
too_late Not c u = ltb u c
too_late Unk c u = leb top c

late_never : (r : Rule) (c u : ℕ) → T (too_late r c u) → T (is_never (timing r c u))
late_never Inc c u t =
    let le = leb→le u c t in
    never_of (eqb u (c + 1)) (ltb (c + 1) u) (λ e. omega (arith, eqb→eq u (c + 1) e)) (λ e. omega (arith, ltb→lt (c + 1) u e))
late_never Set c u t = let le = leb→le u c t in never_of (may_run Set c u) (may_later Set c u) (λ e. omega (arith, ltb→lt c u e)) (λ e. e)
late_never Not c u t =
    let lt = ltb→lt u c t in
    never_of (eqb u c) (ltb c u) (λ e. omega (arith, eqb→eq u c e)) (λ e. omega (arith, ltb→lt c u e))
late_never Unk c u t =
    let le = leb→le top c t in
    never_of (may_run Unk c u) (may_later Unk c u) (λ e. omega (arith, ltb→lt c top e)) (λ e. e)

never_late : (r : Rule) (c u : ℕ) → T (is_never (timing r c u)) → T (too_late r c u)
never_late Inc c u t =
    let q = never_at (eqb u (c + 1)) (ltb (c + 1) u) t in
    le→leb u c (omega (arith, not_less (c + 1) u q.1, not_same u (c + 1) q.0))
never_late Set c u t = le→leb u c (not_less c u (never_at (may_run Set c u) (may_later Set c u) t).0)
never_late Not c u t =
    let q = never_at (eqb u c) (ltb c u) t in
    lt→ltb u c (omega (arith, not_less c u q.1, not_same u c q.0))
never_late Unk c u t = le→leb top c (not_less c top (never_at (may_run Unk c u) (may_later Unk c u) t).0)

-- The test of "never", rule by rule.
pub never_is : (r : Rule) (c u : ℕ) → is_never (timing r c u) ≡ too_late r c u
never_is r c u = same_test (is_never (timing r c u)) (too_late r c u) (never_late r c u) (late_never r c u)

-- ### What the words promise

late_later : (r : Rule) (c d u : ℕ) → c ≤ d → T (too_late r c u) → T (too_late r d u)
late_later Inc c d u le t = le→leb u d (omega (arith, leb→le u c t))
late_later Set c d u le t = le→leb u d (omega (arith, leb→le u c t))
late_later Not c d u le t = lt→ltb u d (omega (arith, ltb→lt u c t))
late_later Unk c d u le t = le→leb top d (omega (arith, leb→le top c t))

-- "never": it stays so at every higher version, so the update may run at none of them.
pub never_stays : (r : Rule) (c d u : ℕ) → c ≤ d → T (is_never (timing r c u)) → T (is_never (timing r d u))
never_stays r c d u le t = late_never r d u (late_later r c d u le (never_late r c u t))

-- "later": there is a higher version, not above U, at which the update may run.
pub later-runs : (r : Rule) (c u : ℕ) → timing r c u ≡ Later → (d : ℕ) × (c < d) × (d ≤ u) × T (may_run r d u)
later-runs r c u e = go r (later-at (may_run r c u) (may_later r c u) (subst (λ (t : Timing). T (is_later t)) (sym e) tt))
  where
    go : (q : Rule) → T (may_later q c u) → (d : ℕ) × (c < d) × (d ≤ u) × T (may_run q d u)
    go Inc t =
        let lt = ltb→lt (c + 1) u t in
        let same : u - 1 + 1 ≡ u = omega arith in
        (u - 1, omega arith, omega arith, subst (λ (n : ℕ). T (eqb u n)) (sym same) (eqb_refl u))
    go Set t = absurd t
    go Not t = (u, ltb→lt c u t, omega arith, eqb_refl u)
    go Unk t = absurd t
