-- Laws of a profile as the sum over its parts, each for any number of parts and any part.
use Rattle.std.specs.Prelude.{◌≡◌, refl, Bool, true, false, cond, ℕ, zero, suc, ◌+◌, ◌*◌, ◌/◌, ◌%◌, ◌^◌, ◌≤◌, ◌<◌, eqb}
use Rattle.std.proofs.Common.{sym, ap, ap₂, ◌∙◌, subst, mod-lt, pow-suc, mul_comm, mul_assoc, add-zero, add-suc, add_comm, add_assoc, zero-mul, add-mul, arith, eqb→eq, pow-add}
use Rattle.std.proofs.Math.Nat.{div-eq_of_lt, div-div-eq-div-mul, one-le-pow, pow-le-pow_right}
use Rattle.std.proofs.Math.Arith.{digits_lt, mod-mul}
use Rattle.std.proofs.Math.Dec.{eqb_refl}
use Rattle.forms.specs.ListLaws.{T_true, T_false}
use Rattle.rules.specs.Rules.{part, part_after, profile_of, replaced_with}

-- ### Parts and worths

pub worth_positive : (p : ℕ) → 0 < 256 ^ p
worth_positive p = one-le-pow p 256 (omega arith)

pub part_low : (p x : ℕ) → part p x < 256
part_low p x = mod-lt (x / 256 ^ p) (omega arith)

-- a profile of n parts has nothing above them
pub part-above : (n p x : ℕ) → n ≤ p → x < 256 ^ n → part p x ≡ 0
part-above n p x h low =
    let more : 256 ^ n ≤ 256 ^ p = pow-le-pow_right (omega arith) h in
    ap (λ (q : ℕ). q % 256) (div-eq_of_lt (let z : x < 256 ^ p = omega (arith, more, low) in z))

-- the parts from a on are those of what is above a
pub part_shifted : (a p x : ℕ) → part (a + p) x ≡ part p (x / 256 ^ a)
part_shifted a p x = ap (λ (q : ℕ). q % 256) (ap (λ (w : ℕ). x / w) (pow-add 256 a p) ∙ sym (div-div-eq-div-mul x (256 ^ a) (256 ^ p)))

module _ (x o : ℕ) where
  -- a part that the operand does not name stays
  pub other-part : (p : ℕ) → (p ≡ o / 256 → ⊥) → part_after x o p ≡ part p x
  other-part p ne = rw (T_false (eqb p (o / 256)) (λ t. ne (eqb→eq p (o / 256) t)))

  -- the one that it names becomes the byte
  pub named_part : part_after x o (o / 256) ≡ o % 256
  named_part = rw (T_true (eqb (o / 256) (o / 256)) (eqb_refl (o / 256)))

  pub after_low : (p : ℕ) → part_after x o p < 256
  after_low p = go (eqb p (o / 256))
    where
      go : (b : Bool) → cond b (o % 256) (part p x) < 256
      go true = mod-lt o (omega arith)
      go false = part_low p x

-- ### The sum

-- the same parts make the same profile
pub profile_same : (n : ℕ) (f g : ℕ → ℕ) → ((p : ℕ) → p < n → f p ≡ g p) → profile_of n f ≡ profile_of n g
unfolding profile_of
profile_same zero f g s = refl
profile_same (suc n) f g s =
    ap₂ (λ (a b : ℕ). a + b * 256 ^ n) (profile_same n f g (λ p h. s p (omega (arith, h)))) (s n (omega arith))

-- n bytes make a profile below 256 to the power n
pub profile_low : (n : ℕ) (f : ℕ → ℕ) → ((p : ℕ) → f p < 256) → profile_of n f < 256 ^ n
unfolding profile_of
profile_low zero f h = omega arith
profile_low (suc n) f h =
    let z : f n * 256 ^ n + profile_of n f < 256 * 256 ^ n = digits_lt (h n) (profile_low n f h) in
    let e : 256 ^ suc n ≡ 256 * 256 ^ n = pow-suc 256 n ∙ mul_comm (256 ^ n) 256 in
    subst (λ (w : ℕ). profile_of n f + f n * 256 ^ n < w) (sym e)
    (subst (λ (v : ℕ). v < 256 * 256 ^ n) (add_comm (f n * 256 ^ n) (profile_of n f)) z)

-- the sum of one part more
next : (n : ℕ) (f : ℕ → ℕ) → profile_of (suc n) f ≡ profile_of n f + f n * 256 ^ n
unfolding profile_of
next n f = refl

-- further parts that are 0 add nothing
pub profile_more : (n m : ℕ) (f : ℕ → ℕ) → ((p : ℕ) → n ≤ p → f p ≡ 0) → profile_of (n + m) f ≡ profile_of n f
profile_more n zero f h = ap (λ (k : ℕ). profile_of k f) (add-zero n)
profile_more n (suc m) f h =
    ap (λ (k : ℕ). profile_of k f) (add-suc n m)
    ∙ next (n + m) f
    ∙ ap₂ (λ (a b : ℕ). a + b * 256 ^ (n + m)) (profile_more n m f h) (h (n + m) (omega arith))
    ∙ ap (λ (z : ℕ). profile_of n f + z) (zero-mul (256 ^ (n + m)))
    ∙ add-zero (profile_of n f)

-- the sums, with the worths as unknowns
split_next : (a b c v w : ℕ) → (a + b * w) + c * (w * v) ≡ a + (b + c * v) * w
split_next a b c v w =
    ap (λ (z : ℕ). (a + b * w) + z) (ap (λ (z : ℕ). c * z) (mul_comm w v) ∙ sym (mul_assoc c v w))
    ∙ add_assoc a (b * w) (c * v * w)
    ∙ ap (λ (z : ℕ). a + z) (sym (add-mul b (c * v) w))

-- the first a parts, and those behind them
pub profile_split : (a b : ℕ) (f : ℕ → ℕ) → profile_of (a + b) f ≡ profile_of a f + profile_of b (λ p. f (a + p)) * 256 ^ a
unfolding profile_of
profile_split a zero f =
    ap (λ (k : ℕ). profile_of k f) (add-zero a) ∙ sym (ap (λ (z : ℕ). profile_of a f + z) (zero-mul (256 ^ a)) ∙ add-zero (profile_of a f))
profile_split a (suc b) f =
    ap (λ (k : ℕ). profile_of k f) (add-suc a b)
    ∙ ap₂ (λ (y z : ℕ). y + f (a + b) * z) (profile_split a b f) (pow-add 256 a b)
    ∙ split_next (profile_of a f) (profile_of b (λ p. f (a + p))) (f (a + b)) (256 ^ b) (256 ^ a)

-- a profile is the sum over its parts
pub profile_parts : (n x : ℕ) → profile_of n (λ p. part p x) ≡ x % 256 ^ n
unfolding profile_of
profile_parts zero x = omega arith
profile_parts (suc n) x =
    ap (λ (z : ℕ). z + part n x * 256 ^ n) (profile_parts n x)
    ∙ add_comm (x % 256 ^ n) (part n x * 256 ^ n)
    ∙ sym (ap (λ (w : ℕ). x % w) (pow-suc 256 n ∙ mul_comm (256 ^ n) 256) ∙ mod-mul x (omega arith) (worth_positive n))

-- ### One part replaced

-- In a profile of n parts, one of them replaced: the same number, however many parts more there are.
pub replaced-more : (n m x o : ℕ) → x < 256 ^ n → o < 256 * n → replaced_with (n + m) x o ≡ replaced_with n x o
unfolding replaced_with
replaced-more n m x o low fits =
    profile_more n m (part_after x o) (λ p h. other-part x o p (λ (e : p ≡ o / 256). omega (arith, e, h, fits)) ∙ part-above n p x h low)

pub replaced_low : (n x o : ℕ) → replaced_with n x o < 256 ^ n
unfolding replaced_with
replaced_low n x o = profile_low n (part_after x o) (after_low x o)

-- For every part p: what is below it, the byte at its worth, and what is above it.
pub replaced-at : (p m x o : ℕ) → o / 256 ≡ p
    → replaced_with (suc p + m) x o ≡ x % 256 ^ p + o % 256 * 256 ^ p + x / 256 ^ suc p % 256 ^ m * 256 ^ suc p
unfolding replaced_with
replaced-at p m x o e =
    profile_split (suc p) m (part_after x o)
    ∙ ap₂ (λ (y z : ℕ). y + z * 256 ^ suc p) (next p (part_after x o) ∙ ap₂ (λ (y z : ℕ). y + z * 256 ^ p) below at) above
  where
    below : profile_of p (part_after x o) ≡ x % 256 ^ p
    below =
        profile_same p (part_after x o) (λ q. part q x) (λ q h. other-part x o q (λ (f : q ≡ o / 256). omega (arith, e, f, h)))
        ∙ profile_parts p x

    at : part_after x o p ≡ o % 256
    at = ap (part_after x o) (sym e) ∙ named_part x o

    above : profile_of m (λ q. part_after x o (suc p + q)) ≡ x / 256 ^ suc p % 256 ^ m
    above =
        profile_same m (λ q. part_after x o (suc p + q)) (λ q. part q (x / 256 ^ suc p))
        (λ q h. other-part x o (suc p + q) (λ (f : suc p + q ≡ o / 256). omega (arith, e, f)) ∙ part_shifted (suc p) q x)
        ∙ profile_parts m (x / 256 ^ suc p)
