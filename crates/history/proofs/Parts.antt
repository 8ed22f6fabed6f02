-- One part of a profile replaced by shift and mask is the stated sum: one law over the part. With k = 8 p bits below part p and j above
-- it, the mask is j ones, eight zeros and k ones, so the three sums that shift and mask leave are those of `replaced-at`.
use Prim.Native.Nat.{ℕ, suc, ◌+◌, ◌-◌, ◌*◌, ◌/◌, ◌%◌, ◌^◌, ◌≤◌, ◌<◌, zero}
use native.Mathlib.Nat.{div-add-mod', zero-mul, zero-add, mod-lt, pow-suc}
use native.Mathlib.Omega.{arith}
use mathlib.Core.Path.{◌≡◌, refl, sym, ap, ap₂, ◌∙◌}
use lib.Bits.{bit_and, bit_or, and_block, and_mask, or_block, or_zero_r, or_shifted_r}
use lib.Pow.{pow-add, pow_pos, pow_mono, shl_lt, shl_exact, mod-mod-pow, ones_split}
use Rattle.forms.specs.Limits.{part_limit}
use Rattle.rules.specs.Rules.{replaced, replaced_with}
use Rattle.rule_laws.specs.PartLaws.{replaced-at}

-- at a part of k bits below and j bits above
swap : (n b k j K : ℕ) → 2 ^ k ≤ 2 ^ K → 0 < 2 ^ K → 0 < 2 ^ k → b * 2 ^ k < 2 ^ K
    → bit_or (bit_and n ((2 ^ j - 1) * 2 ^ K + (2 ^ k - 1))) (b * 2 ^ k) ≡ (n / 2 ^ K % 2 ^ j) * 2 ^ K + (b * 2 ^ k + n % 2 ^ K % 2 ^ k)
swap n b k j K le pK pk lt =
    ap (λ (x : ℕ). bit_or x (b * 2 ^ k)) masked ∙ joined
  where
    low : n % 2 ^ K < 2 ^ K
    low = mod-lt n pK

    lower : n % 2 ^ K % 2 ^ k < 2 ^ k
    lower = mod-lt (n % 2 ^ K) pk

    masked : bit_and n ((2 ^ j - 1) * 2 ^ K + (2 ^ k - 1)) ≡ (n / 2 ^ K % 2 ^ j) * 2 ^ K + n % 2 ^ K % 2 ^ k
    masked =
        ap (λ (x : ℕ). bit_and x ((2 ^ j - 1) * 2 ^ K + (2 ^ k - 1))) (sym (div-add-mod' n (2 ^ K)))
        ∙ and_block K (n / 2 ^ K) (2 ^ j - 1) (n % 2 ^ K) (2 ^ k - 1) low (omega arith)
        ∙ ap₂ (λ (x y : ℕ). x * 2 ^ K + y) (and_mask (n / 2 ^ K) j) (and_mask (n % 2 ^ K) k)

    joined : bit_or ((n / 2 ^ K % 2 ^ j) * 2 ^ K + n % 2 ^ K % 2 ^ k) (b * 2 ^ k) ≡ (n / 2 ^ K % 2 ^ j) * 2 ^ K + (b * 2 ^ k + n % 2 ^ K % 2 ^ k)
    joined =
        ap (λ (x : ℕ). bit_or ((n / 2 ^ K % 2 ^ j) * 2 ^ K + n % 2 ^ K % 2 ^ k) x) (sym (simp (zero-mul, zero-add)))
        ∙ or_block K (n / 2 ^ K % 2 ^ j) 0 (n % 2 ^ K % 2 ^ k) (b * 2 ^ k) (omega (arith, lower)) lt
        ∙ ap₂ (λ (x y : ℕ). x * 2 ^ K + y) (or_zero_r (n / 2 ^ K % 2 ^ j)) (or_shifted_r b k (n % 2 ^ K % 2 ^ k) lower)

-- the worth of a part is a power of two
worth : (p : ℕ) → 256 ^ p ≡ 2 ^ (p * 8)
worth zero = refl
worth (suc p) =
    pow-suc 256 p
    ∙ ap (λ (x : ℕ). x * 256) (worth p)
    ∙ sym (pow-add 2 (p * 8) 8)
    ∙ ap (λ (x : ℕ). 2 ^ x) (let z : p * 8 + 8 ≡ suc p * 8 = omega arith in z)

-- all ones but eight: with the powers as unknowns, and then
ones-but : (x w : ℕ) → 0 < w → (x + (256 * w - 1)) - 255 * w ≡ x + (w - 1)
ones-but x w h = omega arith

mask : (k j : ℕ) → j + (8 + k) ≡ 64 → 18446744073709551615 - 255 * 2 ^ k ≡ (2 ^ j - 1) * 2 ^ (8 + k) + (2 ^ k - 1)
mask k j e =
    ap (λ (x : ℕ). x - 255 * 2 ^ k) (sym (ap (λ (x : ℕ). 2 ^ x - 1) e) ∙ ones_split j (8 + k))
    ∙ ap (λ (x : ℕ). ((2 ^ j - 1) * 2 ^ (8 + k) + (x - 1)) - 255 * 2 ^ k) (pow-add 2 8 k)
    ∙ ones-but ((2 ^ j - 1) * 2 ^ (8 + k)) (2 ^ k) (pow_pos k)

turned : (a b c : ℕ) → a + (b + c) ≡ c + b + a
turned a b c = omega arith

-- Part p, with m parts above it.
shifted : (p m n o : ℕ) → suc p + m ≡ part_limit → o / 256 ≡ p
    → bit_or (bit_and n (18446744073709551615 - 255 * 2 ^ (p * 8) % 18446744073709551616))
    (o % 256 * 2 ^ (p * 8) % 18446744073709551616)
    ≡ replaced n o
shifted p m n o e q =
    ap₂ (λ (x y : ℕ). bit_or (bit_and n (18446744073709551615 - x)) y) (shl_exact 8 k 64 (omega arith) wide) (shl_exact 8 k 64 byte wide)
    ∙ ap (λ (x : ℕ). bit_or (bit_and n x) (b * 2 ^ k)) (mask k (m * 8) (omega (arith, e)))
    ∙ swap n b k (m * 8) (8 + k) (pow_mono (omega arith)) (pow_pos (8 + k)) (pow_pos k) (shl_lt 8 k byte)
    ∙ ap (λ (x : ℕ). (n / 2 ^ (8 + k) % 2 ^ (m * 8)) * 2 ^ (8 + k) + (b * 2 ^ k + x)) (mod-mod-pow n 8 k)
    ∙ turned ((n / 2 ^ (8 + k) % 2 ^ (m * 8)) * 2 ^ (8 + k)) (b * 2 ^ k) (n % 2 ^ k)
    ∙ ap₂ (λ (w u : ℕ). n % w + b * w + n / u % 2 ^ (m * 8) * u) (sym (worth p)) (sym (worth (suc p) ∙ ap (λ (x : ℕ). 2 ^ x) next))
    ∙ ap (λ (v : ℕ). n % 256 ^ p + b * 256 ^ p + n / 256 ^ suc p % v * 256 ^ suc p) (sym (worth m))
    ∙ sym (replaced-at p m n o q)
    ∙ ap (λ (x : ℕ). replaced_with x n o) e
  where
    k : ℕ
    k = p * 8

    b : ℕ
    b = o % 256

    byte : b < 2 ^ 8
    byte = mod-lt o (omega arith)

    wide : 8 + k ≤ 64
    wide = omega (arith, e)

    next : suc p * 8 ≡ 8 + k
    next = omega arith

pub replaces : (n o : ℕ) → o < 256 * part_limit
    → bit_or (bit_and n (18446744073709551615 - 255 * 2 ^ (o / 256 * 8) % 18446744073709551616))
    (bit_and o 255 * 2 ^ (o / 256 * 8) % 18446744073709551616)
    ≡ replaced n o
replaces n o l = rw (and_mask o 8) (shifted (o / 256) (7 - o / 256) n o (omega (arith, l)) refl)
