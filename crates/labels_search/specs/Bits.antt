-- The bits of one word: one more of them set, the lowest one found, and the lowest one taken away. Assumes nothing.
use Rattle.std.specs.Prelude.{ℕ, zero, suc, ◌-◌, ◌*◌, ◌/◌, ◌%◌, ◌≤◌, ◌<◌, ◌^◌, min, max, ◌≡◌, refl, ◌≢◌, cond, eqb}
use Rattle.std.proofs.Common.{sym, ap, ◌∙◌, arith, div-one, le_trans, one-mul, mod-eq_of_lt, pow_mono, eq-eqb, ne_eqb}
use Rattle.std.proofs.Math.Nat.{pow-succ', div-div-eq-div-mul, div-eq_of_lt}
use Rattle.std.proofs.Math.Decide.{ℕ_discrete, dec_le}
use Rattle.std.specs.Int.Bits.{bit_and, bit_or, and_step, and_self, or_step}
use Rattle.std.proofs.lemmas.Nat.{and_le_l, or_lt}
use Rattle.std.specs.Int.Count.{count_trailing_zeros}
use Rattle.std.proofs.Math.Pow.{pow-lt}

-- bit i of x
unfoldable pub bit : ℕ → ℕ → ℕ
bit i x = x / 2 ^ i % 2

-- x with bit i set
unfoldable pub with_bit : ℕ → ℕ → ℕ
with_bit i x = bit_or x (2 ^ i)

-- which is the lowest set bit of x
unfoldable pub lowest_bit : ℕ → ℕ
lowest_bit x = count_trailing_zeros 64 x

-- x without it
unfoldable pub without_lowest : ℕ → ℕ
without_lowest x = bit_and x (x - 1)

-- a word of an upper level, whose lowest bit stands for the word x: without it where x is 0
unfoldable pub summary : ℕ → ℕ → ℕ
summary x y = cond (eqb x 0) (without_lowest y) y

-- ---- a bit, counted from the lowest

bit_small : (i x : ℕ) → bit i x < 2
unfolding bit
bit_small i x = omega arith

bit-first : (x : ℕ) → bit 0 x ≡ x % 2
unfolding bit
bit-first x = ap (λ (y : ℕ). y % 2) (div-one x)

bit-next : (i x : ℕ) → bit (suc i) x ≡ bit i (x / 2)
unfolding bit
bit-next i x = ap (λ (y : ℕ). y % 2) (ap (λ (y : ℕ). x / y) (pow-succ' 2 i) ∙ sym (div-div-eq-div-mul x 2 (2 ^ i)))

pub bit-none : (i : ℕ) → bit i 0 ≡ 0
bit-none zero = bit-first 0
bit-none (suc i) = bit-next i 0 ∙ bit-none i

-- a number with a set bit is not 0
pub bit_some : (i x : ℕ) → bit i x ≡ 1 → 0 < x
bit_some i zero e = omega (arith, bit-none i)
bit_some i (suc x) e = omega arith

-- and is large enough
pub bit_below : (i k x : ℕ) → bit i x ≡ 1 → x < 2 ^ k → i < k
unfolding bit
bit_below i k x e h = elim (dec_le k i) [
  | yes l ↦ absurd (omega (arith, ap (λ (y : ℕ). y % 2) (div-eq_of_lt (le_trans h (pow_mono l)))))
  | no l ↦ omega arith
]

-- ---- one more bit set

or_first : (x y : ℕ) → bit_or x y % 2 ≡ max (x % 2) (y % 2)
or_first x y = omega (arith, or_step x y)

or_half : (x y : ℕ) → bit_or x y / 2 ≡ bit_or (x / 2) (y / 2)
or_half x y = omega (arith, or_step x y)

bit_or_lem : (i x y : ℕ) → bit i (bit_or x y) ≡ max (bit i x) (bit i y)
bit_or_lem zero x y = rw (bit-first (bit_or x y), bit-first x, bit-first y) (or_first x y)
bit_or_lem (suc i) x y = rw (bit-next i (bit_or x y), bit-next i x, bit-next i y, or_half x y) (bit_or_lem i (x / 2) (y / 2))

power_half : (i : ℕ) → 2 ^ suc i / 2 ≡ 2 ^ i
power_half i = omega arith

power_bit : (i : ℕ) → bit i (2 ^ i) ≡ 1
power_bit zero = bit-first 1
power_bit (suc i) = bit-next i (2 ^ suc i) ∙ rw (power_half i) (power_bit i)

bit_power : (i j : ℕ) → j ≢ i → bit j (2 ^ i) ≡ 0
bit_power zero zero h = absurd (h refl)
bit_power zero (suc j) h = bit-next j 1 ∙ bit-none j
bit_power (suc i) zero h = bit-first (2 ^ suc i) ∙ omega arith
bit_power (suc i) (suc j) h = bit-next j (2 ^ suc i) ∙ rw (power_half i) (bit_power i j (λ e. h (ap suc e)))

bit_with_same : (i x : ℕ) → bit i (with_bit i x) ≡ 1
unfolding with_bit
bit_with_same i x = omega (arith, bit_or_lem i x (2 ^ i), power_bit i, bit_small i x)

bit_with_other : (i j x : ℕ) → j ≢ i → bit j (with_bit i x) ≡ bit j x
unfolding with_bit
bit_with_other i j x h = omega (arith, bit_or_lem j x (2 ^ i), bit_power i j h)

pub with_bit_small : (i k x : ℕ) → i < k → x < 2 ^ k → with_bit i x < 2 ^ k
unfolding with_bit
with_bit_small i k x h l = or_lt k x (2 ^ i) l (pow-lt h)

-- ---- the lowest bit, found by the digits

zeros_odd : (d x : ℕ) → x % 2 ≢ 0 → count_trailing_zeros (suc d) x ≡ 0
unfolding count_trailing_zeros
zeros_odd d x h = let e : x % 2 ≡ 1 = omega (arith, h) in rw e

zeros_even : (d x : ℕ) → x % 2 ≡ 0 → count_trailing_zeros (suc d) x ≡ suc (count_trailing_zeros d (x / 2))
unfolding count_trailing_zeros
zeros_even d x e = rw e

half_small : (d x : ℕ) → x < 2 ^ suc d → x / 2 < 2 ^ d
half_small d x h = omega arith

zeros-bit : (d x : ℕ) → 0 < x → x < 2 ^ d → bit (count_trailing_zeros d x) x ≡ 1
zeros-bit zero x h l = absurd (omega arith)
zeros-bit (suc d) x h l = elim (ℕ_discrete (x % 2) 0) [
  | yes e ↦ rw (zeros_even d x e, bit-next (count_trailing_zeros d (x / 2)) x) (zeros-bit d (x / 2) (omega arith) (half_small d x l))
  | no e ↦ rw (zeros_odd d x e, bit-first x) (omega (arith, e))
]

zeros-least : (d i x : ℕ) → i < d → bit i x ≡ 1 → count_trailing_zeros d x ≤ i
zeros-least zero i x h b = absurd (omega arith)
zeros-least (suc d) zero x h b = elim (ℕ_discrete (x % 2) 0) [
  | yes e ↦ absurd (omega (arith, bit-first x))
  | no e ↦ omega (arith, zeros_odd d x e)
]
zeros-least (suc d) (suc i) x h b = elim (ℕ_discrete (x % 2) 0) [
  | yes e ↦ omega (arith, zeros_even d x e, zeros-least d i (x / 2) (omega arith) (sym (bit-next i x) ∙ b))
  | no e ↦ omega (arith, zeros_odd d x e)
]

-- ---- the lowest bit taken away, digit by digit

and_odd : (x : ℕ) → x % 2 ≢ 0 → bit_and x (x - 1) ≡ x - 1
and_odd x h =
    let e : (x - 1) / 2 ≡ x / 2 = omega (arith, h) in
    and_step x (x - 1) ∙ rw (e, and_self (x / 2)) (omega (arith, h))

and_even : (x : ℕ) → x % 2 ≡ 0 → 0 < x → bit_and x (x - 1) ≡ 2 * bit_and (x / 2) (x / 2 - 1)
and_even x h l =
    let e : (x - 1) / 2 ≡ x / 2 - 1 = omega arith in
    and_step x (x - 1) ∙ rw e (omega arith)

twice-bit : (i x : ℕ) → bit (suc i) (2 * x) ≡ bit i x
twice-bit i x = let e : 2 * x / 2 ≡ x = omega arith in bit-next i (2 * x) ∙ rw e

twice-first : (x : ℕ) → bit 0 (2 * x) ≡ 0
twice-first x = bit-first (2 * x) ∙ omega arith

and_zeros : (d x : ℕ) → 0 < x → x < 2 ^ d → bit (count_trailing_zeros d x) (bit_and x (x - 1)) ≡ 0
and_zeros zero x h l = absurd (omega arith)
and_zeros (suc d) x h l = elim (ℕ_discrete (x % 2) 0) [
  | yes e ↦
      rw (zeros_even d x e, and_even x e h, twice-bit (count_trailing_zeros d (x / 2)) (bit_and (x / 2) (x / 2 - 1)))
      (and_zeros d (x / 2) (omega arith) (half_small d x l))
  | no e ↦ rw (zeros_odd d x e, and_odd x e, bit-first (x - 1)) (omega (arith, e))
]

and_others : (d i x : ℕ) → 0 < x → x < 2 ^ d → i ≢ count_trailing_zeros d x → bit i (bit_and x (x - 1)) ≡ bit i x
and_others zero i x h l n = absurd (omega arith)
and_others (suc d) zero x h l n = elim (ℕ_discrete (x % 2) 0) [
  | yes e ↦ rw (and_even x e h, twice-first (bit_and (x / 2) (x / 2 - 1)), bit-first x) (sym e)
  | no e ↦ absurd (n (sym (zeros_odd d x e)))
]
and_others (suc d) (suc i) x h l n = elim (ℕ_discrete (x % 2) 0) [
  | yes e ↦
      rw (and_even x e h, twice-bit i (bit_and (x / 2) (x / 2 - 1)), bit-next i x)
      (and_others d i (x / 2) (omega arith) (half_small d x l) (λ q. n (ap suc q ∙ sym (zeros_even d x e))))
  | no e ↦ let q : (x - 1) / 2 ≡ x / 2 = omega (arith, e) in rw (and_odd x e, bit-next i (x - 1), bit-next i x, q)
]

-- ---- so of a word of at most 64 bits

module _ (x : ℕ) (some : 0 < x) (small : x < 2 ^ 64) where
  pub lowest_bit-set : bit (lowest_bit x) x ≡ 1
  unfolding lowest_bit
  lowest_bit-set = zeros-bit 64 x some small

  pub lowest_bit-least : (i : ℕ) → bit i x ≡ 1 → lowest_bit x ≤ i
  unfolding lowest_bit
  lowest_bit-least i e = zeros-least 64 i x (bit_below i 64 x e small) e

  without_same : bit (lowest_bit x) (without_lowest x) ≡ 0
  unfolding lowest_bit without_lowest
  without_same = and_zeros 64 x some small

  without_other : (i : ℕ) → i ≢ lowest_bit x → bit i (without_lowest x) ≡ bit i x
  unfolding lowest_bit without_lowest
  without_other i h = and_others 64 i x some small h

pub without_less : (x : ℕ) → without_lowest x ≤ x
unfolding without_lowest
without_less x = and_le_l x (x - 1)

-- ---- two words that differ in one bit

-- y is x, but for bit k, which is c
pub record Only (k c x y : ℕ) : Type 0 where
  pub same : bit k y ≡ c
  pub other : (i : ℕ) → i ≢ k → bit i y ≡ bit i x

pub with_only : (k x : ℕ) → Only k 1 x (with_bit k x)
with_only k x = record { same = bit_with_same k x; other = λ i h. bit_with_other k i x h }

pub with_some : (k x : ℕ) → min (with_bit k x) 1 ≡ 1
with_some k x = omega (arith, bit_some k (with_bit k x) (bit_with_same k x))

pub without_only : (x : ℕ) → 0 < x → x < 2 ^ 32 → Only (lowest_bit x) 0 x (without_lowest x)
without_only x h l = record { same = without_same x h (omega arith); other = λ i k. without_other x h (omega arith) i k }

pub summary_only : (x y : ℕ) → 0 < y → y < 2 ^ 32 → Only (lowest_bit y) (min x 1) y (summary x y)
unfolding summary
summary_only x y h l = elim (ℕ_discrete x 0) [
  | yes e ↦ rw (eq-eqb x 0 e, e) (without_only y h l)
  | no e ↦
      let m : min x 1 ≡ 1 = omega (arith, e) in
      rw (ne_eqb x 0 e, m) (record { same = lowest_bit-set y h (omega arith); other = λ i k. refl })
]

pub summary-less : (x y : ℕ) → summary x y ≤ y
unfolding summary
summary-less x y = elim (ℕ_discrete x 0) [
  | yes e ↦ rw (eq-eqb x 0 e) (without_less y)
  | no e ↦ rw (ne_eqb x 0 e) (omega arith)
]

-- ---- as the code computes them

pub shifted_set : (i x : ℕ) → x < 2 ^ 63 → i < 32 → (bit_or x (1 * 2 ^ i % 2 ^ 64) ≡ with_bit i x) × (bit_or x (1 * 2 ^ i % 2 ^ 64) < 2 ^ 63)
unfolding with_bit
shifted_set i x h l =
    let e : 1 * 2 ^ i % 2 ^ 64 ≡ 2 ^ i = rw (one-mul (2 ^ i)) (mod-eq_of_lt (pow-lt {i = i} {j = 64} (omega arith))) in
    rw e (refl, or_lt 63 x (2 ^ i) h (pow-lt {i = i} {j = 63} (omega arith)))
