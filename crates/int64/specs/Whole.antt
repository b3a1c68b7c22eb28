-- Whole numbers that fit 64 bits, by their absolute values, and read back from their bits; and two sets of rules for the callers' proofs, `values` for
-- `search` and `sizes` for `omega`. Assumes nothing.
use Rattle.std.specs.Prelude.{◌+◌, ◌*◌, ◌≤◌, ◌<◌, ◌^◌, ◌≡◌, ℤ, nat_abs, ◌+ℤ◌, ◌-ℤ◌, ◌*ℤ◌}
use Rattle.std.proofs.Common.{arith, SFits, to_z, of_z, to_z-of_z}
use Rattle.std.proofs.Math.Decide.{dec_lt}
use Rattle.std.specs.Int.Signed.{mag}
use Rattle.std.specs.Int.{w64}
use Rattle.std.proofs.lemmas.Int.{ints, unsigned_abs-mul}

-- a number with an absolute value below half the range fits
pub fits_abs : (z : ℤ) → nat_abs z < 2 ^ 63 → SFits w64 z
fits_abs z h = omega (arith, ints)

-- absolute values of a difference, a product
pub abs_minus : (a b : ℤ) → nat_abs (a -ℤ b) ≤ nat_abs a + nat_abs b
abs_minus a b = omega (arith, ints)

pub abs_times : (a b : ℤ) → nat_abs (a *ℤ b) ≡ nat_abs a * nat_abs b
abs_times a b = unsigned_abs-mul a b

-- sums and differences that fit
pub fits_plus : (a b : ℤ) → nat_abs a + nat_abs b < 2 ^ 63 → SFits w64 (a +ℤ b)
fits_plus a b h = omega (arith, ints)

pub fits_minus : (a b : ℤ) → nat_abs a + nat_abs b < 2 ^ 63 → SFits w64 (a -ℤ b)
fits_minus a b h = omega (arith, ints)

-- a number that fits is what its 64 bits stand for
pub held : (z : ℤ) → mag z < 2 ^ 63 → to_z w64 (of_z w64 z) ≡ z
held z h = to_z-of_z {w = w64} (record { sfits = h })

-- `search values` proves what a signed result or argument is: it follows what the calls behind it say, through sums, differences and products. A call of
-- another kind joins by a law of the same shape, listed before the set.
pub held_is : (r z : ℤ) → mag r < 2 ^ 63 → r ≡ z → to_z w64 (of_z w64 r) ≡ z
held_is r z h e = cc (held r h)

module _ (r s t x y : ℤ) (h : mag r < 2 ^ 63) where
  pub plus_is : r ≡ s +ℤ t → s ≡ x → t ≡ y → to_z w64 (of_z w64 r) ≡ x +ℤ y
  plus_is e f g = rw (held r h, e, f, g)

  pub minus_is : r ≡ s -ℤ t → s ≡ x → t ≡ y → to_z w64 (of_z w64 r) ≡ x -ℤ y
  minus_is e f g = rw (held r h, e, f, g)

  pub times_is : r ≡ s *ℤ t → s ≡ x → t ≡ y → to_z w64 (of_z w64 r) ≡ x *ℤ y
  times_is e f g = rw (held r h, e, f, g)

pub ruleset values = (held_is, plus_is, minus_is, times_is)

-- no further from 0 than it was, whether or not it fits
pub held-size : (z : ℤ) → nat_abs (to_z w64 (of_z w64 z)) ≤ nat_abs z
held-size z = elim (dec_lt (nat_abs z) (2 ^ 63)) [ yes h ↦ omega (arith, ints) | no h ↦ omega (arith, ints) ]

-- `omega sizes` reads that of each result of which a call says what it is, and of each argument. It takes one rule for each fact, so a law that says more of
-- a result is listed before the set.
pub result_size : (r z : ℤ) → r ≡ z → nat_abs (to_z w64 (of_z w64 r)) ≤ nat_abs r
result_size r z e = held-size r

pub argument_size : (a : ℤ) → SFits w64 a → nat_abs (to_z w64 (of_z w64 a)) ≤ nat_abs a
argument_size a f = held-size a

pub ruleset sizes = (arith, result_size, argument_size)
