-- One share as the code meets it: the exact scale, a whole number from its bits, and why it is refused. Assumes nothing.
use Rattle.std.specs.Prelude.{ℕ, zero, suc, ◌+◌, ◌-◌, ◌*◌, ◌/◌, ◌%◌, ◌^◌, ◌≤◌, ◌<◌, ◌≡◌, refl, Bool, true, false, not, ℤ, pos, Float}
use Rattle.std.proofs.Common.{arith, one-mul, mod-eq_of_lt, le-mul_of_pos_right, sym, ap, subst, ◌∙◌, true≢false, pow_pos, to_z, of_z}
use Rattle.std.proofs.Math.Nat.{pow-succ'}
use Rattle.std.proofs.Math.Dec.{T}
use Rattle.std.specs.Int.Signed.{mag}
use Rattle.std.proofs.Math.Pow.{pow-lt}
use Rattle.std.specs.Float.{nan, inf, fin, binary64, float_is_finite}
use Rattle.std.specs.Float.Ieee.{hid, is_nan, fits, of_bits, to_bits}
use Rattle.std.specs.Float.Ieee.Bits.{of_bits-to_bits}
use Rattle.std.specs.Int.{w64}
use Rattle.definitions.specs.Answers.{numbered, share_outside}
use Rattle.definitions.specs.DrawnPoints.{default_scale, effective_scale, scale_allowed, nearest, signed, whole, snap}
use Rattle.int64.specs.Whole.{held}
use Rattle.snap_model.specs.Scales.{scale_most}
use Rattle.snap_model.specs.Bits.{units, field, negative}
use Rattle.snap_model.specs.Nearest.{nearest_most, nearest_carried}
use Rattle.snap_model.specs.Share.{endless, inside, inside_finite, refusal, share-field, share-whole, less_than_half, by_digits}

-- ---- the scale

pub scale_zero : (scale : ℕ) → scale ≡ 0 → default_scale ≡ effective_scale default_scale scale
unfolding effective_scale
scale_zero scale e = rw e

pub scale_other : (scale : ℕ) → (scale ≡ 0 → ⊥) → scale ≡ effective_scale default_scale scale
unfolding effective_scale
scale_other zero h = absurd (h refl)
scale_other (suc r) h = refl

pub scale_bound : (scale r : ℕ) → r ≡ effective_scale default_scale scale → true ≡ scale_allowed scale → r ≤ 24
scale_bound scale r e h = rw e (scale_most default_scale scale (omega arith) (sym h))

-- 2 ^ r as the code makes it
pub power : (r : ℕ) → r < 64 → 1 * 2 ^ r % 2 ^ 64 ≡ 2 ^ r
power r h = ap (λ (x : ℕ). x % 2 ^ 64) (one-mul (2 ^ r)) ∙ mod-eq_of_lt (pow-lt h)

-- ---- the nearest whole number

-- 2 ^ d by its half
halved : (d : ℕ) → 0 < d → 2 ^ d ≡ 2 * 2 ^ (d - 1)
halved zero h = absurd (omega arith)
halved (suc d) h = let e : suc d - 1 ≡ d = omega arith in rw e (pow-succ' 2 d)

-- the code's sum
pub nearest_shifted : (a d : ℕ) → 0 < d → d < 54
    → (a + (1 * 2 ^ (d - 1) % 2 ^ 64 - 1 + a / 2 ^ d % 2)) / 2 ^ d ≡ nearest a (2 ^ d)
nearest_shifted a d h l = rw (power (d - 1) (omega arith), halved d h) (nearest_carried a (2 ^ (d - 1)) (pow_pos (d - 1)))

pub nearest_fits : (a d : ℕ) → a < 2 ^ 53 → nearest a (2 ^ d) < 2 ^ 53
nearest_fits a d h = omega (arith, nearest_most a (2 ^ d) a (pow_pos d) (le-mul_of_pos_right a (pow_pos d)))

-- less than a half
pub bits_none : (s : Bool) (n r : ℕ) → field n + r < 1022 → pos 0 ≡ signed s (nearest (units n * 2 ^ r) (2 ^ 1074))
bits_none s n r h = rw (less_than_half n r h) (none s)
  where
    none : (s : Bool) → pos 0 ≡ signed s 0
    none false = refl
    none true = refl

-- c is found by the divisor that is left, and k is c with the sign
pub bits_some : (k : ℤ) (s : Bool) (n r c : ℕ) → k ≡ signed s c → c ≡ nearest (hid binary64 + n % hid binary64) (2 ^ (1075 - field n - r)) →
    r ≤ 24 → field n ≤ 1024 → 1022 ≤ field n + r → mag k < 2 ^ 63 → to_z w64 (of_z w64 k) ≡ signed s (nearest (units n * 2 ^ r) (2 ^ 1074))
bits_some k s n r c e f h l m g = held k g ∙ e ∙ ap (signed s) (f ∙ by_digits n r h l m)

-- ---- a share that passes, or does not

finite : (x : Float) → endless x ≡ false → T (not (is_nan x))
unfolding is_nan endless
finite nan h = absurd (true≢false h)
finite (inf s) h = tt
finite (fin s m e) h = tt

-- a share x that is from -2 to 2
module _ (x : Float) (h : inside x ≡ true) where
  pub inside-number : T (not (is_nan x))
  inside-number = finite x (inside_finite x h)

  module _ (f : fits binary64 x ≡ true) where
    from_bits : of_bits binary64 (to_bits binary64 x) ≡ x
    from_bits = of_bits-to_bits binary64 x (subst T (sym f) tt)

    pub inside-field : field (to_bits binary64 x) ≤ 1024
    inside-field = share-field (to_bits binary64 x) x from_bits h

    pub inside-whole : (r q : ℕ) (k : ℤ) → q ≡ r →
        k ≡ signed (negative (to_bits binary64 x)) (nearest (units (to_bits binary64 x) * 2 ^ q) (2 ^ 1074)) → mag k < 2 ^ 63 →
        snap r x ≡ whole (to_z w64 (of_z w64 k))
    inside-whole r q k e i m = rw (held k m, i, e) (share-whole (to_bits binary64 x) x from_bits h r)

-- why a share is refused, by what `is_finite` says
pub refused-endless : (x : Float) (b : Bool) → b ≡ float_is_finite x → b ≡ false → numbered 15 ≡ refusal x
unfolding float_is_finite endless refusal
refused-endless nan b e f = refl
refused-endless (inf s) b e f = refl
refused-endless (fin s m n) b e f = cc

pub refused_outside : (x : Float) (b : Bool) → b ≡ float_is_finite x → b ≡ true → share_outside x ≡ refusal x
unfolding float_is_finite endless refusal
refused_outside nan b e f = cc
refused_outside (inf s) b e f = cc
refused_outside (fin s m n) b e f = refl

-- what `snap_share` and `refuse` rest on
pub ruleset passing = (inside-number, inside-field, inside-whole)

pub ruleset refusals = (refused-endless, refused_outside)
