-- The f64 that a bit pattern stands for, as a whole number of its smallest units, 2 ^ -1074. Assumes nothing.
use Rattle.std.specs.Prelude.{ℕ, zero, suc, ◌+◌, ◌*◌, ◌/◌, ◌%◌, ◌^◌, ◌<◌, ◌≡◌, Bool, true, false, cond, eqb, leb, Float}
use Rattle.std.proofs.Common.{mul-one, mod-lt, arith, lit<, shl_lt, ne_eqb}
use Rattle.std.specs.Float.{nan, inf, binary64}
use Rattle.std.specs.Float.Ieee.{top, hid, ones, of_bits, of_fields}
use Rattle.std.specs.Float.Ieee.Exact.{HasValue, odd_sign}

-- By the exponent's field and the digits below the leading one. A field of 0 has no leading digit, and counts as a field of 1.
unfoldable pub units_of : ℕ → ℕ → ℕ
units_of zero t = t * 2 ^ 0
units_of (suc x) t = (hid binary64 + t) * 2 ^ x

unfoldable pub units : ℕ → ℕ
unfolding units_of
units n = units_of (n % top binary64 / hid binary64) (n % hid binary64)

abbrev pub negative : ℕ → Bool
negative n = leb (top binary64) n

abbrev pub field : ℕ → ℕ
field n = n % top binary64 / hid binary64

-- fewer than 2 ^ (52 + field) units
pub units_few : (n : ℕ) → units n < 2 ^ (52 + field n)
unfolding units
units_few n = go (field n) (n % hid binary64) (mod-lt n (lit< {m = 0} {n = hid binary64} tt))
  where
    go : (x t : ℕ) → t < hid binary64 → units_of x t < 2 ^ (52 + x)
    go zero t h = omega (arith, mul-one t)
    go (suc x) t h =
        let e : 53 + x ≡ 52 + suc x = omega arith in
        let l : (hid binary64 + t) * 2 ^ x < 2 ^ (53 + x) = shl_lt 53 x (omega arith) in
        rw (← e) l

-- A pattern whose field is not all ones stands for that many units, with the sign that its highest bit says.
pub value : (n : ℕ) → field n < ones binary64 → HasValue (of_bits binary64 n) (negative n) (units n) (2 ^ 1074)
unfolding of_bits units
value n h = go (field n) (n % hid binary64) h
  where
    go : (x t : ℕ) → x < ones binary64 → HasValue (of_fields binary64 (negative n) x t) (negative n) (units_of x t) (2 ^ 1074)
    go zero t h = odd_sign 53 (negative n) t 0 1074
    go (suc x) t h = rw (ne_eqb (suc x) (ones binary64) (λ e. omega arith)) (odd_sign 53 (negative n) (hid binary64 + t) x 1074)

-- A pattern whose field is all ones is an infinity or no number.
pub data Special : Float → Type 0 where
  no_number : Special nan
  infinite : (s : Bool) → Special (inf s)

pub special : (n : ℕ) → field n ≡ ones binary64 → Special (of_bits binary64 n)
unfolding of_bits
special n e = rw e (go (eqb (n % hid binary64) 0))
  where
    go : (b : Bool) → Special (cond b (inf (negative n)) nan)
    go true = infinite (negative n)
    go false = no_number
