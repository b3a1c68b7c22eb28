-- The loop over digits: what it knows after i of them, one byte more, and each way out. Assumes nothing.
use Rattle.std.specs.Prelude.{ℕ, ◌+◌, ◌-◌, ◌*◌, ◌≤◌, ◌<◌, ◌≡◌, List, length, get_or, drop}
use Rattle.std.proofs.Common.{sym, ◌∙◌, arith}
use Rattle.std.proofs.Math.Option.{some, none}
use Rattle.text_model.specs.Scan.{scan, scan_low, scan-high, scan_past, scan-next, scan-end}

-- scanning the bytes that are left, from the number v so far, gives what scanning them all gives
pub record Scanned (s : List ℕ) (most v i : ℕ) : Type 0 where
  pub within : i ≤ length s
  pub small : v ≤ most
  pub left : scan most v (drop i s) ≡ scan most 0 s

module _ (s : List ℕ) (most v i : ℕ) (a : Scanned s most v i) where
  pub scanned-all : length s ≤ i → some v ≡ scan most 0 s
  scanned-all h = sym (scan-end most v s i h) ∙ a.left

  module _ (h : i < length s) where
    pub below-digits : get_or s i 0 < 48 → none ≡ scan most 0 s
    below-digits g = sym (scan_low most v s i h g) ∙ a.left

    pub above-digits : 57 < get_or s i 0 → none ≡ scan most 0 s
    above-digits g = sym (scan-high most v s i h g) ∙ a.left

    -- a digit d
    module _ (g : 48 ≤ get_or s i 0) (k : get_or s i 0 ≤ 57) (d top : ℕ) (e : d ≡ get_or s i 0 - 48) (t : top ≡ most) where
      pub past_most : top < 10 * v + d → none ≡ scan most 0 s
      past_most p = sym (scan_past most v s i h g k (omega arith)) ∙ a.left

      pub scanned-more : 10 * v + d ≤ top → Scanned s most (10 * v + d) (i + 1)
      scanned-more p =
          record { within = omega arith; small = omega arith; left = rw e (sym (scan-next most v s i h g k (omega arith)) ∙ a.left) }
