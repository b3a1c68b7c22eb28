-- The sum of two signed numbers, the first of which is read from its 64 bits. Assumes nothing.
use Rattle.std.specs.Prelude.{ℕ, ◌+◌, ◌<◌, ◌^◌, ◌≡◌, List, get_or, set, ℤ, pos, nat_abs, ◌+ℤ◌}
use Rattle.std.proofs.Common.{ap, arith, to_z, of_z, to_z-of_z, SFits}
use Rattle.std.specs.Int.{w64}
use Rattle.int64.specs.Whole.{fits_abs, fits_plus}

module _ (a x : ℤ) (room : nat_abs a + nat_abs x < 2 ^ 63) where
  pub term_held : to_z w64 (of_z w64 a) ≡ a
  term_held = to_z-of_z (fits_abs a (omega arith))

  pub sum_fits : SFits w64 (to_z w64 (of_z w64 a) +ℤ x)
  sum_fits = rw term_held (fits_plus a x room)

  pub sum_held : to_z w64 (of_z w64 (to_z w64 (of_z w64 a) +ℤ x)) ≡ a +ℤ x
  sum_held = rw (term_held, to_z-of_z (fits_plus a x room))

pub stored_sum : (bs : List ℤ) (i : ℕ) (x : ℤ) → nat_abs (get_or bs i (pos 0)) + nat_abs x < 2 ^ 63 →
    set bs i (to_z w64 (of_z w64 (to_z w64 (of_z w64 (get_or bs i (pos 0))) +ℤ x))) ≡ set bs i (get_or bs i (pos 0) +ℤ x)
stored_sum bs i x room = ap (set bs i) (sum_held (get_or bs i (pos 0)) x room)
