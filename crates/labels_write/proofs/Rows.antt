-- The table of labels has those of each corner, and a row of it side by side is the three labels of a triangle. Assumes nothing.
use Prim.Native.Nat.{zero, suc}
use borrow.Rule.Slice.PartMut.{put_mid}
use Rattle.std.specs.Prelude.{ℕ, [], ◌∷◌, ◌+◌, ◌*◌, ◌≤◌, ◌<◌, ◌≡◌, refl, List, length, get_or}
use native.Mathlib.Omega.{arith}
use Rattle.labels_write.specs.Writing.{label_of_corner, with_triangle, three_set}
use Rattle.labels_write.specs.declared.TheConstants.{LABELS}

-- a row of the code's table
row_is : (k : ℕ) → k < 3 → get_or LABELS k [] ≡ label_of_corner k 0 ∷ label_of_corner k 1 ∷ label_of_corner k 2 ∷ []
unfolding label_of_corner
row_is zero h = refl
row_is (suc zero) h = refl
row_is (suc (suc zero)) h = refl
row_is (suc (suc (suc k))) h = absurd (omega arith)

-- as the code stores them: w is the length of the range
pub with_triangle_lem : (k k₀ t w : ℕ) (ls ys : List ℕ) → k ≡ k₀ → k₀ < 3 → 3 * t + 3 ≤ length ls → w ≡ 3 → ys ≡ get_or LABELS k []
    → put_mid (3 * t) w ls ys ≡ with_triangle k₀ t ls
unfolding with_triangle
with_triangle_lem k k₀ t w ls ys e small room ew ey =
    let i : 3 * t + 1 ≡ suc (3 * t) = omega arith in
    let j : 3 * t + 2 ≡ suc (suc (3 * t)) = omega arith in
    rw (i, j, ew, ey, e, row_is k₀ small) (three_set (3 * t) _ _ _ ls room)
