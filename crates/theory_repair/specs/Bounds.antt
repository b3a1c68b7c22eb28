-- What accepted weights are mapped to passes rows 10, 11 and 12: no coordinate is further from 0 than the weights together, the outer vertices stand at
-- their corners, and the coordinates of each vertex come to N. Assumes nothing.
use Prim.Native.Nat.{ℕ, zero, suc, ◌+◌, ◌*◌, ◌/◌, ◌%◌, ◌≤◌, ◌<◌}
use Rattle.std.specs.Prelude.{◌≡◌, Bool, ◌&&◌, cond, List, map, length, get_or, ℤ, ◌+ℤ◌}
use Rattle.std.proofs.Math.Path.{refl, ap, sym}
use Rattle.std.proofs.Common.{ap₂, ◌∙◌}
use Rattle.std.proofs.Math.Bool.{true, false, not}
use native.Mathlib.Omega.{arith}
use Rattle.std.proofs.Math.Dec.{ltb}
use Rattle.std.proofs.Math.IntN.{pos, nat_abs}
use Rattle.std.specs.Int.Signed.{≤ℤ_refl}
use borrow.Author.Tests.{ltb-false, le-ltb}
use Rattle.definitions.specs.Lists.{range, total, total_abs}
use Rattle.definitions.specs.Mesh.{triangles_length, weights_length, org}
use Rattle.definitions.specs.Labels.{outer}
use Rattle.definitions.specs.Forward.{weight, forward}
use Rattle.definitions.specs.Backward.{coordinate}
use Rattle.definitions.specs.Repair.{limit}
use Rattle.definitions.specs.Refusals.{row9, row10, row11, row12, eq_z, has_coordinates}
use Rattle.laws.specs.Lists.{◌∈◌, in_get_or, false-any, none-upto}
use Rattle.laws.specs.Ring.{le-le_z}
use Rattle.laws.specs.Sums.{sum_same, sum_zero, total_abs_lem, total_abs-le}
use Rattle.theory_realizer.specs.Units.{Units, bit, unit0, unit1}
use Rattle.theory_repair.specs.Parts.{is_part}
use Rattle.theory_repair.specs.Coordinates.{term, weights-range, total-sum, coordinate-sum, coordinates_total, length-forward}

-- a part of a weight, the tests of row 11, and bits
part-less : (b : Bool) (x : ℤ) → nat_abs (cond b x (pos 0)) ≤ nat_abs x
part-less true x = omega arith
part-less false x = omega arith

eq_z-refl : (a b : ℤ) → a ≡ b → eq_z a b ≡ true
unfolding eq_z
eq_z-refl a b e = rw e (rw (le-le_z b b (≤ℤ_refl b)))

has_coordinates-yes : (bs : List ℤ) (i : ℕ) (x y z : ℤ) → coordinate bs 0 i ≡ x → coordinate bs 1 i ≡ y → coordinate bs 2 i ≡ z →
    has_coordinates bs i x y z ≡ true
unfolding has_coordinates
has_coordinates-yes bs i x y z a b c = rw (eq_z-refl (coordinate bs 0 i) x a, eq_z-refl (coordinate bs 1 i) y b, eq_z-refl (coordinate bs 2 i) z c)

bit-same : (a b : Bool) → bit a ≡ bit b → a ≡ b
bit-same true true e = refl
bit-same true false e = absurd (omega arith)
bit-same false true e = absurd (omega arith)
bit-same false false e = refl

module _ (n : ℕ) (ts ls : List ℕ) (size : length ts ≡ triangles_length n) (U : Units n ts ls) (ws : List ℤ) (len : length ws ≡ weights_length n) where
  -- No coordinate is further from 0 than the weights' absolute values together.
  pub coordinate_bound : (c i : ℕ) → c < 3 → i < n → nat_abs (coordinate (forward n ts ls ws) c i) ≤ total_abs ws
  coordinate_bound c i h k =
      let f = term n ts ls ws c i in
      let us = range 1 (weights_length n) in
      let e : map (weight ws) us ≡ ws = ap (λ (j : ℕ). map (weight ws) (range 1 j)) (sym len) ∙ weights-range ws in
      omega (
        arith,
        ap nat_abs (coordinate-sum n ts ls size U ws len c i h k),
        total_abs_lem (map f us),
        total_abs-le f (weight ws) (λ u. part-less (is_part n ts ls c i u) (weight ws u)) us,
        ap total_abs e,
      )

  pub forward_bound : (b : ℤ) → b ∈ forward n ts ls ws → nat_abs b ≤ total_abs ws
  unfolding coordinate
  forward_bound b m =
      let r = in_get_or (pos 0) m in
      let j = r.0 in
      let at : 3 * (j / 3) + j % 3 ≡ j = omega arith in
      let h = coordinate_bound (j % 3) (j / 3) (omega arith) (omega (arith, r.1, length-forward n ts ls ws)) in
      let h' : nat_abs (get_or (forward n ts ls ws) j (pos 0)) ≤ total_abs ws = rw at at h in
      omega (arith, ap nat_abs r.2)

  -- where the weight of every triangle is part of a coordinate, or that of none is
  coordinate-whole : (c i : ℕ) → c < 3 → i < n → (b : Bool) → ((u : ℕ) → 0 < u → u < length ts / 3 → is_part n ts ls c i u ≡ b) →
      coordinate (forward n ts ls ws) c i ≡ cond b (total ws) (pos 0)
  coordinate-whole c i h k true every =
      coordinate-sum n ts ls size U ws len c i h k
      ∙ sum_same (term n ts ls ws c i) (weight ws) 1 (weights_length n)
      (λ u l m. ap (λ (b : Bool). cond b (weight ws u) (pos 0)) (every u (omega arith) (omega arith)))
      ∙ sym (total-sum n ts ls size U ws len)
  coordinate-whole c i h k false every =
      coordinate-sum n ts ls size U ws len c i h k
      ∙ sum_zero (term n ts ls ws c i) 1 (weights_length n)
      (λ u l m. ap (λ (b : Bool). cond b (weight ws u) (pos 0)) (every u (omega arith) (omega arith)))

  -- a vertex at a corner of the whole drawing
  corner-at : (i : ℕ) → i < n → (a b : Bool) → ((u : ℕ) → 0 < u → u < length ts / 3 → (unit0 n ts ls u i ≡ bit a)
      × (unit1 n ts ls u i ≡ bit b)) →
      (coordinate (forward n ts ls ws) 0 i ≡ cond a (total ws) (pos 0))
      × (coordinate (forward n ts ls ws) 1 i ≡ cond b (total ws) (pos 0))
      × (coordinate (forward n ts ls ws) 2 i ≡ cond (not a && not b) (total ws) (pos 0))
  corner-at i h a b every = (
    coordinate-whole 0 i (omega arith) h a (λ u l m. bit-same (is_part n ts ls 0 i u) a (every u l m).0),
    coordinate-whole 1 i (omega arith) h b (λ u l m. bit-same (is_part n ts ls 1 i u) b (every u l m).1),
    coordinate-whole 2 i (omega arith) h (not a && not b)
        (λ u l m. ap₂ (λ (x y : Bool). not x && not y) (bit-same (is_part n ts ls 0 i u) a (every u l m).0)
        (bit-same (is_part n ts ls 1 i u) b (every u l m).1)),
  )

  -- 10 finds nothing
  pub row10-forward : row9 ws ≡ false → row10 (forward n ts ls ws) ≡ false
  unfolding row9 row10
  row10-forward light =
      false-any (λ b. ltb limit (nat_abs b)) (forward n ts ls ws)
      (λ b m. le-ltb limit (nat_abs b) (omega (arith, forward_bound b m, ltb-false limit (total_abs ws) light)))

  -- the outer vertices are vertices
  module _ (seen : (d : ℕ) → d < 3 → org ts d < n) where
    outer_below : (c : ℕ) → outer ts c < n
    unfolding outer
    outer_below zero = seen 0 (omega arith)
    outer_below (suc zero) = seen 2 (omega arith)
    outer_below (suc (suc c)) = seen 1 (omega arith)

    -- N, which is b0 of v0, is the total of the weights
    pub outer-total : coordinate (forward n ts ls ws) 0 (outer ts 0) ≡ total ws
    outer-total = (corner-at (outer ts 0) (outer_below 0) true false U.rim0).0

    -- 11 finds nothing: each outer vertex has N in its own coordinate and 0 in the two others
    pub row11-forward : row11 ts (forward n ts ls ws) ≡ false
    unfolding row11
    row11-forward =
        let bs = forward n ts ls ws in
        let N = coordinate bs 0 (outer ts 0) in
        let o = pos 0 in
        let e : total ws ≡ N = sym outer-total in
        let v0 = corner-at (outer ts 0) (outer_below 0) true false U.rim0 in
        let v1 = corner-at (outer ts 1) (outer_below 1) false true U.rim1 in
        let v2 = corner-at (outer ts 2) (outer_below 2) false false U.rim2 in
        let s0 : has_coordinates bs (outer ts 0) N o o ≡ true = has_coordinates-yes bs (outer ts 0) N o o refl v0.1 v0.2 in
        let s1 : has_coordinates bs (outer ts 1) o N o ≡ true = has_coordinates-yes bs (outer ts 1) o N o v1.0 (v1.1 ∙ e) v1.2 in
        let s2 : has_coordinates bs (outer ts 2) o o N ≡ true = has_coordinates-yes bs (outer ts 2) o o N v2.0 v2.1 (v2.2 ∙ e) in
        rw (s0, s1, s2)

    -- 12 finds nothing: the coordinates of each vertex come to N
    pub row12-forward : row12 n ts (forward n ts ls ws) ≡ false
    unfolding row12
    row12-forward =
        let bs = forward n ts ls ws in
        let N = coordinate bs 0 (outer ts 0) in
        none-upto (λ i. not (eq_z (coordinate bs 0 i +ℤ coordinate bs 1 i +ℤ coordinate bs 2 i) N)) n
        (λ i h. ap not (eq_z-refl (coordinate bs 0 i +ℤ coordinate bs 1 i +ℤ coordinate bs 2 i) N (coordinates_total n ts ls ws i h ∙ sym outer-total)))
