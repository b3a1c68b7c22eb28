-- Areas: a fully extended triangle is neither flat nor turned, and positive weights extend all triangles fully. Assumes nothing.
use Prim.Native.Nat.{ℕ, ◌+◌, ◌/◌, ◌≤◌, ◌<◌}
use Rattle.std.specs.Prelude.{◌≡◌, refl, ◌≢◌, Bool, true, false, cond, List, length, ◌+ℤ◌, ◌-ℤ◌, ◌≤ℤ◌, ◌<ℤ◌}
use Rattle.std.proofs.Common.{ap, arith, eq-eqb}
use Rattle.std.proofs.Math.IntN.{ℤ, pos}
use Rattle.definitions.specs.Lists.{total}
use Rattle.definitions.specs.Mesh.{triangles_length, weights_length}
use Rattle.definitions.specs.Forward.{weight, forward}
use Rattle.definitions.specs.Repair.{corner_coordinate, area, bad}
use Rattle.laws.specs.Integers.{int, zpos, z+, z-}
use Rattle.laws.specs.Ring.{lt-le_z, area-positive}
use Rattle.laws.specs.Sums.{sum, sum_gap}
use Rattle.theory_realizer.specs.Units.{Units, bit, vertex_at, same?}
use Rattle.theory_repair.specs.Parts.{is_part, is_part_most}
use Rattle.theory_repair.specs.Coordinates.{term, coordinate-sum, coordinates_total}

-- each coordinate is strictly greatest at the corner with its label
abbrev pub Extended : List ℕ → List ℕ → List ℤ → ℕ → Type 0
Extended ts ls bs t = (c a : ℕ) → c < 3 → a < 3 → a ≢ c → corner_coordinate ts ls bs c t a <ℤ corner_coordinate ts ls bs c t c

-- the coordinates of each corner sum to N
abbrev pub Balanced : List ℕ → List ℕ → List ℤ → ℤ → ℕ → Type 0
Balanced ts ls bs N t = (a : ℕ) → a < 3 → corner_coordinate ts ls bs 0 t a +ℤ corner_coordinate ts ls bs 1 t a +ℤ corner_coordinate ts ls bs 2 t a
    ≡ N

-- where the third coordinate is greater, the sum of the two others is less
less-sum : (x y z x' y' z' N : ℤ) → x +ℤ y +ℤ z ≡ N → x' +ℤ y' +ℤ z' ≡ N → z <ℤ z' → (x' +ℤ y') <ℤ (x +ℤ y)
less-sum x y z x' y' z' N e e' h = omega (int, z+ x y, z+ (x +ℤ y) z, z+ x' y', z+ (x' +ℤ y') z')

module _ (ts ls : List ℕ) (bs : List ℤ) where
  pub area_extended : (N : ℤ) (t : ℕ) → Balanced ts ls bs N t → Extended ts ls bs t → pos 0 <ℤ area ts ls bs t
  unfolding area
  area_extended N t bal ext =
      let v : ℕ → ℕ → ℤ = λ c a. corner_coordinate ts ls bs c t a in
      let X = v 0 1 -ℤ v 0 0 in
      let Y = v 1 2 -ℤ v 1 0 in
      let Z = v 1 1 -ℤ v 1 0 in
      let W = v 0 2 -ℤ v 0 0 in
      let h_x : X <ℤ pos 0 = below (v 0 1) (v 0 0) (ext 0 1 (omega arith) (omega arith) (omega arith)) in
      let h_w : W <ℤ pos 0 = below (v 0 2) (v 0 0) (ext 0 2 (omega arith) (omega arith) (omega arith)) in
      let h_z : pos 0 <ℤ Z = above (v 1 1) (v 1 0) (ext 1 0 (omega arith) (omega arith) (omega arith)) in
      let h_y : Y <ℤ Z = both (v 1 2) (v 1 1) (v 1 0) (ext 1 2 (omega arith) (omega arith) (omega arith)) in
      let p0 : (v 0 2 +ℤ v 1 2) <ℤ (v 0 0 +ℤ v 1 0) =
      less-sum (v 0 0) (v 1 0) (v 2 0) (v 0 2) (v 1 2) (v 2 2) N (bal 0 (omega arith)) (bal 2 (omega arith))
      (ext 2 0 (omega arith) (omega arith) (omega arith)) in
      let p1 : (v 0 2 +ℤ v 1 2) <ℤ (v 0 1 +ℤ v 1 1) =
      less-sum (v 0 1) (v 1 1) (v 2 1) (v 0 2) (v 1 2) (v 2 2) N (bal 1 (omega arith)) (bal 2 (omega arith))
      (ext 2 1 (omega arith) (omega arith) (omega arith)) in
      area-positive X Y Z W h_x h_w h_z h_y (sum_below (v 0 2) (v 0 0) (v 1 2) (v 1 0) p0) (sum_both (v 0 2) (v 0 0) (v 1 2) (v 1 0) (v 0 1) (v 1 1) p1)
    where
      below : (a b : ℤ) → a <ℤ b → (a -ℤ b) <ℤ pos 0
      below a b h = omega (int, zpos 0, z- a b)

      above : (a b : ℤ) → b <ℤ a → pos 0 <ℤ (a -ℤ b)
      above a b h = omega (int, zpos 0, z- a b)

      both : (a b c : ℤ) → a <ℤ b → (a -ℤ c) <ℤ (b -ℤ c)
      both a b c h = omega (int, z- a c, z- b c)

      sum_below : (a b c d : ℤ) → (a +ℤ c) <ℤ (b +ℤ d) → ((a -ℤ b) +ℤ (c -ℤ d)) <ℤ pos 0
      sum_below a b c d h = omega (int, zpos 0, z+ a c, z+ b d, z- a b, z- c d, z+ (a -ℤ b) (c -ℤ d))

      sum_both : (a b c d e f : ℤ) → (a +ℤ c) <ℤ (e +ℤ f) → ((a -ℤ b) +ℤ (c -ℤ d)) <ℤ ((e -ℤ b) +ℤ (f -ℤ d))
      sum_both a b c d e f h =
          omega (int, z+ a c, z+ e f, z- a b, z- c d, z- e b, z- f d, z+ (a -ℤ b) (c -ℤ d), z+ (e -ℤ b) (f -ℤ d))

  -- so it is not bad
  pub extended_good : (N : ℤ) (t : ℕ) → Balanced ts ls bs N t → Extended ts ls bs t → bad ts ls bs t ≡ false
  unfolding bad
  extended_good N t bal ext = lt-le_z (area ts ls bs t) (pos 0) (area_extended N t bal ext)

-- ---- the coordinates of weights

-- the share of one weight in two coordinates
pub share-le : (p q : Bool) (s : ℕ) (x : ℤ) → pos 0 ≤ℤ x → bit p + s ≤ bit q → cond p x (pos 0) ≤ℤ cond q x (pos 0)
share-le true true s x h k = omega (int, zpos 0)
share-le true false s x h k = absurd (omega arith)
share-le false true s x h k = h
share-le false false s x h k = omega (int, zpos 0)

share-own : (p q : Bool) (x : ℤ) → bit p + 1 ≤ bit q → (cond p x (pos 0) +ℤ x) ≤ℤ cond q x (pos 0)
share-own true true x k = absurd (omega arith)
share-own true false x k = absurd (omega arith)
share-own false true x k = omega (int, zpos 0, z+ (pos 0) x)
share-own false false x k = absurd (omega arith)

pub same-one : (t : ℕ) → same? t t ≡ 1
same-one t = ap bit (eq-eqb t t refl)

module _ (n : ℕ) (ts ls : List ℕ) (size : length ts ≡ triangles_length n) (U : Units n ts ls) where
  -- the coordinates of each corner sum to the total of the weights
  pub balanced : (ws : List ℤ) (t : ℕ) → 0 < t → t < length ts / 3 → Balanced ts ls (forward n ts ls ws) (total ws) t
  unfolding corner_coordinate
  balanced ws t h k a l = coordinates_total n ts ls ws (vertex_at ts ls t a) (U.below t a h k l)

  pub good : (ws : List ℤ) (t : ℕ) → 0 < t → t < length ts / 3 → Extended ts ls (forward n ts ls ws) t →
      bad ts ls (forward n ts ls ws) t ≡ false
  good ws t h k ext = extended_good ts ls (forward n ts ls ws) (total ws) t (balanced ws t h k) ext

  module _ (ws : List ℤ) (len : length ws ≡ weights_length n) where
    pub value-sum : (c t a : ℕ) → 0 < t → t < length ts / 3 → c < 3 → a < 3 →
        corner_coordinate ts ls (forward n ts ls ws) c t a ≡ sum (term n ts ls ws c (vertex_at ts ls t a)) 1 (weights_length n)
    unfolding corner_coordinate
    value-sum c t a h k hc ha = coordinate-sum n ts ls size U ws len c (vertex_at ts ls t a) hc (U.below t a h k ha)

    -- Where no weight is negative, each coordinate is greater at the corner with its label than at the two others, by at least the triangle's weight.
    pub margin : ((u : ℕ) → 0 < u → u < length ts / 3 → pos 0 ≤ℤ weight ws u) → (t : ℕ) → 0 < t → t < length ts / 3 → (c a : ℕ) →
        c < 3 → a < 3 → a ≢ c →
        (corner_coordinate ts ls (forward n ts ls ws) c t a +ℤ weight ws t) ≤ℤ corner_coordinate ts ls (forward n ts ls ws) c t c
    margin nonneg t h k c a hc ha d =
        let i = vertex_at ts ls t a in
        let j = vertex_at ts ls t c in
        rw (value-sum c t a h k hc ha, value-sum c t c h k hc hc)
        (sum_gap (term n ts ls ws c i) (term n ts ls ws c j) t (weight ws t) 1 (weights_length n)
        (λ u l m.
        let hu : 0 < u = omega arith in
        let ku : u < length ts / 3 = omega arith in
        share-le (is_part n ts ls c i u) (is_part n ts ls c j u) (same? t u) (weight ws u) (nonneg u hu ku)
        (is_part_most n ts ls U u t hu ku h k c a hc ha d))
        (share-own (is_part n ts ls c i t) (is_part n ts ls c j t) (weight ws t)
        (omega (arith, is_part_most n ts ls U t t h k h k c a hc ha d, same-one t)))
        h (omega arith))

    -- Weights of 1 and more leave no inner triangle bad.
    pub positive_good : ((u : ℕ) → 0 < u → u < length ts / 3 → pos 1 ≤ℤ weight ws u) → (t : ℕ) → 0 < t → t < length ts / 3 →
        bad ts ls (forward n ts ls ws) t ≡ false
    positive_good one t h k =
        good ws t h k
        (λ c a hc ha d.
        let x = corner_coordinate ts ls (forward n ts ls ws) c t a in
        let m = margin (λ u l r. let w = one u l r in omega (int, zpos 0, zpos 1)) t h k c a hc ha d in
        let w = one t h k in
        omega (int, zpos 1, z+ x (weight ws t)))
