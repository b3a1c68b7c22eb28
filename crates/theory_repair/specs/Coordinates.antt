-- Coordinates as sums: each coordinate of each vertex is the sum of the weights that are part of it. Assumes nothing.
use Rattle.std.specs.Prelude.{ℕ, zero, suc, ◌+◌, ◌*◌, ◌-◌, ◌/◌, ◌≤◌, ◌<◌, ◌≡◌, Bool, true, false, cond, length, ℤ, pos, ◌+ℤ◌, ◌-ℤ◌, ◌*ℤ◌}
use Rattle.std.proofs.Math.Path.{refl, ap}
use Rattle.std.proofs.Common.{sym, ◌∙◌, arith}
use mathlib.Core.List.{List, map}
use Rattle.std.proofs.Math.ListN.{get_or}
use Rattle.std.proofs.Math.IntN.{*ℤ-zero, *ℤ-one, one}
use Rattle.definitions.specs.Lists.{range, upto, total}
use Rattle.definitions.specs.Mesh.{triangles_length, weights_length, coordinates_length, inner}
use Rattle.definitions.specs.Forward.{weight, crossed_weight, coordinates_of, forward}
use Rattle.definitions.specs.Backward.{coordinate}
use Rattle.laws.specs.Integers.{int, z+, z-, zpos}
use Rattle.laws.specs.Lists.{◌∈◌, get_or_in, range_in, in_range, length-upto, get_or-upto, length-flat_map, get_or-flat_map}
use Rattle.laws.specs.Sums.{sum, sum_same, sum-plus, map-get_or-suc}
use Rattle.theory_realizer.specs.Units.{Units, bit}
use Rattle.theory_repair.specs.Parts.{is_part, unit, unit-is_part, one-is_part}

-- ---- lists

-- the inner triangles are 1, .., 2n - 5
pub inner-range : (n : ℕ) (ts : List ℕ) → length ts ≡ triangles_length n → inner ts ≡ range 1 (weights_length n)
unfolding inner
inner-range n ts size =
    let e : length ts / 3 - 1 ≡ 2 * n - 5 = omega arith in
    ap (λ (k : ℕ). range 1 k) e

module _ (n : ℕ) (ts : List ℕ) (least : 3 ≤ n) (size : length ts ≡ triangles_length n) where
  pub inner_in : {t : ℕ} → t ∈ inner ts → (0 < t) × (t < length ts / 3)
  inner_in {t} m = let r = range_in 1 (weights_length n) (rw (inner-range n ts size) at m) in omega arith

  pub in_inner : (t : ℕ) → 0 < t → t < length ts / 3 → t ∈ inner ts
  in_inner t h k = rw (inner-range n ts size) (in_range 1 (weights_length n) t h (omega arith))

-- what a list of weights says, triangle by triangle
pub weights-range : (ws : List ℤ) → map (weight ws) (range 1 (length ws)) ≡ ws
unfolding weight
weights-range ws = map-get_or-suc (pos 0) ws (pos 0)

-- the weight of an inner triangle is one of the weights
pub weight_in_lem : (ws : List ℤ) (t : ℕ) → 0 < t → t ≤ length ws → weight ws t ∈ ws
unfolding weight
weight_in_lem ws zero h k = absurd (omega arith)
weight_in_lem ws (suc t) h k = get_or_in ws t (pos 0) (omega arith)

module _ (n : ℕ) (ts ls : List ℕ) (ws : List ℤ) where
  -- three coordinates to a vertex, 3n in all
  coordinates_of-three : (i : ℕ) → length (coordinates_of n ts ls ws i) ≡ 3
  unfolding coordinates_of
  coordinates_of-three i = refl

  pub length-forward : length (forward n ts ls ws) ≡ coordinates_length n
  unfolding forward
  length-forward = length-flat_map (coordinates_of n ts ls ws) 3 coordinates_of-three (upto n) ∙ ap (λ (k : ℕ). 3 * k) (length-upto n)

  pub coordinate-coordinates_of : (c i : ℕ) → c < 3 → i < n → coordinate (forward n ts ls ws) c i ≡ get_or (coordinates_of n ts ls ws i) c (pos 0)
  unfolding forward coordinate
  coordinate-coordinates_of c i h k =
      get_or-flat_map (coordinates_of n ts ls ws) 3 coordinates_of-three (upto n) i c 0 (pos 0) (omega (arith, length-upto n)) h
      ∙ ap (λ (j : ℕ). get_or (coordinates_of n ts ls ws j) c (pos 0)) (get_or-upto n i 0 k)

  -- the three coordinates, as the definition has them
  pub place0 : (i : ℕ) → get_or (coordinates_of n ts ls ws i) 0 (pos 0) ≡ crossed_weight n ts ls ws 1 i
  unfolding coordinates_of
  place0 i = refl

  pub place1 : (i : ℕ) → get_or (coordinates_of n ts ls ws i) 1 (pos 0) ≡ crossed_weight n ts ls ws 0 i
  unfolding coordinates_of
  place1 i = refl

  pub place2 : (i : ℕ) → get_or (coordinates_of n ts ls ws i) 2 (pos 0) ≡ total ws -ℤ crossed_weight n ts ls ws 1 i -ℤ crossed_weight n ts ls ws 0 i
  unfolding coordinates_of
  place2 i = refl

  -- b0, b1 and b2 of a vertex come to N, the total of the weights
  pub coordinates_total : (i : ℕ) → i < n →
      coordinate (forward n ts ls ws) 0 i +ℤ coordinate (forward n ts ls ws) 1 i +ℤ coordinate (forward n ts ls ws) 2 i ≡ total ws
  coordinates_total i h =
      let N = total ws in
      let a = crossed_weight n ts ls ws 1 i in
      let b = crossed_weight n ts ls ws 0 i in
      let e : a +ℤ b +ℤ (N -ℤ a -ℤ b) ≡ N = omega (int, z+ a b, z- N a, z- (N -ℤ a) b, z+ (a +ℤ b) (N -ℤ a -ℤ b)) in
      rw (
        coordinate-coordinates_of 0 i (omega arith) h,
        coordinate-coordinates_of 1 i (omega arith) h,
        coordinate-coordinates_of 2 i (omega arith) h,
        place0 i,
        place1 i,
        place2 i,
      ) e

-- ---- sums

-- what triangle u puts into coordinate c of vertex i
abbrev pub term : ℕ → List ℕ → List ℕ → List ℤ → ℕ → ℕ → ℕ → ℤ
term n ts ls ws c i u = cond (is_part n ts ls c i u) (weight ws u) (pos 0)

-- a number that goes to one of three
shared : (a b c : Bool) (x : ℤ) → bit a + bit b + bit c ≡ 1 → x ≡ cond a x (pos 0) +ℤ cond b x (pos 0) +ℤ cond c x (pos 0)
shared true true c x e = absurd (omega arith)
shared true false true x e = absurd (omega arith)
shared false true true x e = absurd (omega arith)
shared false false false x e = absurd (omega arith)
shared true false false x e = omega (int, zpos 0, z+ x (pos 0), z+ (x +ℤ pos 0) (pos 0))
shared false true false x e = omega (int, zpos 0, z+ (pos 0) x, z+ (pos 0 +ℤ x) (pos 0))
shared false false true x e = omega (int, zpos 0, z+ (pos 0 +ℤ pos 0) x)

-- as a factor 0 or 1
scaled : (b : Bool) (x : ℤ) → cond b x (pos 0) ≡ x *ℤ pos (bit b)
unfolding one
scaled true x = sym (*ℤ-one x)
scaled false x = sym (*ℤ-zero x)

module _ (n : ℕ) (ts ls : List ℕ) (size : length ts ≡ triangles_length n) (U : Units n ts ls) (ws : List ℤ) (len : length ws ≡ weights_length n) where
  -- N and the two sums of crossed weights, over the inner triangles by number
  pub total-sum : total ws ≡ sum (weight ws) 1 (weights_length n)
  total-sum = ap total (sym (weights-range ws) ∙ ap (λ (k : ℕ). map (weight ws) (range 1 k)) len)

  swept0 : (i : ℕ) → crossed_weight n ts ls ws 1 i ≡ sum (term n ts ls ws 0 i) 1 (weights_length n)
  unfolding crossed_weight
  swept0 i = ap (λ (us : List ℕ). total (map (term n ts ls ws 0 i) us)) (inner-range n ts size)

  swept1 : (i : ℕ) → crossed_weight n ts ls ws 0 i ≡ sum (term n ts ls ws 1 i) 1 (weights_length n)
  unfolding crossed_weight
  swept1 i = ap (λ (us : List ℕ). total (map (term n ts ls ws 1 i) us)) (inner-range n ts size)

  -- the weights go to one coordinate each
  weights_shared : (i : ℕ) → i < n → sum (weight ws) 1 (weights_length n)
      ≡ sum (term n ts ls ws 0 i) 1 (weights_length n) +ℤ sum (term n ts ls ws 1 i) 1 (weights_length n) +ℤ sum (term n ts ls ws 2 i) 1 (weights_length n)
  weights_shared i h =
      let k = weights_length n in
      let f = term n ts ls ws 0 i in
      let g = term n ts ls ws 1 i in
      let r = term n ts ls ws 2 i in
      sum_same (weight ws) (λ u. f u +ℤ g u +ℤ r u) 1 k
      (λ u l m. shared (is_part n ts ls 0 i u) (is_part n ts ls 1 i u) (is_part n ts ls 2 i u) (weight ws u)
      (one-is_part n ts ls U u i (omega arith) (omega arith) h))
      ∙ sum-plus (λ u. f u +ℤ g u) r 1 k
      ∙ ap (λ (x : ℤ). x +ℤ sum r 1 k) (sum-plus f g 1 k)

  -- Each coordinate of each vertex is the sum of the weights that are part of it.
  pub coordinate-sum : (c i : ℕ) → c < 3 → i < n → coordinate (forward n ts ls ws) c i ≡ sum (term n ts ls ws c i) 1 (weights_length n)
  coordinate-sum zero i h k = coordinate-coordinates_of n ts ls ws 0 i h k ∙ place0 n ts ls ws i ∙ swept0 i
  coordinate-sum (suc zero) i h k = coordinate-coordinates_of n ts ls ws 1 i h k ∙ place1 n ts ls ws i ∙ swept1 i
  coordinate-sum (suc (suc zero)) i h k =
      let N = total ws in
      let S = sum (weight ws) 1 (weights_length n) in
      let a = crossed_weight n ts ls ws 1 i in
      let b = crossed_weight n ts ls ws 0 i in
      let f = sum (term n ts ls ws 0 i) 1 (weights_length n) in
      let g = sum (term n ts ls ws 1 i) 1 (weights_length n) in
      let r = sum (term n ts ls ws 2 i) 1 (weights_length n) in
      let ea : a ≡ f = swept0 i in
      let eb : b ≡ g = swept1 i in
      let e_n : N ≡ S = total-sum in
      let e_s : S ≡ f +ℤ g +ℤ r = weights_shared i k in
      let e : N -ℤ a -ℤ b ≡ r = omega (int, z- N a, z- (N -ℤ a) b, z+ f g, z+ (f +ℤ g) r) in
      coordinate-coordinates_of n ts ls ws 2 i h k ∙ place2 n ts ls ws i ∙ e
  coordinate-sum (suc (suc (suc c))) i h k = absurd (omega arith)

  -- The same with factors: the sum, over the inner triangles u, of the weight of u times the coordinate that the weights 1 on u give.
  pub coordinate-units : (c i : ℕ) → c < 3 → i < n →
      coordinate (forward n ts ls ws) c i ≡ total (map (λ u. weight ws u *ℤ pos (unit n ts ls c u i)) (inner ts))
  coordinate-units c i h k =
      let g : ℕ → ℤ = λ u. weight ws u *ℤ pos (unit n ts ls c u i) in
      coordinate-sum c i h k
      ∙ sum_same (term n ts ls ws c i) g 1 (weights_length n)
      (λ u l m. scaled (is_part n ts ls c i u) (weight ws u) ∙ ap (λ (j : ℕ). weight ws u *ℤ pos j) (sym (unit-is_part n ts ls c u i)))
      ∙ ap (λ (us : List ℕ). total (map g us)) (sym (inner-range n ts size))
