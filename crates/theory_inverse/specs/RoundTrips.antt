-- Forward and backward undo each other, for whatever signed weights, and for coordinates that rows 11 and 12 let through. Assumes nothing.
use Prim.Native.Nat.{ℕ, zero, suc, ◌+◌, ◌-◌, ◌*◌, ◌/◌, ◌%◌, ◌<◌}
use Rattle.std.specs.Prelude.{◌≡◌, false, pos, ◌+ℤ◌, ◌-ℤ◌}
use Rattle.std.proofs.Math.Path.{sym, ap}
use Rattle.std.proofs.Common.{◌∙◌, ext_get_or}
use mathlib.Core.List.{List, map}
use native.Mathlib.Omega.{arith}
use Rattle.std.proofs.Math.ListN.{length, get_or, length-map}
use Rattle.std.proofs.Math.IntN.{ℤ}
use Rattle.definitions.specs.Lists.{range, total}
use Rattle.definitions.specs.Mesh.{tri, next, prev, org, opp, weights_length, coordinates_length}
use Rattle.definitions.specs.Labels.{outer, label}
use Rattle.definitions.specs.Forward.{weight, crossed_weight, forward}
use Rattle.definitions.specs.Backward.{coordinate, slope, weight_at, backward}
use Rattle.definitions.specs.Refusals.{row11, row12}
use Rattle.laws.specs.Integers.{int, z+, z-}
use Rattle.laws.specs.Lists.{length-range}
use Rattle.laws.specs.Multiples.{map-range-same, get_or-map-range}
use Rattle.theory_sphere.specs.Sphere.{Sphere}
use Rattle.theory_sphere.specs.Darts.{next-below, prev-below}
use Rattle.theory_realizer.specs.Realizer.{Realizer}
use Rattle.theory_crossings.specs.Colours.{apex, tip-below, org-below, from_v1_to_v0}
use Rattle.theory_crossings.specs.Tests.{named, Towards}
use Rattle.theory_repair.specs.Coordinates.{inner-range, weights-range, length-forward, coordinate-coordinates_of, place0, place1, place2}
use Rattle.theory_inverse.specs.Drawings.{Drawing, unique, unique_last}
use Rattle.theory_inverse.specs.Rows.{Cornered, cornered, summing}
use Rattle.theory_inverse.specs.Slopes.{less_none, slope_by, difference_is, slope-any, slope-by, rim_slopes}
use Rattle.theory_inverse.specs.Maps.{less-plus, less_plus2, weight_at_is, backward_drawing, through, reached, forward_drawing, through-last}
use Rattle.theory_inverse.specs.Maps.{crossed_weight-reached}

module _ {n : ℕ} (ts ls : List ℕ) (sph : Sphere n (length ts / 3) (org ts) (opp ts)) (whole : length ts ≡ 3 * (length ts / 3))
    (R : Realizer n (length ts / 3) (org ts) (opp ts) (label ls) (outer ts)) (ws : List ℤ) where
  -- b0 and b1 of a vertex
  coordinates_are : (i : ℕ) → i < n →
      (coordinate (forward n ts ls ws) 0 i ≡ reached ts ls sph whole R ws 1 i) × (coordinate (forward n ts ls ws) 1 i ≡ reached ts ls sph whole R ws 0 i)
  coordinates_are i h =
      let s = crossed_weight-reached ts ls sph whole R ws i h in (
        coordinate-coordinates_of n ts ls ws 0 i (omega arith) h ∙ place0 n ts ls ws i ∙ s.0,
        coordinate-coordinates_of n ts ls ws 1 i (omega arith) h
            ∙ place1 n ts ls ws i ∙ s.1,
      )

  drawn : Drawing (length ts / 3) (org ts) (opp ts) (label ls) (outer ts) (weight ws) (through ts ls sph whole R ws)
      (reached ts ls sph whole R ws 1) (reached ts ls sph whole R ws 0)
  drawn = forward_drawing ts ls sph whole R ws

  slope-one : (c d : ℕ) → c < 3 → Towards ts ls c d → slope_by ts ls (forward n ts ls ws) c d ≡ through ts ls sph whole R ws d
  unfolding slope_by
  slope-one zero d l p =
      let b : ℕ → ℤ = reached ts ls sph whole R ws 0 in
      let o = (coordinates_are (org ts d) (org-below sph R (named ts) p)).1 in
      let t = (coordinates_are (org ts (next d)) (tip-below sph R (named ts) p)).1 in
      difference_is ts ls (forward n ts ls ws) 1 d ∙ rw (
        o,
        t,
      ) (less-plus (b (org ts d)) (b (org ts (next d))) (through ts ls sph whole R ws d) (drawn.down0 d p))
  slope-one (suc zero) d l p =
      let b : ℕ → ℤ = reached ts ls sph whole R ws 1 in
      let o = (coordinates_are (org ts d) (org-below sph R (named ts) p)).0 in
      let t = (coordinates_are (org ts (next d)) (tip-below sph R (named ts) p)).0 in
      difference_is ts ls (forward n ts ls ws) 0 d ∙ rw (
        o,
        t,
      ) (less-plus (b (org ts d)) (b (org ts (next d))) (through ts ls sph whole R ws d) (drawn.down1 d p))
  slope-one (suc (suc zero)) d l p = sym (drawn.two d p)
  slope-one (suc (suc (suc c))) d l p = absurd (omega arith)

  -- The slope of a side is the sum of the weights whose walks cross it.
  pub slope-through : (d : ℕ) → d < 3 * (length ts / 3) → slope ts ls (forward n ts ls ws) d ≡ through ts ls sph whole R ws d
  slope-through d h =
      slope-any ts ls sph R (forward n ts ls ws) d h (through ts ls sph whole R ws d)
      (λ c l p. slope-one c d l p) (λ c l p. slope-one c (opp ts d) l p ∙ drawn.side d h)

  -- The backward map finds each weight.
  pub weight-back : (t : ℕ) → 0 < t → t < length ts / 3 → weight_at ts ls (forward n ts ls ws) t ≡ weight ws t
  weight-back t z h =
      let bs = forward n ts ls ws in
      let a = apex sph R (named ts) t z h in
      let g = a.0 in
      let k = a.2.below in
      let e1 = slope-through (next g) (next-below (length ts / 3) g k) in
      let e2 = slope-through g k in
      let e3 = slope-through (prev g) (prev-below (length ts / 3) g k) in
      let x = through ts ls sph whole R ws in
      let e : weight_at ts ls bs (tri g) ≡ weight ws (tri g) =
      weight_at_is ts ls sph whole R bs g a.2 ∙ rw (e1, e2, e3) (less_plus2 (x (next g)) (x g) (x (prev g)) (weight ws (tri g)) (drawn.flow g a.2)) in
      rw a.1 at e

backward_is : (n : ℕ) (ts ls : List ℕ) (bs : List ℤ) → length ts ≡ 3 * (2 * n - 4) →
    backward ts ls bs ≡ map (weight_at ts ls bs) (range 1 (weights_length n))
unfolding backward
backward_is n ts ls bs size = ap (map (weight_at ts ls bs)) (inner-range n ts size)

-- Forward, then backward: the weights come back, all of them, whatever they are.
pub forward-backward : {n : ℕ} (ts ls : List ℕ) → Sphere n (length ts / 3) (org ts) (opp ts) → length ts ≡ 3 * (2 * n - 4) →
    Realizer n (length ts / 3) (org ts) (opp ts) (label ls) (outer ts) →
    (ws : List ℤ) → length ws ≡ weights_length n → backward ts ls (forward n ts ls ws) ≡ ws
forward-backward {n} ts ls sph size R ws len =
    let whole : length ts ≡ 3 * (length ts / 3) = omega arith in
    let bs = forward n ts ls ws in
    backward_is n ts ls bs size
    ∙ map-range-same (weight_at ts ls bs) (weight ws) 1 (weights_length n) (λ u i j. weight-back ts ls sph whole R ws u i (omega arith))
    ∙ ap (λ (k : ℕ). map (weight ws) (range 1 k)) (sym len) ∙ weights-range ws

module _ {n : ℕ} (ts ls : List ℕ) (sph : Sphere n (length ts / 3) (org ts) (opp ts)) (size : length ts ≡ 3 * (2 * n - 4))
    (R : Realizer n (length ts / 3) (org ts) (opp ts) (label ls) (outer ts)) (bs : List ℤ) (off : row11 ts bs ≡ false)
    (sum : row12 n ts bs ≡ false) where
  whole : length ts ≡ 3 * (length ts / 3)
  whole = omega arith

  K : Cornered ts bs
  K = cornered ts bs off

  -- the weights that the backward map gives, triangle by triangle
  ws : List ℤ
  ws = backward ts ls bs

  ws_length : length ws ≡ length ts / 3 - 1
  unfolding ws
  ws_length =
      ap length (backward_is n ts ls bs size) ∙ length-map (range 1 (weights_length n)) (weight_at ts ls bs) ∙ length-range 1 (weights_length n)
      ∙ omega arith

  weight_is : (t : ℕ) → 0 < t → t < length ts / 3 → weight_at ts ls bs t ≡ weight ws t
  unfolding ws weight
  weight_is zero z h = absurd (omega arith)
  weight_is (suc t) z h =
      let e : 1 + t ≡ suc t = omega arith in
      let at = get_or-map-range (weight_at ts ls bs) 1 (weights_length n) t (pos 0) (omega arith) in
      sym (ap (λ (xs : List ℤ). get_or xs t (pos 0)) (backward_is n ts ls bs size) ∙ at ∙ ap (weight_at ts ls bs) e)

  -- b0, b1 and N
  same_drawing : (i : ℕ) → i < n →
      (coordinate bs 0 i ≡ reached ts ls sph whole R ws 1 i) × (coordinate bs 1 i ≡ reached ts ls sph whole R ws 0 i)
  same_drawing = unique sph R (named ts) (backward_drawing ts ls sph whole R bs K) (forward_drawing ts ls sph whole R ws) weight_is

  N_is : total ws ≡ coordinate bs 0 (outer ts 0)
  unfolding slope_by next outer
  N_is =
      ap total (sym (weights-range ws) ∙ ap (λ (k : ℕ). map (weight ws) (range 1 k)) ws_length)
      ∙ sym (through-last ts ls sph whole R ws)
      ∙ sym (unique_last sph R (named ts) (backward_drawing ts ls sph whole R bs K) (forward_drawing ts ls sph whole R ws) weight_is)
      ∙ slope-by ts ls sph R bs K 0 2 (omega arith) (from_v1_to_v0 sph R (named ts))
      ∙ difference_is ts ls bs 1 2
      ∙ less_none K.v1.1 K.v0

  -- each coordinate
  coordinate-back : (c i : ℕ) → c < 3 → i < n → coordinate (forward n ts ls ws) c i ≡ coordinate bs c i
  coordinate-back zero i l h = (coordinates_are ts ls sph whole R ws i h).0 ∙ sym (same_drawing i h).0
  coordinate-back (suc zero) i l h = (coordinates_are ts ls sph whole R ws i h).1 ∙ sym (same_drawing i h).1
  coordinate-back (suc (suc zero)) i l h =
      let b0 = coordinate bs 0 i in
      let b1 = coordinate bs 1 i in
      let b2 = coordinate bs 2 i in
      let N = coordinate bs 0 (outer ts 0) in
      let s = crossed_weight-reached ts ls sph whole R ws i h in
      let e0 : crossed_weight n ts ls ws 1 i ≡ b0 = s.0 ∙ sym (same_drawing i h).0 in
      let e1 : crossed_weight n ts ls ws 0 i ≡ b1 = s.1 ∙ sym (same_drawing i h).1 in
      let e : b0 +ℤ b1 +ℤ b2 ≡ N = summing n ts bs sum i h in
      let f : N -ℤ b0 -ℤ b1 ≡ b2 = omega (int, z+ b0 b1, z+ (b0 +ℤ b1) b2, z- N b0, z- (N -ℤ b0) b1) in
      coordinate-coordinates_of n ts ls ws 2 i (omega arith) h ∙ place2 n ts ls ws i ∙ rw (N_is, e0, e1) f
  coordinate-back (suc (suc (suc c))) i l h = absurd (omega arith)

-- Backward, then forward: coordinates that rows 11 and 12 let through come back.
pub backward-forward : {n : ℕ} (ts ls : List ℕ) → Sphere n (length ts / 3) (org ts) (opp ts) → length ts ≡ 3 * (2 * n - 4) →
    Realizer n (length ts / 3) (org ts) (opp ts) (label ls) (outer ts) →
    (bs : List ℤ) → length bs ≡ coordinates_length n → row11 ts bs ≡ false → row12 n ts bs ≡ false → forward n ts ls (backward ts ls bs) ≡ bs
unfolding coordinate ws
backward-forward {n} ts ls sph size R bs len off sum =
    let cs = forward n ts ls (backward ts ls bs) in
    ext_get_or (pos 0) cs bs (length-forward n ts ls (backward ts ls bs) ∙ sym len)
    (λ j h.
    let at : 3 * (j / 3) + j % 3 ≡ j = omega arith in
    let e = coordinate-back ts ls sph size R bs off sum (j % 3) (j / 3) (omega arith) (omega (arith, length-forward n ts ls (backward ts ls bs))) in
    rw at at e)

-- Either colour of a side of the outer triangle gives the same slope, where row 11 finds nothing (12 is not needed).
pub rim_colours : {n : ℕ} (ts ls : List ℕ) → Sphere n (length ts / 3) (org ts) (opp ts) →
    Realizer n (length ts / 3) (org ts) (opp ts) (label ls) (outer ts) → (bs : List ℤ) → row11 ts bs ≡ false →
    (c e d : ℕ) → c < 3 → e < 3 → Towards ts ls c d → Towards ts ls e (opp ts d) → slope_by ts ls bs c d ≡ slope_by ts ls bs e (opp ts d)
rim_colours ts ls sph R bs off = rim_slopes ts ls sph R bs (cornered ts bs off)
