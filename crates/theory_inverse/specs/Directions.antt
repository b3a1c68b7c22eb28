-- Document 02, C-13: where rows 11 and 12 find nothing, each of the eight cases gives document 01's weight, whichever way a rim side is counted.
-- Assumes nothing.
use Rattle.std.specs.Prelude.{ℕ, ◌-◌, ◌*◌, ◌/◌, ◌<◌, ◌≡◌, Bool, not, cond, List, length, ℤ, pos, ◌+ℤ◌, ◌-ℤ◌}
use Rattle.std.proofs.Math.Path.{refl, ap, ap₂}
use Rattle.std.proofs.Common.{sym, ◌∙◌, subst, inl, inr, arith}
use Rattle.std.proofs.Math.Bool.{true, false}
use Rattle.definitions.specs.Lists.{any, upto}
use Rattle.definitions.specs.Mesh.{tri, next, prev, org, opp, inner}
use Rattle.definitions.specs.Labels.{outer, label, corner, rim, points}
use Rattle.definitions.specs.Backward.{coordinate, slope, weight_at, backward}
use Rattle.definitions.specs.Directions.{eight_cases, runs, weight_by_case, backward_by_cases}
use Rattle.definitions.specs.Refusals.{row11, row12}
use Rattle.laws.specs.Integers.{int, zpos, z-, z++, z--}
use Rattle.laws.specs.Lists.{tested, clash, untrue, unfalse, upto-none, upto_some}
use Rattle.laws.specs.Multiples.{map-range-same}
use Rattle.theory_sphere.specs.Sphere.{Sphere}
use Rattle.theory_sphere.specs.Darts.{tri-next, tri-prev, next-next, next-prev, next-below, prev-below}
use Rattle.theory_realizer.specs.Realizer.{Inner, Realizer, inside, along}
use Rattle.theory_crossings.specs.Colours.{Apex, cycle, apex, apex-labels, exit, left-rim, right_rim, not-both, flip_inner, inner-one_way}
use Rattle.theory_crossings.specs.Colours.{from_v1_to_v0, from_v0_to_v1, from_v2_to_v0, from_v2_to_v1, from_v0_to_v2, from_v1_to_v2}
use Rattle.theory_crossings.specs.Tests.{named, Towards, rim-true, rim-false, false-rim, points-true, true-points, corners_are}
use Rattle.theory_inverse.specs.Rows.{Cornered, cornered, summing}
use Rattle.theory_inverse.specs.Slopes.{slope_by, difference-at, difference-back, slope-by, slope-opp}
use Rattle.theory_inverse.specs.Maps.{weight_at_is}

-- ---- over plain numbers: s of the side opposite corner 2, less s of the other two

-- two sides have no slope, or share a number m
alone : (a : ℤ) → a ≡ a -ℤ pos 0 -ℤ pos 0
alone a = omega (int, zpos 0, z-- a (pos 0) (pos 0))

shared : (a c m : ℤ) → a -ℤ c ≡ a -ℤ m -ℤ pos 0 -ℤ (c -ℤ m)
shared a c m = omega (int, zpos 0, z- a c, z- a m, z- c m, z-- (a -ℤ m) (pos 0) (c -ℤ m))

shared' : (a c m : ℤ) → a -ℤ c ≡ a -ℤ m -ℤ (c -ℤ m) -ℤ pos 0
shared' a c m = omega (int, zpos 0, z- a c, z- a m, z- c m, z-- (a -ℤ m) (c -ℤ m) (pos 0))

-- the third coordinates of a corner at (i0, i1, i2) and of corner r
third : (N i0 i1 i2 r0 r1 r2 m : ℤ) → i0 +ℤ i1 +ℤ i2 ≡ N → r0 +ℤ r1 +ℤ r2 ≡ N → r2 -ℤ i2 ≡ i0 -ℤ m -ℤ (r1 -ℤ i1) -ℤ (r0 -ℤ m)
third N i0 i1 i2 r0 r1 r2 m e f =
    omega (int, z++ i0 i1 i2, z++ r0 r1 r2, z- r2 i2, z- i0 m, z- r1 i1, z- r0 m, z-- (i0 -ℤ m) (r1 -ℤ i1) (r0 -ℤ m))

third' : (N i0 i1 i2 r0 r1 r2 m : ℤ) → i0 +ℤ i1 +ℤ i2 ≡ N → r0 +ℤ r1 +ℤ r2 ≡ N → r2 -ℤ i2 ≡ i1 -ℤ m -ℤ (r1 -ℤ m) -ℤ (r0 -ℤ i0)
third' N i0 i1 i2 r0 r1 r2 m e f =
    omega (int, z++ i0 i1 i2, z++ r0 r1 r2, z- r2 i2, z- i1 m, z- r1 m, z- r0 i0, z-- (i1 -ℤ m) (r1 -ℤ m) (r0 -ℤ i0))

-- a circle: a, c and i2 are taken off N
circle : (N i0 i1 i2 a c : ℤ) → i0 +ℤ i1 +ℤ i2 ≡ N → N -ℤ a -ℤ c -ℤ i2 ≡ i0 -ℤ a -ℤ (c -ℤ i1) -ℤ pos 0
circle N i0 i1 i2 a c e =
    omega (int, zpos 0, z++ i0 i1 i2, z- N a, z-- (N -ℤ a) c i2, z- i0 a, z- c i1, z-- (i0 -ℤ a) (c -ℤ i1) (pos 0))

circle' : (N i0 i1 i2 a c : ℤ) → i0 +ℤ i1 +ℤ i2 ≡ N → N -ℤ a -ℤ c -ℤ i2 ≡ i1 -ℤ c -ℤ pos 0 -ℤ (a -ℤ i0)
circle' N i0 i1 i2 a c e =
    omega (int, zpos 0, z++ i0 i1 i2, z- N a, z-- (N -ℤ a) c i2, z- i1 c, z- a i0, z-- (i1 -ℤ c) (pos 0) (a -ℤ i0))

module _ (b : ℕ → ℕ → ℤ) (N : ℤ) (p q r : ℕ) (sp : b 0 p +ℤ b 1 p +ℤ b 2 p ≡ N) (sq : b 0 q +ℤ b 1 q +ℤ b 2 q ≡ N)
    (sr : b 0 r +ℤ b 1 r +ℤ b 2 r ≡ N) where
  cases_are : (x y z : Bool) →
      eight_cases b N p q r x y z ≡ cond x (b 0 p -ℤ b 0 q) (b 1 q -ℤ b 1 p) -ℤ cond z (b 1 r -ℤ b 1 p) (pos 0) -ℤ cond y (pos 0) (b 0 r -ℤ b 0 q)
  unfolding eight_cases
  cases_are false false false = circle' N (b 0 q) (b 1 q) (b 2 q) (b 0 r) (b 1 p) sq
  cases_are false false true = third' N (b 0 q) (b 1 q) (b 2 q) (b 0 r) (b 1 r) (b 2 r) (b 1 p) sq sr
  cases_are false true false = alone (b 1 q -ℤ b 1 p)
  cases_are false true true = shared' (b 1 q) (b 1 r) (b 1 p)
  cases_are true false false = shared (b 0 p) (b 0 r) (b 0 q)
  cases_are true false true = third N (b 0 p) (b 1 p) (b 2 p) (b 0 r) (b 1 r) (b 2 r) (b 0 q) sp sr
  cases_are true true false = alone (b 0 p -ℤ b 0 q)
  cases_are true true true = circle N (b 0 p) (b 1 p) (b 2 p) (b 0 q) (b 1 r) sp

-- ---- the direction of a side, and s by it

pub runs_is : (either : ℕ → Bool) (ts ls : List ℕ) (d : ℕ) → runs either ts ls d ≡ cond (rim ts d) (either d) (any (λ c. points ts ls c d) (upto 3))
unfolding runs
runs_is either ts ls d = refl

module _ {n : ℕ} (ts ls : List ℕ) (sph : Sphere n (length ts / 3) (org ts) (opp ts))
    (R : Realizer n (length ts / 3) (org ts) (opp ts) (label ls) (outer ts)) where
  abbrev pub T : ℕ
  T = length ts / 3

  -- the side of dart d, which counts as x says: it has colour c towards the tip of d, or else colour e the other way
  abbrev pub Way : ℕ → ℕ → ℕ → Bool → Type 0
  Way c e d x = (x ≡ true → Towards ts ls c d) × (x ≡ false → Towards ts ls e (opp ts d))

  -- an inner side has the label at its tip for a colour, on both of its sides
  pub tip-labels : (c d : ℕ) → Inner T (opp ts) d → Towards ts ls c d → (label ls (next d) ≡ c) × (label ls (opp ts d) ≡ c)
  tip-labels c d i (inside i' p q) = (p, q)
  tip-labels c d i (along r p) = not-both sph R (named ts) d i r

  pub inner_way : (c e d : ℕ) → Inner T (opp ts) d → label ls (next d) ≡ c → label ls d ≡ e → Way c e d (any (λ a. points ts ls a d) (upto 3))
  inner_way c e d i p q = (
    λ x.
        let s = upto_some (λ a. points ts ls a d) 3 x in
        let t = points-true ts ls s.0 d i.below s.2 in
        subst (λ (a : ℕ). Towards ts ls a d) (sym (tip-labels s.0 d i t).0 ∙ p) t,
    λ x.
        let k = R.coloured d i in
        elim k.2 [
          | inl t ↦ clash (true-points ts ls k.0 d t) (upto-none (λ a. points ts ls a d) 3 x k.0 k.1)
          | inr t ↦
              subst (λ (a : ℕ). Towards ts ls a (opp ts d))
              (sym (tip-labels k.0 (opp ts d) (flip_inner sph R (named ts) d i) t).1 ∙ ap (label ls) (sph.twice d i.below) ∙ q) t
        ],
  )

  way : (either : ℕ → Bool) (c e d : ℕ) → d < 3 * T → 0 < tri d → label ls (next d) ≡ c → label ls d ≡ e →
      (tri (opp ts d) ≡ 0 → Towards ts ls c d × Towards ts ls e (opp ts d)) → Way c e d (runs either ts ls d)
  way either c e d h z p q both =
      rw (runs_is either ts ls d) (elim (tested (rim ts d)) [
        | inl x ↦ elim (rim-true ts ls d h x).outer [ inl o ↦ absurd (omega (arith, z, o)) | inr o ↦ (λ _. (both o).0, λ _. (both o).1) ]
        | inr x ↦ rw x (inner_way c e d (rim-false ts ls d h x) p q)
      ])

  -- An inner side runs one way, seen from either of its triangles.
  pub one_direction : (either : ℕ → Bool) (d : ℕ) → d < 3 * T → rim ts d ≡ false → runs either ts ls (opp ts d) ≡ not (runs either ts ls d)
  one_direction either d h x = rw (runs_is either ts ls d, runs_is either ts ls o, x, false-rim ts ls o j) go
    where
      o : ℕ
      o = opp ts d

      i : Inner T (opp ts) d
      i = rim-false ts ls d h x

      j : Inner T (opp ts) o
      j = flip_inner sph R (named ts) d i

      -- the ways of d and of its opposite, by the labels at their ends
      along_d : Way (label ls (next d)) (label ls d) d (any (λ a. points ts ls a d) (upto 3))
      along_d = inner_way (label ls (next d)) (label ls d) d i refl refl

      along_o : Way (label ls (next o)) (label ls o) o (any (λ a. points ts ls a o) (upto 3))
      along_o = inner_way (label ls (next o)) (label ls o) o j refl refl

      go : any (λ a. points ts ls a o) (upto 3) ≡ not (any (λ a. points ts ls a d) (upto 3))
      go = elim (tested (any (λ a. points ts ls a d) (upto 3))) [
        | inl t ↦ rw t (untrue (any (λ a. points ts ls a o) (upto 3)) (λ u.
            inner-one_way sph R (named ts) (label ls (next d)) (label ls (next o)) d i (along_d.0 t) (along_o.0 u)))
        | inr f ↦ rw f (unfalse (any (λ a. points ts ls a o) (upto 3)) (λ u.
            clash (true-points ts ls (label ls d) o (along_d.1 f))
            (upto-none (λ a. points ts ls a o) 3 u (label ls d) (cycle sph R (named ts) d h i.this).0)))
      ]

  -- ---- the eight cases of the triangle whose corner with label 2 is that of dart g

  module _ (bs : List ℤ) (K : Cornered ts bs) where
    slope_way : (c e d : ℕ) (x : Bool) → c < 3 → e < 3 → d < 3 * T → Way c e d x →
        slope ts ls bs d ≡ cond x (slope_by ts ls bs c d) (slope_by ts ls bs e (opp ts d))
    slope_way c e d true h k l w = slope-by ts ls sph R bs K c d h (w.0 refl)
    slope_way c e d false h k l w = sym (slope-opp ts ls sph R bs K d l) ∙ slope-by ts ls sph R bs K e (opp ts d) k (w.1 refl)

    module _ (whole : length ts ≡ 3 * T) (sums : row12 n ts bs ≡ false) (either : ℕ → Bool) {g : ℕ} (a : Apex T (label ls) g) where
      abbrev b : ℕ → ℕ → ℤ
      b = coordinate bs

      abbrev p : ℕ
      p = org ts (next g)

      abbrev q : ℕ
      q = org ts (prev g)

      abbrev r : ℕ
      r = org ts g

      abbrev run : ℕ → Bool
      run = runs either ts ls

      -- each dart's vertex at its tip
      below : (next g < 3 * T) × (prev g < 3 * T)
      below = (next-below T g a.below, prev-below T g a.below)

      on-rim : {c e d k : ℕ} → d < 3 * T → opp ts d ≡ k → Towards ts ls c (opp ts k) → Towards ts ls e k → Towards ts ls c d × Towards ts ls e (opp ts d)
      on-rim {c} {e} {d} h o x y = (subst (Towards ts ls c) (ap (opp ts) (sym o) ∙ sph.twice d h) x, subst (Towards ts ls e) (sym o) y)

      top : slope ts ls bs (next g) ≡ cond (run (next g)) (b 0 p -ℤ b 0 q) (b 1 q -ℤ b 1 p)
      unfolding slope_by
      top =
          let l = apex-labels sph R (named ts) a in
          let h = below.0 in
          let j = ap (org ts) (next-next g) in
          slope_way 1 0 (next g) (run (next g)) (omega arith) (omega arith) h
          (way either 1 0 (next g) h (omega (arith, a.inner, tri-next g)) (ap (label ls) (next-next g) ∙ l.1) l.0
          (λ o. on-rim h (exit sph R (named ts) a o) (from_v0_to_v1 sph R (named ts)) (from_v1_to_v0 sph R (named ts))))
          ∙ ap₂ (cond (run (next g))) (difference-at ts ls sph R bs 0 (next g) p q refl j) (difference-back ts ls sph R bs 1 (next g) p q h refl j)

      left : slope ts ls bs g ≡ cond (run g) (b 1 r -ℤ b 1 p) (pos 0)
      unfolding slope_by
      left =
          let l = apex-labels sph R (named ts) a in
          let h = a.below in
          slope_way 0 2 g (run g) (omega arith) (omega arith) h
          (way either 0 2 g h a.inner l.0 a.two
          (λ o. on-rim h (left-rim sph R (named ts) a o) (from_v2_to_v0 sph R (named ts)) (from_v0_to_v2 sph R (named ts))))
          ∙ ap₂ (cond (run g)) (difference-at ts ls sph R bs 1 g r p refl refl) refl

      right : slope ts ls bs (prev g) ≡ cond (run (prev g)) (pos 0) (b 0 r -ℤ b 0 q)
      unfolding slope_by
      right =
          let l = apex-labels sph R (named ts) a in
          let h = below.1 in
          let j = ap (org ts) (next-prev g) in
          slope_way 2 1 (prev g) (run (prev g)) (omega arith) (omega arith) h
          (way either 2 1 (prev g) h (omega (arith, a.inner, tri-prev g)) (ap (label ls) (next-prev g) ∙ a.two) l.1
          (λ o. on-rim h (right_rim sph R (named ts) a o) (from_v1_to_v2 sph R (named ts)) (from_v2_to_v1 sph R (named ts))))
          ∙ ap₂ (cond (run (prev g))) refl (difference-back ts ls sph R bs 0 (prev g) q r h refl j)

      pub case_at : eight_cases b (b 0 (outer ts 0)) p q r (run (next g)) (run (prev g)) (run g) ≡ weight_at ts ls bs (tri g)
      case_at =
          let s = summing n ts bs sums in
          cases_are b (b 0 (outer ts 0)) p q r (s p (sph.vertex (next g) below.0)) (s q (sph.vertex (prev g) below.1))
          (s r (sph.vertex g a.below)) (run (next g)) (run (prev g)) (run g)
          ∙ sym (weight_at_is ts ls sph whole R bs g a ∙ rw (top, left, right))

-- ---- triangle by triangle, and all of them

weight_by_case_is : (either : ℕ → Bool) (ts ls : List ℕ) (bs : List ℤ) (t : ℕ) →
    let d = corner ls t 0 in
    let e = corner ls t 1 in
    let g = corner ls t 2 in
    let run = runs either ts ls in
    weight_by_case either ts ls bs t
    ≡ eight_cases (coordinate bs) (coordinate bs 0 (outer ts 0)) (org ts d) (org ts e) (org ts g) (run d) (run e) (run g)
unfolding weight_by_case
weight_by_case_is either ts ls bs t = refl

module _ {n : ℕ} (ts ls : List ℕ) (sph : Sphere n (length ts / 3) (org ts) (opp ts)) (whole : length ts ≡ 3 * (length ts / 3))
    (R : Realizer n (length ts / 3) (org ts) (opp ts) (label ls) (outer ts)) (bs : List ℤ) (off : row11 ts bs ≡ false) (sums : row12 n ts bs ≡ false)
    (either : ℕ → Bool) where
  pub weight-by-case : (t : ℕ) → 0 < t → t < length ts / 3 → weight_by_case either ts ls bs t ≡ weight_at ts ls bs t
  weight-by-case t z h =
      let c = apex sph R (named ts) t z h in
      let k = corners_are ts ls sph whole R c.0 c.2 in
      let e : weight_by_case either ts ls bs (tri c.0) ≡ weight_at ts ls bs (tri c.0) =
      weight_by_case_is either ts ls bs (tri c.0) ∙ rw (k.0, k.1, k.2) (case_at ts ls sph R bs (cornered ts bs off) whole sums either c.2) in
      rw c.1 at e

  -- The weights by eight cases are those of document 01, whichever way the rim sides are counted.
  pub backward-by-cases : backward_by_cases either ts ls bs ≡ backward ts ls bs
  unfolding backward_by_cases backward inner
  backward-by-cases =
      map-range-same (weight_by_case either ts ls bs) (weight_at ts ls bs) 1 (length ts / 3 - 1) (λ t h k. weight-by-case t (omega arith) (omega arith))
