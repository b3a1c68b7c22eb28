-- The slope of a side, by its colours. Assumes nothing.
use Prim.Native.Nat.{ℕ, zero, suc, ◌*◌, ◌/◌, ◌<◌}
use Rattle.std.specs.Prelude.{◌≡◌, ◌⊎◌, cond, List, length, ℤ, ◌-ℤ◌}
use Rattle.std.proofs.Math.Path.{refl, sym}
use Rattle.std.proofs.Common.{ap, ◌∙◌, subst, arith}
use Rattle.std.proofs.Math.Logic.{inl, inr}
use Rattle.std.proofs.Math.Bool.{false}
use Rattle.std.proofs.Math.IntN.{pos}
use Rattle.definitions.specs.Mesh.{next, org, tip, opp}
use Rattle.definitions.specs.Labels.{outer, label, points}
use Rattle.definitions.specs.Backward.{coordinate, difference, slope}
use Rattle.laws.specs.Integers.{int, zpos, z-}
use Rattle.laws.specs.Lists.{tested, clash}
use Rattle.theory_sphere.specs.Sphere.{Sphere}
use Rattle.theory_realizer.specs.Realizer.{Realizer}
use Rattle.theory_sphere.specs.Rotations.{tip-opp}
use Rattle.theory_crossings.specs.Colours.{points-below, one_way, both_ways, side_coloured}
use Rattle.theory_crossings.specs.Tests.{named, Towards, points-true, true-points}
use Rattle.theory_inverse.specs.Rows.{Cornered}

-- s of the side of dart d by its colour c, if it has that colour towards the tip of d
unfoldable pub slope_by : List ℕ → List ℕ → List ℤ → ℕ → ℕ → ℤ
slope_by ts ls bs zero d = difference ts ls bs 1 d
slope_by ts ls bs (suc zero) d = difference ts ls bs 0 d
slope_by ts ls bs (suc (suc c)) d = pos 0

pub difference_is : (ts ls : List ℕ) (bs : List ℤ) (c d : ℕ) →
    difference ts ls bs c d ≡ coordinate bs c (org ts d) -ℤ coordinate bs c (org ts (next d))
unfolding difference tip
difference_is ts ls bs c d = refl

slope_is : (ts ls : List ℕ) (bs : List ℤ) (d : ℕ) →
    slope ts ls bs d ≡
    cond (points ts ls 0 d) (difference ts ls bs 1 d)
    (cond (points ts ls 0 (opp ts d)) (difference ts ls bs 1 (opp ts d))
    (cond (points ts ls 1 d) (difference ts ls bs 0 d)
    (cond (points ts ls 1 (opp ts d)) (difference ts ls bs 0 (opp ts d))
    (pos 0))))
unfolding slope
slope_is ts ls bs d = refl

-- less 0
pub less_none : {a b c : ℤ} → a ≡ c → b ≡ pos 0 → a -ℤ b ≡ c
less_none {a} {b} {c} p q = omega (int, zpos 0, z- a b)

module _ {n : ℕ} (ts ls : List ℕ) (sph : Sphere n (length ts / 3) (org ts) (opp ts))
    (R : Realizer n (length ts / 3) (org ts) (opp ts) (label ls) (outer ts))
    (bs : List ℤ) where
  -- what all colours of a side give, whichever of them the definition meets first
  pub slope-any : (d : ℕ) → d < 3 * (length ts / 3) → (x : ℤ) → ((c : ℕ) → c < 3 → Towards ts ls c d → slope_by ts ls bs c d ≡ x) →
      ((c : ℕ) → c < 3 → Towards ts ls c (opp ts d) → slope_by ts ls bs c (opp ts d) ≡ x) → slope ts ls bs d ≡ x
  unfolding slope_by
  slope-any d h x A B =
      slope_is ts ls bs d ∙ elim (tested (points ts ls 0 d)) [
        | inl e ↦ rw e (A 0 (omega arith) (points-true ts ls 0 d h e))
        | inr e0 ↦
            elim (tested (points ts ls 0 (opp ts d))) [
              | inl e ↦ rw (e0, e) (B 0 (omega arith) (points-true ts ls 0 (opp ts d) (sph.dart d h) e))
              | inr e1 ↦
                  elim (tested (points ts ls 1 d)) [
                    | inl e ↦ rw (e0, e1, e) (A 1 (omega arith) (points-true ts ls 1 d h e))
                    | inr e2 ↦
                        elim (tested (points ts ls 1 (opp ts d))) [
                          | inl e ↦ rw (e0, e1, e2, e) (B 1 (omega arith) (points-true ts ls 1 (opp ts d) (sph.dart d h) e))
                          | inr e3 ↦
                              let k = side_coloured sph R (named ts) d h in
                              rw (e0, e1, e2, e3) (rest e0 e1 e2 e3 k.0 k.1 k.2)
                        ]
                  ]
            ]
      ]
    where
      rest : points ts ls 0 d ≡ false → points ts ls 0 (opp ts d) ≡ false → points ts ls 1 d ≡ false → points ts ls 1 (opp ts d) ≡ false →
          (c : ℕ) → c < 3 → Towards ts ls c d ⊎ Towards ts ls c (opp ts d) → pos 0 ≡ x
      rest e0 e1 e2 e3 zero l (inl p) = clash (true-points ts ls 0 d p) e0
      rest e0 e1 e2 e3 zero l (inr p) = clash (true-points ts ls 0 (opp ts d) p) e1
      rest e0 e1 e2 e3 (suc zero) l (inl p) = clash (true-points ts ls 1 d p) e2
      rest e0 e1 e2 e3 (suc zero) l (inr p) = clash (true-points ts ls 1 (opp ts d) p) e3
      rest e0 e1 e2 e3 (suc (suc c)) l (inl p) = A (suc (suc c)) l p
      rest e0 e1 e2 e3 (suc (suc c)) l (inr p) = B (suc (suc c)) l p

  -- a fall, along a dart from i to j and against it
  pub difference-at : (c d i j : ℕ) → org ts d ≡ i → org ts (next d) ≡ j → difference ts ls bs c d ≡ coordinate bs c i -ℤ coordinate bs c j
  difference-at c d i j p q = difference_is ts ls bs c d ∙ rw (p, q)

  pub difference-back : (c d i j : ℕ) → d < 3 * (length ts / 3) → org ts d ≡ i → org ts (next d) ≡ j →
      difference ts ls bs c (opp ts d) ≡ coordinate bs c j -ℤ coordinate bs c i
  difference-back c d i j h p q = difference-at c (opp ts d) j i (sph.reverses d h ∙ q) (tip-opp sph d h ∙ p)

  module _ (K : Cornered ts bs) where
    -- the sides of the outer triangle: N between v0 and v1, and 0 at v2, by either colour
    abbrev N : ℤ
    N = coordinate bs 0 (outer ts 0)

    rim_agree : (c e d : ℕ) → c < 3 → e < 3 → d < 3 * (length ts / 3) → org ts (next d) ≡ outer ts c → org ts d ≡ outer ts e →
        slope_by ts ls bs c d ≡ slope_by ts ls bs e (opp ts d)
    unfolding slope_by outer
    rim_agree zero zero d h k l p q = absurd (sph.proper d l (q ∙ sym p))
    rim_agree zero (suc zero) d h k l p q =
        difference-at 1 d (outer ts 1) (outer ts 0) q p ∙ less_none K.v1.1 K.v0
        ∙ sym (difference-back 0 d (outer ts 1) (outer ts 0) l q p ∙ less_none {c = N} refl K.v1.0)
    rim_agree zero (suc (suc e)) d h k l p q = difference-at 1 d (outer ts 2) (outer ts 0) q p ∙ less_none K.v2.1 K.v0
    rim_agree (suc zero) zero d h k l p q =
        difference-at 0 d (outer ts 0) (outer ts 1) q p ∙ less_none {c = N} refl K.v1.0
        ∙ sym (difference-back 1 d (outer ts 0) (outer ts 1) l q p ∙ less_none K.v1.1 K.v0)
    rim_agree (suc zero) (suc zero) d h k l p q = absurd (sph.proper d l (q ∙ sym p))
    rim_agree (suc zero) (suc (suc e)) d h k l p q = difference-at 0 d (outer ts 2) (outer ts 1) q p ∙ less_none K.v2.0 K.v1.0
    rim_agree (suc (suc c)) zero d h k l p q = sym (difference-back 1 d (outer ts 0) (outer ts 2) l q p ∙ less_none K.v2.1 K.v0)
    rim_agree (suc (suc c)) (suc zero) d h k l p q = sym (difference-back 0 d (outer ts 1) (outer ts 2) l q p ∙ less_none K.v2.0 K.v1.0)
    rim_agree (suc (suc c)) (suc (suc e)) d h k l p q = refl

    -- Any colour of a side gives its slope.
    pub slope-by : (c d : ℕ) → c < 3 → Towards ts ls c d → slope ts ls bs d ≡ slope_by ts ls bs c d
    slope-by c d h p =
        let l = points-below sph R (named ts) p in
        slope-any d l (slope_by ts ls bs c d)
        (λ e k q. ap (λ (c : ℕ). slope_by ts ls bs c d) (one_way sph R (named ts) e c d k h q p))
        (λ e k q. let z = both_ways sph R (named ts) c e d p q in sym (rim_agree c e d h k l z.0 z.1))

    slope-by-back : (c d : ℕ) → c < 3 → Towards ts ls c d → slope ts ls bs (opp ts d) ≡ slope_by ts ls bs c d
    slope-by-back c d h p =
        let l = points-below sph R (named ts) p in
        let t = sph.twice d l in
        slope-any (opp ts d) (sph.dart d l) (slope_by ts ls bs c d)
        (λ e k q. let z = both_ways sph R (named ts) c e d p q in sym (rim_agree c e d h k l z.0 z.1))
        (λ e k q.
        ap (λ (a : ℕ). slope_by ts ls bs e a) t
        ∙ ap (λ (a : ℕ). slope_by ts ls bs a d) (one_way sph R (named ts) e c d k h (subst (Towards ts ls e) t q) p))

    -- The two darts of a side have one slope.
    pub slope-opp : (d : ℕ) → d < 3 * (length ts / 3) → slope ts ls bs (opp ts d) ≡ slope ts ls bs d
    slope-opp d h = go k.2
      where
        k : (c : ℕ) × (c < 3) × (Towards ts ls c d ⊎ Towards ts ls c (opp ts d))
        k = side_coloured sph R (named ts) d h

        go : Towards ts ls k.0 d ⊎ Towards ts ls k.0 (opp ts d) → slope ts ls bs (opp ts d) ≡ slope ts ls bs d
        go (inl p) = slope-by-back k.0 d k.1 p ∙ sym (slope-by k.0 d k.1 p)
        go (inr p) =
            slope-by k.0 (opp ts d) k.1 p ∙ sym (slope-by-back k.0 (opp ts d) k.1 p) ∙ ap (λ (a : ℕ). slope ts ls bs a) (sph.twice d h)

    -- A side of the outer triangle has two colours, one towards each end. Both give the same slope.
    pub rim_slopes : (c e d : ℕ) → c < 3 → e < 3 → Towards ts ls c d → Towards ts ls e (opp ts d) →
        slope_by ts ls bs c d ≡ slope_by ts ls bs e (opp ts d)
    rim_slopes c e d h k p q =
        let z = both_ways sph R (named ts) c e d p q in
        rim_agree c e d h k (points-below sph R (named ts) p) z.0 z.1
