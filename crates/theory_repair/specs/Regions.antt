-- In which region of an inner triangle u a vertex is, and how the regions of a triangle's corners go with their labels. Assumes nothing.
use Prim.Native.Nat.{ℕ, zero, suc, ◌+◌, ◌-◌, ◌*◌, ◌/◌, ◌%◌, ◌<◌}
use Rattle.std.specs.Prelude.{◌≡◌, refl, ◌≢◌, List, ◌∷◌, length}
use Rattle.std.proofs.Common.{sym, ◌∙◌, inl, inr, eqb-true, eq-eqb}
use Rattle.std.proofs.Math.Path.{ap}
use Rattle.std.proofs.Math.Bool.{Bool}
use mathlib.Core.List.Memᴰ
use native.Mathlib.Omega.{arith}
use Rattle.std.proofs.Math.Decide.{ℕ_discrete}
use Rattle.std.proofs.Math.Dec.{eqb}
use Rattle.definitions.specs.Lists.{filter}
use Rattle.definitions.specs.Mesh.{triangles_length, tri, next, org, opp, inner}
use Rattle.definitions.specs.Labels.{outer, label, corner}
use Rattle.laws.specs.Lists.{◌∈◌, filter_in, in_filter, length-filter, length-range}
use Rattle.laws.specs.Counting.{cons, distinct_within, distinct_filter, distinct_range}
use Rattle.theory_sphere.specs.Sphere.{Sphere}
use Rattle.theory_sphere.specs.Darts.{tri-next, tri-prev, next-prev, next-next, same-tri}
use Rattle.theory_realizer.specs.Realizer.{Realizer}
use Rattle.theory_realizer.specs.Units.{bit, unit0, unit1, vertex_at, Units}
use Rattle.theory_repair.specs.Coordinates.{inner_in, in_inner}
use Rattle.theory_crossings.specs.UnitMaps.{at, units}

-- 0 or 1 where that coordinate of vertex i is 1 under the weights 1 on u, and else 2
unfoldable pub region : ℕ → List ℕ → List ℕ → ℕ → ℕ → ℕ
region n ts ls u i = 2 - (2 * unit0 n ts ls u i + unit1 n ts ls u i)

-- of how many inner triangles vertex i is in region c
unfoldable pub often : ℕ → List ℕ → List ℕ → ℕ → ℕ → ℕ
unfolding region filter inner
often n ts ls c i = length (filter (λ u. eqb (region n ts ls u i) c) (inner ts))

-- the label after c
abbrev pub up : ℕ → ℕ
up c = (c + 1) % 3

-- an inner triangle
abbrev pub InnerTri : List ℕ → ℕ → Type 0
InnerTri ts t = (0 < t) × (t < length ts / 3)

module _ {n : ℕ} (ts ls : List ℕ) (sph : Sphere n (length ts / 3) (org ts) (opp ts)) (size : length ts ≡ triangles_length n)
    (R : Realizer n (length ts / 3) (org ts) (opp ts) (label ls) (outer ts)) where
  whole : length ts ≡ 3 * (length ts / 3)
  whole = omega arith

  U : Units n ts ls
  U = units ts ls sph size R

  -- ---- regions

  pub region-below : (u i : ℕ) → region n ts ls u i < 3
  unfolding region
  region-below u i = omega arith

  -- vertices in one region have the same unit coordinates
  pub region-units : (u i j : ℕ) → InnerTri ts u → i < n → j < n → region n ts ls u i ≡ region n ts ls u j →
      (unit0 n ts ls u i ≡ unit0 n ts ls u j) × (unit1 n ts ls u i ≡ unit1 n ts ls u j)
  unfolding region
  region-units u i j h k l e = let a = U.inside u i h.0 h.1 k in let b = U.inside u j h.0 h.1 l in omega arith

  -- where a corner of a triangle is in region c, its corner with label c is
  from_other : (u t c e : ℕ) → InnerTri ts u → InnerTri ts t → c < 3 → e < 3 → e ≢ c → region n ts ls u (vertex_at ts ls t e) ≡ c →
      region n ts ls u (vertex_at ts ls t c) ≡ c
  unfolding region
  from_other u t zero e h k hc he i q =
      omega (
        arith,
        U.most0 u t e h.0 h.1 k.0 k.1 (omega arith) he,
        U.inside u (vertex_at ts ls t e) h.0 h.1 (U.below t e k.0 k.1 he),
      )
  from_other u t (suc zero) e h k hc he i q =
      let a = U.inside u (vertex_at ts ls t 1) h.0 h.1 (U.below t 1 k.0 k.1 hc) in
      omega (arith, U.most1 u t e h.0 h.1 k.0 k.1 he i, U.inside u (vertex_at ts ls t e) h.0 h.1 (U.below t e k.0 k.1 he))
  from_other u t (suc (suc zero)) e h k hc he i q = omega (arith, U.most2 u t e h.0 h.1 k.0 k.1 (omega arith))
  from_other u t (suc (suc (suc c))) e h k hc he i q = absurd (omega arith)

  pub gather : (u t c e : ℕ) → InnerTri ts u → InnerTri ts t → c < 3 → e < 3 → region n ts ls u (vertex_at ts ls t e) ≡ c →
      region n ts ls u (vertex_at ts ls t c) ≡ c
  gather u t c e h k hc he q = elim (ℕ_discrete e c) [ yes i ↦ rw i at q | no i ↦ from_other u t c e h k hc he i q ]

  -- in u itself each corner is in the region of its label
  pub own : (u c : ℕ) → InnerTri ts u → c < 3 → region n ts ls u (vertex_at ts ls u c) ≡ c
  unfolding region
  own u zero h l =
      let one = ap bit (eq-eqb u u refl) in
      omega (arith, U.most0 u u 1 h.0 h.1 h.0 h.1 (omega arith) (omega arith))
  own u (suc zero) h l =
      let one = ap bit (eq-eqb u u refl) in
      let a = U.inside u (vertex_at ts ls u 1) h.0 h.1 (U.below u 1 h.0 h.1 l) in
      omega (arith, U.most1 u u 0 h.0 h.1 h.0 h.1 (omega arith) (omega arith))
  own u (suc (suc zero)) h l =
      let one = ap bit (eq-eqb u u refl) in
      let a = U.inside u (vertex_at ts ls u 0) h.0 h.1 (U.below u 0 h.0 h.1 (omega arith)) in
      omega (arith, U.most2 u u 0 h.0 h.1 h.0 h.1 (omega arith))
  own u (suc (suc (suc c))) h l = absurd (omega arith)

  -- ---- how often a vertex is in a region

  pub often-below : (c i : ℕ) → often n ts ls c i < length ts / 3
  unfolding often inner
  often-below c i =
      omega (arith, sph.least, length-filter (λ u. eqb (region n ts ls u i) c) (inner ts), length-range 1 (length ts / 3 - 1))

  -- a triangle's corner with label c is in region c more often than its two others
  pub often_most : (t c e : ℕ) → InnerTri ts t → c < 3 → e < 3 → e ≢ c →
      often n ts ls c (vertex_at ts ls t e) < often n ts ls c (vertex_at ts ls t c)
  unfolding often inner
  often_most t c e h hc he d =
      distinct_within (cons {x = t} new (distinct_filter (lies e) (distinct_range 1 (length ts / 3 - 1)))) (filter (lies c) (inner ts)) within
    where
      lies : ℕ → ℕ → Bool
      lies a u = eqb (region n ts ls u (vertex_at ts ls t a)) c

      new : t ∈ filter (lies e) (inner ts) → ⊥
      new m = d (sym (own t e h he) ∙ eqb-true (region n ts ls t (vertex_at ts ls t e)) c (filter_in (lies e) (inner ts) m).1)

      within : (u : ℕ) → u ∈ t ∷ filter (lies e) (inner ts) → u ∈ filter (lies c) (inner ts)
      within u m =
          elim (Memᴰ.cases_cons m) [
            | inl q ↦ rw q (in_filter (lies c) (in_inner n ts sph.least size t h.0 h.1)
                (eq-eqb (region n ts ls t (vertex_at ts ls t c)) c (own t c h hc)))
            | inr k ↦
                let a = filter_in (lies e) (inner ts) k in
                let i = inner_in n ts sph.least size a.0 in
                let r = gather u t c e i h hc he (eqb-true (region n ts ls u (vertex_at ts ls t e)) c a.1) in
                in_filter (lies c) a.0 (eq-eqb (region n ts ls u (vertex_at ts ls t c)) c r)
          ]

  -- ---- the corners of a triangle

  pub corner-tri : (t c : ℕ) → InnerTri ts t → c < 3 → tri (corner ls t c) ≡ t
  corner-tri t zero h l = let a = at ts ls sph whole R t h.0 h.1 in ap tri a.corner0 ∙ tri-next a.g ∙ a.tri_is
  corner-tri t (suc zero) h l = let a = at ts ls sph whole R t h.0 h.1 in ap tri a.corner1 ∙ tri-prev a.g ∙ a.tri_is
  corner-tri t (suc (suc zero)) h l = let a = at ts ls sph whole R t h.0 h.1 in ap tri a.corner2 ∙ a.tri_is
  corner-tri t (suc (suc (suc c))) h l = absurd (omega arith)

  -- labels go up along its sides
  pub corner-next : (t c : ℕ) → InnerTri ts t → c < 3 → corner ls t (up c) ≡ next (corner ls t c)
  corner-next t zero h l = let a = at ts ls sph whole R t h.0 h.1 in a.corner1 ∙ sym (next-next a.g) ∙ ap next (sym a.corner0)
  corner-next t (suc zero) h l = let a = at ts ls sph whole R t h.0 h.1 in a.corner2 ∙ sym (next-prev a.g) ∙ ap next (sym a.corner1)
  corner-next t (suc (suc zero)) h l = let a = at ts ls sph whole R t h.0 h.1 in a.corner0 ∙ ap next (sym a.corner2)
  corner-next t (suc (suc (suc c))) h l = absurd (omega arith)

  -- each of its darts is a corner
  pub some_corner : (t d : ℕ) → InnerTri ts t → tri d ≡ t → (c : ℕ) × (c < 3) × (corner ls t c ≡ d)
  some_corner t d h e =
      let a = at ts ls sph whole R t h.0 h.1 in
      elim (same-tri a.g d (a.tri_is ∙ sym e)) [
        | inl q ↦ (2, omega arith, a.corner2 ∙ sym q)
        | inr (inl q) ↦ (0, omega arith, a.corner0 ∙ sym q)
        | inr (inr q) ↦ (1, omega arith, a.corner1 ∙ sym q)
      ]
