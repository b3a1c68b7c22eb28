-- The corners of an inner triangle, and the way of its colour-2 walk, read from tables that tell of a labelled mesh. Assumes nothing.
use Rattle.std.specs.Prelude.{ℕ, ◌*◌, ◌/◌, ◌<◌, ◌≡◌, List, length}
use Rattle.std.proofs.Common.{sym, ap, ◌∙◌, subst, arith}
use Rattle.definitions.specs.Mesh.{tri, next, prev, org, tip, opp}
use Rattle.definitions.specs.Labels.{outer, label, corner}
use Rattle.theory_sphere.specs.Sphere.{Sphere}
use Rattle.theory_sphere.specs.Rotations.{tip-opp}
use Rattle.theory_sphere.specs.Darts.{next-next, next-below, prev-below, tri-below}
use Rattle.theory_realizer.specs.Realizer.{Realizer}
use Rattle.theory_crossings.specs.Colours.{Apex, apex}
use Rattle.theory_crossings.specs.Tests.{named, corners_are}
use Rattle.labels_tables.specs.Peeling.{Peeling}
use Rattle.labels_tables.specs.LabelledTables.{opposite_in, label_in, apex_dart, apex_dart_is}
use Rattle.repair_model.specs.PackedWords.{walk_dart, walk_dart-opposite, walk_from, walk_to}

-- the tables have the opposites, origins and labels of the mesh
pub record Describes (ts ls : List ℕ) (T : Peeling) : Type 0 where
  pub opposites : (d : ℕ) → d < length ts → opposite_in T d ≡ opp ts d
  pub origins : (d : ℕ) → d < length ts → T.origin d ≡ org ts d
  pub apexes : (t : ℕ) → 0 < t → t < length ts / 3 → T.apex t < 3
  pub labels : (d : ℕ) → d < length ts → label_in T d ≡ label ls d

module _ {n : ℕ} (ts ls : List ℕ) (sph : Sphere n (length ts / 3) (org ts) (opp ts)) (whole : length ts ≡ 3 * (length ts / 3))
    (R : Realizer n (length ts / 3) (org ts) (opp ts) (label ls) (outer ts)) (T : Peeling) (D : Describes ts ls T) where
  abbrev Top : ℕ → Type 0
  Top g = Apex (length ts / 3) (label ls) g

  module _ (t : ℕ) (z : 0 < t) (h : t < length ts / 3) where
    abbrev g : ℕ
    g = apex_dart T t

    -- the corner with label 2, and the two others
    pub apex_is : (corner ls t 2 ≡ apex_dart T t) × (corner ls t 0 ≡ next (apex_dart T t)) × (corner ls t 1 ≡ prev (apex_dart T t))
    apex_is =
        let a = apex sph R (named ts) t z h in
        let e : g ≡ a.0 = apex_dart_is T t a.0 z a.1 (D.apexes t z h) (D.labels a.0 (omega (arith, a.2.below)) ∙ a.2.two) in
        let c = corners_are ts ls sph whole R a.0 a.2 in
        let k = ap (λ (u : ℕ). corner ls u 2) (sym a.1) ∙ c.0 in
        let k0 = ap (λ (u : ℕ). corner ls u 0) (sym a.1) ∙ c.1 in
        let k1 = ap (λ (u : ℕ). corner ls u 1) (sym a.1) ∙ c.2 in
        rw e (k, k0, k1)

    pub apex-below : Top (apex_dart T t)
    apex-below =
        let a = apex sph R (named ts) t z h in
        let c = corners_are ts ls sph whole R a.0 a.2 in
        subst Top (sym c.0 ∙ ap (λ (u : ℕ). corner ls u 2) a.1 ∙ apex_is.0) a.2

    -- the vertices at them
    pub origins_are : (T.origin (apex_dart T t) ≡ org ts (apex_dart T t)) × (walk_to T t ≡ org ts (next (apex_dart T t)))
        × (walk_from T t ≡ org ts (prev (apex_dart T t)))
    origins_are =
        let b = apex-below.below in (
          D.origins g (omega (arith, b)),
          D.origins (next g) (omega (arith, next-below (length ts / 3) g b)),
          D.origins (prev g) (omega (arith, prev-below (length ts / 3) g b)),
        )

    pub way_below : next (apex_dart T t) < 3 * (length ts / 3)
    way_below = next-below (length ts / 3) g apex-below.below

    -- the dart by which the walk goes on, and its ends
    pub comes : walk_dart T t ≡ opp ts (next (apex_dart T t))
    comes = walk_dart-opposite T t ∙ D.opposites (next g) (omega (arith, way_below))

    pub org_into : org ts (walk_dart T t) ≡ org ts (prev (apex_dart T t))
    org_into = rw comes (sph.reverses (next g) way_below ∙ ap (org ts) (next-next g))

    pub tip_into : tip ts (walk_dart T t) ≡ org ts (next (apex_dart T t))
    unfolding tip
    tip_into = rw comes (tip-opp sph (next g) way_below)

    pub ends_are : (walk_from T t ≡ org ts (walk_dart T t)) × (walk_to T t ≡ tip ts (walk_dart T t))
    ends_are = (origins_are.2 ∙ sym org_into, origins_are.1 ∙ sym tip_into)

    -- it comes to a triangle
    pub into_dart : walk_dart T t < 3 * (length ts / 3)
    into_dart = rw comes (sph.dart (next g) way_below)

    pub into_below : tri (walk_dart T t) < length ts / 3
    into_below = tri-below (length ts / 3) (walk_dart T t) into_dart
