-- From a vertex that leaves to the two that its paths go on from: how often a walk crosses what lies between, and that neither is the other end, v1 for
-- colour 0 and v0 for colour 1. Assumes nothing.
use Rattle.std.specs.Prelude.{ℕ, suc, ◌+◌, ◌-◌, ◌*◌, ◌/◌, ◌<◌, ◌≡◌, refl, ◌≢◌, List, length}
use Rattle.std.proofs.Common.{sym, ◌∙◌, arith, eq-eqb}
use Rattle.std.proofs.Math.Path.{ap, subst}
use Rattle.definitions.specs.Mesh.{triangles_length, tri, next, prev, org, tip, opp}
use Rattle.definitions.specs.Labels.{outer, label}
use Rattle.definitions.specs.Forward.{walk, path}
use Rattle.theory_sphere.specs.Sphere.{Sphere}
use Rattle.theory_sphere.specs.Rotations.{tip-opp}
use Rattle.theory_sphere.specs.Darts.{tri-next, tri-prev, next-next, next-below, prev-below, tri-below}
use Rattle.theory_realizer.specs.Realizer.{Points, inside, along, Realizer}
use Rattle.theory_realizer.specs.Units.{Units, bit, unit0, unit1, same?, vertex_at}
use Rattle.theory_crossings.specs.Colours.{Apex, label-once, points-below, apex-labels, v_once}
use Rattle.theory_crossings.specs.Walks.{hits, hits-side}
use Rattle.theory_crossings.specs.Paths.{meets-onward}
use Rattle.theory_crossings.specs.Tests.{named, walking, pathing}
use Rattle.theory_crossings.specs.UnitMaps.{crosses-once, units, at}
use Rattle.labels_tables.specs.Peeling.{Peeling}
use Rattle.labels_tables.specs.LabelledTables.{Stored}
use Rattle.repair_model.specs.RemovalOrder.{removed_at, up0, up1, From, RemovedVertex, leaves_at}
use Rattle.repair_model.specs.Corners.{Describes}

module _ {n : ℕ} (ts ls : List ℕ) (sph : Sphere n (length ts / 3) (org ts) (opp ts)) (size : length ts ≡ triangles_length n)
    (R : Realizer n (length ts / 3) (org ts) (opp ts) (label ls) (outer ts)) where
  pub whole : length ts ≡ 3 * (length ts / 3)
  whole = omega (arith, size)

  pub U : Units n ts ls
  U = units ts ls sph size R

  -- ---- from a vertex that leaves to the two that its paths go on from

  module _ (u : ℕ) (z : 0 < u) (h : u < length ts / 3) where
    -- how often the walk of u crosses the side of d
    abbrev pub crossed_by : ℕ → ℕ
    crossed_by d = hits (opp ts) (walk ts ls (length ts / 3) u) d

    module _ (w' : ℕ → ℕ) (left right k i : ℕ) (L : RemovedVertex n (length ts / 3) (org ts) (opp ts) (label ls) (outer ts) w' left right k i)
      where
        left_below : left < 3 * (length ts / 3)
        left_below = points-below sph R (named ts) L.colour0

        vertex_below : i < n
        vertex_below = subst (λ (j : ℕ). j < n) L.from (sph.vertex left left_below)

        pub onward-left : unit1 n ts ls u i ≡ crossed_by left + unit1 n ts ls u (tip ts left)
        unfolding tip
        onward-left =
            let W = walk ts ls (length ts / 3) in
            let on = meets-onward sph R (named ts) W (walking ts ls sph whole R) (λ c j. path ts ls c n j) (pathing ts ls sph whole R) u z h 0
            (omega arith) left L.colour0 in
            let a = (crosses-once ts ls sph whole R u i z h vertex_below).1 in
            let b = (crosses-once ts ls sph whole R u (tip ts left) z h (sph.vertex (next left) (next-below (length ts / 3) left left_below))).1 in
            a ∙ rw (sym L.from) (on ∙ ap (λ (x : ℕ). crossed_by left + x) (sym b))

        pub onward_right : unit0 n ts ls u i ≡ crossed_by right + unit0 n ts ls u (org ts right)
        onward_right =
            let W = walk ts ls (length ts / 3) in
            let on = meets-onward sph R (named ts) W (walking ts ls sph whole R) (λ c j. path ts ls c n j) (pathing ts ls sph whole R) u z h 1 (omega arith)
            (opp ts right) L.colour1 in
            let a = (crosses-once ts ls sph whole R u i z h vertex_below).0 in
            let b = (crosses-once ts ls sph whole R u (org ts right) z h (sph.vertex right L.below)).0 in
            let from : org ts (opp ts right) ≡ i = sph.reverses right L.below ∙ L.to in
            let to : org ts (next (opp ts right)) ≡ org ts right = tip-opp sph right L.below in
            let side : crossed_by (opp ts right) ≡ crossed_by right = hits-side sph R (named ts) (W u) right L.below in
            a ∙ rw (from, to, side) at on ∙ ap (λ (x : ℕ). crossed_by right + x) (sym b)

  -- ---- the corners of inner triangles at v0 and v1

  module _ (d : ℕ) (b : d < 3 * (length ts / 3)) (z : 0 < tri d) where
    inner_below : tri d < length ts / 3
    inner_below = tri-below (length ts / 3) d b

    itself : same? (tri d) (tri d) ≡ 1
    itself = ap bit (eq-eqb (tri d) (tri d) refl)

    -- at v1 the label is not 0, at v0 it is not 1
    pub zero_not-last : label ls d ≡ 0 → org ts d ≢ outer ts 1
    zero_not-last e q =
        let t = tri d in
        let c = at ts ls sph whole R t z inner_below in
        let l = apex-labels sph R (named ts) c.two in
        let i : d ≡ next c.g = label-once sph R (named ts) d (next c.g) b z (sym (tri-next c.g ∙ c.tri_is)) (e ∙ sym l.0) in
        let v : vertex_at ts ls t 0 ≡ outer ts 1 = ap (org ts) (c.corner0 ∙ sym i) ∙ q in
        let m = U.most1 t t 0 z inner_below z inner_below (omega arith) (λ p. omega (arith, p)) in
        let one = U.inside t (vertex_at ts ls t 1) z inner_below (U.below t 1 z inner_below (omega arith)) in
        omega (arith, m, one, itself, ap (λ (x : ℕ). unit1 n ts ls t x) v, (U.rim1 t z inner_below).1)

    pub one-not-first : label ls d ≡ 1 → org ts d ≢ outer ts 0
    one-not-first e q =
        let t = tri d in
        let c = at ts ls sph whole R t z inner_below in
        let l = apex-labels sph R (named ts) c.two in
        let i : d ≡ prev c.g = label-once sph R (named ts) d (prev c.g) b z (sym (tri-prev c.g ∙ c.tri_is)) (e ∙ sym l.1) in
        let v : vertex_at ts ls t 1 ≡ outer ts 0 = ap (org ts) (c.corner1 ∙ sym i) ∙ q in
        let m = U.most0 t t 1 z inner_below z inner_below (omega arith) (omega arith) in
        let one = U.inside t (vertex_at ts ls t 0) z inner_below (U.below t 0 z inner_below (omega arith)) in
        omega (arith, m, one, itself, ap (λ (x : ℕ). unit0 n ts ls t x) v, (U.rim0 t z inner_below).0)

  -- so no side of colour 0 points to v1, and none of colour 1 to v0
  zero_points : (d : ℕ) → Points (length ts / 3) (org ts) (opp ts) (label ls) (outer ts) 0 d → org ts (next d) ≢ outer ts 1
  zero_points d (along r q) e = let o = v_once sph R (named ts) 0 1 (omega arith) (omega arith) (sym q ∙ e) in omega (arith, o)
  zero_points d (inside i p q) e =
      zero_not-last (next d) (next-below (length ts / 3) d i.below) (omega (arith, tri-next d, i.this)) p e

  one-points : (d : ℕ) → Points (length ts / 3) (org ts) (opp ts) (label ls) (outer ts) 1 d → org ts (next d) ≢ outer ts 0
  one-points d (along r q) e = let o = v_once sph R (named ts) 1 0 (omega arith) (omega arith) (sym q ∙ e) in omega (arith, o)
  one-points d (inside i p q) e =
      one-not-first (next d) (next-below (length ts / 3) d i.below) (omega (arith, tri-next d, i.this)) p e

  -- and the way out of a triangle with the corner g of label 2 is no dart of a vertex that leaves
  module _ (g : ℕ) (a : Apex (length ts / 3) (label ls) g) where
    pub way_not-left : (e : ℕ) → Points (length ts / 3) (org ts) (opp ts) (label ls) (outer ts) 0 e → next g ≢ e
    way_not-left e (inside i p q) f = omega (arith, p, ap (label ls) (sym (next-next g) ∙ ap next f), (apex-labels sph R (named ts) a).1)
    way_not-left e (along r q) f =
        one-not-first (prev g) (prev-below (length ts / 3) g a.below) (omega (arith, tri-prev g, a.inner)) (apex-labels sph R (named ts) a).1
        (ap (org ts) (sym (next-next g) ∙ ap next f) ∙ q)

    pub way_not_right : (e : ℕ) → e < 3 * (length ts / 3) → Points (length ts / 3) (org ts) (opp ts) (label ls) (outer ts) 1 (opp ts e) → next g ≢ e
    way_not_right e h (inside i p q) f =
        omega (arith, q, ap (label ls) (sph.twice e h), ap (label ls) f, (apex-labels sph R (named ts) a).0)
    way_not_right e h (along r q) f =
        zero_not-last (next g) (next-below (length ts / 3) g a.below) (omega (arith, tri-next g, a.inner)) (apex-labels sph R (named ts) a).0
        (ap (org ts) f ∙ sym (tip-opp sph e h) ∙ q)

  -- ---- the parents in tables that tell of the mesh

  module _ (T : Peeling) (D : Describes ts ls T) (stored : Stored n (length ts / 3) (org ts) (opp ts) T 0 R.trace) (k : ℕ) (h : k < n - 2) where
    leaves : RemovedVertex n (length ts / 3) (org ts) (opp ts) (label ls) (outer ts) (removed_at T) (T.left (removed_at T k)) (T.right (removed_at T k)) k
        (removed_at T k)
    leaves = leaves_at sph R (named ts) T stored k h

    pub left_in : T.left (removed_at T k) < 3 * (length ts / 3)
    left_in = points-below sph R (named ts) leaves.colour0

    pub right_in : T.right (removed_at T k) < 3 * (length ts / 3)
    right_in = leaves.below

    pub up0_is : up0 T k ≡ tip ts (T.left (removed_at T k))
    unfolding tip
    up0_is = D.origins (next (T.left (removed_at T k))) (omega (arith, next-below (length ts / 3) (T.left (removed_at T k)) left_in, whole))

    pub up1_is : up1 T k ≡ org ts (T.right (removed_at T k))
    up1_is = D.origins (T.right (removed_at T k)) (omega (arith, right_in, whole))

    -- they leave later or stay
    pub later0 : From n (outer ts) (removed_at T) (suc k) (up0 T k)
    unfolding tip
    later0 = subst (From n (outer ts) (removed_at T) (suc k)) (sym up0_is) leaves.later

    pub later1 : From n (outer ts) (removed_at T) (suc k) (up1 T k)
    later1 = subst (From n (outer ts) (removed_at T) (suc k)) (sym up1_is) leaves.later'

    -- No vertex's path of colour 0 goes on to v1, and none of colour 1 to v0.
    pub left-not-last : up0 T k ≢ outer ts 1
    unfolding tip
    left-not-last e = zero_points (T.left (removed_at T k)) leaves.colour0 (sym up0_is ∙ e)

    pub right_not-first : up1 T k ≢ outer ts 0
    right_not-first e =
        one-points (opp ts (T.right (removed_at T k))) leaves.colour1 (tip-opp sph (T.right (removed_at T k)) right_in ∙ sym up1_is ∙ e)
