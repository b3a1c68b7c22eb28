-- A mesh whose words are packed into scratch for repair: they tell what is bad and by how much it is to be raised, and where the walks go. Assumes nothing.
use Rattle.std.specs.Prelude.{ℕ, ◌+◌, ◌-◌, ◌*◌, ◌/◌, ◌≤◌, ◌<◌, ◌≡◌, refl, List, eqb, ℤ, nat_abs}
use Rattle.std.proofs.Math.Path.{ap}
use Rattle.std.proofs.Common.{◌∙◌, arith, le-ltb, eq-eqb, ne_eqb}
use Rattle.std.proofs.Math.Decide.{ℕ_discrete, dec_lt}
use Rattle.std.proofs.Math.ListN.{length, get_or-eq_default}
use Rattle.definitions.specs.Lists.{total, total_abs}
use Rattle.definitions.specs.Mesh.{triangles_length, weights_length, org, opp}
use Rattle.definitions.specs.Labels.{outer, label}
use Rattle.definitions.specs.Forward.{forward}
use Rattle.definitions.specs.Repair.{limit, bad, raise}
use Rattle.definitions.specs.Refusals.{row9}
use Rattle.theory_sphere.specs.Sphere.{Sphere}
use Rattle.theory_realizer.specs.Realizer.{Realizer}
use Rattle.theory_realizer.specs.Units.{Units, bit, unit0, unit1, vertex_at}
use Rattle.theory_crossings.specs.UnitMaps.{units}
use Rattle.theory_repair.specs.Coordinates.{coordinates_total}
use Rattle.theory_repair.specs.Bounds.{row10-forward}
use Rattle.theory_repair.specs.AllWalks.{beyond, walk_triangles}
use Rattle.theory_repair.specs.RegionBorders.{beyond-below}
use Rattle.scratch_tables.specs.Tables.{tables_of}
use Rattle.scratch_tables.specs.Fields.{field0, field1, field2}
use Rattle.labels_tables.specs.Peeling.{Peeling, peeling}
use Rattle.labels_tables.specs.LabelledTables.{Stored}
use Rattle.repair_area.specs.Areas.{Agree, raise_small}
use Rattle.repair_model.specs.Corners.{Describes}
use Rattle.repair_model.specs.PreorderWords.{Preordered}
use Rattle.repair_model.specs.Update.{times_moved, times_moved-1, times_moved-1-last, times_moved-2, times_moved-2-first}
use Rattle.repair_model.specs.Raise.{Drawn}
use Rattle.repair_model.specs.Search.{bad_at, raise_at, next_on, walk_on, other_walks_are, next_is, corners_are, bad_is, raise_is}

pub record Ready (n : ℕ) (ts ls : List ℕ) (s : List ℤ) : Type 0 where
  pub most : n ≤ 4096
  pub size : length ts ≡ triangles_length n
  pub sphere : Sphere n (length ts / 3) (org ts) (opp ts)
  pub realizer : Realizer n (length ts / 3) (org ts) (opp ts) (label ls) (outer ts)
  -- the tables of the labels stage; v0 and v1, which did not leave, have the outer triangle's dart between them
  pub tables : Peeling
  pub describes : Describes ts ls tables
  pub stored : Stored n (length ts / 3) (org ts) (opp ts) tables 0 realizer.trace
  pub first : tables.right (outer ts 0) ≡ 2
  pub last : tables.left (outer ts 1) ≡ 2
  -- what repair has made of them
  pub preordered : Preordered n tables (tables_of s)

module _ (n : ℕ) (ts ls : List ℕ) (s : List ℤ) (Y : Ready n ts ls s) where
  -- every corner's vertex, and the 0 that stands for a corner past the end, is below n
  pub org_low : (d : ℕ) → org ts d < n
  unfolding org
  org_low d =
      elim (dec_lt d (length ts)) [
        | yes h ↦ Y.sphere.vertex d (omega (arith, Y.size))
        | no h ↦ rw (get_or-eq_default ts 0 {n = d} (omega (arith, h))) (omega (arith, Y.sphere.least))
      ]

  -- the outer triangle's vertices, as scratch has them
  pub rim_is : (d : ℕ) → d < 3 → (peeling s).origin d ≡ org ts d
  rim_is d h = Y.preordered.rim d h ∙ Y.describes.origins d (omega (arith, Y.size, Y.sphere.least))

  -- ---- walks

  module _ (c : ℕ) (b : c < 3) where
    next-beyond : (u : ℕ) → 0 < u → u < length ts / 3 → next_on (tables_of s) c u ≡ beyond ts ls c u
    next-beyond u p q =
        next_is n ts ls Y.tables (tables_of s) Y.most Y.size Y.sphere Y.realizer Y.describes Y.preordered u p
        (omega (arith, Y.size)) c b

    stays_in : (u : ℕ) → 0 < u → u < length ts / 3 → beyond ts ls c u < length ts / 3
    stays_in u p q = beyond-below ts ls Y.sphere Y.size Y.realizer c u b p q

    pub walk_on_is : (t : ℕ) → t < 2 * n - 4 → walk_on (tables_of s) c (2 * n - 4) t ≡ walk_triangles ts ls c (length ts / 3) t
    walk_on_is t k =
        let e : length ts / 3 ≡ 2 * n - 4 = omega (arith, Y.size) in
        rw e (other_walks_are ts ls (tables_of s) c next-beyond stays_in (2 * n - 4) t (omega (arith, Y.size)))

    pub next_low : (t : ℕ) → t < 2 * n - 4 → next_on (tables_of s) c t < 2 * n - 4
    unfolding next_on
    next_low t k =
        elim (ℕ_discrete t 0) [
          | yes z ↦ rw (eq-eqb t 0 z) (omega (arith, Y.sphere.least))
          | no z ↦
              let l : t < length ts / 3 = omega (arith, Y.size) in
              omega (arith, next-beyond t (omega arith) l, stays_in t (omega arith) l, Y.size)
        ]

  -- ---- triangle t, from what is drawn of the weights

  pub corners_low : (t : ℕ) → 0 < t → t < 2 * n - 4 → let w = (tables_of s).op (3 * t + 1) in (field0 w < n) × (field1 w < n) × (field2 w < n)
  corners_low t h k =
      let c = corners_are n ts ls Y.tables (tables_of s) Y.most Y.size Y.sphere Y.realizer Y.describes Y.preordered t h k in
      rw (c.0, c.1, c.2) (org_low _, org_low _, org_low _)

  module _ (ws bs : List ℤ) (D : Drawn n ts ls ws bs) (t : ℕ) (h : 0 < t) (k : t < 2 * n - 4) where
    agree : (a : ℕ) → a < 3 → Agree bs (forward n ts ls ws) (vertex_at ts ls t a)
    agree a q = record { first = D.same 0 (vertex_at ts ls t a) (omega arith) (org_low _); second = D.same 1 (vertex_at ts ls t a) (omega arith) (org_low _) }

    pub tells_bad : bad_at (tables_of s) bs t ≡ bad ts ls (forward n ts ls ws) t
    tells_bad =
        bad_is n ts ls Y.tables (tables_of s) Y.most Y.size Y.sphere Y.realizer Y.describes Y.preordered t h k bs
        (forward n ts ls ws) agree

    pub tells_raise : raise_at (tables_of s) bs t ≡ raise ts ls (forward n ts ls ws) t
    tells_raise =
        raise_is n ts ls Y.tables (tables_of s) Y.most Y.size Y.sphere Y.realizer Y.describes Y.preordered t h k bs
        (forward n ts ls ws) agree
        (total ws) (λ a q. coordinates_total n ts ls ws (vertex_at ts ls t a) (org_low _))

    pub raise_room : length ws ≡ weights_length n → total_abs ws ≤ limit → nat_abs (raise_at (tables_of s) bs t) ≤ 2 * limit + 1
    unfolding row9
    raise_room long light =
        rw tells_raise
        (raise_small ts ls (forward n ts ls ws) t
        (row10-forward n ts ls Y.size (units ts ls Y.sphere Y.size Y.realizer) ws long (le-ltb limit (total_abs ws) light)))

  -- ---- the raise of triangle t

  module _ (t : ℕ) (h : 0 < t) (k : t < 2 * n - 4) where
    inside : t < length ts / 3
    inside = omega (arith, Y.size)

    unit_maps : Units n ts ls
    unit_maps = units ts ls Y.sphere Y.size Y.realizer

    -- v0 and v1, which stand in no subtree, counted in, the walk comes by a vertex as often as its coordinate has the weight of t
    pub by_first : (i : ℕ) → i < n → times_moved 2 (λ j. (tables_of s).mark (2 * j)) (tables_of s).op (2 * n - 4) t i
        + bit (eqb i ((peeling s).origin 0)) ≡ unit0 n ts ls t i
    unfolding outer
    by_first i l =
        rw (rim_is 0 (omega arith))
        (elim (ℕ_discrete i (org ts 0)) [
          | yes e ↦
              let none = times_moved-2-first ts ls Y.sphere Y.size Y.realizer Y.tables Y.describes Y.stored Y.last
              Y.first Y.most (tables_of s) Y.preordered t h k in
              rw e (omega (arith, none, ap bit (eq-eqb (org ts 0) (org ts 0) refl), (unit_maps.rim0 t h inside).0))
          | no e ↦
              let all = times_moved-2 ts ls Y.sphere Y.size Y.realizer Y.tables Y.describes Y.stored Y.last Y.first
              Y.most (tables_of s) Y.preordered t h k i l e in
              omega (arith, all, ap bit (ne_eqb i (org ts 0) e))
        ])

    pub by_second : (i : ℕ) → i < n → times_moved 1 (tables_of s).count (tables_of s).op (2 * n - 4) t i + bit (eqb i ((peeling s).origin 2))
        ≡ unit1 n ts ls t i
    unfolding outer
    by_second i l =
        rw (rim_is 2 (omega arith))
        (elim (ℕ_discrete i (org ts 2)) [
          | yes e ↦
              let none = times_moved-1-last ts ls Y.sphere Y.size Y.realizer Y.tables Y.describes Y.stored Y.last
              Y.first Y.most (tables_of s) Y.preordered t h k in
              rw e (omega (arith, none, ap bit (eq-eqb (org ts 2) (org ts 2) refl), (unit_maps.rim1 t h inside).1))
          | no e ↦
              let all = times_moved-1 ts ls Y.sphere Y.size Y.realizer Y.tables Y.describes Y.stored Y.last Y.first
              Y.most (tables_of s) Y.preordered t h k i l e in
              omega (arith, all, ap bit (ne_eqb i (org ts 2) e))
        ])
